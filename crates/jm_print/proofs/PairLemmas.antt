-- The pairs of a binding, printed parameter by parameter.
use Rattle.std.proofs.Common.{◌≡◌, ◌≢◌, ℕ, zero, suc, ◌+◌, ◌<◌, ◌≤◌, Bool, true, false, List, [], ◌∷◌, ◌++◌, length, get_or, drop, take, refl, sym, ◌∙◌, ap, subst, arith, append_assoc, append-nil}
use Rattle.std.specs.Prelude.{Option, Some, None, codes, if◌then◌else◌, option_and_then}
use Rattle.std.specs.List.{flat_map}
use Rattle.std.proofs.lemmas.List.{drop_more, take_more}
use Rattle.std.proofs.lemmas.Option.{slice_get-get_or}
use Rattle.std.proofs.lemmas.Grind.{flat_map-append}
use Rattle.jm_model.specs.declared.binding.Binding.{Binding}
use Rattle.jm_model.specs.Bindings.{object_at, mask_of}
use Rattle.jm_handler.specs.Renderings.{AreNamed}
use Rattle.jm_print.specs.Lexicons.{Lexicon}
use Rattle.jm_print.specs.Texts.{pair_text, later_pairs_text, pairs_text, HasNamesFrom}

none_some : (o : ℕ) → None ≡ Some o → ⊥
none_some o is = cc

-- what is still to be printed of the parameters from p on
abbrev pub rest_text : Bool → Lexicon → ℕ → Binding → List ℕ
rest_text first l p b = if first then pairs_text l p b else later_pairs_text l p b

-- the object at a place is the place itself
at_place : (b : Binding) (p : ℕ) (x : Option ℕ) → p < length b → object_at b p ≡ x → get_or b p None ≡ x
at_place b p x h at = sym (ap (option_and_then (λ y. y)) (slice_get-get_or b p None h)) ∙ at

next_place : (b : Binding) (p : ℕ) (x : Option ℕ) → p < length b → object_at b p ≡ x → drop p b ≡ x ∷ drop (p + 1) b
next_place b p x h at = drop_more b p None h ∙ ap (λ y. y ∷ drop (p + 1) b) (at_place b p x h at)

pub rest_text-none : (first : Bool) (l : Lexicon) (p : ℕ) (b : Binding) → p < length b → object_at b p ≡ None → rest_text first l p (drop p b) ≡ rest_text first l (p + 1) (drop (p + 1) b)
rest_text-none true l p b h at = ap (pairs_text l p) (next_place b p None h at)
rest_text-none false l p b h at = ap (later_pairs_text l p) (next_place b p None h at)

pub rest_text-some : (first : Bool) (l : Lexicon) (p o : ℕ) (b : Binding) → p < length b → object_at b p ≡ Some o
    → rest_text first l p (drop p b) ≡ (if first then [] else codes ",") ++ pair_text l p o ++ rest_text false l (p + 1) (drop (p + 1) b)
rest_text-some true l p o b h at = ap (pairs_text l p) (next_place b p (Some o) h at)
rest_text-some false l p o b h at = ap (later_pairs_text l p) (next_place b p (Some o) h at)

pub names-next : (l : Lexicon) (p : ℕ) (b : Binding) → p < length b → HasNamesFrom l p (drop p b) → HasNamesFrom l (p + 1) (drop (p + 1) b)
names-next l p b h names = go (get_or b p None) (subst (HasNamesFrom l p) (drop_more b p None h) names)
  where
    go : (x : Option ℕ) → HasNamesFrom l p (x ∷ drop (p + 1) b) → HasNamesFrom l (p + 1) (drop (p + 1) b)
    go None n = n
    go (Some o) n = n.2

pub names-here : (l : Lexicon) (p o : ℕ) (b : Binding) → p < length b → object_at b p ≡ Some o → HasNamesFrom l p (drop p b) → (p < length l.parameters) × (o < length l.objects)
names-here l p o b h at names = let n = subst (HasNamesFrom l p) (next_place b p (Some o) h at) names in (n.0, n.1)

-- each object that is bound has a name
pub names-bound : (l : Lexicon) (p : ℕ) (b : Binding) → HasNamesFrom l p b → AreNamed l.objects b
names-bound l p [] names q o is = absurd (none_some o is)
names-bound l p (None ∷ b) names zero o is = absurd (none_some o is)
names-bound l p (None ∷ b) names (suc q) o is = names-bound l (p + 1) b names q o is
names-bound l p (Some x ∷ b) names zero o is = let same : x ≡ o = cc in omega (arith, names.1)
names-bound l p (Some x ∷ b) names (suc q) o is = names-bound l (p + 1) b names.2 q o is

-- a binding of no parameter prints a dash
pub unbound_text : (l : Lexicon) (p : ℕ) (b : Binding) → mask_of b ≡ 0 → pairs_text l p b ≡ codes "-"
unbound_text l p [] none = refl
unbound_text l p (None ∷ b) none = unbound_text l (p + 1) b (omega arith)
unbound_text l p (Some o ∷ b) none = absurd (omega arith)

-- one more item of a text that is written item by item
pub flat_map-more : {X : Type 0} (f : X → List ℕ) (xs : List X) (i : ℕ) (x : X) → i < length xs → get_or xs i x ≡ x → flat_map f (take (i + 1) xs) ≡ flat_map f (take i xs) ++ f x
flat_map-more f xs i x h at =
    ap (flat_map f) (take_more xs i x h) ∙ flat_map-append f (take i xs) (get_or xs i x ∷ [])
    ∙ ap (λ y. flat_map f (take i xs) ++ (f y ++ [])) at ∙ ap (λ t. flat_map f (take i xs) ++ t) (append-nil (f x))

-- where a place isn't bound, the parameters past it are those from it on
pub mask-none : (p : ℕ) (b : Binding) → p < length b → object_at b p ≡ None → mask_of (drop p b) ≢ 0 → mask_of (drop (p + 1) b) ≢ 0
mask-none p b h at some none = some (ap mask_of (next_place b p None h at) ∙ omega (arith, none))

-- a pair was written, in front of what is still to come
pub written_pair : (lead pair page rest all : List ℕ) → page ++ (lead ++ pair ++ rest) ≡ all → page ++ lead ++ pair ++ rest ≡ all
written_pair lead pair page rest all h = simp append_assoc (simp append_assoc at h)

-- no parameter past those that have names is bound
past_names : (l : Lexicon) (p : ℕ) (b : Binding) → length l.parameters ≤ p → HasNamesFrom l p b → mask_of b ≡ 0
past_names l p [] past names = refl
past_names l p (None ∷ b) past names = omega (arith, past_names l (p + 1) b (omega (arith, past)) names)
past_names l p (Some o ∷ b) past names = absurd (omega (arith, past, names.0))

none_later : (l : Lexicon) (p : ℕ) (b : Binding) → length l.parameters ≤ p → HasNamesFrom l p b → later_pairs_text l p b ≡ []
none_later l p [] past names = refl
none_later l p (None ∷ b) past names = none_later l (p + 1) b (omega (arith, past)) names
none_later l p (Some o ∷ b) past names = absurd (omega (arith, past, names.0))

-- nothing is to come after the last parameter, if some pair was written
pub at_end : (first : Bool) (l : Lexicon) (p : ℕ) (b : Binding) (page all : List ℕ) → length l.parameters ≤ p → HasNamesFrom l p (drop p b) → (first ≡ true → mask_of (drop p b) ≢ 0) → page ++ rest_text first l p (drop p b) ≡ all → page ≡ all
at_end true l p b page all past names some so_far = absurd (some refl (past_names l p (drop p b) past names))
at_end false l p b page all past names some so_far = sym (append-nil page) ∙ ap (λ t. page ++ t) (sym (none_later l p (drop p b) past names)) ∙ so_far
