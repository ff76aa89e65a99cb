-- The pairs of a binding that is told by a mask and objects, printed parameter by parameter.
use Rattle.std.proofs.Common.{◌≡◌, ◌≢◌, ℕ, zero, suc, ◌+◌, ◌-◌, ◌/◌, ◌%◌, ◌<◌, ◌≤◌, Bool, true, false, List, [], ◌++◌, length, get_or, drop, refl, sym, ◌∙◌, ap, subst, arith, append-nil}
use Rattle.std.specs.Prelude.{None, codes, count_ones, replicate, if◌then◌else◌}
use mathlib.Core.Bool.{true≢false}
use Rattle.jm_model.specs.declared.binding.Binding.{Binding}
use Rattle.jm_history.specs.Rows.{placed}
use Rattle.jm_history.proofs.PlacingLemmas.{IsPlacing, placing_start, placing_within, placing_there, placing_some, placing_none, placing_rest, placing_set, placing_skip, placed_none}
use Rattle.jm_print.specs.Lexicons.{Lexicon}
use Rattle.jm_print.specs.Texts.{pair_text, later_pairs_text, pairs_text, binding_text, HasNamesFrom}
use Rattle.jm_print.proofs.PairLemmas.{rest_text, rest_text-none, rest_text-some, names-next, names-here, written_pair}

-- the pairs of the parameters below p are written, and those of the bits that are left are to come
pub record IsPrinting (l : Lexicon) (os : List ℕ) (w : Binding) (first : Bool) (rest next p : ℕ) (page all : List ℕ) : Type 0 where
  pub bound_so_far : Binding
  pub placing : IsPlacing os w bound_so_far rest next p
  pub names : HasNamesFrom l p (drop p w)
  pub some : first ≡ true → rest ≢ 0
  pub so_far : page ++ rest_text first l p (drop p w) ≡ all
  pub within : p ≤ 8
  pub there : next ≤ length os

pub printing_start : (l : Lexicon) (os : List ℕ) (mask : ℕ) (page : List ℕ) → count_ones mask ≤ length os → mask < 256 → mask ≢ 0 → HasNamesFrom l 0 (placed mask os)
    → IsPrinting l os (placed mask os) true mask 0 0 page (page ++ binding_text l (placed mask os))
printing_start l os mask page enough small some names = record {
  bound_so_far = replicate 8 None;
  placing = placing_start os mask 0 (omega arith) small;
  names = names;
  some = λ _. some;
  so_far = refl;
  within = omega arith;
  there = omega arith;
}

pub printing_here : (l : Lexicon) (os : List ℕ) (w : Binding) (first : Bool) (rest next p : ℕ) (page all : List ℕ) → IsPrinting l os w first rest next p page all → rest ≢ 0 → rest % 2 ≡ 1
    → (p < length l.parameters) × (get_or os next 0 < length l.objects)
printing_here l os w first rest next p page all h some odd =
    let inside = placing_within os w h.bound_so_far rest next p h.placing some in
    names-here l p (get_or os next 0) w (omega (arith, inside, h.placing.eight)) (placing_some os w h.bound_so_far rest next p h.placing inside odd) h.names

pub printing_pair : (l : Lexicon) (os : List ℕ) (w : Binding) (first : Bool) (rest next p : ℕ) (page after all : List ℕ) → IsPrinting l os w first rest next p page all → rest ≢ 0 → rest % 2 ≡ 1
    → after ≡ page ++ (if first then [] else codes ",") ++ pair_text l p (get_or os next 0)
    → IsPrinting l os w false (rest / 2) (next + 1) (p + 1) after all
printing_pair l os w first rest next p page after all h some odd written =
    let o = get_or os next 0 in
    let inside = placing_within os w h.bound_so_far rest next p h.placing some in
    let within : p < length w = omega (arith, inside, h.placing.eight) in
    let lead : List ℕ = if first then [] else codes "," in
    let pair = pair_text l p o in
    let later = rest_text false l (p + 1) (drop (p + 1) w) in
    let bound = placing_some os w h.bound_so_far rest next p h.placing inside odd in
    let before : page ++ (lead ++ pair ++ later) ≡ all = ap (λ t. page ++ t) (sym (rest_text-some first l p o w within bound)) ∙ h.so_far in
    let placing = placing_set os w h.bound_so_far rest next p h.placing inside odd in
    record {
      bound_so_far = _;
      placing = placing;
      names = names-next l p w within h.names;
      some = λ is. absurd (true≢false (sym is));
      so_far = ap (λ t. t ++ later) written ∙ written_pair lead pair page later all before;
      within = omega (arith, inside);
      there = omega (arith, placing_there os w h.bound_so_far rest next p h.placing odd);
    }

pub printing_skip : (l : Lexicon) (os : List ℕ) (w : Binding) (first : Bool) (rest next p : ℕ) (page all : List ℕ) → IsPrinting l os w first rest next p page all → rest ≢ 0 → rest % 2 ≢ 1
    → IsPrinting l os w first (rest / 2) next (p + 1) page all
printing_skip l os w first rest next p page all h some even =
    let inside = placing_within os w h.bound_so_far rest next p h.placing some in
    let within : p < length w = omega (arith, inside, h.placing.eight) in
    let unbound = placing_none os w h.bound_so_far rest next p h.placing inside even in
    record {
      bound_so_far = h.bound_so_far;
      placing = placing_skip os w h.bound_so_far rest next p h.placing inside even;
      names = names-next l p w within h.names;
      some = λ _ none. some (omega (arith, none, even));
      so_far = ap (λ t. page ++ t) (sym (rest_text-none first l p w within unbound)) ∙ h.so_far;
      within = omega (arith, inside);
      there = h.there;
    }

-- no pair is to come of parameters that aren't bound
later_none : (l : Lexicon) (n p : ℕ) → later_pairs_text l p (replicate n None) ≡ []
later_none l zero p = refl
later_none l (suc n) p = later_none l n (p + 1)

pub printing_end : (l : Lexicon) (os : List ℕ) (w : Binding) (first : Bool) (rest next p : ℕ) (page all : List ℕ) → IsPrinting l os w first rest next p page all → rest ≡ 0 → page ≡ all
printing_end l os w true rest next p page all h none = absurd (h.some refl none)
printing_end l os w false rest next p page all h none =
    let nothing : later_pairs_text l p (drop p w) ≡ [] = ap (later_pairs_text l p) (placing_rest os w h.bound_so_far rest next p h.placing none) ∙ later_none l (8 - p) p in
    sym (append-nil page) ∙ ap (λ t. page ++ t) (sym nothing) ∙ h.so_far

-- where no bit is set, a dash is written
pairs_none : (l : Lexicon) (n p : ℕ) → pairs_text l p (replicate n None) ≡ codes "-"
pairs_none l zero p = refl
pairs_none l (suc n) p = pairs_none l n (p + 1)

pub placed_dash : (l : Lexicon) (os : List ℕ) (mask : ℕ) → mask ≡ 0 → binding_text l (placed mask os) ≡ codes "-"
placed_dash l os mask none = ap (λ (m : ℕ). binding_text l (placed m os)) none ∙ ap (pairs_text l 0) (placed_none 8 os) ∙ pairs_none l 8 0

pub printing_same : (l : Lexicon) (os : List ℕ) (w : Binding) (first other : Bool) (rest next following p : ℕ) (page after all : List ℕ) → other ≡ first → following ≡ next → after ≡ page → IsPrinting l os w first rest next p page all
    → IsPrinting l os w other rest following p after all
printing_same l os w first other rest next following p page after all one two three h =
    subst (λ (v : Bool). IsPrinting l os w v rest following p after all) (sym one)
    (subst (λ (n : ℕ). IsPrinting l os w first rest n p after all) (sym two)
    (subst (λ (t : List ℕ). IsPrinting l os w first rest next p t all) (sym three) h))
