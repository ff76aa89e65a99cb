-- The text of a binding tells the binding.
use Rattle.std.proofs.Common.{◌≡◌, ◌≢◌, ℕ, zero, suc, ◌+◌, ◌<◌, ◌≤◌, List, [], ◌∷◌, ◌++◌, length, refl, sym, ◌∙◌, ap, inl, inr, arith, append_assoc}
use Rattle.std.specs.Prelude.{Some, None, ◌⊎◌, slice_get}
use Rattle.jm_model.specs.declared.binding.Binding.{Binding}
use Rattle.jm_print.specs.Lexicons.{Lexicon, name_of}
use Rattle.jm_print.specs.Texts.{pair_text, later_pairs_text, pairs_text, HasNamesFrom}
use Rattle.jm_print.specs.Told.{IsName, AreNames, HasNames, BindsSome}
use Rattle.jm_print.proofs.Cutting.{Lacks, cut, Lacks-append, name-lacks_comma, name-lacks_equals}

-- ---- names
name-at : (names : List (List ℕ)) (k : ℕ) → k < length names → slice_get names k ≡ Some (name_of names k)
name-at [] k h = absurd (omega arith)
name-at (x ∷ names) zero h = refl
name-at (x ∷ names) (suc k) h = name-at names k (omega arith)

pub name-plain : (names : List (List ℕ)) (k : ℕ) → AreNames names → k < length names → IsName (name_of names k)
name-plain names k h within = h.each k (name_of names k) (name-at names k within)

pub name-same : (names : List (List ℕ)) (j k : ℕ) → AreNames names → j < length names → k < length names → name_of names j ≡ name_of names k → j ≡ k
name-same names j k h here there same = h.distinct j k (name_of names j) (name-at names j here) (name-at names k there ∙ ap (λ n. Some n) (sym same))

-- ---- pairs
pub pair_text-cons : (l : Lexicon) (p o : ℕ) (rest : List ℕ) → pair_text l p o ++ rest ≡ name_of l.parameters p ++ 61 ∷ (name_of l.objects o ++ rest)
pair_text-cons l p o rest = simp append_assoc

-- what may stand after a pair
abbrev pub IsTail : List ℕ → Type 0
IsTail [] = Unit {0}
IsTail (c ∷ cs) = c ≡ 44

cut_tail : (a b r q : List ℕ) → Lacks 44 a → Lacks 44 b → IsTail r → IsTail q → a ++ r ≡ b ++ q → (a ≡ b) × (r ≡ q)
cut_tail [] [] r q h k i j e = (refl, e)
cut_tail [] (y ∷ b) [] q h k i j e = absurd cc
cut_tail [] (y ∷ b) (c ∷ r) q h k i j e = absurd (k.0 (let same : c ≡ y = cc in sym same ∙ i))
cut_tail (x ∷ a) [] r [] h k i j e = absurd cc
cut_tail (x ∷ a) [] r (c ∷ q) h k i j e = absurd (h.0 (let same : x ≡ c = cc in same ∙ j))
cut_tail (x ∷ a) (y ∷ b) r q h k i j e =
    let head : x ≡ y = cc in
    let tail : a ++ r ≡ b ++ q = cc in
    let rest = cut_tail a b r q h.1 k.1 i j tail in
    ((λ m. head m ∷ rest.0 m), rest.1)

later-tail : (l : Lexicon) (p : ℕ) (b : Binding) → IsTail (later_pairs_text l p b)
later-tail l p [] = tt
later-tail l p (None ∷ b) = later-tail l (p + 1) b
later-tail l p (Some o ∷ b) = refl

-- the first pair of a binding's parameters from p on
pub record BeginsWithPair (l : Lexicon) (p : ℕ) (text : List ℕ) : Type 0 where
  pub parameter : ℕ
  pub rest : List ℕ
  pub past : p ≤ parameter
  pub named : parameter < length l.parameters
  pub text_is : text ≡ name_of l.parameters parameter ++ 61 ∷ rest

further : (l : Lexicon) (p : ℕ) (text : List ℕ) → BeginsWithPair l (p + 1) text → BeginsWithPair l p text
further l p text h = record { parameter = h.parameter; rest = h.rest; past = omega (arith, h.past); named = h.named; text_is = h.text_is }

-- later pairs: none, or a comma and a pair
later_cases : (l : Lexicon) (p : ℕ) (b : Binding) → HasNamesFrom l p b → (later_pairs_text l p b ≡ []) ⊎ ((text : List ℕ) × (later_pairs_text l p b ≡ 44 ∷ text) × BeginsWithPair l p text)
later_cases l p [] names = inl refl
later_cases l p (None ∷ b) names = elim (later_cases l (p + 1) b names) [ inl none ↦ inl none | inr some ↦ inr (some.0, some.1, further l p some.0 some.2) ]
later_cases l p (Some o ∷ b) names =
    let rest = later_pairs_text l (p + 1) b in
    inr (pair_text l p o ++ rest, refl, record { parameter = p; rest = name_of l.objects o ++ rest; past = omega arith; named = names.0; text_is = pair_text-cons l p o rest })

-- all pairs: a dash where none is bound, or a pair
pub pairs_cases : (l : Lexicon) (p : ℕ) (b : Binding) → HasNamesFrom l p b → ((pairs_text l p b ≡ 45 ∷ []) × (BindsSome b → ⊥)) ⊎ BeginsWithPair l p (pairs_text l p b)
pairs_cases l p [] names = inl (refl, (λ h. h))
pairs_cases l p (None ∷ b) names = elim (pairs_cases l (p + 1) b names) [ inl none ↦ inl none | inr some ↦ inr (further l p (pairs_text l (p + 1) b) some) ]
pairs_cases l p (Some o ∷ b) names =
    let rest = later_pairs_text l (p + 1) b in
    inr (record { parameter = p; rest = name_of l.objects o ++ rest; past = omega arith; named = names.0; text_is = pair_text-cons l p o rest })

-- two texts that begin with a pair begin with the same parameter
same_first : (l : Lexicon) (p q : ℕ) (s t : List ℕ) → HasNames l → p < length l.parameters → q < length l.parameters → name_of l.parameters p ++ 61 ∷ s ≡ name_of l.parameters q ++ 61 ∷ t → (p ≡ q) × (s ≡ t)
same_first l p q s t h here there same =
    let parts = cut 61 (name_of l.parameters p) (name_of l.parameters q) s t
    (name-lacks_equals (name_of l.parameters p) (name-plain l.parameters p h.parameters here))
    (name-lacks_equals (name_of l.parameters q) (name-plain l.parameters q h.parameters there)) same in
    (name-same l.parameters p q h.parameters here there parts.0, parts.1)

-- a pair and what stands after it
pair-same : (l : Lexicon) (p o q : ℕ) (r s : List ℕ) → HasNames l → p < length l.parameters → o < length l.objects → q < length l.objects → IsTail r → IsTail s
    → pair_text l p o ++ r ≡ pair_text l p q ++ s → (o ≡ q) × (r ≡ s)
pair-same l p o q r s h named one other i j same =
    let plain : name_of l.parameters p ++ 61 ∷ (name_of l.objects o ++ r) ≡ name_of l.parameters p ++ 61 ∷ (name_of l.objects q ++ s) =
    sym (pair_text-cons l p o r) ∙ same ∙ pair_text-cons l p q s in
    let objects = same_first l p p (name_of l.objects o ++ r) (name_of l.objects q ++ s) h named named plain in
    let parts = cut_tail (name_of l.objects o) (name_of l.objects q) r s
    (name-lacks_comma (name_of l.objects o) (name-plain l.objects o h.objects one))
    (name-lacks_comma (name_of l.objects q) (name-plain l.objects q h.objects other)) i j objects.1 in
    (name-same l.objects o q h.objects one other parts.0, parts.1)

-- a pair of a parameter past p isn't a pair of p
not_past : (l : Lexicon) (p o : ℕ) (text r : List ℕ) → HasNames l → p < length l.parameters → BeginsWithPair l (p + 1) text → text ≡ pair_text l p o ++ r → ⊥
not_past l p o text r h named begins same =
    let first = same_first l begins.parameter p begins.rest (name_of l.objects o ++ r) h begins.named named (sym begins.text_is ∙ same ∙ pair_text-cons l p o r) in
    absurd (omega (arith, begins.past, first.0))

later-same : (l : Lexicon) (p : ℕ) (b c : Binding) → HasNames l → HasNamesFrom l p b → HasNamesFrom l p c → length b ≡ length c → later_pairs_text l p b ≡ later_pairs_text l p c → b ≡ c
later-same l p [] [] h m n long same = refl
later-same l p [] (y ∷ c) h m n long same = absurd (omega arith)
later-same l p (x ∷ b) [] h m n long same = absurd (omega arith)
later-same l p (None ∷ b) (None ∷ c) h m n long same = ap (λ d. None ∷ d) (later-same l (p + 1) b c h m n (omega arith) same)
later-same l p (Some o ∷ b) (Some q ∷ c) h m n long same =
    let tails : pair_text l p o ++ later_pairs_text l (p + 1) b ≡ pair_text l p q ++ later_pairs_text l (p + 1) c = cc in
    let parts = pair-same l p o q (later_pairs_text l (p + 1) b) (later_pairs_text l (p + 1) c) h m.0 m.1 n.1 (later-tail l (p + 1) b) (later-tail l (p + 1) c) tails in
    let rest = later-same l (p + 1) b c h m.2 n.2 (omega arith) parts.1 in
    λ j. Some (parts.0 j) ∷ rest j
later-same l p (None ∷ b) (Some q ∷ c) h m n long same =
    elim (later_cases l (p + 1) b m) [
      | inl none ↦ absurd (let e : [] ≡ 44 ∷ (pair_text l p q ++ later_pairs_text l (p + 1) c) = sym none ∙ same in cc)
      | inr some ↦ absurd (not_past l p q some.0 (later_pairs_text l (p + 1) c) h n.0 some.2 (let e : 44 ∷ some.0 ≡ 44 ∷ (pair_text l p q ++ later_pairs_text l (p + 1) c) = sym some.1 ∙ same in cc))
    ]
later-same l p (Some o ∷ b) (None ∷ c) h m n long same =
    elim (later_cases l (p + 1) c n) [
      | inl none ↦ absurd (let e : [] ≡ 44 ∷ (pair_text l p o ++ later_pairs_text l (p + 1) b) = sym none ∙ sym same in cc)
      | inr some ↦ absurd (not_past l p o some.0 (later_pairs_text l (p + 1) b) h m.0 some.2 (let e : 44 ∷ some.0 ≡ 44 ∷ (pair_text l p o ++ later_pairs_text l (p + 1) b) = sym some.1 ∙ sym same in cc))
    ]

-- a dash is no `=`
other_byte : (c : ℕ) → c ≡ 45 → c ≡ 61 → ⊥
other_byte c dash equals = omega arith

-- a dash is no pair
no_dash : (name rest : List ℕ) → 45 ∷ [] ≡ name ++ 61 ∷ rest → ⊥
no_dash [] rest e = other_byte 45 refl (let i : 45 ≡ 61 = cc in i)
no_dash (c ∷ []) rest e = absurd (let i : [] ≡ 61 ∷ rest = cc in cc)
no_dash (c ∷ d ∷ name) rest e = absurd (let i : [] ≡ d ∷ (name ++ 61 ∷ rest) = cc in cc)

pub pairs-same : (l : Lexicon) (p : ℕ) (b c : Binding) → HasNames l → HasNamesFrom l p b → HasNamesFrom l p c → length b ≡ length c → pairs_text l p b ≡ pairs_text l p c → b ≡ c
pairs-same l p [] [] h m n long same = refl
pairs-same l p [] (y ∷ c) h m n long same = absurd (omega arith)
pairs-same l p (x ∷ b) [] h m n long same = absurd (omega arith)
pairs-same l p (None ∷ b) (None ∷ c) h m n long same = ap (λ d. None ∷ d) (pairs-same l (p + 1) b c h m n (omega arith) same)
pairs-same l p (Some o ∷ b) (Some q ∷ c) h m n long same =
    let parts = pair-same l p o q (later_pairs_text l (p + 1) b) (later_pairs_text l (p + 1) c) h m.0 m.1 n.1 (later-tail l (p + 1) b) (later-tail l (p + 1) c) same in
    let rest = later-same l (p + 1) b c h m.2 n.2 (omega arith) parts.1 in
    λ j. Some (parts.0 j) ∷ rest j
pairs-same l p (None ∷ b) (Some q ∷ c) h m n long same =
    elim (pairs_cases l (p + 1) b m) [
      | inl none ↦ absurd (no_dash (name_of l.parameters p) (name_of l.objects q ++ later_pairs_text l (p + 1) c) (sym none.0 ∙ same ∙ pair_text-cons l p q (later_pairs_text l (p + 1) c)))
      | inr some ↦ absurd (not_past l p q (pairs_text l (p + 1) b) (later_pairs_text l (p + 1) c) h n.0 some same)
    ]
pairs-same l p (Some o ∷ b) (None ∷ c) h m n long same =
    elim (pairs_cases l (p + 1) c n) [
      | inl none ↦ absurd (no_dash (name_of l.parameters p) (name_of l.objects o ++ later_pairs_text l (p + 1) b) (sym none.0 ∙ sym same ∙ pair_text-cons l p o (later_pairs_text l (p + 1) b)))
      | inr some ↦ absurd (not_past l p o (pairs_text l (p + 1) c) (later_pairs_text l (p + 1) b) h m.0 some (sym same))
    ]

-- ---- a binding's text and what it lacks
lacks_pair : (d : ℕ) (l : Lexicon) (p o : ℕ) → 61 ≢ d → Lacks d (name_of l.parameters p) → Lacks d (name_of l.objects o) → Lacks d (pair_text l p o)
lacks_pair d l p o other h k = Lacks-append d (name_of l.parameters p ++ 61 ∷ []) (name_of l.objects o) (Lacks-append d (name_of l.parameters p) (61 ∷ []) h (other, tt)) k

lacks_later : (d : ℕ) (l : Lexicon) (p : ℕ) (b : Binding) → 61 ≢ d → 44 ≢ d → ((name : List ℕ) → IsName name → Lacks d name) → HasNames l → HasNamesFrom l p b → Lacks d (later_pairs_text l p b)
lacks_later d l p [] e c lack h m = tt
lacks_later d l p (None ∷ b) e c lack h m = lacks_later d l (p + 1) b e c lack h m
lacks_later d l p (Some o ∷ b) e c lack h m =
    Lacks-append d (44 ∷ pair_text l p o) (later_pairs_text l (p + 1) b)
    (c, lacks_pair d l p o e (lack (name_of l.parameters p) (name-plain l.parameters p h.parameters m.0)) (lack (name_of l.objects o) (name-plain l.objects o h.objects m.1)))
    (lacks_later d l (p + 1) b e c lack h m.2)

pub lacks_pairs : (d : ℕ) (l : Lexicon) (p : ℕ) (b : Binding) → 61 ≢ d → 44 ≢ d → 45 ≢ d → ((name : List ℕ) → IsName name → Lacks d name) → HasNames l → HasNamesFrom l p b → Lacks d (pairs_text l p b)
lacks_pairs d l p [] e c dash lack h m = (dash, tt)
lacks_pairs d l p (None ∷ b) e c dash lack h m = lacks_pairs d l (p + 1) b e c dash lack h m
lacks_pairs d l p (Some o ∷ b) e c dash lack h m =
    Lacks-append d (pair_text l p o) (later_pairs_text l (p + 1) b)
    (lacks_pair d l p o e (lack (name_of l.parameters p) (name-plain l.parameters p h.parameters m.0)) (lack (name_of l.objects o) (name-plain l.objects o h.objects m.1)))
    (lacks_later d l (p + 1) b e c lack h m.2)

-- a text with a pair in it is no name
pub no_name : (a rest name : List ℕ) → Lacks 61 name → a ++ 61 ∷ rest ≡ name → ⊥
no_name [] rest [] h e = absurd cc
no_name [] rest (c ∷ cs) h e = absurd (h.0 (let i : 61 ≡ c = cc in sym i))
no_name (x ∷ a) rest [] h e = absurd cc
no_name (x ∷ a) rest (c ∷ cs) h e = no_name a rest cs h.1 (let i : a ++ 61 ∷ rest ≡ cs = cc in i)
