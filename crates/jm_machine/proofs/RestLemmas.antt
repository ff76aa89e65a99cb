-- What is left of a word with a letter more, of which letters a category is asked, and where nothing resets.
use Rattle.std.proofs.Common.{◌≡◌, ◌≢◌, inl, inr, ℕ, List, [], ◌∷◌, ◌++◌, refl, sym, ◌∙◌, ap, subst}
use Rattle.std.specs.Prelude.{◌↔◌}
use Rattle.std.proofs.lemmas.List.{append_assoc, append-nil, same_from_push}
use Rattle.jm_machine.specs.Rests.{IsLeftBy, IsLeftFrom, IsRest, IsAsked}

pub letter_there : (w : List ℕ) (e : ℕ) → (w ++ e ∷ []) ≢ []
letter_there [] e = λ (none : e ∷ [] ≡ []). absurd cc
letter_there (d ∷ w) e = λ (none : d ∷ (w ++ e ∷ []) ≡ []). absurd cc

module _ (Resets : List ℕ → Type 0) where
  -- ---- one rest

  one_by : (rest : List ℕ) (e : ℕ) (a b : List ℕ) → IsLeftBy Resets rest e a → IsLeftBy Resets rest e b → a ≡ b
  one_by rest e a b (inl h) (inl k) = h.1 ∙ sym k.1
  one_by rest e a b (inl h) (inr k) = absurd (k.0 h.0)
  one_by rest e a b (inr h) (inl k) = absurd (h.0 k.0)
  one_by rest e a b (inr h) (inr k) = h.1 ∙ sym k.1

  -- the rest of a word is one
  pub one_left : (w rest a b : List ℕ) → IsLeftFrom Resets rest w a → IsLeftFrom Resets rest w b → a ≡ b
  one_left [] rest a b h k = h ∙ sym k
  one_left (e ∷ w) rest a b h k =
      one_left w h.0 a b h.2 (subst (λ x. IsLeftFrom Resets x w b) (one_by rest e k.0 h.0 k.1 h.1) k.2)

  -- ---- a letter more

  pub left_more : (w rest middle after : List ℕ) (e : ℕ) → IsLeftFrom Resets rest w middle → IsLeftBy Resets middle e after → IsLeftFrom Resets rest (w ++ e ∷ []) after
  left_more [] rest middle after e h by = (after, subst (λ x. IsLeftBy Resets x e after) h by, refl)
  left_more (d ∷ w) rest middle after e h by = (h.0, h.1, left_more w h.0 middle after e h.2 by)

  left_before : (w rest after : List ℕ) (e : ℕ) → IsLeftFrom Resets rest (w ++ e ∷ []) after → (middle : List ℕ) × IsLeftFrom Resets rest w middle × IsLeftBy Resets middle e after
  left_before [] rest after e h = (rest, refl, subst (λ x. IsLeftBy Resets rest e x) (sym h.2) h.1)
  left_before (d ∷ w) rest after e h =
      let there = left_before w h.0 after e h.2 in
      (there.0, (h.0, h.1, there.1), there.2)

  pub left_by : (w rest after : List ℕ) (e : ℕ) → IsRest Resets w rest → IsRest Resets (w ++ e ∷ []) after ↔ IsLeftBy Resets rest e after
  left_by w rest after e left = (
    λ h. let there = left_before w [] after e h in
        subst (λ x. IsLeftBy Resets x e after) (one_left w [] there.0 rest there.1 left) there.2,
    λ by. left_more w [] rest after e left by,
  )

  -- ---- what is asked

  -- after a word with a letter more, what is left and the letter are asked, and nothing else
  pub asked_at : (w rest : List ℕ) (e : ℕ) → IsRest Resets w rest → IsAsked Resets (w ++ e ∷ []) (rest ++ e ∷ [])
  asked_at w rest e h = record { before = w; last = e; rest = rest; word = refl; left = h; letters = refl }

  pub asked_is : (w rest x : List ℕ) (e : ℕ) → IsRest Resets w rest → IsAsked Resets (w ++ e ∷ []) x → x ≡ rest ++ e ∷ []
  asked_is w rest x e h a =
      let same = same_from_push w a.before e a.last a.word in
      let left = one_left w [] a.rest rest (subst (λ v. IsRest Resets v a.rest) (sym same.0) a.left) h in
      a.letters ∙ ap (λ v. v ++ a.last ∷ []) left ∙ ap (λ d. rest ++ d ∷ []) (sym same.1)

  -- what is asked after a word is one
  pub one_asked : (w x y : List ℕ) → IsAsked Resets w x → IsAsked Resets w y → x ≡ y
  one_asked w x y a b =
      let there : IsAsked Resets (a.before ++ a.last ∷ []) y = subst (λ v. IsAsked Resets v y) a.word b in
      a.letters ∙ sym (asked_is a.before a.rest y a.last a.left there)

  -- where what is asked resets, nothing is left, and else what is asked
  pub left_anew : (w x : List ℕ) → IsAsked Resets w x → Resets x → IsRest Resets w []
  left_anew w x a reset =
      subst (λ v. IsRest Resets v []) (sym a.word)
      (left_more a.before [] a.rest [] a.last a.left (inl (subst Resets a.letters reset, refl)))

  pub left_on : (w x : List ℕ) → IsAsked Resets w x → (Resets x → ⊥) → IsRest Resets w x
  left_on w x a never =
      subst (λ v. IsRest Resets v x) (sym a.word)
      (left_more a.before [] a.rest x a.last a.left (inr (subst (λ v. Resets v → ⊥) a.letters never, a.letters)))

  -- so the next letter is asked alone, or with what was asked
  pub asked_anew : (w x : List ℕ) (e : ℕ) → IsAsked Resets w x → Resets x → IsAsked Resets (w ++ e ∷ []) (e ∷ [])
  asked_anew w x e a reset = asked_at w [] e (left_anew w x a reset)

  pub asked_on : (w x : List ℕ) (e : ℕ) → IsAsked Resets w x → (Resets x → ⊥) → IsAsked Resets (w ++ e ∷ []) (x ++ e ∷ [])
  asked_on w x e a never = asked_at w x e (left_on w x a never)

  -- the first letter is asked alone
  pub asked_first : (e : ℕ) → IsAsked Resets (e ∷ []) (e ∷ [])
  asked_first e = asked_at [] [] e refl

  -- something is asked only of a word that isn't empty
  pub asked_some : (w x : List ℕ) → IsAsked Resets w x → (w ≢ []) × (x ≢ [])
  asked_some w x a =
      (subst (λ v. v ≢ []) (sym a.word) (letter_there a.before a.last), subst (λ v. v ≢ []) (sym a.letters) (letter_there a.rest a.last))

  -- ---- where nothing resets

  module _ (never : (x : List ℕ) → Resets x → ⊥) where
    all_left : (w rest : List ℕ) → IsLeftFrom Resets rest w (rest ++ w)
    all_left [] rest = append-nil rest
    all_left (e ∷ w) rest =
        (rest ++ e ∷ [], inr (never (rest ++ e ∷ []), refl), subst (λ v. IsLeftFrom Resets (rest ++ e ∷ []) w v) (append_assoc rest (e ∷ []) w) (all_left w (rest ++ e ∷ [])))

    -- all of a word is asked
    pub asked_all : (w : List ℕ) → w ≢ [] → IsAsked Resets w w
    asked_all w some = go w some [] refl
      where
        go : (v : List ℕ) → v ≢ [] → (u : List ℕ) → IsLeftFrom Resets [] u u → IsAsked Resets (u ++ v) (u ++ v)
        go [] more u left = absurd (more refl)
        go (e ∷ []) more u left = asked_at u u e left
        go (e ∷ (d ∷ v)) more u left =
            subst (λ x. IsAsked Resets x x) (append_assoc u (e ∷ []) (d ∷ v)) (go (d ∷ v) (λ (none : d ∷ v ≡ []). absurd cc) (u ++ e ∷ []) (all_left (u ++ e ∷ []) []))
