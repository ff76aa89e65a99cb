-- Letters that end monitors.
use Rattle.std.proofs.Common.{◌≡◌, ℕ, ◌+◌, ◌<◌, ◌⊎◌, inl, inr, true, List, [], ◌∷◌, ◌++◌, length, get_or, take, sym, ap, ◌∙◌, subst, arith, eqb}
use Rattle.std.specs.Prelude.{Contains, bit_and, slice_set, IsBitSet}
use Rattle.std.specs.Int.{bit_at}
use Rattle.std.proofs.lemmas.Bool.{cases_eq, eqb-true, eq-eqb}
use Rattle.std.proofs.lemmas.List.{get_or-set_same, get_or-set_other, get_or_default, take_more}
use Rattle.std.proofs.lemmas.List.Elements.{Contains-push_cases}
use Rattle.std.proofs.lemmas.Nat.Bits.{bit_at_and, bit_at-lt}
use Rattle.jm_model.specs.Bindings.{mask_of, empty}
use Rattle.jm_model.specs.Meanings.{Meaning, IsHit, IsCutWord}
use Rattle.jm_semantics.proofs.ListLemmas.{Contains-map, Contains-cons_cases}
use Rattle.jm_index.proofs.ReadLemmas.{Contains-none}
use Rattle.jm_monitors.specs.declared.stored.Stored.{Stored}
use Rattle.jm_store.specs.declared.moves.Move.{Move}
use Rattle.jm_store.specs.Moves.{ends_all, EndsFewer, IsEnding, AreEnding, reached_by}
use Rattle.jm_store.proofs.GivenLemmas.{Contains-from_map}
use Rattle.jm_store.proofs.ReportLemmas.{set_from_bit}

pub fewer-refl : (a : List ℕ) → EndsFewer a a
fewer-refl a e d h = h

pub fewer-trans : (a b c : List ℕ) → EndsFewer a b → EndsFewer b c → EndsFewer a c
fewer-trans a b c h i e d x = h e d (i e d x)

-- letters are kept that are among both
and_bit : (x y e : ℕ) → bit_at (bit_and x y) e ≡ 1 → (bit_at x e ≡ 1) × (bit_at y e ≡ 1)
and_bit x y e h = (omega (arith, bit_at_and x y e, h, bit_at-lt x e, bit_at-lt y e), omega (arith, bit_at_and x y e, h, bit_at-lt x e, bit_at-lt y e))

pub kept_fewer : (a : List ℕ) (d kept letters : ℕ) → d < length a → kept ≡ get_or a d kept → EndsFewer a (slice_set a d (bit_and kept letters))
kept_fewer a d kept letters low is e f h =
    elim (cases_eq f d) [
      | inl same ↦
          let here : bit_at (bit_and kept letters) e ≡ 1 = eqb-true _ 1 (ap (λ (n : ℕ). eqb (bit_at n e) 1) (sym (ap (λ (n : ℕ). get_or (slice_set a d (bit_and kept letters)) n 0) same ∙ get_or-set_same a d (bit_and kept letters) 0 low)) ∙ h) in
          let was : kept ≡ get_or a f 0 = is ∙ get_or_default a d kept 0 low ∙ ap (λ (n : ℕ). get_or a n 0) (sym same) in
          ap (λ (n : ℕ). eqb (bit_at n e) 1) (sym was) ∙ eq-eqb (bit_at kept e) 1 (and_bit kept letters e here).0
      | inr other ↦ ap (λ (n : ℕ). eqb (bit_at n e) 1) (sym (get_or-set_other a d f (bit_and kept letters) 0 other)) ∙ h
    ]

pub kept_among : (a : List ℕ) (d kept letters e : ℕ) → d < length a → ends_all (slice_set a d (bit_and kept letters)) e d ≡ true → IsBitSet letters e
kept_among a d kept letters e low h =
    let here : bit_at (bit_and kept letters) e ≡ 1 = eqb-true _ 1 (ap (λ (n : ℕ). eqb (bit_at n e) 1) (sym (get_or-set_same a d (bit_and kept letters) 0 low)) ∙ h) in
    set_from_bit letters e (and_bit kept letters e here).1

module _ (m : Meaning) {S : Type 0} (Stands : S → List ℕ → Type 0) where
  pub ending_fewer : (a b : List ℕ) (stored : List (Stored S)) → EndsFewer a b → AreEnding m Stands a stored → AreEnding m Stands b stored
  ending_fewer a b stored fewer ended s there e ends = ended s there e (fewer e (mask_of s.instance) ends)

  -- one monitor
  pub ending_one : (b : List ℕ) (s : Stored S) (domain letters : ℕ) → domain ≡ mask_of s.instance → ((e : ℕ) → ends_all b e domain ≡ true → IsBitSet letters e)
      → ((w : List ℕ) → Stands s.state w → (e k : ℕ) → IsBitSet letters e → IsHit m (w ++ e ∷ []) k → ⊥)
      → ((w : List ℕ) → Stands s.state w → (e : ℕ) → IsBitSet letters e → IsCutWord m (w ++ e ∷ []) 0) → IsEnding m Stands b s
  ending_one b s domain letters is among quiet cut e ends =
      let set' = among e (ap (ends_all b e) is ∙ ends) in
      λ w stands. (λ k. quiet w stands e k set', cut w stands e set')

  -- one move more
  pub ending_more : (a b : List ℕ) (moves : List (Move S)) (i : ℕ) (move : Move S) → i < length moves → move ≡ get_or moves i move → EndsFewer a b
      → AreEnding m Stands a (reached_by (take i moves)) → IsEnding m Stands b move.monitor → AreEnding m Stands b (reached_by (take (i + 1) moves))
  ending_more a b moves i move low is fewer ended one s there =
      let (x, among, e) = Contains-from_map (λ (y : Move S). y.monitor) (take (i + 1) moves) s there in
      elim (Contains-push_cases (take i moves) move x (subst (λ (l : List (Move S)). Contains l x) (take_more moves i move low ∙ ap (λ (y : Move S). take i moves ++ y ∷ []) (sym is)) among)) [
        | inl before ↦
            let was : Contains (reached_by (take i moves)) s = subst (λ (y : Stored S). Contains (reached_by (take i moves)) y) e (Contains-map (λ (y : Move S). y.monitor) (take i moves) x before) in
            ending_fewer a b (reached_by (take i moves)) fewer ended s was
        | inr here ↦ subst (IsEnding m Stands b) (ap (λ (y : Move S). y.monitor) here ∙ e) one
      ]

  -- the letters kept for the first monitor, which binds nothing, end it
  pub first_ended : (ending : List ℕ) (letters : ℕ) (stored : List (Stored S)) (s : Stored S) → stored ≡ s ∷ [] → s.instance ≡ empty → ((e : ℕ) → ends_all ending e 0 ≡ true → IsBitSet letters e)
      → ((w : List ℕ) → Stands s.state w → (e k : ℕ) → IsBitSet letters e → IsHit m (w ++ e ∷ []) k → ⊥)
      → ((w : List ℕ) → Stands s.state w → (e : ℕ) → IsBitSet letters e → IsCutWord m (w ++ e ∷ []) 0) → AreEnding m Stands ending stored
  first_ended ending letters stored s one is among quiet cut r there =
      let same : s ≡ r = only (Contains-cons_cases s [] r (subst (λ (l : List (Stored S)). Contains l r) one there)) in
      subst (IsEnding m Stands ending) same (ending_one ending s 0 letters (sym (ap mask_of is)) among quiet cut)
    where
      only : {x y : Stored S} → (x ≡ y) ⊎ Contains {X = Stored S} [] y → x ≡ y
      only (inl same) = same
      only {x} {y} (inr none) = absurd (Contains-none y none)

  pub none_ended : (ending : List ℕ) (stored : List (Stored S)) → stored ≡ [] → AreEnding m Stands ending stored
  none_ended ending stored is s there = absurd (Contains-none s (subst (λ (l : List (Stored S)). Contains l s) is there))

pub first_among : (xs : List ℕ) (letters e : ℕ) → 0 < length xs → ends_all (slice_set xs 0 letters) e 0 ≡ true → IsBitSet letters e
first_among xs letters e low ends = set_from_bit letters e (eqb-true (bit_at letters e) 1 (ap (λ (n : ℕ). eqb (bit_at n e) 1) (sym (get_or-set_same xs 0 letters 0 low)) ∙ ends))
