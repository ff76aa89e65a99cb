-- A set to which the rules add nothing more is what they add in all.
use Rattle.std.proofs.Common.{◌≡◌, ◌↔◌, ℕ, ◌≤◌, Bool, true, false, List, [], ◌∷◌, Contains, All, bit_or, cond, refl, sym, ap, subst, ◌∙◌, inl, inr, arith}
use Rattle.std.specs.Prelude.{IsBitSet}
use Rattle.std.proofs.lemmas.Bool.{or_cases as bool_cases, or_left, or_right}
use Rattle.std.proofs.lemmas.Nat.{le_or_l}
use Rattle.std.proofs.lemmas.List.Elements.{All-nil, All-cons, All-head, All-tail, All-contains, All-contains_itself}
use Rattle.jm_earley.specs.declared.rule.Rule.{Rule}
use Rattle.jm_earley.specs.Rules.{IsGained, at_once, later, is_met, with_rule, with_rules}
use Rattle.jm_earley.proofs.BitLemmas.{or_cases, or_r, none_set, meets_some, some_meets}

up : (a b c : ℕ) → a ≤ b → b ≤ c → a ≤ c
up a b c h k = omega arith

between : (a b c : ℕ) → a ≤ b → b ≤ c → c ≡ a → b ≡ a
between a b c h k e = omega arith

module _ (rules : List Rule) where
  abbrev pub IsSound : ℕ → Type 0
  IsSound known = (n : ℕ) → IsBitSet known n → IsGained rules n

  -- what the rule gives is there, if it is met
  abbrev pub HasGiven : ℕ → Rule → Type 0
  HasGiven known r = is_met known r ≡ true → (n : ℕ) → IsBitSet r.gives n → IsBitSet known n

  pub none_sound : IsSound 0
  none_sound n h = absurd (none_set n h)

  one_sound : (known : ℕ) (r : Rule) → Contains rules r → IsSound known → IsSound (with_rule known r)
  one_sound known r there sound = by (is_met known r) refl
    where
      by : (b : Bool) → is_met known r ≡ b → IsSound (cond b (bit_or known r.gives) known)
      by false e n h = sound n h
      by true e n h = elim (or_cases known r.gives n h) [
        | inl before ↦ sound n before
        | inr new ↦ elim (bool_cases _ _ e) [
          | inl always ↦ at_once r n there always new
          | inr met ↦ let m = meets_some r.any known met in later r m.0 n there m.1 (sound m.0 m.2) new
        ]
      ]

  one_grows : (known : ℕ) (r : Rule) → known ≤ with_rule known r
  one_grows known r = by (is_met known r)
    where
      by : (b : Bool) → known ≤ cond b (bit_or known r.gives) known
      by true = le_or_l known r.gives
      by false = omega arith

  one_same : (known : ℕ) (r : Rule) → with_rule known r ≡ known → HasGiven known r
  one_same known r same met n h =
      let all : bit_or known r.gives ≡ known = ap (λ b. cond b (bit_or known r.gives) known) (sym met) ∙ same in
      subst (λ (k : ℕ). IsBitSet k n) all (or_r known r.gives n h)

  grow_over : (rs : List Rule) (known : ℕ) → known ≤ with_rules rs known
  grow_over [] known = omega arith
  grow_over (r ∷ rs) known = up known (with_rule known r) _ (one_grows known r) (grow_over rs (with_rule known r))

  sound_over : (rs : List Rule) (known : ℕ) → All (Contains rules) rs → IsSound known → IsSound (with_rules rs known)
  sound_over [] known there sound = sound
  sound_over (r ∷ rs) known there sound =
      sound_over rs (with_rule known r) (All-tail (Contains rules) r rs there) (one_sound known r (All-head (Contains rules) r rs there) sound)

  closed_over : (rs : List Rule) (known : ℕ) → with_rules rs known ≡ known → All (HasGiven known) rs
  closed_over [] known same = All-nil (HasGiven known)
  closed_over (r ∷ rs) known same =
      let now : with_rule known r ≡ known = between known (with_rule known r) _ (one_grows known r) (grow_over rs (with_rule known r)) same in
      let then : with_rules rs known ≡ known = ap (λ k. with_rules rs k) (sym now) ∙ same in
      All-cons (HasGiven known) r rs (one_same known r now) (closed_over rs known then)

  pub rules_sound : (known : ℕ) → IsSound known → IsSound (with_rules rules known)
  rules_sound known sound = sound_over rules known (All-contains_itself rules) sound

  pub rules_grow : (known : ℕ) → known ≤ with_rules rules known
  rules_grow known = grow_over rules known

  all_gained : (known : ℕ) → All (HasGiven known) rules → {n : ℕ} → IsGained rules n → IsBitSet known n
  all_gained known closed (at_once r n there always gives) = All-contains (HasGiven known) rules r closed there (or_left _ _ always) n gives
  all_gained known closed (later r m n there any before gives) =
      All-contains (HasGiven known) rules r closed there (or_right _ _ (some_meets r.any known m any (all_gained known closed before))) n gives

  pub exact : (known : ℕ) → IsSound known → with_rules rules known ≡ known → (n : ℕ) → IsBitSet known n ↔ IsGained rules n
  exact known sound same n = (sound n, all_gained known (closed_over rules known same))
