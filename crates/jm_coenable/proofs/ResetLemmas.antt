-- At which states a property is reset.
use Rattle.std.proofs.Common.{zero, suc, ◌⊎◌, inl, inr, arith, ℕ, ◌≡◌, ◌<◌, ◌+◌, Bool, true, false, List, [], ◌∷◌, Option, Some, None, length, get_or, drop, drop-cons, Contains, IsTrue, slice_get, refl, sym, ◌∙◌, ap, subst, add-one}
use Rattle.std.specs.Prelude.{◌↔◌, ◌==◌, ◌&&◌, ◌||◌, IsSomeAnd, nat_eq}
use Rattle.std.specs.Int.{bit_at}
use Rattle.std.specs.List.{list_any}
use Rattle.std.specs.Option.{option_map_or}
use Rattle.std.proofs.lemmas.Bool.{false≢true, eqb-true, eq-eqb}
use Rattle.std.proofs.lemmas.Cmp.{nat_eq_equiv}
use Rattle.std.proofs.lemmas.Map.Views.{list_any-from_Contains, Contains-from_any}
use Rattle.std.proofs.lemmas.Option.{slice_get-get_or, same_Some}
use Rattle.jm_goal.specs.Goals.{GoalDefinition}
use Rattle.jm_table.specs.Tables.{Transitions, IsInGroup}
use Rattle.jm_coenable.specs.Needs.{is_in_group, is_reset_from, is_reset}

-- two tests of one claim
same_test : (P : Type 0) (a b : Bool) → (a ≡ true → P) → (P → b ≡ true) → (b ≡ true → P) → (P → a ≡ true) → a ≡ b
same_test P true b to from back on = sym (from (to refl))
same_test P false true to from back on = on (back refl)
same_test P false false to from back on = refl

-- ---- the test of a group

any_test : (states : Option (List ℕ)) (state : ℕ) → (option_map_or (list_any (nat_eq state)) states false ≡ true) ↔ IsSomeAnd states (λ xs. Contains xs state)
any_test None state = (λ h. absurd (false≢true h), λ h. absurd h)
any_test (Some xs) state = (Contains-from_any {eq = nat_eq} same state xs, list_any-from_Contains nat_eq_equiv state xs)
  where
    same : (x y : ℕ) → nat_eq x y ≡ true → x ≡ y
    same x y h = eqb-true x y h

pub in_group_is : (t : Transitions) (state group : ℕ) (b : Bool) → IsTrue b ↔ IsInGroup t state group → b ≡ is_in_group t state group
in_group_is t state group b says =
    let test = any_test (slice_get t.groups group) state in
    same_test (IsInGroup t state group) b (is_in_group t state group) says.0 test.1 test.0 says.1

pub same_at : (groups : List ℕ) (handler a b : ℕ) → slice_get groups handler ≡ Some a → slice_get groups handler ≡ Some b → a ≡ b
same_at groups handler a b at there = same_Some a b (sym at ∙ there)

-- ---- handler by handler

module _ (t : Transitions) (g : GoalDefinition) (state : ℕ) where
  -- from the handler of this number on
  abbrev pub reset_behind : ℕ → Bool
  reset_behind handler = is_reset_from t g.resets state handler (drop handler g.groups)

  module _ (handler d : ℕ) (less : handler < length g.groups) (here : Bool)
      (is : (group : ℕ) → slice_get g.groups handler ≡ Some group → here ≡ ((bit_at g.resets handler == 1) && is_in_group t state group)) where
    behind : reset_behind handler ≡ (here || reset_behind (handler + 1))
    behind =
        let group = get_or g.groups handler d in
        let at : slice_get g.groups handler ≡ Some group = slice_get-get_or g.groups handler d less in
        ap (λ (gs : List ℕ). is_reset_from t g.resets state handler gs) (drop-cons g.groups handler d less)
        ∙ ap (λ (n : ℕ). ((bit_at g.resets handler == 1) && is_in_group t state group) || is_reset_from t g.resets state (handler + 1) (drop n g.groups)) (sym (add-one handler))
        ∙ ap (λ (b : Bool). b || reset_behind (handler + 1)) (sym (is group at))

    pub reset_here : here ≡ true → reset_behind handler ≡ true
    reset_here hit = behind ∙ ap (λ (b : Bool). b || reset_behind (handler + 1)) hit

    pub reset_later : here ≡ false → reset_behind handler ≡ reset_behind (handler + 1)
    reset_later quiet = behind ∙ ap (λ (b : Bool). b || reset_behind (handler + 1)) quiet

-- ---- what the test tells

-- a handler that resets is hit at the state
pub record IsResettingAt (t : Transitions) (g : GoalDefinition) (state : ℕ) : Type 0 where
  pub handler : ℕ
  pub group : ℕ
  pub there : slice_get g.groups handler ≡ Some group
  pub resets : bit_at g.resets handler ≡ 1
  pub inside : IsInGroup t state group

module _ (t : Transitions) (bits state : ℕ) where
  both : (a b : Bool) → (a && b) ≡ true → (a ≡ true) × (b ≡ true)
  both true b h = (refl, h)
  both false b h = absurd (false≢true h)

  either : (a b : Bool) → (a || b) ≡ true → (a ≡ true) ⊎ (b ≡ true)
  either true b h = inl refl
  either false b h = inr h

  left_of : (a b : Bool) → a ≡ true → (a || b) ≡ true
  left_of true b h = refl
  left_of false b h = absurd (false≢true h)

  right_of : (a b : Bool) → b ≡ true → (a || b) ≡ true
  right_of true b h = refl
  right_of false b h = h

  -- a group at a place of these, whose handler resets, that the state is in
  abbrev At : List ℕ → ℕ → ℕ → ℕ → Type 0
  At groups number place group = (slice_get groups place ≡ Some group) × (bit_at bits (number + place) ≡ 1) × IsInGroup t state group

  found : (groups : List ℕ) (number : ℕ) → is_reset_from t bits state number groups ≡ true → (place : ℕ) × (group : ℕ) × At groups number place group
  found [] number h = absurd (false≢true h)
  found (group ∷ groups) number h =
      elim (either ((bit_at bits number == 1) && is_in_group t state group) (is_reset_from t bits state (number + 1) groups) h) [
        | inl first ↦
            let parts = both (bit_at bits number == 1) (is_in_group t state group) first in
            (0, group, (refl, ap (λ (n : ℕ). bit_at bits n) (omega arith) ∙ eqb-true (bit_at bits number) 1 parts.0, (any_test (slice_get t.groups group) state).0 parts.1))
        | inr more ↦
            let there = found groups (number + 1) more in
            (suc there.0, there.1, (there.2.0, ap (λ (n : ℕ). bit_at bits n) (omega arith) ∙ there.2.1, there.2.2))
      ]

  told : (groups : List ℕ) (number place group : ℕ) → At groups number place group → is_reset_from t bits state number groups ≡ true
  told [] number place group h = absurd (none_there h.0)
    where
      none_there : None ≡ Some group → ⊥
      none_there e = cc
  told (first ∷ groups) number zero group h =
      let same : first ≡ group = same_Some first group h.0 in
      let bit : bit_at bits number ≡ 1 = ap (λ (n : ℕ). bit_at bits n) (omega arith) ∙ h.1 in
      let inside : is_in_group t state first ≡ true = (any_test (slice_get t.groups first) state).1 (subst (λ (n : ℕ). IsInGroup t state n) (sym same) h.2) in
      left_of ((bit_at bits number == 1) && is_in_group t state first) _ (ap (λ (b : Bool). b && is_in_group t state first) (eq-eqb (bit_at bits number) 1 bit) ∙ inside)
  told (first ∷ groups) number (suc place) group h =
      right_of ((bit_at bits number == 1) && is_in_group t state first) _ (told groups (number + 1) place group (h.0, ap (λ (n : ℕ). bit_at bits n) (omega arith) ∙ h.1, h.2))

pub reset_tells : (t : Transitions) (g : GoalDefinition) (state : ℕ) → (is_reset t g state ≡ true) ↔ IsResettingAt t g state
reset_tells t g state = (
  λ h.
      let at = found t g.resets state g.groups 0 h in
      record { handler = at.0; group = at.1; there = at.2.0; resets = ap (λ (n : ℕ). bit_at g.resets n) (omega arith) ∙ at.2.1; inside = at.2.2 },
  λ h. told t g.resets state g.groups 0 h.handler h.group (h.there, ap (λ (n : ℕ). bit_at g.resets n) (omega arith) ∙ h.resets, h.inside),
)
