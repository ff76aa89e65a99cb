use Rattle.std.proofs.Common.{ℕ, ◌≡◌, ◌<◌, ◌≤◌, ◌↔◌, inl, inr, ◌-◌, Some, Contains, length, slice_get, ap, ◌∙◌, arith}
use Rattle.std.proofs.lemmas.Option.{slice_get_within}
use Rattle.jm_table.proofs.MemberLemmas.{holds_at, from_holds, within_holds}
use Rattle.jm_fsm.specs.declared.machine.Destination.{Destination}
use Rattle.jm_fsm.specs.declared.machine.Destination.TheVariants.{Fail}
use Rattle.jm_fsm.specs.Machines.{StateMachine, AliasDefinition}
use Rattle.jm_fsm.specs.Categories.{IsMember, category_count}

module _ (m : StateMachine) (category : ℕ) (destination : Destination) where
  -- a category past the states is that of an alias
  pub member_of_alias : (n j : ℕ) (a : AliasDefinition) → length m.states ≡ n → n ≤ category → j ≡ category - n → slice_get m.aliases j ≡ Some a → Contains a.members destination ↔ IsMember m category destination
  member_of_alias n j a states past place at = (
    λ h. inr (inl (j, omega arith, holds_at (λ (x : AliasDefinition). Contains x.members destination) (slice_get m.aliases j) a at h)),
    elim [
      | inl state ↦ absurd (omega (arith, state.0))
      | inr other ↦ elim other [
        | inl alias ↦ from_holds (λ (x : AliasDefinition). Contains x.members destination) (slice_get m.aliases alias.0) a (ap (λ k. slice_get m.aliases k) (omega (arith, alias.1)) ∙ at) alias.2
        | inr fail ↦ absurd (omega (arith, fail.0, slice_get_within m.aliases j a at))
      ]
    ],
  )

  -- the last category is that of `fail`
  pub member_of_fail : (n k : ℕ) → length m.states ≡ n → length m.aliases ≡ k → n ≤ category → k ≤ category - n → category < category_count m → (destination ≡ Fail) ↔ IsMember m category destination
  member_of_fail n k states aliases past beyond last = (
    λ h. inr (inr (omega arith, h)),
    elim [
      | inl state ↦ absurd (omega (arith, state.0))
      | inr other ↦ elim other [
        | inl alias ↦ absurd (omega (arith, alias.1, within_holds (λ (x : AliasDefinition). Contains x.members destination) m.aliases alias.0 alias.2))
        | inr fail ↦ fail.1
      ]
    ],
  )
