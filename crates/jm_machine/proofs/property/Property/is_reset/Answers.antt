use Rattle.std.proofs.Common.{◌≡◌, length, bit_and, refl, sym, ◌∙◌}
use Rattle.jm_machine.specs.CompiledProperties.{numbers_of}
use Rattle.jm_machine.proofs.GoalLemmas.{not_zero}
use Rattle.jm_machine.proofs.PropertyLemmas.{never_reset, place_letters, reset_told}
use Rattle.jm_machine.proofs.property.Property.is_reset.Goals as goal

pub returns-then-resets-ne0 : goal.returns-then-resets-ne0
returns-then-resets-ne0 c =
    let i = c.self.inside in
    let listed : c.args.self.now.definition.resets ≡ numbers_of i.goal.resets (length i.handlers) = rw (← c.self.view_is) refl in
    rw c.resets-resets.ensures
    (λ asked some place.
    let letters = place_letters c.args.self.now.engine c.args.place.now asked place in
    let told = reset_told c.args.self.now c.handlers_at.ensures.rules i.goal.resets (length i.handlers) c.self.invariant.0.resets listed asked letters some c.handlers_at.result (c.handlers_at.ensures.hits asked place) in
    let test = not_zero (bit_and c.handlers_at.result i.goal.resets) in
    (λ h. told.0 (test.0 h), λ h. test.1 (told.1 h)))

pub returns-else-resets-ne0 : goal.returns-else-resets-ne0
returns-else-resets-ne0 c =
    let i = c.self.inside in
    let listed : c.args.self.now.definition.resets ≡ numbers_of i.goal.resets (length i.handlers) = rw (← c.self.view_is) refl in
    (λ asked some place. (
      λ h. absurd ((not_zero c.resets-resets.result).0 h c.if-resets-ne0.false),
      λ reset. absurd (never_reset c.args.self.now i.goal.resets (length i.handlers) listed (sym c.resets-resets.ensures ∙ c.if-resets-ne0.false) asked reset),
    ))
