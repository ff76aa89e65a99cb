use Rattle.std.proofs.Common.{length}
use Rattle.jm_machine.proofs.GoalLemmas.{begins_as_listed}
use Rattle.jm_machine.proofs.property.Property.may_begin.Goals as goal

pub returns : goal.returns
returns c =
    let listed = begins_as_listed c.self.inside.goal.creation (length c.self.inside.masks.items) c.args.letter.0 c.self.invariant.0.creation in
    rw (← c.self.view_is) (λ h. listed.0 (c.may_begin.ensures.0 h), λ h. c.may_begin.ensures.1 (listed.1 h))
