use Rattle.std.proofs.Common.{subst}
use Rattle.jm_machine.specs.declared.place.Place.{Place}
use Rattle.jm_machine.specs.Places.{IsPlaceAfter}
use Rattle.jm_machine.proofs.rules.Rules.configuration_at.Goals as goal

pub returns-in-Start : goal.returns-in-Start
returns-in-Start c = record { single = λ one w after k part at. subst (λ (p : Place). IsPlaceAfter part p w) c.in-Start.is (after k part at) }

pub returns-in-Trap : goal.returns-in-Trap
returns-in-Trap c = record { single = λ one w after k part at. subst (λ (p : Place). IsPlaceAfter part p w) c.in-Trap.is (after k part at) }

pub returns-in-State : goal.returns-in-State
returns-in-State c = record { single = λ one w after. (one, λ k part at. subst (λ (p : Place). IsPlaceAfter part p w) c.in-State.is (after k part at)) }
