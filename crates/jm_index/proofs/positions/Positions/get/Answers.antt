use Rattle.std.proofs.Common.{sym, ◌∙◌}
use Rattle.jm_index.proofs.PositionLemmas.{position-here}
use Rattle.jm_index.proofs.positions.Positions.get.Goals as goal

pub returns-in-Some : goal.returns-in-Some
returns-in-Some c = sym (position-here _ _ c.key_of.ensures.eight ∙ rw (← c.key_of.ensures.value, ← c.at.ensures, c.in-Some.is))

pub returns-in-None : goal.returns-in-None
returns-in-None c = c.other.ensures ∙ sym (position-here _ _ c.key_of.ensures.eight ∙ rw (← c.key_of.ensures.value, ← c.at.ensures, c.in-None.is))
