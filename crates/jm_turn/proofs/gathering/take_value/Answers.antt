use Rattle.jm_turn.proofs.Closed.{closes_some, closes_value}
use Rattle.jm_turn.proofs.gathering.take_value.Goals as goal

pub unwrap-requires : goal.unwrap-requires
unwrap-requires g c = closes_some g.V.Kept.entries g.V.Kept.caller_of g.V.Kept.fixed_part _ _ _ _ _ _ _ c.requires.place.1 c.requires.count c.close_with-closed.ensures.values.2 c.take-value.ensures.value

pub returns : goal.returns
returns g c = closes_value g.V.Kept.entries g.V.Kept.caller_of g.V.Kept.fixed_part _ _ _ _ _ _ _ _ c.requires.place.1 c.requires.count c.close_with-closed.ensures.values.2 c.take-value.ensures.value c.unwrap.ensures
