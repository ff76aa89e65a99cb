use Rattle.std.proofs.Common.{sym, ◌∙◌}
use Rattle.jm_script.proofs.KnownLemmas.{has_room}
use Rattle.jm_script.proofs.statement.event_of.Goals as goal

pub returns-then-not-is_full-clause-finds : goal.returns-then-not-is_full-clause-finds
returns-then-not-is_full-clause-finds c = record {
  event = c.in-Some.ensures c.args.catalog.now c.requires;
  named = sym c.are_objects.ensures ∙ c.if-are_objects.true;
  room = has_room _ _ c.is_full.ensures c.if-not-is_full.true;
  fault = λ names. tt;
}
