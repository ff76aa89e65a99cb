use Rattle.jm_events.proofs.TextLemmas.{AreTexts-none}
use Rattle.jm_events.proofs.names.Names.new.Goals as goal

pub invariant_of-result : goal.invariant_of-result
invariant_of-result c =
    rw (c.new.ensures.items, c.new-2.ensures.items) (AreTexts-none c.new-3.result.hashes c.new-3.ensures)
