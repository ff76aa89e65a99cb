use Rattle.jm_events.specs.Texts.{texts_from}
use Rattle.jm_events.proofs.TextLemmas.{IsWalk}
use Rattle.jm_events.proofs.names.search.Given as goal

abbrev pub invariant-loop-at : goal.invariant-loop-at
invariant-loop-at l = IsWalk (texts_from 0 l.bytes l.ends) l.chains.hashes l.chains.chains l.hash l.name l.at

abbrev pub decreases-loop-at : goal.decreases-loop-at
decreases-loop-at l = l.at
