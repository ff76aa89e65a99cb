use Rattle.std.proofs.Common.{rules}
use Rattle.jm_script.proofs.QueueLemmas.{none_above}
use Rattle.jm_script.proofs.queue.LineQueue.pop_above.Goals as goal

pub returns-then-not-stands_above-clause-place : goal.returns-then-not-stands_above-clause-place
returns-then-not-stands_above-clause-place c =
    none_above c.args.number c.args.self.now c.in_ok-line.line c.first.ensures.rising c.in_ok-line.ensures.line (search (c.stands_above.ensures.from, c.if-not-stands_above.ensures.from, c.if-not-stands_above.true, rules))
