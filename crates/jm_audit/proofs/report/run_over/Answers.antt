use Rattle.std.proofs.Common.{List, ℕ, ◌<◌, take, sym, subst}
use Rattle.std.proofs.lemmas.List.{take_all, take_more}
use Rattle.jm_audit.proofs.HitLemmas.{at_place}
use Rattle.jm_audit.proofs.report.run_over.Goals as goal

pub next-requires : goal.next-requires
next-requires g c =
    at_place (λ e. e < (g.M.Monitor.meaning (g.M.Monitor.definition c.args.rules.now)).letters) c.args.word.now c.loop-letter.letter-index c.requires c.loop-letter-test.true

pub loop-letter-preserved : goal.loop-letter-preserved
loop-letter-preserved g c =
    subst (λ (w : List ℕ). g.M.Monitor.StandsFor c.args.rules.now c.in_ok-state-2.state w)
    (sym (take_more c.args.word.now c.loop-letter.letter-index 0 c.loop-letter-test.true))
    (c.in_ok-state-2.ensures (take c.loop-letter.letter-index c.args.word.now) c.loop-letter.invariant)

pub returns : goal.returns
returns g c =
    subst (λ (w : List ℕ). g.M.Monitor.StandsFor c.args.rules.now c.loop-letter.state w)
    (take_all c.loop-letter.letter-index c.args.word.now c.loop-letter-test.false) c.loop-letter.invariant
