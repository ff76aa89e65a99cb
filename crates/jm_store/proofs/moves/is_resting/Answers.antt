use Rattle.std.proofs.lemmas.Bool.{eqb-true, eq-eqb}
use Rattle.jm_store.proofs.RestLemmas.{rest_from}
use Rattle.jm_store.proofs.moves.is_resting.Goals as goal

pub returns-then-idle-letter-eq1 : goal.returns-then-idle-letter-eq1
returns-then-idle-letter-eq1 g c =
    let m = g.M.Monitor.meaning (g.M.Monitor.definition c.args.rules.now) in
    let Stands = g.M.Monitor.StandsFor c.args.rules.now in
    λ none. rest_from m Stands c.args.letter.0 _ _ c.args.state.now c.hits.ensures c.idle.ensures.stays (eqb-true c.hits.result 0 none) (eq-eqb _ 1 c.if-idle-letter-eq1.true)
