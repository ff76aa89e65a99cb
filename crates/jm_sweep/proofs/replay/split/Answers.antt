use Rattle.std.proofs.Common.{◌∙◌}
use Rattle.std.specs.Prelude.{IfOk}
use Rattle.rayon.proofs.ListFacts.{IfOk-then}
use Rattle.rayon.proofs.ToStd.{slice-AllZip}
use Rattle.jm_sweep.specs.Replays.{IsReplayOf}
use Rattle.jm_sweep.proofs.SweepLemmas.{collected}
use Rattle.jm_sweep.proofs.replay.split.Goals as goal

pub returns : goal.returns
returns g c =
    IfOk-then c.collect.result _ _ c.collect.ensures (λ v h.
    let chain = rw (c.map.ensures.base, c.map.ensures.f, c.with_min_len.ensures.base) at h.1 in
    let P = IsReplayOf (g.M.Monitor.meaning (g.M.Monitor.definition c.args.rules.now)) in
    collected _ P c.args.parts.now h.0 v (slice-AllZip chain.0 c.args.parts.now (chain.1 ∙ c.par_iter.ensures) (λ p r. IfOk r (P p)) h.0 chain.2) h.2)
