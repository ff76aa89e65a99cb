use Rattle.std.proofs.Common.{◌∙◌, ap}
use Rattle.std.specs.Prelude.{IfOk}
use Rattle.std.proofs.Crossing.{crosses}
use Rattle.std.proofs.MapsCrossing.{crosses as maps}
use denote.Param.Send.{sendable}
use Rattle.rayon.proofs.ListFacts.{IfOk-then}
use Rattle.rayon.proofs.ToStd.{slice-AllZip}
use Rattle.jm_sweep.specs.Recordings.{span_text}
use Rattle.jm_inputs.specs.Reading.{specs_in}
use Rattle.jm_top.specs.Sweeps.{IsPieceOf}
use Rattle.jm_top.proofs.CrossingLemmas.{spec_set_shared}
use Rattle.jm_top.proofs.sweep.pieces_of.Goals as goal

pub returns : goal.returns
returns g c =
    let slice = ap (λ it. it.base.slice.now) c.map.ensures.base ∙ ap (λ it. it.slice.now) c.with_min_len.ensures.base ∙ c.par_iter.ensures in
    IfOk-then c.collect.result _ _ c.collect.ensures (λ v h.
    let chain = h.1 in
    rw h.2 (slice-AllZip chain.0 c.args.spans.now (chain.1 ∙ slice) (λ span r. IfOk r (IsPieceOf (specs_in c.args.spec_set.now) 0 (span_text c.args.bytes.now span))) h.0 (rw c.map.ensures.f at chain.2)))

pub map-requires-send-F : goal.map-requires-send-F
map-requires-send-F g c κs within = search (spec_set_shared, crosses, maps, sendable) depth 100 fits 20000

pub map-requires-sync-F : goal.map-requires-sync-F
map-requires-sync-F g c κs within = search (spec_set_shared, crosses, maps, sendable) depth 100 fits 20000

pub collect-requires-send-Self : goal.collect-requires-send-Self
collect-requires-send-Self g c κs within = search (spec_set_shared, crosses, maps, sendable) depth 100 fits 20000
