use Rattle.std.proofs.Common.{◌∙◌, inl, inr}
use Rattle.jm_inputs.proofs.JobLemmas.{completes}
use Rattle.jm_top.proofs.EndingLemmas.{reports_ending}
use Rattle.jm_top.proofs.command.jmop.Goals as goal

pub returns-clause-complete : goal.returns-clause-complete
returns-clause-complete g c = λ job told is sound quiet still.
    let ends = c.carry_out-status.ensures.ends in
    let ending = completes _ (g.F.Folder.holds c.args.files.now) told job sound is c.carry_out-status.result ends.caused
    (λ file at. quiet (ends.read_failed file at)) (λ at. still (ends.write_failed at)) in
    elim c.report.ensures.kept [
      | inl same ↦ elim ending [ inl done ↦ inl (same ∙ done) | inr short ↦ inr (same ∙ short) ]
      | inr short ↦ inr short
    ]

pub returns-clause-reported : goal.returns-clause-reported
returns-clause-reported g c =
    reports_ending c.report.result (g.E.Sink.faults c.args.err.now, g.E.Sink.written c.args.err.now) (g.E.Sink.faults c.report.new.err, g.E.Sink.written c.report.new.err) c.carry_out-status.ensures.ends c.report.ensures.reported
