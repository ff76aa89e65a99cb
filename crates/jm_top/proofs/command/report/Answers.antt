use Rattle.std.proofs.Common.{refl, inr}
use Rattle.jm_top.specs.FaultTexts.{fault_text_of}
use Rattle.jm_top.proofs.EndingLemmas.{nothing_appended}
use Rattle.jm_top.proofs.command.report.Goals as goal

pub returns-in_default-fault_text : goal.returns-in_default-fault_text
returns-in_default-fault_text g c =
    let written = g.E.Sink.written c.args.err.now in
    record {
      done = λ is. absurd (c.in_default.not-Done is);
      kept = inr refl;
      reported = (c.args.status, refl, nothing_appended written written (fault_text_of c.args.status) refl);
    }
