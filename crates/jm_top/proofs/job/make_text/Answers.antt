use Rattle.jm_top.proofs.CommandLemmas.{gen_reads_none}
use Rattle.jm_top.proofs.job.make_text.Goals as goal

pub returns-in-Gen-clause-read_failed : goal.returns-in-Gen-clause-read_failed
returns-in-Gen-clause-read_failed g c = λ file is.
    let contents = g.F.Folder.holds c.args.files.now in
    absurd (gen_reads_none contents file _ c.generated.result (c.generated.ensures contents) is)

pub returns-in-Gen-clause-carried_out : goal.returns-in-Gen-clause-carried_out
returns-in-Gen-clause-carried_out g c = rw c.in-Gen.is (c.generated.ensures (g.F.Folder.holds c.args.files.now))
