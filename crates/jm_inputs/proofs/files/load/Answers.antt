use Rattle.std.proofs.Common.{rules}
use Rattle.jm_inputs.proofs.JobLemmas.{faulty_not_loaded, no_failed_read}
use Rattle.jm_inputs.proofs.files.load.Goals as goal

pub returns-in-Err-TooLong-clause-err : goal.returns-in-Err-TooLong-clause-err
returns-in-Err-TooLong-clause-err g c = faulty_not_loaded (g.F.Folder.holds c.args.files.now) c.args.name.now c.args.number c.args.most c.args.too_long c.requires (search rules)

pub returns-in-Err-TooLong-clause-read_failed : goal.returns-in-Err-TooLong-clause-read_failed
returns-in-Err-TooLong-clause-read_failed g c = λ file is. absurd (no_failed_read c.args.too_long file c.requires is)
