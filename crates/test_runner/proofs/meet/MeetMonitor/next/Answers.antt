use Rattle.std.proofs.Common.{sym}
use Rattle.testkit_monitor.proofs.TableLemmas.{has_letter-push}
use Rattle.test_runner.proofs.meet.MeetMonitor.next.Goals as goal

pub returns-then-not-comes : goal.returns-then-not-comes
returns-then-not-comes c = λ w stands. sym (has_letter-push w c.args.letter.0)

pub returns-else-not-comes : goal.returns-else-not-comes
returns-else-not-comes c = λ w stands. sym (has_letter-push w c.args.letter.0)
