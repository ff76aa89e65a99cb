use Rattle.std.proofs.Common.{sym, ◌∙◌, ap}
use Rattle.testkit_monitor.specs.Tables.{next_state}
use Rattle.testkit_monitor.proofs.TableLemmas.{state_from-push, has_letter-push}
use Rattle.testkit_monitor.proofs.table.TableMonitor.next.Goals as goal

pub returns : goal.returns
returns c = λ w stands.
    (c.next_state.ensures ∙ ap (λ s. next_state c.args.self.now s c.args.letter.0) stands.0 ∙ sym (state_from-push c.args.self.now 0 w c.args.letter.0), sym (has_letter-push w c.args.letter.0))
