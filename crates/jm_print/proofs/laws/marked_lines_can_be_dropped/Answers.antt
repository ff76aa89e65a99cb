use Rattle.std.proofs.Common.{◌∙◌, ap, sym, append-nil}
use Rattle.jm_print.specs.Texts.{history_text}
use Rattle.jm_print.specs.Unmarked.{unmarked}
use Rattle.jm_print.proofs.TextsTold.{lines-told, unmarked-history}
use Rattle.jm_print.proofs.laws.marked_lines_can_be_dropped.Goals as goal

pub returns-clause-dropped : goal.returns-clause-dropped
returns-clause-dropped c = λ l h names told plain. ap unmarked (sym (append-nil (history_text l h))) ∙ unmarked-history l h names told plain

pub returns-clause-kept : goal.returns-clause-kept
returns-clause-kept c =
    λ l h other names m n e. lines-told l h other names m n (ap unmarked (append-nil (history_text l h)) ∙ e ∙ ap unmarked (sym (append-nil (history_text l other))))
