use Rattle.std.proofs.Common.{◌≡◌, ◌∙◌, codes, refl}
use Rattle.std.proofs.lemmas.Result.{err_from_is_err_and}
use Rattle.jm_reading.specs.Reading.{mark_at}
use Rattle.jm_spec.specs.Rules.{list_at}
use Rattle.jm_spec.proofs.TakeLemmas.{fails_first}
use Rattle.jm_spec.proofs.head.list.Goals as goal

pub returns-in_err-mark : goal.returns-in_err-mark
unfolding list_at
returns-in_err-mark c =
    let p = err_from_is_err_and c.from_residual.result c.from_residual.ensures.1 in
    let old = c.args.cursor.now in
    rw (p.1, p.2) (fails_first c.in_err-mark.field-0.0 (mark_at old.bytes.now (codes "(") old.rest.now) _ c.in_err-mark.ensures.reads)

pub returns : goal.returns
unfolding list_at
returns c =
    let old = c.args.cursor.now in
    let opened : c.mark.new.self.bytes.now ≡ old.bytes.now = c.in_ok-mark.ensures.one.bytes in
    let before : c.params.new.cursor.bytes.now ≡ old.bytes.now = c.in_ok-names.ensures.0 ∙ opened in
    let all = rw opened at c.in_ok-names.ensures.1 in
    let closed = rw before at c.in_ok-mark-2.ensures.reads in
    (c.in_ok-mark-2.ensures.one.bytes ∙ before, rw (c.in_ok-mark.ensures.reads, all, closed) refl)
