use Rattle.std.proofs.Common.{◌≡◌, ◌∙◌, [], codes, refl}
use Rattle.std.proofs.lemmas.Result.{err_from_is_err_and}
use Rattle.jm_spec.specs.Reading.{any_word_at}
use Rattle.jm_spec.specs.Rules.{list_at, outcome_at, pointcut_at, after_at}
use Rattle.jm_spec.proofs.TakeLemmas.{fails_first}
use Rattle.jm_spec.proofs.events.after.Goals as goal

pub returns-in_err-any_word : goal.returns-in_err-any_word
unfolding after_at
returns-in_err-any_word c =
    let p = err_from_is_err_and c.from_residual.result c.from_residual.ensures.1 in
    let old = c.args.cursor.now in
    rw (p.1, p.2) (fails_first c.in_err-any_word.field-0.0 (any_word_at old.rest.now) _ c.in_err-any_word.ensures.reads)

pub returns-in_err-names : goal.returns-in_err-names
unfolding after_at
returns-in_err-names c =
    let p = err_from_is_err_and c.from_residual-in_err-names.result c.from_residual-in_err-names.ensures.1 in
    let old = c.args.cursor.now in
    let one : c.any_word.new.cursor.bytes.now ≡ old.bytes.now = c.in_ok-any_word.ensures.bytes in
    let here = rw (one, c.new.ensures) at c.in_err-names.ensures in
    rw (p.1, p.2, c.in_ok-any_word.ensures.reads) (fails_first c.in_err-names.field-0.0 (list_at [] old.bytes.now c.any_word.new.cursor.rest.now) _ here)

pub returns-in_err-returned : goal.returns-in_err-returned
unfolding after_at
returns-in_err-returned c =
    let p = err_from_is_err_and c.from_residual-in_err-returned.result c.from_residual-in_err-returned.ensures.1 in
    let old = c.args.cursor.now in
    let one : c.any_word.new.cursor.bytes.now ≡ old.bytes.now = c.in_ok-any_word.ensures.bytes in
    let two : c.list.new.cursor.bytes.now ≡ old.bytes.now = c.in_ok-names.ensures.0 ∙ one in
    let names = rw (one, c.new.ensures) at c.in_ok-names.ensures.1 in
    let here = rw two at c.in_err-returned.ensures in
    rw (p.1, p.2, c.in_ok-any_word.ensures.reads, names) (fails_first c.in_err-returned.field-0.0 (outcome_at (codes "returning") c.in_ok-names.names old.bytes.now c.list.new.cursor.rest.now) _ here)

pub returns-in_err-thrown : goal.returns-in_err-thrown
unfolding after_at
returns-in_err-thrown c =
    let p = err_from_is_err_and c.from_residual-in_err-thrown.result c.from_residual-in_err-thrown.ensures.1 in
    let old = c.args.cursor.now in
    let one : c.any_word.new.cursor.bytes.now ≡ old.bytes.now = c.in_ok-any_word.ensures.bytes in
    let two : c.list.new.cursor.bytes.now ≡ old.bytes.now = c.in_ok-names.ensures.0 ∙ one in
    let names = rw (one, c.new.ensures) at c.in_ok-names.ensures.1 in
    let three : c.outcome.new.cursor.bytes.now ≡ old.bytes.now = c.in_ok-returned.ensures.0 ∙ two in
    let returned = rw two at c.in_ok-returned.ensures.1 in
    let here = rw three at c.in_err-thrown.ensures in
    rw (p.1, p.2, c.in_ok-any_word.ensures.reads, names, returned) (fails_first c.in_err-thrown.field-0.0 (outcome_at (codes "throwing") c.in_ok-returned.returned old.bytes.now c.outcome.new.cursor.rest.now) _ here)

pub returns-in_err-pointcut : goal.returns-in_err-pointcut
unfolding after_at
returns-in_err-pointcut c =
    let p = err_from_is_err_and c.from_residual-in_err-pointcut.result c.from_residual-in_err-pointcut.ensures.1 in
    let old = c.args.cursor.now in
    let one : c.any_word.new.cursor.bytes.now ≡ old.bytes.now = c.in_ok-any_word.ensures.bytes in
    let two : c.list.new.cursor.bytes.now ≡ old.bytes.now = c.in_ok-names.ensures.0 ∙ one in
    let names = rw (one, c.new.ensures) at c.in_ok-names.ensures.1 in
    let three : c.outcome.new.cursor.bytes.now ≡ old.bytes.now = c.in_ok-returned.ensures.0 ∙ two in
    let returned = rw two at c.in_ok-returned.ensures.1 in
    let four : c.outcome-2.new.cursor.bytes.now ≡ old.bytes.now = c.in_ok-thrown.ensures.0 ∙ three in
    let thrown = rw three at c.in_ok-thrown.ensures.1 in
    let here = rw four at c.in_err-pointcut.ensures.reads in
    rw (p.1, p.2, c.in_ok-any_word.ensures.reads, names, returned, thrown) (fails_first c.in_err-pointcut.field-0.0 (pointcut_at old.bytes.now c.outcome-2.new.cursor.rest.now) _ here)

pub returns : goal.returns
unfolding after_at
returns c =
    let old = c.args.cursor.now in
    let one : c.any_word.new.cursor.bytes.now ≡ old.bytes.now = c.in_ok-any_word.ensures.bytes in
    let two : c.list.new.cursor.bytes.now ≡ old.bytes.now = c.in_ok-names.ensures.0 ∙ one in
    let names = rw (one, c.new.ensures) at c.in_ok-names.ensures.1 in
    let three : c.outcome.new.cursor.bytes.now ≡ old.bytes.now = c.in_ok-returned.ensures.0 ∙ two in
    let returned = rw two at c.in_ok-returned.ensures.1 in
    let four : c.outcome-2.new.cursor.bytes.now ≡ old.bytes.now = c.in_ok-thrown.ensures.0 ∙ three in
    let thrown = rw three at c.in_ok-thrown.ensures.1 in
    let rest = rw four at c.in_ok-pointcut.ensures.reads in
    (c.in_ok-pointcut.ensures.bytes ∙ four, rw (c.in_ok-any_word.ensures.reads, names, returned, thrown, rest) refl)
