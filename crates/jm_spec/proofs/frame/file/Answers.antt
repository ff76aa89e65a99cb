use Rattle.std.proofs.Common.{◌≡◌, ◌∙◌, [], codes, sym}
use Rattle.std.proofs.lemmas.Result.{err_from_is_err_and}
use Rattle.jm_reading.specs.Reading.{mark_at, name_at}
use Rattle.jm_spec.specs.Rules.{clauses_at, modifiers_at, list_at, members_at, properties_at, frame_at}
use Rattle.jm_spec.proofs.TakeLemmas.{fails_first, fails_at_none, none_behind, some_behind}
use Rattle.jm_spec.proofs.frame.file.Goals as goal

pub returns-in_err-fold_many : goal.returns-in_err-fold_many
unfolding frame_at
returns-in_err-fold_many c =
    let p = err_from_is_err_and c.from_residual.result c.from_residual.ensures.1 in
    let old = c.args.cursor.now in
    rw (p.1, p.2) (fails_first c.in_err-fold_many.field-0.0 (clauses_at old.bytes.now old.rest.now) _ c.in_err-fold_many.ensures)

pub returns-in_err-modifiers : goal.returns-in_err-modifiers
unfolding frame_at
returns-in_err-modifiers c =
    let p = err_from_is_err_and c.from_residual-in_err-modifiers.result c.from_residual-in_err-modifiers.ensures.1 in
    let old = c.args.cursor.now in
    let one : c.fold_many.new.cursor.bytes.now ≡ old.bytes.now = c.in_ok-fold_many.ensures.0 in
    let here = rw (one, c.new.ensures) at c.in_err-modifiers.ensures in
    rw (p.1, p.2, c.in_ok-fold_many.ensures.1) (fails_first c.in_err-modifiers.field-0.0 (modifiers_at old.bytes.now c.fold_many.new.cursor.rest.now) _ here)

pub returns-in_err-name : goal.returns-in_err-name
unfolding frame_at
returns-in_err-name c =
    let p = err_from_is_err_and c.from_residual-in_err-name.result c.from_residual-in_err-name.ensures.1 in
    let old = c.args.cursor.now in
    let one : c.fold_many.new.cursor.bytes.now ≡ old.bytes.now = c.in_ok-fold_many.ensures.0 in
    let two : c.fold_many-2.new.cursor.bytes.now ≡ old.bytes.now = c.in_ok-modifiers.ensures.0 ∙ one in
    let modifiers = rw (one, c.new.ensures) at c.in_ok-modifiers.ensures.1 in
    let here = rw two at c.in_err-name.ensures.reads in
    rw (p.1, p.2, c.in_ok-fold_many.ensures.1, modifiers) (fails_first c.in_err-name.field-0.0 (name_at old.bytes.now c.fold_many-2.new.cursor.rest.now) _ here)

pub returns-in_err-params : goal.returns-in_err-params
unfolding frame_at
returns-in_err-params c =
    let p = err_from_is_err_and c.from_residual-in_err-params.result c.from_residual-in_err-params.ensures.1 in
    let old = c.args.cursor.now in
    let one : c.fold_many.new.cursor.bytes.now ≡ old.bytes.now = c.in_ok-fold_many.ensures.0 in
    let two : c.fold_many-2.new.cursor.bytes.now ≡ old.bytes.now = c.in_ok-modifiers.ensures.0 ∙ one in
    let three : c.name.new.self.bytes.now ≡ old.bytes.now = c.in_ok-name.ensures.one.bytes ∙ two in
    let modifiers = rw (one, c.new.ensures) at c.in_ok-modifiers.ensures.1 in
    let name = rw two at c.in_ok-name.ensures.reads in
    let here = rw (three, c.new-2.ensures) at c.in_err-params.ensures in
    rw (p.1, p.2, c.in_ok-fold_many.ensures.1, modifiers, name) (fails_first c.in_err-params.field-0.0 (list_at [] old.bytes.now c.name.new.self.rest.now) _ here)

pub returns-in_err-mark : goal.returns-in_err-mark
unfolding frame_at
returns-in_err-mark c =
    let p = err_from_is_err_and c.from_residual-in_err-mark.result c.from_residual-in_err-mark.ensures.1 in
    let old = c.args.cursor.now in
    let one : c.fold_many.new.cursor.bytes.now ≡ old.bytes.now = c.in_ok-fold_many.ensures.0 in
    let two : c.fold_many-2.new.cursor.bytes.now ≡ old.bytes.now = c.in_ok-modifiers.ensures.0 ∙ one in
    let three : c.name.new.self.bytes.now ≡ old.bytes.now = c.in_ok-name.ensures.one.bytes ∙ two in
    let four : c.list.new.cursor.bytes.now ≡ old.bytes.now = c.in_ok-params.ensures.0 ∙ three in
    let modifiers = rw (one, c.new.ensures) at c.in_ok-modifiers.ensures.1 in
    let name = rw two at c.in_ok-name.ensures.reads in
    let params = rw (three, c.new-2.ensures) at c.in_ok-params.ensures.1 in
    let here = rw four at c.in_err-mark.ensures.reads in
    rw (p.1, p.2, c.in_ok-fold_many.ensures.1, modifiers, name, params) (fails_first c.in_err-mark.field-0.0 (mark_at old.bytes.now (codes "{") c.list.new.cursor.rest.now) _ here)

pub returns-in_err-events : goal.returns-in_err-events
unfolding frame_at
returns-in_err-events c =
    let p = err_from_is_err_and c.from_residual-in_err-events.result c.from_residual-in_err-events.ensures.1 in
    let old = c.args.cursor.now in
    let one : c.fold_many.new.cursor.bytes.now ≡ old.bytes.now = c.in_ok-fold_many.ensures.0 in
    let two : c.fold_many-2.new.cursor.bytes.now ≡ old.bytes.now = c.in_ok-modifiers.ensures.0 ∙ one in
    let three : c.name.new.self.bytes.now ≡ old.bytes.now = c.in_ok-name.ensures.one.bytes ∙ two in
    let four : c.list.new.cursor.bytes.now ≡ old.bytes.now = c.in_ok-params.ensures.0 ∙ three in
    let five : c.mark.new.self.bytes.now ≡ old.bytes.now = c.in_ok-mark.ensures.one.bytes ∙ four in
    let modifiers = rw (one, c.new.ensures) at c.in_ok-modifiers.ensures.1 in
    let name = rw two at c.in_ok-name.ensures.reads in
    let params = rw (three, c.new-2.ensures) at c.in_ok-params.ensures.1 in
    let opened = rw four at c.in_ok-mark.ensures.reads in
    let here = rw (five, c.new-3.ensures) at c.in_err-events.ensures in
    rw (p.1, p.2, c.in_ok-fold_many.ensures.1, modifiers, name, params, opened) (fails_first c.in_err-events.field-0.0 (members_at old.bytes.now c.mark.new.self.rest.now) _ here)

pub returns-in_err-properties : goal.returns-in_err-properties
unfolding frame_at
returns-in_err-properties c =
    let p = err_from_is_err_and c.from_residual-in_err-properties.result c.from_residual-in_err-properties.ensures.1 in
    let old = c.args.cursor.now in
    let one : c.fold_many.new.cursor.bytes.now ≡ old.bytes.now = c.in_ok-fold_many.ensures.0 in
    let two : c.fold_many-2.new.cursor.bytes.now ≡ old.bytes.now = c.in_ok-modifiers.ensures.0 ∙ one in
    let three : c.name.new.self.bytes.now ≡ old.bytes.now = c.in_ok-name.ensures.one.bytes ∙ two in
    let four : c.list.new.cursor.bytes.now ≡ old.bytes.now = c.in_ok-params.ensures.0 ∙ three in
    let five : c.mark.new.self.bytes.now ≡ old.bytes.now = c.in_ok-mark.ensures.one.bytes ∙ four in
    let six : c.fold_many-3.new.cursor.bytes.now ≡ old.bytes.now = c.in_ok-events.ensures.0 ∙ five in
    let modifiers = rw (one, c.new.ensures) at c.in_ok-modifiers.ensures.1 in
    let name = rw two at c.in_ok-name.ensures.reads in
    let params = rw (three, c.new-2.ensures) at c.in_ok-params.ensures.1 in
    let opened = rw four at c.in_ok-mark.ensures.reads in
    let events = rw (five, c.new-3.ensures) at c.in_ok-events.ensures.1 in
    let here = rw (six, c.new-4.ensures) at c.in_err-properties.ensures in
    rw (p.1, p.2, c.in_ok-fold_many.ensures.1, modifiers, name, params, opened, events) (fails_first c.in_err-properties.field-0.0 (properties_at c.args.total old.bytes.now c.fold_many-3.new.cursor.rest.now) _ here)

pub returns-in_err-mark-2 : goal.returns-in_err-mark-2
unfolding frame_at
returns-in_err-mark-2 c =
    let p = err_from_is_err_and c.from_residual-in_err-mark-2.result c.from_residual-in_err-mark-2.ensures.1 in
    let old = c.args.cursor.now in
    let one : c.fold_many.new.cursor.bytes.now ≡ old.bytes.now = c.in_ok-fold_many.ensures.0 in
    let two : c.fold_many-2.new.cursor.bytes.now ≡ old.bytes.now = c.in_ok-modifiers.ensures.0 ∙ one in
    let three : c.name.new.self.bytes.now ≡ old.bytes.now = c.in_ok-name.ensures.one.bytes ∙ two in
    let four : c.list.new.cursor.bytes.now ≡ old.bytes.now = c.in_ok-params.ensures.0 ∙ three in
    let five : c.mark.new.self.bytes.now ≡ old.bytes.now = c.in_ok-mark.ensures.one.bytes ∙ four in
    let six : c.fold_many-3.new.cursor.bytes.now ≡ old.bytes.now = c.in_ok-events.ensures.0 ∙ five in
    let seven : c.fold_many-4.new.cursor.bytes.now ≡ old.bytes.now = c.in_ok-properties.ensures.0 ∙ six in
    let modifiers = rw (one, c.new.ensures) at c.in_ok-modifiers.ensures.1 in
    let name = rw two at c.in_ok-name.ensures.reads in
    let params = rw (three, c.new-2.ensures) at c.in_ok-params.ensures.1 in
    let opened = rw four at c.in_ok-mark.ensures.reads in
    let events = rw (five, c.new-3.ensures) at c.in_ok-events.ensures.1 in
    let properties = rw (six, c.new-4.ensures) at c.in_ok-properties.ensures.1 in
    let here = rw seven at c.in_err-mark-2.ensures.reads in
    rw (p.1, p.2, c.in_ok-fold_many.ensures.1, modifiers, name, params, opened, events, properties) (fails_first c.in_err-mark-2.field-0.0 (mark_at old.bytes.now (codes "}") c.fold_many-4.new.cursor.rest.now) _ here)

pub returns-then-is_left : goal.returns-then-is_left
unfolding frame_at
returns-then-is_left c =
    let old = c.args.cursor.now in
    let one : c.fold_many.new.cursor.bytes.now ≡ old.bytes.now = c.in_ok-fold_many.ensures.0 in
    let two : c.fold_many-2.new.cursor.bytes.now ≡ old.bytes.now = c.in_ok-modifiers.ensures.0 ∙ one in
    let three : c.name.new.self.bytes.now ≡ old.bytes.now = c.in_ok-name.ensures.one.bytes ∙ two in
    let four : c.list.new.cursor.bytes.now ≡ old.bytes.now = c.in_ok-params.ensures.0 ∙ three in
    let five : c.mark.new.self.bytes.now ≡ old.bytes.now = c.in_ok-mark.ensures.one.bytes ∙ four in
    let six : c.fold_many-3.new.cursor.bytes.now ≡ old.bytes.now = c.in_ok-events.ensures.0 ∙ five in
    let seven : c.fold_many-4.new.cursor.bytes.now ≡ old.bytes.now = c.in_ok-properties.ensures.0 ∙ six in
    let modifiers = rw (one, c.new.ensures) at c.in_ok-modifiers.ensures.1 in
    let name = rw two at c.in_ok-name.ensures.reads in
    let params = rw (three, c.new-2.ensures) at c.in_ok-params.ensures.1 in
    let opened = rw four at c.in_ok-mark.ensures.reads in
    let events = rw (five, c.new-3.ensures) at c.in_ok-events.ensures.1 in
    let properties = rw (six, c.new-4.ensures) at c.in_ok-properties.ensures.1 in
    let closed = rw seven at c.in_ok-mark-2.ensures.reads in
    fails_at_none c.syntax.result (frame_at c.args.total old.bytes.now old.rest.now) c.syntax.ensures.is
    (rw (c.in_ok-fold_many.ensures.1, modifiers, name, params, opened, events, properties, closed) (some_behind _ c.mark-2.new.self.bytes.now c.mark-2.new.self.rest.now (sym c.is_left.ensures ∙ c.if-is_left.true)))

pub returns : goal.returns
unfolding frame_at
returns c =
    let old = c.args.cursor.now in
    let one : c.fold_many.new.cursor.bytes.now ≡ old.bytes.now = c.in_ok-fold_many.ensures.0 in
    let two : c.fold_many-2.new.cursor.bytes.now ≡ old.bytes.now = c.in_ok-modifiers.ensures.0 ∙ one in
    let three : c.name.new.self.bytes.now ≡ old.bytes.now = c.in_ok-name.ensures.one.bytes ∙ two in
    let four : c.list.new.cursor.bytes.now ≡ old.bytes.now = c.in_ok-params.ensures.0 ∙ three in
    let five : c.mark.new.self.bytes.now ≡ old.bytes.now = c.in_ok-mark.ensures.one.bytes ∙ four in
    let six : c.fold_many-3.new.cursor.bytes.now ≡ old.bytes.now = c.in_ok-events.ensures.0 ∙ five in
    let seven : c.fold_many-4.new.cursor.bytes.now ≡ old.bytes.now = c.in_ok-properties.ensures.0 ∙ six in
    let modifiers = rw (one, c.new.ensures) at c.in_ok-modifiers.ensures.1 in
    let name = rw two at c.in_ok-name.ensures.reads in
    let params = rw (three, c.new-2.ensures) at c.in_ok-params.ensures.1 in
    let opened = rw four at c.in_ok-mark.ensures.reads in
    let events = rw (five, c.new-3.ensures) at c.in_ok-events.ensures.1 in
    let properties = rw (six, c.new-4.ensures) at c.in_ok-properties.ensures.1 in
    let closed = rw seven at c.in_ok-mark-2.ensures.reads in
    rw (c.in_ok-fold_many.ensures.1, modifiers, name, params, opened, events, properties, closed) (none_behind _ c.mark-2.new.self.bytes.now c.mark-2.new.self.rest.now (sym c.is_left.ensures ∙ c.if-is_left.false))
