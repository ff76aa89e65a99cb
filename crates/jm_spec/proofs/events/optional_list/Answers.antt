use Rattle.std.proofs.Common.{refl, sym, ◌∙◌}
use Rattle.jm_spec.specs.Rules.{list_at, optional_list_at}
use Rattle.jm_spec.proofs.TakeLemmas.{takes_same}
use Rattle.jm_spec.proofs.events.optional_list.Goals as goal

pub returns-then-not-is_mark_at : goal.returns-then-not-is_mark_at
unfolding optional_list_at
returns-then-not-is_mark_at c = (refl, rw (sym c.is_mark_at.ensures ∙ c.if-not-is_mark_at.true) refl)

pub returns : goal.returns
unfolding optional_list_at
returns c =
    let old = c.args.cursor.now in
    takes_same old old c.list.new.cursor c.list.result (list_at c.args.names) (optional_list_at c.args.names) refl (rw (sym c.is_mark_at.ensures ∙ c.if-not-is_mark_at.false) refl) c.list.ensures
