use Rattle.std.proofs.Common.{ℕ, ◌≡◌, ◌==◌, ◌<◌, Bool, true, length, sym, ◌∙◌, ap, subst}
use Rattle.std.specs.Prelude.{◌&&◌}
use Rattle.std.specs.Int.{bit_at}
use Rattle.std.proofs.lemmas.Option.{slice_get_within, get_or_from_slice_get}
use Rattle.jm_coenable.specs.Needs.{is_in_group}
use Rattle.jm_coenable.proofs.ResetLemmas.{in_group_is, same_at}
use Rattle.jm_coenable.proofs.property.resets.Goals as goal

pub in_group-requires-clause-group : goal.in_group-requires-clause-group
in_group-requires-clause-group c =
    let groups = c.args.goal.now.groups in
    let at = c.group.ensures in
    subst (λ (n : ℕ). n < length c.args.table.now.groups) (get_or_from_slice_get groups c.args.handler c.group.result c.group.result at)
    (c.requires.groups c.args.handler c.group.result (slice_get_within groups c.args.handler c.group.result at))

pub returns-then-contains : goal.returns-then-contains
returns-then-contains c = λ group at.
    let t = c.args.table.now in
    let bits = c.args.goal.now.resets in
    let bit : (bit_at bits c.args.handler == 1) ≡ true =
    subst (λ (n : ℕ). (bit_at n c.args.handler == 1) ≡ true) (c.from.ensures ∙ c.resets.ensures) (sym c.contains.ensures ∙ c.if-contains.true) in
    let here = in_group_is t c.args.state c.group.result c.in_group.result c.in_group.ensures in
    let same = same_at c.args.goal.now.groups c.args.handler c.group.result group c.group.ensures at in
    here ∙ ap (λ (n : ℕ). is_in_group t c.args.state n) same
    ∙ ap (λ (b : Bool). b && is_in_group t c.args.state group) (sym bit)
