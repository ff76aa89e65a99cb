use Rattle.std.proofs.Common.{ℕ, ◌<◌, ◌↔◌, Bool, true, false, All, Contains, List, length, sym, ap, subst, ◌∙◌, rules}
use Rattle.std.proofs.lemmas.List.{length-map}
use Rattle.jm_table.specs.Tables.{Transitions}
use Rattle.jm_table.proofs.MemberLemmas.{members_within}
use Rattle.jm_ere.specs.NormalForms.{is_nullable}
use Rattle.jm_ere.specs.Groups.{AreLive}
use Rattle.jm_ere.proofs.CompileLemmas.{flagged, first_live, has_groups}
use Rattle.jm_ere.proofs.compile.add_groups.Goals as goal

pub add_group-requires-clause-states : goal.add_group-requires-clause-states
add_group-requires-clause-states c = subst (λ (l : List ℕ). All (λ state. state < c.args.table.now.states) l) (sym c.as_slice-3.ensures.value)
    (members_within _ c.as_slice.result.now c.args.table.now.states c.in_ok-matched.matched.items
    (sym (ap (λ (l : List Bool). length l) (c.as_slice.ensures.value ∙ c.in_ok-live.ensures.flags) ∙ length-map c.args.forms.now is_nullable ∙ sym c.requires.states)) c.in_ok-matched.ensures)

pub add_group-requires-2-clause-states : goal.add_group-requires-2-clause-states
add_group-requires-2-clause-states c =
    let sound : AreLive c.args.table.now c.args.forms.now c.close_backward.new.live.items =
    c.close_backward.ensures.live c.args.forms.now (subst (λ (l : List Bool). AreLive c.args.table.now c.args.forms.now l) (sym c.in_ok-live.ensures.flags) (first_live c.args.table.now c.args.forms.now)) in
    subst (λ (l : List ℕ). All (λ state. state < c.add_group.new.self.states) l) (sym c.as_slice-4.ensures.value)
    (members_within _ c.as_slice-2.result.now c.add_group.new.self.states c.in_ok-failed.failed.items
    (sym (ap (λ (l : List Bool). length l) c.as_slice-2.ensures.value ∙ sound.many ∙ sym c.requires.states ∙ sym (ap (λ (x : Transitions). x.states) c.in_ok-add_group.ensures.ok.1))) c.in_ok-failed.ensures)

pub returns-clause-groups : goal.returns-clause-groups
returns-clause-groups c =
    let before = c.args.table.now in
    let forms = c.args.forms.now in
    let first = c.in_ok-add_group.ensures.ok in
    let second = c.in_ok-add_group-2.ensures.ok in
    let sound : AreLive before forms c.close_backward.new.live.items =
    c.close_backward.ensures.live forms (subst (λ (l : List Bool). AreLive before forms l) (sym c.in_ok-live.ensures.flags) (first_live before forms)) in
    has_groups forms before c.add_group.new.self c.add_group-2.new.self c.as_slice.result.now c.as_slice-2.result.now first.0 second.0 c.in_ok-matched.matched.items c.in_ok-failed.failed.items
    c.requires.states c.requires.groups (c.as_slice.ensures.value ∙ c.in_ok-live.ensures.flags)
    (flagged _ c.as_slice.result.now true c.in_ok-matched.matched.items (λ b says. search rules) (λ b says. search rules) c.in_ok-matched.ensures)
    (flagged _ c.as_slice-2.result.now false c.in_ok-failed.failed.items (λ b says. search rules) (λ b says. search rules) c.in_ok-failed.ensures)
    (rw c.as_slice-2.ensures.value sound) (rw c.as_slice-2.ensures.value c.close_backward.ensures.closed)
    first.1 (subst (λ (l : List ℕ). (s : ℕ) → Contains first.0 s ↔ Contains l s) c.as_slice-3.ensures.value first.2)
    second.1 (subst (λ (l : List ℕ). (s : ℕ) → Contains second.0 s ↔ Contains l s) c.as_slice-4.ensures.value second.2)
