use Rattle.std.proofs.Common.{◌≡◌, ℕ, true, Some, refl, sym, ap, ◌∙◌, subst}
use Rattle.std.specs.Prelude.{slice_index}
use Rattle.std.proofs.lemmas.Bool.{both_ways}
use Rattle.jm_model.specs.Bindings.{is_below}
use Rattle.std.proofs.lemmas.List.{get_or_default}
use Rattle.jm_awake.specs.Awake.{SlotList, Lists, no_list, list_at, path_in}
use Rattle.jm_awake.proofs.AwakeLemmas.{never_taken, only_taken, takes_true}
use Rattle.jm_awake.proofs.awake.Awake.taking.Goals as goal

pub returns-in_err-place-clause-only : goal.returns-in_err-place-clause-only
returns-in_err-place-clause-only c = λ found p kept takes.
    absurd (never_taken c.args.self.now c.args.letter c.args.instance.now c.path_within.result (c.path_within.ensures ∙ ap (λ (a : Lists). path_in c.args.instance.now (slice_index a.masks c.args.letter)) c.self.view_is) (c.in_err-place.ensures.none refl)
    found p kept takes)

pub returns-then-takes-clause-only : goal.returns-then-takes-clause-only
returns-then-takes-clause-only c = λ found p kept takes.
    ap (λ (n : ℕ). Some n)
    (only_taken c.args.self.now c.args.letter c.args.instance.now c.path_within.result c.in_ok-place.place (c.path_within.ensures ∙ ap (λ (a : Lists). path_in c.args.instance.now (slice_index a.masks c.args.letter)) c.self.view_is) c.in_ok-place.ensures.number
    found p kept takes)

pub returns-else-takes-clause-only : goal.returns-else-takes-clause-only
returns-else-takes-clause-only c = λ found p kept takes.
    let is =
    only_taken c.args.self.now c.args.letter c.args.instance.now c.path_within.result c.in_ok-place.place (c.path_within.ensures ∙ ap (λ (a : Lists). path_in c.args.instance.now (slice_index a.masks c.args.letter)) c.self.view_is) c.in_ok-place.ensures.number
    found p kept takes
    in
    let low = rw (← c.self.view_is) at c.in_ok-place.ensures.within in
    let own : c.index.result.now ≡ list_at c.args.self.now p =
    c.index.ensures ∙ get_or_default c.self.inside.lists.items c.in_ok-place.place c.index.result.now no_list low ∙ ap (λ (a : Lists). list_at a c.in_ok-place.place) c.self.view_is ∙ ap (list_at c.args.self.now) is
    in
    absurd (both_ways c.takes.result c.if-takes.false
    (c.takes.ensures ∙ takes_true c.index.result.now c.args.letter c.args.instance.now (ap (λ (l : SlotList). l.is_kept) own ∙ kept) (ap (λ (l : SlotList). l.letter) own ∙ takes.letter) (subst (λ (l : SlotList). is_below l.binding c.args.instance.now ≡ true) (sym own) takes.below)))
