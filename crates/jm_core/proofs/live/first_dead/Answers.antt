use Rattle.std.proofs.Common.{◌≡◌, ◌+◌, ℕ, false, take, sym, ◌∙◌, subst, arith, add-one}
use Rattle.std.specs.Prelude.{Some, None}
use Rattle.std.proofs.lemmas.List.{take_all}
use Rattle.std.proofs.lemmas.Option.{get_or_from_slice_get, same_Some}
use Rattle.jm_model.specs.Bindings.{object_at}
use Rattle.jm_marks.specs.Marks.{is_dead_object}
use Rattle.jm_core.specs.Inside.{first_dead_by}
use Rattle.jm_core.proofs.FlagLemmas.{found_first, none_dead, none_yet}
use Rattle.jm_core.proofs.live.first_dead.Goals as goal
use Rattle.jm_core.proofs.live.first_dead.Goals.{in-Some+else-is_dead, in_default}

pub returns-then-not-any_dead : goal.returns-then-not-any_dead
returns-then-not-any_dead c = sym (none_dead c.args.objects.now c.args.binding.now (c.any_dead.ensures c.if-not-any_dead.true))

pub is_dead-requires : goal.is_dead-requires
is_dead-requires c = c.requires.in_range c.in-Some.object (c.loop-p.p, sym c.get.ensures ∙ c.in-Some.is)

pub returns-then-is_dead : goal.returns-then-is_dead
returns-then-is_dead c =
    let dead = c.args.objects.now in
    let o = c.in-Some.object in
    sym (found_first (is_dead_object dead) c.args.binding.now c.loop-p.p o c.loop-p.invariant (sym c.get.ensures ∙ c.in-Some.is)
    (get_or_from_slice_get dead o c.is_dead.result false c.is_dead.ensures ∙ c.if-is_dead.true))

pub loop-p-preserved : goal.loop-p-preserved
loop-p-preserved c =
    let dead = c.args.objects.now in
    let b = c.args.binding.now in
    let p = c.loop-p.p in
    let more : ((o : ℕ) → object_at b p ≡ Some o → is_dead_object dead o ≡ false) → first_dead_by dead (take (p + 1) b) ≡ None = λ here.
    subst (λ n. first_dead_by dead (take n b) ≡ None) (sym (add-one p)) (none_yet (is_dead_object dead) b p c.loop-p.invariant here) in
    elim c.match-get.branch [
      | in-Some+else-is_dead w ↦ more (λ o at. subst (λ q. is_dead_object dead q ≡ false) (same_Some w.in-Some.object o (sym w.in-Some.is ∙ c.get.ensures ∙ at))
          (get_or_from_slice_get dead w.in-Some.object w.is_dead.result false w.is_dead.ensures ∙ w.if-is_dead.false))
      | in_default w ↦ more (λ o at. absurd (w.in_default.not-Some o (c.get.ensures ∙ at)))
    ]

pub returns : goal.returns
returns c =
    let b = c.args.binding.now in
    sym (subst (λ l. first_dead_by c.args.objects.now l ≡ None) (take_all c.loop-p.p b (omega (arith, c.requires.eight, c.loop-p-test.false))) c.loop-p.invariant)
