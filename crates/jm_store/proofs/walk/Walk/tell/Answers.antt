use Rattle.std.proofs.Common.{◌≡◌, ℕ, ◌%◌, ◌<◌, sym, subst, arith}
use Rattle.std.specs.Prelude.{Some, slice_get}
use Rattle.jm_model.specs.Bindings.{mask_of}
use Rattle.jm_model.specs.Numbers.{at_rest, no_number}
use Rattle.jm_store.specs.Walks.{IsTurn}
use Rattle.jm_store.proofs.WalkLemmas.{like_by, rests_by, shifts_by, told_by}
use Rattle.jm_store.proofs.walk.Walk.tell.Goals as goal

pub returns-then-is_from-clause-told : goal.returns-then-is_from-clause-told
returns-then-is_from-clause-told g c =
    let walk = c.args.self.now in
    let m = g.M.Monitor.meaning (g.M.Monitor.definition walk.event.now.rules.now) in
    let Stands = g.M.Monitor.StandsFor walk.event.now.rules.now in
    let HasNumber = g.M.Monitor.HasNumber walk.event.now.rules.now in
    let base = c.args.base.now in
    let number = c.in-Some.number in
    let turn = c.turn_of-turn.result in
    let from = c.is_from.ensures.from c.if-is_from.true in
    let low : turn.from < 65536 = omega (arith, from, c.is_from.ensures.low) in
    let (found, less, all) = subst (IsTurn walk.plain.now walk.ends walk.endings.now) (sym c.turn_of-turn.ensures) (c.requires.turns (number % 16)) low in
    told_by m Stands HasNumber walk.event.now.letter.0 walk.event.now.objects.now walk.event.now.binding.now walk.ending.now c.args.asked.letters c.args.card.now base turn.to c.shifts_on.result c.shifts_on.ensures.told
    (λ told.
    shifts_by m Stands HasNumber walk.event.now.letter.0 walk.event.now.objects.now walk.event.now.binding.now walk.plain.now walk.ending.now walk.endings.now c.args.asked.letters c.args.card.now base number turn.to c.requires.rows
    c.in-Some.ensures c.requires.below (c.is_whole.ensures c.if-not-is_whole.false) (subst (λ (n : ℕ). slice_get walk.plain.now n ≡ Some turn.to) from found) less
    (like_by walk.ending.now (mask_of base.instance) walk.ends walk.endings.now turn.to c.requires.among all) (c.shifts_on.ensures.on told))

pub returns-then-number_at-clause-told : goal.returns-then-number_at-clause-told
returns-then-number_at-clause-told g c =
    let walk = c.args.self.now in
    let m = g.M.Monitor.meaning (g.M.Monitor.definition walk.event.now.rules.now) in
    let Stands = g.M.Monitor.StandsFor walk.event.now.rules.now in
    let number = c.in-Some.number in
    let rests : slice_get walk.plain.now number ≡ Some at_rest = subst (λ (n : ℕ). slice_get walk.plain.now number ≡ Some n) c.if-number_at.true (c.number_at.ensures (λ is. omega (arith, is, c.if-number_at.true))) in
    rests_by m Stands walk.event.now.letter.0 walk.event.now.objects.now walk.event.now.binding.now c.args.base.now c.requires.below (c.is_whole.ensures c.if-not-is_whole.false)
    (c.requires.rows.rests number rests c.args.base.now.state c.in-Some.ensures)

pub returns-clause-told : goal.returns-clause-told
returns-clause-told g c =
    let walk = c.args.self.now in
    let m = g.M.Monitor.meaning (g.M.Monitor.definition walk.event.now.rules.now) in
    let Stands = g.M.Monitor.StandsFor walk.event.now.rules.now in
    let HasNumber = g.M.Monitor.HasNumber walk.event.now.rules.now in
    let base = c.args.base.now in
    let number = c.in-Some.number in
    let next = c.look_up-next.result in
    let less : next < at_rest = omega (arith, c.if-next-ge-AT_REST.false) in
    let known : next ≡ no_number → ⊥ = λ is. omega (arith, is, less) in
    told_by m Stands HasNumber walk.event.now.letter.0 walk.event.now.objects.now walk.event.now.binding.now walk.ending.now c.args.asked.letters c.args.card.now base next c.shifts_on-2.result c.shifts_on-2.ensures.told
    (λ told.
    shifts_by m Stands HasNumber walk.event.now.letter.0 walk.event.now.objects.now walk.event.now.binding.now walk.plain.now walk.ending.now walk.endings.now c.args.asked.letters c.args.card.now base number next c.requires.rows
    c.in-Some.ensures c.requires.below (c.is_whole.ensures c.if-not-is_whole.false) (c.look_up-next.ensures.at known) less (c.look_up-next.ensures.over known (λ is. omega (arith, is, less))) (c.shifts_on-2.ensures.on told))
