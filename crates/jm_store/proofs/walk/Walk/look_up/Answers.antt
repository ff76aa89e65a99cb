use Rattle.std.proofs.Common.{◌≡◌, ℕ, ◌%◌, sym, subst, arith}
use Rattle.std.specs.Prelude.{slice_index_or}
use Rattle.std.specs.Int.{bit_at}
use Rattle.std.proofs.lemmas.Bool.{eqb-true}
use Rattle.jm_store.specs.declared.walk.Turn.{Turn}
use Rattle.jm_model.specs.Numbers.{no_number}
use Rattle.jm_model.specs.Bindings.{mask_of}
use Rattle.jm_store.proofs.WalkLemmas.{noted}
use Rattle.jm_store.proofs.walk.Walk.look_up.Goals as goal

pub returns-then-end_all-clause-turns : goal.returns-then-end_all-clause-turns
returns-then-end_all-clause-turns g c =
    let walk = c.args.self.now in
    let number = c.args.number in
    let next = c.number_at-next.result in
    let turn : Turn = record { from = number; to = next } in
    noted walk.plain.now walk.ends walk.endings.now c.args.turns.now c.note_turn.new.turns (number % 16) turn c.requires.turns c.note_turn.ensures.at_key c.note_turn.ensures.others
    (λ low. (c.number_at-next.ensures (λ (is : next ≡ no_number). omega (arith, is, c.if-next-ge-AT_REST.false)), omega (arith, c.if-next-ge-AT_REST.false), c.end_all.ensures c.if-end_all.true))

pub returns-then-end_all-2-clause-over : goal.returns-then-end_all-2-clause-over
returns-then-end_all-2-clause-over g c = λ known moves e ends.
    let ending = c.args.self.now.ending.now in
    c.end_all-2.ensures c.if-end_all-2.true e (subst (λ (n : ℕ). bit_at (slice_index_or ending n 0) e ≡ 1) (sym c.mask.ensures.value) (eqb-true (bit_at (slice_index_or ending (mask_of c.args.instance.now) 0) e) 1 ends))
