use Rattle.std.proofs.Common.{arith}
use Rattle.std.proofs.lemmas.Bool.{eqb-true}
use Rattle.jm_index.proofs.FlagLemmas.{known_more, known_block}
use Rattle.jm_index.proofs.flags.Flags.has_dead_of_block.Goals as goal

pub loop-index-init : goal.loop-index-init
loop-index-init c = λ none i j low high. absurd (omega (arith, low, high))

pub loop-index-preserved : goal.loop-index-preserved
loop-index-preserved c = λ none. known_more _ _ _ _ _ (c.type_inv.known c.loop-index.index).fits c.loop-index.invariant none

pub returns : goal.returns
returns c = λ is o at gone within.
    known_block _ _ _ _ _ _ c.min-end.result o c.self.view_is c.as_slice-known.ensures.value c.words-dead.ensures.room c.words-dead.ensures.flags (rw (← c.min.ensures) c.min-end.ensures)
    (λ i j low high bit one. c.loop-index.invariant (eqb-true _ 0 is) i j low (omega (arith, high, c.loop-index-test.false)) bit one) at gone within
