use Rattle.std.proofs.Common.{ℕ, List, ◌↔◌, ◌+◌, ◌++◌, ◌∷◌, [], sym, subst, arith, length-append}
use Rattle.std.specs.Prelude.{IsBitSet}
use Rattle.jm_earley.specs.declared.letter_set.LetterSet.{LetterSet}
use Rattle.jm_earley.specs.DeadSets.{IsAvailable, IsLeft}
use Rattle.jm_earley.proofs.DeadLemmas.{AreLeft, one_more_left}
use Rattle.jm_earley.proofs.dead.DeadSets.new.Goals as goal

pub loop-dead-preserved : goal.loop-dead-preserved
loop-dead-preserved c =
    let params = c.args.params.now in
    let inv = c.loop-dead.invariant in
    let sets = c.loop-dead.sets.items in
    let found = c.in_ok-number.ensures.found in
    let kept = c.in_ok-number.ensures.kept in
    let here : IsLeft params c.number_of.new.sets.items c.loop-dead.dead c.in_ok-number.number = record {
      set = found.0;
      found = found.1;
      letters = subst (λ (letters : ℕ). (letter : ℕ) → IsBitSet letters letter ↔ IsAvailable params c.loop-dead.dead letter) (sym found.2) c.available-letters.ensures;
    } in
    let grown : AreLeft params (sets ++ kept.0) (c.loop-dead.numbers.items ++ c.in_ok-number.number ∷ []) (c.loop-dead.dead + 1) =
    one_more_left params sets kept.0 c.loop-dead.numbers.items c.loop-dead.dead c.in_ok-number.number inv.0 inv.2
    (subst (λ (l : List LetterSet). IsLeft params l c.loop-dead.dead c.in_ok-number.number) kept.1 here) in
    let each : AreLeft params c.number_of.new.sets.items c.push.new.self.items (c.loop-dead.dead + 1) =
    subst (λ (l : List LetterSet). AreLeft params l c.push.new.self.items (c.loop-dead.dead + 1)) (sym kept.1)
    (subst (λ (l : List ℕ). AreLeft params (sets ++ kept.0) l (c.loop-dead.dead + 1)) (sym c.in_ok-push.ensures.items) grown) in
    (rw c.in_ok-push.ensures.items (simp length-append (omega (arith, inv.0))), c.in_ok-number.ensures.exact inv.1, each)
