use Rattle.std.proofs.Common.{◌<◌, ◌∷◌, [], length, refl, ap, ◌∙◌, arith}
use Rattle.std.proofs.lemmas.List.{length-append}
use Rattle.jm_table.proofs.ClassLemmas.{values_more}
use Rattle.std.proofs.Math.ListN.{length-set}
use Rattle.jm_table.proofs.NumberLemmas.{seen_more, numbered}
use Rattle.jm_table.proofs.partition.Partition.split.Goals as goal

pub loop-number-preserved : goal.loop-number-preserved
loop-number-preserved c =
    let before = c.loop-number.invariant in
    let numbers = c.loop-number.numbers.items in
    let number = c.loop-number.number in
    let items = c.in_ok-push.ensures.items in
    record {
      count = ap length items ∙ omega (arith, before.count, length-append numbers (number ∷ []));
      each = rw items (values_more numbers number number (λ k. k) before.count before.each refl);
    }

pub loop-state-preserved : goal.loop-state-preserved
loop-state-preserved c =
    let before = c.loop-state.invariant in
    let known = c.in_ok-number.ensures.known in
    let after = c.in_ok-number.ensures.ok in
    let within : c.loop-state.state < length c.loop-state.self.classes.items = omega (arith, before.count, c.loop-state-test.true) in
    record {
      given = after.given;
      seen = seen_more c.args.keys.now c.number_of.new.numbers.items c.number_of.new.firsts.items c.loop-state.self.classes.items c.loop-state.state c.in_ok-number.number within
          (λ p lt. after.kept _ _ (before.seen p lt)) known;
      prefix = λ k lt. after.prefix k (omega (arith, lt, before.grown)) ∙ before.prefix k lt;
      grown = omega (arith, before.grown, after.grown.0);
      room = omega (arith, before.room, after.grown.1);
      numbers = after.size ∙ before.numbers;
      count = simp length-set before.count;
    }

pub returns : goal.returns
returns c =
    let done = c.loop-state.invariant in
    numbered c.args.keys.now c.loop-state.numbers.items c.loop-state.self.firsts.items (length c.args.keys.now) c.args.self.now.classes.items c.args.self.now.firsts.items c.loop-state.self.classes.items
    c.requires.partition c.requires.fit done.given (λ p lt. done.seen p (omega (arith, lt, c.loop-state-test.false))) done.prefix done.grown done.count
