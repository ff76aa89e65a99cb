use Rattle.std.proofs.Common.{codes}
use Rattle.std.specs.Prelude.{string_bytes}
use Rattle.jm_gen.specs.Scripts.{round_over, create_line, step_line}
use Rattle.jm_gen.proofs.Written.{then_written}
use Rattle.jm_gen.proofs.script.add_steps.Goals as goal

pub returns : goal.returns
unfolding round_over create_line
returns c =
    let s = string_bytes c.args.text.now in
    let o = c.args.collection.now in
    let i = c.args.iterator.now in
    let to_c = then_written s (codes "UnsafeIter.create ") o c.in_ok-push_str.ensures.bytes c.in_ok-push_str-2.ensures.bytes in
    let to_space = then_written s _ (codes " ") to_c c.in_ok-push_str-3.ensures.bytes in
    let to_i = then_written s _ i to_space c.in_ok-push_str-4.ensures.bytes in
    let created = then_written s _ (codes "\n") to_i c.in_ok-push_str-5.ensures.bytes in
    let updated = then_written s (create_line o i) (step_line (codes "UnsafeIter.update ") o) created c.in_ok-add_step.ensures in
    let next = then_written s _ (step_line (codes "UnsafeIter.next ") i) updated c.in_ok-add_step-2.ensures in
    let again = then_written s _ (step_line (codes "HasNext.next ") i) next c.in_ok-add_step-3.ensures in
    let dead = then_written s _ (step_line (codes "death ") i) again c.in_ok-add_step-4.ensures in
    then_written s _ (step_line (codes "death ") o) dead c.in_ok-add_step-5.ensures
