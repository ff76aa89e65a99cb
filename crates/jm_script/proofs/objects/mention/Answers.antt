use Rattle.std.proofs.Common.{ℕ, ◌<◌, [], length, sym, ap, ◌∙◌, arith}
use Rattle.std.proofs.Math.ListN.{length-set}
use Rattle.std.proofs.lemmas.List.{take_more_set}
use Rattle.jm_script.specs.Objects.{mentioned}
use Rattle.jm_script.proofs.ObjectLemmas.{texts_more, object_at, length-with_name, IsExtension-with_name, numbered_more}
use Rattle.jm_script.proofs.objects.mention.Goals as goal

pub mention_one-requires-clause-object : goal.mention_one-requires-clause-object
mention_one-requires-clause-object c = object_at c.args.objects.now c.loop-i.i _ (omega arith) c.requires.objects

pub loop-i-preserved : goal.loop-i-preserved
loop-i-preserved c =
    let lt : c.loop-i.i < length c.args.objects.now = omega arith in
    let more = texts_more c.args.objects.now c.loop-i.i (record { ref_ptr = (0, 0); now = [] }) lt in
    let new = c.in_ok-numbers.ensures.ok in
    let room : c.loop-i.i < length c.loop-i.numbers = omega arith in
    record {
      few = rw new (omega (arith, length-with_name));
      extended = rw new (IsExtension-with_name _ _ _ c.loop-i.invariant.extended);
      eight = omega (arith, length-set {A = ℕ});
      left = rw new (sym (ap (mentioned c.loop-i.names) more) ∙ c.loop-i.invariant.left);
      numbered = rw (new, take_more_set c.loop-i.numbers c.loop-i.i _ room) (numbered_more _ c.loop-i.names _ _ _ _ c.in_ok-numbers.ensures.number (rw more at c.loop-i.invariant.numbered));
    }
