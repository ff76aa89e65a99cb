use Rattle.std.proofs.Common.{◌≡◌, false, replicate, arith}
use Rattle.std.proofs.lemmas.Grind.{common_steps}
use Rattle.jm_objects.specs.Flags.{flags_of}
use Rattle.jm_objects.proofs.FlagLemmas.{flags_of-replicate, none_dead}
use Rattle.jm_objects.proofs.objects.Objects.new.Goals as goal

pub invariant_of-result : goal.invariant_of-result
invariant_of-result c =
    let all : flags_of c.args.n c.in_ok-words.words.items ≡ replicate c.args.n false =
    rw (c.in_ok-words.ensures.items_if_clones_equal (λ y e. e), c.div_ceil.ensures) (flags_of-replicate _ _ (omega arith)) in
    record {
      room = grind (arith, common_steps);
      alive = λ same o is. none_dead c.args.n c.in_ok-words.words.items all o is;
    }

pub returns : goal.returns
returns c =
    rw (c.in_ok-words.ensures.items_if_clones_equal (λ y e. e), c.div_ceil.ensures)
    (flags_of-replicate _ _ (omega arith))
