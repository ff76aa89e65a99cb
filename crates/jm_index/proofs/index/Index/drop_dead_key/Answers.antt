use Rattle.std.proofs.Common.{◌≡◌, false, ◌∙◌, arith}
use Rattle.std.proofs.lemmas.Bool.{both_ways}
use Rattle.std.proofs.lemmas.Option.{get_or_from_slice_get}
use Rattle.jm_index.specs.Index.{flag_of}
use Rattle.jm_index.proofs.ListedLemmas.{flag_within}
use Rattle.jm_index.proofs.index.Index.drop_dead_key.Goals as goal
use Rattle.jm_index.proofs.index.Index.drop_dead_key.Goals.{else-object-len-via-then-object-len+else-is_dead, else-object-len-via-else-object-len}

pub returns-else-object-len-clause-gone : goal.returns-else-object-len-clause-gone
returns-else-object-len-clause-gone c = λ dead key. elim c.else-object-len.branch [
  | else-object-len-via-then-object-len+else-is_dead w ↦
      let lives : flag_of c.args.objects.now c.args.object ≡ false =
      get_or_from_slice_get c.args.objects.now c.args.object w.is_dead.result false w.is_dead.ensures ∙ w.if-is_dead.false in
      both_ways _ lives dead
  | else-object-len-via-else-object-len w ↦
      let within = flag_within c.args.objects.now c.args.object dead in
      absurd (omega (arith, within, w.if-object-len.false, c.len.ensures))
]
