use Rattle.std.proofs.Common.{◌<◌, ◌/◌, length, arith}
use Rattle.std.proofs.lemmas.Grind.{common_steps}
use Rattle.jm_objects.proofs.FlagLemmas.{bit_within, slice_get-word, dead_bit, not-not, flags_of-kill}
use Rattle.jm_objects.proofs.objects.Objects.kill.Goals as goal

pub index-word-requires : goal.index-word-requires
index-word-requires c =
    let h : c.args.object / 64 < length c.self.inside.words.items = bit_within _ _ _ _ c.self.view_is c.requires c.self.invariant.room in
    grind (arith, common_steps)

pub index_mut-requires : goal.index_mut-requires
index_mut-requires c =
    let h : c.args.object / 64 < length c.self.inside.words.items = bit_within _ _ _ _ c.self.view_is c.requires c.self.invariant.room in
    grind (arith, common_steps)

pub returns-clause-answer : goal.returns-clause-answer
returns-clause-answer c =
    rw (dead_bit, not-not)
    (slice_get-word _ _ _ _ _ c.self.view_is c.requires c.self.invariant.room c.index-word.ensures)

pub returns-clause-dead : goal.returns-clause-dead
returns-clause-dead c = flags_of-kill _ _ _ _ _ c.self.view_is c.requires c.self.invariant.room c.index-word.ensures
