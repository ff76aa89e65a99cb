use Rattle.std.proofs.Common.{◌<◌, ◌/◌, length, arith}
use Rattle.std.proofs.lemmas.Grind.{common_steps}
use Rattle.jm_objects.proofs.FlagLemmas.{bit_within, slice_get-word}
use Rattle.jm_objects.proofs.objects.Objects.is_dead.Goals as goal

pub index-requires : goal.index-requires
index-requires c =
    let h : c.args.object / 64 < length c.self.inside.words.items = bit_within _ _ _ _ c.self.view_is c.requires c.self.invariant.room in
    grind (arith, common_steps)

pub returns : goal.returns
returns c = slice_get-word _ _ _ _ _ c.self.view_is c.requires c.self.invariant.room c.index.ensures
