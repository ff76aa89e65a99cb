use Rattle.std.proofs.Common.{◌<◌, length, arith}
use Rattle.std.proofs.lemmas.Grind.{common_steps}
use Rattle.jm_objects.proofs.FlagLemmas.{below_len, slice_get-kept}
use Rattle.jm_objects.proofs.objects.Objects.word.Goals as goal

pub index-requires : goal.index-requires
index-requires c =
    let h = below_len _ _ _ _ c.self.view_is c.requires in
    let here : c.args.index < length c.self.inside.words.items = omega (arith, c.self.invariant.room, h) in
    grind (arith, common_steps)

pub returns : goal.returns
returns c = λ k below at. slice_get-kept _ _ k c.args.index _ _ c.self.view_is below at c.self.invariant.room c.index.ensures
