use Rattle.std.proofs.Common.{◌<◌, ◌/◌, length, arith}
use Rattle.std.proofs.lemmas.Grind.{common_steps}
use Rattle.jm_index.proofs.FlagLemmas.{flags_set, word_there}
use Rattle.jm_index.proofs.flags.Flags.set.Goals as goal

pub index-word-requires : goal.index-word-requires
index-word-requires c =
    let h : c.args.object / 64 < length c.self.inside.words.items = word_there _ _ _ c.self.view_is c.requires in
    grind (arith, common_steps)

pub index_mut-requires : goal.index_mut-requires
index_mut-requires c =
    let h : c.args.object / 64 < length c.self.inside.words.items = word_there _ _ _ c.self.view_is c.requires in
    grind (arith, common_steps)

pub returns : goal.returns
returns c = flags_set _ _ _ _ c.self.view_is c.requires c.index-word.ensures
