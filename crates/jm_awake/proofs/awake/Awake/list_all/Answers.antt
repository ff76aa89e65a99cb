use Rattle.std.proofs.Common.{rules}
use Rattle.jm_awake.specs.Steps.{IsMade}
use Rattle.jm_awake.proofs.WakeLemmas.{made_sound}
use Rattle.jm_awake.proofs.awake.Awake.list_all.Goals as goal

pub returns-else-is_err-clause-sound : goal.returns-else-is_err-clause-sound
returns-else-is_err-clause-sound c =
    let made : IsMade c.args.letter.0 c.args.binding.now c.args.slots.now c.args.self.now c.add_list.new.self = search rules in
    λ o above sound. made_sound o c.args.letter.0 c.args.binding.now c.args.slots.now c.args.self.now c.add_list.new.self made above sound
