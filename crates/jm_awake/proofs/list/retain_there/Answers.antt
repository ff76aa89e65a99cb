use Rattle.std.proofs.Common.{rules}
use Rattle.std.proofs.lemmas.Fn.{filter_same}
use Rattle.jm_awake.specs.Awake.{is_there}
use Rattle.jm_awake.proofs.list.retain_there.Goals as goal

pub returns : goal.returns
returns c = filter_same _ (is_there c.args.cards.now) _ (λ x b t call. search rules) _ _ c.retain.ensures.filtered
