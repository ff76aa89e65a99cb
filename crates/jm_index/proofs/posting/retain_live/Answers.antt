use Rattle.std.proofs.Common.{◌≡◌, inr, rules}
use Rattle.std.specs.Prelude.{filter}
use Rattle.std.proofs.lemmas.Fn.{filter_same}
use Rattle.jm_index.specs.Layout.{is_live_at}
use Rattle.jm_index.proofs.posting.retain_live.Goals as goal

pub returns : goal.returns
returns c =
    let kept : c.retain.new.self.items ≡ filter (is_live_at c.args.entries.now) c.args.positions.now.items =
    filter_same _ (is_live_at c.args.entries.now) _ (λ x b t call. search rules) _ _ c.retain.ensures.filtered
    in
    inr kept
