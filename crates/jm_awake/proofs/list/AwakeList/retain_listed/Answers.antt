use Rattle.std.proofs.Common.{◌≡◌, ap, rules}
use Rattle.std.specs.Prelude.{filter}
use Rattle.std.proofs.lemmas.Fn.{filter_same}
use Rattle.jm_awake.specs.Awake.{is_listed}
use Rattle.jm_awake.proofs.ListLemmas.{with_entries}
use Rattle.jm_awake.proofs.list.AwakeList.retain_listed.Goals as goal

pub returns : goal.returns
returns c =
    let kept : c.retain.new.self.items ≡ filter (is_listed c.args.cards.now c.self.inside.letter) c.self.inside.entries.items =
    filter_same _ (is_listed c.args.cards.now c.self.inside.letter) _ (λ x b t call. search rules) _ _ c.retain.ensures.filtered
    in
    rw (← c.self.view_is) (ap (with_entries c.self.inside.letter c.self.inside.binding c.self.inside.is_kept) kept)
