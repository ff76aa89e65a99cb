use Rattle.std.proofs.Common.{◌≡◌, take}
use Rattle.std.specs.Prelude.{map}
use Rattle.jm_top.specs.Printing.{entry_summaries}
use Rattle.jm_top.proofs.histories.summaries_text.Given as goal

abbrev pub invariant-loop-spec : goal.invariant-loop-spec
invariant-loop-spec g l = l.text.items ≡ entry_summaries (take l.spec l.catalog) (map (λ p. p.entries) (take l.spec l.props))
