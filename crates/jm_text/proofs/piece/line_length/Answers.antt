use Rattle.std.proofs.Common.{◌==◌, not, length, rules, tests, ◌∙◌}
use Rattle.std.specs.List.{position_or_len}
use Rattle.std.proofs.lemmas.Iterator.{YieldsList-from_slice}
use Rattle.std.proofs.lemmas.Iterator.Search.{position_from_yields_List}
use Rattle.std.proofs.lemmas.List.Sums.{prefix_len-le-length}
use Rattle.jm_text.specs.Pieces.{line_feed}
use Rattle.jm_text.proofs.Scans.{found_or_all}
use Rattle.jm_text.proofs.piece.line_length.Goals as goal

pub returns-clause-value : goal.returns-clause-value
returns-clause-value c =
    let bytes = c.args.bytes.now in
    let found = position_from_yields_List (λ b. b == line_feed) _ _ c.position-end.result c.position-end.ensures.ran (YieldsList-from_slice bytes cc) (λ x b q. search (rules, tests)) in
    c.unwrap_or.ensures ∙ found_or_all _ (position_or_len (λ b. b == line_feed) bytes) (length bytes) (prefix_len-le-length (λ b. not (b == line_feed)) bytes) found
