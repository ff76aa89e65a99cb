use Rattle.std.proofs.Common.{◌≡◌, Bool, true, false, refl, not, length, rules, tests, ◌∙◌}
use Rattle.std.specs.List.{position_or_len, prefix_len}
use Rattle.std.proofs.lemmas.Iterator.{YieldsList-from_slice}
use Rattle.std.proofs.lemmas.Iterator.Search.{position_from_yields_List}
use Rattle.std.proofs.lemmas.List.Sums.{prefix_len-le-length}
use Rattle.jm_text.specs.Pieces.{is_word_byte}
use Rattle.jm_text.proofs.Scans.{found_or_all}
use Rattle.jm_text.proofs.piece.word_length.Goals as goal

twice_not : (b : Bool) → not (not b) ≡ b
twice_not true = refl
twice_not false = refl

pub returns-clause-value : goal.returns-clause-value
returns-clause-value c =
    let bytes = c.args.bytes.now in
    let found = position_from_yields_List (λ b. not (is_word_byte b)) _ _ c.position-end.result c.position-end.ensures.ran (YieldsList-from_slice bytes cc) (λ x b q. search (rules, tests)) in
    c.unwrap_or.ensures ∙ found_or_all _ (position_or_len (λ b. not (is_word_byte b)) bytes) (length bytes) (prefix_len-le-length (λ b. not (not (is_word_byte b))) bytes) found ∙ (λ u. prefix_len (λ b. twice_not (is_word_byte b) u) bytes)
