use Rattle.std.proofs.Common.{◌≡◌, ◌++◌, map, filter, length, drop}
use Rattle.std.specs.List.{slice_split}
use Rattle.jm_lines.specs.Lines.{is_blank, content_of, is_some_word, words_of}
use Rattle.jm_lines.proofs.words.read_words.Given as goal

abbrev pub invariant-loop-word : goal.invariant-loop-word
invariant-loop-word l =
    map (λ w. w.now) l.words.items ++ filter is_some_word (drop (length l.yielded) (slice_split is_blank (content_of l.line))) ≡ words_of l.line
