use Rattle.std.proofs.Common.{◌≡◌, length}
use Rattle.jm_print.specs.Lexicons.{Lexicon}
use Rattle.jm_print.specs.Shorts.{AreHeads, IsNamedBy}
use Rattle.jm_print.proofs.head.heads_of.Given as goal

abbrev pub invariant-loop-letter : goal.invariant-loop-letter
invariant-loop-letter l =
    (length l.heads.items ≡ l.letter) × ((lexicon : Lexicon) → IsNamedBy lexicon l.table → AreHeads lexicon l.heads.items)
