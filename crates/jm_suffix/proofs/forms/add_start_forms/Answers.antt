use Rattle.std.proofs.Common.{◌∷◌, [], map, append_assoc, arith}
use Rattle.std.specs.List.{range_with_len}
use Rattle.std.proofs.lemmas.List.FromFn.{map-range_with_len_more}
use Rattle.jm_suffix.specs.Seconds.{start_behind}
use Rattle.jm_suffix.proofs.forms.add_start_forms.Goals as goal

pub loop-letter-preserved : goal.loop-letter-preserved
loop-letter-preserved c =
    let before = c.args.productions.now.items in
    let letter = c.loop-letter.letter in
    let pushed = c.in_ok-push.ensures.items in
    let here = map-range_with_len_more start_behind 0 letter letter (omega arith) in
    let there = append_assoc before (map start_behind (range_with_len 0 letter)) (start_behind letter ∷ []) in
    rw (here, ← there, ← c.in_ok-start_behind.ensures, ← c.loop-letter.invariant) pushed
