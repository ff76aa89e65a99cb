use Rattle.std.proofs.Common.{◌≡◌, ◌≤◌, ◌*◌, length, arith}
use Rattle.std.specs.Vec.{vec_len}
use Rattle.jm_marks.proofs.PlaceLemmas.{resized_bytes}
use Rattle.jm_marks.proofs.singles.extend.Goals as goal

pub returns-then-is_ok-clause-unchanged : goal.returns-then-is_ok-clause-unchanged
returns-then-is_ok-clause-unchanged c =
    let old = c.args.bytes.now.items in
    let size : vec_len c.args.bytes.now ≡ length old = omega arith in
    let room : length old ≤ c.args.count * 64 = omega (arith, c.requires.gone.room) in
    resized_bytes _ old _ (c.args.count * 64) _ size room c.resize-then-is_ok.ensures.items
