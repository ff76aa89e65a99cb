use Rattle.std.proofs.Common.{◌≤◌, length, arith}
use Rattle.jm_marks.proofs.PlaceLemmas.{single_found, beyond_bytes}
use Rattle.jm_marks.proofs.singles.Singles.place_of.Goals as goal

pub returns-in_err-single-clause-none : goal.returns-in_err-single-clause-none
returns-in_err-single-clause-none c =
    rw c.from_residual.ensures (λ there. c.in_err-single.ensures.other (single_found c.args.self.now c.args.binding.now there))

pub returns-then-single-len-clause-none : goal.returns-then-single-len-clause-none
returns-then-single-len-clause-none c =
    let past : length c.self.inside.bytes.items ≤ c.in_ok-single.single.object = omega arith in
    rw (← c.self.view_is)
    (beyond_bytes c.self.inside.bytes.items c.args.binding.now _ _ c.in_ok-single.ensures.one.0 c.in_ok-single.ensures.one.1 past)
