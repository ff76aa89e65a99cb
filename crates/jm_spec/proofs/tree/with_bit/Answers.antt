use Rattle.std.proofs.Common.{◌≡◌, ℕ, ◌*◌, ◌%◌, ◌^◌, ◌<◌, ◌≤◌, subst, sym, arith}
use Rattle.std.proofs.Math.Pow.{pow-lt}
use Rattle.std.proofs.lemmas.Nat.{or_lt}
use Rattle.jm_spec.proofs.tree.with_bit.Goals as goal

-- a bit below the number of parameters
bit_fits : (p n whole : ℕ) → p < n → 2 ^ p < whole → 1 * 2 ^ p % whole < 2 ^ n
bit_fits p n whole below small =
    let more : 2 ^ p < 2 ^ n = pow-lt below in
    let once : 1 * 2 ^ p ≡ 2 ^ p = omega arith in
    let least : 2 ^ p % whole ≤ 2 ^ p = omega arith in
    subst (λ (x : ℕ). x % whole < 2 ^ n) (sym once) (omega arith)

pub returns-clause-fits : goal.returns-clause-fits
returns-clause-fits c =
    let below : c.args.p < 8 = omega arith in
    let small : 2 ^ c.args.p < 2 ^ 8 = pow-lt below in
    or_lt c.args.params c.args.mask _ c.requires.fits (bit_fits c.args.p c.args.params 256 c.requires.known small)
