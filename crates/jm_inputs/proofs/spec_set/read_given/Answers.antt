use Rattle.std.proofs.Common.{◌≡◌, ◌<◌, ℕ, false, length, subst, arith}
use Rattle.std.specs.Prelude.{IfErr}
use Rattle.jm_inputs.specs.Specifications.{most_bytes, too_long}
use Rattle.jm_inputs.specs.Inputs.{faulty}
use Rattle.jm_inputs.specs.Causes.{IsNoSpecIn}
use Rattle.jm_inputs.specs.Reading.{specs_in}
use Rattle.jm_inputs.proofs.spec_set.read_given.Goals as goal

pub returns-then-bytes-gt-MOST_BYTES-clause-err : goal.returns-then-bytes-gt-MOST_BYTES-clause-err
returns-then-bytes-gt-MOST_BYTES-clause-err c =
    let many : c.len-number.result ≡ length c.args.spec_set.now.specs.items = omega (arith, c.len-number.ensures, c.args.spec_set.now.specs.ok.0) in
    let long : most_bytes < length c.args.bytes.now = omega arith in
    rw c.too_long.ensures (many, faulty (too_long long))

pub returns-clause-err : goal.returns-clause-err
returns-clause-err c =
    let many : c.len-number.result ≡ length c.args.spec_set.now.specs.items = omega (arith, c.len-number.ensures, c.args.spec_set.now.specs.ok.0) in
    subst (λ (n : ℕ). IfErr c.read_bytes.result (IsNoSpecIn false (specs_in c.args.spec_set.now) n c.args.bytes.now)) many c.read_bytes.ensures.err
