use Rattle.std.proofs.Common.{◌≡◌, ◌<◌, ℕ, true, length, subst, arith}
use Rattle.std.specs.Prelude.{IfErr}
use Rattle.jm_inputs.specs.Specifications.{most_bytes}
use Rattle.jm_inputs.specs.Scripts.{file_too_long}
use Rattle.jm_inputs.specs.Causes.{IsNoScriptFileIn}
use Rattle.jm_inputs.specs.Reading.{specs_in}
use Rattle.jm_inputs.proofs.scripts.read_given.Goals as goal

pub returns-then-bytes-gt-MOST_BYTES-clause-err : goal.returns-then-bytes-gt-MOST_BYTES-clause-err
returns-then-bytes-gt-MOST_BYTES-clause-err c =
    let many : c.len-number.result ≡ length c.args.scripts.now.list.items = omega (arith, c.len-number.ensures, c.args.scripts.now.list.ok.0) in
    let long : most_bytes < length c.args.bytes.now = omega arith in
    rw c.too_long.ensures (many, file_too_long long)

pub returns-clause-err : goal.returns-clause-err
returns-clause-err c =
    let old = c.args.scripts.now in
    let many : c.len-number.result ≡ length old.list.items = omega (arith, c.len-number.ensures, c.args.scripts.now.list.ok.0) in
    subst (λ (n : ℕ). IfErr c.read_bytes.result (IsNoScriptFileIn true (specs_in c.args.spec_set.now) old.count old.objects n c.args.bytes.now)) many c.read_bytes.ensures.err
