use Rattle.jm_inputs.specs.Inputs.{asks_families}
use Rattle.std.proofs.Common.{◌∙◌, sym, ap, Err, arith}
use Rattle.std.specs.Prelude.{string_bytes}
use Rattle.std.proofs.lemmas.Result.{err_from_is_err_and}
use Rattle.jm_inputs.specs.Sources.{Named}
use Rattle.jm_inputs.proofs.OneReadingLemmas.{same_err}
use Rattle.jm_inputs.proofs.JobLemmas.{risen_before}
use Rattle.jm_inputs.proofs.SpecSetLemmas.{spec_set_turn, spec_set_ends, spec_set_count, whole_spec_set}
use Rattle.jm_inputs.proofs.spec_set.read_specifications.Goals as goal

pub read_next-requires-clause-bounded : goal.read_next-requires-clause-bounded
read_next-requires-clause-bounded g c =
    let many = spec_set_count (λ n. Named n) string_bytes (g.F.Folder.holds c.args.files.now) (asks_families c.args.purpose) c.args.names.now c.loop-name.name-index c.loop-name.spec_set (omega arith) c.loop-name.invariant.read in
    omega (arith, many, c.requires.bounded, c.loop-name-test.true)

pub read_next-requires-clause-catalogued : goal.read_next-requires-clause-catalogued
read_next-requires-clause-catalogued g c = c.loop-name.invariant.read.catalogued

pub returns-in_err-read_next-clause-err : goal.returns-in_err-read_next-clause-err
returns-in_err-read_next-clause-err g c =
    let p = err_from_is_err_and c.from_residual.result c.from_residual.ensures.1 in
    rw (p.1, p.2) (spec_set_ends (λ n. Named n) string_bytes (g.F.Folder.holds c.args.files.now) (g.F.Folder.holds c.loop-name.files) c.loop-name.invariant.same (asks_families c.args.purpose) c.args.names.now c.loop-name.name-index c.name-item.result c.loop-name-test.true c.name-item.is c.as_str.result.now c.as_str.ensures.value
    c.args.before c.loop-name.spec_set _ c.loop-name.invariant.read c.in_err-read_next.ensures.err)

pub returns-in_err-read_next-clause-read_failed : goal.returns-in_err-read_next-clause-read_failed
returns-in_err-read_next-clause-read_failed g c = λ file is.
    let p = err_from_is_err_and c.from_residual.result c.from_residual.ensures.1 in
    let same = same_err (sym p.1 ∙ is) in
    risen_before c.loop-name.invariant.never_falls (c.in_err-read_next.ensures.read_failed file (ap (λ e. Err e) (sym p.2 ∙ same)))

pub loop-name-preserved : goal.loop-name-preserved
loop-name-preserved g c = record {
  read = spec_set_turn (λ n. Named n) string_bytes (g.F.Folder.holds c.args.files.now) (g.F.Folder.holds c.loop-name.files) c.loop-name.invariant.same (asks_families c.args.purpose) c.args.names.now c.loop-name.name-index c.name-item.result c.loop-name-test.true c.name-item.is c.as_str.result.now c.as_str.ensures.value
      c.loop-name.spec_set _ c.loop-name.invariant.read c.in_ok-read_next.ensures.read;
  never_falls = omega (arith, c.loop-name.invariant.never_falls, c.read_next.ensures.never_falls);
  same = λ other. c.read_next.ensures.unchanged other ∙ c.loop-name.invariant.same other;
}

pub returns-clause-read : goal.returns-clause-read
returns-clause-read g c = whole_spec_set (λ n. Named n) string_bytes (g.F.Folder.holds c.args.files.now) (asks_families c.args.purpose) c.args.names.now c.loop-name.name-index c.loop-name.spec_set c.loop-name-test.false c.loop-name.invariant.read
