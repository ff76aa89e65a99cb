use Rattle.std.specs.Prelude.{map, string_bytes}
use Rattle.std.proofs.Common.{true, arith}
use Rattle.std.proofs.lemmas.Result.{err_from_is_err_and}
use Rattle.std.proofs.lemmas.List.{length-map}
use Rattle.jm_inputs.specs.Sources.{Named}
use Rattle.jm_inputs.specs.Causes.{short}
use Rattle.jm_inputs.specs.Reading.{specs_in}
use Rattle.jm_inputs.proofs.SpecSetLemmas.{spec_set_length}
use Rattle.jm_inputs.proofs.ScriptLemmas.{scripts_length}
use Rattle.jm_top.proofs.CommandLemmas.{run_made}
use Rattle.jm_inputs.proofs.StopLemmas.{run_stops}
use Rattle.jm_top.proofs.job.ran.Goals as goal

pub read_inputs-requires-clause-few_specs : goal.read_inputs-requires-clause-few_specs
read_inputs-requires-clause-few_specs g c = omega (arith, c.requires.specs.1, length-map c.args.specs.now string_bytes)

pub read_inputs-requires-clause-few_scripts : goal.read_inputs-requires-clause-few_scripts
read_inputs-requires-clause-few_scripts g c = omega (arith, c.requires.scripts.1, length-map c.args.scripts.now string_bytes)

pub returns-in_err-inputs-clause-carried_out : goal.returns-in_err-inputs-clause-carried_out
returns-in_err-inputs-clause-carried_out g c =
    let p = err_from_is_err_and c.from_residual.result c.from_residual.ensures.1 in
    rw (p.1, p.2) (run_stops (g.F.Folder.holds c.args.files.now) (map string_bytes c.args.specs.now) (map string_bytes c.args.scripts.now) _ c.in_err-inputs.ensures.err)

pub run-requires-clause-ready : goal.run-requires-clause-ready
run-requires-clause-ready g c =
    let contents = g.F.Folder.holds c.args.files.now in
    let read = c.in_ok-inputs.ensures.read in
    let specs = spec_set_length (λ n. Named n) string_bytes contents _ c.args.specs.now c.in_ok-inputs.inputs.spec_set read.spec_set in
    let scripts = scripts_length (λ n. Named n) string_bytes contents true (specs_in c.in_ok-inputs.inputs.spec_set) 0 c.args.scripts.now c.in_ok-inputs.inputs.scripts read.read.read in
    λ words bounds. record {
      specs = (omega (arith, specs, c.requires.specs.0, length-map c.args.specs.now string_bytes), omega (arith, specs, c.requires.specs.1, length-map c.args.specs.now string_bytes));
      scripts = (omega (arith, scripts, c.requires.scripts.0, length-map c.args.scripts.now string_bytes), omega (arith, scripts, c.requires.scripts.1, length-map c.args.scripts.now string_bytes));
      catalogued = read.spec_set.catalogued;
      counted = read.read.read.counted;
      sound = read.read.sound;
    }

pub returns-in_err-text-clause-carried_out : goal.returns-in_err-text-clause-carried_out
returns-in_err-text-clause-carried_out g c =
    let p = err_from_is_err_and c.from_residual-in_err-text.result c.from_residual-in_err-text.ensures.1 in
    rw (p.1, p.2) short

pub returns-clause-carried_out : goal.returns-clause-carried_out
returns-clause-carried_out g c =
    run_made (g.F.Folder.holds c.args.files.now) (map string_bytes c.args.specs.now) (map string_bytes c.args.scripts.now) c.in_ok-inputs.inputs c.in_ok-text.text.items c.in_ok-inputs.ensures.read c.in_ok-text.ensures
