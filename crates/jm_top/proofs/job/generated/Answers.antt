use Rattle.std.proofs.Common.{None, arith}
use Rattle.std.proofs.lemmas.Result.{err_from_is_err_and}
use Rattle.jm_inputs.specs.Causes.{short}
use Rattle.jm_inputs.specs.Reading.{specs_in}
use Rattle.jm_top.proofs.CommandLemmas.{gen_made}
use Rattle.jm_inputs.proofs.StopLemmas.{workload_spec_set, workload_many}
use Rattle.jm_top.proofs.job.generated.Goals as goal

pub returns-in_err-inputs : goal.returns-in_err-inputs
returns-in_err-inputs g c = λ contents.
    let p = err_from_is_err_and c.from_residual.result c.from_residual.ensures.1 in
    rw (p.1, p.2) (c.in_err-inputs.ensures.err contents)

pub run_in_short-requires-clause-ready : goal.run_in_short-requires-clause-ready
run_in_short-requires-clause-ready g c =
    let read = c.in_ok-inputs.ensures.read (λ name. None) in
    let specs = workload_spec_set (λ name. None) c.in_ok-inputs.inputs.spec_set read.spec_set in
    let scripts = workload_many (λ name. None) (specs_in c.in_ok-inputs.inputs.spec_set) c.args.n c.in_ok-inputs.inputs.scripts read.read in
    λ words bounds. record {
      specs = (omega (arith, specs), omega (arith, specs));
      scripts = (omega (arith, scripts), omega (arith, scripts));
      catalogued = read.spec_set.catalogued;
      counted = read.read.read.counted;
      sound = read.read.sound;
    }

pub returns-in_err-text : goal.returns-in_err-text
returns-in_err-text g c = λ contents.
    let p = err_from_is_err_and c.from_residual-in_err-text.result c.from_residual-in_err-text.ensures.1 in
    rw (p.1, p.2) short

pub returns : goal.returns
returns g c = λ contents. gen_made contents c.args.n c.in_ok-inputs.inputs c.in_ok-text.text.items (c.in_ok-inputs.ensures.read contents) c.in_ok-text.ensures
