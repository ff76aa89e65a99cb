use Rattle.std.proofs.Common.{ℕ, ◌≡◌, ◌∙◌, sym, ap}
use Rattle.std.specs.Prelude.{Some, option_map}
use Rattle.std.proofs.lemmas.Result.{err_from_is_err_and}
use Rattle.jm_events.specs.Events.{parameter_fault, with_parameter}
use Rattle.jm_spec.specs.Faults.{name_of}
use Rattle.jm_spec.proofs.MakeLemmas.{makes_none, makes_more}
use Rattle.jm_spec.proofs.tree.add_param.Goals as goal

pub returns-in_err-add_param : goal.returns-in_err-add_param
returns-in_err-add_param c =
    let p = err_from_is_err_and c.from_residual.result c.from_residual.ensures.1 in
    let t = c.args.table.now in
    let name = c.in-Some.name.now in
    let named : name_of c.args.bytes.now c.args.param ≡ Some name = sym c.name_of.ensures ∙ ap (λ o. option_map (λ s. s.now) o) c.in-Some.is in
    rw (p.1, p.2, named) (makes_none ℕ (Unit {0}) (parameter_fault t name c.args.param.line) (with_parameter t name) c.add_param.new.self c.in_err-add_param.field-0.0 c.in_err-add_param.ensures.refused c.in_err-add_param.ensures.accepted)

pub returns-in_ok-add_param : goal.returns-in_ok-add_param
returns-in_ok-add_param c =
    let t = c.args.table.now in
    let name = c.in-Some.name.now in
    let named : name_of c.args.bytes.now c.args.param ≡ Some name = sym c.name_of.ensures ∙ ap (λ o. option_map (λ s. s.now) o) c.in-Some.is in
    rw named (makes_more {X = ℕ} (parameter_fault t name c.args.param.line) (with_parameter t name) c.add_param.new.self c.in_ok-add_param.field-0 c.in_ok-add_param.ensures.refused c.in_ok-add_param.ensures.ok)
