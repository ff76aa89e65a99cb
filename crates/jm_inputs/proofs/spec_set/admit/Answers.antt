use Rattle.std.proofs.Common.{sym, ap, subst, ◌∙◌, Err}
use Rattle.std.proofs.lemmas.Result.{err_from_is_err_and}
use Rattle.jm_reading.specs.Faults.{Refuses}
use Rattle.jm_inputs.specs.Inputs.{asks_families, grammar_fault, faulty}
use Rattle.jm_inputs.proofs.OneReadingLemmas.{same_err}
use Rattle.jm_inputs.proofs.SpecSetLemmas.{next_of, twice_of, grammar_of, all_ok}
use Rattle.jm_inputs.proofs.spec_set.admit.Goals as goal

pub returns-in_err-reading-clause-fault : goal.returns-in_err-reading-clause-fault
returns-in_err-reading-clause-fault c = λ fault is.
    let p = err_from_is_err_and c.from_residual.result c.from_residual.ensures.1 in
    let same = same_err (sym p.1 ∙ is) in
    faulty (c.in_err-reading.ensures.err fault (ap (λ e. Err e) (sym p.2 ∙ same)))

pub returns-in_err-check_families-clause-fault : goal.returns-in_err-check_families-clause-fault
returns-in_err-check_families-clause-fault c = λ fault is.
    let p = err_from_is_err_and c.from_residual-in_err-check_families.result c.from_residual-in_err-check_families.ensures.1 in
    let same = same_err (sym p.1 ∙ is) in
    grammar_of (asks_families c.args.purpose) c.args.bytes.now c.args.spec_set.now c.in_ok-reading.reading c.in_ok-reading.ensures.ok fault
    (subst (Refuses (grammar_fault (asks_families c.args.purpose) c.in_ok-reading.reading.compiled.header.grammar_line)) (sym p.2 ∙ same) c.in_err-check_families.ensures)

pub returns-clause-read : goal.returns-clause-read
returns-clause-read c =
    all_ok _ _ _ _ c.add.result
    (λ more catalogued unique. next_of (asks_families c.args.purpose) c.args.bytes.now c.args.spec_set.now c.in_ok-reading.reading c.in_ok-reading.ensures.ok c.add.new.self c.in_ok-check_families.ensures unique more catalogued)
    c.add.ensures.listed c.add.ensures.catalogued c.add.ensures.new_name

pub returns-clause-fault : goal.returns-clause-fault
returns-clause-fault c = λ fault is.
    let twice = c.add.ensures.fault fault is in
    twice_of (asks_families c.args.purpose) c.args.bytes.now c.args.spec_set.now c.in_ok-reading.reading c.in_ok-reading.ensures.ok fault c.in_ok-check_families.ensures twice.0 twice.1
