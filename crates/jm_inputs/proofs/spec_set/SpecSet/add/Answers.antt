use Rattle.std.proofs.Common.{sym, ◌∙◌}
use Rattle.std.proofs.lemmas.Result.{err_from_is_err_and}
use Rattle.jm_events.specs.Names.{number_of}
use Rattle.jm_script.specs.Catalogs.{spec_names}
use Rattle.jm_inputs.specs.Reading.{named_entry}
use Rattle.jm_inputs.proofs.OneReadingLemmas.{same_err}
use Rattle.jm_inputs.proofs.SpecSetLemmas.{its_catalog, listed_more, added, new_if_ok, twice_if_err}
use Rattle.jm_inputs.proofs.spec_set.SpecSet.add.Goals as goal

pub returns-clause-listed : goal.returns-clause-listed
returns-clause-listed c =
    listed_more c.args.self.now (named_entry c.args.name.now c.args.table) c.args.compiled c.requires.catalogued _ _ c.in_ok-push.ensures.items c.in_ok-add.ensures.ok

pub returns-clause-catalogued : goal.returns-clause-catalogued
returns-clause-catalogued c =
    added c.args.self.now _ (named_entry c.args.name.now c.args.table) c.args.compiled c.requires.catalogued c.in_ok-push.ensures.items c.in_ok-add.ensures.ok c.requires.whole

pub returns-clause-new_name : goal.returns-clause-new_name
returns-clause-new_name c =
    rw (its_catalog c.args.self.now c.requires.catalogued) (new_if_ok (number_of (spec_names c.args.self.now.catalog) c.args.name.now) _ c.in_ok-add.ensures.refused)

pub returns-in_err-add-clause-fault : goal.returns-in_err-add-clause-fault
returns-in_err-add-clause-fault c = λ fault is.
    let p = err_from_is_err_and c.from_residual.result c.from_residual.ensures.1 in
    let same = same_err (sym p.1 ∙ is) in
    rw (its_catalog c.args.self.now c.requires.catalogued) (twice_if_err (number_of (spec_names c.args.self.now.catalog) c.args.name.now) _ fault (sym p.2 ∙ same) c.in_err-add.ensures.refused c.in_err-add.ensures.accepted)
