use Rattle.std.proofs.Common.{Err, sym, ap, subst, ◌∙◌}
use Rattle.std.proofs.lemmas.Bool.{false≢true}
use Rattle.jm_inputs.specs.Scripts.{catalog_of}
use Rattle.jm_inputs.specs.Reading.{specs_in, AreCounted}
use Rattle.jm_inputs.proofs.SilentLemmas.{as_it_stands, sound_asks_nothing}
use Rattle.jm_inputs.proofs.ScriptLemmas.{taken_back, script_kept, kept_refused, ok_then}
use Rattle.jm_inputs.proofs.scripts.add.Goals as goal

pub add_cut-requires-in-Err-Bad-clause-counted : goal.add_cut-requires-in-Err-Bad-clause-counted
add_cut-requires-in-Err-Bad-clause-counted c =
    let left = c.add_steps.ensures.left c.in-Err-Bad.field-0-0 (c.in-Err-Bad.is ∙ ap (λ e. Err e) c.in-Err-Bad.field-0-is) in
    subst (AreCounted (specs_in c.args.spec_set.now)) (sym (taken_back c.args.scripts.now c.add_steps.new.scripts c.len-names.result c.in_ok-scripts-in-Err-Bad.field-0 left c.len-names.ensures.value c.in_ok-scripts-in-Err-Bad.ensures)) c.requires.counted

pub returns-in_default-clause-fault : goal.returns-in_default-clause-fault
returns-in_default-clause-fault c = λ fault is.
    kept_refused c.args.ordered (specs_in c.args.spec_set.now) c.args.bytes.now c.requires.small (as_it_stands c.args.ordered c.args.bytes.now (λ on. absurd (false≢true (sym c.if-ordered-2.false ∙ on)))) c.args.scripts.now fault
    (c.add_steps.ensures.fault fault (c.in-Err-Bad.is ∙ is))

pub returns-in_default-3-clause-read : goal.returns-in_default-3-clause-read
returns-in_default-3-clause-read c =
    let specs = specs_in c.args.spec_set.now in
    let old = c.args.scripts.now in
    let bytes = c.args.bytes.now in
    ok_then _ _ c.add_steps.result
    (λ h. script_kept c.args.ordered specs bytes c.requires.small (as_it_stands c.args.ordered bytes (λ on. sound_asks_nothing (catalog_of specs) old.count bytes old.objects h.said.sound)) old c.add_steps.new.scripts c.new.result.items c.new.ensures.items c.requires.counted h) c.add_steps.ensures.read
