use Rattle.std.proofs.Common.{List, ℕ, length, ap, ◌∙◌, arith}
use Rattle.std.specs.Prelude.{slice_range}
use Rattle.std.specs.Option.{is_some}
use Rattle.std.proofs.lemmas.List.{length-map}
use Rattle.jm_spec.specs.declared.property.HandlerText.{HandlerText}
use Rattle.jm_spec.specs.Trees.{facts_of}
use Rattle.jm_machine.specs.Handlers.{category_fault, binding_fault, handler_names, resetting_handlers}
use Rattle.jm_machine.specs.CompiledProperties.{numbers_of}
use Rattle.jm_machine.specs.Formulas.{category_names}
use Rattle.jm_machine.proofs.FormulaLemmas.{letters_read}
use Rattle.jm_machine.proofs.HandlerLemmas.{all_known}
use Rattle.jm_machine.proofs.MakingLemmas.{part_told}
use Rattle.jm_machine.proofs.ResetLemmas.{same_resets, resets_apart}
use Rattle.jm_machine.proofs.compile.compile_formula.Goals as goal

pub distinct-requires : goal.distinct-requires
distinct-requires c = rw c.as_slice-texts.ensures.value c.requires.handled.few

pub resets_of-resets-requires-clause-bounded : goal.resets_of-resets-requires-clause-bounded
resets_of-resets-requires-clause-bounded c = rw c.as_slice-texts.ensures.value c.requires.handled.few

pub compile-requires : goal.compile-requires
compile-requires c = letters_read c.args.bytes.now (slice_range c.args.tokens.now c.args.property.now.first c.args.property.now.last) c.args.tree.now.table c.args.property.now.logic (is_some c.args.tree.now.suffix) c.args.formula c.requires.read

pub new-requires-clause-handling : goal.new-requires-clause-handling
new-requires-clause-handling c =
    let bytes = c.args.bytes.now in
    let texts = c.as_slice-texts.result.now in
    let is = c.as_slice-texts.ensures.value in
    let known = ap (λ (cs : List (List ℕ)). category_fault bytes cs texts) c.in_ok-categories.ensures.value ∙ ap (λ (hs : List HandlerText). category_fault bytes (category_names c.args.formula) hs) is ∙ c.requires.handled.known in
    let bound = ap (λ (hs : List HandlerText). binding_fault bytes c.args.tree.now.full_binding c.args.tokens.now hs) is ∙ c.requires.handled.bound in
    let names = c.in_ok-handlers.ensures.names in
    record {
      many = omega (arith, c.in_ok-categories.ensures.bounded);
      few = rw (names, length-map, is) c.requires.handled.few;
      known = rw names (all_known bytes c.in_ok-categories.categories texts known);
      there = rw (names, length-map) c.resets_of-resets.ensures.below;
      apart = resets_apart bytes c.args.tokens.now texts c.resets_of-resets.result c.resets_of-resets.ensures.bits c.args.tree.now.full_binding bound;
    }

pub returns-clause-part : goal.returns-clause-part
returns-clause-part c =
    let bytes = c.args.bytes.now in
    let tokens = c.args.tokens.now in
    let texts = c.as_slice-texts.result.now in
    let is = c.as_slice-texts.ensures.value in
    let names = c.in_ok-handlers.handlers in
    part_told bytes tokens c.args.tree.now.table c.args.tree.now.full_binding (facts_of c.args.property.now) c.args.formula c.new.result names (numbers_of c.resets_of-resets.result (length names)) c.new.ensures.rules c.new.ensures.fit
    (c.in_ok-handlers.ensures.names ∙ ap (handler_names bytes) is)
    (same_resets bytes tokens texts c.resets_of-resets.result c.resets_of-resets.ensures.bits names c.in_ok-handlers.ensures.names ∙ ap (resetting_handlers bytes tokens) is)
