use Rattle.std.proofs.Common.{◌≡◌, [], ◌∷◌, ◌<◌, ℕ, Option, None, List, map, get_or, length, sym, ◌∙◌, ap, subst, arith}
use Rattle.std.specs.Prelude.{All, ◌^◌}
use Rattle.std.specs.List.{remove}
use Rattle.std.specs.Option.{is_some}
use Rattle.std.proofs.lemmas.List.{length-map}
use Rattle.std.proofs.lemmas.Result.{err_from_is_err_and}
use Rattle.jm_model.specs.declared.fault.SpecError.{SpecError}
use Rattle.jm_model.specs.declared.fault.SpecFault.{SpecFault}
use Rattle.jm_text.specs.declared.token.Token.{Token}
use Rattle.jm_reading.specs.Faults.{Refuses}
use Rattle.jm_spec.specs.declared.tree.PropertyTree.{PropertyTree}
use Rattle.jm_spec.specs.declared.tree.SpecTree.{SpecTree}
use Rattle.jm_spec.specs.Trees.{facts_of, properties_of}
use Rattle.jm_machine.specs.declared.formula.Formula.{Formula}
use Rattle.jm_machine.specs.Handlers.{handlers_fault, suffix_fault}
use Rattle.jm_machine.specs.CompiledProperties.{CompiledProperty}
use Rattle.jm_machine.specs.Compiling.{AreFormulas, IsCompiledFrom, IsNotCompiled}
use Rattle.jm_machine.specs.RuleSets.{CompiledRules}
use Rattle.jm_machine.specs.Refusals.{AreParts}
use Rattle.jm_machine.proofs.ReadingLemmas.{count_formulas}
use Rattle.jm_machine.proofs.CompilingLemmas.{parts_alike, parts_handlers, parts_distinct, parts_fit, refused_handlers, refused_suffix, refused_tables, compiled_from}
use Rattle.jm_machine.proofs.rules.Rules.compile.Goals as goal
use Rattle.jm_machine.proofs.rules.Rules.compile.Goals.{After-remove-first}

-- the first part, and the others
removed : (parts : List CompiledProperty) (first : CompiledProperty) (others : List CompiledProperty) → 0 < length parts → first ≡ get_or parts 0 first → others ≡ remove parts 0 → parts ≡ first ∷ others
removed [] first others some is cut = absurd (omega (arith, some))
removed (part ∷ parts) first others some is cut = λ i. sym is i ∷ sym cut i

module _ (bytes : List ℕ) (tokens : List Token) (tree : SpecTree) (xs : List PropertyTree) (fs gs : List Formula) (same : xs ≡ tree.properties.items) (kept : gs ≡ fs) where
  same_fault : handlers_fault bytes tree.full_binding tokens (map facts_of xs) gs ≡ handlers_fault bytes tree.full_binding tokens (properties_of tree) fs
  same_fault =
      ap (λ (zs : List PropertyTree). handlers_fault bytes tree.full_binding tokens (map facts_of zs) gs) same
      ∙ ap (λ (hs : List Formula). handlers_fault bytes tree.full_binding tokens (properties_of tree) hs) kept

  handled : handlers_fault bytes tree.full_binding tokens (map facts_of xs) gs ≡ None → handlers_fault bytes tree.full_binding tokens (properties_of tree) fs ≡ None
  handled none = sym same_fault ∙ none

  refused : AreFormulas bytes tokens tree.table (is_some tree.suffix) (properties_of tree) fs → (e : SpecError) → Refuses (handlers_fault bytes tree.full_binding tokens (map facts_of xs) gs) e → IsNotCompiled bytes tokens tree e
  refused read e h = refused_handlers bytes tokens tree fs read e (subst (λ (o : Option SpecFault). Refuses o e) same_fault h)

  same_suffix : suffix_fault bytes tree.suffix (map facts_of xs) ≡ suffix_fault bytes tree.suffix (properties_of tree)
  same_suffix = ap (λ (zs : List PropertyTree). suffix_fault bytes tree.suffix (map facts_of zs)) same

  suffixed : suffix_fault bytes tree.suffix (map facts_of xs) ≡ None → suffix_fault bytes tree.suffix (properties_of tree) ≡ None
  suffixed none = sym same_suffix ∙ none

  unsuffixed : AreFormulas bytes tokens tree.table (is_some tree.suffix) (properties_of tree) fs → handlers_fault bytes tree.full_binding tokens (map facts_of xs) gs ≡ None → (e : SpecError) → Refuses (suffix_fault bytes tree.suffix (map facts_of xs)) e → IsNotCompiled bytes tokens tree e
  unsuffixed read none e h = refused_suffix bytes tokens tree fs read e (handled none) (subst (λ (o : Option SpecFault). Refuses o e) same_suffix h)

  made : (parts : List CompiledProperty) (first : CompiledProperty) (others : List CompiledProperty) → 0 < length tree.properties.items → AreParts bytes tree.full_binding tokens tree.table (properties_of tree) fs parts → first ≡ get_or parts 0 first → others ≡ remove parts 0
      → AreParts bytes tree.full_binding tokens tree.table (properties_of tree) fs (first ∷ others)
  made parts first others some are is cut =
      let count = are.count in
      let many = length-map tree.properties.items facts_of in
      subst (λ (all : List CompiledProperty). AreParts bytes tree.full_binding tokens tree.table (properties_of tree) fs all)
      (removed parts first others (omega (arith, count, many, some)) is cut) are

pub check_handlers-requires-clause-count : goal.check_handlers-requires-clause-count
check_handlers-requires-clause-count c =
    let tree = c.args.tree.now in
    let many = count_formulas c.args.bytes.now c.args.tokens.now tree.table (is_some tree.suffix) (properties_of tree) c.in_ok-formulas.formulas.items c.in_ok-formulas.ensures.ok in
    let facts = length-map tree.properties.items facts_of in
    let kept = ap (λ (hs : List Formula). length hs) c.as_slice.ensures.value in
    let same = ap (λ (zs : List PropertyTree). length zs) c.as_slice-properties.ensures.value in
    omega (arith, many, facts, kept, same)

pub returns-in_err-check_handlers-clause-err : goal.returns-in_err-check_handlers-clause-err
returns-in_err-check_handlers-clause-err c =
    let p = err_from_is_err_and c.from_residual-in_err-check_handlers.result c.from_residual-in_err-check_handlers.ensures.1 in
    rw (p.1, p.2)
    (refused c.args.bytes.now c.args.tokens.now c.args.tree.now c.as_slice-properties.result.now c.in_ok-formulas.formulas.items c.as_slice.result.now c.as_slice-properties.ensures.value c.as_slice.ensures.value c.in_ok-formulas.ensures.ok _
    c.in_err-check_handlers.ensures)

pub returns-in_err-check_suffix-clause-err : goal.returns-in_err-check_suffix-clause-err
returns-in_err-check_suffix-clause-err c =
    let p = err_from_is_err_and c.from_residual-in_err-check_suffix.result c.from_residual-in_err-check_suffix.ensures.1 in
    rw (p.1, p.2)
    (unsuffixed c.args.bytes.now c.args.tokens.now c.args.tree.now c.as_slice-properties.result.now c.in_ok-formulas.formulas.items c.as_slice.result.now c.as_slice-properties.ensures.value c.as_slice.ensures.value c.in_ok-formulas.ensures.ok
    c.in_ok-check_handlers.ensures _ c.in_err-check_suffix.ensures)

pub returns-in_err-parts-clause-err : goal.returns-in_err-parts-clause-err
returns-in_err-parts-clause-err c =
    let fs = c.in_ok-formulas.formulas.items in
    let p = err_from_is_err_and c.from_residual-in_err-parts.result c.from_residual-in_err-parts.ensures.1 in
    rw (p.1, p.2)
    (refused_tables c.args.bytes.now c.args.tokens.now c.args.tree.now fs c.in_ok-formulas.ensures.ok
    (handled c.args.bytes.now c.args.tokens.now c.args.tree.now c.as_slice-properties.result.now fs c.as_slice.result.now c.as_slice-properties.ensures.value c.as_slice.ensures.value c.in_ok-check_handlers.ensures)
    (suffixed c.args.bytes.now c.args.tokens.now c.args.tree.now c.as_slice-properties.result.now fs c.as_slice.result.now c.as_slice-properties.ensures.value c.as_slice.ensures.value c.in_ok-check_suffix.ensures) _ c.in_err-parts.ensures.err)

-- at the call of `new`
none_here : (c : After-remove-first) → handlers_fault c.args.bytes.now c.args.tree.now.full_binding c.args.tokens.now (properties_of c.args.tree.now) c.in_ok-formulas.formulas.items ≡ None
none_here c =
    handled c.args.bytes.now c.args.tokens.now c.args.tree.now c.as_slice-properties.result.now c.in_ok-formulas.formulas.items c.as_slice.result.now c.as_slice-properties.ensures.value c.as_slice.ensures.value c.in_ok-check_handlers.ensures

none_suffixed : (c : After-remove-first) → suffix_fault c.args.bytes.now c.args.tree.now.suffix (properties_of c.args.tree.now) ≡ None
none_suffixed c =
    suffixed c.args.bytes.now c.args.tokens.now c.args.tree.now c.as_slice-properties.result.now c.in_ok-formulas.formulas.items c.as_slice.result.now c.as_slice-properties.ensures.value c.as_slice.ensures.value c.in_ok-check_suffix.ensures

made_here : (c : After-remove-first) → AreParts c.args.bytes.now c.args.tree.now.full_binding c.args.tokens.now c.args.tree.now.table (properties_of c.args.tree.now) c.in_ok-formulas.formulas.items (c.remove-first.result ∷ c.remove-first.new.self.items)
made_here c =
    made c.args.bytes.now c.args.tokens.now c.args.tree.now c.as_slice-properties.result.now c.in_ok-formulas.formulas.items c.as_slice.result.now c.as_slice-properties.ensures.value c.as_slice.ensures.value c.in_ok-parts.parts.items c.remove-first.result
    c.remove-first.new.self.items c.requires.bounded.0 c.in_ok-parts.ensures.parts c.remove-first.ensures.value c.remove-first.ensures.items

pub new-requires-clause-alike : goal.new-requires-clause-alike
new-requires-clause-alike c =
    parts_alike c.args.bytes.now c.args.tree.now.full_binding c.args.tokens.now c.args.tree.now.table (is_some c.args.tree.now.suffix) (properties_of c.args.tree.now) c.in_ok-formulas.formulas.items c.in_ok-formulas.ensures.ok (none_here c) c.remove-first.result c.remove-first.new.self.items (made_here c)

pub new-requires-clause-handlers : goal.new-requires-clause-handlers
new-requires-clause-handlers c =
    parts_handlers c.args.bytes.now c.args.tree.now.full_binding c.args.tokens.now c.args.tree.now.table (is_some c.args.tree.now.suffix) (properties_of c.args.tree.now) c.in_ok-formulas.formulas.items c.in_ok-formulas.ensures.ok (none_here c) c.remove-first.result c.remove-first.new.self.items (made_here c)

pub new-requires-clause-distinct : goal.new-requires-clause-distinct
new-requires-clause-distinct c =
    parts_distinct c.args.bytes.now c.args.tree.now.full_binding c.args.tokens.now c.args.tree.now.table (is_some c.args.tree.now.suffix) (properties_of c.args.tree.now) c.in_ok-formulas.formulas.items c.in_ok-formulas.ensures.ok (none_here c) c.remove-first.result c.remove-first.new.self.items (made_here c)

pub returns-clause-ok : goal.returns-clause-ok
returns-clause-ok c =
    let d = (goal.at.returns-clause-ok c).After-remove-first in
    subst (λ (r : CompiledRules). IsCompiledFrom c.args.bytes.now c.args.tokens.now c.args.tree.now r.definition) (sym c.in_ok-new.ensures)
    (compiled_from c.args.bytes.now c.args.tokens.now c.args.tree.now c.in_ok-formulas.formulas.items c.in_ok-formulas.ensures.ok (none_here d) (none_suffixed d) c.in_ok-parts.ensures.settled c.remove-first.result c.remove-first.new.self.items (made_here d))

pub returns-clause-fit : goal.returns-clause-fit
returns-clause-fit c =
    let d = (goal.at.returns-clause-fit c).After-remove-first in
    let tree = c.args.tree.now in
    subst (λ (r : CompiledRules). All (λ mask. mask < 2 ^ length tree.table.parameters) r.definition.masks) (sym c.in_ok-new.ensures)
    (parts_fit c.args.bytes.now tree.full_binding c.args.tokens.now tree.table (is_some tree.suffix) (properties_of tree) c.in_ok-formulas.formulas.items c.in_ok-formulas.ensures.ok (none_here d) c.remove-first.result c.remove-first.new.self.items (made_here d))
