use Rattle.std.proofs.Common.{◌≡◌, ◌<◌, ◌+◌, ℕ, Bool, [], ◌∷◌, ◌++◌, List, Option, Some, take, map, get_or, length, sym, ◌∙◌, ap, subst}
use Rattle.std.specs.Option.{is_some}
use Rattle.std.proofs.lemmas.List.{map_more}
use Rattle.jm_model.specs.declared.fault.SpecFault.{SpecFault}
use Rattle.jm_text.specs.declared.token.Token.{Token}
use Rattle.jm_events.specs.Events.{EventDefinitions}
use Rattle.jm_spec.specs.declared.tree.PropertyTree.{PropertyTree}
use Rattle.jm_spec.specs.Trees.{PropertyFacts, facts_of}
use Rattle.jm_machine.specs.declared.formula.Formula.{Formula}
use Rattle.jm_machine.specs.Compiling.{IsFormula, IsRefusedFormula}
use Rattle.jm_machine.specs.Refusals.{earlier_of}
use Rattle.jm_machine.proofs.RefusalLemmas.{ReadSoFar, read_more, refused_more}
use Rattle.jm_machine.proofs.compile.read_formulas.Goals as goal
use Rattle.jm_machine.proofs.compile.read_formulas.Goals.{in-Ok+in_ok-push-in-Ok, in-Err-Bad}

module _ (bytes : List ℕ) (tokens : List Token) (table : EventDefinitions) (suffix : Bool) (xs ys : List PropertyTree) (same : xs ≡ ys) (i : ℕ) (x : PropertyTree) (is : x ≡ get_or xs i x) (less : i < length xs) where
  more : map facts_of (take i ys) ++ facts_of x ∷ [] ≡ map facts_of (take (i + 1) ys)
  more =
      sym (subst (λ (zs : List PropertyTree). map facts_of (take (i + 1) zs) ≡ map facts_of (take i zs) ++ facts_of x ∷ []) same
      (map_more facts_of xs i x less ∙ ap (λ (z : PropertyTree). map facts_of (take i xs) ++ facts_of z ∷ []) (sym is)))

  read_step : (fs gs : List Formula) (first next : Option SpecFault) (f : Formula) → gs ≡ fs ++ f ∷ [] → next ≡ first → ReadSoFar bytes tokens table suffix (map facts_of (take i ys)) fs first → IsFormula bytes tokens table suffix (facts_of x) f
      → ReadSoFar bytes tokens table suffix (map facts_of (take (i + 1) ys)) gs next
  read_step fs gs first next f pushed kept before read =
      let ps = map facts_of (take i ys) in
      subst (λ (qs : List PropertyFacts). ReadSoFar bytes tokens table suffix qs gs next) more
      (subst (λ (hs : List Formula). ReadSoFar bytes tokens table suffix (ps ++ facts_of x ∷ []) hs next) (sym pushed)
      (subst (λ (o : Option SpecFault). ReadSoFar bytes tokens table suffix (ps ++ facts_of x ∷ []) (fs ++ f ∷ []) o) (sym kept)
      (read_more bytes tokens table suffix ps fs first (facts_of x) f before read)))

  refused_step : (fs gs : List Formula) (first next : Option SpecFault) (fault found : SpecFault) → found ≡ earlier_of first fault → next ≡ Some found → ReadSoFar bytes tokens table suffix (map facts_of (take i ys)) fs first → IsRefusedFormula bytes tokens table suffix (facts_of x) fault
      → ReadSoFar bytes tokens table suffix (map facts_of (take (i + 1) ys)) gs next
  refused_step fs gs first next fault found earlier kept before refused =
      let ps = map facts_of (take i ys) in
      subst (λ (qs : List PropertyFacts). ReadSoFar bytes tokens table suffix qs gs next) more
      (subst (λ (o : Option SpecFault). ReadSoFar bytes tokens table suffix (ps ++ facts_of x ∷ []) gs o) (sym (kept ∙ ap (λ (e : SpecFault). Some e) earlier))
      (refused_more bytes tokens table suffix ps fs first (facts_of x) fault before refused))

pub loop-property-preserved : goal.loop-property-preserved
loop-property-preserved c =
    let bytes = c.args.bytes.now in
    let tokens = c.args.tokens.now in
    let tree = c.args.tree.now in
    let xs = c.as_slice-property-items.result.now in
    let i = c.loop-property.property-index in
    let x = c.property-item.result in
    let fs = c.loop-property.formulas.items in
    let first = c.loop-property.first in
    elim c.match-read_formula.branch [
      | in-Ok+in_ok-push-in-Ok w ↦
          read_step bytes tokens tree.table (is_some tree.suffix) xs tree.properties.items c.as_slice-property-items.ensures.value i x c.property-item.is c.loop-property-test.true fs c.match-read_formula.formulas.items first c.match-read_formula.first w.in-Ok.formula
          (rw w.formulas-is w.in_ok-push-in-Ok.ensures.items) w.first-is c.loop-property.invariant w.in-Ok.ensures.ok
      | in-Err-Bad w ↦
          refused_step bytes tokens tree.table (is_some tree.suffix) xs tree.properties.items c.as_slice-property-items.ensures.value i x c.property-item.is c.loop-property-test.true fs c.match-read_formula.formulas.items first c.match-read_formula.first w.in-Err-Bad.fault w.earlier.result
          w.earlier.ensures w.first-is c.loop-property.invariant
          (rw w.in-Err-Bad.field-0-is at w.in-Err-Bad.ensures.err)
    ]
