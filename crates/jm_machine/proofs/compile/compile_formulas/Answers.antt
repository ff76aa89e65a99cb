use Rattle.std.proofs.Common.{◌≡◌, ◌⊎◌, inl, inr, ◌<◌, ◌≤◌, ◌+◌, ℕ, zero, suc, Bool, [], ◌∷◌, ◌++◌, List, Option, Some, drop, map, get_or, length, slice_get, refl, sym, ◌∙◌, ap, subst, arith, add-one, drop-cons}
use Rattle.std.specs.Prelude.{option_map}
use Rattle.std.specs.List.{remove}
use Rattle.std.specs.Option.{is_some}
use Rattle.std.proofs.lemmas.Bool.{cases_lt}
use Rattle.std.proofs.lemmas.List.{length-append, length-map}
use Rattle.std.proofs.lemmas.Option.{same_Some, none-some, slice_get_within, slice_get-map, slice_get-get_or}
use Rattle.std.proofs.lemmas.Result.{err_from_is_err_and}
use Rattle.jm_model.specs.declared.fault.SpecError.{SpecError}
use Rattle.jm_model.specs.declared.fault.SpecError.TheVariants.{Bad, NoMemory}
use Rattle.jm_model.specs.declared.fault.SpecFault.{SpecFault}
use Rattle.jm_text.specs.declared.token.Token.{Token}
use Rattle.jm_events.specs.Events.{EventDefinitions}
use Rattle.jm_table.specs.Explorations.{IfBad}
use Rattle.jm_spec.specs.declared.tree.PropertyTree.{PropertyTree}
use Rattle.jm_spec.specs.Trees.{PropertyFacts, facts_of}
use Rattle.jm_machine.specs.declared.formula.Formula.{Formula}
use Rattle.jm_machine.specs.Formulas.{IsTableFault}
use Rattle.jm_machine.specs.CompiledProperties.{CompiledProperty}
use Rattle.jm_machine.specs.Compiling.{AreFormulas, IsFirstTableFault, IsSettled}
use Rattle.jm_machine.specs.Refusals.{IsPart}
use Rattle.jm_machine.proofs.ReadingLemmas.{formula_at, count_formulas}
use Rattle.jm_machine.proofs.HandledLemmas.{handled_each}
use Rattle.jm_machine.proofs.compile.compile_formulas.Goals as goal

-- the property of the loop
property_here : (xs ys : List PropertyTree) (i : ℕ) (x : PropertyTree) → xs ≡ ys → x ≡ get_or xs i x → i < length xs → slice_get (map facts_of ys) i ≡ Some (facts_of x)
property_here xs ys i x same is less =
    slice_get-map facts_of ys i
    ∙ ap (λ (o : Option PropertyTree). option_map facts_of o) (ap (λ (zs : List PropertyTree). slice_get zs i) (sym same) ∙ slice_get-get_or xs i x less ∙ ap (λ (z : PropertyTree). Some z) (sym is))

-- there are as many formulas as properties
as_many : (bytes : List ℕ) (tokens : List Token) (table : EventDefinitions) (suffix : Bool) (xs ys : List PropertyTree) (fs : List Formula) → xs ≡ ys → AreFormulas bytes tokens table suffix (map facts_of ys) fs → length fs ≡ length xs
as_many bytes tokens table suffix xs ys fs same read =
    count_formulas bytes tokens table suffix (map facts_of ys) fs read ∙ length-map ys facts_of ∙ ap (λ (zs : List PropertyTree). length zs) (sym same)

-- the property's formula, and what is left after that
module _ (fs : List Formula) (i : ℕ) (less : i < length fs) (left : List Formula) (rest : left ≡ drop i fs) where
  left_is : (f : Formula) → left ≡ get_or fs i f ∷ drop (suc i) fs
  left_is f = rest ∙ drop-cons fs i f less

  formula_here : (f : Formula) → f ≡ get_or left 0 f → slice_get fs i ≡ Some f
  formula_here f is =
      slice_get-get_or fs i f less ∙ ap (λ (g : Formula). Some g) (sym (is ∙ ap (λ (hs : List Formula). get_or hs 0 f) (left_is f)))

  left_later : (f : Formula) (after : List Formula) → after ≡ remove left 0 → after ≡ drop (i + 1) fs
  left_later f after cut = rw add-one (cut ∙ ap (λ (hs : List Formula). remove hs 0) (left_is f))

some_of_drop : (fs : List Formula) (i : ℕ) → i < length fs → 0 < length (drop i fs)
some_of_drop [] i less = absurd (omega (arith, less))
some_of_drop (f ∷ fs) zero less = omega arith
some_of_drop (f ∷ fs) (suc i) less = some_of_drop fs i (omega (arith, less))

-- the parts with one more after them
split : (parts : List CompiledProperty) (part : CompiledProperty) (k : ℕ) (other : CompiledProperty) → slice_get (parts ++ part ∷ []) k ≡ Some other → (slice_get parts k ≡ Some other) ⊎ ((k ≡ length parts) × (part ≡ other))
split [] part zero other at = inr (refl, same_Some part other at)
split [] part (suc k) other at = absurd (none-some other at)
split (q ∷ parts) part zero other at = inl at
split (q ∷ parts) part (suc k) other at = elim (split parts part k other at) [ inl h ↦ inl h | inr h ↦ inr (omega (arith, h.0), h.1) ]

module _ (bytes : List ℕ) (full_binding : Bool) (tokens : List Token) (table : EventDefinitions) (ps : List PropertyFacts) (fs : List Formula) (i : ℕ) where
  abbrev AreEach : List CompiledProperty → Type 0
  AreEach parts =
      (k : ℕ) (p : PropertyFacts) (f : Formula) (part : CompiledProperty) → slice_get ps k ≡ Some p → slice_get fs k ≡ Some f → slice_get parts k ≡ Some part → IsPart bytes full_binding tokens table p f part

  part_more : (parts : List CompiledProperty) (p : PropertyFacts) (f : Formula) (part : CompiledProperty) → length parts ≡ i → slice_get ps i ≡ Some p → slice_get fs i ≡ Some f → IsPart bytes full_binding tokens table p f part → AreEach parts → AreEach (parts ++ part ∷ [])
  part_more parts p f part count at there made each k q g other atk therek isk =
      elim (split parts part k other isk) [
        | inl before ↦ each k q g other atk therek before
        | inr last ↦
            let number : k ≡ i = omega (arith, last.0, count) in
            let property : p ≡ q = same_Some p q (sym at ∙ ap (λ (n : ℕ). slice_get ps n) (sym number) ∙ atk) in
            let formula : f ≡ g = same_Some f g (sym there ∙ ap (λ (n : ℕ). slice_get fs n) (sym number) ∙ therek) in
            subst (λ (x : PropertyFacts). IsPart bytes full_binding tokens table x g other) property
            (subst (λ (x : Formula). IsPart bytes full_binding tokens table p x other) formula
            (subst (λ (x : CompiledProperty). IsPart bytes full_binding tokens table p f x) last.1 made))
      ]

-- formulas without a fault in the making of their tables
module _ (letters : ℕ) (fs : List Formula) (i : ℕ) where
  abbrev AreSettled : ℕ → Type 0
  AreSettled n = (k : ℕ) (f : Formula) (fault : SpecFault) → k < n → slice_get fs k ≡ Some f → IsTableFault f letters fault → ⊥

  settled_more : (f : Formula) → slice_get fs i ≡ Some f → ((fault : SpecFault) → IsTableFault f letters fault → ⊥) → AreSettled i → AreSettled (i + 1)
  settled_more f at settled before k g fault less atk bad =
      elim (cases_lt k i) [
        | inl earlier ↦ before k g fault earlier atk bad
        | inr late ↦
            let number : k ≡ i = omega (arith, less, late) in
            settled fault (subst (λ (h : Formula). IsTableFault h letters fault) (same_Some g f (sym atk ∙ ap (λ (n : ℕ). slice_get fs n) number ∙ at)) bad)
      ]

  all_settled : length fs ≤ i → AreSettled i → IsSettled letters fs
  all_settled all settled k f fault at bad =
      let within = slice_get_within fs k f at in
      settled k f fault (omega (arith, within, all)) at bad

  first_faulty : (f : Formula) (e : SpecError) → slice_get fs i ≡ Some f → IfBad e (IsTableFault f letters) → AreSettled i → IfBad e (IsFirstTableFault letters fs)
  first_faulty f NoMemory at bad settled = tt
  first_faulty f (Bad fault) at bad settled = record {
    number = i;
    formula = f;
    there = at;
    faulty = bad;
    before = λ k g other less atk worse. settled k g other less atk worse;
  }

pub remove-formula-requires : goal.remove-formula-requires
remove-formula-requires c =
    let fs = c.args.formulas.items in
    let i = c.loop-property.property-index in
    let many = as_many c.args.bytes.now c.args.tokens.now c.args.tree.now.table (is_some c.args.tree.now.suffix) c.as_slice-property-items.result.now c.args.tree.now.properties.items fs c.as_slice-property-items.ensures.value c.requires.read in
    let less : i < length fs = omega (arith, many, c.loop-property-test.true) in
    let some = some_of_drop fs i less in
    let rest = ap (λ (hs : List Formula). length hs) c.loop-property.invariant.rest in
    omega (arith, some, rest, c.loop-property.formulas.ok.0)

pub compile_formula-requires-clause-read : goal.compile_formula-requires-clause-read
compile_formula-requires-clause-read c =
    let bytes = c.args.bytes.now in
    let tokens = c.args.tokens.now in
    let table = c.args.tree.now.table in
    let xs = c.as_slice-property-items.result.now in
    let ys = c.args.tree.now.properties.items in
    let same = c.as_slice-property-items.ensures.value in
    let fs = c.args.formulas.items in
    let i = c.loop-property.property-index in
    let x = c.property-item.result in
    let f = c.remove-formula.result in
    let many = as_many bytes tokens table (is_some c.args.tree.now.suffix) xs ys fs same c.requires.read in
    let less : i < length fs = omega (arith, many, c.loop-property-test.true) in
    formula_at bytes tokens table (is_some c.args.tree.now.suffix) (map facts_of ys) fs i (facts_of x) f c.requires.read (property_here xs ys i x same c.property-item.is c.loop-property-test.true)
    (formula_here fs i less c.loop-property.formulas.items c.loop-property.invariant.rest f c.remove-formula.ensures.value)

pub compile_formula-requires-clause-handled : goal.compile_formula-requires-clause-handled
compile_formula-requires-clause-handled c =
    let bytes = c.args.bytes.now in
    let tokens = c.args.tokens.now in
    let tree = c.args.tree.now in
    let xs = c.as_slice-property-items.result.now in
    let ys = tree.properties.items in
    let same = c.as_slice-property-items.ensures.value in
    let fs = c.args.formulas.items in
    let i = c.loop-property.property-index in
    let x = c.property-item.result in
    let f = c.remove-formula.result in
    let many = as_many bytes tokens tree.table (is_some tree.suffix) xs ys fs same c.requires.read in
    let less : i < length fs = omega (arith, many, c.loop-property-test.true) in
    handled_each bytes tree.full_binding tokens (map facts_of ys) fs c.requires.handled i (facts_of x) f (property_here xs ys i x same c.property-item.is c.loop-property-test.true)
    (formula_here fs i less c.loop-property.formulas.items c.loop-property.invariant.rest f c.remove-formula.ensures.value)

pub returns-in_err-compile_formula-clause-err : goal.returns-in_err-compile_formula-clause-err
returns-in_err-compile_formula-clause-err c =
    let tree = c.args.tree.now in
    let xs = c.as_slice-property-items.result.now in
    let fs = c.args.formulas.items in
    let i = c.loop-property.property-index in
    let f = c.remove-formula.result in
    let many = as_many c.args.bytes.now c.args.tokens.now tree.table (is_some tree.suffix) xs tree.properties.items fs c.as_slice-property-items.ensures.value c.requires.read in
    let less : i < length fs = omega (arith, many, c.loop-property-test.true) in
    let at = formula_here fs i less c.loop-property.formulas.items c.loop-property.invariant.rest f c.remove-formula.ensures.value in
    let p = err_from_is_err_and c.from_residual.result c.from_residual.ensures.1 in
    rw (p.1, p.2) (first_faulty (length tree.table.events) fs i f _ at c.in_err-compile_formula.ensures.err c.loop-property.invariant.settled)

pub loop-property-preserved : goal.loop-property-preserved
loop-property-preserved c =
    let bytes = c.args.bytes.now in
    let tokens = c.args.tokens.now in
    let tree = c.args.tree.now in
    let xs = c.as_slice-property-items.result.now in
    let ys = tree.properties.items in
    let same = c.as_slice-property-items.ensures.value in
    let fs = c.args.formulas.items in
    let i = c.loop-property.property-index in
    let x = c.property-item.result in
    let f = c.remove-formula.result in
    let left = c.loop-property.formulas.items in
    let parts = c.loop-property.parts.items in
    let part = c.in_ok-compile_formula.field-0 in
    let before = c.loop-property.invariant in
    let many = as_many bytes tokens tree.table (is_some tree.suffix) xs ys fs same c.requires.read in
    let less : i < length fs = omega (arith, many, c.loop-property-test.true) in
    let at = property_here xs ys i x same c.property-item.is c.loop-property-test.true in
    let there = formula_here fs i less left before.rest f c.remove-formula.ensures.value in
    let count = before.count in
    record {
      rest = left_later fs i less left before.rest f c.remove-formula.new.self.items c.remove-formula.ensures.items;
      count = rw c.in_ok-push.ensures.items (omega (arith, length-append parts (part ∷ []), count));
      each = rw c.in_ok-push.ensures.items
          (part_more bytes tree.full_binding tokens tree.table (map facts_of ys) fs i parts (facts_of x) f part count at there c.in_ok-compile_formula.ensures.part before.each);
      settled = settled_more (length tree.table.events) fs i f there c.in_ok-compile_formula.ensures.settled before.settled;
    }

pub returns-clause-settled : goal.returns-clause-settled
returns-clause-settled c =
    let tree = c.args.tree.now in
    let xs = c.as_slice-property-items.result.now in
    let fs = c.args.formulas.items in
    let i = c.loop-property.property-index in
    let many = as_many c.args.bytes.now c.args.tokens.now tree.table (is_some tree.suffix) xs tree.properties.items fs c.as_slice-property-items.ensures.value c.requires.read in
    all_settled (length tree.table.events) fs i (omega (arith, many, c.loop-property-test.false)) c.loop-property.invariant.settled
