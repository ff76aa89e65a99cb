use Rattle.std.proofs.Common.{ℕ, ◌≡◌, List, [], ◌∷◌, ◌++◌, IfOk, length, refl, sym, ◌∙◌, subst}
use Rattle.jm_machine.specs.declared.engine.Engine.{Engine}
use Rattle.jm_machine.specs.Engines.{IsPlaceOf}
use Rattle.jm_machine.specs.Known.{engine_of}
use Rattle.jm_machine.specs.CompiledProperties.{numbers_of}
use Rattle.jm_machine.proofs.PropertyLemmas.{never_reset, went_past}
use Rattle.jm_machine.proofs.property.Property.step.Goals as goal

pub returns-then-resets-eq0 : goal.returns-then-resets-eq0
returns-then-resets-eq0 c =
    let i = c.self.inside in
    let same : engine_of i.engine ≡ c.args.self.now.engine = rw (← c.self.view_is) refl in
    let listed : c.args.self.now.definition.resets ≡ numbers_of i.goal.resets (length i.handlers) = rw (← c.self.view_is) refl in
    went_past c.args.self.now c.next.result c.args.place.now c.args.letter.0
    (subst (λ (e : Engine). IfOk c.next.result (λ next. (word : List ℕ) → IsPlaceOf e c.args.place.now word → IsPlaceOf e next (word ++ c.args.letter.0 ∷ []))) same c.next.ensures)
    (λ x some place resets. never_reset c.args.self.now i.goal.resets (length i.handlers) listed (sym c.resets.ensures ∙ c.if-resets-eq0.true) x resets)
