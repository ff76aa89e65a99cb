use Rattle.std.proofs.Common.{ℕ, ◌≡◌, List, [], ◌∷◌, ◌++◌, IfOk, refl, sym, ◌∙◌, subst}
use Rattle.std.proofs.lemmas.Bool.{false≢true}
use Rattle.jm_machine.specs.declared.engine.Engine.{Engine}
use Rattle.jm_machine.specs.Engines.{IsPlaceOf}
use Rattle.jm_machine.specs.Known.{engine_of}
use Rattle.jm_machine.proofs.PropertyLemmas.{went_anew, went_past}
use Rattle.jm_machine.proofs.property.Property.step_past_reset.Goals as goal

pub returns-then-is_reset : goal.returns-then-is_reset
returns-then-is_reset c =
    went_anew c.args.self.now c.first.result c.args.place.now c.args.letter.0 c.first.ensures (λ x some place. (c.is_reset.ensures x some place).0 c.if-is_reset.true)

pub returns-else-is_reset : goal.returns-else-is_reset
returns-else-is_reset c =
    let same : engine_of c.self.inside.engine ≡ c.args.self.now.engine = rw (← c.self.view_is) refl in
    went_past c.args.self.now c.next.result c.args.place.now c.args.letter.0
    (subst (λ (e : Engine). IfOk c.next.result (λ next. (word : List ℕ) → IsPlaceOf e c.args.place.now word → IsPlaceOf e next (word ++ c.args.letter.0 ∷ []))) same c.next.ensures)
    (λ x some place resets. false≢true (sym c.if-is_reset.false ∙ (c.is_reset.ensures x some place).1 resets))
