use Rattle.std.proofs.Common.{ℕ, ◌≡◌, ◌<◌, List, [], ◌∷◌, ◌++◌, Ok, length, refl, sym, ◌∙◌, subst, arith}
use Rattle.jm_machine.specs.declared.engine.Engine.{Engine}
use Rattle.jm_machine.specs.declared.engine.Engine.TheVariants.{States}
use Rattle.jm_machine.specs.declared.place.Place.TheVariants.{State}
use Rattle.jm_machine.specs.Engines.{IsPlaceOf}
use Rattle.jm_machine.specs.CompiledProperties.{numbers_of}
use Rattle.jm_machine.proofs.PlaceLemmas.{state_next}
use Rattle.jm_machine.proofs.PropertyLemmas.{never_reset, went_on, went_past}
use Rattle.jm_machine.proofs.property.Property.state_after.Goals as goal

pub returns-in-Table : goal.returns-in-Table
returns-in-Table c =
    let i = c.self.inside in
    let r = c.args.self.now in
    let e = c.args.letter.0 in
    let next = c.next_state.result in
    let run : r.engine ≡ States c.in-Table.table = rw (← c.self.view_is, c.in-Table.is) refl in
    let listed : r.definition.resets ≡ numbers_of i.goal.resets (length i.handlers) = rw (← c.self.view_is) refl in
    let masks : length i.masks.items ≡ length r.definition.masks = rw (← c.self.view_is) refl in
    let letters = rw c.in-Table.is at c.self.invariant.1.letters in
    let within : e < c.in-Table.table.letters = omega (arith, c.requires, letters, masks) in
    went_on r (Ok (State next)) (State c.args.state) e
    (went_past r (Ok (State next)) (State c.args.state) e
    (subst (λ (x : Engine). (word : List ℕ) → IsPlaceOf x (State c.args.state) word → IsPlaceOf x (State next) (word ++ e ∷ [])) (sym run)
    (λ word place. state_next c.in-Table.table c.args.state next e word c.next_state.ensures.table within c.next_state.ensures.next place))
    (λ x some place resets. never_reset r i.goal.resets (length i.handlers) listed (sym c.resets.ensures ∙ c.if-resets-eq0.true) x resets))
    (λ h. absurd cc)
    (λ h. absurd cc)
