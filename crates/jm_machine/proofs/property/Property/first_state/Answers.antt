use Rattle.std.proofs.Common.{◌≡◌, ◌<◌, [], ◌∷◌, length, refl, sym, subst, arith}
use Rattle.jm_machine.specs.declared.engine.Engine.{Engine}
use Rattle.jm_machine.specs.declared.engine.Engine.TheVariants.{States}
use Rattle.jm_machine.specs.declared.place.Place.TheVariants.{State}
use Rattle.jm_machine.specs.PropertyMeanings.{Resets}
use Rattle.jm_machine.specs.Engines.{IsPlaceOf}
use Rattle.jm_machine.proofs.PlaceLemmas.{no_letters, state_next}
use Rattle.jm_machine.proofs.RestLemmas.{asked_first}
use Rattle.jm_machine.proofs.property.Property.first_state.Goals as goal

pub returns-in-Table : goal.returns-in-Table
returns-in-Table c =
    let i = c.self.inside in
    let r = c.args.self.now in
    let e = c.args.letter.0 in
    let next = c.next_state.result in
    let run : r.engine ≡ States c.in-Table.table = rw (← c.self.view_is, c.in-Table.is) refl in
    let masks : length i.masks.items ≡ length r.definition.masks = rw (← c.self.view_is) refl in
    let letters = rw c.in-Table.is at c.self.invariant.1.letters in
    let within : e < c.in-Table.table.letters = omega (arith, c.requires.letter, letters, masks) in
    let place : IsPlaceOf (States c.in-Table.table) (State next) (e ∷ []) =
    state_next c.in-Table.table c.start.result next e [] c.next_state.ensures.table within c.next_state.ensures.next (no_letters c.in-Table.table, c.start.ensures.value) in (
      ((λ h. absurd cc), c.requires.begins),
      (
        e ∷ [],
        asked_first (Resets r.definition) e,
        subst (λ (x : Engine). IsPlaceOf x (State next) (e ∷ [])) (sym run) place,
      ),
    )
