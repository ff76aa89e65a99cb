use Rattle.std.proofs.Common.{◌≡◌, ◌≤◌, List, [], Ok, arith, length, sym, subst, ◌∙◌}
use Rattle.std.proofs.lemmas.List.{length-map, at_drop_all}
use Rattle.jm_events.specs.Events.{EventDefinition, event_names}
use Rattle.jm_reading.specs.Faults.{with_each}
use Rattle.jm_grammar.specs.declared.formula.Part.{Part}
use Rattle.jm_grammar.specs.declared.grammar.Production.{Production}
use Rattle.jm_grammar.specs.Grammars.{IsSmall}
use Rattle.jm_grammar.specs.Faults.{with_part}
use Rattle.jm_grammar.proofs.MadeLemmas.{is_small}
use Rattle.jm_grammar.proofs.resolve.known_grammar.Goals as goal

pub new-requires : goal.new-requires
new-requires c =
    let bytes = c.args.bytes.now in
    let events = event_names c.args.table.now in
    let known = c.args.known.now in
    let parts = c.args.parts.now in
    let few_events : length events ≤ 32 = omega (arith, c.requires.events, length-map c.args.table.now.events (λ (e : EventDefinition). e.name)) in
    let made : with_each (with_part bytes events known) [] parts ≡ Ok c.loop-part.productions =
    sym c.loop-part.invariant ∙ at_drop_all (λ (l : List Part). with_each (with_part bytes events known) c.loop-part.productions l) parts c.loop-part.part-index c.loop-part-test.false in
    subst (λ (l : List Production). IsSmall l 0) (sym c.into_vec.ensures)
    (is_small bytes events known parts c.loop-part.productions few_events c.requires.bounded c.requires.productions c.requires.symbols made)
