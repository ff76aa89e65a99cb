use Rattle.std.proofs.Common.{◌≡◌, Option, Some, None, option_map, refl, sym, ◌∙◌, ap}
use Rattle.std.specs.Option.{is_some}
use Rattle.jm_events.specs.Events.{event_names}
use Rattle.jm_events.proofs.NameLemmas.{list_any-number_of}
use Rattle.jm_grammar.proofs.check.is_event.Goals as goal

is_some_of_map : {X Y : Type 0} (f : X → Y) (o : Option X) → is_some (option_map f o) ≡ is_some o
is_some_of_map f None = refl
is_some_of_map f (Some x) = refl

pub returns : goal.returns
returns c = c.is_some.ensures ∙ sym (is_some_of_map (λ letter. letter.0) c.letter.result) ∙ ap (λ o. is_some o) c.letter.ensures.value ∙ sym (list_any-number_of (event_names c.args.table.now) c.args.name.now)
