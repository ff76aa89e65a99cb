-- What can be printed with enough names.
use Rattle.std.proofs.Common.{◌≡◌, ℕ, List, All, length, map, ◌∙◌, refl}
use Rattle.std.proofs.lemmas.List.{length-map}
use Rattle.std.proofs.lemmas.List.Elements.{All-weaker}
use Rattle.jm_events.specs.Events.{EventDefinitions}
use Rattle.jm_model.specs.declared.step.Entry.{Entry}
use Rattle.jm_handler.specs.declared.term.Term.{Term}
use Rattle.jm_print.specs.Lexicons.{Lexicon, lexicon_of}
use Rattle.jm_print.specs.Texts.{IsPrintable}
use Rattle.test_print.specs.Shops.{HasEnough, IsModest}

pub are_printable : (l : Lexicon) → HasEnough l → (h : List Entry) → All IsModest h → All (IsPrintable l) h
are_printable l enough h modest = All-weaker IsModest (IsPrintable l) (λ x is. is l enough) h modest

pub has_enough : (name : List ℕ) (table : EventDefinitions) (handlers objects : List (List ℕ)) (texts : List (List (List Term))) → length table.parameters ≡ 8 → length table.events ≡ 2 → length handlers ≡ 2 → length objects ≡ 2 → HasEnough (lexicon_of name table handlers objects texts)
has_enough name table handlers objects texts p e h o = record {
  parameters = p;
  events = length-map table.events (λ x. x.name) ∙ e;
  handlers = h;
  objects = o;
}
