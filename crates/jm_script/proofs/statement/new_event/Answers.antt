use Rattle.std.proofs.Common.{◌+◌, take, drop, sym, ap, ◌∙◌}
use Rattle.jm_text.proofs.Names.{name_utf8}
use Rattle.jm_lines.proofs.WordLemmas.{both_left, both_right}
use Rattle.jm_script.proofs.ObjectLemmas.{texts}
use Rattle.jm_script.proofs.KnownLemmas.{looked_up, has_room}
use Rattle.jm_script.proofs.statement.new_event.Goals as goal

pub named_event-requires-clause-spec_text : goal.named_event-requires-clause-spec_text
named_event-requires-clause-spec_text c = name_utf8 _ (both_left _ _ (both_left _ _ (sym c.is_event_line.ensures ∙ c.if-not-is_event_line.false)))

pub named_event-requires-clause-event_text : goal.named_event-requires-clause-event_text
named_event-requires-clause-event_text c = name_utf8 _ (both_right _ _ (both_left _ _ (sym c.is_event_line.ensures ∙ c.if-not-is_event_line.false)))

pub returns-in-Ok : goal.returns-in-Ok
returns-in-Ok c = record {
  event = looked_up c.args.catalog.now c.args.position.line c.args.word.now _ _ (texts c.args.objects.now) _ c.in-Ok.event
      (ap (λ n. take n c.args.word.now) c.position_of-dot.ensures.value)
      (c.behind-event.ensures ∙ ap (λ n. drop (n + 1) c.args.word.now) c.position_of-dot.ensures.value)
      (sym c.is_event_line.ensures ∙ c.if-not-is_event_line.false)
      c.in-Ok.ensures.value
      c.in-Ok.ensures.present
      c.in-Ok.ensures.bounded
      c.in-Ok.ensures.counted;
  named = both_right _ _ (sym c.is_event_line.ensures ∙ c.if-not-is_event_line.false);
  room = has_room _ _ c.is_full.ensures c.if-is_full.false;
  fault = λ names. tt;
}
