use Rattle.std.proofs.Common.{Some, length, get_or, sym, ap, ◌∙◌, arith}
use Rattle.std.specs.Prelude.{slice_range}
use Rattle.jm_events.proofs.TextLemmas.{Rise-place, text_at_place}
use Rattle.jm_events.proofs.names.text_at.Goals as goal

pub part-requires-clause-below : goal.part-requires-clause-below
part-requires-clause-below c =
    let place = Rise-place 0 c.args.ends.now (length c.args.bytes.now) c.args.number c.requires.rise c.requires.within in
    omega (arith, place.0, c.start_of-start.ensures)

pub part-requires-clause-within : goal.part-requires-clause-within
part-requires-clause-within c =
    let place = Rise-place 0 c.args.ends.now (length c.args.bytes.now) c.args.number c.requires.rise c.requires.within in
    place.1

pub returns : goal.returns
returns c =
    let start = ap (λ start. slice_range c.args.bytes.now start (get_or c.args.ends.now c.args.number 0)) c.start_of-start.ensures in
    text_at_place 0 c.args.bytes.now c.args.ends.now c.args.number c.requires.within ∙ ap Some (sym (c.part.ensures ∙ start))
