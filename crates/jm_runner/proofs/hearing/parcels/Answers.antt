use Rattle.std.proofs.Common.{◌∙◌, map, sym, ap, subst}
use Rattle.jm_turn.specs.Seats.{note_of}
use Rattle.jm_runner.specs.Work.{AreSeatsOf}
use Rattle.jm_runner.proofs.NoteLemmas.{parcel_notes}
use Rattle.jm_runner.proofs.hearing.parcels.Goals as goal

pub notes_of-requires : goal.notes_of-requires
notes_of-requires g c = subst (λ l. AreSeatsOf c.args.watches.now l) (sym c.loop-n.invariant.same) c.requires.seats

pub new-requires : goal.new-requires
new-requires g c =
    parcel_notes g.J.Naming.scripts g.J.Naming.cuts g.J.Naming.watches c.args.watches.now c.args.name c.args.seats.now.items c.in_ok-notes.notes.items c.requires.watches c.requires.seats
    (c.in_ok-notes.ensures.notes ∙ ap (map note_of) c.loop-n.invariant.same) c.requires.know
