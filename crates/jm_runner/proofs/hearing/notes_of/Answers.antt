use Rattle.std.proofs.Common.{◌≡◌, ◌∙◌, length, Some, slice_get, refl, sym, ap, arith}
use Rattle.std.proofs.lemmas.Option.{slice_get_read}
use Rattle.jm_runner.proofs.PlaceLemmas.{set_back}
use Rattle.jm_runner.proofs.NoteLemmas.{notes_more}
use Rattle.jm_runner.proofs.hearing.notes_of.Goals as goal

pub note-requires : goal.note-requires
note-requires g c =
    let watches = c.args.watches.now in
    let seats = c.loop-s.seats.items in
    let s = c.loop-s.s in
    let watch = c.index-watches-s.result in
    let old = c.index_mut.result.now in
    let at : slice_get seats s ≡ Some old = slice_get_read seats (length seats) s old refl (omega (arith, c.requires.count, ap (λ l. length l) c.loop-s.invariant.same)) c.index_mut.ensures.value in
    c.requires.each s watch old (slice_get_read watches (length watches) s watch refl (omega arith) c.index-watches-s.is) (ap (λ l. slice_get l s) (sym c.loop-s.invariant.same) ∙ at)

pub loop-s-preserved : goal.loop-s-preserved
loop-s-preserved g c =
    let seats = c.loop-s.seats.items in
    let s = c.loop-s.s in
    let old = c.index_mut.result.now in
    let i = c.loop-s.invariant in
    let at : slice_get seats s ≡ Some old = slice_get_read seats (length seats) s old refl (omega (arith, c.requires.count, ap (λ l. length l) c.loop-s.invariant.same)) c.index_mut.ensures.value in
    record {
      notes = notes_more c.args.seats.now.items s old c.note.result c.loop-s.notes.items c.push.new.self.items (ap (λ l. slice_get l s) (sym i.same) ∙ at) i.notes c.note.ensures.note c.in_ok-push.ensures.items;
      same = set_back seats c.args.seats.now.items s old c.note.new.seat i.same at c.note.ensures.unchanged;
    }
