use Rattle.std.proofs.Common.{◌≡◌, length, Some, slice_get, refl, sym, ◌∙◌, ap, subst, arith}
use Rattle.std.proofs.lemmas.Grind.{common_steps}
use Rattle.std.proofs.lemmas.Option.{slice_get_read}
use Rattle.std.proofs.lemmas.Iterator.Adapters.{YieldsList-from_vec}
use Rattle.std.proofs.lemmas.Iterator.Consumers.{YieldsList-turn, YieldsList-end}
use Rattle.jm_runner.specs.Notes.{HearBelow}
use Rattle.jm_runner.proofs.NoteLemmas.{hear_more, hear_none}
use Rattle.jm_runner.proofs.RunLemmas.{map_same}
use Rattle.jm_runner.proofs.hearing.hear_all.Goals as goal

pub bounds-watches-s : goal.bounds-watches-s
bounds-watches-s g c =
    let i = c.loop-note.invariant in
    let notes = c.args.notes.items in
    let s = c.loop-note.s in
    let b = c.into_iter-note-iterator.ensures.into_iter_gives in
    let t = YieldsList-turn (YieldsList-from_vec {s = c.into_iter-note-iterator.result} notes b.0 (b.1 ∙ c.args.notes.ok.0)) c.loop-note.yielded c.loop-note.note-iterator c.loop-note.yielded_by c.next.result c.next.new.self c.in-Some.note c.in-Some.is c.next.ensures.steps in
    let at : slice_get notes s ≡ Some c.in-Some.note = ap (λ n. slice_get notes n) i.place ∙ slice_get_read notes (length notes) (length c.loop-note.yielded) c.in-Some.note refl t.0 t.1 in
    omega (arith, t.0, i.place, c.requires.count)

pub index_mut-requires : goal.index_mut-requires
index_mut-requires g c =
    let i = c.loop-note.invariant in
    let notes = c.args.notes.items in
    let s = c.loop-note.s in
    let b = c.into_iter-note-iterator.ensures.into_iter_gives in
    let t = YieldsList-turn (YieldsList-from_vec {s = c.into_iter-note-iterator.result} notes b.0 (b.1 ∙ c.args.notes.ok.0)) c.loop-note.yielded c.loop-note.note-iterator c.loop-note.yielded_by c.next.result c.next.new.self c.in-Some.note c.in-Some.is c.next.ensures.steps in
    let at : slice_get notes s ≡ Some c.in-Some.note = ap (λ n. slice_get notes n) i.place ∙ slice_get_read notes (length notes) (length c.loop-note.yielded) c.in-Some.note refl t.0 t.1 in
    omega (arith, t.0, i.place, c.requires.count, c.requires.seats.count, i.heard.count)

pub hear-requires-clause-seat : goal.hear-requires-clause-seat
hear-requires-clause-seat g c =
    let i = c.loop-note.invariant in
    let notes = c.args.notes.items in
    let s = c.loop-note.s in
    let b = c.into_iter-note-iterator.ensures.into_iter_gives in
    let t = YieldsList-turn (YieldsList-from_vec {s = c.into_iter-note-iterator.result} notes b.0 (b.1 ∙ c.args.notes.ok.0)) c.loop-note.yielded c.loop-note.note-iterator c.loop-note.yielded_by c.next.result c.next.new.self c.in-Some.note c.in-Some.is c.next.ensures.steps in
    let at : slice_get notes s ≡ Some c.in-Some.note = ap (λ n. slice_get notes n) i.place ∙ slice_get_read notes (length notes) (length c.loop-note.yielded) c.in-Some.note refl t.0 t.1 in
    let watches = c.args.watches.now in
    let seats = c.loop-note.seats.items in
    let watch = c.index-watches-s.result in
    let old = c.index_mut.result.now in
    let wat = slice_get_read watches (length watches) s watch refl (omega (arith, t.0, i.place, c.requires.count)) c.index-watches-s.is in
    let oat = slice_get_read seats (length seats) s old refl (omega (arith, t.0, i.place, c.requires.count, c.requires.seats.count, i.heard.count)) c.index_mut.ensures.value in
    c.requires.seats.each s watch old wat (sym (i.heard.others s (omega arith)) ∙ oat)

pub hear-requires-clause-note : goal.hear-requires-clause-note
hear-requires-clause-note g c =
    let i = c.loop-note.invariant in
    let notes = c.args.notes.items in
    let s = c.loop-note.s in
    let b = c.into_iter-note-iterator.ensures.into_iter_gives in
    let t = YieldsList-turn (YieldsList-from_vec {s = c.into_iter-note-iterator.result} notes b.0 (b.1 ∙ c.args.notes.ok.0)) c.loop-note.yielded c.loop-note.note-iterator c.loop-note.yielded_by c.next.result c.next.new.self c.in-Some.note c.in-Some.is c.next.ensures.steps in
    let at : slice_get notes s ≡ Some c.in-Some.note = ap (λ n. slice_get notes n) i.place ∙ slice_get_read notes (length notes) (length c.loop-note.yielded) c.in-Some.note refl t.0 t.1 in
    let watches = c.args.watches.now in
    let watch = c.index-watches-s.result in
    let wat = slice_get_read watches (length watches) s watch refl (omega (arith, t.0, i.place, c.requires.count)) c.index-watches-s.is in
    c.requires.notes s watch c.in-Some.note wat at

pub loop-note-init : goal.loop-note-init
loop-note-init g c = record { place = refl; heard = hear_none c.args.notes.items c.args.seats.now.items }

pub loop-note-preserved : goal.loop-note-preserved
loop-note-preserved g c =
    let i = c.loop-note.invariant in
    let notes = c.args.notes.items in
    let s = c.loop-note.s in
    let b = c.into_iter-note-iterator.ensures.into_iter_gives in
    let t = YieldsList-turn (YieldsList-from_vec {s = c.into_iter-note-iterator.result} notes b.0 (b.1 ∙ c.args.notes.ok.0)) c.loop-note.yielded c.loop-note.note-iterator c.loop-note.yielded_by c.next.result c.next.new.self c.in-Some.note c.in-Some.is c.next.ensures.steps in
    let at : slice_get notes s ≡ Some c.in-Some.note = ap (λ n. slice_get notes n) i.place ∙ slice_get_read notes (length notes) (length c.loop-note.yielded) c.in-Some.note refl t.0 t.1 in
    let seats = c.loop-note.seats.items in
    let old = c.index_mut.result.now in
    let oat = slice_get_read seats (length seats) s old refl (omega (arith, t.0, i.place, c.requires.count, c.requires.seats.count, i.heard.count)) c.index_mut.ensures.value in
    record {
      place = grind (arith, common_steps);
      heard = hear_more s notes c.args.seats.now.items seats c.in-Some.note old c.hear.new.seat i.heard at oat c.hear.ensures;
    }

pub returns : goal.returns
returns g c =
    let notes = c.args.notes.items in
    let b = c.into_iter-note-iterator.ensures.into_iter_gives in
    let t = YieldsList-end (YieldsList-from_vec {s = c.into_iter-note-iterator.result} notes b.0 (b.1 ∙ c.args.notes.ok.0)) c.loop-note.yielded c.loop-note.note-iterator c.loop-note.yielded_by c.next.result c.next.new.self c.in-None.is c.next.ensures.steps in
    let all_of : c.loop-note.yielded ≡ notes = sym (map_same c.loop-note.yielded) ∙ t.0 in
    subst (λ n. HearBelow n notes c.args.seats.now.items c.loop-note.seats.items) (c.loop-note.invariant.place ∙ ap length all_of ∙ sym c.args.notes.ok.0) c.loop-note.invariant.heard
