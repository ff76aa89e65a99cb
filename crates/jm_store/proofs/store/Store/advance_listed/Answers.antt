use Rattle.std.proofs.Common.{◌≡◌, ℕ, List, Option, None, take, sym, ap, ◌∙◌, subst, arith}
use Rattle.std.specs.Prelude.{Contains}
use Rattle.jm_model.specs.declared.binding.Binding.{Binding}
use Rattle.jm_index.specs.Index.{Pair}
use Rattle.jm_monitors.proofs.BaseLemmas.{object-among}
use Rattle.jm_monitors.specs.declared.stored.Stored.{Stored}
use Rattle.jm_store.specs.declared.walk.Shift.{Shift}
use Rattle.jm_store.specs.Slots.{monitors_of}
use Rattle.jm_store.specs.Contents.{Contents, stored_of, IsFit, ArePaired, IsFilled}
use Rattle.jm_store.specs.Listed.{slots_listed, AreAtRest, AreListed}
use Rattle.jm_store.specs.Moves.{IsReadAt}
use Rattle.jm_store.specs.Plans.{IsReading}
use Rattle.jm_store.specs.Walks.{AreShifted, IsShiftAt}
use Rattle.jm_store.proofs.FitLemmas.{are_paired, housed_fits}
use Rattle.jm_store.proofs.ListedLemmas.{listed_above, listed_apart, above_counted}
use Rattle.jm_store.proofs.ShiftedLemmas.{kept_alike, parted_apart, parted_there, parted_listed, few_apart, few_lead, parted_spared, parted_marks, parted_done, still_at_rest}
use Rattle.jm_store.proofs.PartedLemmas.{parted_of}
use Rattle.jm_store.proofs.VisitLemmas.{settled_monitor}
use Rattle.jm_store.proofs.store.Store.advance_listed.Goals as goal

pub tell_listed-requires-clause-live : goal.tell_listed-requires-clause-live
tell_listed-requires-clause-live g c = λ o binds. c.requires.can.event.live o (object-among _ binds.0 o binds.1)

pub returns-in_default-clause-advances : goal.returns-in_default-clause-advances
returns-in_default-clause-advances g c =
    let S = g.row.M-State.Denot in
    let same : c.give_room.new.self ≡ c.args.self.now = c.give_room.ensures ∙ c.take_room-sifted.ensures.unchanged in
    record {
      stored = ap stored_of same;
      unmarked = ap (λ (s : Contents S). s.marks) same;
      keeps = λ trace holds. rw same holds;
      fits = rw same c.requires.can.fits;
      spares = λ spared. rw same spared;
      closed = rw same c.requires.can.closed;
      marks = tt;
      twice = tt;
      works = tt;
    }

pub returns-in_default-clause-steps : goal.returns-in_default-clause-steps
returns-in_default-clause-steps g c =
    let m = g.M.Monitor.meaning (g.M.Monitor.definition c.args.call.now.rules.now) in
    let Stands = g.M.Monitor.StandsFor c.args.call.now.rules.now in
    let monitors = c.args.self.now.monitors in
    let lists = c.args.awake.now in
    let b = c.args.call.now.binding.now in
    let e = c.args.call.now.letter.0 in
    let dead = c.args.call.now.objects.now in
    let count = above_counted b monitors (slots_listed lists c.args.place) (listed_apart m Stands dead None monitors lists c.args.place e b c.requires.list.of_event c.requires.list.listed)
    (listed_above m Stands dead None monitors lists c.args.place e b c.requires.list.of_event c.requires.list.listed) in
    omega (arith, count, c.tell_listed.ensures.steps)

pub shift_all-requires-clause-apart : goal.shift_all-requires-clause-apart
shift_all-requires-clause-apart g c =
    let S = g.row.M-State.Denot in
    let m = g.M.Monitor.meaning (g.M.Monitor.definition c.args.call.now.rules.now) in
    let Stands = g.M.Monitor.StandsFor c.args.call.now.rules.now in
    let HasNumber = g.M.Monitor.HasNumber c.args.call.now.rules.now in
    let old = c.args.self.now in
    let lists = c.args.awake.now in
    let place = c.args.place in
    let b = c.args.call.now.binding.now in
    let e = c.args.call.now.letter.0 in
    let dead = c.args.call.now.objects.now in
    let whole = c.self.view_is ∙ c.take_room-sifted.ensures.unchanged in
    let few = c.tell_listed.new.sifted.moves.items in
    let shifts = take c.in-Some.reading.count c.tell_listed.new.sifted.shifts.items in
    let rests = c.tell_listed.new.sifted.rests.items in
    let reading =
    subst (λ (l : List Binding). IsReading m Stands HasNumber e dead b l old lists (slots_listed lists place) c.tell_listed.new.sifted.shifts.items few rests c.in-Some.reading) (ap (λ (s : Contents S). s.marks) whole)
    (subst (λ (s : Contents S). IsReading m Stands HasNumber e dead b c.self.inside.marks.list s lists (slots_listed lists place) c.tell_listed.new.sifted.shifts.items few rests c.in-Some.reading)
    (c.take_room-sifted.ensures.unchanged) c.in-Some.ensures.reading) in
    let parted = parted_of (IsShiftAt m Stands HasNumber e dead b old.ending lists old.monitors) (IsReadAt m Stands e b dead old.marks old.monitors) (slots_listed lists place) shifts few rests reading.sifted in
    rw c.as_slice.ensures.value (parted_apart m Stands HasNumber e b dead old lists place shifts few c.requires.list.of_event c.requires.list.listed parted)

pub shift_all-requires-clause-present : goal.shift_all-requires-clause-present
shift_all-requires-clause-present g c =
    let S = g.row.M-State.Denot in
    let m = g.M.Monitor.meaning (g.M.Monitor.definition c.args.call.now.rules.now) in
    let Stands = g.M.Monitor.StandsFor c.args.call.now.rules.now in
    let HasNumber = g.M.Monitor.HasNumber c.args.call.now.rules.now in
    let old = c.args.self.now in
    let lists = c.args.awake.now in
    let place = c.args.place in
    let b = c.args.call.now.binding.now in
    let e = c.args.call.now.letter.0 in
    let dead = c.args.call.now.objects.now in
    let whole = c.self.view_is ∙ c.take_room-sifted.ensures.unchanged in
    let few = c.tell_listed.new.sifted.moves.items in
    let shifts = take c.in-Some.reading.count c.tell_listed.new.sifted.shifts.items in
    let rests = c.tell_listed.new.sifted.rests.items in
    let reading =
    subst (λ (l : List Binding). IsReading m Stands HasNumber e dead b l old lists (slots_listed lists place) c.tell_listed.new.sifted.shifts.items few rests c.in-Some.reading) (ap (λ (s : Contents S). s.marks) whole)
    (subst (λ (s : Contents S). IsReading m Stands HasNumber e dead b c.self.inside.marks.list s lists (slots_listed lists place) c.tell_listed.new.sifted.shifts.items few rests c.in-Some.reading)
    (c.take_room-sifted.ensures.unchanged) c.in-Some.ensures.reading) in
    let parted = parted_of (IsShiftAt m Stands HasNumber e dead b old.ending lists old.monitors) (IsReadAt m Stands e b dead old.marks old.monitors) (slots_listed lists place) shifts few rests reading.sifted in
    rw (c.as_slice.ensures.value, ap (λ (s : Contents S). s.monitors) whole) (parted_there m Stands HasNumber e b dead old lists place shifts few c.requires.list.of_event c.requires.list.listed parted)

pub invariant_of-self : goal.invariant_of-self
invariant_of-self g c =
    kept_alike c.self.inside.monitors.slots c.shift_all.new.self.slots c.shift_all.ensures.alike c.self.inside.index.list c.self.inside.domains.items c.self.inside.is_open c.self.inside.marks.spare c.self.invariant

pub apply-requires-clause-ready : goal.apply-requires-clause-ready
apply-requires-clause-ready g c =
    let S = g.row.M-State.Denot in
    let m = g.M.Monitor.meaning (g.M.Monitor.definition c.args.call.now.rules.now) in
    let Stands = g.M.Monitor.StandsFor c.args.call.now.rules.now in
    let HasNumber = g.M.Monitor.HasNumber c.args.call.now.rules.now in
    let old = c.args.self.now in
    let lists = c.args.awake.now in
    let place = c.args.place in
    let b = c.args.call.now.binding.now in
    let e = c.args.call.now.letter.0 in
    let dead = c.args.call.now.objects.now in
    let whole = c.self.view_is ∙ c.take_room-sifted.ensures.unchanged in
    let few = c.tell_listed.new.sifted.moves.items in
    let shifts = take c.in-Some.reading.count c.tell_listed.new.sifted.shifts.items in
    let rests = c.tell_listed.new.sifted.rests.items in
    let reading =
    subst (λ (l : List Binding). IsReading m Stands HasNumber e dead b l old lists (slots_listed lists place) c.tell_listed.new.sifted.shifts.items few rests c.in-Some.reading) (ap (λ (s : Contents S). s.marks) whole)
    (subst (λ (s : Contents S). IsReading m Stands HasNumber e dead b c.self.inside.marks.list s lists (slots_listed lists place) c.tell_listed.new.sifted.shifts.items few rests c.in-Some.reading)
    (c.take_room-sifted.ensures.unchanged) c.in-Some.ensures.reading) in
    let parted = parted_of (IsShiftAt m Stands HasNumber e dead b old.ending lists old.monitors) (IsReadAt m Stands e b dead old.marks old.monitors) (slots_listed lists place) shifts few rests reading.sifted in
    let slots = c.self.inside.monitors.slots in
    let new = c.shift_all.new.self.slots in
    let mid = c.give_shifts.new.self in
    let monitors : monitors_of slots ≡ old.monitors = ap (λ (s : Contents S). s.monitors) whole in
    let after : mid.monitors ≡ monitors_of new = ap (λ (s : Contents S). s.monitors) c.give_shifts.ensures in
    let moved : AreShifted HasNumber shifts old.monitors mid.monitors =
    subst (λ (l : List (Option (Stored S))). AreShifted HasNumber shifts l mid.monitors) monitors
    (subst (λ (l : List (Option (Stored S))). AreShifted HasNumber shifts (monitors_of slots) l) (sym after)
    (subst (λ (l : List Shift). AreShifted HasNumber (take c.in-Some.reading.count l) (monitors_of slots) (monitors_of new)) c.as_slice.ensures.value c.shift_all.ensures.moved)) in
    let paired : ArePaired old = subst ArePaired whole (are_paired slots c.self.inside.marks.list c.self.inside.is_open c.self.inside.index c.self.inside.ending c.self.invariant.housed) in
    let closed = ap (λ (s : Contents S). s.is_open) whole ∙ c.requires.can.closed in
    let filled : (pair : Pair) → Contains old.index.list pair → IsFilled old pair =
    subst (λ (s : Contents S). (pair : Pair) → Contains s.index.list pair → IsFilled s pair) whole
    (settled_monitor slots c.self.inside.index.list c.self.invariant.housed (c.self.invariant.settled closed)) in
    let index = ap (λ (s : Contents S). s.index) c.give_shifts.ensures ∙ ap (λ (s : Contents S). s.index) whole in
    let leads = few_lead m Stands HasNumber e b dead old lists place shifts few c.requires.list.of_event c.requires.list.listed parted mid moved c.requires.can c.requires.list.known paired filled in
    record {
      apart = few_apart m Stands HasNumber e b dead old lists place shifts few c.requires.list.of_event c.requires.list.listed parted mid moved c.requires.can c.requires.list.known paired filled;
      leads = rw index leads;
    }

pub returns-clause-advances : goal.returns-clause-advances
returns-clause-advances g c =
    let S = g.row.M-State.Denot in
    let m = g.M.Monitor.meaning (g.M.Monitor.definition c.args.call.now.rules.now) in
    let Stands = g.M.Monitor.StandsFor c.args.call.now.rules.now in
    let HasNumber = g.M.Monitor.HasNumber c.args.call.now.rules.now in
    let old = c.args.self.now in
    let lists = c.args.awake.now in
    let place = c.args.place in
    let b = c.args.call.now.binding.now in
    let e = c.args.call.now.letter.0 in
    let dead = c.args.call.now.objects.now in
    let whole = c.self.view_is ∙ c.take_room-sifted.ensures.unchanged in
    let few = c.tell_listed.new.sifted.moves.items in
    let shifts = take c.in-Some.reading.count c.tell_listed.new.sifted.shifts.items in
    let rests = c.tell_listed.new.sifted.rests.items in
    let reading =
    subst (λ (l : List Binding). IsReading m Stands HasNumber e dead b l old lists (slots_listed lists place) c.tell_listed.new.sifted.shifts.items few rests c.in-Some.reading) (ap (λ (s : Contents S). s.marks) whole)
    (subst (λ (s : Contents S). IsReading m Stands HasNumber e dead b c.self.inside.marks.list s lists (slots_listed lists place) c.tell_listed.new.sifted.shifts.items few rests c.in-Some.reading)
    (c.take_room-sifted.ensures.unchanged) c.in-Some.ensures.reading) in
    let parted = parted_of (IsShiftAt m Stands HasNumber e dead b old.ending lists old.monitors) (IsReadAt m Stands e b dead old.marks old.monitors) (slots_listed lists place) shifts few rests reading.sifted in
    let slots = c.self.inside.monitors.slots in
    let new = c.shift_all.new.self.slots in
    let mid = c.give_shifts.new.self in
    let monitors : monitors_of slots ≡ old.monitors = ap (λ (s : Contents S). s.monitors) whole in
    let after : mid.monitors ≡ monitors_of new = ap (λ (s : Contents S). s.monitors) c.give_shifts.ensures in
    let moved : AreShifted HasNumber shifts old.monitors mid.monitors =
    subst (λ (l : List (Option (Stored S))). AreShifted HasNumber shifts l mid.monitors) monitors
    (subst (λ (l : List (Option (Stored S))). AreShifted HasNumber shifts (monitors_of slots) l) (sym after)
    (subst (λ (l : List Shift). AreShifted HasNumber (take c.in-Some.reading.count l) (monitors_of slots) (monitors_of new)) c.as_slice.ensures.value c.shift_all.ensures.moved)) in
    let paired : ArePaired old = subst ArePaired whole (are_paired slots c.self.inside.marks.list c.self.inside.is_open c.self.inside.index c.self.inside.ending c.self.invariant.housed) in
    let closed = ap (λ (s : Contents S). s.is_open) whole ∙ c.requires.can.closed in
    let filled : (pair : Pair) → Contains old.index.list pair → IsFilled old pair =
    subst (λ (s : Contents S). (pair : Pair) → Contains s.index.list pair → IsFilled s pair) whole
    (settled_monitor slots c.self.inside.index.list c.self.invariant.housed (c.self.invariant.settled closed)) in
    let index = ap (λ (s : Contents S). s.index) c.give_shifts.ensures ∙ ap (λ (s : Contents S). s.index) whole in
    let marks = ap (λ (s : Contents S). s.marks) c.give_shifts.ensures ∙ ap (λ (s : Contents S). s.marks) whole in
    let ending = ap (λ (s : Contents S). s.ending) c.give_shifts.ensures ∙ ap (λ (s : Contents S). s.ending) whole in
    let kept = kept_alike slots new c.shift_all.ensures.alike c.self.inside.index.list c.self.inside.domains.items c.self.inside.is_open c.self.inside.marks.spare c.self.invariant in
    let fits : IsFit mid dead = rw c.give_shifts.ensures
    (housed_fits new c.self.inside.marks.list c.self.inside.is_open c.self.inside.index c.self.inside.ending dead kept.housed
    (rw (ap (λ (s : Contents S). s.index) whole) c.requires.can.fits.index)
    (rw (ap (λ (s : Contents S). s.marks) whole) c.requires.can.fits.marks)) in
    let applied = c.apply.ensures.applied in
    let done = c.apply.new.self in
    rw c.give_slots.ensures
    (record {
      stored = tt;
      unmarked = tt;
      keeps = tt;
      fits = applied.fits dead fits;
      spares = parted_spared m Stands HasNumber e b dead old lists place shifts few c.requires.list.of_event c.requires.list.listed parted mid moved c.requires.can c.requires.list.known paired filled done applied index marks ending;
      closed = applied.closed;
      marks = parted_marks m Stands HasNumber e b dead old lists place shifts few c.requires.list.of_event c.requires.list.listed parted mid moved c.requires.can c.requires.list.known paired filled done applied index marks ending;
      twice = reading.twice;
      works = parted_done m Stands HasNumber e b dead old lists place shifts few c.requires.list.of_event c.requires.list.listed parted mid moved c.requires.can c.requires.list.known paired filled done applied index marks ending c.in-Some.reading.answer reading.report;
    })

pub returns-clause-listed : goal.returns-clause-listed
returns-clause-listed g c =
    let S = g.row.M-State.Denot in
    let m = g.M.Monitor.meaning (g.M.Monitor.definition c.args.call.now.rules.now) in
    let Stands = g.M.Monitor.StandsFor c.args.call.now.rules.now in
    let HasNumber = g.M.Monitor.HasNumber c.args.call.now.rules.now in
    let old = c.args.self.now in
    let lists = c.args.awake.now in
    let place = c.args.place in
    let b = c.args.call.now.binding.now in
    let e = c.args.call.now.letter.0 in
    let dead = c.args.call.now.objects.now in
    let whole = c.self.view_is ∙ c.take_room-sifted.ensures.unchanged in
    let few = c.tell_listed.new.sifted.moves.items in
    let shifts = take c.in-Some.reading.count c.tell_listed.new.sifted.shifts.items in
    let rests = c.tell_listed.new.sifted.rests.items in
    let reading =
    subst (λ (l : List Binding). IsReading m Stands HasNumber e dead b l old lists (slots_listed lists place) c.tell_listed.new.sifted.shifts.items few rests c.in-Some.reading) (ap (λ (s : Contents S). s.marks) whole)
    (subst (λ (s : Contents S). IsReading m Stands HasNumber e dead b c.self.inside.marks.list s lists (slots_listed lists place) c.tell_listed.new.sifted.shifts.items few rests c.in-Some.reading)
    (c.take_room-sifted.ensures.unchanged) c.in-Some.ensures.reading) in
    let parted = parted_of (IsShiftAt m Stands HasNumber e dead b old.ending lists old.monitors) (IsReadAt m Stands e b dead old.marks old.monitors) (slots_listed lists place) shifts few rests reading.sifted in
    let slots = c.self.inside.monitors.slots in
    let new = c.shift_all.new.self.slots in
    let mid = c.give_shifts.new.self in
    let monitors : monitors_of slots ≡ old.monitors = ap (λ (s : Contents S). s.monitors) whole in
    let after : mid.monitors ≡ monitors_of new = ap (λ (s : Contents S). s.monitors) c.give_shifts.ensures in
    let moved : AreShifted HasNumber shifts old.monitors mid.monitors =
    subst (λ (l : List (Option (Stored S))). AreShifted HasNumber shifts l mid.monitors) monitors
    (subst (λ (l : List (Option (Stored S))). AreShifted HasNumber shifts (monitors_of slots) l) (sym after)
    (subst (λ (l : List Shift). AreShifted HasNumber (take c.in-Some.reading.count l) (monitors_of slots) (monitors_of new)) c.as_slice.ensures.value c.shift_all.ensures.moved)) in
    let resting = still_at_rest m Stands HasNumber e b dead old lists place shifts few rests c.requires.list.of_event c.requires.list.listed reading.sifted mid c.apply.new.self moved c.apply.ensures.applied in
    rw c.give_slots.ensures
    (c.let_rest.ensures dead (subst (λ (l : List ℕ). AreAtRest m Stands e b dead l c.apply.new.self.monitors) (sym c.as_slice-2.ensures.value) resting)
    (c.apply.ensures.listed dead (parted_listed m Stands HasNumber e b dead old lists place shifts few c.requires.list.of_event c.requires.list.listed parted mid moved)))

pub returns-clause-steps : goal.returns-clause-steps
returns-clause-steps g c =
    let m = g.M.Monitor.meaning (g.M.Monitor.definition c.args.call.now.rules.now) in
    let Stands = g.M.Monitor.StandsFor c.args.call.now.rules.now in
    let monitors = c.args.self.now.monitors in
    let lists = c.args.awake.now in
    let b = c.args.call.now.binding.now in
    let e = c.args.call.now.letter.0 in
    let dead = c.args.call.now.objects.now in
    let count = above_counted b monitors (slots_listed lists c.args.place) (listed_apart m Stands dead None monitors lists c.args.place e b c.requires.list.of_event c.requires.list.listed)
    (listed_above m Stands dead None monitors lists c.args.place e b c.requires.list.of_event c.requires.list.listed) in
    omega (arith, count, c.tell_listed.ensures.steps)

pub tell_listed-requires-clause-list : goal.tell_listed-requires-clause-list
tell_listed-requires-clause-list g c =
    let S = g.row.M-State.Denot in
    let m = g.M.Monitor.meaning (g.M.Monitor.definition c.args.call.now.rules.now) in
    let Stands = g.M.Monitor.StandsFor c.args.call.now.rules.now in
    let same = c.take_room-sifted.ensures.unchanged in
    let marks = ap (λ (s : Contents S). s.marks) (c.self.view_is ∙ same) in
    record {
      known = subst (λ (l : List Binding). Contains l c.args.call.now.binding.now) (sym marks) c.requires.list.known;
      within = c.requires.list.within;
      of_event = c.requires.list.of_event;
      listed = subst (λ (s : Contents S). AreListed m Stands c.args.call.now.objects.now s.monitors c.args.awake.now) (sym same) c.requires.list.listed;
    }
