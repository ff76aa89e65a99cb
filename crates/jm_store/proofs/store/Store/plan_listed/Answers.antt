use Rattle.std.proofs.Common.{◌≡◌, List, true, length, refl, sym, ap, ◌∙◌, subst, arith}
use Rattle.std.specs.Prelude.{Err, Contains}
use Rattle.std.proofs.lemmas.Bool.{eqb-true}
use Rattle.std.proofs.lemmas.Result.{err_from_is_err_and}
use Rattle.jm_model.specs.declared.binding.Binding.{Binding}
use Rattle.jm_store.specs.Moves.{AreMovesRead, asks_by}
use Rattle.jm_store.specs.Contents.{Contents}
use Rattle.jm_store.specs.Listed.{AreListed, HasList}
use Rattle.jm_store.specs.Plans.{Plans}
use Rattle.jm_store.proofs.ListedLemmas.{none_rests, empty_rests, empty_list, listed_counted, listed_moves, listed_tidied}
use Rattle.jm_store.proofs.PlanLemmas.{plans_untouched}
use Rattle.jm_store.proofs.store.Store.plan_listed.Goals as goal

pub returns-then-is_empty-clause-plans : goal.returns-then-is_empty-clause-plans
returns-then-is_empty-clause-plans g c =
    let m = g.M.Monitor.meaning (g.M.Monitor.definition c.args.call.now.rules.now) in
    let Stands = g.M.Monitor.StandsFor c.args.call.now.rules.now in
    let size : length c.entries.result.now ≡ 0 = eqb-true (length c.entries.result.now) 0 (sym c.is_empty.ensures ∙ c.if-is_empty.true) in (
      refl,
      empty_rests m Stands c.args.call.now.objects.now c.args.self.now.monitors c.args.awake.now c.args.place c.args.call.now.letter.0 c.args.call.now.binding.now c.args.self.now.marks c.requires.list.of_event c.requires.list.listed
          (sym c.entries.ensures ∙ empty_list c.entries.result.now size) c.requires.list.known,
    )

pub returns-then-is_empty-2-clause-plans : goal.returns-then-is_empty-2-clause-plans
returns-then-is_empty-2-clause-plans g c =
    let S = g.row.M-State.Denot in
    let m = g.M.Monitor.meaning (g.M.Monitor.definition c.args.call.now.rules.now) in
    let Stands = g.M.Monitor.StandsFor c.args.call.now.rules.now in
    let old = c.args.self.now in
    let e = c.args.call.now.letter.0 in
    let b = c.args.call.now.binding.now in
    let dead = c.args.call.now.objects.now in
    let moves = c.read_listed-read.new.moves.items in
    let mid = c.take_moves-moves.new.self in
    let same : mid ≡ old = c.take_moves-moves.ensures.unchanged in
    let marks : c.self.inside.marks.list ≡ old.marks = ap (λ v. v.marks) c.self.view_is ∙ ap (λ (s : Contents S). s.marks) same in
    let list : HasList m Stands dead e b c.self.inside.marks.list mid.monitors c.args.awake.now c.args.place = record {
      known = subst (λ (l : List Binding). Contains l b) (sym marks) c.requires.list.known;
      within = c.requires.list.within;
      of_event = c.requires.list.of_event;
      listed = subst (λ (s : Contents S). AreListed m Stands dead s.monitors c.args.awake.now) (sym same) c.requires.list.listed;
    } in
    let size : length moves ≡ 0 = ap length (sym c.as_slice.ensures.value) ∙ eqb-true (length c.as_slice.result.now) 0 (sym c.is_empty-2.ensures ∙ c.if-is_empty-2.true) in
    let read : AreMovesRead m Stands e b dead old.marks (asks_by true old.ending e b) old.monitors moves =
    subst (λ (l : List Binding). AreMovesRead m Stands e b dead l (asks_by true old.ending e b) old.monitors moves) marks
    (subst (λ (s : Contents S). AreMovesRead m Stands e b dead c.self.inside.marks.list (asks_by true s.ending e b) s.monitors moves) same
    (listed_moves m Stands dead mid.monitors c.args.awake.now c.args.place e b c.self.inside.marks.list mid.ending list moves c.in_ok-read.ensures.moves)) in (
      c.give_moves.ensures ∙ same,
      none_rests b old.monitors m Stands e dead old.marks old.ending moves read (empty_list moves size) c.requires.list.known,
    )

pub returns-in_err-plan-clause-plans : goal.returns-in_err-plan-clause-plans
returns-in_err-plan-clause-plans g c =
    let m = g.M.Monitor.meaning (g.M.Monitor.definition c.args.call.now.rules.now) in
    let Stands = g.M.Monitor.StandsFor c.args.call.now.rules.now in
    let planned = rw c.take_moves-moves.ensures.unchanged at c.in_err-plan.ensures in
    let failed = err_from_is_err_and c.from_residual-in_err-plan.result c.from_residual-in_err-plan.ensures.1 in
    rw failed.1
    (record {
      stored = planned.stored;
      monitors = planned.monitors;
      marks = planned.marks;
      fewer = planned.fewer;
      fits = planned.fits;
      closed = planned.closed;
      opened = tt;
      binding = tt;
      plan = tt;
      keeps = planned.keeps;
      spares = planned.spares;
      leaves = tt;
      works = tt;
    })

pub returns-in_err-read-clause-plans : goal.returns-in_err-read-clause-plans
returns-in_err-read-clause-plans g c =
    let m = g.M.Monitor.meaning (g.M.Monitor.definition c.args.call.now.rules.now) in
    let Stands = g.M.Monitor.StandsFor c.args.call.now.rules.now in
    let old = c.args.self.now in
    let dead = c.args.call.now.objects.now in
    let e = c.args.call.now.letter.0 in
    let b = c.args.call.now.binding.now in
    let failed = err_from_is_err_and c.from_residual.result c.from_residual.ensures.1 in
    rw failed.1
    (subst (λ (s : Contents g.row.M-State.Denot). Plans m Stands dead e b old s (Err failed.0)) (sym c.take_moves-moves.ensures.unchanged) (plans_untouched m Stands dead e b old failed.0 c.requires.can))

pub read_listed-read-requires-clause-list : goal.read_listed-read-requires-clause-list
read_listed-read-requires-clause-list g c =
    let S = g.row.M-State.Denot in
    let m = g.M.Monitor.meaning (g.M.Monitor.definition c.args.call.now.rules.now) in
    let Stands = g.M.Monitor.StandsFor c.args.call.now.rules.now in
    let same = c.take_moves-moves.ensures.unchanged in
    let marks = ap (λ (s : Contents S). s.marks) (c.self.view_is ∙ same) in
    record {
      known = subst (λ (l : List Binding). Contains l c.args.call.now.binding.now) (sym marks) c.requires.list.known;
      within = c.requires.list.within;
      of_event = c.requires.list.of_event;
      listed = subst (λ (s : Contents S). AreListed m Stands c.args.call.now.objects.now s.monitors c.args.awake.now) (sym same) c.requires.list.listed;
    }

pub plan_of-requires-clause-read : goal.plan_of-requires-clause-read
plan_of-requires-clause-read g c =
    let S = g.row.M-State.Denot in
    let m = g.M.Monitor.meaning (g.M.Monitor.definition c.args.call.now.rules.now) in
    let Stands = g.M.Monitor.StandsFor c.args.call.now.rules.now in
    let e = c.args.call.now.letter.0 in
    let b = c.args.call.now.binding.now in
    let dead = c.args.call.now.objects.now in
    let moves = c.read_listed-read.new.moves.items in
    let mid = c.take_moves-moves.new.self in
    let same : mid ≡ c.args.self.now = c.take_moves-moves.ensures.unchanged in
    let marks : c.self.inside.marks.list ≡ mid.marks = ap (λ v. v.marks) c.self.view_is in
    let list : HasList m Stands dead e b c.self.inside.marks.list mid.monitors c.args.awake.now c.args.place = record {
      known = subst (λ (l : List Binding). Contains l b) (sym (marks ∙ ap (λ (s : Contents S). s.marks) same)) c.requires.list.known;
      within = c.requires.list.within;
      of_event = c.requires.list.of_event;
      listed = subst (λ (s : Contents S). AreListed m Stands dead s.monitors c.args.awake.now) (sym same) c.requires.list.listed;
    } in
    subst (λ (l : List Binding). AreMovesRead m Stands e b dead l (asks_by true mid.ending e b) mid.monitors moves) marks
    (listed_moves m Stands dead mid.monitors c.args.awake.now c.args.place e b c.self.inside.marks.list mid.ending list moves c.in_ok-read.ensures.moves)

pub returns-in_err-read-clause-listed : goal.returns-in_err-read-clause-listed
returns-in_err-read-clause-listed g c =
    let m = g.M.Monitor.meaning (g.M.Monitor.definition c.args.call.now.rules.now) in
    let Stands = g.M.Monitor.StandsFor c.args.call.now.rules.now in
    let dead = c.args.call.now.objects.now in
    let mid = c.take_moves-moves.new.self in
    subst (λ (s : Contents g.row.M-State.Denot). AreListed m Stands dead s.monitors c.tidy.new.self) c.take_moves-moves.ensures.unchanged
    (listed_tidied m Stands dead mid.monitors c.args.place c.read_listed-read.new.awake c.tidy.new.self c.tidy.ensures.sound c.tidy.ensures.still c.read_listed-read.ensures.listed)

pub returns-in_err-read-clause-steps : goal.returns-in_err-read-clause-steps
returns-in_err-read-clause-steps g c =
    let m = g.M.Monitor.meaning (g.M.Monitor.definition c.args.call.now.rules.now) in
    let Stands = g.M.Monitor.StandsFor c.args.call.now.rules.now in
    let old = c.args.self.now in
    let count = listed_counted m Stands c.args.call.now.objects.now old.monitors c.args.awake.now c.args.place c.args.call.now.letter.0 c.args.call.now.binding.now old.marks c.requires.list in
    omega (arith, count, c.read_listed-read.ensures.steps)

pub returns-then-is_empty-2-clause-listed : goal.returns-then-is_empty-2-clause-listed
returns-then-is_empty-2-clause-listed g c =
    let m = g.M.Monitor.meaning (g.M.Monitor.definition c.args.call.now.rules.now) in
    let Stands = g.M.Monitor.StandsFor c.args.call.now.rules.now in
    let dead = c.args.call.now.objects.now in
    let mid = c.take_moves-moves.new.self in
    subst (λ (s : Contents g.row.M-State.Denot). AreListed m Stands dead s.monitors c.tidy.new.self) c.take_moves-moves.ensures.unchanged
    (listed_tidied m Stands dead mid.monitors c.args.place c.read_listed-read.new.awake c.tidy.new.self c.tidy.ensures.sound c.tidy.ensures.still c.read_listed-read.ensures.listed)

pub returns-then-is_empty-2-clause-steps : goal.returns-then-is_empty-2-clause-steps
returns-then-is_empty-2-clause-steps g c =
    let m = g.M.Monitor.meaning (g.M.Monitor.definition c.args.call.now.rules.now) in
    let Stands = g.M.Monitor.StandsFor c.args.call.now.rules.now in
    let old = c.args.self.now in
    let count = listed_counted m Stands c.args.call.now.objects.now old.monitors c.args.awake.now c.args.place c.args.call.now.letter.0 c.args.call.now.binding.now old.marks c.requires.list in
    omega (arith, count, c.read_listed-read.ensures.steps)

pub returns-in_err-plan-clause-listed : goal.returns-in_err-plan-clause-listed
returns-in_err-plan-clause-listed g c =
    let m = g.M.Monitor.meaning (g.M.Monitor.definition c.args.call.now.rules.now) in
    let Stands = g.M.Monitor.StandsFor c.args.call.now.rules.now in
    let dead = c.args.call.now.objects.now in
    let mid = c.take_moves-moves.new.self in
    subst (λ (s : Contents g.row.M-State.Denot). AreListed m Stands dead s.monitors c.tidy.new.self) c.take_moves-moves.ensures.unchanged
    (listed_tidied m Stands dead mid.monitors c.args.place c.read_listed-read.new.awake c.tidy.new.self c.tidy.ensures.sound c.tidy.ensures.still c.read_listed-read.ensures.listed)

pub returns-in_err-plan-clause-steps : goal.returns-in_err-plan-clause-steps
returns-in_err-plan-clause-steps g c =
    let m = g.M.Monitor.meaning (g.M.Monitor.definition c.args.call.now.rules.now) in
    let Stands = g.M.Monitor.StandsFor c.args.call.now.rules.now in
    let old = c.args.self.now in
    let count = listed_counted m Stands c.args.call.now.objects.now old.monitors c.args.awake.now c.args.place c.args.call.now.letter.0 c.args.call.now.binding.now old.marks c.requires.list in
    omega (arith, count, c.read_listed-read.ensures.steps)

pub returns-clause-listed : goal.returns-clause-listed
returns-clause-listed g c =
    let m = g.M.Monitor.meaning (g.M.Monitor.definition c.args.call.now.rules.now) in
    let Stands = g.M.Monitor.StandsFor c.args.call.now.rules.now in
    let dead = c.args.call.now.objects.now in
    let mid = c.take_moves-moves.new.self in
    subst (λ (s : Contents g.row.M-State.Denot). AreListed m Stands dead s.monitors c.tidy.new.self) c.take_moves-moves.ensures.unchanged
    (listed_tidied m Stands dead mid.monitors c.args.place c.read_listed-read.new.awake c.tidy.new.self c.tidy.ensures.sound c.tidy.ensures.still c.read_listed-read.ensures.listed)

pub returns-clause-steps : goal.returns-clause-steps
returns-clause-steps g c =
    let m = g.M.Monitor.meaning (g.M.Monitor.definition c.args.call.now.rules.now) in
    let Stands = g.M.Monitor.StandsFor c.args.call.now.rules.now in
    let old = c.args.self.now in
    let count = listed_counted m Stands c.args.call.now.objects.now old.monitors c.args.awake.now c.args.place c.args.call.now.letter.0 c.args.call.now.binding.now old.marks c.requires.list in
    omega (arith, count, c.read_listed-read.ensures.steps)
