use Rattle.std.proofs.Common.{◌≡◌, ◌<◌, ◌-◌, ◌^◌, ◌∙◌, ℕ, length, Some, slice_get, sym, ap, subst, arith}
use Rattle.std.specs.Prelude.{All, vec_len}
use Rattle.std.proofs.lemmas.List.Elements.{All-map}
use Rattle.jm_turn.proofs.Elements.{all_from_places}
use Rattle.jm_sync.specs.Checks.{sync_of}
use Rattle.jm_sync.specs.Cuts.{RisesFrom}
use Rattle.jm_sync.proofs.CheckLemmas.{length-sync_of}
use Rattle.jm_runner.specs.Orders.{IsOrdered}
use Rattle.jm_runner.proofs.WorkLemmas.{both_ok}
use Rattle.std.proofs.lemmas.List.{length-map}
use Rattle.std.proofs.lemmas.Result.{IfOk-weaker}
use Rattle.std.proofs.lemmas.Option.{slice_get_within, slice_get-map}
use Rattle.std.specs.Option.{option_map}
use Rattle.jm_runner.proofs.PlaceLemmas.{get_there}
use Rattle.jm_runner.specs.Hands.{CanWork, HasWorked}
use Rattle.jm_runner.proofs.RunLemmas.{both_mapped, rows_long, can_work, back_long, all_of_one, is_ordered, is_run}
use Rattle.jm_runner.proofs.run.run_as.Goals as goal

pub columns-requires : goal.columns-requires
columns-requires g c =
    let n : c.len.result ≡ length c.args.scripts.items = c.len.ensures ∙ c.args.scripts.ok.0 in
    subst (λ (n : ℕ). All (λ v. length v.items ≡ n) c.in_ok-watches.seats.items) (sym n)
    (rows_long g.M.Monitor.meaning c.args.scripts.items c.args.watches.items (λ r. r.watch) (λ r. r.seats) (λ v. v.items) c.in_ok-watches.watches.items c.in_ok-watches.seats.items
    c.in_ok-watches.ensures.watches c.in_ok-watches.ensures.seats c.requires.ready)

pub new-requires : goal.new-requires
new-requires g c = All-map (λ lines. All (λ l. l.name < 2 ^ 32 - 1) lines) (λ cut. cut.lines.items) c.args.cuts.now c.requires.cuts.names

pub deal-requires : goal.deal-requires
deal-requires g c = c.in_ok-callers.ensures.count ∙ c.len.ensures

pub work_all-requires-clause-named : goal.work_all-requires-clause-named
work_all-requires-clause-named g c κs within = record {
  cuts_are = c.requires.naming.cuts_are;
  watches_are = c.requires.naming.watches_are ∙ sym c.in_ok-watches.ensures.watches ∙ sym c.deref.ensures.value;
  count = length-sync_of c.args.cuts.now ∙ c.requires.cuts.count ∙ c.args.scripts.ok.0 ∙ ap length (sym c.requires.naming.scripts_are);
  once = c.requires.cuts.sound.once;
  rising = All-map (λ lines. RisesFrom 1 lines) (λ cut. cut.lines.items) c.args.cuts.now c.requires.cuts.rising;
  below = c.in_ok-notices.ensures;
}

pub work_all-requires-clause-hands : goal.work_all-requires-clause-hands
work_all-requires-clause-hands g c κs within =
    let size : length c.in_ok-watches.watches.items ≡ length c.args.watches.items = ap length c.in_ok-watches.ensures.watches ∙ length-map c.args.watches.items (λ r. r.watch) in
    subst (λ w. All (λ h. CanWork g.M.Monitor.meaning w g.J.Naming.scripts h.seats.items h.lines) c.in_ok-hands.hands.items) (sym c.deref.ensures.value)
    (subst (λ l. All (λ h. CanWork g.M.Monitor.meaning c.in_ok-watches.watches.items l h.seats.items h.lines) c.in_ok-hands.hands.items) (sym c.requires.naming.scripts_are)
    (can_work g.M.Monitor.meaning c.args.scripts.items c.args.watches.items (λ r. r.watch) (λ r. r.seats) (λ v. v.items) c.in_ok-watches.watches.items c.in_ok-watches.seats.items
    c.in_ok-watches.ensures.watches c.in_ok-watches.ensures.seats c.requires.ready
    c.in_ok-callers.callers.items c.in_ok-callers.ensures.columns
    c.in_ok-hands.hands.items (λ h. h.seats) (λ h. h.lines) c.in_ok-hands.ensures.seats c.in_ok-hands.ensures.lines (omega arith) (omega arith)))

pub columns-requires-2 : goal.columns-requires-2
columns-requires-2 g c =
    let n : c.len-2.result ≡ length c.in_ok-watches.watches.items = c.len-2.ensures ∙ c.in_ok-watches.watches.ok.0 in
    let dealt : length c.in_ok-hands.hands.items ≡ length c.in_ok-callers.callers.items = sym (length-map c.in_ok-hands.hands.items (λ h. h.seats)) ∙ ap length c.in_ok-hands.ensures.seats in
    let columns : length c.in_ok-callers.callers.items ≡ length c.args.scripts.items = omega (arith, c.in_ok-callers.ensures.count, c.len.ensures, c.in_ok-callers.callers.ok.0, c.args.scripts.ok.0) in
    let returned : length c.in_ok-back.back.items ≡ length c.in_ok-callers.callers.items = ap length c.in_ok-back.ensures ∙ length-map c.in_ok-done.done.items (λ h. h.seats) ∙ sym c.in_ok-done.done.ok.0 ∙ c.in_ok-done.ensures.count ∙ c.in_ok-hands.hands.ok.0 ∙ dealt in
    let worked = both_mapped (λ h. h.seats) (λ before after. HasWorked c.in_ok-watches.watches.items c.args.scripts.items (sync_of c.args.cuts.now) before.items after.items) c.in_ok-hands.hands.items c.in_ok-done.done.items c.in_ok-callers.callers.items c.in_ok-back.back.items
    c.in_ok-hands.ensures.seats c.in_ok-back.ensures
    (λ k before after bat aat. subst (λ l. HasWorked c.in_ok-watches.watches.items l (sync_of c.args.cuts.now) before.seats.items after.seats.items) c.requires.naming.scripts_are
    (subst (λ w. HasWorked w g.J.Naming.scripts (sync_of c.args.cuts.now) before.seats.items after.seats.items) c.deref.ensures.value (c.in_ok-done.ensures.worked k before after bat aat))) in
    subst (λ (n : ℕ). All (λ v. length v.items ≡ n) c.in_ok-back.back.items) (sym n)
    (back_long g.M.Monitor.meaning c.args.scripts.items c.args.watches.items (λ r. r.watch) (λ r. r.seats) (λ v. v.items) c.in_ok-watches.watches.items c.in_ok-watches.seats.items
    c.in_ok-watches.ensures.watches c.in_ok-watches.ensures.seats c.requires.ready
    c.in_ok-callers.callers.items c.in_ok-callers.ensures.columns (sync_of c.args.cuts.now) c.in_ok-back.back.items columns returned worked)

pub close_all-requires-clause-seats : goal.close_all-requires-clause-seats
close_all-requires-clause-seats g c = λ s watch all wat aat.
    let dealt : length c.in_ok-hands.hands.items ≡ length c.in_ok-callers.callers.items = sym (length-map c.in_ok-hands.hands.items (λ h. h.seats)) ∙ ap length c.in_ok-hands.ensures.seats in
    let columns : length c.in_ok-callers.callers.items ≡ length c.args.scripts.items = omega (arith, c.in_ok-callers.ensures.count, c.len.ensures, c.in_ok-callers.callers.ok.0, c.args.scripts.ok.0) in
    let returned : length c.in_ok-back.back.items ≡ length c.in_ok-callers.callers.items = ap length c.in_ok-back.ensures ∙ length-map c.in_ok-done.done.items (λ h. h.seats) ∙ sym c.in_ok-done.done.ok.0 ∙ c.in_ok-done.ensures.count ∙ c.in_ok-hands.hands.ok.0 ∙ dealt in
    let worked = both_mapped (λ h. h.seats) (λ before after. HasWorked c.in_ok-watches.watches.items c.args.scripts.items (sync_of c.args.cuts.now) before.items after.items) c.in_ok-hands.hands.items c.in_ok-done.done.items c.in_ok-callers.callers.items c.in_ok-back.back.items
    c.in_ok-hands.ensures.seats c.in_ok-back.ensures
    (λ k before after bat aat. subst (λ l. HasWorked c.in_ok-watches.watches.items l (sync_of c.args.cuts.now) before.seats.items after.seats.items) c.requires.naming.scripts_are
    (subst (λ w. HasWorked w g.J.Naming.scripts (sync_of c.args.cuts.now) before.seats.items after.seats.items) c.deref.ensures.value (c.in_ok-done.ensures.worked k before after bat aat))) in
    all_of_one g.M.Monitor.meaning c.args.scripts.items c.args.watches.items (λ r. r.watch) (λ r. r.seats) (λ v. v.items) c.in_ok-watches.watches.items c.in_ok-watches.seats.items
    c.in_ok-watches.ensures.watches c.in_ok-watches.ensures.seats c.requires.ready
    c.in_ok-callers.callers.items c.in_ok-callers.ensures.columns (sync_of c.args.cuts.now) c.in_ok-back.back.items columns returned worked
    c.in_ok-seats.seats.items c.in_ok-seats.ensures.columns s all aat watch wat

pub returns-clause-runs : goal.returns-clause-runs
returns-clause-runs g c =
    IfOk-weaker c.close_all.result _ _
    (λ props closed s r prop rat pat.
    let running = c.args.watches.items in
    let size : length c.in_ok-watches.watches.items ≡ length c.args.watches.items = ap length c.in_ok-watches.ensures.watches ∙ length-map c.args.watches.items (λ r. r.watch) in
    let below = slice_get_within running s r rat in
    let n : c.len-2.result ≡ length c.in_ok-watches.watches.items = c.len-2.ensures ∙ c.in_ok-watches.watches.ok.0 in
    let dealt : length c.in_ok-hands.hands.items ≡ length c.in_ok-callers.callers.items = sym (length-map c.in_ok-hands.hands.items (λ h. h.seats)) ∙ ap length c.in_ok-hands.ensures.seats in
    let columns : length c.in_ok-callers.callers.items ≡ length c.args.scripts.items = omega (arith, c.in_ok-callers.ensures.count, c.len.ensures, c.in_ok-callers.callers.ok.0, c.args.scripts.ok.0) in
    let returned : length c.in_ok-back.back.items ≡ length c.in_ok-callers.callers.items = ap length c.in_ok-back.ensures ∙ length-map c.in_ok-done.done.items (λ h. h.seats) ∙ sym c.in_ok-done.done.ok.0 ∙ c.in_ok-done.ensures.count ∙ c.in_ok-hands.hands.ok.0 ∙ dealt in
    let worked = both_mapped (λ h. h.seats) (λ before after. HasWorked c.in_ok-watches.watches.items c.args.scripts.items (sync_of c.args.cuts.now) before.items after.items) c.in_ok-hands.hands.items c.in_ok-done.done.items c.in_ok-callers.callers.items c.in_ok-back.back.items
    c.in_ok-hands.ensures.seats c.in_ok-back.ensures
    (λ k before after bat aat. subst (λ l. HasWorked c.in_ok-watches.watches.items l (sync_of c.args.cuts.now) before.seats.items after.seats.items) c.requires.naming.scripts_are
    (subst (λ w. HasWorked w g.J.Naming.scripts (sync_of c.args.cuts.now) before.seats.items after.seats.items) c.deref.ensures.value (c.in_ok-done.ensures.worked k before after bat aat))) in
    let many : length c.in_ok-seats.seats.items ≡ length running = sym c.in_ok-seats.seats.ok.0 ∙ c.in_ok-seats.ensures.count ∙ n ∙ size in
    let all = get_there c.in_ok-seats.seats.items s (subst (λ k. s < k) (sym many) below) in
    let wat : slice_get c.in_ok-watches.watches.items s ≡ Some r.watch = ap (λ l. slice_get l s) c.in_ok-watches.ensures.watches ∙ slice_get-map (λ x. x.watch) running s ∙ ap (λ o. option_map (λ x. x.watch) o) rat in
    is_run g.M.Monitor.meaning c.args.scripts.items c.args.watches.items (λ r. r.watch) (λ r. r.seats) (λ v. v.items) c.in_ok-watches.watches.items c.in_ok-watches.seats.items
    c.in_ok-watches.ensures.watches c.in_ok-watches.ensures.seats c.requires.ready
    c.in_ok-callers.callers.items c.in_ok-callers.ensures.columns (sync_of c.args.cuts.now) c.in_ok-back.back.items columns returned worked
    c.in_ok-seats.seats.items c.in_ok-seats.ensures.columns s all.0 all.1 r prop rat (closed s r.watch all.0 prop wat all.1 pat))
    c.close_all.ensures.closed

pub returns-clause-ordered : goal.returns-clause-ordered
returns-clause-ordered g c =
    both_ok {P = λ props. vec_len props ≡ vec_len c.in_ok-watches.watches} {Q = λ props. _} c.close_all.result
    (λ props many_props closed. all_from_places (λ p. IsOrdered p.entries (sync_of c.args.cuts.now)) props.items
    (λ s prop pat.
    let running = c.args.watches.items in
    let size : length c.in_ok-watches.watches.items ≡ length c.args.watches.items = ap length c.in_ok-watches.ensures.watches ∙ length-map c.args.watches.items (λ r. r.watch) in
    let there : s < length props.items = slice_get_within props.items s prop pat in
    let below : s < length running = omega (arith, there, many_props, props.ok.0, c.in_ok-watches.watches.ok.0, size) in
    let r = get_there running s below in
    let n : c.len-2.result ≡ length c.in_ok-watches.watches.items = c.len-2.ensures ∙ c.in_ok-watches.watches.ok.0 in
    let dealt : length c.in_ok-hands.hands.items ≡ length c.in_ok-callers.callers.items = sym (length-map c.in_ok-hands.hands.items (λ h. h.seats)) ∙ ap length c.in_ok-hands.ensures.seats in
    let columns : length c.in_ok-callers.callers.items ≡ length c.args.scripts.items = omega (arith, c.in_ok-callers.ensures.count, c.len.ensures, c.in_ok-callers.callers.ok.0, c.args.scripts.ok.0) in
    let returned : length c.in_ok-back.back.items ≡ length c.in_ok-callers.callers.items = ap length c.in_ok-back.ensures ∙ length-map c.in_ok-done.done.items (λ h. h.seats) ∙ sym c.in_ok-done.done.ok.0 ∙ c.in_ok-done.ensures.count ∙ c.in_ok-hands.hands.ok.0 ∙ dealt in
    let worked = both_mapped (λ h. h.seats) (λ before after. HasWorked c.in_ok-watches.watches.items c.args.scripts.items (sync_of c.args.cuts.now) before.items after.items) c.in_ok-hands.hands.items c.in_ok-done.done.items c.in_ok-callers.callers.items c.in_ok-back.back.items
    c.in_ok-hands.ensures.seats c.in_ok-back.ensures
    (λ k before after bat aat. subst (λ l. HasWorked c.in_ok-watches.watches.items l (sync_of c.args.cuts.now) before.seats.items after.seats.items) c.requires.naming.scripts_are
    (subst (λ w. HasWorked w g.J.Naming.scripts (sync_of c.args.cuts.now) before.seats.items after.seats.items) c.deref.ensures.value (c.in_ok-done.ensures.worked k before after bat aat))) in
    let many : length c.in_ok-seats.seats.items ≡ length running = sym c.in_ok-seats.seats.ok.0 ∙ c.in_ok-seats.ensures.count ∙ n ∙ size in
    let all = get_there c.in_ok-seats.seats.items s (subst (λ k. s < k) (sym many) below) in
    let wat : slice_get c.in_ok-watches.watches.items s ≡ Some r.0.watch = ap (λ l. slice_get l s) c.in_ok-watches.ensures.watches ∙ slice_get-map (λ x. x.watch) running s ∙ ap (λ o. option_map (λ x. x.watch) o) r.1 in
    is_ordered g.M.Monitor.meaning c.args.scripts.items c.args.watches.items (λ r. r.watch) (λ r. r.seats) (λ v. v.items) c.in_ok-watches.watches.items c.in_ok-watches.seats.items
    c.in_ok-watches.ensures.watches c.in_ok-watches.ensures.seats c.requires.ready
    c.in_ok-callers.callers.items c.in_ok-callers.ensures.columns (sync_of c.args.cuts.now) c.in_ok-back.back.items columns returned worked
    c.in_ok-seats.seats.items c.in_ok-seats.ensures.columns s all.0 all.1 r.0 prop r.1 (length-sync_of c.args.cuts.now ∙ c.requires.cuts.count ∙ c.args.scripts.ok.0) (closed s r.0.watch all.0 prop wat all.1 pat)))
    c.close_all.ensures.count c.close_all.ensures.closed
