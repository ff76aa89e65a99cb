use Rattle.std.proofs.Crossing.{crosses}
use Rattle.std.proofs.MapsCrossing.{crosses as maps}
use Rattle.std.proofs.lemmas.Result.{IfOk-weaker}
use Rattle.jm_runner.proofs.CrossingLemmas.{hand_row, watched_row, lock_row, board_row, parcel_row, notices_row}
use Rattle.std.proofs.Common.{◌≡◌, ◌∙◌, length, ap, arith}
use Rattle.jm_sync.specs.Checks.{sync_of}
use Rattle.jm_runner.specs.Hands.{CanWork, HasWorked}
use Rattle.jm_runner.proofs.RunLemmas.{at_first, front_only, slot_met}
use mir.Syntax.{w8}
use denote.Array.{Array}
use denote.Plain.{UInt}
use denote.Param.{param}
use denote.Param.Send.{IsSend, IsSync, sendable}
use Rattle.jm_runner.specs.contracts.workers.work_unordered as asked
use Rattle.jm_runner.proofs.workers.work_unordered.Lts as place
use Rattle.jm_runner.proofs.workers.work_unordered.Given.{Over}
use Rattle.jm_runner.proofs.workers.work_unordered.Goals as goal

pub may_be_shared-requires-sync-T : goal.may_be_shared-requires-sync-T
may_be_shared-requires-sync-T g c κs within = search (watched_row, lock_row, crosses, maps, sendable) depth 100 fits 20000

-- a watch has a lock and the masks of its letters
pub may_be_shared-requires-2-sync-T : goal.may_be_shared-requires-2-sync-T
may_be_shared-requires-2-sync-T g c κs within =
    let lock = c.may_be_shared.ensures in
    let masks : IsSync (Array (UInt w8) 32) = search sendable in
    record { shared = λ d b o κ x. (((lock.shared x.0.lock b _ κ, (masks.shared x.0.masks b _ κ, tt)), (λ q. tt)), tt) }

-- parcels cross threads, so a board of them may be shared
pub may_be_shared-requires-3-sync-T : goal.may_be_shared-requires-3-sync-T
may_be_shared-requires-3-sync-T g c κs within = search (parcel_row, board_row, crosses, maps, sendable) depth 100 fits 20000

-- notices have a board and numbers
pub may_be_shared-requires-4-sync-T : goal.may_be_shared-requires-4-sync-T
may_be_shared-requires-4-sync-T g c κs within = search (notices_row, crosses, maps, sendable) depth 100 fits 20000

-- What is in a slot may cross threads. This is shown apart from the work, whose facts the search would try too.
slot_sent : (g : Over) → IsSend (asked.M-row g.row.M g.row.J g.row.G g.row.R g.row.M-State g.row.M-Definition) → IsSend (asked.M-State-row g.row.M g.row.J g.row.G g.row.R g.row.M-State g.row.M-Definition) → (κs : _) → IsSend (param 1 (place.arg-8-1 g.row.M g.row.J g.row.G g.row.R g.row.M-State g.row.M-Definition g.M.laws g.J.laws g.G.laws g.R.laws g.M.State.laws g.M.Definition.laws g.M.Monitor g.M.Monitor-dict g.J.Naming g.J.Naming-dict g.G.Gate g.G.Gate-dict g.R.Threads g.R.Threads-dict g.R.Wait g.R.Wait-dict g.M.Destruct-dict g.M.State.Destruct-dict κs))
slot_sent g rules_cross states_cross κs = search (hand_row, crosses, maps, sendable) depth 100 fits 20000

pub for_each_mut-requires-send-T : goal.for_each_mut-requires-send-T
for_each_mut-requires-send-T g c κs within = slot_sent g c.type_bounds.send-M c.type_bounds.send-M-State κs

-- The rules, the naming and the states of a call may cross threads, as those of the caller may.
rules_sent : (g : Over) → IsSend (asked.M-row g.row.M g.row.J g.row.G g.row.R g.row.M-State g.row.M-Definition) → (κs : _) → IsSend (param 0 (place.impl_arg-8-0 g.row.M g.row.J g.row.G g.row.R g.row.M-State g.row.M-Definition g.M.laws g.J.laws g.G.laws g.R.laws g.M.State.laws g.M.Definition.laws g.M.Monitor g.M.Monitor-dict g.J.Naming g.J.Naming-dict g.G.Gate g.G.Gate-dict g.R.Threads g.R.Threads-dict g.R.Wait g.R.Wait-dict g.M.Destruct-dict g.M.State.Destruct-dict κs))
rules_sent g cross κs = search (crosses, maps, sendable) depth 100 fits 20000

naming_sent : (g : Over) → IsSend (asked.J-row g.row.M g.row.J g.row.G g.row.R g.row.M-State g.row.M-Definition) → (κs : _) → IsSend (param 1 (place.impl_arg-8-1 g.row.M g.row.J g.row.G g.row.R g.row.M-State g.row.M-Definition g.M.laws g.J.laws g.G.laws g.R.laws g.M.State.laws g.M.Definition.laws g.M.Monitor g.M.Monitor-dict g.J.Naming g.J.Naming-dict g.G.Gate g.G.Gate-dict g.R.Threads g.R.Threads-dict g.R.Wait g.R.Wait-dict g.M.Destruct-dict g.M.State.Destruct-dict κs))
naming_sent g cross κs = search (crosses, maps, sendable) depth 100 fits 20000

states_sent : (g : Over) → IsSend (asked.M-State-row g.row.M g.row.J g.row.G g.row.R g.row.M-State g.row.M-Definition) → (κs : _) → IsSend (param 4 (place.impl_arg-8-4 g.row.M g.row.J g.row.G g.row.R g.row.M-State g.row.M-Definition g.M.laws g.J.laws g.G.laws g.R.laws g.M.State.laws g.M.Definition.laws g.M.Monitor g.M.Monitor-dict g.J.Naming g.J.Naming-dict g.G.Gate g.G.Gate-dict g.R.Threads g.R.Threads-dict g.R.Wait g.R.Wait-dict g.M.Destruct-dict g.M.State.Destruct-dict κs))
states_sent g cross κs = search (crosses, maps, sendable) depth 100 fits 20000

pub for_each_mut-requires-clause-accepts : goal.for_each_mut-requires-clause-accepts
for_each_mut-requires-clause-accepts g c κs within = λ i p less is. (
  at_first (λ h. CanWork g.M.Monitor.meaning c.args.watches.now g.J.Naming.scripts h.seats.items h.lines) c.args.hands.items c.deref_mut.result.now i p.now (c.deref_mut.ensures.value ∙ c.in_ok-slots.ensures) c.requires.hands less is,
  (
    c.requires.named,
    (
      rules_sent g c.type_bounds.send-M κs,
      naming_sent g c.type_bounds.send-J κs,
      states_sent g c.type_bounds.send-M-State κs,
      search (c.type_bounds.sync-J, sendable),
      search (c.type_bounds.sync-G, sendable),
      search (c.type_bounds.sync-R, sendable),
    ),
  ),
)

pub returns-clause-worked : goal.returns-clause-worked
returns-clause-worked g c =
    let many : c.in_ok-slots.slots.len ≡ length c.for_each_mut.new.s = omega (arith, c.in_ok-slots.slots.ok.0, c.for_each_mut.auto.s, ap (λ l. length l) c.deref_mut.ensures.value) in
    IfOk-weaker c.all_ok.result _ _ (λ back same k before after bat aat.
    slot_met _ _ (λ before after. HasWorked c.args.watches.now g.J.Naming.scripts (sync_of c.args.cuts.now) before.seats.items after.seats.items) c.deref_mut.result.now c.for_each_mut.new.s c.args.hands.items back.items k before after
    (λ p q post. post) c.for_each_mut.ensures (c.deref_mut.ensures.value ∙ c.in_ok-slots.ensures) (same ∙ front_only c.in_ok-slots.slots.len c.for_each_mut.new.s _ many) bat aat) c.all_ok.ensures
