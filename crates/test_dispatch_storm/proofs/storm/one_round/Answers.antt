use Rattle.std.proofs.Crossing.{crosses}
use Rattle.std.proofs.MapsCrossing.{crosses as maps}
use Rattle.atomic_table.proofs.shared.Seat.TheSendSync as seat
use Rattle.jm_turn.specs.contracts.seat.Note as Note
use Rattle.jm_turn.specs.declared.kept.Kept as Kept
use Rattle.jm_runner.proofs.CrossingLemmas.{watched_row, lock_row, seat_row}
use denote.RattleType.{RattleType}
use mir.Syntax.{w8}
use denote.Array.{Array}
use denote.Plain.{UInt}
use denote.Param.{param}
use denote.Param.Send.{IsSend, IsSync, sendable}
use Rattle.test_dispatch_storm.specs.contracts.storm.one_round as asked
use Rattle.test_dispatch_storm.proofs.storm.one_round.Lts as place
use Rattle.test_dispatch_storm.proofs.storm.one_round.Given.{Over}
use Rattle.test_dispatch_storm.proofs.storm.one_round.Goals as goal

pub may_be_shared-requires-sync-T : goal.may_be_shared-requires-sync-T
may_be_shared-requires-sync-T g c κs within = search (watched_row, lock_row, crosses, maps, sendable) depth 100 fits 20000

-- a watch has a lock and the masks of its letters
pub may_be_shared-requires-2-sync-T : goal.may_be_shared-requires-2-sync-T
may_be_shared-requires-2-sync-T g c κs within =
    let lock = c.may_be_shared.ensures in
    let masks : IsSync (Array (UInt w8) 32) = search sendable in
    record { shared = λ d b o κ x. (((lock.shared x.0.lock b _ κ, (masks.shared x.0.masks b _ κ, tt)), (λ q. tt)), tt) }

module _ (V E F : RattleType) (k : Kept.Ghosts V.Denot E.Denot F.Denot) where
  note_row : IsSend V → IsSend (Note.the_row V E F k)
  note_row s = search (seat.the_send, crosses, sendable) depth 100 fits 20000

-- A runner may cross threads, and so may its answer. Each is shown apart from the work, whose facts the search would try
-- too.
runner_sent : (g : Over) → IsSend (asked.M-row g.row.R g.row.M g.row.M-State g.row.M-Definition) → IsSend (asked.M-State-row g.row.R g.row.M g.row.M-State g.row.M-Definition) → (κs : _) → IsSend (param 1 (place.arg-6-1 g.row.R g.row.M g.row.M-State g.row.M-Definition g.R.laws g.M.laws g.M.State.laws g.M.Definition.laws g.R.Threads g.R.Threads-dict g.R.Wait g.R.Wait-dict g.M.Monitor g.M.Monitor-dict g.M.Destruct-dict g.M.State.Destruct-dict κs))
runner_sent g rules_cross states_cross κs = search (watched_row, seat_row, note_row, crosses, maps, sendable) depth 100 fits 20000

answer_sent : (g : Over) → IsSend (asked.M-row g.row.R g.row.M g.row.M-State g.row.M-Definition) → IsSend (asked.M-State-row g.row.R g.row.M g.row.M-State g.row.M-Definition) → (κs : _) → IsSend (param 2 (place.arg-6-2 g.row.R g.row.M g.row.M-State g.row.M-Definition g.R.laws g.M.laws g.M.State.laws g.M.Definition.laws g.R.Threads g.R.Threads-dict g.R.Wait g.R.Wait-dict g.M.Monitor g.M.Monitor-dict g.M.Destruct-dict g.M.State.Destruct-dict κs))
answer_sent g rules_cross states_cross κs = search (watched_row, seat_row, crosses, maps, sendable) depth 100 fits 20000

pub map_vec-requires-send-J : goal.map_vec-requires-send-J
map_vec-requires-send-J g c κs within = runner_sent g c.type_bounds.send-M c.type_bounds.send-M-State κs

pub map_vec-requires-send-X : goal.map_vec-requires-send-X
map_vec-requires-send-X g c κs within = answer_sent g c.type_bounds.send-M c.type_bounds.send-M-State κs
