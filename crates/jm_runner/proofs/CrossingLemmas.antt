-- What a run shares among its threads, and what it moves to them, type by type. Each type is shown by itself, and then cited
-- where it stands in the next: a search for all of it at once ends at its limit.
use Rattle.std.proofs.Crossing.{crosses}
use Rattle.std.proofs.MapsCrossing.{crosses as maps}
use Rattle.jm_history.proofs.chain.Chain.TheLaws.TheKnot.{crosses as chain}
use Rattle.jm_history.specs.contracts.history.History as History
use Rattle.jm_store.specs.contracts.store.Store as Store
use Rattle.jm_core.specs.contracts.prop.Prop as Prop
use Rattle.jm_dispatch.specs.contracts.watched.Watched as Watched
use Rattle.jm_dispatch.specs.contracts.watched.Fixed as Fixed
use Rattle.jm_dispatch.specs.contracts.watched.WatchedKept.TheImpl as kept
use Rattle.jm_dispatch.specs.contracts.watch.Watch as Watch
use Rattle.jm_model.specs.contracts.step.Entry as Entry
use Rattle.jm_model.specs.declared.monitor.Monitor as Monitor
use Rattle.atomic_table.proofs.shared.Shared.TheSendSync as shared
use Rattle.atomic_table.proofs.send_lease.SendLease.TheSendSync as lease
use Rattle.atomic_table.proofs.shared.Seat.TheSendSync as seat
use Rattle.jm_turn.specs.contracts.lock.Lock as Lock
use Rattle.jm_turn.specs.contracts.seat.Seat as Seat
use Rattle.jm_turn.specs.contracts.seat.Note as Note
use Rattle.jm_turn.specs.declared.kept.Kept as Kept
use Rattle.jm_sync.specs.contracts.board.Board as Board
use Rattle.jm_sync.specs.contracts.shelves.Shelves as Shelves
use Rattle.jm_sync.specs.declared.shelves.Posted as Posted
use Rattle.jm_script.specs.contracts.queue.LineQueue as LineQueue
use Rattle.jm_runner.specs.contracts.parcel.Parcel as Parcel
use Rattle.jm_runner.specs.contracts.worker.Hand as Hand
use Rattle.jm_runner.specs.contracts.notices.Notices as Notices
use Rattle.jm_runner.specs.declared.parcel.Naming as Naming
use mir.Syntax.{w8}
use denote.Array.{Array}
use denote.Plain.{UInt}
use denote.RattleType.{RattleType}
use denote.Param.Send.{IsSend, IsSync, sendable}

history_row : IsSend History.the_row
history_row = search (chain, crosses, maps, sendable) depth 100 fits 20000

module _ (M S D : RattleType) (m : Monitor.Ghosts M.Denot S.Denot D.Denot) where
  store_row : IsSend M → IsSend S → IsSend (Store.the_row M S D m)
  store_row sm ss = search (crosses, maps, sendable) depth 100 fits 20000

  prop_row : IsSend M → IsSend S → IsSend (Prop.the_row M S D m)
  prop_row sm ss = search (store_row, history_row, crosses, maps, sendable) depth 100 fits 20000

  pub watched_row : IsSend M → IsSend S → IsSend (Watched.the_row M S D m)
  watched_row sm ss = search (prop_row, crosses, maps, sendable) depth 100 fits 20000

module _ (V E F : RattleType) (k : Kept.Ghosts V.Denot E.Denot F.Denot) where
  pub lock_row : IsSend V → IsSync (Lock.the_row V E F k)
  lock_row s = search (shared.the_sync, lease.the_sync, crosses, sendable) depth 100 fits 20000

  pub seat_row : IsSend V → IsSend (Seat.the_row V E F k)
  seat_row s = search (seat.the_send, crosses, sendable) depth 100 fits 20000

  pub note_row : IsSend V → IsSend (Note.the_row V E F k)
  note_row s = search (seat.the_send, crosses, sendable) depth 100 fits 20000

module _ (M S D : RattleType) (m : Monitor.Ghosts M.Denot S.Denot D.Denot) where
  -- a watch has a lock and the masks of its letters
  pub watch_row : IsSend M → IsSend S → IsSync (Watch.the_row M S D m)
  watch_row sm ss =
      let lock = lock_row (Watched.the_row M S D m) Entry.the_row (Fixed.the_row D) (kept.ghosts M S D m kept.no_dict kept.no_dict kept.no_dict) (watched_row M S D m sm ss) in
      let masks : IsSync (Array (UInt w8) 32) = search sendable in
      record { shared = λ d b o κ x. (((lock.shared x.0.lock b _ κ, (masks.shared x.0.masks b _ κ, tt)), (λ q. tt)), tt) }

queue_row : IsSend LineQueue.the_row
queue_row = search (crosses, maps, sendable) depth 100 fits 20000

module _ (M S D : RattleType) (m : Monitor.Ghosts M.Denot S.Denot D.Denot) where
  -- a hand has seats and a queue
  pub hand_row : IsSend M → IsSend S → IsSend (Hand.the_row M S D m)
  hand_row sm ss = search (queue_row, watched_row, seat.the_send, crosses, maps, sendable) depth 100 fits 20000

module _ (T W : RattleType) (t : Posted.Ghosts T.Denot) (w : Posted.Ghosts W.Denot) where
  shelves_row : IsSend T → IsSend W → IsSend (Shelves.the_row T W t w)
  shelves_row st sw = search (crosses, maps, sendable) depth 100 fits 20000

  pub board_row : IsSend T → IsSend W → IsSync (Board.the_row T W t w)
  board_row st sw = search (shelves_row, crosses, maps, sendable) depth 100 fits 20000

module _ (M J S D : RattleType) (m : Monitor.Ghosts M.Denot S.Denot D.Denot) (n : Naming.Ghosts J.Denot D.Denot) where
  pub parcel_row : IsSend M → IsSend J → IsSend S → IsSend (Parcel.the_row M J S D m n)
  parcel_row sm sj ss = search (watched_row, note_row, crosses, maps, sendable) depth 100 fits 20000

  pub notices_row : IsSend M → IsSend J → IsSend S → IsSync (Notices.the_row M J S D m n)
  notices_row sm sj ss = search (parcel_row, board_row, crosses, maps, sendable) depth 100 fits 20000
