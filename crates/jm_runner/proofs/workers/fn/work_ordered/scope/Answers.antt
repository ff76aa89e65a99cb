use Rattle.std.proofs.Crossing.{crosses}
use Rattle.std.proofs.MapsCrossing.{crosses as maps}
use Rattle.std.proofs.lemmas.Result.{IfOk-weaker}
use Rattle.std.proofs.lemmas.List.Elements.{All-head, All-tail}
use Rattle.jm_runner.proofs.CrossingLemmas.{hand_row, watch_row, notices_row}
use Rattle.jm_runner.proofs.ThreadLemmas.{same_length, map_snoc, snoc_rest, none_left, ends, promises_met, named_worked, worked_named_back}
use Rattle.std.proofs.Common.{◌≡◌, ◌∙◌, ◌++◌, [], All, map, vec_len, refl, sym, ap, subst, arith}
use Rattle.jm_sync.specs.Checks.{sync_of}
use Rattle.jm_runner.specs.Hands.{CanWork, HasWorked}
use denote.Param.{param}
use denote.Param.Send.{IsSend, IsSync, sendable}
use Rattle.jm_runner.proofs.workers.fn.work_ordered.scope.Lts as place
use Rattle.jm_runner.proofs.workers.fn.work_ordered.scope.Given.{Over}
use Rattle.jm_runner.proofs.workers.fn.work_ordered.scope.Goals as goal

pub loop-hand-init : goal.loop-hand-init
loop-hand-init g c = record {
  promised = rw (c.in_ok-workers.ensures.items) refl;
  all = refl;
  able = subst (λ l. All (λ h. CanWork g.M.Monitor.meaning c.captures.watches.now g.J.Naming.scripts h.seats.items h.lines) l) (sym c.into_iter-hand-iterator.ensures.into_iter_gives.0) c.requires.hands;
}

-- What a worker's thread takes with it may cross threads, and so may what it gives back. This is shown apart from the work, whose facts the search would try too.
worker_sent : (g : Over) → IsSend (param 0 g.row.M) → IsSend (param 1 g.row.J) → IsSend (param 4 g.row.M-State) → IsSync (param 2 g.row.G) → IsSync (param 3 g.row.R) → (κs : _) → IsSend (param 2 (place.arg-8-2 g.row.M g.row.J g.row.G g.row.R g.row.M-State g.row.M-Definition g.M.laws g.J.laws g.G.laws g.R.laws g.M.State.laws g.M.Definition.laws g.M.Monitor g.M.Monitor-dict g.J.Naming g.J.Naming-dict g.G.Gate g.G.Gate-dict g.R.Threads g.R.Threads-dict g.R.Wait g.R.Wait-dict g.M.Destruct-dict g.M.State.Destruct-dict κs))
worker_sent g rules_cross naming_crosses states_cross gate_shared handle_shared κs = search (hand_row, watch_row, notices_row, crosses, maps, sendable) depth 100 fits 20000

back_sent : (g : Over) → IsSend (param 0 g.row.M) → IsSend (param 4 g.row.M-State) → (κs : _) → IsSend (param 3 (place.arg-8-3 g.row.M g.row.J g.row.G g.row.R g.row.M-State g.row.M-Definition g.M.laws g.J.laws g.G.laws g.R.laws g.M.State.laws g.M.Definition.laws g.M.Monitor g.M.Monitor-dict g.J.Naming g.J.Naming-dict g.G.Gate g.G.Gate-dict g.R.Threads g.R.Threads-dict g.R.Wait g.R.Wait-dict g.M.Destruct-dict g.M.State.Destruct-dict κs))
back_sent g rules_cross states_cross κs = search (hand_row, crosses, maps, sendable) depth 100 fits 20000

pub spawn_with-started-requires-send-F : goal.spawn_with-started-requires-send-F
spawn_with-started-requires-send-F g c κs within = worker_sent g c.requires.sent.0 c.requires.sent.1 c.requires.sent.2 c.requires.shared.1 c.requires.shared.2 κs

pub spawn_with-started-requires-send-T : goal.spawn_with-started-requires-send-T
spawn_with-started-requires-send-T g c κs within = back_sent g c.requires.sent.0 c.requires.sent.2 κs

-- The rules, the naming, the states, the gate and the handle of a call cross threads as those of the caller do.
rules_sent : (g : Over) → IsSend (param 0 g.row.M) → (κs : _) → IsSend (param 0 (place.impl_arg-8-4 g.row.M g.row.J g.row.G g.row.R g.row.M-State g.row.M-Definition g.M.laws g.J.laws g.G.laws g.R.laws g.M.State.laws g.M.Definition.laws g.M.Monitor g.M.Monitor-dict g.J.Naming g.J.Naming-dict g.G.Gate g.G.Gate-dict g.R.Threads g.R.Threads-dict g.R.Wait g.R.Wait-dict g.M.Destruct-dict g.M.State.Destruct-dict κs))
rules_sent g cross κs = search (crosses, maps, sendable) depth 100 fits 20000

naming_sent : (g : Over) → IsSend (param 1 g.row.J) → (κs : _) → IsSend (param 1 (place.impl_arg-8-5 g.row.M g.row.J g.row.G g.row.R g.row.M-State g.row.M-Definition g.M.laws g.J.laws g.G.laws g.R.laws g.M.State.laws g.M.Definition.laws g.M.Monitor g.M.Monitor-dict g.J.Naming g.J.Naming-dict g.G.Gate g.G.Gate-dict g.R.Threads g.R.Threads-dict g.R.Wait g.R.Wait-dict g.M.Destruct-dict g.M.State.Destruct-dict κs))
naming_sent g cross κs = search (crosses, maps, sendable) depth 100 fits 20000

states_sent : (g : Over) → IsSend (param 4 g.row.M-State) → (κs : _) → IsSend (param 4 (place.impl_arg-8-8 g.row.M g.row.J g.row.G g.row.R g.row.M-State g.row.M-Definition g.M.laws g.J.laws g.G.laws g.R.laws g.M.State.laws g.M.Definition.laws g.M.Monitor g.M.Monitor-dict g.J.Naming g.J.Naming-dict g.G.Gate g.G.Gate-dict g.R.Threads g.R.Threads-dict g.R.Wait g.R.Wait-dict g.M.Destruct-dict g.M.State.Destruct-dict κs))
states_sent g cross κs = search (crosses, maps, sendable) depth 100 fits 20000

naming_shared : (g : Over) → IsSync (param 1 g.row.J) → (κs : _) → IsSync (param 1 (place.impl_arg-8-5 g.row.M g.row.J g.row.G g.row.R g.row.M-State g.row.M-Definition g.M.laws g.J.laws g.G.laws g.R.laws g.M.State.laws g.M.Definition.laws g.M.Monitor g.M.Monitor-dict g.J.Naming g.J.Naming-dict g.G.Gate g.G.Gate-dict g.R.Threads g.R.Threads-dict g.R.Wait g.R.Wait-dict g.M.Destruct-dict g.M.State.Destruct-dict κs))
naming_shared g cross κs = search (crosses, maps, sendable) depth 100 fits 20000

gate_shared : (g : Over) → IsSync (param 2 g.row.G) → (κs : _) → IsSync (param 2 (place.impl_arg-8-6 g.row.M g.row.J g.row.G g.row.R g.row.M-State g.row.M-Definition g.M.laws g.J.laws g.G.laws g.R.laws g.M.State.laws g.M.Definition.laws g.M.Monitor g.M.Monitor-dict g.J.Naming g.J.Naming-dict g.G.Gate g.G.Gate-dict g.R.Threads g.R.Threads-dict g.R.Wait g.R.Wait-dict g.M.Destruct-dict g.M.State.Destruct-dict κs))
gate_shared g cross κs = search (crosses, maps, sendable) depth 100 fits 20000

handle_shared : (g : Over) → IsSync (param 3 g.row.R) → (κs : _) → IsSync (param 3 (place.impl_arg-8-7 g.row.M g.row.J g.row.G g.row.R g.row.M-State g.row.M-Definition g.M.laws g.J.laws g.G.laws g.R.laws g.M.State.laws g.M.Definition.laws g.M.Monitor g.M.Monitor-dict g.J.Naming g.J.Naming-dict g.G.Gate g.G.Gate-dict g.R.Threads g.R.Threads-dict g.R.Wait g.R.Wait-dict g.M.Destruct-dict g.M.State.Destruct-dict κs))
handle_shared g cross κs = search (crosses, maps, sendable) depth 100 fits 20000

pub spawn_with-started-requires-clause-runs : goal.spawn_with-started-requires-clause-runs
spawn_with-started-requires-clause-runs g c κs within = (
  All-head (λ h. CanWork g.M.Monitor.meaning c.captures.watches.now g.J.Naming.scripts h.seats.items h.lines) c.in-Some.hand c.next.new.self.rest.items (subst (λ l. All (λ h. CanWork g.M.Monitor.meaning c.captures.watches.now g.J.Naming.scripts h.seats.items h.lines) l) c.in-Some.ensures.steps.0 c.loop-hand.invariant.able),
  (
    c.requires.named,
    (
      rules_sent g c.requires.sent.0 κs,
      naming_sent g c.requires.sent.1 κs,
      states_sent g c.requires.sent.2 κs,
      naming_shared g c.requires.shared.0 κs,
      gate_shared g c.requires.shared.1 κs,
      handle_shared g c.requires.shared.2 κs,
    ),
  ),
)

pub spawn_with-started-requires-clause-keeps : goal.spawn_with-started-requires-clause-keeps
spawn_with-started-requires-clause-keeps g c κs within = λ r kept.
    IfOk-weaker r _ _ (λ back worked. named_worked _ _ _ _ _ _ _ _ _ c.requires.named (ap (λ h. h.seats.items) c.of.ensures) worked) kept

pub loop-hand-preserved : goal.loop-hand-preserved
loop-hand-preserved g c = record {
  promised = map_snoc (λ w. w.promise.before.value) c.loop-hand.workers.items c.push.new.self.items c.in-Ok.worker c.loop-hand.yielded c.in-Some.hand c.in-Ok-push.ensures.items c.loop-hand.invariant.promised (ap (λ p. p.before.value) c.in-Ok.ensures.ok ∙ c.of.ensures);
  all = snoc_rest c.loop-hand.yielded c.next.new.self.rest.items c.in-Some.hand ∙ ap (λ l. c.loop-hand.yielded ++ l) (sym c.in-Some.ensures.steps.0) ∙ c.loop-hand.invariant.all;
  able = All-tail (λ h. CanWork g.M.Monitor.meaning c.captures.watches.now g.J.Naming.scripts h.seats.items h.lines) c.in-Some.hand c.next.new.self.rest.items (subst (λ l. All (λ h. CanWork g.M.Monitor.meaning c.captures.watches.now g.J.Naming.scripts h.seats.items h.lines) l) c.in-Some.ensures.steps.0 c.loop-hand.invariant.able);
}

pub returns : goal.returns
returns g c =
    let was = c.loop-hand.invariant in
    let workers = c.loop-hand.workers in
    let joined = c.in-Ok-join_promised.back in
    let rest = c.loop-hand.hand-iterator.rest in
    let none : rest.items ≡ [] = none_left rest.items (omega (arith, rest.ok.0, c.in-None.ensures.steps.0)) in
    let made : map (λ w. w.promise.before.value) workers.items ≡ c.captures.hands.items = was.promised ∙ ends c.loop-hand.yielded _ _ was.all none ∙ c.into_iter-hand-iterator.ensures.into_iter_gives.0 in
    record {
      count = IfOk-weaker c.all_ok.result _ _ (λ back same. omega (arith, back.ok.0, same_length _ back.items joined.items same, joined.ok.0, c.in-Ok-join_promised.ensures.len, workers.ok.0, same_length _ workers.items c.captures.hands.items made, c.captures.hands.ok.0)) c.all_ok.ensures;
      worked = IfOk-weaker c.all_ok.result _ _ (λ back same k before after bat aat.
          worked_named_back g.J.Naming.scripts g.J.Naming.cuts (sync_of c.captures.cuts.now) g.J.Naming.watches c.captures.watches.now c.captures.notices.now before.seats.items after.seats.items c.requires.named
          (promises_met _ (λ p. p.before.value) (λ before after. HasWorked g.J.Naming.watches g.J.Naming.scripts g.J.Naming.cuts before.seats.items after.seats.items) (vec_len workers) workers.items joined.items c.captures.hands.items back.items k before after
          (λ p r kept. kept) workers.ok.0 c.in-Ok-join_promised.ensures.each made same bat aat)) c.all_ok.ensures;
    }
