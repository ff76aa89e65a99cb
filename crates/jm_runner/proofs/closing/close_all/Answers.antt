use Rattle.std.proofs.Common.{◌≡◌, length, Some, slice_get, refl, sym, ◌∙◌, ap, arith}
use Rattle.std.proofs.lemmas.Grind.{common_steps}
use Rattle.std.proofs.lemmas.Option.{slice_get_read}
use Rattle.std.proofs.lemmas.Iterator.Adapters.{YieldsList-from_vec}
use Rattle.std.proofs.lemmas.Iterator.Consumers.{YieldsList-turn, YieldsList-end}
use Rattle.jm_runner.specs.Hands.{IsClosed}
use Rattle.jm_runner.proofs.RunLemmas.{map_same, related_more}
use Rattle.jm_runner.proofs.closing.close_all.Goals as goal

pub close-requires : goal.close-requires
close-requires g c =
    let i = c.loop-watch.invariant in
    let watches = c.args.watches.items in
    let b = c.into_iter-watch-iterator.ensures.into_iter_gives in
    let t = YieldsList-turn (YieldsList-from_vec {s = c.into_iter-watch-iterator.result} watches b.0 (b.1 ∙ c.args.watches.ok.0)) c.loop-watch.yielded c.loop-watch.watch-iterator c.loop-watch.yielded_by c.next.result c.next.new.self c.in-Some.watch c.in-Some.is c.next.ensures.steps in
    let at : slice_get watches c.loop-watch.s ≡ Some c.in-Some.watch = ap (λ n. slice_get watches n) i.place ∙ slice_get_read watches (length watches) (length c.loop-watch.yielded) c.in-Some.watch refl t.0 t.1 in
    c.requires.seats c.loop-watch.s c.in-Some.watch c.take_row-all.result at (sym (i.others c.loop-watch.s (omega arith)) ∙ c.take_row-all.ensures.row)

pub returns-clause-closed : goal.returns-clause-closed
returns-clause-closed g c =
    let watches = c.args.watches.items in
    let b = c.into_iter-watch-iterator.ensures.into_iter_gives in
    let t = YieldsList-end (YieldsList-from_vec {s = c.into_iter-watch-iterator.result} watches b.0 (b.1 ∙ c.args.watches.ok.0)) c.loop-watch.yielded c.loop-watch.watch-iterator c.loop-watch.yielded_by c.next.result c.next.new.self c.in-None.is c.next.ensures.steps in
    let all_of : c.loop-watch.yielded ≡ watches = sym (map_same c.loop-watch.yielded) ∙ t.0 in
    λ s watch all prop wat aat pat. c.loop-watch.invariant.closed s watch all prop (ap (λ l. slice_get l s) all_of ∙ wat) aat pat

pub loop-watch-preserved : goal.loop-watch-preserved
loop-watch-preserved g c =
    let i = c.loop-watch.invariant in
    let row : slice_get c.args.seats.items c.loop-watch.s ≡ Some c.take_row-all.result = sym (i.others c.loop-watch.s (omega arith)) ∙ c.take_row-all.ensures.row in
    record {
      place = grind (arith, common_steps);
      count = grind (arith, common_steps);
      width = c.take_row-all.ensures.count ∙ i.width;
      others = λ k above. c.take_row-all.ensures.others k (omega arith) ∙ i.others k (omega arith);
      closed = related_more (λ watch all prop. IsClosed (g.M.Monitor.meaning watch.fixed.definition) watch all.items prop)
          c.loop-watch.yielded c.args.seats.items c.loop-watch.props.items c.push.new.self.items c.loop-watch.s c.in-Some.watch c.take_row-all.result c.close.result
          (sym i.place) (omega arith) c.in_ok-push.ensures.items row c.close.ensures i.closed;
    }
