use Rattle.std.proofs.Common.{◌≡◌, ◌≤◌, ◌∙◌, List, length, get_or, Some, None, slice_get, refl, sym, ap, subst, arith}
use Rattle.std.specs.Prelude.{All}
use Rattle.std.proofs.lemmas.Grind.{common_steps}
use Rattle.std.proofs.lemmas.Option.{slice_get-get_or}
use Rattle.jm_script.specs.declared.script.ScriptLine.{ScriptLine}
use Rattle.jm_sync.specs.declared.line.SyncKind.TheVariants.{Post}
use Rattle.jm_runner.specs.Work.{FitsWatches}
use Rattle.jm_runner.proofs.NoteLemmas.{of_left, done_now, known_before, passed_now, all_done}
use Rattle.jm_runner.proofs.WorkLemmas.{seats_of_done}
use Rattle.jm_runner.proofs.worker.do_script.Goals as goal

pub pass-requires-clause-seats : goal.pass-requires-clause-seats
pass-requires-clause-seats g c =
    let js = g.J.Naming.scripts in
    let jc = g.J.Naming.cuts in
    let jw = g.J.Naming.watches in
    let k = c.args.caller in
    let watches = c.args.watches.now in
    let script = c.args.hand.now.lines in
    let asked = c.args.cut.now.lines.items in
    let i = c.loop-sync.sync-index in
    let queue = c.loop-sync.hand.lines in
    let before = c.loop-sync.hand.seats.items in
    let earlier = c.loop-sync.invariant.so_far in
    let left = c.do_lines.new.hand.lines in
    let middle = c.do_lines.new.hand.seats.items in
    let does = c.in_ok-done.ensures.done in
    let listed = c.deref-sync-items.result.now in
    let line = get_or listed i (record { line = 0; kind = Post; name = 0 }) in
    let there : slice_get asked i ≡ Some line = ap (λ v. slice_get v i) (sym c.deref-sync-items.ensures.value) ∙ slice_get-get_or listed i (record { line = 0; kind = Post; name = 0 }) c.loop-sync-test.true in
    seats_of_done k _ watches middle (done_now js jc jw watches k script asked c.requires.part queue left i before middle earlier (Some line.line) does)

pub pass-requires-clause-know : goal.pass-requires-clause-know
pass-requires-clause-know g c =
    let js = g.J.Naming.scripts in
    let jc = g.J.Naming.cuts in
    let jw = g.J.Naming.watches in
    let k = c.args.caller in
    let watches = c.args.watches.now in
    let script = c.args.hand.now.lines in
    let asked = c.args.cut.now.lines.items in
    let i = c.loop-sync.sync-index in
    let queue = c.loop-sync.hand.lines in
    let before = c.loop-sync.hand.seats.items in
    let earlier = c.loop-sync.invariant.so_far in
    let left = c.do_lines.new.hand.lines in
    let middle = c.do_lines.new.hand.seats.items in
    let does = c.in_ok-done.ensures.done in
    let listed = c.deref-sync-items.result.now in
    let line = get_or listed i (record { line = 0; kind = Post; name = 0 }) in
    let there : slice_get asked i ≡ Some line = ap (λ v. slice_get v i) (sym c.deref-sync-items.ensures.value) ∙ slice_get-get_or listed i (record { line = 0; kind = Post; name = 0 }) c.loop-sync-test.true in
    known_before js jc jw watches k script asked c.requires.part queue left i before middle earlier (Some line.line) does line there refl c.in_ok-done.ensures.left

pub loop-sync-preserved : goal.loop-sync-preserved
loop-sync-preserved g c =
    let js = g.J.Naming.scripts in
    let jc = g.J.Naming.cuts in
    let jw = g.J.Naming.watches in
    let k = c.args.caller in
    let watches = c.args.watches.now in
    let script = c.args.hand.now.lines in
    let asked = c.args.cut.now.lines.items in
    let i = c.loop-sync.sync-index in
    let queue = c.loop-sync.hand.lines in
    let before = c.loop-sync.hand.seats.items in
    let earlier = c.loop-sync.invariant.so_far in
    let left = c.do_lines.new.hand.lines in
    let middle = c.do_lines.new.hand.seats.items in
    let does = c.in_ok-done.ensures.done in
    let listed = c.deref-sync-items.result.now in
    let line = get_or listed i (record { line = 0; kind = Post; name = 0 }) in
    let there : slice_get asked i ≡ Some line = ap (λ v. slice_get v i) (sym c.deref-sync-items.ensures.value) ∙ slice_get-get_or listed i (record { line = 0; kind = Post; name = 0 }) c.loop-sync-test.true in
    record {
      counted = grind (arith, common_steps);
      so_far = passed_now js jc jw watches k script asked c.requires.part queue left i before middle earlier (Some line.line) does line there refl c.pass.new.seats.items c.in_ok-pass.ensures;
      fits = of_left (λ line. FitsWatches g.M.Monitor.meaning watches line) does.lines left (subst (λ (l : List ScriptLine). All (λ line. FitsWatches g.M.Monitor.meaning watches line) l) does.taken c.loop-sync.invariant.fits);
    }

pub returns-clause-done : goal.returns-clause-done
returns-clause-done g c =
    let js = g.J.Naming.scripts in
    let jc = g.J.Naming.cuts in
    let jw = g.J.Naming.watches in
    let k = c.args.caller in
    let watches = c.args.watches.now in
    let script = c.args.hand.now.lines in
    let asked = c.args.cut.now.lines.items in
    let i = c.loop-sync.sync-index in
    let queue = c.loop-sync.hand.lines in
    let before = c.loop-sync.hand.seats.items in
    let earlier = c.loop-sync.invariant.so_far in
    let left = c.do_lines-2.new.hand.lines in
    let middle = c.do_lines-2.new.hand.seats.items in
    let does = c.in_ok-do_lines.ensures.done in
    let most : length asked ≤ i = omega arith in
    (all_done js jc jw watches k script asked c.requires.part queue left i before middle earlier None does refl c.in_ok-do_lines.ensures.left most).0

pub returns-clause-know : goal.returns-clause-know
returns-clause-know g c =
    let js = g.J.Naming.scripts in
    let jc = g.J.Naming.cuts in
    let jw = g.J.Naming.watches in
    let k = c.args.caller in
    let watches = c.args.watches.now in
    let script = c.args.hand.now.lines in
    let asked = c.args.cut.now.lines.items in
    let i = c.loop-sync.sync-index in
    let queue = c.loop-sync.hand.lines in
    let before = c.loop-sync.hand.seats.items in
    let earlier = c.loop-sync.invariant.so_far in
    let left = c.do_lines-2.new.hand.lines in
    let middle = c.do_lines-2.new.hand.seats.items in
    let does = c.in_ok-do_lines.ensures.done in
    let most : length asked ≤ i = omega arith in
    (all_done js jc jw watches k script asked c.requires.part queue left i before middle earlier None does refl c.in_ok-do_lines.ensures.left most).1
