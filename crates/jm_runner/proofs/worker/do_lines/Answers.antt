use Rattle.std.proofs.Common.{List, subst}
use Rattle.jm_script.specs.declared.script.ScriptLine.{ScriptLine}
use Rattle.jm_runner.specs.Work.{DoLines, FitsWatches}
use Rattle.jm_runner.proofs.WorkLemmas.{of_taken, seats_before, lines_more}
use Rattle.jm_runner.proofs.worker.do_lines.Goals as goal

pub do_line-requires-clause-seats : goal.do_line-requires-clause-seats
do_line-requires-clause-seats g c =
    let line = c.in-Some.line in
    let left = c.pop_above.new.self in
    let does = subst (λ (l : List ScriptLine). DoLines c.args.watches.now c.args.above c.args.hand.now.lines l c.args.hand.now.seats.items c.loop-line.hand.seats.items) c.in-Some.ensures.line c.loop-line.invariant in
    seats_before c.args.watches.now c.args.above c.args.hand.now.lines left line c.args.hand.now.seats.items c.loop-line.hand.seats.items does c.args.caller c.requires.seats

pub do_line-requires-clause-fits : goal.do_line-requires-clause-fits
do_line-requires-clause-fits g c =
    let line = c.in-Some.line in
    let left = c.pop_above.new.self in
    let does = subst (λ (l : List ScriptLine). DoLines c.args.watches.now c.args.above c.args.hand.now.lines l c.args.hand.now.seats.items c.loop-line.hand.seats.items) c.in-Some.ensures.line c.loop-line.invariant in
    of_taken c.args.watches.now c.args.above c.args.hand.now.lines left line c.args.hand.now.seats.items c.loop-line.hand.seats.items does (λ line. FitsWatches g.M.Monitor.meaning c.args.watches.now line) c.requires.fits

pub loop-line-preserved : goal.loop-line-preserved
loop-line-preserved g c =
    let line = c.in-Some.line in
    let left = c.pop_above.new.self in
    let does = subst (λ (l : List ScriptLine). DoLines c.args.watches.now c.args.above c.args.hand.now.lines l c.args.hand.now.seats.items c.loop-line.hand.seats.items) c.in-Some.ensures.line c.loop-line.invariant in
    lines_more c.args.watches.now c.args.above c.args.hand.now.lines left line c.args.hand.now.seats.items c.loop-line.hand.seats.items does c.args.caller c.requires.seats c.do_line.new.seats.items c.in-Some.ensures.place c.in_ok-do_line.ensures
