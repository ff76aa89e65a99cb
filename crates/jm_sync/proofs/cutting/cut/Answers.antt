use Rattle.std.proofs.Common.{sym, ap, ◌∙◌, arith}
use Rattle.jm_lines.specs.Lines.{lines_left, bytes_left}
use Rattle.jm_sync.proofs.CutLemmas.{cut_nothing, few_names, next_line, last_line, all_cut, line_here, none_left, some_left, length-rest_of, script_rises}
use Rattle.jm_sync.proofs.cutting.cut.Goals as goal

pub loop-left-init : goal.loop-left-init
loop-left-init c = record {
  few = omega arith;
  cut = rw (c.in_ok-with_capacity.ensures.items, c.new.ensures.items) (cut_nothing c.args.names.now c.args.bytes.now);
}

pub cut_line-requires-clause-bounded : goal.cut_line-requires-clause-bounded
cut_line-requires-clause-bounded c =
    let here = line_here _ _ _ _ c.in-Some.is c.in_ok-end.ensures.line c.behind_line-left.ensures.lines in
    few_names _ _ _ _ _ _ _ c.loop-left.invariant.cut _ _ here 4294967296 c.requires.bounded

pub loop-left-preserved-in_ok-push : goal.loop-left-preserved-in_ok-push
loop-left-preserved-in_ok-push c =
    let here = line_here _ _ _ _ c.in-Some.is c.in_ok-end.ensures.line c.behind_line-left.ensures.lines in
    let some = some_left c.behind_line-left.result (sym c.is_some.ensures ∙ c.if-is_some.true) in
    record {
      few = omega (arith, ap bytes_left c.in-Some.is, c.loop-left.invariant.few, c.behind_line-left.ensures.shorter);
      cut = rw c.in_ok-push.ensures.items (next_line _ _ _ _ _ _ _ c.loop-left.invariant.cut _ _ here _ c.in_ok-cut_line.ensures.rest _ c.in_ok-cut_line.ensures.lines _ c.in_ok-cut_line.ensures.ok some.0 some.1);
    }

pub loop-left-preserved : goal.loop-left-preserved
loop-left-preserved c =
    let here = line_here _ _ _ _ c.in-Some.is c.in_ok-end.ensures.line c.behind_line-left.ensures.lines in
    record {
      few = omega (arith, ap bytes_left c.in-Some.is, c.loop-left.invariant.few, c.behind_line-left.ensures.shorter);
      cut = last_line _ _ _ _ _ _ _ c.loop-left.invariant.cut _ _ here _ c.in_ok-cut_line.ensures.rest _ c.in_ok-cut_line.ensures.lines _ c.in_ok-cut_line.ensures.ok (none_left c.behind_line-left.result (sym c.is_some.ensures ∙ c.if-is_some.false));
    }

pub returns-clause-rising : goal.returns-clause-rising
returns-clause-rising c =
    let whole = all_cut _ _ _ _ _ _ _ c.loop-left.invariant.cut (ap lines_left c.in_default.is) in
    rw whole.1 (script_rises c.args.names.now c.args.bytes.now)

pub returns-clause-shorter : goal.returns-clause-shorter
returns-clause-shorter c =
    let whole = all_cut _ _ _ _ _ _ _ c.loop-left.invariant.cut (ap lines_left c.in_default.is) in
    rw whole.0 (length-rest_of c.args.bytes.now)
