use Rattle.std.proofs.Common.{◌≡◌, ◌+◌, Some, None, length, option_map, refl, ap, ◌∙◌, arith}
use Rattle.std.proofs.lemmas.Result.{err_from_is_err_and}
use Rattle.std.proofs.lemmas.List.{length_push}
use Rattle.std.proofs.lemmas.List.Elements.{All-nil, All-push}
use Rattle.jm_lines.specs.Lines.{first_line, lines_left, bytes_left}
use Rattle.jm_script.specs.Fitting.{FitsTarget}
use Rattle.jm_script.specs.Blocks.{target_of}
use Rattle.jm_script.proofs.ObjectLemmas.{texts, IsExtension-none}
use Rattle.jm_script.proofs.ReadingLemmas.{read_nothing, more_names, no_step, one_step, abandoned, ended, read_rises}
use Rattle.jm_script.proofs.FittingLemmas.{FitsCatalog-more}
use Rattle.jm_script.proofs.reader.read_compact.Goals as goal

pub loop-rest-init : goal.loop-rest-init
loop-rest-init c =
    record {
      counted = refl;
      few = omega arith;
      known = c.new-known.ensures c.args.catalog.now;
      fitting = rw c.in_ok-script.ensures (All-nil (λ l. FitsTarget c.args.catalog.now (length c.args.objects.now) l.target));
      read = rw c.in_ok-script.ensures (read_nothing c.args.catalog.now c.args.bytes.now c.args.count.now c.args.objects.now c.requires.bounded.1 c.requires.bounded.0 (IsExtension-none c.args.objects.now));
    }

pub returns-in-Err-clause-err : goal.returns-in-Err-clause-err
returns-in-Err-clause-err c =
    let here = ap lines_left c.in-Some.is ∙ c.behind_line-rest.ensures.lines in
    let words = ap texts c.deref.ensures.value ∙ c.in_ok-end.ensures.words in
    let steps : c.loop-rest.count + c.len.result ≡ c.args.count.now + length c.loop-rest.script = omega arith in
    rw (c.count_left.ensures, steps, c.loop-rest.invariant.counted) (ended c.args.catalog.now _ c.args.count.now c.args.objects.now c.loop-rest.script c.loop-rest.objects c.loop-rest.line _ c.loop-rest.invariant.read (first_line c.in-Some.text.now) (lines_left c.behind_line-rest.result) here c.in-Err.error c.read_line.new.names (rw steps at (c.in-Err.ensures.read (first_line c.in-Some.text.now) words)))

pub loop-rest-preserved-in_default-action : goal.loop-rest-preserved-in_default-action
loop-rest-preserved-in_default-action c =
    let here = ap lines_left c.in-Some.is ∙ c.behind_line-rest.ensures.lines in
    let words = ap texts c.deref.ensures.value ∙ c.in_ok-end.ensures.words in
    let steps : c.loop-rest.count + c.len.result ≡ c.args.count.now + length c.loop-rest.script = omega arith in
    let meaning = rw (steps, c.in_default-action.is) at (c.in-Ok.ensures.read (first_line c.in-Some.text.now) words) in
    record {
      counted = c.loop-rest.invariant.counted;
      few = omega (arith, ap bytes_left c.in-Some.is, c.loop-rest.invariant.few, c.behind_line-rest.ensures.shorter);
      known = c.read_line.ensures.known;
      fitting = FitsCatalog-more c.args.catalog.now (length c.loop-rest.objects) (length c.read_line.new.names) (more_names c.args.catalog.now _ c.args.count.now c.args.objects.now c.loop-rest.script c.loop-rest.objects c.loop-rest.line _ c.loop-rest.invariant.read (first_line c.in-Some.text.now) (lines_left c.behind_line-rest.result) here None c.read_line.new.names meaning) c.loop-rest.script c.loop-rest.invariant.fitting;
      read = no_step c.args.catalog.now _ c.args.count.now c.args.objects.now c.loop-rest.script c.loop-rest.objects c.loop-rest.line _ c.loop-rest.invariant.read (first_line c.in-Some.text.now) (lines_left c.behind_line-rest.result) here c.read_line.new.names meaning;
    }

pub loop-rest-preserved : goal.loop-rest-preserved
loop-rest-preserved c =
    let here = ap lines_left c.in-Some.is ∙ c.behind_line-rest.ensures.lines in
    let words = ap texts c.deref.ensures.value ∙ c.in_ok-end.ensures.words in
    let steps : c.loop-rest.count + c.len.result ≡ c.args.count.now + length c.loop-rest.script = omega arith in
    let meaning = rw (steps, c.in-Some-action.is) at (c.in-Ok.ensures.read (first_line c.in-Some.text.now) words) in
    let fits = rw c.in-Some-action.is at c.in-Ok.ensures.fits in
    let kept = FitsCatalog-more c.args.catalog.now (length c.loop-rest.objects) (length c.read_line.new.names) (more_names c.args.catalog.now _ c.args.count.now c.args.objects.now c.loop-rest.script c.loop-rest.objects c.loop-rest.line _ c.loop-rest.invariant.read (first_line c.in-Some.text.now) (lines_left c.behind_line-rest.result) here (Some (target_of c.read_line.new.scratch.numbers c.in-Some-action.action)) c.read_line.new.names meaning) c.loop-rest.script c.loop-rest.invariant.fitting in
    record {
      counted = c.loop-rest.invariant.counted;
      few = omega (arith, ap bytes_left c.in-Some.is, c.loop-rest.invariant.few, c.behind_line-rest.ensures.shorter);
      known = c.read_line.ensures.known;
      fitting = rw c.in_ok-push.ensures.ok (All-push (λ l. FitsTarget c.args.catalog.now (length c.read_line.new.names) l.target) c.loop-rest.script (record { line = c.loop-rest.line + 1; target = (target_of c.read_line.new.scratch.numbers c.in-Some-action.action) }) kept fits);
      read = rw c.in_ok-push.ensures.ok (one_step c.args.catalog.now _ c.args.count.now c.args.objects.now c.loop-rest.script c.loop-rest.objects c.loop-rest.line _ c.loop-rest.invariant.read (first_line c.in-Some.text.now) (lines_left c.behind_line-rest.result) here (target_of c.read_line.new.scratch.numbers c.in-Some-action.action) c.read_line.new.names meaning);
    }

pub returns-in_err-push-clause-err : goal.returns-in_err-push-clause-err
returns-in_err-push-clause-err c =
    let here = ap lines_left c.in-Some.is ∙ c.behind_line-rest.ensures.lines in
    let words = ap texts c.deref.ensures.value ∙ c.in_ok-end.ensures.words in
    let steps : c.loop-rest.count + c.len.result ≡ c.args.count.now + length c.loop-rest.script = omega arith in
    let p = err_from_is_err_and c.from_residual-in_err-push.result c.from_residual-in_err-push.ensures.1 in
    rw (p.1, p.2) (record {
      extended = abandoned c.args.catalog.now _ c.args.count.now c.args.objects.now c.loop-rest.script c.loop-rest.objects c.loop-rest.line _ c.loop-rest.invariant.read (first_line c.in-Some.text.now) (lines_left c.behind_line-rest.result) here (option_map (target_of c.read_line.new.scratch.numbers) c.in-Ok.action) c.read_line.new.names (rw steps at (c.in-Ok.ensures.read (first_line c.in-Some.text.now) words));
      counted = c.loop-rest.invariant.counted;
    })

pub push-requires-clause-bounded : goal.push-requires-clause-bounded
push-requires-clause-bounded c =
    let here = ap lines_left c.in-Some.is ∙ c.behind_line-rest.ensures.lines in
    let words = ap texts c.deref.ensures.value ∙ c.in_ok-end.ensures.words in
    let steps : c.loop-rest.count + c.len.result ≡ c.args.count.now + length c.loop-rest.script = omega arith in
    let meaning = rw (steps, c.in-Some-action.is) at (c.in-Ok.ensures.read (first_line c.in-Some.text.now) words) in
    let target = target_of c.read_line.new.scratch.numbers c.in-Some-action.action in
    let after = one_step c.args.catalog.now _ c.args.count.now c.args.objects.now c.loop-rest.script c.loop-rest.objects c.loop-rest.line _ c.loop-rest.invariant.read (first_line c.in-Some.text.now) (lines_left c.behind_line-rest.result) here target c.read_line.new.names meaning in
    omega (arith, after.few_steps, length_push c.loop-rest.script (record { line = c.loop-rest.line + 1; target = target }))

pub push-requires-clause-rises : goal.push-requires-clause-rises
push-requires-clause-rises c =
    let here = ap lines_left c.in-Some.is ∙ c.behind_line-rest.ensures.lines in
    let words = ap texts c.deref.ensures.value ∙ c.in_ok-end.ensures.words in
    let steps : c.loop-rest.count + c.len.result ≡ c.args.count.now + length c.loop-rest.script = omega arith in
    let meaning = rw (steps, c.in-Some-action.is) at (c.in-Ok.ensures.read (first_line c.in-Some.text.now) words) in
    read_rises _ c.args.bytes.now _ _ _ _ _ _ (one_step c.args.catalog.now _ c.args.count.now c.args.objects.now c.loop-rest.script c.loop-rest.objects c.loop-rest.line _ c.loop-rest.invariant.read (first_line c.in-Some.text.now) (lines_left c.behind_line-rest.result) here (target_of c.read_line.new.scratch.numbers c.in-Some-action.action) c.read_line.new.names meaning)
