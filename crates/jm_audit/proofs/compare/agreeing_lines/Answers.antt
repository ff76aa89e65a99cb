use Rattle.std.proofs.Common.{◌≡◌, ◌+◌, ◌==◌, true, false, drop, get_or, sym, ap, ◌∙◌, subst, arith, add-one, zero-add, eq-eqb}
use Rattle.std.specs.Prelude.{if◌then◌else◌}
use Rattle.std.proofs.lemmas.Bool.{ne_eqb, false≢true}
use Rattle.jm_audit.specs.Fronts.{agreeing}
use Rattle.jm_audit.proofs.LineLemmas.{agree-step, agree-stop, agree-end}
use Rattle.jm_audit.proofs.compare.agreeing_lines.Goals as goal
use Rattle.jm_audit.proofs.compare.agreeing_lines.Goals.{then-a-eq10, else-a-eq10}

pub loop-i-init : goal.loop-i-init
loop-i-init c = record { count = zero-add (agreeing c.args.one.now c.args.other.now); few = omega arith; reach = omega arith }

pub returns-then-not-is_at : goal.returns-then-not-is_at
returns-then-not-is_at c =
    let stop = agree-stop c.args.one.now c.args.other.now c.loop-i.i c.loop-i-test.true (λ h. false≢true (sym c.if-not-is_at.true ∙ c.is_at.ensures.1 h)) in
    record {
      value = sym (sym c.loop-i.invariant.count ∙ ap (λ n. c.loop-i.lines + n) stop ∙ omega arith);
      bounded = omega (arith, c.loop-i.invariant.few, c.loop-i-test.true);
    }

pub loop-i-preserved : goal.loop-i-preserved
loop-i-preserved c =
    let x = get_or c.args.one.now c.loop-i.i 0 in
    let a = agreeing (drop (c.loop-i.i + 1) c.args.one.now) (drop (c.loop-i.i + 1) c.args.other.now) in
    let step = agree-step c.args.one.now c.args.other.now c.loop-i.i c.loop-i-test.true (c.is_at.ensures.0 c.if-not-is_at.false) in
    let next = subst (λ k. agreeing (drop c.loop-i.i c.args.one.now) (drop c.loop-i.i c.args.other.now) ≡ (if x == 10 then 1 else 0) + agreeing (drop k c.args.one.now) (drop k c.args.other.now)) (sym (add-one c.loop-i.i)) step in
    elim c.if-a-eq10.branch [
      | then-a-eq10 w ↦
          let test : (x == 10) ≡ true = eq-eqb x 10 w.if-a-eq10.true in
          let more : agreeing (drop c.loop-i.i c.args.one.now) (drop c.loop-i.i c.args.other.now) ≡ 1 + a = next ∙ ap (λ v. (if v then 1 else 0) + a) test in
          record { count = omega (arith, w.lines-is, more, c.loop-i.invariant.count); few = omega (arith, w.lines-is, c.loop-i.invariant.few); reach = omega (arith, c.loop-i-test.true) }
      | else-a-eq10 w ↦
          let test : (x == 10) ≡ false = ne_eqb x 10 w.if-a-eq10.false in
          let more : agreeing (drop c.loop-i.i c.args.one.now) (drop c.loop-i.i c.args.other.now) ≡ 0 + a = next ∙ ap (λ v. (if v then 1 else 0) + a) test in
          record { count = omega (arith, w.lines-is, more, c.loop-i.invariant.count); few = omega (arith, w.lines-is, c.loop-i.invariant.few); reach = omega (arith, c.loop-i-test.true) }
    ]

pub returns : goal.returns
returns c =
    let end = agree-end c.args.one.now (drop c.loop-i.i c.args.other.now) c.loop-i.i c.loop-i-test.false in
    record {
      value = sym (sym c.loop-i.invariant.count ∙ ap (λ n. c.loop-i.lines + n) end ∙ omega arith);
      bounded = omega (arith, c.loop-i.invariant.few, c.loop-i.invariant.reach);
    }
