use Rattle.std.proofs.Common.{refl}
use Rattle.std.proofs.lemmas.Result.{err_from_is_err_and}
use Rattle.jm_ere.proofs.AnswerLemmas.{made, failed}
use Rattle.jm_ere.proofs.derivative.+normal_run.Goals as goal

pub returns-in-Not : goal.returns-in-Not
returns-in-Not t c =
    let inner = rw c.deref.ensures at c.normal_run.ensures in
    rw c.in-Not.is (c.complement_of.ensures _ (c.fitting.ensures _ inner))

pub returns-in-Star : goal.returns-in-Star
returns-in-Star t c =
    let inner = rw c.deref-in-Star.ensures at c.normal_run-in-Star.ensures in
    rw c.in-Star.is (c.star_of.ensures _ (c.fitting-in-Star.ensures _ inner))

pub returns-in_err-inner-in-Plus : goal.returns-in_err-inner-in-Plus
returns-in_err-inner-in-Plus t c =
    let p = err_from_is_err_and c.from_residual.result c.from_residual.ensures.1 in
    let inner = rw c.deref-in-Plus.ensures at c.normal_run-in-Plus.ensures in
    rw (c.in-Plus.is, p.1, p.2) (failed _ _ _ (c.in_err-inner-in-Plus.ensures _ inner))

pub returns-in_ok-inner-in-Plus : goal.returns-in_ok-inner-in-Plus
returns-in_ok-inner-in-Plus t c =
    let inner = c.in_ok-inner-in-Plus.ensures _ (rw c.deref-in-Plus.ensures at c.normal_run-in-Plus.ensures) in
    let rest = c.fitting-rest.ensures _ (c.star_of-in-Plus.ensures _ (made _ _ c.copy.ensures.ok c.copy.ensures.err)) in
    rw (c.in-Plus.is, inner) (c.product_of.ensures _ _ refl rest)

pub returns-in-Then : goal.returns-in-Then
returns-in-Then t c =
    let first = rw c.deref-in-Then-2.ensures at c.normal_run-in-Then.ensures in
    let rest = rw c.deref-in-Then-4.ensures at c.normal_run-in-Then-2.ensures in
    let first = rw c.deref-in-Then.ensures at (c.product_part-first.ensures _ first) in
    let rest = rw c.deref-in-Then-3.ensures at (c.product_part-rest.ensures _ rest) in
    rw c.in-Then.is (c.product_of-in-Then.ensures _ _ first rest)

pub returns-in-Combined : goal.returns-in-Combined
returns-in-Combined t c =
    let first = rw c.deref-in-Combined-2.ensures at c.normal_run-in-Combined.ensures in
    let rest = rw c.deref-in-Combined-4.ensures at c.normal_run-in-Combined-2.ensures in
    let first = rw c.deref-in-Combined.ensures at (c.run_part-first.ensures _ first) in
    let rest = rw c.deref-in-Combined-3.ensures at (c.run_part-rest.ensures _ rest) in
    rw c.in-Combined.is (c.combined_parts.ensures _ _ first rest)
