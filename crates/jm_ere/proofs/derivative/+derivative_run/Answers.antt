use Rattle.std.proofs.Common.{◌≡◌, Bool, true, false, if◌then◌else◌, sym, ◌∙◌, arith}
use Rattle.std.specs.Prelude.{Result}
use Rattle.jm_model.specs.declared.fault.SpecError.{SpecError}
use Rattle.jm_table.specs.Graphs.{Answers}
use Rattle.jm_ere.specs.declared.tree.Tree.{Tree}
use Rattle.jm_ere.specs.Trees.{expression_of}
use Rattle.jm_ere.specs.NormalForms.{Formed}
use Rattle.jm_ere.proofs.AnswerLemmas.{made}
use Rattle.jm_ere.proofs.derivative.+derivative_run.Goals as goal

-- the answer by the test
if_true : (b : Bool) (F G : Formed) (answer : Result Tree SpecError) → b ≡ true → Answers expression_of F answer → Answers expression_of (if b then F else G) answer
if_true true F G answer same answers = answers
if_true false F G answer same answers = absurd cc

if_false : (b : Bool) (F G : Formed) (answer : Result Tree SpecError) → b ≡ false → Answers expression_of G answer → Answers expression_of (if b then F else G) answer
if_false false F G answer same answers = answers
if_false true F G answer same answers = absurd cc

pub returns-in-Not : goal.returns-in-Not
returns-in-Not t c =
    let inner = rw c.deref.ensures at c.derivative_run.ensures in
    rw c.in-Not.is (c.complement_of.ensures _ (c.fitting.ensures _ inner))

pub returns-in-Star : goal.returns-in-Star
returns-in-Star t c =
    let first = rw c.deref-in-Star.ensures at c.derivative_run-in-Star.ensures in
    let rest = made _ _ (rw c.in-Star.is at c.copy.ensures.ok) c.copy.ensures.err in
    rw c.in-Star.is (c.product_of.ensures _ _ (c.fitting-first.ensures _ first) rest)

pub returns-in-Plus : goal.returns-in-Plus
returns-in-Plus t c =
    let first = rw c.deref-in-Plus.ensures at c.derivative_run-in-Plus.ensures in
    let copied = made _ _ (rw c.deref-in-Plus-2.ensures at c.copy-in-Plus.ensures.ok) c.copy-in-Plus.ensures.err in
    rw c.in-Plus.is (c.product_of-in-Plus.ensures _ _ (c.fitting-first-in-Plus.ensures _ first) (c.star_of.ensures _ copied))

pub returns-then-not-is_nullable : goal.returns-then-not-is_nullable
returns-then-not-is_nullable t c =
    let first = rw c.deref-in-Then.ensures at c.derivative_run-in-Then.ensures in
    let copied = made _ _ (rw c.deref-in-Then-2.ensures at c.copy-in-Then.ensures.ok) c.copy-in-Then.ensures.err in
    let is = rw c.deref-in-Then-3.ensures at c.is_nullable.ensures in
    rw c.in-Then.is (if_false _ _ _ _ (sym is ∙ grind arith) (c.product_of-front.ensures _ _ (c.fitting-first-in-Then.ensures _ first) copied))

pub returns-else-not-is_nullable : goal.returns-else-not-is_nullable
returns-else-not-is_nullable t c =
    let first = rw c.deref-in-Then.ensures at c.derivative_run-in-Then.ensures in
    let copied = made _ _ (rw c.deref-in-Then-2.ensures at c.copy-in-Then.ensures.ok) c.copy-in-Then.ensures.err in
    let second = rw c.deref-in-Then-4.ensures at c.derivative_run-in-Then-2.ensures in
    let is = rw c.deref-in-Then-3.ensures at c.is_nullable.ensures in
    let front = c.product_of-front.ensures _ _ (c.fitting-first-in-Then.ensures _ first) copied in
    rw c.in-Then.is (if_true _ _ _ _ (sym is ∙ grind arith) (c.combined_parts.ensures _ _ (c.fitting-in-Then.ensures _ front) (c.fitting-second.ensures _ second)))

pub returns-in-Combined : goal.returns-in-Combined
returns-in-Combined t c =
    let first = rw c.deref-in-Combined.ensures at c.derivative_run-in-Combined.ensures in
    let rest = rw c.deref-in-Combined-3.ensures at c.derivative_run-in-Combined-2.ensures in
    let first = c.fitting-first-in-Combined.ensures _ first in
    let rest = rw c.deref-in-Combined-2.ensures at (c.run_part-rest.ensures _ rest) in
    rw c.in-Combined.is (c.combined_parts-in-Combined.ensures _ _ first rest)
