use Rattle.std.proofs.Common.{ℕ, suc, ◌≡◌, ◌<◌, ◌-◌, List, [], ◌∷◌, ◌++◌, Ok, Err, length, drop, sym, ap, subst, ◌∙◌, arith, rules, append-nil}
use Rattle.std.proofs.lemmas.Result.{err_from_is_err_and}
use Rattle.jm_text.specs.declared.token.Token.{Token}
use Rattle.jm_reading.specs.Answers.{FailsAt}
use Rattle.jm_ptltl.specs.Answers.{AddsNodes, AddsBy}
use Rattle.jm_ptltl.specs.declared.formula.Unary.{Unary}
use Rattle.jm_ptltl.specs.declared.formula.Node.{Node}
use Rattle.jm_ptltl.specs.Rules.{class_at, begins, operand_at, atom_at, join_at, part_at, inside_at, formula_from}
use Rattle.jm_ptltl.proofs.NodeLemmas.{behind_all, closing, apply_more, close_more}
use Rattle.jm_ptltl.proofs.ReaderLemmas.{is_prefix, over_all, other_than_prefix, prefix_more, over_all-push, drop_within, after_skip, operand_adds, operand_fails, inside_adds, joins_begin, joins_more, joins_end, joins_fail, chain_begin, chain_more, chain_end, chain_fail, adds_more, nodes_at, fail_at, by_at, not_four, named_at, truth_at, open_at, none_at, end_at, fails_at_syntax}
use Rattle.jm_ptltl.proofs.parse.+formula.Goals as goal

-- nothing is left to be added
finished : (nodes whole : List (Node Token)) (starts : List ℕ) → starts ≡ [] → nodes ++ closing starts (length nodes) ≡ whole → nodes ≡ whole
finished nodes whole starts none is = sym (append-nil nodes) ∙ ap (λ (l : List ℕ). nodes ++ closing l (length nodes)) (sym none) ∙ is

applied : (nodes whole : List (Node Token)) (ops : List Unary) → ops ≡ [] → nodes ++ behind_all ops ≡ whole → nodes ≡ whole
applied nodes whole ops none is = sym (append-nil nodes) ∙ ap (λ (l : List Unary). nodes ++ behind_all l) (sym none) ∙ is

-- ---- `=>`

pub implications-loop-cursor-init : goal.implications-loop-cursor-init
implications-loop-cursor-init t c = record {
  same_bytes = c.part.ensures.bytes;
  fewer = c.in_ok-part.ensures.left;
  chain = λ n few. chain_begin c.args.cursor.now.bytes.now n c.args.cursor.now.rest.now c.args.nodes.now c.part.new.cursor.rest.now c.part.new.nodes c.new-starts.result.items c.new-starts.ensures.items (c.in_ok-part.ensures.reads n few);
}

pub implications-loop-cursor-preserved : goal.implications-loop-cursor-preserved
implications-loop-cursor-preserved t c =
    let bytes = c.args.cursor.now.bytes.now in
    let rest = c.loop-cursor.cursor.rest.now in
    let left = c.part-in-loop-cursor.new.cursor.rest.now in
    let inv = c.loop-cursor.invariant in
    let same : c.skip.new.cursor.bytes.now ≡ bytes = c.skip.ensures.bytes ∙ inv.same_bytes in
    let less : length left < length rest = omega (arith, c.in_ok-part-2.ensures.left, ap (λ (l : List Token). length l) c.skip.ensures.rest, drop_within rest) in
    record {
      same_bytes = c.part-in-loop-cursor.ensures.bytes ∙ same;
      fewer = omega (arith, inv.fewer, less);
      chain = λ n few.
          chain_more bytes n c.args.cursor.now.rest.now c.args.nodes.now rest left c.loop-cursor.nodes c.part-in-loop-cursor.new.nodes c.loop-cursor.starts.items c.push.new.self.items (inv.chain n few)
          (ap (λ b. begins b 5 rest) (sym inv.same_bytes) ∙ sym c.loop-cursor-test.ensures)
          (after_skip bytes c.skip.new.cursor.bytes.now 4 same {X = Unit {0}} (Ok tt) c.loop-cursor.nodes c.part-in-loop-cursor.new.nodes rest c.skip.new.cursor.rest.now left c.skip.ensures.rest c.in_ok-part-2.ensures.reads n (omega (arith, few, inv.fewer)))
          less (c.in_ok-push.ensures.items ∙ ap (λ (l : List (Node Token)). c.loop-cursor.starts.items ++ length l ∷ []) c.as_slice.ensures);
    }

pub implications-returns-in_err-part-2-clause-reads : goal.implications-returns-in_err-part-2-clause-reads
implications-returns-in_err-part-2-clause-reads t c = λ n few.
    let bytes = c.args.cursor.now.bytes.now in
    let rest = c.loop-cursor.cursor.rest.now in
    let inv = c.loop-cursor.invariant in
    let same : c.skip.new.cursor.bytes.now ≡ bytes = c.skip.ensures.bytes ∙ inv.same_bytes in
    let p = err_from_is_err_and c.from_residual-in_err-part-2.result c.from_residual-in_err-part-2.ensures.1 in
    rw (p.1, p.2)
    (chain_fail bytes n c.args.cursor.now.rest.now c.args.nodes.now rest c.loop-cursor.nodes c.loop-cursor.starts.items _ (inv.chain n few)
    (ap (λ b. begins b 5 rest) (sym inv.same_bytes) ∙ sym c.loop-cursor-test.ensures)
    (after_skip bytes c.skip.new.cursor.bytes.now 4 same {X = Unit {0}} (Err c.in_err-part-2.field-0.0) c.loop-cursor.nodes c.part-in-loop-cursor.new.nodes rest c.skip.new.cursor.rest.now c.part-in-loop-cursor.new.cursor.rest.now c.skip.ensures.rest c.in_err-part-2.ensures.reads n (omega (arith, few, inv.fewer))))

pub implications-loop-start-preserved : goal.implications-loop-start-preserved
implications-loop-start-preserved t c =
    let nodes = c.loop-start.nodes in
    let left = c.pop.new.self.items in
    ap (λ (l : List (Node Token)). l ++ closing left (length l)) c.in_ok-push-2.ensures.ok
    ∙ close_more nodes left c.in-Some.start c.saturating_sub-right.result (omega (arith, c.saturating_sub-right.ensures, ap (λ (l : List (Node Token)). length l) c.as_slice-in-Some.ensures))
    ∙ ap (λ (l : List ℕ). nodes ++ closing l (length nodes)) (sym c.in-Some.ensures.items) ∙ c.loop-start.invariant

pub implications-returns-clause-reads : goal.implications-returns-clause-reads
implications-returns-clause-reads t c = λ n few.
    let bytes = c.args.cursor.now.bytes.now in
    let rest = c.loop-cursor.cursor.rest.now in
    let nodes = c.loop-cursor.nodes in
    let inv = c.loop-cursor.invariant in
    chain_end bytes n c.args.cursor.now.rest.now c.args.nodes.now rest nodes c.loop-start.nodes c.loop-cursor.starts.items (inv.chain n few)
    (ap (λ b. begins b 5 rest) (sym inv.same_bytes) ∙ sym c.loop-cursor-test.ensures)
    (finished c.loop-start.nodes _ c.loop-start.starts.items (search rules) c.loop-start.invariant)

-- ---- operators of a rank

pub joined-loop-cursor-init : goal.joined-loop-cursor-init
joined-loop-cursor-init t c = record {
  same_bytes = c.part.ensures.bytes;
  fewer = c.in_ok-part.ensures.left;
  joins = λ n few. joins_begin c.args.cursor.now.bytes.now n (c.args.rank - 1) c.args.cursor.now.rest.now c.args.nodes.now c.part.new.cursor.rest.now c.part.new.nodes (c.in_ok-part.ensures.reads n few);
}

pub joined-loop-cursor-preserved : goal.joined-loop-cursor-preserved
joined-loop-cursor-preserved t c =
    let bytes = c.args.cursor.now.bytes.now in
    let here = c.loop-cursor.cursor.bytes.now in
    let rest = c.loop-cursor.cursor.rest.now in
    let left = c.join.new.cursor.rest.now in
    let k = c.args.rank - 1 in
    let rank : c.args.rank ≡ suc k = omega (arith, c.requires.some) in
    let inv = c.loop-cursor.invariant in
    record {
      same_bytes = c.join.ensures.bytes ∙ inv.same_bytes;
      fewer = omega (arith, inv.fewer, c.in_ok-join.ensures.left);
      joins = λ n few.
          let s = inv.joins n few in
          joins_more bytes n k c.args.cursor.now.rest.now c.args.nodes.now rest left c.loop-cursor.nodes c.join.new.nodes s
          (ap (λ j. begins bytes j rest) (sym rank) ∙ ap (λ b. begins b c.args.rank rest) (sym inv.same_bytes) ∙ sym c.loop-cursor-test.ensures)
          (nodes_at (λ b inner. join_at b (part_at b inner k) s.so_far) here bytes inv.same_bytes c.args.nodes.now c.join.new.nodes rest left (c.in_ok-join.ensures.reads c.args.nodes.now s.so_far s.nodes_are) n (omega (arith, few, inv.fewer)))
          c.in_ok-join.ensures.left;
    }

pub joined-returns-in_err-join-clause-reads : goal.joined-returns-in_err-join-clause-reads
joined-returns-in_err-join-clause-reads t c = λ n few.
    let bytes = c.args.cursor.now.bytes.now in
    let here = c.loop-cursor.cursor.bytes.now in
    let rest = c.loop-cursor.cursor.rest.now in
    let k = c.args.rank - 1 in
    let rank : c.args.rank ≡ suc k = omega (arith, c.requires.some) in
    let inv = c.loop-cursor.invariant in
    let s = inv.joins n few in
    let e = c.in_err-join.field-0.0 in
    let p = err_from_is_err_and c.from_residual-in_err-join.result c.from_residual-in_err-join.ensures.1 in
    let fails = joins_fail bytes n k c.args.cursor.now.rest.now c.args.nodes.now rest c.loop-cursor.nodes e (not_four c.args.rank c.requires.other c.requires.some) s
    (ap (λ j. begins bytes j rest) (sym rank) ∙ ap (λ b. begins b c.args.rank rest) (sym inv.same_bytes) ∙ sym c.loop-cursor-test.ensures)
    (fail_at (λ b inner. join_at b (part_at b inner k) s.so_far) here bytes inv.same_bytes e rest (c.in_err-join.ensures.reads c.args.nodes.now s.so_far s.nodes_are) n (omega (arith, few, inv.fewer))) in
    rw (p.1, p.2) (subst (λ j. FailsAt e (part_at bytes (formula_from bytes n) j c.args.cursor.now.rest.now)) (sym rank) fails)

pub joined-returns-clause-reads : goal.joined-returns-clause-reads
joined-returns-clause-reads t c = λ n few.
    let bytes = c.args.cursor.now.bytes.now in
    let rest = c.loop-cursor.cursor.rest.now in
    let nodes = c.loop-cursor.nodes in
    let k = c.args.rank - 1 in
    let rank : c.args.rank ≡ suc k = omega (arith, c.requires.some) in
    let inv = c.loop-cursor.invariant in
    subst (λ j. AddsNodes c.args.nodes.now nodes rest (part_at bytes (formula_from bytes n) j c.args.cursor.now.rest.now)) (sym rank)
    (joins_end bytes n k c.args.cursor.now.rest.now c.args.nodes.now rest nodes (not_four c.args.rank c.requires.other c.requires.some) (inv.joins n few)
    (ap (λ j. begins bytes j rest) (sym rank) ∙ ap (λ b. begins b c.args.rank rest) (sym inv.same_bytes) ∙ sym c.loop-cursor-test.ensures))

-- ---- parentheses

pub nested-returns-clause-reads : goal.nested-returns-clause-reads
nested-returns-clause-reads t c = λ n few.
    let bytes = c.args.cursor.now.bytes.now in
    let start = c.args.cursor.now.rest.now in
    let rest = c.part.new.cursor.rest.now in
    subst (λ (l : List Token). AddsNodes c.args.nodes.now c.part.new.nodes l (inside_at bytes (formula_from bytes n) start)) (sym c.skip.ensures.rest)
    (inside_adds bytes (formula_from bytes n) start rest c.args.nodes.now c.part.new.nodes (c.in_ok-part.ensures.reads n few) (ap (λ b. class_at b rest) (sym c.part.ensures.bytes) ∙ sym c.in-Close.ensures))

-- ---- operators of one part

pub operand-loop-op-preserved : goal.operand-loop-op-preserved
operand-loop-op-preserved t c =
    let bytes = c.args.cursor.now.bytes.now in
    let rest = c.loop-op.cursor.rest.now in
    let ops = c.loop-op.ops.items in
    let inv = c.loop-op.invariant in
    record {
      same_bytes = c.skip.ensures.bytes ∙ inv.same_bytes;
      fewer = omega (arith, inv.fewer, ap (λ (l : List Token). length l) c.skip.ensures.rest, drop_within rest);
      reads = λ inner.
          inv.reads inner
          ∙ ap (λ r. over_all ops r) (prefix_more bytes rest c.in-Prefix.op inner (ap (λ b. class_at b rest) (sym inv.same_bytes) ∙ sym c.in-Prefix.ensures))
          ∙ sym (over_all-push ops c.in-Prefix.op (operand_at bytes inner (drop 1 rest)))
          ∙ ap (λ (l : List Token). over_all (ops ++ c.in-Prefix.op ∷ []) (operand_at bytes inner l)) (sym c.skip.ensures.rest)
          ∙ ap (λ (l : List Unary). over_all l (operand_at bytes inner c.skip.new.cursor.rest.now)) (sym c.in_ok-push.ensures.items);
    }

pub operand-returns-in_err-atom-clause-reads : goal.operand-returns-in_err-atom-clause-reads
operand-returns-in_err-atom-clause-reads t c = λ n few.
    let bytes = c.args.cursor.now.bytes.now in
    let inner = formula_from bytes n in
    let rest = c.loop-op.cursor.rest.now in
    let inv = c.loop-op.invariant in
    let e = c.in_err-atom.field-0.0 in
    let p = err_from_is_err_and c.from_residual-in_err-atom.result c.from_residual-in_err-atom.ensures.1 in
    rw (p.1, p.2)
    (operand_fails bytes inner c.args.cursor.now.rest.now rest c.loop-op.ops.items (inv.reads inner) (ap (λ b. is_prefix (class_at b rest)) (sym inv.same_bytes) ∙ ap is_prefix (sym c.class.ensures) ∙ other_than_prefix c.class.result c.in_default.not-Prefix) e
    (fail_at (λ b inner. atom_at b inner) c.loop-op.cursor.bytes.now bytes inv.same_bytes e rest c.in_err-atom.ensures.reads n (omega (arith, few, inv.fewer))))

pub operand-loop-op-2-preserved : goal.operand-loop-op-2-preserved
operand-loop-op-2-preserved t c =
    let nodes = c.loop-op-2.nodes in
    let left = c.pop.new.self.items in
    ap (λ (l : List (Node Token)). l ++ behind_all left) c.in_ok-push-2.ensures.ok ∙ apply_more nodes left c.in-Some.op ∙ ap (λ (l : List Unary). nodes ++ behind_all l) (sym c.in-Some.ensures.items) ∙ c.loop-op-2.invariant

pub operand-returns-clause-reads : goal.operand-returns-clause-reads
operand-returns-clause-reads t c = λ n few.
    let bytes = c.args.cursor.now.bytes.now in
    let inner = formula_from bytes n in
    let rest = c.loop-op.cursor.rest.now in
    let left = c.atom.new.cursor.rest.now in
    let inv = c.loop-op.invariant in
    operand_adds bytes inner c.args.cursor.now.rest.now rest c.loop-op.ops.items (inv.reads inner) (ap (λ b. is_prefix (class_at b rest)) (sym inv.same_bytes) ∙ ap is_prefix (sym c.class.ensures) ∙ other_than_prefix c.class.result c.in_default.not-Prefix) c.args.nodes.now c.atom.new.nodes c.loop-op-2.nodes left
    (nodes_at (λ b inner. atom_at b inner) c.loop-op.cursor.bytes.now bytes inv.same_bytes c.args.nodes.now c.atom.new.nodes rest left c.in_ok-atom.ensures.reads n (omega (arith, few, inv.fewer)))
    (applied c.loop-op-2.nodes _ c.loop-op-2.ops.items (search rules) c.loop-op-2.invariant)

-- ---- atoms

pub atom-returns-in_default-clause-reads : goal.atom-returns-in_default-clause-reads
atom-returns-in_default-clause-reads t c = λ n few. fails_at_syntax c.syntax.result _ c.syntax.ensures.is (end_at c.args.cursor.now.bytes.now c.args.cursor.now.rest.now (formula_from c.args.cursor.now.bytes.now n) c.in_default.len_below)

pub atom-returns-in-Name-clause-reads : goal.atom-returns-in-Name-clause-reads
atom-returns-in-Name-clause-reads t c = λ n few.
    let bytes = c.args.cursor.now.bytes.now in
    let rest = c.args.cursor.now.rest.now in
    adds_more c.push.result c.args.nodes.now c.push.new.self _ (drop 1 rest) c.skip.new.cursor.rest.now _ c.push.ensures.ok c.push.ensures.err
    (named_at bytes rest _ (formula_from bytes n) c.args.nodes.now c.in-len1-up.len_at_least (sym c.in-Name.ensures)) c.skip.ensures.rest

pub atom-returns-in-Constant-clause-reads : goal.atom-returns-in-Constant-clause-reads
atom-returns-in-Constant-clause-reads t c = λ n few.
    let bytes = c.args.cursor.now.bytes.now in
    let rest = c.args.cursor.now.rest.now in
    adds_more c.push-in-Constant.result c.args.nodes.now c.push-in-Constant.new.self _ (drop 1 rest) c.skip-in-Constant.new.cursor.rest.now _ c.push-in-Constant.ensures.ok c.push-in-Constant.ensures.err
    (truth_at bytes rest _ (formula_from bytes n) c.args.nodes.now c.in-Constant.truth c.in-len1-up.len_at_least (sym c.in-Constant.ensures)) c.skip-in-Constant.ensures.rest

pub atom-returns-in-Open-clause-reads : goal.atom-returns-in-Open-clause-reads
atom-returns-in-Open-clause-reads t c =
    let bytes = c.args.cursor.now.bytes.now in
    let rest = c.args.cursor.now.rest.now in
    let left = c.nested.new.cursor.rest.now in
    open_at bytes rest _ c.nested.result c.args.nodes.now c.nested.new.nodes left c.in-len1-up.len_at_least (sym c.in-Open.ensures)
    (subst (λ (l : List Token). AddsBy bytes (λ inner. inside_at bytes inner) c.nested.result c.args.nodes.now c.nested.new.nodes l left) c.skip-in-Open.ensures.rest
    (by_at (λ b inner. inside_at b inner) c.skip-in-Open.new.cursor.bytes.now bytes c.skip-in-Open.ensures.bytes c.nested.result c.args.nodes.now c.nested.new.nodes c.skip-in-Open.new.cursor.rest.now left c.nested.ensures.reads))

pub atom-returns-in_default-class_of-clause-reads : goal.atom-returns-in_default-class_of-clause-reads
atom-returns-in_default-class_of-clause-reads t c = λ n few.
    let bytes = c.args.cursor.now.bytes.now in
    let rest = c.args.cursor.now.rest.now in
    fails_at_syntax c.syntax-in_default-class_of.result _ c.syntax-in_default-class_of.ensures.is
    (none_at bytes rest _ (formula_from bytes n) (λ e. c.in_default-class_of.not-Name (c.class_of.ensures ∙ e)) (λ b e. c.in_default-class_of.not-Constant b (c.class_of.ensures ∙ e)) (λ e. c.in_default-class_of.not-Open (c.class_of.ensures ∙ e)))
