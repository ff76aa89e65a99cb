use Rattle.std.proofs.Common.{ℕ, ◌≡◌, ◌<◌, ◌≤◌, ◌+◌, ◌-◌, ◌*◌, ◌++◌, List, Option, length, vec_len}
use Rattle.jm_text.specs.declared.token.Token.{Token}
use Rattle.jm_ptltl.specs.Rules.{Read, operand_at}
use Rattle.jm_ptltl.proofs.NodeLemmas.{behind_all, closing}
use Rattle.jm_ptltl.proofs.ReaderLemmas.{over_all, JoinsLeft, ChainLeft}
use Rattle.jm_ptltl.proofs.parse.+formula.Given as goal

-- Each call either takes a token or goes down the list of the rules.

abbrev pub decreases-part : goal.decreases-part
decreases-part l = 32 * length l.cursor.now.rest.now + (4 * l.rank + 3)

abbrev pub decreases-joined : goal.decreases-joined
decreases-joined l = 32 * length l.cursor.now.rest.now + (4 * l.rank + 2)

abbrev pub decreases-join : goal.decreases-join
decreases-join l = 32 * length l.cursor.now.rest.now + 30

abbrev pub decreases-implications : goal.decreases-implications
decreases-implications l = 32 * length l.cursor.now.rest.now + 22

abbrev pub decreases-operand : goal.decreases-operand
decreases-operand l = 32 * length l.cursor.now.rest.now + 2

abbrev pub decreases-atom : goal.decreases-atom
decreases-atom l = 32 * length l.cursor.now.rest.now + 1

abbrev pub decreases-nested : goal.decreases-nested
decreases-nested l = 32 * length l.cursor.now.rest.now + 30

abbrev pub invariant-joined-loop-cursor : goal.invariant-joined-loop-cursor
invariant-joined-loop-cursor l = record {
  same_bytes : l.cursor.bytes.now ≡ l.fn.cursor.bytes.now;
  fewer : length l.cursor.rest.now < length l.fn.cursor.rest.now;
  joins : (n : ℕ) → length l.fn.cursor.rest.now ≤ n → JoinsLeft l.fn.cursor.bytes.now n (l.rank - 1) l.fn.cursor.rest.now l.fn.nodes l.cursor.rest.now l.nodes;
}

abbrev pub decreases-joined-loop-cursor : goal.decreases-joined-loop-cursor
decreases-joined-loop-cursor l = length l.cursor.rest.now

abbrev pub invariant-implications-loop-cursor : goal.invariant-implications-loop-cursor
invariant-implications-loop-cursor l = record {
  same_bytes : l.cursor.bytes.now ≡ l.fn.cursor.bytes.now;
  fewer : length l.cursor.rest.now < length l.fn.cursor.rest.now;
  chain : (n : ℕ) → length l.fn.cursor.rest.now ≤ n → ChainLeft l.fn.cursor.bytes.now n l.fn.cursor.rest.now l.fn.nodes l.cursor.rest.now l.nodes l.starts.items;
}

abbrev pub decreases-implications-loop-cursor : goal.decreases-implications-loop-cursor
decreases-implications-loop-cursor l = length l.cursor.rest.now

abbrev pub invariant-implications-loop-start : goal.invariant-implications-loop-start
invariant-implications-loop-start l = l.nodes ++ closing l.starts.items (length l.nodes) ≡ l.initial.nodes ++ closing l.initial.starts.items (length l.initial.nodes)

abbrev pub decreases-implications-loop-start : goal.decreases-implications-loop-start
decreases-implications-loop-start l = vec_len l.starts

abbrev pub invariant-operand-loop-op : goal.invariant-operand-loop-op
invariant-operand-loop-op l = record {
  same_bytes : l.cursor.bytes.now ≡ l.fn.cursor.bytes.now;
  fewer : length l.cursor.rest.now ≤ length l.fn.cursor.rest.now;
  reads : (inner : List Token → Option Read) → operand_at l.fn.cursor.bytes.now inner l.fn.cursor.rest.now ≡ over_all l.ops.items (operand_at l.fn.cursor.bytes.now inner l.cursor.rest.now);
}

abbrev pub decreases-operand-loop-op : goal.decreases-operand-loop-op
decreases-operand-loop-op l = length l.cursor.rest.now

abbrev pub invariant-operand-loop-op-2 : goal.invariant-operand-loop-op-2
invariant-operand-loop-op-2 l = l.nodes ++ behind_all l.ops.items ≡ l.initial.nodes ++ behind_all l.initial.ops.items

abbrev pub decreases-operand-loop-op-2 : goal.decreases-operand-loop-op-2
decreases-operand-loop-op-2 l = vec_len l.ops
