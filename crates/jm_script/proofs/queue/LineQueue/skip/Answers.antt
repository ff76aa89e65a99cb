use Rattle.std.proofs.Common.{◌≡◌, ◌≤◌, ◌+◌, ◌-◌, ◌∙◌, List, length, drop, refl, sym, ap, subst, arith}
use Rattle.std.proofs.lemmas.Option.{slice_get_read}
use Rattle.jm_script.proofs.QueueLemmas.{some_block, goes_on, block_ends}
use Rattle.jm_script.specs.declared.script.ScriptLine.{ScriptLine}
use Rattle.jm_script.proofs.queue.LineQueue.skip.Goals as goal

pub invariant_of-self : goal.invariant_of-self
invariant_of-self c =
    let blocks = c.self.inside.blocks.items in
    let some : 1 ≤ length blocks = some_block blocks c.self.inside.place (subst (λ (l : List ScriptLine). 1 ≤ length l) (sym c.self.view_is) c.requires) in
    let size : length blocks ≡ (c.len-last.result - 1) + 1 = omega (arith, some, c.len-last.ensures, c.self.inside.blocks.ok.0) in
    let at = slice_get_read blocks (length blocks) (c.len-last.result - 1) c.index.result.now refl (omega (arith, size)) c.index.ensures in
    (goes_on blocks c.self.inside.place (c.len-last.result - 1) c.index.result.now size at c.self.invariant (omega (arith, c.if-self-count.true, c.len-count.ensures))).0

pub returns-then-self-count : goal.returns-then-self-count
returns-then-self-count c =
    let blocks = c.self.inside.blocks.items in
    let some : 1 ≤ length blocks = some_block blocks c.self.inside.place (subst (λ (l : List ScriptLine). 1 ≤ length l) (sym c.self.view_is) c.requires) in
    let size : length blocks ≡ (c.len-last.result - 1) + 1 = omega (arith, some, c.len-last.ensures, c.self.inside.blocks.ok.0) in
    let at = slice_get_read blocks (length blocks) (c.len-last.result - 1) c.index.result.now refl (omega (arith, size)) c.index.ensures in
    (goes_on blocks c.self.inside.place (c.len-last.result - 1) c.index.result.now size at c.self.invariant (omega (arith, c.if-self-count.true, c.len-count.ensures))).1 ∙ ap (λ l. drop 1 l) c.self.view_is

pub invariant_of-self-else-self-count : goal.invariant_of-self-else-self-count
invariant_of-self-else-self-count c =
    let blocks = c.self.inside.blocks.items in
    let some : 1 ≤ length blocks = some_block blocks c.self.inside.place (subst (λ (l : List ScriptLine). 1 ≤ length l) (sym c.self.view_is) c.requires) in
    let size : length blocks ≡ (c.len-last.result - 1) + 1 = omega (arith, some, c.len-last.ensures, c.self.inside.blocks.ok.0) in
    let at = slice_get_read blocks (length blocks) (c.len-last.result - 1) c.index.result.now refl (omega (arith, size)) c.index.ensures in
    (block_ends blocks c.self.inside.place (c.len-last.result - 1) c.index.result.now size at c.self.invariant c.truncate.new.self.items (c.truncate.ensures.items) (omega (arith, c.if-self-count.false, c.len-count.ensures))).0

pub returns-else-self-count : goal.returns-else-self-count
returns-else-self-count c =
    let blocks = c.self.inside.blocks.items in
    let some : 1 ≤ length blocks = some_block blocks c.self.inside.place (subst (λ (l : List ScriptLine). 1 ≤ length l) (sym c.self.view_is) c.requires) in
    let size : length blocks ≡ (c.len-last.result - 1) + 1 = omega (arith, some, c.len-last.ensures, c.self.inside.blocks.ok.0) in
    let at = slice_get_read blocks (length blocks) (c.len-last.result - 1) c.index.result.now refl (omega (arith, size)) c.index.ensures in
    (block_ends blocks c.self.inside.place (c.len-last.result - 1) c.index.result.now size at c.self.invariant c.truncate.new.self.items (c.truncate.ensures.items) (omega (arith, c.if-self-count.false, c.len-count.ensures))).1 ∙ ap (λ l. drop 1 l) c.self.view_is
