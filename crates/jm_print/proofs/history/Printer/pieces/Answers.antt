use Rattle.std.proofs.Common.{rules, take}
use Rattle.std.specs.List.{flat_map}
use Rattle.jm_print.specs.Texts.{full_entry_text}
use Rattle.jm_print.proofs.PieceLemmas.{full_entry_text-some_byte, few_more}
use Rattle.jm_print.proofs.history.Printer.pieces.Goals as goal

pub overflow_add-count : goal.overflow_add-count
overflow_add-count c =
    let l = c.args.self.now in
    let few = few_more (full_entry_text l) (full_entry_text-some_byte l) _ _ _
    (flat_map (λ piece. piece) (take c.loop-piece.piece-index c.args.pieces.now)) c.piece-item.result _ _
    c.loop-piece.invariant.text c.in_ok-whole.ensures c.loop-piece.invariant.count c.len-bytes.ensures c.len-bytes.type_inv in
    search (rules, few)
