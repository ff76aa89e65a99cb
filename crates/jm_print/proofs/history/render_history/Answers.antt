use Rattle.std.proofs.Common.{List, All, refl, sym, subst}
use Rattle.std.specs.List.{flat_map}
use Rattle.std.proofs.lemmas.List.Elements.{All-same}
use Rattle.jm_model.specs.declared.step.Entry.{Entry}
use Rattle.jm_print.specs.Texts.{IsPrintable}
use Rattle.jm_print.specs.Lexicons.{Lexicon, lexicon_of}
use Rattle.jm_print.proofs.PieceLemmas.{All-flat_map}
use Rattle.jm_print.specs.declared.head.Head.{Head}
use Rattle.jm_print.specs.Shorts.{AreHeads}
use Rattle.jm_print.proofs.history.render_history.Goals as goal

pub estimate-requires : goal.estimate-requires
estimate-requires c =
    let l : Lexicon = lexicon_of c.args.name.now c.args.table.now c.args.categories.now c.args.objects.now c.args.handlers.now in
    let pieces = c.in_ok-pieces.pieces.items in
    subst (λ (v : List (List Entry)). All (λ piece. All (IsPrintable l) piece) v) (sym c.deref.ensures.value)
    (All-flat_map (IsPrintable l) (λ (piece : List Entry). piece) pieces
    (All-same (IsPrintable l) (flat_map (λ (piece : List Entry). piece) pieces) c.args.history.now c.in_ok-pieces.ensures c.requires))

pub pieces-requires-2 : goal.pieces-requires-2
pieces-requires-2 c =
    let l : Lexicon = lexicon_of c.args.name.now c.args.table.now c.args.categories.now c.args.objects.now c.args.handlers.now in
    let pieces = c.in_ok-pieces.pieces.items in
    subst (λ (v : List (List Entry)). All (λ piece. All (IsPrintable l) piece) v) (sym c.deref-2.ensures.value)
    (All-flat_map (IsPrintable l) (λ (piece : List Entry). piece) pieces
    (All-same (IsPrintable l) (flat_map (λ (piece : List Entry). piece) pieces) c.args.history.now c.in_ok-pieces.ensures c.requires))

pub invariant_of-printer : goal.invariant_of-printer
invariant_of-printer c =
    let l : Lexicon = lexicon_of c.args.name.now c.args.table.now c.args.categories.now c.args.objects.now c.args.handlers.now in
    subst (λ (heads : List Head). AreHeads l heads) (sym c.as_slice.ensures.value) (c.in_ok-heads.ensures l (refl, refl))

pub invariant_of-printer-2 : goal.invariant_of-printer-2
invariant_of-printer-2 c =
    let l : Lexicon = lexicon_of c.args.name.now c.args.table.now c.args.categories.now c.args.objects.now c.args.handlers.now in
    subst (λ (heads : List Head). AreHeads l heads) (sym c.as_slice.ensures.value) (c.in_ok-heads.ensures l (refl, refl))
