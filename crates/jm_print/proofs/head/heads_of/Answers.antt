use Rattle.std.proofs.Common.{[], ◌∷◌, List, ℕ, ◌∙◌, ap, sym, subst, length, length-append, ◌+◌}
use Rattle.jm_print.specs.declared.head.Head.{Head}
use Rattle.jm_print.specs.Shorts.{AreHeads}
use Rattle.jm_print.proofs.HeadLemmas.{heads_more}
use Rattle.jm_print.proofs.head.heads_of.Goals as goal

pub loop-letter-preserved : goal.loop-letter-preserved
loop-letter-preserved c =
    let before = c.loop-letter.heads.items in
    let head = c.in_ok-head_of.field-0 in
    let told = c.loop-letter.invariant in (
      ap length c.in_ok-push.ensures.items ∙ length-append before (head ∷ []) ∙ ap (λ (n : ℕ). n + 1) told.0,
      λ lexicon named. subst (λ (heads : List Head). AreHeads lexicon heads) (sym c.in_ok-push.ensures.items)
          (heads_more lexicon before head c.loop-letter.letter told.0 (told.1 lexicon named) (c.in_ok-head_of.ensures lexicon named)),
    )
