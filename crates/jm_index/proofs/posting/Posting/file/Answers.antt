use Rattle.std.proofs.Common.{◌≡◌, ℕ, List, [], ◌∷◌, ◌++◌, ap, ◌∙◌}
use Rattle.jm_index.specs.Postings.{Owned}
use Rattle.jm_index.specs.Layout.{Rises}
use Rattle.jm_index.proofs.PostingLemmas.{rising_pushed, filed_last}
use Rattle.jm_index.proofs.posting.Posting.file.Goals as goal

pub invariant_of-self-2 : goal.invariant_of-self-2
invariant_of-self-2 c =
    let is : c.self.inside.positions.items ≡ c.args.self.now.positions = ap (λ (p : Owned). p.positions) c.self.view_is in
    let rises : Rises 0 (c.self.inside.positions.items ++ c.args.position ∷ []) =
    rising_pushed c.self.inside.positions.items _ _ c.args.position is c.as_slice.ensures.value c.self.invariant c.requires (c.is_last.ensures.no c.if-is_last.false)
    in
    rw (c.push_reserved.ensures.items, c.in_ok-grow.ensures.unchanged) rises

pub returns-clause-filed : goal.returns-clause-filed
returns-clause-filed c =
    let is : c.self.inside.positions.items ≡ c.args.self.now.positions = ap (λ (p : Owned). p.positions) c.self.view_is in
    let pushed : c.push_reserved.new.self.items ≡ c.self.inside.positions.items ++ c.args.position ∷ [] =
    c.push_reserved.ensures.items ∙ ap (λ (v : List ℕ). v ++ c.args.position ∷ []) c.in_ok-grow.ensures.unchanged
    in
    filed_last c.args.position _ _ _ is pushed
