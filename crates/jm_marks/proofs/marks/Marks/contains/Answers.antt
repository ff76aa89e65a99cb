use Rattle.std.proofs.Common.{refl}
use Rattle.std.proofs.lemmas.List.Elements.{Contains-append_right}
use Rattle.jm_model.proofs.EqLemmas.{found-Contains, Contains-found}
use Rattle.jm_marks.specs.Singles.{singles_of}
use Rattle.jm_marks.proofs.SetLemmas.{in_set, in_neither, not_told}
use Rattle.jm_marks.proofs.marks.Marks.contains.Goals as goal

pub returns-then-is_single : goal.returns-then-is_single
returns-then-is_single c =
    rw (← c.self.view_is)
    (in_neither _ _ c.args.binding.now (λ single. not_told _ c.if-contains.false (c.contains.ensures.1 single))
    (λ key. c.self.invariant.1.none c.if-not-self.true c.args.binding.now key (c.is_single.ensures.yes c.if-is_single.true)))

pub returns-then-is_hinted : goal.returns-then-is_hinted
returns-then-is_hinted c =
    (λ _. rw (← c.self.view_is) (Contains-append_right (singles_of c.self.inside.singles) _ _ (c.is_hinted.ensures c.if-is_hinted.true)), λ _. refl)

pub returns-then-is_beyond : goal.returns-then-is_beyond
returns-then-is_beyond c =
    rw (← c.self.view_is)
    (in_neither _ _ c.args.binding.now (λ single. not_told _ c.if-contains.false (c.contains.ensures.1 single))
    (λ key. c.is_beyond.ensures.yes c.if-is_beyond.true (c.self.invariant.0.within c.args.binding.now (Contains-append_right (singles_of c.self.inside.singles) _ _ key))))

pub returns : goal.returns
returns c =
    rw (c.contains-2.ensures, ← c.self.view_is)
    (in_set _ _ c.args.binding.now _ (λ single. not_told _ c.if-contains.false (c.contains.ensures.1 single))
    (found-Contains c.self.inside.bindings.keys c.args.binding.now) (Contains-found c.self.inside.bindings.keys c.args.binding.now))
