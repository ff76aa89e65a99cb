use Rattle.std.proofs.Common.{ℕ, List, [], ◌∷◌, length, Contains, length-append, subst, ap, ◌∙◌, arith}
use Rattle.jm_coenable.specs.Needs.{set_at}
use Rattle.jm_coenable.proofs.SetLemmas.{empty_more}
use Rattle.jm_coenable.proofs.sets.empty_sets.Goals as goal

pub loop-made-init : goal.loop-made-init
loop-made-init c = record {
  count = ap (λ (s : List (List ℕ)). length s) c.in_ok-sets.ensures.items;
  empty = λ place member h. absurd (omega (arith, (subst (λ (s : List (List ℕ)). Contains (set_at s place) member) c.in_ok-sets.ensures.items h).1));
}

pub loop-made-preserved : goal.loop-made-preserved
loop-made-preserved c = record {
  count = ap (λ (s : List (List ℕ)). length s) c.in_ok-push.ensures.items ∙ omega (arith, length-append c.loop-made.sets.items (c.new.result ∷ []), c.loop-made.invariant.count);
  empty = λ place member h. empty_more c.loop-made.sets.items c.new.result c.loop-made.invariant.empty c.new.ensures place member
      (subst (λ (s : List (List ℕ)). Contains (set_at s place) member) c.in_ok-push.ensures.items h);
}

pub returns-clause-empty : goal.returns-clause-empty
returns-clause-empty c = c.loop-made.invariant.empty
