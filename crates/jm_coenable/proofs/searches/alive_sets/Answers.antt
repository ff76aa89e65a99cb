use Rattle.std.proofs.Common.{ℕ, ◌<◌, List, [], ◌∷◌, length, length-append, sym, ap, subst, ◌∙◌, arith}
use Rattle.jm_coenable.specs.Needs.{set_at}
use Rattle.jm_coenable.specs.Searches.{AreDeadSets}
use Rattle.jm_coenable.proofs.FillLemmas.{read_is, sets_push}
use Rattle.jm_coenable.proofs.searches.alive_sets.Goals as goal

pub loop-place-preserved : goal.loop-place-preserved
loop-place-preserved c =
    let needed = c.args.needed.now in
    let alive = c.loop-place.alive.items in
    let at = read_is needed c.index-needed-place.result c.loop-place.place c.index-needed-place.is (omega arith) in
    let here = subst (λ (k : ℕ). AreDeadSets (set_at needed k) c.alive_set.result) (sym c.loop-place.invariant.count)
    (subst (λ (s : List ℕ). AreDeadSets s c.alive_set.result) at c.alive_set.ensures) in
    record {
      count = ap (λ (s : List (List ℕ)). length s) c.in_ok-push.ensures.items ∙ omega (arith, length-append alive (c.alive_set.result ∷ []), c.loop-place.invariant.count);
      each = subst (λ (s : List (List ℕ)). (place : ℕ) → place < length s → AreDeadSets (set_at needed place) (set_at s place)) (sym c.in_ok-push.ensures.items)
          (sets_push (λ (place : ℕ) (s : List ℕ). AreDeadSets (set_at needed place) s) alive c.alive_set.result c.loop-place.invariant.each here);
    }
