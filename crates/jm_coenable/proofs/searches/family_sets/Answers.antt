use Rattle.std.proofs.Common.{ℕ, ◌<◌, List, [], ◌∷◌, length, length-append, sym, ap, subst, ◌∙◌, arith}
use Rattle.jm_coenable.specs.Needs.{set_at}
use Rattle.jm_coenable.specs.Searches.{IsFamilySet}
use Rattle.jm_coenable.proofs.FillLemmas.{sets_push}
use Rattle.jm_coenable.proofs.searches.family_sets.Goals as goal

pub loop-letter-preserved : goal.loop-letter-preserved
loop-letter-preserved c =
    let needed = c.args.needed.now in
    let arrivals = c.args.arrivals.now in
    let families = c.loop-letter.families.items in
    let here = subst (λ (k : ℕ). IsFamilySet arrivals needed k c.family_set.result) (sym c.loop-letter.invariant.count) c.family_set.ensures in
    record {
      count = ap (λ (s : List (List ℕ)). length s) c.in_ok-push.ensures.items ∙ omega (arith, length-append families (c.family_set.result ∷ []), c.loop-letter.invariant.count);
      each = subst (λ (s : List (List ℕ)). (letter : ℕ) → letter < length s → IsFamilySet arrivals needed letter (set_at s letter)) (sym c.in_ok-push.ensures.items)
          (sets_push (λ (letter : ℕ) (s : List ℕ). IsFamilySet arrivals needed letter s) families c.family_set.result c.loop-letter.invariant.each here);
    }
