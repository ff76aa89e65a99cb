use Rattle.std.proofs.Common.{ℕ, ◌≡◌, ◌<◌, ◌*◌, ◌+◌, ◌%◌, ◌^◌, true, refl, sym, ◌∙◌, subst, inl, inr, rules, arith}
use Rattle.std.specs.Int.{w64, trailing_zeros}
use Rattle.jm_objects.proofs.WordLemmas.{first_left, fewer_left, unset_left}
use Rattle.jm_index.specs.Index.{PairList, flag_of, IsKey}
use Rattle.jm_index.proofs.IndexLemmas.{seen, key_unset}
use Rattle.jm_index.proofs.index.Index.drop_dead_at.Goals as goal

pub overflow_mul-index : goal.overflow_mul-index
overflow_mul-index c =
    let few : 64 * c.args.index < 2 ^ 32 = omega (arith, c.requires.index, c.len-len.ensures, c.len-len.type_inv) in
    search (rules, few)

pub overflow_add-index : goal.overflow_add-index
overflow_add-index c =
    let (low, one) = first_left c.loop-left.left c.loop-left-test.true (omega (arith, c.loop-left.auto.left-fits)) in
    let few : 64 * c.args.index + trailing_zeros w64 c.loop-left.left < 2 ^ 32 = omega (arith, c.requires.index, c.len-len.ensures, c.len-len.type_inv, low) in
    search (rules, few)

pub loop-left-smaller : goal.loop-left-smaller
loop-left-smaller c =
    let (low, one) = first_left c.loop-left.left c.loop-left-test.true (omega (arith, c.loop-left.auto.left-fits)) in
    fewer_left _ _ low one

pub loop-left-preserved : goal.loop-left-preserved
loop-left-preserved c =
    let inv = c.loop-left.invariant in
    let after = c.drop_dead_key.ensures in
    let t = trailing_zeros w64 c.loop-left.left in
    let (low, one) = first_left c.loop-left.left c.loop-left-test.true (omega (arith, c.loop-left.auto.left-fits)) in
    record {
      list = after.list ∙ inv.list;
      gone = λ o at unset dead key. elim (unset_left c.loop-left.left t (o % 64) low (omega arith) unset) [
        | inl before ↦ inv.gone o at before dead (after.fewer o key)
        | inr is ↦
            let same : o ≡ 64 * c.args.index + t = omega (arith, at, is) in
            after.gone (subst (λ (v : ℕ). flag_of c.args.objects.now v ≡ true) same dead) (subst (λ (v : ℕ). IsKey c.drop_dead_key.new.self v) same key)
      ];
      fewer = λ o key. inv.fewer o (after.fewer o key);
      keyed = after.keyed;
      only = λ o flag. elim (after.only o flag) [ inl old ↦ inv.only o old | inr dead ↦ inr dead ];
    }

pub loop-left-init : goal.loop-left-init
loop-left-init c =
    record {
      list = refl;
      gone = λ o at unset dead key.
          let is_key : IsKey (seen c.self.inside.entries.items c.self.inside.trees c.self.inside.dropped) o = subst (λ (v : PairList). IsKey v o) (sym c.self.view_is) key in
          let free = key_unset _ _ _ _ _ c.self.invariant is_key in
          let bit = c.news-left.ensures o at dead free.1 in
          omega (arith, bit, unset);
      fewer = λ o key. key;
      keyed = c.requires.keyed;
      only = λ o flag. inl flag;
    }
