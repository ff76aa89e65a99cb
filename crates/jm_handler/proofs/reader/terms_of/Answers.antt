use Rattle.std.proofs.Common.{◌∷◌, ◌++◌, [], ap, sym, ◌∙◌, arith}
use Rattle.jm_handler.proofs.TermLemmas.{default_token, some_tokens, goes_on-first, next_at, not_marked_at, whole_at, one_left_at}
use Rattle.jm_handler.proofs.reader.terms_of.Goals as goal

pub loop-i-init : goal.loop-i-init
loop-i-init c =
    let some = some_tokens _ _ c.is_empty.ensures c.if-is_empty.false in
    record {
      within = omega (arith, some);
      goes_on =
          goes_on-first _ _ _ default_token c.in-Some.first _ some (sym c.in_ok-first.ensures ∙ c.in-Some.is)
          (c.in_ok-push.ensures ∙ ap (λ v. v ++ c.in-Some.first ∷ []) c.new-terms.ensures);
    }

pub returns-then-not-is_mark : goal.returns-then-not-is_mark
returns-then-not-is_mark c =
    not_marked_at _ _ _ _ _ default_token c.loop-i.invariant.goes_on c.loop-i-test.true (sym c.is_mark.ensures ∙ c.if-not-is_mark.true)

pub loop-i-preserved : goal.loop-i-preserved
loop-i-preserved c = record {
  within = omega arith;
  goes_on =
      next_at _ _ _ _ _ default_token c.loop-i.invariant.goes_on c.loop-i-test.true _ c.in-Some-2.term (sym c.is_mark.ensures ∙ c.if-not-is_mark.false)
      (sym c.in_ok-term.ensures ∙ c.in-Some-2.is) c.in_ok-push-2.ensures;
}

pub returns-then-i-tokens : goal.returns-then-i-tokens
returns-then-i-tokens c = one_left_at _ _ _ _ _ default_token c.loop-i.invariant.goes_on c.if-i-tokens.true c.loop-i-test.false

pub returns : goal.returns
returns c = whole_at _ _ _ _ _ default_token c.loop-i.invariant.goes_on c.if-i-tokens.false
