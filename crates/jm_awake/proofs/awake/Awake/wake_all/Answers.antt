use Rattle.std.proofs.Common.{◌≡◌, ◌<◌, inl, inr, length, sym, ap, ◌∙◌, subst, arith}
use Rattle.std.specs.Int.{bit_at}
use Rattle.std.proofs.lemmas.List.{get_or_default}
use Rattle.jm_awake.specs.declared.card.Card.{Card}
use Rattle.jm_awake.specs.Awake.{Lists, fresh, IsOn, card_at}
use Rattle.jm_awake.proofs.CardLemmas.{first_left, bit_cases}
use Rattle.jm_awake.proofs.WakeLemmas.{waking_start, waking_more, waking_end}
use Rattle.jm_awake.proofs.awake.Awake.wake_all.Goals as goal

pub loop-left-init : goal.loop-left-init
loop-left-init c =
    let low : c.args.slot < length c.self.inside.cards.items = subst (λ (a : Lists). c.args.slot < length a.cards) (sym c.self.view_is) c.requires in
    let card : c.index.result.now ≡ card_at c.args.self.now c.args.slot =
    c.index.ensures ∙ get_or_default c.self.inside.cards.items c.args.slot c.index.result.now fresh low ∙ ap (λ (a : Lists). card_at a c.args.slot) c.self.view_is
    in
    record {
      fits = c.missing-left.type_inv;
      waking = waking_start c.args.slot c.args.instance.now c.args.self.now c.missing-left.result c.requires
          (λ e one. sym (ap (λ (d : Card). bit_at d.letters e) card) ∙ (c.missing-left.ensures.each e one).1);
    }

pub wake_at-requires-clause-letter : goal.wake_at-requires-clause-letter
wake_at-requires-clause-letter c = (first_left c.loop-left.left c.loop-left-test.true c.loop-left.invariant.fits).0

pub wake_at-requires-clause-card : goal.wake_at-requires-clause-card
wake_at-requires-clause-card c = c.loop-left.invariant.waking.low

pub without-left-requires : goal.without-left-requires
without-left-requires c = (first_left c.loop-left.left c.loop-left-test.true c.loop-left.invariant.fits).0

pub loop-left-smaller : goal.loop-left-smaller
loop-left-smaller c = c.without-left.ensures.fewer (first_left c.loop-left.left c.loop-left-test.true c.loop-left.invariant.fits).1

pub loop-left-preserved : goal.loop-left-preserved
loop-left-preserved c = record {
  fits = c.without-left.type_inv;
  waking = waking_more c.args.slot c.args.instance.now c.args.self.now c.missing-left.result c.loop-left.self c.wake_at.new.self c.loop-left.left c.without-left.result _ c.loop-left.invariant.waking c.wake_at.ensures
      (first_left c.loop-left.left c.loop-left-test.true c.loop-left.invariant.fits).1 c.without-left.ensures.back c.without-left.ensures.kept;
}

pub returns : goal.returns
returns c =
    let low : c.args.slot < length c.self.inside.cards.items = subst (λ (a : Lists). c.args.slot < length a.cards) (sym c.self.view_is) c.requires in
    let card : c.index.result.now ≡ card_at c.args.self.now c.args.slot =
    c.index.ensures ∙ get_or_default c.self.inside.cards.items c.args.slot c.index.result.now fresh low ∙ ap (λ (a : Lists). card_at a c.args.slot) c.self.view_is
    in
    let none : c.loop-left.left ≡ 0 = omega (arith, c.loop-left-test.false) in
    let waking = rw none at c.loop-left.invariant.waking in
    waking_end c.args.slot c.args.instance.now c.args.resting c.args.self.now c.missing-left.result c.loop-left.self waking
    (λ e one. (c.awake_at-wanted.ensures.each e (c.missing-left.ensures.each e one).0).1)
    (λ e one. sym (ap (λ (d : Card). bit_at d.letters e) card) ∙ (c.missing-left.ensures.each e one).1)
    (λ e letter awake.
    let wants = c.awake_at-wanted.ensures.all e (ap (λ (a : Lists). bit_at a.letters e) c.self.view_is ∙ letter) awake in
    elim (bit_cases c.missing-left.result e) [
      | inl one ↦ inl one
      | inr off ↦ inr (subst (λ (d : Card). IsOn d e) card (c.missing-left.ensures.all e wants off))
    ])
