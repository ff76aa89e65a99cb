use Rattle.std.proofs.Common.{◌≡◌, ℕ, inl, inr, sym, ap, subst}
use Rattle.std.proofs.lemmas.Bool.{cases_eq}
use Rattle.jm_awake.specs.declared.card.Card.{Card}
use Rattle.jm_awake.specs.Awake.{IsOn, card_at}
use Rattle.jm_awake.proofs.StepLemmas.{unlisted_sound, there_same}
use Rattle.jm_awake.proofs.awake.Awake.unlist.Goals as goal

pub returns-then-slot-len-clause-sound : goal.returns-then-slot-len-clause-sound
returns-then-slot-len-clause-sound c = λ place o x letter kept at below sound.
    unlisted_sound o c.args.self.now c.unlist_card.new.self c.args.slot c.args.letter.0 place x c.unlist_card.ensures.carded c.unlist_card.ensures.others c.unlist_card.ensures.card kept
    (record { letter = letter; below = below }) at sound

pub returns-then-slot-len-clause-on : goal.returns-then-slot-len-clause-on
returns-then-slot-len-clause-on c = λ k e other was. elim (cases_eq k c.args.slot) [
  | inl same ↦ subst (λ (n : ℕ). IsOn (card_at c.unlist_card.new.self n) e) (sym same) (c.unlist_card.ensures.card.kept e (λ is. other same is) (subst (λ (n : ℕ). IsOn (card_at c.args.self.now n) e) same was))
  | inr differs ↦ subst (λ (d : Card). IsOn d e) (sym (c.unlist_card.ensures.others k differs)) was
]

pub returns-then-slot-len-clause-unchanged : goal.returns-then-slot-len-clause-unchanged
returns-then-slot-len-clause-unchanged c = there_same c.args.self.now.cards c.unlist_card.new.self.cards c.unlist_card.ensures.size (λ k. elim (cases_eq k c.args.slot) [
  | inl same ↦ subst (λ (n : ℕ). (card_at c.unlist_card.new.self n).age ≡ (card_at c.args.self.now n).age) (sym same) c.unlist_card.ensures.card.age
  | inr differs ↦ ap (λ (d : Card). d.age) (c.unlist_card.ensures.others k differs)
])
