use Rattle.std.proofs.Common.{◌≡◌, ℕ, ap, ◌∙◌, subst, rules}
use Rattle.std.specs.Int.{bit_at}
use Rattle.std.proofs.lemmas.Nat.Bits.{bit_at-zero}
use Rattle.jm_awake.specs.declared.card.Card.{Card}
use Rattle.jm_awake.specs.Awake.{Lists, IsOn, card_at}
use Rattle.jm_awake.proofs.awake.Awake.wants.Goals as goal

pub returns-in-Some : goal.returns-in-Some
returns-in-Some c = λ none e letter awake.
    let card : c.in-Some.card.now ≡ card_at c.args.self.now c.args.slot = search rules in
    let zero : c.missing.result ≡ 0 = search rules in
    let there : bit_at c.self.inside.letters e ≡ 1 = ap (λ (a : Lists). bit_at a.letters e) c.self.view_is ∙ letter in
    subst (λ (d : Card). IsOn d e) card (c.missing.ensures.all e (c.awake_at.ensures.all e there awake) (ap (λ (n : ℕ). bit_at n e) zero ∙ bit_at-zero e))
