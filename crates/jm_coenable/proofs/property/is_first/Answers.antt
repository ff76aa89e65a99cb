use Rattle.std.proofs.Common.{ℕ, inl, inr, IsBitSet, sym, subst, ◌∙◌}
use Rattle.std.specs.Int.{bit_at}
use Rattle.std.proofs.lemmas.Bool.{eqb-true, eq-eqb}
use Rattle.std.proofs.lemmas.Nat.{bit_set_by_shift}
use Rattle.std.proofs.lemmas.Nat.Bits.{shr_and_one}
use Rattle.jm_coenable.proofs.property.is_first.Goals as goal

pub returns-else-creation-eq0 : goal.returns-else-creation-eq0
returns-else-creation-eq0 c =
    let creation = c.creation-creation.result in
    let letter = c.args.letter.0 in
    let e = c.creation-creation.ensures in
    let bit = bit_set_by_shift creation letter in
    let one = shr_and_one creation letter in (
      λ h. inr (subst (λ (n : ℕ). IsBitSet n letter) e (bit.0 (one ∙ eqb-true (bit_at creation letter) 1 (sym c.contains.ensures ∙ h)))),
      λ h. elim h [
        | inl none ↦ absurd (c.if-creation-eq0.false (e ∙ none))
        | inr set ↦ c.contains.ensures ∙ eq-eqb (bit_at creation letter) 1 (sym one ∙ bit.1 (subst (λ (n : ℕ). IsBitSet n letter) (sym e) set))
      ],
    )
