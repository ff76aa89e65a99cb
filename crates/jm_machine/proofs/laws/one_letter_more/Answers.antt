use Rattle.std.proofs.Common.{[], ◌∷◌, ◌++◌, inl, inr, refl}
use Rattle.jm_machine.specs.Meanings.{rules_about, rules_meaning}
use Rattle.jm_machine.specs.PropertyMeanings.{property_meaning}
use Rattle.jm_machine.proofs.LawLemmas.{hit_more, rest_more}
use Rattle.jm_machine.proofs.ProductLemmas.{hit_of}
use Rattle.jm_machine.proofs.RuleLemmas.{created_same}
use Rattle.jm_machine.proofs.laws.one_letter_more.Goals as goal

pub returns-clause-hit : goal.returns-clause-hit
returns-clause-hit c = λ r j p at w rest e i less left created.
    let of = hit_of r j p at (w ++ e ∷ []) i less in
    let law = hit_more (rules_about r p) w rest e left (created_same (rules_meaning r) (property_meaning (rules_about r p)) refl (w ++ e ∷ []) created) i in
    (λ hit. law.0 (of.0 hit), λ held. of.1 (law.1 held))

pub returns-clause-rest : goal.returns-clause-rest
returns-clause-rest c = λ r j p at w rest e after left created.
    let word = w ++ e ∷ [] in
    let law = rest_more (rules_about r p) w rest e left (created_same (rules_meaning r) (property_meaning (rules_about r p)) refl word created) after in (
      λ h. elim (law.0 h) [
        | inl reset ↦ let hit = reset.0 in inl ((hit.0, hit.2.2, hit.1, (hit_of r j p at word hit.0 hit.2.2).1 hit.2), reset.1)
        | inr on ↦ inr (λ hit. on.0 (hit.0, hit.2, (hit_of r j p at word hit.0 hit.1).0 hit.3), on.1)
      ],
      λ h. law.1 (elim h [
        | inl reset ↦ let hit = reset.0 in inl ((hit.0, hit.2, (hit_of r j p at word hit.0 hit.1).0 hit.3), reset.1)
        | inr on ↦ inr (λ hit. on.0 (hit.0, hit.2.2, hit.1, (hit_of r j p at word hit.0 hit.2.2).1 hit.2), on.1)
      ]),
    )
