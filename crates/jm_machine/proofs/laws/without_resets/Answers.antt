use Rattle.std.proofs.Common.{refl}
use Rattle.jm_machine.specs.Meanings.{rules_about, rules_meaning}
use Rattle.jm_machine.specs.PropertyMeanings.{property_meaning}
use Rattle.jm_machine.proofs.LawLemmas.{hit_plainly}
use Rattle.jm_machine.proofs.ProductLemmas.{hit_of}
use Rattle.jm_machine.proofs.RuleLemmas.{created_same}
use Rattle.jm_machine.proofs.laws.without_resets.Goals as goal

pub returns : goal.returns
returns c = λ r j p at w i less none.
    let of = hit_of r j p at w i less in
    let law = hit_plainly (rules_about r p) none w i in
    let m = property_meaning (rules_about r p) in (
      λ hit. let h = law.0 (of.0 hit) in (h.0, created_same m (rules_meaning r) refl w h.1, h.2),
      λ h. of.1 (law.1 (h.0, created_same (rules_meaning r) m refl w h.1, h.2)),
    )
