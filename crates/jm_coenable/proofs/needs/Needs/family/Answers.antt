use Rattle.std.proofs.Common.{ℕ, ◌≡◌, ◌↔◌, List, Vec, Global, length, Contains, sym, ap, subst, ◌∙◌, arith}
use Rattle.jm_coenable.specs.Needs.{NeedSets, IsInFamily, set_at}
use Rattle.jm_coenable.proofs.FillLemmas.{read_is, family_is}
use Rattle.jm_coenable.proofs.needs.Needs.family.Goals as goal

pub returns-clause-exact : goal.returns-clause-exact
returns-clause-exact c = λ t g v needs.
    let letter = c.args.letter.0 in
    let items : c.self.inside.families.items ≡ c.args.self.now.families = ap (λ (n : NeedSets). n.families) c.self.view_is in
    let at = read_is c.self.inside.families.items c.index.result.now letter c.index.ensures (omega (arith, c.requires, ap (λ (s : List (List ℕ)). length s) items)) in
    let here = at ∙ ap (λ (s : List (List ℕ)). set_at s letter) items in
    family_is (λ (masks : Vec ℕ Global). masks.items) c.masks.result c.index.result.now (λ (mask : ℕ). IsInFamily t g v letter mask) c.masks.ensures.exact
    (λ mask few. subst (λ (s : List ℕ). Contains s mask ↔ IsInFamily t g v letter mask) (sym here) (needs.families letter mask (omega (arith, c.requires, needs.letters)) few))
