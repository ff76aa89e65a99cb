use Rattle.std.proofs.Common.{ℕ, List, Contains, ap, sym, subst, arith}
use Rattle.jm_coenable.specs.Needs.{NeedSets}
use Rattle.jm_coenable.proofs.needs.Needs.alive_at_start.Goals as goal

pub returns : goal.returns
returns c = λ t g v needs.
    let dead = c.args.dead in
    let here = ap (λ (n : NeedSets). n.start) c.self.view_is in
    let tells = needs.start dead (omega arith) in (
      λ h. tells.0 (subst (λ (s : List ℕ). Contains s dead) here (c.contains.ensures.member.0 h)),
      λ h. c.contains.ensures.member.1 (subst (λ (s : List ℕ). Contains s dead) (sym here) (tells.1 h)),
    )
