use Rattle.std.proofs.Common.{ℕ, ◌≡◌, List, length, Contains, sym, ap, subst, ◌∙◌, arith}
use Rattle.jm_coenable.specs.Needs.{NeedSets, set_at}
use Rattle.jm_coenable.proofs.FillLemmas.{read_is}
use Rattle.jm_coenable.proofs.needs.Needs.alive.Goals as goal

pub returns-then-started : goal.returns-then-started
returns-then-started c = λ t g v needs.
    let state = c.args.state in
    let dead = c.args.dead in
    let items : c.self.inside.alive.items ≡ c.args.self.now.alive = ap (λ (n : NeedSets). n.alive) c.self.view_is in
    let at = read_is c.self.inside.alive.items c.index.result.now state c.index.ensures (omega (arith, c.requires, ap (λ (s : List (List ℕ)). length s) items)) in
    let here = at ∙ ap (λ (s : List (List ℕ)). set_at s state) items in
    let tells = needs.alive state dead (omega (arith, c.requires, needs.states)) (omega arith) in (
      λ h. (c.if-started.true, tells.0 (subst (λ (s : List ℕ). Contains s dead) here (c.contains.ensures.member.0 h))),
      λ h. c.contains.ensures.member.1 (subst (λ (s : List ℕ). Contains s dead) (sym here) (tells.1 h.1)),
    )
