use Rattle.std.proofs.Common.{ℕ, ◌≡◌, ◌<◌, ◌↔◌, Contains, subst, arith}
use Rattle.jm_coenable.specs.Needs.{IsAlive}
use Rattle.jm_coenable.proofs.FillLemmas.{filled_more}
use Rattle.jm_coenable.proofs.searches.alive_set.Goals as goal

pub loop-number-preserved : goal.loop-number-preserved
loop-number-preserved c =
    filled_more (λ (dead : ℕ). IsAlive (Contains c.args.needed.now) dead) c.loop-number.alive c.insert_if.new.self c.loop-number.number c.is_alive-wanted.result c.loop-number.invariant
    c.is_alive-wanted.ensures c.insert_if.ensures

pub loop-number-init : goal.loop-number-init
loop-number-init c = λ dead. (λ there. absurd (c.new-alive.ensures dead there), λ none. absurd (omega (arith, none.0)))

pub returns : goal.returns
returns c =
    let whole : c.loop-number.number ≡ 256 = omega arith in
    subst (λ (n : ℕ). (dead : ℕ) → Contains c.loop-number.alive dead ↔ ((dead < n) × IsAlive (Contains c.args.needed.now) dead)) whole c.loop-number.invariant
