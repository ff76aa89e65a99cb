use Rattle.std.specs.Prelude.{IsTrue}
use Rattle.std.proofs.Common.{◌≡◌, ◌<◌, ◌-◌, ◌↔◌, rules, sym, subst, ◌∙◌, arith}
use Rattle.std.proofs.lemmas.Option.{slice_get_read}
use Rattle.jm_fsm.specs.declared.machine.Destination.TheVariants.{Fail}
use Rattle.jm_fsm.specs.Machines.{StateMachine}
use Rattle.jm_fsm.specs.Categories.{category_count}
use Rattle.jm_fsm.proofs.MachineLemmas.{member_of_alias, member_of_fail}
use Rattle.jm_fsm.proofs.machine.Fsm.is_member.Goals as goal

pub returns-then-category-len-2 : goal.returns-then-category-len-2
returns-then-category-len-2 c =
    let t = c.self.inside in
    let at = slice_get_read t.aliases.items c.len-3.result (c.args.category - c.len-2.result) c.index.result.now (c.len-3.ensures ∙ t.aliases.ok.0) c.if-category-len-2.true c.index.ensures in
    let is = member_of_alias (record { states = t.states.items; aliases = t.aliases.items }) c.args.category c.args.destination c.len-2.result (c.args.category - c.len-2.result) c.index.result.now
    (omega (arith, c.len-2.ensures, t.states.ok.0)) (omega (arith, c.if-category-len.false, c.len.ensures, c.len-2.ensures)) (omega arith) at in
    rw (← c.self.view_is) (λ h. is.0 (c.contains.ensures.0 h), λ h. c.contains.ensures.1 (is.1 h))

pub returns : goal.returns
returns c =
    let t = c.self.inside in
    let is = member_of_fail (record { states = t.states.items; aliases = t.aliases.items }) c.args.category c.args.destination c.len-2.result c.len-3.result
    (omega (arith, c.len-2.ensures, t.states.ok.0)) (omega (arith, c.len-3.ensures, t.aliases.ok.0)) (omega (arith, c.if-category-len.false, c.len.ensures, c.len-2.ensures)) c.if-category-len-2.false (subst (λ (x : StateMachine). c.args.category < category_count x) (sym c.self.view_is) c.requires) in
    let fails : IsTrue c.eq-2.result ↔ (c.args.destination ≡ Fail) = search rules in
    rw (← c.self.view_is) (λ h. is.0 (fails.0 h), λ h. fails.1 (is.1 h))
