use Rattle.std.proofs.Common.{◌<◌, ◌^◌, length, sym, ap, ◌∙◌, subst}
use Rattle.jm_machine.specs.Engines.{HasParams, IsEngineOf, categories_of_engine}
use Rattle.jm_machine.specs.Known.{engine_of, IsPrepared}
use Rattle.jm_machine.specs.PropertyMeanings.{property_rules_of}
use Rattle.jm_machine.specs.CompiledProperties.{numbers_of}
use Rattle.jm_machine.proofs.GoalLemmas.{bits_below}
use Rattle.jm_machine.proofs.MakingLemmas.{made_rules, made_goal, made_set}
use Rattle.jm_machine.proofs.PropertyLemmas.{groups_within}
use Rattle.jm_machine.proofs.property.Property.new.Goals as goal

pub new-requires-clause-groups : goal.new-requires-clause-groups
new-requires-clause-groups c =
    let handling = c.args.handling in
    groups_within handling.categories handling.handlers c.in_ok-goal.goal.groups (categories_of_engine c.args.engine) (c.requires.engine.categories ∙ ap length (sym c.requires.categories)) c.in_ok-goal.ensures.groups

pub invariant_of-result : goal.invariant_of-result
invariant_of-result c =
    let t = c.args.tree.now.table in
    let handling = c.args.handling in
    let prepared = c.in_ok-engine.engine in
    let engine = subst (IsEngineOf t.events c.args.formula) (sym c.in_ok-engine.ensures.engine) c.requires.engine in
    let goal = c.in_ok-goal.goal in
    let masks = c.in_ok-masks.masks.items in
    let filled = c.in_ok-masks.ensures.value in
    let creation = c.in_ok-goal.ensures.creation in
    rw c.into_handlers.ensures (
      made_goal t c.args.formula masks handling.handlers goal filled creation handling.categories c.requires.categories c.in_ok-goal.ensures.groups c.in_ok-masks.ensures.bounded
          (bits_below goal.resets (length handling.handlers) (subst (λ n. n < 2 ^ length handling.handlers) (sym c.in_ok-goal.ensures.resets) c.requires.handling.there)),
      made_set t c.args.formula masks handling.handlers goal filled creation (engine_of prepared) engine,
      record {
        events = t;
        masks = filled;
        few = c.in_ok-masks.ensures.bytes;
        kind = engine.kind;
        bound = subst (λ masks. HasParams masks (engine_of prepared)) (sym filled) engine.params;
        told = subst (λ coarse. IsPrepared goal t coarse prepared) c.cut_rule_of-cut_rule.ensures c.in_ok-engine.ensures.liveness;
      },
    )

pub returns-clause-rules : goal.returns-clause-rules
returns-clause-rules c =
    let t = c.args.tree.now.table in
    let full = c.args.tree.now.full_binding in
    let handlers = c.args.handling.handlers in
    rw c.into_handlers.ensures
    (made_rules t c.args.formula c.in_ok-masks.masks.items handlers c.in_ok-goal.goal c.in_ok-masks.ensures.value c.in_ok-goal.ensures.creation full c.in_ok-goal.ensures.must_bind
    ∙ ap (λ n. property_rules_of t full c.args.formula handlers (numbers_of n (length handlers))) c.in_ok-goal.ensures.resets)
