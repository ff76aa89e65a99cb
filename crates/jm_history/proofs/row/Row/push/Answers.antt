use Rattle.std.proofs.Common.{List, [], ◌∷◌, ◌++◌, ap, ◌∙◌, sym, arith}
use Rattle.jm_model.specs.declared.step.Entry.{Entry}
use Rattle.jm_history.specs.declared.row.Short.{Short}
use Rattle.jm_history.specs.Nodes.{answered}
use Rattle.jm_history.proofs.RowLemmas.{entries_in-push, fit-push, shared-grown}
use Rattle.jm_history.proofs.row.Row.push.Goals as goal

pub invariant_of-self : goal.invariant_of-self
invariant_of-self c =
    let old = c.self.inside in
    let is = c.self.invariant in
    let step = c.shortened-step.ensures in
    let kept = c.kept-outcome.ensures in
    let s : Short = record { caller = c.args.caller; line = c.args.line; step = c.shortened-step.result; outcome = c.kept-outcome.result } in
    record {
      fit = fit-push old.objects.items c.shortened-step.new.objects.items old.outcomes.items c.kept-outcome.new.outcomes.items old.shorts.items c.push_reserved.new.self.items s c.args.step.now step.objects c.push_reserved.ensures.items is.fit kept.grown step.short kept.within;
      shared = shared-grown old.outcomes.items c.kept-outcome.new.outcomes.items is.shared kept.grown;
      entries = omega (arith, is.entries, c.push_reserved.ensures.len, c.push_reserved.ensures.capacity, c.if-self-eq0.false);
      objects_room = omega (arith, is.objects_room, step.len, step.capacity, c.if-self-eq0.false);
      outcomes_room = omega (arith, is.outcomes_room, kept.len, kept.capacity, c.if-self-eq0.false);
      object_places = λ some. let most = is.object_places (omega arith) in omega (arith, most, step.len, c.if-self-eq0.false);
      outcome_places = λ some. let most = is.outcome_places (omega arith) in omega (arith, most, kept.len, c.if-self-eq0.false);
    }

pub returns : goal.returns
returns c =
    let old = c.self.inside in
    let is = c.self.invariant in
    let step = c.shortened-step.ensures in
    let kept = c.kept-outcome.ensures in
    let s : Short = record { caller = c.args.caller; line = c.args.line; step = c.shortened-step.result; outcome = c.kept-outcome.result } in
    entries_in-push old.objects.items c.shortened-step.new.objects.items old.outcomes.items c.kept-outcome.new.outcomes.items old.shorts.items c.push_reserved.new.self.items s c.args.step.now c.args.outcome step.objects c.push_reserved.ensures.items is.fit kept.grown step.eight step.short kept.outcome
    ∙ ap (λ (l : List Entry). l ++ answered (record { caller = c.args.caller; line = c.args.line; step = c.args.step.now }) c.args.outcome ∷ []) c.self.view_is
