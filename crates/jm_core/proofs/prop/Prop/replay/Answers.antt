use Rattle.std.proofs.Common.{◌+◌, ◌++◌, [], ◌∷◌, ℕ, List, take, sym, ◌∙◌, ap, subst}
use mathlib.Core.List.{IsPrefix}
use Rattle.std.proofs.lemmas.Result.{err_from_is_err_and}
use Rattle.jm_model.specs.declared.step.Step.{Step}
use Rattle.jm_model.specs.declared.step.Outcome.{Outcome}
use Rattle.jm_history.specs.Nodes.{answered}
use Rattle.jm_semantics.specs.Legality.{IsLegal}
use Rattle.jm_core.specs.Cores.{Core, IsExtended, FitsHistory}
use Rattle.jm_core.specs.Replays.{Replayed}
use Rattle.jm_core.proofs.FitLemmas.{fits_history}
use Rattle.jm_core.proofs.ReplayLemmas.{replayed_none, replayed_more, stopped_before, stopped_after, take_with_item, take_is_prefix}
use Rattle.jm_core.proofs.prop.Prop.replay.Goals as goal

pub loop-line-init : goal.loop-line-init
loop-line-init g c = record {
  done = replayed_none c.args.caller c.args.self.now;
  legal = subst (λ (core : Core g.row.M-Definition.Denot). IsLegal (g.M.Monitor.meaning core.definition) core.entries) c.self.view_is c.self.invariant.0.legal;
  fits = subst (λ (core : Core g.row.M-Definition.Denot). FitsHistory (g.M.Monitor.meaning core.definition) core.entries core.stored core.marks) c.self.view_is
      (fits_history (g.M.Monitor.meaning (g.M.Monitor.definition c.self.inside.rules)) (g.M.Monitor.StandsFor c.self.inside.rules) c.self.inside.history c.self.inside.objects c.self.inside.live.store c.self.invariant.0);
}

pub loop-line-preserved : goal.loop-line-preserved
loop-line-preserved g c =
    let steps = c.args.steps.now in
    let i = c.loop-line.line-index in
    let item = c.loop-line-item.result in
    let u = c.in_ok-node.node in
    let next = c.step.new.self in
    let added = rw c.node.ensures.unchanged at c.step.ensures.added in
    let grown = replayed_more c.args.caller (take i steps) c.args.self.now c.loop-line.self next u c.step.result (ap (λ n. n.caller) c.in_ok-node.ensures.node) c.in_default.not-NoMemory c.loop-line.invariant.done added in
    let at_item : Replayed c.args.caller (take i steps ++ item ∷ []) c.args.self.now next =
    subst (λ (s : ℕ × Step). Replayed c.args.caller (take i steps ++ s ∷ []) c.args.self.now next) (ap (λ n. (n.line, n.step)) c.in_ok-node.ensures.node) grown in
    record {
      done = subst (λ (l : List (ℕ × Step)). Replayed c.args.caller l c.args.self.now next) (sym (take_with_item steps i item c.loop-line-test.true c.loop-line-item.is)) at_item;
      legal = c.step.ensures.legal;
      fits = c.step.ensures.fits;
    }

pub returns-in_err-node-clause-err : goal.returns-in_err-node-clause-err
returns-in_err-node-clause-err g c =
    let p = err_from_is_err_and c.from_residual.result c.from_residual.ensures.1 in
    rw (c.node.ensures.unchanged, p.1)
    (stopped_before c.args.caller (take c.loop-line.line-index c.args.steps.now) c.args.steps.now c.args.self.now c.loop-line.self (take_is_prefix c.loop-line.line-index c.args.steps.now) c.loop-line.invariant.done)

pub returns-in-NoMemory-clause-err : goal.returns-in-NoMemory-clause-err
returns-in-NoMemory-clause-err g c =
    let steps = c.args.steps.now in
    let i = c.loop-line.line-index in
    let item = c.loop-line-item.result in
    let u = c.in_ok-node.node in
    let next = c.step.new.self in
    let added = rw c.node.ensures.unchanged at c.step.ensures.added in
    let within : IsPrefix (take i steps ++ (u.line, u.step) ∷ []) steps =
    subst (λ (l : List (ℕ × Step)). IsPrefix l steps)
    (take_with_item steps i item c.loop-line-test.true c.loop-line-item.is ∙ ap (λ n. take i steps ++ (n.line, n.step) ∷ []) (sym c.in_ok-node.ensures.node))
    (take_is_prefix (i + 1) steps) in
    stopped_after c.args.caller (take i steps) steps c.args.self.now c.loop-line.self next u (ap (λ n. n.caller) c.in_ok-node.ensures.node) within c.loop-line.invariant.done
    (subst (λ (o : Outcome). IsExtended c.loop-line.self next (answered u o ∷ [])) c.in-NoMemory.is added)
