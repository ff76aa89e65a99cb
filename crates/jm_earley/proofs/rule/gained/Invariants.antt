use Rattle.std.proofs.Common.{◌≡◌, ◌-◌, ◌^◌, drop}
use Rattle.jm_earley.specs.Rules.{with_rules}
use Rattle.jm_earley.proofs.RuleLemmas.{IsSound}
use Rattle.jm_earley.proofs.rule.gained.Given as goal

abbrev pub invariant-rounds : goal.invariant-rounds
invariant-rounds l = IsSound l.rules l.known

abbrev pub decreases-rounds : goal.decreases-rounds
decreases-rounds l = 2 ^ 64 - l.known

abbrev pub invariant-loop-rule : goal.invariant-loop-rule
invariant-loop-rule l = with_rules (drop l.rule-index l.rules) l.next ≡ with_rules l.rules l.known
