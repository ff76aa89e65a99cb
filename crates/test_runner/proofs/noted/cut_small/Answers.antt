use Rattle.std.proofs.Common.{◌≡◌, ◌<◌, ◌-◌, ◌^◌, List, ℕ, length, ap, arith}
use Rattle.std.specs.Prelude.{All, IfOk, MatchResult, Result, Ok, Err}
use Rattle.std.proofs.lemmas.List.Elements.{All-weaker}
use Rattle.jm_sync.specs.declared.line.SyncLine.{SyncLine}
use Rattle.jm_sync.specs.declared.line.Cut.{Cut}
use Rattle.jm_sync.specs.Cuts.{names_after, IsExtension}
use Rattle.jm_sync.proofs.CutLemmas.{length-names_after}
use Rattle.test_runner.proofs.noted.cut_small.Goals as goal

pub cut-requires-clause-bounded : goal.cut-requires-clause-bounded
cut-requires-clause-bounded c = omega (arith, length-names_after c.args.names.now c.args.bytes.now)

-- names that are few have small numbers
few_named : {E : Type 0} (r : Result Cut E) (names after : List (List ℕ)) (Q : E → Type 0) → MatchResult r (λ _. names ≡ after) Q → IfOk r (λ cut. All (λ (l : SyncLine). l.name < length names) cut.lines.items) → length after < 2 ^ 32 - 1 → IfOk r (λ cut. All (λ (l : SyncLine). l.name < 2 ^ 32 - 1) cut.lines.items)
few_named (Ok cut) names after Q is named few =
    All-weaker (λ (l : SyncLine). l.name < length names) (λ (l : SyncLine). l.name < 2 ^ 32 - 1) (λ l low. omega (arith, low, few, ap (λ v. length v) is)) cut.lines.items named
few_named (Err e) names after Q is named few = tt

pub returns-clause-named : goal.returns-clause-named
returns-clause-named c =
    few_named c.cut.result c.cut.new.names (names_after c.args.names.now c.args.bytes.now) (λ _. IsExtension c.args.names.now c.cut.new.names) c.cut.ensures.ok c.cut.ensures.named (omega (arith, length-names_after c.args.names.now c.args.bytes.now))
