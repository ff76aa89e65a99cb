-- The order that scripts ask for, at an example: script 0 does lines 1 and 2 and posts a name at line 3; script 1 waits
-- for it at line 1 and does line 2.
use Rattle.std.proofs.Common.{◌≡◌, ℕ, ◌≤◌, List, [], ◌∷◌, refl, arith}
use Rattle.std.proofs.lemmas.List.Elements.{All-head, All-tail}
use Rattle.jm_model.specs.declared.step.Step.TheVariants.{Pass}
use Rattle.jm_model.specs.declared.step.Outcome.TheVariants.{Done}
use Rattle.jm_model.specs.declared.step.Entry.{Entry}
use Rattle.jm_sync.specs.declared.line.SyncLine.{SyncLine}
use Rattle.jm_runner.specs.Orders.{post_at, wait_at, IsOrdered}

entry : ℕ → ℕ → Entry
entry caller line = record { caller = caller; line = line; step = Pass; outcome = Done }

asked : List (List SyncLine)
asked = (post_at 3 7 ∷ []) ∷ (wait_at 1 7 ∷ []) ∷ []

-- with line 2 of script 1 in the middle, a history isn't ordered
refused : IsOrdered (entry 0 1 ∷ entry 1 2 ∷ entry 0 2 ∷ []) asked → ⊥
unfolding entry asked
refused ordered =
    let from = ordered 0 3 1 1 7 (post_at 3 7 ∷ []) (wait_at 1 7 ∷ []) refl refl (0, omega arith, refl) (0, omega arith, refl) (entry 0 1 ∷ []) (entry 0 2 ∷ []) (entry 1 2) refl refl (omega arith) in
    let low : 3 ≤ 2 = All-head (λ (x : Entry). x.caller ≡ 0 → 3 ≤ x.line) (entry 0 2) [] (All-tail (λ (x : Entry). x.caller ≡ 0 → 3 ≤ x.line) (entry 1 2) (entry 0 2 ∷ []) from) refl in
    omega (arith, low)
