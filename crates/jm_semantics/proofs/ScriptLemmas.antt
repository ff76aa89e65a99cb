use Rattle.std.proofs.Common.{◌≡◌, ℕ, zero, suc, ◌<◌, List, [], ◌∷◌, refl, ap, arith, lit<}
use Rattle.std.specs.Prelude.{Some, map, slice_get, ◌≢◌}
use Rattle.std.proofs.lemmas.Option.{same_Some}
use Rattle.std.proofs.lemmas.List.Elements.{All-from_recursion}
use Rattle.jm_model.specs.declared.step.Entry.{Entry}
use Rattle.jm_model.specs.declared.step.Step.{Step}
use Rattle.jm_model.specs.declared.step.Outcome.TheVariants.{NoMemory}
use Rattle.jm_semantics.specs.Scripts.{ScriptLine, projection_of, steps_of, IsInterleaving}
use Rattle.jm_semantics.specs.ScriptExamples.{scripts, interleaved, swapped}

abbrev projections : List (List (ℕ × Step))
projections = map (λ (script : List ScriptLine). projection_of script 0) scripts

each-caller : (k : ℕ) → k < 2 → slice_get projections k ≡ Some (steps_of k interleaved)
each-caller zero h = refl
each-caller (suc zero) h = refl
each-caller (suc (suc k)) h = absurd (omega (arith, h))

abbrev first_line : List (ℕ × Step) → ℕ
first_line [] = 0
first_line (s ∷ steps) = s.0

pub interleaved-lem : IsInterleaving interleaved (map (λ (script : List ScriptLine). projection_of script 0) scripts)
interleaved-lem = record {
  callers = All-from_recursion (λ (x : Entry). x.caller < 2) interleaved (lit< tt, (lit< tt, (lit< tt, (lit< tt, tt))));
  done = All-from_recursion (λ (x : Entry). x.outcome ≢ NoMemory) interleaved ((λ e. cc), ((λ e. cc), ((λ e. cc), ((λ e. cc), tt))));
  each = each-caller;
}

-- the first caller's first line comes first
pub swapped-not : IsInterleaving swapped (map (λ (script : List ScriptLine). projection_of script 0) scripts) → ⊥
swapped-not i =
    let first : steps_of 0 interleaved ≡ steps_of 0 swapped = same_Some (steps_of 0 interleaved) (steps_of 0 swapped) (i.each 0 (lit< tt)) in
    let line : 1 ≡ 3 = ap first_line first in
    absurd (omega (arith, line))
