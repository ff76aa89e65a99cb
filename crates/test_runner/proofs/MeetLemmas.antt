-- What a meeting's monitor hits, and that its watches can run the scripts that fit.
use Rattle.std.proofs.Common.{◌≡◌, ◌≤◌, ◌<◌, ℕ, zero, suc, List, [], ◌∷◌, Some, slice_get, true, false, refl, sym, subst, inl, arith}
use Rattle.std.specs.Prelude.{◌↔◌, All, IsBitSet}
use Rattle.std.proofs.lemmas.Option.{same_Some}
use Rattle.std.proofs.lemmas.List.Elements.{All-nil, All-cons, All-head, All-tail, All-weaker}
use mathlib.Core.Bool.{true≢false}
use Rattle.jm_model.specs.Bindings.{objects_of}
use Rattle.jm_model.specs.Meanings.{IsHit}
use Rattle.jm_model.specs.declared.step.Step.{Step}
use Rattle.jm_model.specs.declared.step.Step.TheVariants.{Event, Death, Pass}
use Rattle.jm_semantics.specs.Scripts.{projection_of}
use Rattle.jm_core.specs.Steps.{IsFitStep}
use Rattle.jm_script.specs.declared.script.ScriptLine.{ScriptLine}
use Rattle.jm_script.specs.Catalogs.{CatalogEntry}
use Rattle.jm_script.specs.Fitting.{FitsCatalog, FitsSpecification}
use Rattle.jm_script.specs.Projections.{script_of}
use Rattle.jm_script.proofs.FittingLemmas.{projection_fits}
use Rattle.jm_turn.specs.Seats.{LockModel, SeatModel}
use Rattle.jm_model.specs.declared.step.Entry.{Entry}
use Rattle.jm_dispatch.specs.declared.watched.Fixed.{Fixed}
use Rattle.jm_runner.specs.Runs.{AreFitSteps, CanRun, projections_of}
use Rattle.testkit_monitor.specs.Tables.{has_letter}
use Rattle.testkit_monitor.proofs.TableLemmas.{bit_below}
use Rattle.test_runner.specs.Meets.{meet_meaning, IsMeeting, FitsBoth, IsFresh}

pub hits_moved : (w : List ℕ) (k : ℕ) → has_letter w ≡ true → IsBitSet 1 k ↔ IsHit meet_meaning w k
hits_moved [] k some = absurd (true≢false (sym some))
hits_moved (e ∷ w) k some = (
  (λ set. ((λ (none : e ∷ w ≡ []). absurd cc), inl refl, bit_below 1 1 k (omega arith) set, tt)),
  (λ hit. subst (λ (n : ℕ). IsBitSet 1 n) (first k hit.2) (λ none. absurd (omega arith))),
)
  where
    first : (n : ℕ) → n < 1 → 0 ≡ n
    first n less = omega arith

pub hits_unmoved : (w : List ℕ) (k : ℕ) → has_letter w ≡ false → IsBitSet 0 k ↔ IsHit meet_meaning w k
hits_unmoved [] k none = ((λ set. absurd (set refl)), (λ hit. absurd (hit.0 refl)))
hits_unmoved (e ∷ w) k none = absurd (true≢false none)

module _ (catalog : List CatalogEntry) (names spec : ℕ) (few : names ≤ 2) where
  fit_step : (x : Step) → IsMeeting x → FitsSpecification catalog names spec x → IsFitStep meet_meaning 2 x
  fit_step (Event e b) meets fits = (meets, All-weaker (λ o. o < names) (λ o. o < 2) (λ o less. omega arith) (objects_of b) fits.named)
  fit_step (Death o) meets fits = below o fits
    where
      below : (n : ℕ) → n < names → n < 2
      below n less = omega arith
  fit_step Pass meets fits = tt

  fit_steps : (steps : List (ℕ × Step)) → All (λ (p : ℕ × Step). IsMeeting p.1) steps → All (λ (p : ℕ × Step). FitsSpecification catalog names spec p.1) steps → AreFitSteps meet_meaning 2 steps
  fit_steps [] meet fit = All-nil (λ (p : ℕ × Step). IsFitStep meet_meaning 2 p.1)
  fit_steps (x ∷ xs) meet fit =
      All-cons (λ (p : ℕ × Step). IsFitStep meet_meaning 2 p.1) x xs
      (fit_step x.1 (All-head (λ (p : ℕ × Step). IsMeeting p.1) x xs meet) (All-head (λ (p : ℕ × Step). FitsSpecification catalog names spec p.1) x xs fit))
      (fit_steps xs (All-tail (λ (p : ℕ × Step). IsMeeting p.1) x xs meet) (All-tail (λ (p : ℕ × Step). FitsSpecification catalog names spec p.1) x xs fit))

-- a script over a catalog that gives its objects so few names, all of whose events meet, fits both watches
pub fits_both : (catalog : List CatalogEntry) (names : ℕ) (script : List ScriptLine) → names ≤ 2 → FitsCatalog catalog names script
    → All (λ (p : ℕ × Step). IsMeeting p.1) (projection_of (script_of script) 0) → All (λ (p : ℕ × Step). IsMeeting p.1) (projection_of (script_of script) 1) → FitsBoth script
fits_both catalog names script few fits zeroth first zero less = fit_steps catalog names 0 few (projection_of (script_of script) 0) zeroth (projection_fits catalog names 0 script fits)
fits_both catalog names script few fits zeroth first (suc zero) less = fit_steps catalog names 1 few (projection_of (script_of script) 1) first (projection_fits catalog names 1 script fits)
fits_both catalog names script few fits zeroth first (suc (suc s)) less = absurd (omega arith)

module _ {D : Type 0} (a b : List ScriptLine) (fits : FitsBoth a × FitsBoth b) where
  can_run : (s : ℕ) (watch : LockModel (Fixed D)) (seats : List (SeatModel Entry (Fixed D))) → s < 2 → IsFresh watch seats → CanRun meet_meaning (a ∷ b ∷ []) s watch seats
  can_run s watch seats less fresh = record {
    count = fresh.count;
    all = fresh.all;
    newcomers = fresh.newcomers;
    fitting = subst (λ (n : ℕ). All (λ steps. AreFitSteps meet_meaning n steps) (projections_of (a ∷ b ∷ []) s)) (sym fresh.objects)
        (All-cons (λ steps. AreFitSteps meet_meaning 2 steps) (projection_of (script_of a) s) (projection_of (script_of b) s ∷ []) (fits.0 s less)
        (All-cons (λ steps. AreFitSteps meet_meaning 2 steps) (projection_of (script_of b) s) [] (fits.1 s less) (All-nil (λ steps. AreFitSteps meet_meaning 2 steps))));
  }

  -- two watches that are fresh can run the scripts
  pub ready_both : {V : Type 0} (watch : V → LockModel (Fixed D)) (seats : V → List (SeatModel Entry (Fixed D))) (one two : V) → IsFresh (watch one) (seats one) → IsFresh (watch two) (seats two)
      → (s : ℕ) (r : V) → slice_get (one ∷ two ∷ []) s ≡ Some r → CanRun meet_meaning (a ∷ b ∷ []) s (watch r) (seats r)
  ready_both watch seats one two fresh other zero r at = can_run 0 (watch r) (seats r) (omega arith) (subst (λ v. IsFresh (watch v) (seats v)) (same_Some one r at) fresh)
  ready_both watch seats one two fresh other (suc zero) r at = can_run 1 (watch r) (seats r) (omega arith) (subst (λ v. IsFresh (watch v) (seats v)) (same_Some two r at) other)
  ready_both watch seats one two fresh other (suc (suc s)) r at = absurd (cc (at))
