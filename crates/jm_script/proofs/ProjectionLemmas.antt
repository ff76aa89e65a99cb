-- One line more of a projection.
use Rattle.std.proofs.Common.{ℕ, ◌≡◌, ◌<◌, ◌+◌, Bool, true, false, cond, List, [], ◌∷◌, ◌++◌, length, get_or, drop, Some, None, refl, sym, ap, ◌∙◌, append_assoc, slice_get, subst}
use mathlib.Core.List.{IsPrefix}
use Rattle.std.specs.Prelude.{Result, Ok, Err, OnErr}
use Rattle.std.proofs.lemmas.List.{drop_more}
use Rattle.std.proofs.lemmas.Option.{get_or_from_slice_get, slice_get_within}
use Rattle.jm_model.specs.declared.step.Step.{Step}
use Rattle.jm_semantics.specs.Scripts.{projection_of, is_for}
use Rattle.jm_script.specs.declared.script.ScriptLine.{ScriptLine}
use Rattle.jm_script.specs.Projections.{script_of, spec_of, step_of}

pub taken : {X : Type 0} (b : Bool) (x y : X) → Some x ≡ cond b (Some y) None → (b ≡ true) × (x ≡ y)
taken true x y e = (refl, cc)
taken false x y e = cc

pub skipped : {X : Type 0} (b : Bool) (y : X) → None ≡ cond b (Some y) None → b ≡ false
skipped true y e = cc
skipped false y e = refl

module _ (lines : List ScriptLine) (i s : ℕ) (d : ScriptLine) (steps whole : List (ℕ × Step)) (lt : i < length lines) (before : steps ++ projection_of (script_of (drop i lines)) s ≡ whole) where
  there : steps ++ projection_of (script_of (get_or lines i d ∷ drop (i + 1) lines)) s ≡ whole
  there = ap (λ ls. steps ++ projection_of (script_of ls) s) (sym (drop_more lines i d lt)) ∙ before

  pub skip_more : is_for s (spec_of (get_or lines i d).target) ≡ false → steps ++ projection_of (script_of (drop (i + 1) lines)) s ≡ whole
  skip_more e = rw e at there

  pub step_more : (step : Step) → is_for s (spec_of (get_or lines i d).target) ≡ true → step ≡ step_of (get_or lines i d).target → (steps ++ ((get_or lines i d).line, step) ∷ []) ++ projection_of (script_of (drop (i + 1) lines)) s ≡ whole
  step_more step e same =
      append_assoc steps (((get_or lines i d).line, step) ∷ []) (projection_of (script_of (drop (i + 1) lines)) s)
      ∙ ap (λ x. steps ++ ((get_or lines i d).line, x) ∷ projection_of (script_of (drop (i + 1) lines)) s) same
      ∙ (rw e at there)

-- with the line at a place
module _ (lines : List ScriptLine) (i s : ℕ) (l : ScriptLine) (steps whole : List (ℕ × Step)) (at : slice_get lines i ≡ Some l) (before : steps ++ projection_of (script_of (drop i lines)) s ≡ whole) where
  same : get_or lines i l ≡ l
  same = get_or_from_slice_get lines i l l at

  pub skip_line : None ≡ cond (is_for s (spec_of l.target)) (Some (step_of l.target)) None → steps ++ projection_of (script_of (drop (i + 1) lines)) s ≡ whole
  skip_line e = skip_more lines i s l steps whole (slice_get_within lines i l at) before (rw same (skipped (is_for s (spec_of l.target)) (step_of l.target) e))

  pub step_line : (step : Step) → Some step ≡ cond (is_for s (spec_of l.target)) (Some (step_of l.target)) None → (steps ++ (l.line, step) ∷ []) ++ projection_of (script_of (drop (i + 1) lines)) s ≡ whole
  step_line step e =
      let is = taken (is_for s (spec_of l.target)) step (step_of l.target) e in
      subst (λ (k : ScriptLine). (steps ++ (k.line, step) ∷ []) ++ projection_of (script_of (drop (i + 1) lines)) s ≡ whole) same
      (step_more lines i s l steps whole (slice_get_within lines i l at) before step (rw same is.0) (rw same is.1))

-- what is in front stays there with a step more
pub prefix_more : (front steps more : List (ℕ × Step)) (step : ℕ × Step) → IsPrefix front steps → more ≡ steps ++ step ∷ [] → IsPrefix front more
prefix_more front steps more step kept pushed =
    (kept.0 ++ step ∷ [], sym (append_assoc front kept.0 (step ∷ [])) ∙ ap (λ l. l ++ step ∷ []) kept.1 ∙ sym pushed)

pub on_err : {T E X : Type 0} (r : Result T E) → X → OnErr r X
on_err (Ok v) x = tt
on_err (Err e) x = x
