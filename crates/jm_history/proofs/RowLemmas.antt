-- What stands in a row stays as it is when more is put after its objects and its outcomes.
use Rattle.std.proofs.Common.{◌≡◌, ℕ, zero, suc, ◌+◌, ◌*◌, ◌/◌, ◌%◌, ◌<◌, ◌≤◌, List, [], ◌∷◌, ◌++◌, length, map, drop, All, Option, Some, None, refl, sym, ◌∙◌, ap, subst, arith, append-nil, length-append, length-drop}
use Rattle.std.specs.Prelude.{count_ones}
use Rattle.std.specs.Int.Count.{ones_step}
use lib.Count.{ones}
use Rattle.std.proofs.lemmas.List.{drop-append-le, get_or_append_left, map-append}
use Rattle.std.proofs.Math.Seq.{drop-append_seam}
use Rattle.std.proofs.lemmas.List.Elements.{All-head, All-tail, All-weaker, All-push}
use Rattle.jm_model.specs.Bindings.{objects_of, mask_of}
use Rattle.jm_model.specs.declared.step.Step.{Step}
use Rattle.jm_model.specs.declared.step.Step.TheVariants.{Event, Death, Pass}
use Rattle.jm_model.specs.declared.step.Outcome.{Outcome}
use Rattle.jm_model.specs.declared.step.Outcome.TheVariants.{NoMemory}
use Rattle.jm_model.specs.declared.step.Entry.{Entry}
use Rattle.jm_history.specs.declared.row.Short.{Short}
use Rattle.jm_history.specs.declared.row.ShortStep.{ShortStep}
use Rattle.jm_history.specs.declared.row.ShortStep.TheVariants.{Event as ShortEvent, Death as ShortDeath, Pass as ShortPass}
use Rattle.jm_history.specs.Rows.{placed, placed_in, step_of, outcome_at, entry_in, entries_in, short_of, objects_in, IsOfEight, IsShared, Grown, FitsStep, FitsIn}
use Rattle.jm_history.proofs.PlacedLemmas.{placed_back, placed_more}

-- ---- more after
step_of-more : (os more : List ℕ) (s : ShortStep) → FitsStep (length os) s → step_of (os ++ more) s ≡ step_of os s
step_of-more os more (ShortEvent letter mask start) fits =
    let behind = drop-append-le start os more (omega (arith, fits)) in
    let enough : count_ones mask ≤ length (drop start os) = omega (arith, fits, length-drop start os) in
    ap (λ b. Event letter b) (ap (λ l. placed mask l) behind ∙ placed_more 8 mask (drop start os) more enough)
step_of-more os more (ShortDeath object) fits = refl
step_of-more os more ShortPass fits = refl

entry_in-more : (os more : List ℕ) (xs others : List Outcome) (s : Short) → FitsIn (length os) (length xs) s → entry_in (os ++ more) (xs ++ others) s ≡ entry_in os xs s
entry_in-more os more xs others s fits =
    λ i. record {
      caller = s.caller;
      line = s.line;
      step = step_of-more os more s.step fits.0 i;
      outcome = get_or_append_left xs others NoMemory s.outcome fits.1 i;
    }

entries_in-more : (os more : List ℕ) (xs others : List Outcome) (shorts : List Short) → All (FitsIn (length os) (length xs)) shorts → entries_in (os ++ more) (xs ++ others) shorts ≡ entries_in os xs shorts
entries_in-more os more xs others [] fit = refl
entries_in-more os more xs others (s ∷ shorts) fit =
    let first = entry_in-more os more xs others s (All-head (FitsIn (length os) (length xs)) s shorts fit) in
    let rest = entries_in-more os more xs others shorts (All-tail (FitsIn (length os) (length xs)) s shorts fit) in
    λ i. first i ∷ rest i

-- ---- one entry more
step_of-short : (os : List ℕ) (step : Step) → IsOfEight step → step_of (os ++ objects_in step) (short_of (length os) step) ≡ step
step_of-short os (Event letter b) eight =
    ap (λ v. Event letter v)
    (ap (λ l. placed (mask_of b) l) (drop-append_seam os (objects_of b) ∙ sym (append-nil (objects_of b)))
    ∙ ap (λ n. placed_in n (mask_of b) (objects_of b ++ [])) (sym eight)
    ∙ placed_back b [])
step_of-short os (Death object) eight = refl
step_of-short os Pass eight = refl

pub entries_in-push : (os all : List ℕ) (xs new : List Outcome) (shorts longer : List Short) (s : Short) (step : Step) (outcome : Outcome)
    → all ≡ os ++ objects_in step → longer ≡ shorts ++ s ∷ [] → All (FitsIn (length os) (length xs)) shorts → Grown xs new → IsOfEight step
    → s.step ≡ short_of (length os) step → outcome_at new s.outcome ≡ outcome
    → entries_in all new longer ≡ entries_in os xs shorts ++ (record { caller = s.caller; line = s.line; step = step; outcome = outcome }) ∷ []
entries_in-push os all xs new shorts longer s step outcome objects behind fit grown eight is at =
    let full = os ++ objects_in step in
    let before : entries_in full new shorts ≡ entries_in os xs shorts = ap (λ l. entries_in full l shorts) grown.1 ∙ entries_in-more os (objects_in step) xs grown.0 shorts fit in
    let own : step_of full s.step ≡ step = ap (step_of full) is ∙ step_of-short os step eight in
    (λ i. entries_in (objects i) new (behind i))
    ∙ map-append (entry_in full new) shorts (s ∷ [])
    ∙ (λ i. before i ++ (record { caller = s.caller; line = s.line; step = own i; outcome = at i }) ∷ [])

-- ---- what fits
ones-objects : (b : List (Option ℕ)) → count_ones (mask_of b) ≡ length (objects_of b)
unfolding ones
ones-objects [] = refl
ones-objects (None ∷ b) =
    let half : 2 * mask_of b / 2 ≡ mask_of b = omega arith in
    omega (arith, ones_step (2 * mask_of b), ap count_ones half, ones-objects b)
ones-objects (Some o ∷ b) =
    let half : (1 + 2 * mask_of b) / 2 ≡ mask_of b = omega arith in
    omega (arith, ones_step (1 + 2 * mask_of b), ap count_ones half, ones-objects b)

FitsStep-more : (n m : ℕ) (s : ShortStep) → n ≤ m → FitsStep n s → FitsStep m s
FitsStep-more n m (ShortEvent letter mask start) more fits = omega (arith, more, fits)
FitsStep-more n m (ShortDeath object) more fits = tt
FitsStep-more n m ShortPass more fits = tt

FitsStep-short : (os : List ℕ) (step : Step) → FitsStep (length (os ++ objects_in step)) (short_of (length os) step)
FitsStep-short os (Event letter b) = omega (arith, ones-objects b, length-append os (objects_of b))
FitsStep-short os (Death object) = tt
FitsStep-short os Pass = tt

pub fit-push : (os all : List ℕ) (xs new : List Outcome) (shorts longer : List Short) (s : Short) (step : Step)
    → all ≡ os ++ objects_in step → longer ≡ shorts ++ s ∷ [] → All (FitsIn (length os) (length xs)) shorts → Grown xs new
    → s.step ≡ short_of (length os) step → s.outcome < length new → All (FitsIn (length all) (length new)) longer
fit-push os all xs new shorts longer s step objects behind fit grown is within =
    let full = os ++ objects_in step in
    let room : length os ≤ length full = omega (arith, length-append os (objects_in step)) in
    let other : length xs ≤ length new = omega (arith, ap length grown.1, length-append xs grown.0) in
    let there : All (FitsIn (length full) (length new)) (shorts ++ s ∷ []) =
    All-push (FitsIn (length full) (length new)) shorts s
    (All-weaker (FitsIn (length os) (length xs)) (FitsIn (length full) (length new)) (λ x h. (FitsStep-more (length os) (length full) x.step room h.0, omega (arith, h.1, other))) shorts fit)
    (subst (λ (v : ShortStep). FitsStep (length full) v) (sym is) (FitsStep-short os step), within) in
    subst (λ (l : List Short). All (FitsIn (length all) (length new)) l) (sym behind)
    (subst (λ (l : List ℕ). All (FitsIn (length l) (length new)) (shorts ++ s ∷ [])) (sym objects) there)

-- the shared outcomes stay first
pub shared-grown : (xs new : List Outcome) → IsShared xs → Grown xs new → IsShared new
shared-grown xs new shared grown =
    let longer = length-append xs grown.0 in
    subst IsShared (sym grown.1) (
      omega (arith, shared.0, longer),
      get_or_append_left xs grown.0 NoMemory 0 (omega (arith, shared.0)) ∙ shared.1,
      get_or_append_left xs grown.0 NoMemory 1 shared.0 ∙ shared.2,
    )
