-- A lone script that can be done in the order that it asks for is done so line by line.
use Rattle.std.proofs.Common.{◌≡◌, ℕ, zero, suc, ◌+◌, ◌<◌, ◌≤◌, ◌⊎◌, Bool, true, false, List, [], ◌∷◌, ◌++◌, map, length, drop, Some, slice_get, refl, sym, ap, subst, ◌∙◌, arith, ⊎_elim}
use Rattle.std.specs.Prelude.{All, Contains}
use Rattle.std.proofs.lemmas.Bool.{cases_order}
use Rattle.std.proofs.lemmas.Option.{none-some, same_Some, slice_get-get_or}
use Rattle.std.proofs.lemmas.List.Elements.{All-nil, All-cons, All-head, All-weaker}
use Rattle.std.proofs.Math.Seq.{drop-append_seam}
use Rattle.std.proofs.lemmas.List.{length-map, map-append}
use Rattle.jm_model.specs.declared.step.Step.{Step}
use Rattle.jm_model.specs.declared.step.Entry.{Entry}
use Rattle.jm_semantics.specs.Scripts.{is_for, projection_of, steps_of, IsInterleaving}
use Rattle.jm_core.specs.Replays.{line_and_step}
use Rattle.jm_turn.specs.Lists.{entries_by}
use Rattle.jm_turn.proofs.Prefixes.{entries_by-append}
use Rattle.jm_dispatch.specs.Steps.{caller_of}
use Rattle.jm_script.specs.declared.script.ScriptLine.{ScriptLine}
use Rattle.jm_script.specs.Meanings.{RisesFrom}
use Rattle.jm_script.specs.Projections.{script_of, spec_of}
use Rattle.jm_sync.specs.declared.line.SyncKind.TheVariants.{Post, Wait}
use Rattle.jm_sync.specs.declared.line.SyncLine.{SyncLine}
use Rattle.jm_sync.specs.Checks.{line_at, Reachable, at_post, at_wait, AreSound}
use Rattle.jm_sync.specs.Cuts.{RisesFrom as SyncRisesFrom}
use Rattle.jm_runner.specs.Orders.{post_at, wait_at, StandBefore, AreBehind, IsOrdered}
use Rattle.jm_runner.proofs.LineLemmas.{sync_rises}
use Rattle.jm_runner.proofs.OrderLemmas.{gives_order}
use Rattle.jm_runner.proofs.PlaceLemmas.{contains_at}
use Rattle.jm_runner.proofs.PostLemmas.{posted_once}

-- ---- a wait that can be come to stands below its post

line_of : (lines : List SyncLine) (k i : ℕ) (x : SyncLine) → line_at (lines ∷ []) k i ≡ Some x → slice_get lines i ≡ Some x
line_of lines zero i x at = at
line_of lines (suc k) i x at = absurd (none-some x at)

record HasPostAbove (lines : List SyncLine) (i name : ℕ) : Type 0 where
  pub place : ℕ
  pub post : SyncLine
  pub there : slice_get lines place ≡ Some post
  pub posts : post.kind ≡ Post
  pub named : post.name ≡ name
  pub above : place < i

not_both : (lines : List SyncLine) (i : ℕ) (x l : SyncLine) → slice_get lines i ≡ Some x → slice_get lines i ≡ Some l → x.kind ≡ Post → l.kind ≡ Wait → ⊥
not_both lines i x l at here posts waits =
    let both : Post ≡ Wait = sym posts ∙ ap (λ (y : SyncLine). y.kind) (same_Some x l (sym at ∙ here)) ∙ waits in
    cc

post_above : (lines : List SyncLine) (k i : ℕ) (l : SyncLine) → Reachable (lines ∷ []) k i → slice_get lines i ≡ Some l → l.kind ≡ Wait → HasPostAbove lines i l.name
post_above lines _ _ l (at_post k i x there posts before) at waits = absurd (not_both lines i x l (line_of lines k i x there) at posts waits)
post_above lines _ _ l (at_wait k i x there waits_too before m n post posted posts named (at_wait _ _ y again waits_again above a b other other_there other_posts other_named reached)) at waits =
    absurd (not_both lines n post y (line_of lines m n post posted) (line_of lines m n y again) posts waits_again)
post_above lines _ _ l (at_wait k i x there waits_too before m n post posted posts named (at_post _ _ y again posts_again above)) at waits =
    let same : x ≡ l = same_Some x l (sym (line_of lines k i x there) ∙ at) in
    ⊎_elim
    (λ (e : n ≡ i). absurd (not_both lines i post l (subst (λ p. slice_get lines p ≡ Some post) e (line_of lines m n post posted)) at posts waits))
    (λ (apart : (n < i) ⊎ (i < n)). ⊎_elim
    (λ (less : n < i). record { place = n; post = post; there = line_of lines m n post posted; posts = posts; named = named ∙ ap (λ (y : SyncLine). y.name) same; above = less })
    (λ (more : i < n). post_above lines m i l (above i more) at waits)
    apart)
    (cases_order n i)

-- ---- the lines of a script rise, and those of its steps

abbrev StepsRise : ℕ → List (ℕ × Step) → Type 0
StepsRise n [] = Unit {0}
StepsRise n (step ∷ steps) = (n ≤ step.0) × StepsRise (step.0 + 1) steps

rises_earlier : (n m : ℕ) (script : List ScriptLine) → n ≤ m → RisesFrom m script → RisesFrom n script
rises_earlier n m [] le rising = tt
rises_earlier n m (l ∷ script) le rising =
    let first : m ≤ l.line = rising.0 in
    (omega arith, rising.1)

steps_rise : (n s : ℕ) (script : List ScriptLine) → RisesFrom n script → StepsRise n (projection_of (script_of script) s)
steps_rise n s [] rising = tt
steps_rise n s (l ∷ script) rising =
    let first : n ≤ l.line = rising.0 in
    by_case (is_for s (spec_of l.target)) refl (steps_rise (l.line + 1) s script rising.1) (steps_rise n s script (rises_earlier n (l.line + 1) script (omega (arith, first)) rising.1))
  where
    by_case : (b : Bool) → is_for s (spec_of l.target) ≡ b → StepsRise (l.line + 1) (projection_of (script_of script) s) → StepsRise n (projection_of (script_of script) s) → StepsRise n (projection_of (script_of (l ∷ script)) s)
    by_case true e more rest = rw e (rising.0, more)
    by_case false e more rest = rw e rest

all_later : (n : ℕ) (steps : List (ℕ × Step)) → StepsRise n steps → All (λ (step : ℕ × Step). n ≤ step.0) steps
all_later n [] rising = All-nil (λ (step : ℕ × Step). n ≤ step.0)
all_later n (s ∷ steps) rising =
    let first : n ≤ s.0 = rising.0 in
    All-cons (λ (step : ℕ × Step). n ≤ step.0) s steps first
    (All-weaker (λ (step : ℕ × Step). s.0 + 1 ≤ step.0) (λ (step : ℕ × Step). n ≤ step.0) (λ step later. omega arith) steps (all_later (s.0 + 1) steps rising.1))

-- what stands from a step on stands at its line or later
from_step : (n : ℕ) (front : List (ℕ × Step)) (s : ℕ × Step) (rest : List (ℕ × Step)) → StepsRise n (front ++ s ∷ rest) → All (λ (step : ℕ × Step). s.0 ≤ step.0) (s ∷ rest)
from_step n [] s rest rising =
    let here : s.0 ≤ s.0 = omega arith in
    All-cons (λ (step : ℕ × Step). s.0 ≤ step.0) s rest here
    (All-weaker (λ (step : ℕ × Step). s.0 + 1 ≤ step.0) (λ (step : ℕ × Step). s.0 ≤ step.0) (λ step later. omega arith) rest (all_later (s.0 + 1) rest rising.1))
from_step n (x ∷ front) s rest rising = from_step (x.0 + 1) front s rest rising.1

-- ---- the history

-- an entry of the lone caller, and the steps from it on
lone_behind : (steps : List (ℕ × Step)) (h : List Entry) (p q : ℕ) → StepsRise 1 steps → map line_and_step (entries_by caller_of 0 h) ≡ steps → p ≤ q → AreBehind 0 p steps 0 q h
lone_behind steps h p q rising own order before behind y e mine late =
    let front = entries_by caller_of 0 before in
    let rest = entries_by caller_of 0 behind in
    let parts : entries_by caller_of 0 h ≡ front ++ entries_by caller_of 0 (y ∷ behind) = ap (entries_by caller_of 0) e ∙ entries_by-append caller_of 0 before (y ∷ behind) in
    let here : entries_by caller_of 0 (y ∷ behind) ≡ y ∷ rest = rw mine refl in
    let all : steps ≡ map line_and_step front ++ line_and_step y ∷ map line_and_step rest = sym own ∙ ap (map line_and_step) (parts ∙ ap (λ v. front ++ v) here) ∙ map-append line_and_step front (y ∷ rest) in
    let later = from_step 1 (map line_and_step front) (line_and_step y) (map line_and_step rest) (subst (StepsRise 1) all rising) in
    let low : p ≤ y.line = omega arith in
    let many : length (map line_and_step front) ≡ length front = length-map front line_and_step in
    record {
      left = subst (λ (l : List (ℕ × Step)). All (λ (step : ℕ × Step). p ≤ step.0) l)
          (sym (ap (drop (length front)) all ∙ ap (λ n. drop n (map line_and_step front ++ line_and_step y ∷ map line_and_step rest)) (sym many) ∙ drop-append_seam (map line_and_step front) (line_and_step y ∷ map line_and_step rest)))
          (All-weaker (λ (step : ℕ × Step). y.line ≤ step.0) (λ (step : ℕ × Step). p ≤ step.0) (λ step more. omega (arith, low, more)) (line_and_step y ∷ map line_and_step rest) later);
    }

first_alone : (asked : List (List SyncLine)) → length asked ≡ 1 → (lines : List SyncLine) × (asked ≡ lines ∷ [])
first_alone [] one = absurd (omega arith)
first_alone (lines ∷ []) one = (lines, refl)
first_alone (lines ∷ more ∷ asked) one = absurd (omega arith)

first_place : (lines : List SyncLine) (k : ℕ) (here : List SyncLine) → slice_get (lines ∷ []) k ≡ Some here → (k ≡ 0) × (lines ≡ here)
first_place lines zero here at = (refl, same_Some lines here at)
first_place lines (suc k) here at = absurd (none-some here at)

lone_lines : (steps : List (ℕ × Step)) (h : List Entry) (lines : List SyncLine) → StepsRise 1 steps → map line_and_step (entries_by caller_of 0 h) ≡ steps → AreSound (lines ∷ []) → SyncRisesFrom 1 lines → IsOrdered h (lines ∷ [])
lone_lines steps h lines rising own sound sync_rising k p j q name posts waits pat wat posted waiting =
    let first = first_place lines k posts pat in
    let second = first_place lines j waits wat in
    let post_there = subst (λ v. Contains v (post_at p name)) (sym first.1) posted in
    let wait_there = subst (λ v. Contains v (wait_at q name)) (sym second.1) waiting in
    let at : slice_get lines wait_there.0 ≡ Some (wait_at q name) = slice_get-get_or lines wait_there.0 (wait_at q name) wait_there.1 ∙ ap (λ v. Some v) wait_there.2 in
    let found = post_above lines 0 wait_there.0 (wait_at q name) (sound.reachable 0 wait_there.0 (wait_at q name) at) at refl in
    let is : found.post ≡ post_at found.post.line name = (λ i. record { line = found.post.line; kind = found.posts i; name = found.named i }) in
    let again = subst (λ v. Contains lines v) is (contains_at lines found.place found.post found.there) in
    let once = posted_once (lines ∷ []) 0 0 p found.post.line name lines lines sound.once refl refl post_there again in
    let less : found.post.line < q = sync_rises 1 lines found.place wait_there.0 found.post (wait_at q name) sync_rising found.there at found.above in
    let below : p ≤ q = omega (arith, once.1) in
    subst (λ n. StandBefore n p j q h) (sym first.0) (subst (λ n. StandBefore 0 p n q h) (sym second.0) (gives_order h steps 0 p 0 q own (lone_behind steps h p q rising own below)))

own_steps : (own : List (ℕ × Step)) (h : List Entry) → IsInterleaving h (own ∷ []) → map line_and_step (entries_by caller_of 0 h) ≡ own
own_steps own h woven = sym (same_Some own (steps_of 0 h) (woven.each 0 (omega arith)))

-- a history that is one of a lone script's steps has the order that the script asks for
pub lone_order : (script : List ScriptLine) (h : List Entry) (asked : List (List SyncLine)) → RisesFrom 1 script → IsInterleaving h (projection_of (script_of script) 0 ∷ []) → length asked ≡ 1 → AreSound asked
    → All (λ (lines : List SyncLine). SyncRisesFrom 1 lines) asked → IsOrdered h asked
lone_order script h asked rising woven one sound all =
    let alone = first_alone asked one in
    let steps = projection_of (script_of script) 0 in
    let sync_rising = All-head (λ (ls : List SyncLine). SyncRisesFrom 1 ls) alone.0 [] (subst (All (λ (ls : List SyncLine). SyncRisesFrom 1 ls)) alone.1 all) in
    subst (λ v. IsOrdered h v) (sym alone.1)
    (lone_lines steps h alone.0 (steps_rise 1 0 script rising) (own_steps steps h woven) (subst AreSound alone.1 sound) sync_rising)
