-- What a seat has done after one step more, and a caller after one line more.
use Rattle.std.proofs.Common.{◌≡◌, ◌≢◌, ℕ, ◌+◌, ◌<◌, true, false, List, [], ◌∷◌, ◌++◌, map, length, Option, Some, slice_get, slice_set, refl, sym, ap, ◌∙◌, subst, arith, append_assoc, inl, inr}
use Rattle.std.specs.Prelude.{All, IfOk, OnOk, Result, Ok, Err}
use Rattle.std.proofs.lemmas.Option.{same_Some, slice_get_within}
use Rattle.std.proofs.lemmas.List.{map-append, length-set}
use Rattle.std.proofs.lemmas.List.Elements.{All-nil, All-head, All-tail, All-push, All-same}
use Rattle.jm_model.specs.Meanings.{Meaning}
use Rattle.jm_model.specs.declared.step.Step.{Step}
use Rattle.jm_model.specs.declared.step.Outcome.TheVariants.{NoMemory}
use Rattle.jm_model.specs.declared.step.Entry.{Entry}
use Rattle.jm_semantics.specs.Scripts.{is_for, projection_of}
use Rattle.jm_core.specs.Replays.{line_and_step}
use Rattle.jm_turn.specs.Seats.{LockModel, SeatModel, own_entries, newcomer}
use Rattle.jm_script.specs.declared.script.ScriptLine.{ScriptLine}
use Rattle.jm_script.specs.Blocks.{StandsAbove}
use Rattle.jm_script.specs.Projections.{script_of, spec_of, step_of}
use Rattle.jm_dispatch.specs.declared.acts.Answer.{Answer}
use Rattle.jm_dispatch.specs.Steps.{Stepped, caller_of, entry_of}
use Rattle.jm_runner.specs.Orders.{KeepOrder}
use Rattle.jm_runner.specs.Work.{HasDone, DoesStep, DoesLine, HaveDone, AreSeatsOf, DoesLineBelow, DoLines, HaveWorked}
use Rattle.jm_runner.proofs.PlaceLemmas.{get_there, set_cases, set_other}
use Rattle.jm_runner.proofs.NoteLemmas.{projection-append, step_keeps, keeps_self, keep_trans}

-- what follows from what was done, follows where it was done
pub on_ok : {A E : Type 0} {P Q : Type 0} (r : Result A E) → (P → Q) → OnOk r P → OnOk r Q
on_ok (Ok x) f h = f h
on_ok (Err e) f h = tt

pub on_both : {A E : Type 0} {P Q R : Type 0} (r : Result A E) → (P → Q → R) → OnOk r P → OnOk r Q → OnOk r R
on_both (Ok x) f p q = f p q
on_both (Err e) f p q = tt

-- what follows from two facts of a value, follows where there is one
pub both_ok : {A E : Type 0} {P Q R : A → Type 0} (r : Result A E) → ((x : A) → P x → Q x → R x) → IfOk r P → IfOk r Q → IfOk r R
both_ok (Ok x) f p q = f x p q
both_ok (Err e) f p q = tt

-- ---- one line more of a projection
line_for : (line : ScriptLine) (s : ℕ) → is_for s (spec_of line.target) ≡ true → projection_of (script_of (line ∷ [])) s ≡ (line.line, step_of line.target) ∷ []
line_for line s e = rw e refl

line_not_for : (line : ScriptLine) (s : ℕ) → is_for s (spec_of line.target) ≡ false → projection_of (script_of (line ∷ [])) s ≡ []
line_not_for line s e = rw e refl

append_none : {A : Type 0} (xs : List A) → xs ≡ xs ++ []
append_none [] = refl
append_none (x ∷ xs) = ap (λ l. x ∷ l) (append_none xs)

module _ {F : Type 0} where
  -- a step that was made is done
  pub step_done : (m : Meaning) (watch : LockModel F) (line : ℕ) (step : Step) (answer : Answer) (before after : SeatModel Entry F) → Stepped m line step answer before after
      → answer.outcome ≢ NoMemory → DoesStep watch line step before after
  step_done m watch line step answer before after made fine = record {
    done = λ k steps h.
        let entry = entry_of before line step answer.outcome in
        record {
          lock = ap (λ s. s.lock) made.same ∙ h.lock;
          number = ap (λ s. s.number) made.same ∙ h.number;
          entries = ap (λ l. map line_and_step l) made.own ∙ map-append line_and_step (own_entries caller_of before) (entry ∷ []) ∙ ap (λ l. l ++ (line, step) ∷ []) h.entries;
          done = All-same (λ x. x.outcome ≢ NoMemory) (own_entries caller_of after) (own_entries caller_of before ++ entry ∷ []) made.own
              (All-push (λ x. x.outcome ≢ NoMemory) (own_entries caller_of before) entry h.done fine);
        };
    keeps = step_keeps m line step answer before after made;
  }

  -- a line that is for the specification is done by its step, and any other is done by nothing
  pub line_done : (watch : LockModel F) (s : ℕ) (line : ScriptLine) (step : Step) (before after : SeatModel Entry F) → is_for s (spec_of line.target) ≡ true → step ≡ step_of line.target
      → DoesStep watch line.line step before after → DoesLine watch s line before after
  line_done watch s line step before after e same does = record {
    done = λ k script h.
        subst (λ (steps : List (ℕ × Step)). HasDone k steps watch after)
        (ap (λ x. projection_of (script_of script) s ++ (line.line, x) ∷ []) same ∙ ap (λ l. projection_of (script_of script) s ++ l) (sym (line_for line s e)) ∙ sym (projection-append script (line ∷ []) s))
        (does.done k (projection_of (script_of script) s) h);
    keeps = does.keeps;
  }

  pub line_skipped : (watch : LockModel F) (s : ℕ) (line : ScriptLine) (seat : SeatModel Entry F) → is_for s (spec_of line.target) ≡ false → DoesLine watch s line seat seat
  line_skipped watch s line seat e = record {
    done = λ k script h.
        subst (λ (steps : List (ℕ × Step)). HasDone k steps watch seat)
        (append_none (projection_of (script_of script) s) ∙ ap (λ l. projection_of (script_of script) s ++ l) (sym (line_not_for line s e)) ∙ sym (projection-append script (line ∷ []) s))
        h;
    keeps = keeps_self seat;
  }

  -- ---- a line, watch by watch
  pub line_below_none : (watches : List (LockModel F)) (line : ScriptLine) (seats : List (SeatModel Entry F)) → DoesLineBelow 0 watches line seats seats
  line_below_none watches line seats = record { count = refl; below = λ s watch old new less. absurd (omega arith); others = λ s above. refl }

  pub line_below_more : (n : ℕ) (watches : List (LockModel F)) (line : ScriptLine) (before after : List (SeatModel Entry F)) (watch : LockModel F) (old new : SeatModel Entry F)
      → DoesLineBelow n watches line before after → slice_get watches n ≡ Some watch → slice_get after n ≡ Some old → DoesLine watch n line old new
      → DoesLineBelow (n + 1) watches line before (slice_set after n new)
  line_below_more n watches line before after watch old new h at was does = record {
    count = length-set after n new ∙ h.count;
    below = λ s w o x less wat oat xat.
        elim (set_cases after n s new x xat) [
          | inl here ↦
              let w_is : watch ≡ w = same_Some watch w (sym at ∙ ap (λ k. slice_get watches k) (sym here.0) ∙ wat) in
              let o_is : old ≡ o = same_Some old o (sym was ∙ h.others n (omega arith) ∙ ap (λ k. slice_get before k) (sym here.0) ∙ oat) in
              moved s w o x here.0 w_is o_is here.1
          | inr other ↦ h.below s w o x (smaller s less other.0) wat oat other.1
        ];
    others = λ s above. set_other after n s new (omega arith) ∙ h.others s (omega arith);
  }
    where
      smaller : (s : ℕ) → s < n + 1 → s ≢ n → s < n
      smaller s less other = grind arith

      moved : (s : ℕ) (w : LockModel F) (o x : SeatModel Entry F) → s ≡ n → watch ≡ w → old ≡ o → x ≡ new → DoesLine w s line o x
      moved s w o x s_is w_is o_is x_is =
          subst (λ (k : ℕ). DoesLine w k line o x) (sym s_is)
          (subst (λ (v : LockModel F). DoesLine v n line o x) w_is
          (subst (λ (v : SeatModel Entry F). DoesLine watch n line v x) o_is
          (subst (λ (v : SeatModel Entry F). DoesLine watch n line old v) (sym x_is) does)))

  -- ---- a line on all watches
  pub lines_done : (k : ℕ) (script : List ScriptLine) (line : ScriptLine) (watches : List (LockModel F)) (before after : List (SeatModel Entry F))
      → HaveDone k script watches before → DoesLineBelow (length watches) watches line before after → HaveDone k (script ++ line ∷ []) watches after
  lines_done k script line watches before after h does = record {
    count = does.count ∙ h.count;
    each = λ s watch seat wat at.
        let within : s < length watches = slice_get_within watches s watch wat in
        let size : length before ≡ length watches = h.count in
        let old = get_there before s (omega arith) in
        (does.below s watch old.0 seat within wat old.1 at).done k script (h.each s watch old.0 wat old.1);
  }

  pub lines_keep : (line : ScriptLine) (watches : List (LockModel F)) (before after : List (SeatModel Entry F)) → AreSeatsOf watches before → DoesLineBelow (length watches) watches line before after → KeepOrder before after
  lines_keep line watches before after are does s old new oat nat =
      let within : s < length before = slice_get_within before s old oat in
      let watch = get_there watches s (omega (arith, are.count)) in
      (does.below s watch.0 old new (slice_get_within watches s watch.0 watch.1) watch.1 oat nat).keeps

  pub seats_of_done : (k : ℕ) (script : List ScriptLine) (watches : List (LockModel F)) (seats : List (SeatModel Entry F)) → HaveDone k script watches seats → AreSeatsOf watches seats
  seats_of_done k script watches seats h = record { count = h.count; each = λ s watch seat wat at. (h.each s watch seat wat at).lock }

  -- a newcomer has done nothing
  pub newcomer_done : (k s : ℕ) (watch : LockModel F) → HasDone k [] watch (newcomer watch k)
  newcomer_done k s watch = record { lock = refl; number = refl; entries = refl; done = All-nil (λ x. x.outcome ≢ NoMemory) }

-- ---- the lines of a queue
in_queue : {A : Type 0} (P : A → Type 0) (xs : List A) (x : A) (ys : List A) → All P (xs ++ x ∷ ys) → P x
in_queue P [] x ys all = All-head P x ys all
in_queue P (y ∷ xs) x ys all = in_queue P xs x ys (All-tail P y (xs ++ x ∷ ys) all)

module _ {F : Type 0} (watches : List (LockModel F)) (above : Option ℕ) (queue left : List ScriptLine) (line : ScriptLine) (before middle : List (SeatModel Entry F)) (does : DoLines watches above queue (line ∷ left) before middle) where
  -- what holds of all lines holds of the one that is taken
  pub of_taken : (P : ScriptLine → Type 0) → All P queue → P line
  of_taken P all = in_queue P does.lines line left (subst (λ (l : List ScriptLine). All P l) does.taken all)

  module _ (k : ℕ) (worked : HaveWorked k watches before) where
    done_before : HaveDone k (worked.0 ++ does.lines) watches middle
    done_before = does.done k worked.0 worked.1

    pub seats_before : AreSeatsOf watches middle
    seats_before = seats_of_done k (worked.0 ++ does.lines) watches middle done_before

    -- one line more is done
    pub lines_more : (after : List (SeatModel Entry F)) → StandsAbove above line → DoesLineBelow (length watches) watches line middle after → DoLines watches above queue left before after
    lines_more after stands more = record {
      lines = does.lines ++ line ∷ [];
      taken = does.taken ∙ sym (append_assoc does.lines (line ∷ []) left);
      stand = All-push (StandsAbove above) does.lines line does.stand stands;
      done = λ j script h.
          subst (λ (l : List ScriptLine). HaveDone j l watches after) (append_assoc script does.lines (line ∷ []))
          (lines_done j (script ++ does.lines) line watches middle after (does.done j script h) more);
      keep = keep_trans before middle after (done_before.count ∙ sym worked.1.count) does.keep (lines_keep line watches middle after seats_before more);
    }
