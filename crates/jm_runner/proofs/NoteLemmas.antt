-- What seats know of order after a step, after a note, and after a line that asks for order.
use Rattle.std.proofs.Common.{◌≡◌, ◌≢◌, ℕ, ◌+◌, ◌<◌, ◌≤◌, Bool, true, false, cond, ltb, List, [], ◌∷◌, ◌++◌, map, filter, length, take, Option, None, Some, slice_get, slice_set, refl, sym, ap, ◌∙◌, subst, arith, append_assoc, append-nil, inl, inr, ⊎_elim}
use Rattle.std.specs.Prelude.{All, Contains}
use mathlib.Core.List.{IsPrefix}
use borrow.Author.Tests.{ltb-true}
use Rattle.std.proofs.lemmas.Bool.Decides.{nat_tests}
use Rattle.std.proofs.lemmas.Option.{same_Some, slice_get_within}
use Rattle.std.proofs.lemmas.List.{length-map, length-set, map-append, take_all}
use Rattle.std.proofs.lemmas.List.Elements.{All-nil, All-head, All-tail, All-append, All-map, All-filter, All-same, All-weaker, Contains-push_cases, filter-append}
use Rattle.jm_model.specs.Meanings.{Meaning}
use Rattle.jm_model.specs.declared.step.Step.{Step}
use Rattle.jm_model.specs.declared.step.Outcome.TheVariants.{NoMemory}
use Rattle.jm_model.specs.declared.step.Entry.{Entry}
use Rattle.jm_semantics.specs.Scripts as semantics
use Rattle.jm_semantics.specs.Scripts.{is_for, projection_of}
use Rattle.jm_core.specs.Replays.{line_and_step}
use Rattle.jm_turn.specs.Lists.{entries_by, longer_of}
use Rattle.jm_turn.specs.Seats.{LockModel, SeatModel, NoteModel, HaveOneHistory, note_of, own_entries}
use Rattle.jm_turn.proofs.Prefixes.{prefix_self, prefix_shorter}
use Rattle.jm_script.specs.declared.script.ScriptLine.{ScriptLine}
use Rattle.jm_script.specs.Blocks.{StandsAbove, StandsFrom}
use Rattle.jm_script.specs.Projections.{script_of, line_of}
use Rattle.jm_sync.specs.declared.line.SyncKind.{SyncKind}
use Rattle.jm_sync.specs.declared.line.SyncKind.TheVariants.{Post, Wait}
use Rattle.jm_sync.specs.declared.line.SyncLine.{SyncLine}
use Rattle.jm_dispatch.specs.declared.acts.Answer.{Answer}
use Rattle.jm_dispatch.specs.Steps.{Stepped, caller_of, entry_of}
use Rattle.jm_runner.specs.Orders.{post_at, wait_at, HasAbove, AreBehind, KnowsOrder, KeepsOrder, KeepOrder}
use Rattle.jm_runner.specs.Notes.{KnowsAbove, KnowAbove, AreNotesUnder, KnowPosts, SeesMore, SeeMore, Hears, HearBelow, PassesLine, TakesPart}
use Rattle.jm_runner.specs.Work.{HasDone, HaveDone, DoLines, AreSeatsOf}
use Rattle.jm_runner.proofs.PlaceLemmas.{contains_at, get_there, map_get, set_cases, set_other, take_place}
use Rattle.jm_runner.proofs.OrderLemmas.{above_later, behind_later, behind_none, above_after_turn, behind_after_turn, has_done_above, of_own, of_lines}
use Rattle.jm_runner.proofs.LineLemmas.{sync_rises}
use Rattle.jm_runner.proofs.PostLemmas.{posted_once}

-- what holds of all lines holds of those that are left
pub of_left : {A : Type 0} (P : A → Type 0) (xs ys : List A) → All P (xs ++ ys) → All P ys
of_left P [] ys all = all
of_left P (x ∷ xs) ys all = of_left P xs ys (All-tail P x (xs ++ ys) all)

-- no line stands where none can
none_stands : (lines : List ScriptLine) → All (StandsFrom None) lines → lines ≡ []
none_stands [] all = refl
none_stands (l ∷ lines) all = absurd (All-head (λ (x : ScriptLine). StandsFrom None x) l lines all)

-- a line, but of this kind
abbrev of_kind : SyncLine → SyncKind → SyncLine
of_kind line kind = record { line = line.line; kind = kind; name = line.name }

pub projection-append : (a b : List ScriptLine) (s : ℕ) → projection_of (script_of (a ++ b)) s ≡ projection_of (script_of a) s ++ projection_of (script_of b) s
projection-append a b s =
    ap (λ l. projection_of l s) (map-append line_of a b)
    ∙ ap (λ l. map (λ x. (x.line, x.step)) l) (filter-append (λ l. is_for s l.spec) (script_of a) (script_of b))
    ∙ map-append (λ x. (x.line, x.step)) (filter (λ l. is_for s l.spec) (script_of a)) (filter (λ l. is_for s l.spec) (script_of b))

-- what holds of the lines of a script holds of those of its steps
projected : (P : ℕ → Type 0) (script : List ScriptLine) (s : ℕ) → All (λ l. P l.line) script → All (λ (step : ℕ × Step). P step.0) (projection_of (script_of script) s)
projected P script s all =
    All-map (λ (step : ℕ × Step). P step.0) (λ (l : semantics.ScriptLine). (l.line, l.step)) (filter (λ (l : semantics.ScriptLine). is_for s l.spec) (script_of script))
    (All-filter (λ (l : semantics.ScriptLine). is_for s l.spec) (λ (l : semantics.ScriptLine). P l.line) (script_of script) (All-map (λ (l : semantics.ScriptLine). P l.line) line_of script all))

-- of two beginnings of one list, both begin the longer
longer_begins : (xs ys all : List Entry) → IsPrefix xs all → IsPrefix ys all → (b : Bool) → ltb (length xs) (length ys) ≡ b → IsPrefix xs (cond b ys xs) × IsPrefix ys (cond b ys xs)
longer_begins xs ys all p q true is = let less : length xs < length ys = ltb-true (length xs) (length ys) is in (prefix_shorter xs ys all p q (omega arith), prefix_self ys)
longer_begins xs ys all p q false is = let less : length ys ≤ length xs = grind (arith, nat_tests) in (prefix_self xs, prefix_shorter ys xs all q p less)

module _ {F : Type 0} where
  -- ---- a step
  pub step_keeps : (m : Meaning) (line : ℕ) (step : Step) (answer : Answer) (before after : SeatModel Entry F) → Stepped m line step answer before after → KeepsOrder before after
  step_keeps m line step answer before after made k p steps q knows =
      let new = entry_of before line step answer.outcome in
      let number : after.number ≡ before.number = ap (λ s. s.number) made.same in
      let seen : after.seen ≡ made.found ++ new ∷ [] = ap (λ s. s.seen) made.same in
      let own : entries_by caller_of before.number (made.found ++ new ∷ []) ≡ entries_by caller_of before.number before.seen ++ new ∷ [] =
      ap (entries_by caller_of before.number) (sym seen) ∙ ap (λ n. entries_by caller_of n after.seen) (sym number) ∙ made.own in
      record {
        has = subst (λ (l : List Entry). HasAbove k p steps l) (sym seen) (above_after_turn k p steps before.number q before.seen made.found new made.begins refl own knows.has);
        behind = subst (λ (n : ℕ). AreBehind k p steps n q after.seen) (sym number)
            (subst (λ (l : List Entry). AreBehind k p steps before.number q l) (sym seen) (behind_after_turn k p steps before.number q before.seen made.found new made.begins refl own knows.has knows.behind));
      }

  pub keeps_self : (seat : SeatModel Entry F) → KeepsOrder seat seat
  keeps_self seat k p steps q knows = knows

  pub keep_self : (seats : List (SeatModel Entry F)) → KeepOrder seats seats
  keep_self seats s old new oat nat k p steps q knows = subst (λ (x : SeatModel Entry F). KnowsOrder k p steps q x) (same_Some old new (sym oat ∙ nat)) knows

  pub keep_trans : (a b c : List (SeatModel Entry F)) → length b ≡ length a → KeepOrder a b → KeepOrder b c → KeepOrder a c
  keep_trans a b c size first second s old new oat nat k p steps q knows =
      let within : s < length a = slice_get_within a s old oat in
      let middle = get_there b s (omega arith) in
      second s middle.0 new middle.1 nat k p steps q (first s old middle.0 oat middle.1 k p steps q knows)

  -- ---- a seat that sees more of others
  pub sees_keeps : (before after : SeatModel Entry F) → SeesMore before after → KeepsOrder before after
  sees_keeps before after more k p steps q knows =
      let own : entries_by caller_of before.number after.seen ≡ entries_by caller_of before.number before.seen = ap (λ n. entries_by caller_of n after.seen) (sym more.number) ∙ more.own in
      record {
        has = above_later k p steps before.seen after.seen more.begins knows.has;
        behind = subst (λ (n : ℕ). AreBehind k p steps n q after.seen) (sym more.number) (behind_later k p steps before.number q before.seen after.seen more.begins own knows.behind);
      }

  pub sees_itself : (seat : SeatModel Entry F) → SeesMore seat seat
  sees_itself seat = record { lock = refl; number = refl; own = refl; begins = prefix_self seat.seen }

  pub see_themselves : (before after : List (SeatModel Entry F)) → after ≡ before → SeeMore before after
  see_themselves before after same = record {
    count = ap length same;
    each = λ s old new oat nat. subst (λ (x : SeatModel Entry F). SeesMore old x) (same_Some old new (sym oat ∙ ap (λ l. slice_get l s) (sym same) ∙ nat)) (sees_itself old);
  }

  sees_done : (k : ℕ) (steps : List (ℕ × Step)) (watch : LockModel F) (before after : SeatModel Entry F) → SeesMore before after → HasDone k steps watch before → HasDone k steps watch after
  sees_done k steps watch before after more h = record {
    lock = more.lock ∙ h.lock;
    number = more.number ∙ h.number;
    entries = ap (map line_and_step) more.own ∙ h.entries;
    done = All-same (λ (x : Entry). x.outcome ≢ NoMemory) (own_entries caller_of after) (own_entries caller_of before) more.own h.done;
  }

  pub see_done : (k : ℕ) (script : List ScriptLine) (watches : List (LockModel F)) (before after : List (SeatModel Entry F)) → SeeMore before after → HaveDone k script watches before → HaveDone k script watches after
  see_done k script watches before after more h = record {
    count = more.count ∙ h.count;
    each = λ s watch new wat nat.
        let within : s < length after = slice_get_within after s new nat in
        let old = get_there before s (omega (arith, more.count)) in
        sees_done k (projection_of (script_of script) s) watch old.0 new (more.each s old.0 new old.1 nat) (h.each s watch old.0 wat old.1);
  }

  -- ---- a note
  pub hears : (note : NoteModel Entry F) (before after : SeatModel Entry F) → HaveOneHistory before.seen note.seen → after ≡ record before { seen = longer_of before.seen note.seen } → own_entries caller_of after ≡ own_entries caller_of before
      → Hears note before after
  hears note before after one longer own =
      let both = longer_begins before.seen note.seen one.0 one.1 one.2 (ltb (length before.seen) (length note.seen)) refl in
      let seen : after.seen ≡ longer_of before.seen note.seen = ap (λ s. s.seen) longer in
      record {
        more = record { lock = ap (λ s. s.lock) longer; number = ap (λ s. s.number) longer; own = own; begins = subst (λ (l : List Entry). IsPrefix before.seen l) (sym seen) both.0 };
        told = subst (λ (l : List Entry). IsPrefix note.seen l) (sym seen) both.1;
      }

  pub hear_none : (notes : List (NoteModel Entry F)) (seats : List (SeatModel Entry F)) → HearBelow 0 notes seats seats
  hear_none notes seats = record { count = refl; below = λ s note old new less. absurd (omega arith); others = λ s above. refl }

  pub hear_more : (n : ℕ) (notes : List (NoteModel Entry F)) (before after : List (SeatModel Entry F)) (note : NoteModel Entry F) (old new : SeatModel Entry F) → HearBelow n notes before after
      → slice_get notes n ≡ Some note → slice_get after n ≡ Some old → Hears note old new → HearBelow (n + 1) notes before (slice_set after n new)
  hear_more n notes before after note old new h at was hears = record {
    count = length-set after n new ∙ h.count;
    below = λ s m o x less mat oat xat.
        elim (set_cases after n s new x xat) [
          | inl here ↦
              let m_is : note ≡ m = same_Some note m (sym at ∙ ap (λ k. slice_get notes k) (sym here.0) ∙ mat) in
              let o_is : old ≡ o = same_Some old o (sym was ∙ h.others n (omega arith) ∙ ap (λ k. slice_get before k) (sym here.0) ∙ oat) in
              subst (λ (v : NoteModel Entry F). Hears v o x) m_is (subst (λ (v : SeatModel Entry F). Hears note v x) o_is (subst (λ (v : SeatModel Entry F). Hears note old v) (sym here.1) hears))
          | inr other ↦ h.below s m o x (smaller s less other.0) mat oat other.1
        ];
    others = λ s above. set_other after n s new (omega arith) ∙ h.others s (omega arith);
  }
    where
      smaller : (s : ℕ) → s < n + 1 → s ≢ n → s < n
      smaller s less other = grind arith

  pub hear_see : (notes : List (NoteModel Entry F)) (before after : List (SeatModel Entry F)) → length notes ≡ length before → HearBelow (length notes) notes before after → SeeMore before after
  hear_see notes before after size h = record {
    count = h.count;
    each = λ s old new oat nat.
        let within : s < length before = slice_get_within before s old oat in
        let note = get_there notes s (omega arith) in
        (h.below s note.0 old new (omega arith) note.1 oat nat).more;
  }

  -- ---- notes are made
  pub notes_more : (seats : List (SeatModel Entry F)) (s : ℕ) (old : SeatModel Entry F) (note : NoteModel Entry F) (notes more : List (NoteModel Entry F)) → slice_get seats s ≡ Some old → notes ≡ map note_of (take s seats) → note ≡ note_of old
      → more ≡ notes ++ note ∷ [] → more ≡ map note_of (take (s + 1) seats)
  notes_more seats s old note notes more at before made pushed =
      pushed
      ∙ ap (λ l. l ++ note ∷ []) before
      ∙ ap (λ x. map note_of (take s seats) ++ x ∷ []) made
      ∙ sym (ap (map note_of) (take_place seats s old at) ∙ map-append note_of (take s seats) (old ∷ []))

  -- ---- parcels
  module _ (scripts : List (List ScriptLine)) (cuts : List (List SyncLine)) where
    pub parcel_notes : (named watches : List (LockModel F)) (name : ℕ) (seats : List (SeatModel Entry F)) (notes : List (NoteModel Entry F)) → named ≡ watches → AreSeatsOf watches seats → notes ≡ map note_of seats
        → KnowAbove scripts cuts name seats → AreNotesUnder scripts cuts named name notes
    parcel_notes named watches name seats notes same are made know = record {
      count = ap length made ∙ length-map seats note_of ∙ are.count ∙ ap length (sym same);
      each = λ s watch note wat at.
          let from = map_get note_of seats s note (ap (λ l. slice_get l s) (sym made) ∙ at) in
          ap (λ (x : NoteModel Entry F). x.lock) from.2 ∙ are.each s watch from.0 (ap (λ l. slice_get l s) (sym same) ∙ wat) from.1;
      know = λ s note at.
          let from = map_get note_of seats s note (ap (λ l. slice_get l s) (sym made) ∙ at) in
          subst (λ (x : NoteModel Entry F). KnowsAbove scripts cuts s name x.seen) (sym from.2) (know s from.0 from.1);
    }

    pub heard_above : (named watches : List (LockModel F)) (name : ℕ) (notes : List (NoteModel Entry F)) (before after : List (SeatModel Entry F)) → length notes ≡ length before → AreNotesUnder scripts cuts named name notes
        → HearBelow (length notes) notes before after → KnowAbove scripts cuts name after
    heard_above named watches name notes before after size are h s seat at k p script posts sat pat posted =
        let within : s < length after = slice_get_within after s seat at in
        let old = get_there before s (omega (arith, h.count)) in
        let note = get_there notes s (omega (arith, h.count)) in
        let heard = h.below s note.0 old.0 seat (omega (arith, h.count)) note.1 old.1 at in
        above_later k p (projection_of (script_of script) s) note.0.seen seat.seen heard.told (are.know s note.0 note.1 k p script posts sat pat posted)

    pub post_passes : (kind : SyncKind) (name : ℕ) (before after : List (SeatModel Entry F)) → kind ≡ Post → after ≡ before → PassesLine scripts cuts kind name before after
    post_passes kind name before after posts same = record { more = see_themselves before after same; told = λ waits. let both : Post ≡ Wait = sym posts ∙ waits in absurd cc }

    pub wait_passes : (kind : SyncKind) (name : ℕ) (before after : List (SeatModel Entry F)) → SeeMore before after → KnowAbove scripts cuts name after → PassesLine scripts cuts kind name before after
    wait_passes kind name before after more told = record { more = more; told = λ waits. told }

    -- ---- the lines of a caller
    pub know_none : (seats : List (SeatModel Entry F)) → KnowPosts scripts cuts [] seats
    know_none seats s seat at k p q name script posts sat pat posted waits = absurd (omega (arith, waits.1))

    pub know_kept : (lines : List SyncLine) (before after : List (SeatModel Entry F)) → length after ≡ length before → KeepOrder before after → KnowPosts scripts cuts lines before → KnowPosts scripts cuts lines after
    know_kept lines before after size keep know s seat at k p q name script posts sat pat posted waits =
        let within : s < length after = slice_get_within after s seat at in
        let old = get_there before s (omega arith) in
        keep s old.0 seat old.1 at k p (projection_of (script_of script) s) q (know s old.0 old.1 k p q name script posts sat pat posted waits)

    -- the lines of what a caller has done are those of its own entries
    own_lines : (P : ℕ → Type 0) (caller : ℕ) (script : List ScriptLine) (s : ℕ) (watch : LockModel F) (seat : SeatModel Entry F) → HasDone caller (projection_of (script_of script) s) watch seat → All (λ l. P l.line) script
        → All (λ (x : Entry). x.caller ≡ seat.number → P x.line) seat.seen
    own_lines P caller script s watch seat h all =
        of_own (λ (x : Entry). P x.line) seat.number seat.seen
        (of_lines P (own_entries caller_of seat) (All-same (λ (step : ℕ × Step). P step.0) (map line_and_step (own_entries caller_of seat)) (projection_of (script_of script) s) h.entries (projected P script s all)))

    pub passed_line : (caller : ℕ) (script : List ScriptLine) (watches : List (LockModel F)) (lines : List SyncLine) (i : ℕ) (line : SyncLine) (before after : List (SeatModel Entry F)) → slice_get lines i ≡ Some line
        → HaveDone caller script watches before → All (λ l. l.line < line.line) script → PassesLine scripts cuts line.kind line.name before after → KnowPosts scripts cuts (take i lines) before
        → KnowPosts scripts cuts (take (i + 1) lines) after
    passed_line caller script watches lines i line before after there done above passes know s seat at k p q name which posts sat pat posted waits =
        let within : s < length after = slice_get_within after s seat at in
        let old = get_there before s (omega (arith, passes.more.count)) in
        let more = passes.more.each s old.0 seat old.1 at in
        let steps = projection_of (script_of which) s in
        ⊎_elim
        (λ earlier. sees_keeps old.0 seat more k p steps q (know s old.0 old.1 k p q name which posts sat pat posted earlier))
        (λ here.
        let wait : line.kind ≡ Wait = ap (λ (l : SyncLine). l.kind) here in
        let named : line.name ≡ name = ap (λ (l : SyncLine). l.name) here in
        let numbered : line.line ≡ q = ap (λ (l : SyncLine). l.line) here in
        let watch = get_there watches s (omega (arith, passes.more.count, done.count)) in
        let own = sees_done caller (projection_of (script_of script) s) watch.0 old.0 seat more (done.each s watch.0 old.0 watch.1 old.1) in
        record {
          has = passes.told wait s seat at k p which posts sat pat (subst (λ (n : ℕ). Contains posts (post_at p n)) (sym named) posted);
          behind = behind_none k p steps seat.number q seat.seen (own_lines (λ n. n ≤ q) caller script s watch.0 seat own (All-weaker (λ (l : ScriptLine). l.line < line.line) (λ (l : ScriptLine). l.line ≤ q) (λ l low. omega arith) script above));
        })
        (Contains-push_cases (take i lines) line (wait_at q name) (subst (λ (ls : List SyncLine). Contains ls (wait_at q name)) (take_place lines i line there) waits))

    -- before a post the seats have seen all that the script has above it
    pub post_known : (named watches : List (LockModel F)) (caller : ℕ) (script did rest : List ScriptLine) (lines : List SyncLine) (i : ℕ) (line : SyncLine) (seats : List (SeatModel Entry F))
        → TakesPart scripts cuts named caller script lines watches → slice_get lines i ≡ Some line → script ≡ did ++ rest → HaveDone caller did watches seats → All (λ l. line.line ≤ l.line) rest → line.kind ≡ Post
        → KnowAbove scripts cuts line.name seats
    post_known named watches caller script did rest lines i line seats part there parted done below_all posts_it s seat at k p which posts sat pat posted =
        let within : s < length seats = slice_get_within seats s seat at in
        let watch = get_there watches s (omega (arith, done.count)) in
        let h = done.each s watch.0 seat watch.1 at in
        let mine : line ≡ post_at line.line line.name = ap (of_kind line) posts_it in
        let there_too : Contains lines (post_at line.line line.name) = subst (λ (l : SyncLine). Contains lines l) mine (contains_at lines i line there) in
        let one = posted_once cuts k caller p line.line line.name posts lines part.once pat part.lines_there posted there_too in
        let which_is : script ≡ which = same_Some script which (sym part.script_there ∙ ap (λ c. slice_get scripts c) (sym one.0) ∙ sat) in
        let above = projection_of (script_of did) s in
        let below = projection_of (script_of rest) s in
        let split : above ++ below ≡ projection_of (script_of which) s = sym (projection-append did rest s) ∙ ap (λ l. projection_of (script_of l) s) (sym parted ∙ which_is) in
        let own : map line_and_step (entries_by caller_of k seat.seen) ≡ above = ap (λ c. map line_and_step (entries_by caller_of c seat.seen)) (one.0 ∙ sym h.number) ∙ h.entries in
        let later = projected (λ l. line.line ≤ l) rest s below_all in
        subst (λ (l : List (ℕ × Step)). HasAbove k p l seat.seen) split
        (subst (λ (m : ℕ). HasAbove k m (above ++ below) seat.seen) (sym one.1) (has_done_above k line.line above below seat.seen own later))

    -- What a caller has done of its script, of which these lines are left, where it has passed as many of the lines that
    -- ask for order as this.
    pub record HasDoneSoFar (caller : ℕ) (script left : List ScriptLine) (lines : List SyncLine) (watches : List (LockModel F)) (passed : ℕ) (seats : List (SeatModel Entry F)) : Type 0 where
      pub did : List ScriptLine
      pub parted : script ≡ did ++ left
      pub done : HaveDone caller did watches seats
      pub above : (m : ℕ) (line : SyncLine) → passed ≤ m → slice_get lines m ≡ Some line → All (λ l. l.line < line.line) did
      pub know : KnowPosts scripts cuts (take passed lines) seats

    pub nothing_done : (caller : ℕ) (script : List ScriptLine) (lines : List SyncLine) (watches : List (LockModel F)) (seats : List (SeatModel Entry F)) → HaveDone caller [] watches seats → HasDoneSoFar caller script script lines watches 0 seats
    nothing_done caller script lines watches seats idle = record {
      did = [];
      parted = refl;
      done = idle;
      above = λ m line later at. All-nil (λ (l : ScriptLine). l.line < line.line);
      know = know_none seats;
    }

    -- what holds after lines were done, and after a line that was passed behind them
    module _ (named watches : List (LockModel F)) (caller : ℕ) (script : List ScriptLine) (lines : List SyncLine) (part : TakesPart scripts cuts named caller script lines watches) (queue left : List ScriptLine) (passed : ℕ)
        (before middle : List (SeatModel Entry F)) (earlier : HasDoneSoFar caller script queue lines watches passed before) (above : Option ℕ) (does : DoLines watches above queue left before middle) where
      abbrev did_now : List ScriptLine
      did_now = earlier.did ++ does.lines

      parted_now : script ≡ did_now ++ left
      parted_now = earlier.parted ∙ ap (λ l. earlier.did ++ l) does.taken ∙ sym (append_assoc earlier.did does.lines left)

      pub done_now : HaveDone caller did_now watches middle
      done_now = does.done caller earlier.did earlier.done

      know_now : KnowPosts scripts cuts (take passed lines) middle
      know_now = know_kept (take passed lines) before middle (done_now.count ∙ sym earlier.done.count) does.keep earlier.know

      module _ (line : SyncLine) (there : slice_get lines passed ≡ Some line) (is : above ≡ Some line.line) where
        above_line : All (λ l. l.line < line.line) did_now
        above_line =
            let first = earlier.above passed line (omega arith) there in
            All-append (λ (l : ScriptLine). l.line < line.line) earlier.did does.lines first (subst (λ (o : Option ℕ). All (StandsAbove o) does.lines) is does.stand)

        pub known_before : All (StandsFrom above) left → line.kind ≡ Post → KnowAbove scripts cuts line.name middle
        known_before below = post_known named watches caller script did_now left lines passed line middle part there parted_now done_now (subst (λ (o : Option ℕ). All (StandsFrom o) left) is below)

        pub passed_now : (after : List (SeatModel Entry F)) → PassesLine scripts cuts line.kind line.name middle after → HasDoneSoFar caller script left lines watches (passed + 1) after
        passed_now after passes = record {
          did = did_now;
          parted = parted_now;
          done = see_done caller did_now watches middle after passes.more done_now;
          above = λ m next later at.
              let less : line.line < next.line = sync_rises 1 lines passed m line next part.rising there at (omega arith) in
              All-weaker (λ (l : ScriptLine). l.line < line.line) (λ (l : ScriptLine). l.line < next.line) (λ l low. omega arith) did_now above_line;
          know = passed_line caller did_now watches lines passed line middle after there done_now above_line passes know_now;
        }

      -- where no line is left, the whole script is done
      pub all_done : above ≡ None → All (StandsFrom above) left → length lines ≤ passed → HaveDone caller script watches middle × KnowPosts scripts cuts lines middle
      all_done is below most =
          let none : left ≡ [] = none_stands left (subst (λ (o : Option ℕ). All (StandsFrom o) left) is below) in
          let whole : did_now ≡ script = sym (append-nil did_now) ∙ ap (λ l. did_now ++ l) (sym none) ∙ sym parted_now in (
            subst (λ (l : List ScriptLine). HaveDone caller l watches middle) whole done_now,
            subst (λ (l : List SyncLine). KnowPosts scripts cuts l middle) (take_all passed lines most) know_now,
          )
