-- From what each caller has done to what each specification's history has.
use Rattle.std.proofs.Common.{◌≡◌, ◌≢◌, ℕ, zero, suc, ◌<◌, ◌≤◌, Bool, true, false, cond, List, [], ◌∷◌, ◌++◌, map, filter, length, take, Some, get_or, slice_get, refl, sym, ap, ◌∙◌, subst, arith, eq-eqb, inl, inr}
use Rattle.std.specs.Prelude.{All, Any, Contains, IfOk, ◌==◌, Result, Ok}
use mathlib.Core.List.{IsPrefix}
use Rattle.std.specs.Fork.{ChangesEach}
use Rattle.std.specs.Option.{option_map}
use Rattle.std.proofs.lemmas.Option.{same_Some, slice_get-map, slice_get_read, slice_get_within, slice_get-get_or, get_or_from_slice_get}
use denote.Param.Members.{Shared}
use denote.Ref.{MutBor}
use Rattle.std.proofs.lemmas.List.{length-map}
use Rattle.std.proofs.lemmas.List.Elements.{All-head, All-tail}
use Rattle.jm_model.specs.Meanings.{Meaning}
use Rattle.jm_model.specs.declared.step.Step.{Step}
use Rattle.jm_model.specs.declared.step.Outcome.TheVariants.{NoMemory}
use Rattle.jm_model.specs.declared.step.Entry.{Entry}
use Rattle.jm_semantics.specs.Scripts.{is_for, projection_of, steps_of}
use Rattle.jm_core.specs.Cores.{Core}
use Rattle.jm_core.specs.Replays.{line_and_step}
use Rattle.jm_core.specs.Steps.{IsFitStep}
use Rattle.jm_turn.specs.Lists.{entries_by}
use Rattle.jm_turn.specs.Seats.{LockModel, SeatModel, IsSeatOf, AreNewcomers, newcomer, own_entries}
use Rattle.jm_turn.proofs.Elements.{all_from_places, place_from_all, get_snoc}
use Rattle.jm_script.specs.declared.script.ScriptLine.{ScriptLine}
use Rattle.jm_script.specs.Projections.{script_of, spec_of, step_of}
use Rattle.jm_sync.specs.declared.line.SyncLine.{SyncLine}
use Rattle.jm_dispatch.specs.declared.watched.Fixed.{Fixed}
use Rattle.jm_dispatch.specs.Steps.{caller_of}
use Rattle.jm_runner.specs.Runs.{AreFitSteps, CanRun, IsRunOf, projections_of}
use Rattle.jm_runner.specs.Tables.{AreColumns}
use Rattle.jm_runner.specs.Work.{FitsWatches, HasDone, HaveDone}
use Rattle.jm_runner.specs.Hands.{AreSeatsOfOne, CanWork, FitAll, HasDoneAll, HasWorked, IsClosed}
use Rattle.jm_runner.specs.Orders.{post_at, wait_at, AreBehind, IsOrdered, KnowsOrder}
use Rattle.jm_sync.specs.Checks.{ArePostedOnce}
use Rattle.jm_sync.specs.Cuts.{RisesFrom}
use Rattle.jm_runner.specs.Notes.{IsNamed, KnowPosts, TakesPart}
use Rattle.jm_runner.proofs.PlaceLemmas.{get_there, map_get}
use Rattle.jm_runner.proofs.OrderLemmas.{behind_later, gives_order}
use Rattle.jm_runner.proofs.WorkLemmas.{newcomer_done}

-- ---- lists
pub map_same : {A : Type 0} (xs : List A) → map (λ x. x) xs ≡ xs
map_same [] = refl
map_same (x ∷ xs) = ap (λ l. x ∷ l) (map_same xs)

-- what a slot has at first
pub at_first : {T E : Type 0} (P : T → Type 0) (hands : List T) (slots : List (Result T E)) (k : ℕ) (x : Result T E) → slots ≡ map (λ h. Ok h) hands → All P hands → k < length slots → x ≡ get_or slots k x → IfOk x P
at_first {T} {E} P hands slots k x made all less is =
    let from = map_get (λ h. Ok h) hands k x (ap (λ l. slice_get l k) (sym made) ∙ slice_get_read slots (length slots) k x refl less is) in
    subst (λ (y : Result T E). IfOk y P) (sym from.2) (place_from_all P hands k from.0 all from.1)

-- what the call at a slot left there, where all calls left a value
pub slot_met : {F T E : Type 0} (g : Shared F (ℕ × (MutBor (Result T E) × Unit {0})) (Unit {0} × (MutBor (Result T E) × Unit {0}))) (f : F) (R : T → T → Type 0) (before after : List (Result T E)) (hands values : List T) (k : ℕ) (hand value : T)
    → ((p q : MutBor (Result T E)) → g.post f (k, (p, tt)) (tt, (q, tt)) → IfOk q.now (λ back. IfOk p.now (λ x. R x back))) → ChangesEach g f before after → before ≡ map (λ x. Ok x) hands → map (λ x. Ok x) values ≡ after
    → slice_get hands k ≡ Some hand → slice_get values k ≡ Some value → R hand value
slot_met {F} {T} {E} g f R before after hands values k hand value says changes made same hat vat =
    let had : slice_get before k ≡ Some (Ok hand) = ap (λ l. slice_get l k) made ∙ slice_get-map (λ x. Ok x) hands k ∙ ap (λ o. option_map (λ x. Ok x) o) hat in
    let has : slice_get after k ≡ Some (Ok value) = ap (λ l. slice_get l k) (sym same) ∙ slice_get-map (λ x. Ok x) values k ∙ ap (λ o. option_map (λ x. Ok x) o) vat in
    let call = (changes k (Ok hand) (slice_get_within before k (Ok hand) had)).1 in
    let was : call.argument.now ≡ Ok hand = call.argument_is ∙ get_or_from_slice_get before k (Ok hand) (Ok hand) had in
    let is : call.after_call.now ≡ Ok value = call.left ∙ get_or_from_slice_get after k (Ok value) (Ok hand) has in
    let said = says call.argument call.after_call call.call in
    let back = subst (λ (r : Result T E). IfOk r (λ b. IfOk call.argument.now (λ x. R x b))) is said in
    subst (λ (r : Result T E). IfOk r (λ x. R x value)) was back

-- what stands at a place of a list that was mapped
pub moved : {A B : Type 0} (f : A → B) (xs : List A) (ys : List B) (k : ℕ) (x : A) → map f xs ≡ ys → slice_get xs k ≡ Some x → slice_get ys k ≡ Some (f x)
moved f xs ys k x same at = ap (λ l. slice_get l k) (sym same) ∙ slice_get-map f xs k ∙ ap (λ o. option_map f o) at

-- what holds of the elements at each place of two lists holds of what they are mapped to
pub both_mapped : {A B : Type 0} (f : A → B) (R : B → B → Type 0) (xs ys : List A) (us vs : List B) → map f xs ≡ us → vs ≡ map f ys → ((k : ℕ) (x y : A) → slice_get xs k ≡ Some x → slice_get ys k ≡ Some y → R (f x) (f y))
    → (k : ℕ) (u v : B) → slice_get us k ≡ Some u → slice_get vs k ≡ Some v → R u v
both_mapped f R xs ys us vs first second related k u v uat vat =
    let x = map_get f xs k u (ap (λ l. slice_get l k) first ∙ uat) in
    let y = map_get f ys k v (ap (λ l. slice_get l k) (sym second) ∙ vat) in
    subst (λ (b : _). R b v) (sym x.2) (subst (λ (b : _). R (f x.0) b) (sym y.2) (related k x.0 y.0 x.1 y.1))

-- the front of two lists, as long as the first, is the first
pub front_only : {A : Type 0} (n : ℕ) (xs ys : List A) → n ≡ length xs → take n (xs ++ ys) ≡ xs
front_only n xs ys e = rw e (front_of xs ys)
  where
    front_of : {A : Type 0} (xs ys : List A) → take (length xs) (xs ++ ys) ≡ xs
    front_of [] ys = refl
    front_of (x ∷ xs) ys = ap (λ l. x ∷ l) (front_of xs ys)

-- what holds at each place of three lists holds with one place more
pub related_more : {A B C : Type 0} (R : A → B → C → Type 0) (ls : List A) (bs : List B) (cs more : List C) (n : ℕ) (a : A) (b : B) (c : C) → length ls ≡ n → length cs ≡ n → more ≡ cs ++ c ∷ []
    → slice_get bs n ≡ Some b → R a b c → ((k : ℕ) (x : A) (y : B) (z : C) → slice_get ls k ≡ Some x → slice_get bs k ≡ Some y → slice_get cs k ≡ Some z → R x y z)
    → (k : ℕ) (x : A) (y : B) (z : C) → slice_get (ls ++ a ∷ []) k ≡ Some x → slice_get bs k ≡ Some y → slice_get more k ≡ Some z → R x y z
related_more R ls bs cs more n a b c an cn is there new old k x y z xat yat zat =
    elim (get_snoc ls a x k xat) [
      | inl before ↦ elim (get_snoc cs c z k (ap (λ l. slice_get l k) (sym is) ∙ zat)) [
        | inl zbefore ↦ old k x y z before yat zbefore
        | inr zlast ↦ let within : k < length ls = slice_get_within ls k x before in let place : k ≡ length cs = zlast.0 in absurd (omega arith)
      ]
      | inr last ↦ elim (get_snoc cs c z k (ap (λ l. slice_get l k) (sym is) ∙ zat)) [
        | inl zbefore ↦ let within : k < length cs = slice_get_within cs k z zbefore in let place : k ≡ length ls = last.0 in absurd (omega arith)
        | inr zlast ↦
            let place : k ≡ n = last.0 ∙ an in
            let y_is : b ≡ y = same_Some b y (sym there ∙ ap (λ j. slice_get bs j) (sym place) ∙ yat) in
            subst (λ v. R v y z) last.1 (subst (λ v. R a v z) y_is (subst (λ v. R a b v) zlast.1 new))
      ]
    ]

-- what holds of all that a test keeps holds of each element that passes it
kept : {A : Type 0} (P : A → Type 0) (test : A → Bool) (xs : List A) (k : ℕ) (x : A) → All P (filter test xs) → slice_get xs k ≡ Some x → test x ≡ true → P x
kept P test [] k x all at passes = absurd (cc (at))
kept P test (y ∷ xs) zero x all at passes =
    let y_is : y ≡ x = same_Some y x at in
    let first : test y ≡ true = ap test y_is ∙ passes in
    subst P y_is (All-head P y (filter test xs) (subst (λ (b : Bool). All P (cond b (y ∷ filter test xs) (filter test xs))) first all))
kept P test (y ∷ xs) (suc k) x all at passes = kept P test xs k x (rest (test y) all) at passes
  where
    rest : (b : Bool) → All P (cond b (y ∷ filter test xs) (filter test xs)) → All P (filter test xs)
    rest true all = All-tail P y (filter test xs) all
    rest false all = all

-- ---- the steps of a script fit
line_fits : (P : ℕ × Step → Type 0) (script : List ScriptLine) (s k : ℕ) (line : ScriptLine) → All P (projection_of (script_of script) s) → slice_get script k ≡ Some line
    → is_for s (spec_of line.target) ≡ true → P (line.line, step_of line.target)
line_fits P [] s k line all at e = absurd (cc (at))
line_fits P (l ∷ script) s zero line all at e =
    let same : l ≡ line = same_Some l line at in
    let here : is_for s (spec_of l.target) ≡ true = ap (λ (x : ScriptLine). is_for s (spec_of x.target)) same ∙ e in
    let first = rw here at all in
    subst (λ (x : ScriptLine). P (x.line, step_of x.target)) same (All-head P (l.line, step_of l.target) (projection_of (script_of script) s) first)
line_fits P (l ∷ script) s (suc k) line all at e = line_fits P script s k line (rest (is_for s (spec_of l.target)) refl) at e
  where
    rest : (b : Bool) → is_for s (spec_of l.target) ≡ b → All P (projection_of (script_of script) s)
    rest true is = All-tail P (l.line, step_of l.target) (projection_of (script_of script) s) (rw is at all)
    rest false is = rw is at all

module _ {D : Type 0} (meaning : D → Meaning) (scripts : List (List ScriptLine)) where
  pub fit_all : (watches : List (LockModel (Fixed D)))
      → ((s : ℕ) (watch : LockModel (Fixed D)) → slice_get watches s ≡ Some watch → All (λ steps. AreFitSteps (meaning watch.fixed.definition) watch.fixed.objects steps) (projections_of scripts s))
      → FitAll meaning watches scripts
  fit_all watches fitting =
      all_from_places (λ script. All (λ line. FitsWatches meaning watches line) script) scripts
      (λ k script at. all_from_places (λ line. FitsWatches meaning watches line) script
      (λ n line here. λ s watch wat e.
      let projection = projection_of (script_of script) s in
      let there : slice_get (projections_of scripts s) k ≡ Some projection = slice_get-map (λ x. projection_of (script_of x) s) scripts k ∙ ap (λ o. option_map (λ x. projection_of (script_of x) s) o) at in
      let all = place_from_all (λ steps. AreFitSteps (meaning watch.fixed.definition) watch.fixed.objects steps) (projections_of scripts s) k projection (fitting s watch wat) there in
      line_fits (λ p. IsFitStep (meaning watch.fixed.definition) watch.fixed.objects p.1) script s n line all here e))

-- ---- the seats of a caller, and those of a watch
module _ {F : Type 0} (watches : List (LockModel F)) where
  -- a column of newcomers has done nothing
  pub idle_column : (rows columns : List (List (SeatModel Entry F))) (k : ℕ) (column : List (SeatModel Entry F)) → length rows ≡ length watches
      → ((s : ℕ) (watch : LockModel F) (row : List (SeatModel Entry F)) → slice_get watches s ≡ Some watch → slice_get rows s ≡ Some row → AreNewcomers watch row)
      → AreColumns rows columns → slice_get columns k ≡ Some column → HaveDone k [] watches column
  idle_column rows columns k column size fresh are at = record {
    count = place_from_all (λ c. length c ≡ length rows) columns k column are.long at ∙ size;
    each = λ s watch seat wat here.
        let r = are.same k s column seat at here in
        let new : seat ≡ newcomer watch k = fresh s watch r.row wat r.there k seat r.here in
        subst (λ (x : SeatModel Entry F). HasDone k [] watch x) (sym new) (newcomer_done k s watch);
  }

  -- the seats of watch s, which came back from all callers
  pub done_column : (scripts : List (List ScriptLine)) (rows columns : List (List (SeatModel Entry F))) (s : ℕ) (watch : LockModel F) (column : List (SeatModel Entry F)) → length rows ≡ length scripts
      → ((k : ℕ) (script : List ScriptLine) (row : List (SeatModel Entry F)) → slice_get scripts k ≡ Some script → slice_get rows k ≡ Some row → HaveDone k script watches row)
      → AreColumns rows columns → slice_get watches s ≡ Some watch → slice_get columns s ≡ Some column
      → (length column ≡ length scripts)
      × ((k : ℕ) (script : List ScriptLine) (seat : SeatModel Entry F) → slice_get scripts k ≡ Some script → slice_get column k ≡ Some seat → HasDone k (projection_of (script_of script) s) watch seat)
  done_column scripts rows columns s watch column size done are wat at = (
    place_from_all (λ c. length c ≡ length rows) columns s column are.long at ∙ size,
    λ k script seat sat here.
        let r = are.same s k column seat at here in
        (done k script r.row sat r.there).each s watch seat wat r.here,
  )

-- ---- the history of a watch
module _ {D : Type 0} (m : Meaning) (scripts : List (List ScriptLine)) (s : ℕ) (watch : LockModel (Fixed D)) (seats : List (SeatModel Entry (Fixed D)))
    (count : length seats ≡ length scripts)
    (done : (k : ℕ) (script : List ScriptLine) (seat : SeatModel Entry (Fixed D)) → slice_get scripts k ≡ Some script → slice_get seats k ≡ Some seat → HasDone k (projection_of (script_of script) s) watch seat) where
  at_seat : (k : ℕ) (seat : SeatModel Entry (Fixed D)) → slice_get seats k ≡ Some seat → (script : List ScriptLine) × (slice_get scripts k ≡ Some script) × HasDone k (projection_of (script_of script) s) watch seat
  at_seat k seat at =
      let within : k < length seats = slice_get_within seats k seat at in
      let script = get_there scripts k (omega arith) in
      (script.0, script.1, done k script.0 seat script.1 at)

  pub seats_of_one : watch.seats ≡ length scripts → AreSeatsOfOne watch seats
  seats_of_one all = record { count = count ∙ sym all; each = all_from_places (λ x. IsSeatOf watch x) seats (λ k seat at. (at_seat k seat at).2.lock) }

  module _ (prop : Core D) (closed : IsClosed m watch seats prop) where
    own_at : (k : ℕ) (seat : SeatModel Entry (Fixed D)) → slice_get seats k ≡ Some seat → seat.number ≡ k → entries_by caller_of k prop.entries ≡ own_entries caller_of seat
    own_at k seat at number =
        subst (λ (n : ℕ). entries_by caller_of n prop.entries ≡ own_entries caller_of seat) number
        (place_from_all (λ x. entries_by caller_of x.number prop.entries ≡ own_entries caller_of x) seats k seat closed.own at)

    each_caller : (k : ℕ) → k < length (projections_of scripts s) → slice_get (projections_of scripts s) k ≡ Some (steps_of k prop.entries)
    each_caller k less =
        let size : length (projections_of scripts s) ≡ length scripts = length-map scripts (λ script. projection_of (script_of script) s) in
        let seat = get_there seats k (omega arith) in
        let h = at_seat k seat.0 seat.1 in
        let steps : projection_of (script_of h.0) s ≡ steps_of k prop.entries = sym h.2.entries ∙ ap (λ l. map line_and_step l) (sym (own_at k seat.0 seat.1 h.2.number)) in
        slice_get-map (λ script. projection_of (script_of script) s) scripts k ∙ ap (λ o. option_map (λ script. projection_of (script_of script) s) o) h.1 ∙ ap (λ l. Some l) steps

    -- whose entry it is, and that it has another outcome than NoMemory
    about : (i : ℕ) (x : Entry) → slice_get prop.entries i ≡ Some x → (x.caller < length scripts) × (x.outcome ≢ NoMemory)
    about i x at =
        let a = place_from_all (λ (y : Entry). Any (λ seat. seat.number ≡ y.caller) seats) prop.entries i x closed.others at in
        let there : slice_get seats a.0 ≡ Some a.1 = slice_get-get_or seats a.0 a.1 a.2 ∙ ap (λ y. Some y) a.3 in
        let h = at_seat a.0 a.1 there in
        let caller : x.caller ≡ a.0 = sym a.4 ∙ h.2.number in
        let less : a.0 < length seats = a.2 in
        let fine = subst (λ (l : List Entry). All (λ y. y.outcome ≢ NoMemory) l) (sym (own_at a.0 a.1 there h.2.number)) h.2.done in
        (omega arith, kept (λ y. y.outcome ≢ NoMemory) (λ y. y.caller == a.0) prop.entries i x fine at (eq-eqb x.caller a.0 caller))

    pub run_of : IsRunOf m scripts s watch.fixed prop
    run_of =
        let size : length (projections_of scripts s) ≡ length scripts = length-map scripts (λ script. projection_of (script_of script) s) in
        record {
          definition = closed.definition;
          objects = closed.objects;
          legal = closed.legal;
          fits = closed.fits;
          interleaving = record {
            callers = all_from_places (λ x. x.caller < length (projections_of scripts s)) prop.entries (λ i x at. let h = (about i x at).0 in omega arith);
            done = all_from_places (λ x. x.outcome ≢ NoMemory) prop.entries (λ i x at. (about i x at).1);
            each = each_caller;
          };
        }

    -- what each caller knows of its waits gives the order of the history
    pub in_order : (cuts : List (List SyncLine)) → length cuts ≡ length scripts
        → ((j : ℕ) (seat : SeatModel Entry (Fixed D)) (lines : List SyncLine) → slice_get seats j ≡ Some seat → slice_get cuts j ≡ Some lines → (k p q name : ℕ) (script : List ScriptLine) (posts : List SyncLine)
        → slice_get scripts k ≡ Some script → slice_get cuts k ≡ Some posts → Contains posts (post_at p name) → Contains lines (wait_at q name) → KnowsOrder k p (projection_of (script_of script) s) q seat)
        → IsOrdered prop.entries cuts
    in_order cuts size known k p j q name posts waits pat wat posted waited =
        let k_within : k < length cuts = slice_get_within cuts k posts pat in
        let j_within : j < length cuts = slice_get_within cuts j waits wat in
        let poster = get_there seats k (omega arith) in
        let waiter = get_there seats j (omega arith) in
        let did = at_seat k poster.0 poster.1 in
        let number : waiter.0.number ≡ j = (at_seat j waiter.0 waiter.1).2.number in
        let steps = projection_of (script_of did.0) s in
        let knows = known j waiter.0 waits waiter.1 wat k p q name did.0 posts did.1 pat posted waited in
        let poster_own : map line_and_step (entries_by caller_of k prop.entries) ≡ steps = ap (map line_and_step) (own_at k poster.0 poster.1 did.2.number) ∙ did.2.entries in
        let waiter_own : entries_by caller_of j prop.entries ≡ entries_by caller_of j waiter.0.seen = own_at j waiter.0 waiter.1 number ∙ ap (λ n. entries_by caller_of n waiter.0.seen) number in
        let seen : IsPrefix waiter.0.seen prop.entries = place_from_all (λ (x : SeatModel Entry (Fixed D)). IsPrefix x.seen prop.entries) seats j waiter.0 closed.seen waiter.1 in
        let behind : AreBehind k p steps j q waiter.0.seen = subst (λ (n : ℕ). AreBehind k p steps n q waiter.0.seen) number knows.behind in
        gives_order prop.entries steps k p j q poster_own (behind_later k p steps j q waiter.0.seen prop.entries seen waiter_own behind)

-- ---- a whole run, over lists of watches with their seats
module _ {F : Type 0} where
  -- the number of the first seat is the caller's
  pub first_number : (k : ℕ) (script : List ScriptLine) (watches : List (LockModel F)) (seats : List (SeatModel Entry F)) (seat : SeatModel Entry F) → 1 ≤ length watches → HaveDone k script watches seats
      → slice_get seats 0 ≡ Some seat → seat.number ≡ k
  first_number k script watches seats seat some h at =
      let watch = get_there watches 0 (omega arith) in
      (h.each 0 watch.0 seat watch.1 at).number

  pub some_seat : (k : ℕ) (script : List ScriptLine) (watches : List (LockModel F)) (seats : List (SeatModel Entry F)) → 1 ≤ length watches → HaveDone k script watches seats → 0 < length seats
  some_seat k script watches seats some h = let size = h.count in omega arith

  pub has_worked : (n : ℕ) (mine : List ScriptLine) (watches : List (LockModel F)) (scripts : List (List ScriptLine)) (cuts : List (List SyncLine)) (before after : List (SeatModel Entry F)) (seat : SeatModel Entry F)
      → 1 ≤ length watches → slice_get before 0 ≡ Some seat → n ≡ seat.number → slice_get scripts n ≡ Some mine → HaveDone n mine watches after
      → ((lines : List SyncLine) → slice_get cuts n ≡ Some lines → KnowPosts scripts cuts lines after) → HasWorked watches scripts cuts before after
  has_worked n mine watches scripts cuts before after seat some first number mat done know k script idle at =
      let same : n ≡ k = number ∙ first_number k [] watches before seat some idle first in
      let is : mine ≡ script = same_Some mine script (sym mat ∙ ap (λ j. slice_get scripts j) same ∙ at) in
      record {
        done = subst (λ (j : ℕ). HaveDone j script watches after) same (subst (λ (x : List ScriptLine). HaveDone n x watches after) is done);
        know = λ lines lat. know lines (ap (λ j. slice_get cuts j) same ∙ lat);
      }

  -- a caller's part in a run that is named
  module _ (js : List (List ScriptLine)) (jc asked : List (List SyncLine)) (jw watches : List (LockModel F)) (names : ℕ) (named : IsNamed js jc jw asked watches names) (n : ℕ) (mine : List ScriptLine) (lines : List SyncLine)
      (mat : slice_get js n ≡ Some mine) (lat : slice_get asked n ≡ Some lines) where
    pub part_of : TakesPart js jc jw n mine lines watches
    part_of = record {
      script_there = mat;
      lines_there = ap (λ l. slice_get l n) named.cuts_are ∙ lat;
      same = named.watches_are;
      once = subst (λ (l : List (List SyncLine)). ArePostedOnce l) (sym named.cuts_are) named.once;
      rising = place_from_all (λ (l : List SyncLine). RisesFrom 1 l) asked n lines named.rising lat;
    }

    pub names_below : All (λ l. l.name < names) lines
    names_below = place_from_all (λ (l : List SyncLine). All (λ (x : SyncLine). x.name < names) l) asked n lines named.below lat

    pub worked_named : (before after : List (SeatModel Entry F)) (seat : SeatModel Entry F) → 1 ≤ length watches → slice_get before 0 ≡ Some seat → n ≡ seat.number → HaveDone n mine watches after → KnowPosts js jc lines after
        → HasWorked watches js asked before after
    worked_named before after seat some first number done know =
        has_worked n mine watches js asked before after seat some first number mat done
        (λ theirs tat.
        let same : lines ≡ theirs = same_Some lines theirs (sym lat ∙ tat) in
        subst (λ (l : List SyncLine). KnowPosts js asked l after) same
        (subst (λ (l : List (List SyncLine)). KnowPosts js l lines after) named.cuts_are know))

module _ {D R V : Type 0} (meaning : D → Meaning) (scripts : List (List ScriptLine)) (running : List R) (watch_of : R → LockModel (Fixed D)) (seats_of : R → V) (items : V → List (SeatModel Entry (Fixed D)))
    (watches : List (LockModel (Fixed D))) (rows : List V) (watches_are : watches ≡ map watch_of running) (rows_are : rows ≡ map seats_of running)
    (ready : (s : ℕ) (r : R) → slice_get running s ≡ Some r → CanRun (meaning (watch_of r).fixed.definition) scripts s (watch_of r) (items (seats_of r))) where
  watch_at : (s : ℕ) (watch : LockModel (Fixed D)) → slice_get watches s ≡ Some watch → (r : R) × (slice_get running s ≡ Some r) × (watch ≡ watch_of r)
  watch_at s watch at = map_get watch_of running s watch (ap (λ l. slice_get l s) (sym watches_are) ∙ at)

  pub rows_long : All (λ v. length (items v) ≡ length scripts) rows
  rows_long = all_from_places (λ v. length (items v) ≡ length scripts) rows (λ s v at.
      let r = map_get seats_of running s v (ap (λ l. slice_get l s) (sym rows_are) ∙ at) in
      ap (λ x. length (items x)) r.2 ∙ (ready s r.0 r.1).all)

  pub all_fit : FitAll meaning watches scripts
  all_fit = fit_all meaning scripts watches (λ s watch at.
      let r = watch_at s watch at in
      subst (λ (w : LockModel (Fixed D)). All (λ steps. AreFitSteps (meaning w.fixed.definition) w.fixed.objects steps) (projections_of scripts s)) (sym r.2) (ready s r.0 r.1).fitting)

  fresh : (s : ℕ) (watch : LockModel (Fixed D)) (row : List (SeatModel Entry (Fixed D))) → slice_get watches s ≡ Some watch → slice_get (map items rows) s ≡ Some row → AreNewcomers watch row
  fresh s watch row wat at =
      let r = watch_at s watch wat in
      let v = map_get items rows s row at in
      let q = map_get seats_of running s v.0 (ap (λ l. slice_get l s) (sym rows_are) ∙ v.1) in
      let one : q.0 ≡ r.0 = same_Some q.0 r.0 (sym q.1 ∙ r.1) in
      let row_is : row ≡ items (seats_of r.0) = v.2 ∙ ap items q.2 ∙ ap (λ x. items (seats_of x)) one in
      subst (λ (w : LockModel (Fixed D)). AreNewcomers w row) (sym r.2) (subst (λ (l : List (SeatModel Entry (Fixed D))). AreNewcomers (watch_of r.0) l) (sym row_is) (ready s r.0 r.1).newcomers)

  sizes : length (map items rows) ≡ length watches
  sizes = length-map rows items ∙ ap length rows_are ∙ length-map running seats_of ∙ sym (length-map running watch_of) ∙ sym (ap length watches_are)

  module _ (hands : List V) (hands_are : AreColumns (map items rows) (map items hands)) where
    pub idle_hand : (k : ℕ) (v : V) → slice_get hands k ≡ Some v → HaveDone k [] watches (items v)
    idle_hand k v at = idle_column watches (map items rows) (map items hands) k (items v) sizes fresh hands_are (slice_get-map items hands k ∙ ap (λ o. option_map items o) at)

    -- a hand has the seats of a caller, and its script
    pub can_work : {H : Type 0} (all : List H) (seats : H → V) (lines : H → List ScriptLine) → map seats all ≡ hands → map lines all ≡ scripts → 1 ≤ length watches → length watches ≤ 16
        → All (λ h. CanWork meaning watches scripts (items (seats h)) (lines h)) all
    can_work all seats lines seats_are lines_are some few = all_from_places (λ h. CanWork meaning watches scripts (items (seats h)) (lines h)) all (λ k h at.
        let column = moved seats all hands k h seats_are at in
        let script = moved lines all scripts k h lines_are at in
        record {
          some = some;
          few = few;
          fits = place_from_all (λ (x : List ScriptLine). All (λ line. FitsWatches meaning watches line) x) scripts k (lines h) all_fit script;
          caller = k;
          script = script;
          idle = idle_hand k (seats h) column;
        })

    module _ (cuts : List (List SyncLine)) (back : List V) (hand_count : length hands ≡ length scripts) (back_count : length back ≡ length hands)
        (worked : (k : ℕ) (before after : V) → slice_get hands k ≡ Some before → slice_get back k ≡ Some after → HasWorked watches scripts cuts (items before) (items after)) where
      back_at : (k : ℕ) (script : List ScriptLine) (v : V) → slice_get scripts k ≡ Some script → slice_get back k ≡ Some v → HasDoneAll watches scripts cuts k script (items v)
      back_at k script v sat at =
          let within : k < length back = slice_get_within back k v at in
          let hand = get_there hands k (omega arith) in
          worked k hand.0 v hand.1 at k script (idle_hand k hand.0 hand.1) sat

      pub back_long : All (λ v. length (items v) ≡ length watches) back
      back_long = all_from_places (λ v. length (items v) ≡ length watches) back (λ k v at.
          let within : k < length back = slice_get_within back k v at in
          let script = get_there scripts k (omega arith) in
          (back_at k script.0 v script.1 at).done.count)

      module _ (all : List V) (all_are : AreColumns (map items back) (map items all)) (s : ℕ) (v : V) (at : slice_get all s ≡ Some v) where
        done_by : (watch : LockModel (Fixed D)) → slice_get watches s ≡ Some watch
            → (length (items v) ≡ length scripts)
            × ((k : ℕ) (script : List ScriptLine) (seat : SeatModel Entry (Fixed D)) → slice_get scripts k ≡ Some script → slice_get (items v) k ≡ Some seat → HasDone k (projection_of (script_of script) s) watch seat)
        done_by watch wat = done_column watches scripts (map items back) (map items all) s watch (items v) (length-map back items ∙ back_count ∙ hand_count)
            (λ k script row sat rat.
            let b = map_get items back k row rat in
            subst (λ (l : List (SeatModel Entry (Fixed D))). HaveDone k script watches l) (sym b.2) (back_at k script b.0 sat b.1).done)
            all_are wat (slice_get-map items all s ∙ ap (λ o. option_map items o) at)

        pub all_of_one : (watch : LockModel (Fixed D)) → slice_get watches s ≡ Some watch → AreSeatsOfOne watch (items v)
        all_of_one watch wat =
            let r = watch_at s watch wat in
            let d = done_by watch wat in
            seats_of_one (meaning watch.fixed.definition) scripts s watch (items v) d.0 d.1 (ap (λ w. w.seats) r.2 ∙ (ready s r.0 r.1).count)

        pub is_run : (r : R) (prop : Core D) → slice_get running s ≡ Some r → IsClosed (meaning (watch_of r).fixed.definition) (watch_of r) (items v) prop
            → IsRunOf (meaning (watch_of r).fixed.definition) scripts s (watch_of r).fixed prop
        is_run r prop rat closed =
            let wat : slice_get watches s ≡ Some (watch_of r) = ap (λ l. slice_get l s) watches_are ∙ slice_get-map watch_of running s ∙ ap (λ o. option_map watch_of o) rat in
            let d = done_by (watch_of r) wat in
            run_of (meaning (watch_of r).fixed.definition) scripts s (watch_of r) (items v) d.0 d.1 prop closed

        -- what the seats that came back know of their callers' waits
        known : (j : ℕ) (seat : SeatModel Entry (Fixed D)) (lines : List SyncLine) → slice_get (items v) j ≡ Some seat → slice_get cuts j ≡ Some lines → length cuts ≡ length scripts → (k p q name : ℕ) (script : List ScriptLine) (posts : List SyncLine)
            → slice_get scripts k ≡ Some script → slice_get cuts k ≡ Some posts → Contains posts (post_at p name) → Contains lines (wait_at q name) → KnowsOrder k p (projection_of (script_of script) s) q seat
        known j seat lines sat lat size k p q name script posts kat pat posted waited =
            let within : j < length cuts = slice_get_within cuts j lines lat in
            let mine = get_there scripts j (omega arith) in
            let r = all_are.same s j (items v) seat (slice_get-map items all s ∙ ap (λ o. option_map items o) at) sat in
            let b = map_get items back j r.row r.there in
            (back_at j mine.0 b.0 mine.1 b.1).know lines lat s seat (ap (λ (l : List (SeatModel Entry (Fixed D))). slice_get l s) (sym b.2) ∙ r.here) k p q name script posts kat pat posted waited

        pub is_ordered : (r : R) (prop : Core D) → slice_get running s ≡ Some r → length cuts ≡ length scripts → IsClosed (meaning (watch_of r).fixed.definition) (watch_of r) (items v) prop → IsOrdered prop.entries cuts
        is_ordered r prop rat size closed =
            let wat : slice_get watches s ≡ Some (watch_of r) = ap (λ l. slice_get l s) watches_are ∙ slice_get-map watch_of running s ∙ ap (λ o. option_map watch_of o) rat in
            let d = done_by (watch_of r) wat in
            in_order (meaning (watch_of r).fixed.definition) scripts s (watch_of r) (items v) d.0 d.1 prop closed cuts size (λ j seat lines sat lat. known j seat lines sat lat size)
