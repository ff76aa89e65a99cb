-- One entry more.
use Rattle.std.proofs.Common.{◌≡◌, ℕ, ◌+◌, ◌<◌, ◌≤◌, List, [], ◌∷◌, ◌++◌, length, take, drop, get_or, refl, sym, ap, ◌∙◌, subst, inl, inr, arith, true, eq-eqb}
use Rattle.std.specs.Prelude.{◌==◌, Option, Some, Result, Ok, Err, IfOk, OnOk, All, Contains, filter, slice_get}
use Rattle.std.proofs.lemmas.Option.{get_or_from_slice_get}
use Rattle.std.proofs.lemmas.List.{length-map}
use Rattle.std.proofs.lemmas.List.Elements.{All-contains, All-contains_itself, All-get_or, All-nil, All-weaker}
use Rattle.jm_semantics.specs.Scripts.{steps_of}
use Rattle.jm_semantics.specs.Traces.{seen_of}
use Rattle.jm_semantics.specs.Histories.{trace_of}
use Rattle.jm_model.specs.Words.{Text}
use Rattle.jm_model.specs.Meanings.{Meaning}
use Rattle.jm_model.specs.declared.step.Entry.{Entry}
use Rattle.jm_model.specs.declared.step.Step.{Step}
use Rattle.jm_model.specs.declared.step.Step.TheVariants.{Event, Death, Pass}
use Rattle.jm_print.specs.Lexicons.{Lexicon}
use Rattle.jm_print.specs.Names.{IsNamed, IsNamedStep}
use Rattle.jm_print.specs.Texts.{full_entry_text, IsPrintable}
use Rattle.jm_print.proofs.PrintLemmas.{told, seen_more, printable_step}
use Rattle.jm_script.specs.declared.script.ScriptLine.{ScriptLine}
use Rattle.jm_audit.specs.Allowed.{steps_on}
use Rattle.jm_semantics.proofs.ListLemmas.{Contains-filter, Contains-map}
use Rattle.jm_audit.specs.Sheets.{IsFit, AreFit}
use Rattle.jm_audit.specs.Accounts.{IsAccountOf, IsReplied, HasRoom}
use Rattle.jm_audit.specs.Places.{before, within, head_text, end_text, IsNextEntry, AreAllDone, IsWritten, IsLeftBehind}
use Rattle.jm_audit.specs.Pending.{left_of, AreUnderway, IsMarkedBy, IsChoice, HasLeft}
use Rattle.jm_audit.specs.Progress.{IsReady, IsPickedEntry, IsWrittenNext}
use Rattle.jm_audit.specs.declared.account.Account.{Account}
use Rattle.jm_audit.specs.declared.pending.Pending.{Pending}
use Rattle.jm_audit.specs.declared.progress.Progress.{Progress}
use Rattle.jm_audit.proofs.PlaceLemmas.{head_feeds, end_feeds, entry_feeds, picks_head, picks_end, picks_entry, written_on}
use Rattle.jm_audit.proofs.UnderwayLemmas.{list_at, there, without, is_first, has_left, chosen, taken_out}

-- a step that is taken out at a place is among them
pub at_place : (P : Pending → Type 0) (pending : List Pending) (place : ℕ) (next : Pending) → place < length pending → next ≡ get_or pending place next → All P pending → P next
at_place P pending place next less is all = subst P (sym is) (All-get_or P pending place next less all)

pub has_room : (l : Lexicon) (n : ℕ) (s : Step) → n ≡ length l.objects → IsNamedStep l s → HasRoom n s
has_room l n (Event e b) is named = tt
has_room l n (Death o) is named = subst (λ k. o < k) (sym is) named
has_room l n Pass is named = tt

-- ---- the start
fit_pending : (m : Meaning) (l : Lexicon) (lists : List (List (ℕ × Step))) (pending : List Pending) → AreFit m l lists → AreUnderway lists [] pending → All (λ p. IsFit m l p.step) pending
fit_pending m l lists pending fit under =
    All-weaker (Contains pending) (λ (p : Pending). IsFit m l p.step) fits_one pending (All-contains_itself pending)
  where
    fits_one : (p : Pending) → Contains pending p → IsFit m l p.step
    fits_one p among =
        let low : p.caller < length lists = All-contains (λ (q : Pending). q.caller < length lists) pending p under.callers among in
        let own = list_at lists p.caller low in
        let left : own.0 ≡ left_of p.caller pending = under.each p.caller own.0 own.1 in
        let mine : (p.caller == p.caller) ≡ true = eq-eqb p.caller p.caller refl in
        let there : Contains (left_of p.caller pending) (p.line, p.step) =
        Contains-map (λ (q : Pending). (q.line, q.step)) (filter (λ (q : Pending). q.caller == p.caller) pending) p (Contains-filter (λ (q : Pending). q.caller == p.caller) pending p among mine) in
        All-contains (λ (s : ℕ × Step). IsFit m l s.1) (left_of p.caller pending) (p.line, p.step)
        (subst (All (λ (s : ℕ × Step). IsFit m l s.1)) left (fit.steps p.caller own.0 own.1)) there

pub ready_first : (m : Meaning) (l : Lexicon) (lists : List (List (ℕ × Step))) (now : Progress) → AreFit m l lists → now.history.items ≡ [] → AreUnderway lists [] now.pending.items → IsAccountOf m [] now.account
    → length now.account.dead.items ≡ length l.objects → IsReady m l now
ready_first m l lists now fit none under account room = record {
  handlers = fit.handlers;
  account = subst (λ h. IsAccountOf m h now.account) (sym none) account;
  seen = subst (λ h. All (IsNamed l) (seen_of (trace_of h))) (sym none) (All-nil (IsNamed l));
  room = room;
  fit = fit_pending m l lists now.pending.items fit under;
}

pub no_items : {X : Type 0} (xs : List X) → length xs ≤ 0 → xs ≡ []
no_items [] none = refl
no_items (x ∷ xs) none = absurd (omega (arith, none))

-- The entry of the chosen step, with the reply to it.
module _ (m : Meaning) (l : Lexicon) (now : Progress) (ready : IsReady m l now) (rest : Option Text) (place : ℕ) (choice : IsChoice now.pending.items rest place) (next : Pending)
    (taken : next ≡ get_or now.pending.items place next) (x : Entry) (same : (x.caller ≡ next.caller) × (x.line ≡ next.line) × (x.step ≡ next.step)) (account : Account)
    (replied : IsReplied m now.history.items x.step x.outcome account) where
  is_chosen : next ≡ choice.step
  is_chosen = taken ∙ get_or_from_slice_get now.pending.items place choice.step next choice.is

  caller : x.caller ≡ choice.step.caller
  caller = same.0 ∙ ap (λ (p : Pending). p.caller) is_chosen

  line : x.line ≡ choice.step.line
  line = same.1 ∙ ap (λ (p : Pending). p.line) is_chosen

  step : x.step ≡ choice.step.step
  step = same.2 ∙ ap (λ (p : Pending). p.step) is_chosen

  abbrev h : List Entry
  h = now.history.items

  abbrev pending : List Pending
  pending = now.pending.items

  fits : IsFit m l x.step
  fits = subst (IsFit m l) (sym step)
      (All-contains (λ (p : Pending). IsFit m l p.step) pending choice.step ready.fit (there pending place choice.step choice.first))

  pub can_print : IsPrintable l x
  can_print = printable_step l m ready.handlers h x.step x.outcome ready.seen fits.1 replied.done replied.reply

  pub ready_next : (after : Progress) → after.history.items ≡ h ++ x ∷ [] → after.pending.items ≡ take place pending ++ drop (place + 1) pending → after.account ≡ account
      → length account.dead.items ≡ length now.account.dead.items → IsReady m l after
  ready_next after history left kept room = record {
    handlers = ready.handlers;
    account = subst (λ g. IsAccountOf m g after.account) (sym history) (subst (IsAccountOf m (h ++ x ∷ [])) (sym kept) (replied.next x refl refl));
    seen = subst (λ g. All (IsNamed l) (seen_of (trace_of g))) (sym history) (seen_more l m ready.handlers h x ready.seen (told l m ready.handlers x.step x.outcome fits.1));
    room = ap (λ (a : Account). length a.dead.items) kept ∙ room ∙ ready.room;
    fit = subst (All (λ (p : Pending). IsFit m l p.step)) (sym left) (without pending place choice.step choice.first (λ (p : Pending). IsFit m l p.step) ready.fit);
  }

  pub under_next : (g : List Entry) (ps : List Pending) → g ≡ h ++ x ∷ [] → ps ≡ take place pending ++ drop (place + 1) pending
      → (lists : List (List (ℕ × Step))) → AreUnderway lists h pending → AreUnderway lists g ps
  under_next g ps history left lists under =
      subst (λ k. AreUnderway lists k ps) (sym history)
      (subst (AreUnderway lists (h ++ x ∷ [])) (sym left) (taken_out lists h pending under place choice.step choice.first x caller line step))

  next_entry : (lists : List (List (ℕ × Step))) → AreUnderway lists h pending → IsNextEntry m lists h x.caller x
  next_entry lists under = record {
    by = refl;
    later = left_of choice.step.caller choice.first.back;
    first =
        subst (λ c. slice_get lists c ≡ Some (steps_of c h ++ (x.line, x.step) ∷ left_of choice.step.caller choice.first.back)) (sym caller)
        (is_first lists h pending under place choice.step choice.first
        ∙ (λ i. Some (steps_of choice.step.caller h ++ (sym line i, sym step i) ∷ left_of choice.step.caller choice.first.back)));
    own = fits.0;
    reply = replied.reply;
    done = replied.done;
  }

  pub picked_next : (lists : List (List (ℕ × Step))) → length lists ≤ 16 → AreUnderway lists h pending → IsPickedEntry m lists h rest x
  picked_next lists few under = record {
    entry = next_entry lists under;
    left = subst (HasLeft lists h) (sym caller) (has_left lists h pending under place choice.step choice.first);
    picked = λ r is j left front.
        chosen lists h pending under place choice.step choice.first (omega (arith, few)) r (subst (λ o. IsMarkedBy o pending choice.step.caller) is choice.marked) j left front ∙ sym caller;
  }

-- what follows where a call gave an answer
pub if_ok : {T E : Type 0} (r : Result T E) (A : Type 0) (P Q : T → Type 0) → OnOk r A → IfOk r P → ((x : T) → A → P x → Q x) → IfOk r Q
if_ok (Ok x) A P Q a p turn = turn x a p
if_ok (Err e) A P Q a p turn = tt

-- ---- block by block
module _ {X : Type 0} (mean : X → Meaning) (words : X → Lexicon) (scripts : List (List ScriptLine)) (xs : List X) (text : Text) (n : ℕ) (x : X) (at : slice_get xs n ≡ Some x) where
  pub head_written : (old new : Text) (rest left : Option Text) → new ≡ old ++ head_text (words x) → IsLeftBehind (head_text (words x)) rest left
      → IsWritten mean words scripts xs text old rest (before n) → IsWritten mean words scripts xs text new left (within n [])
  head_written old new rest left is behind so =
      subst (λ w. IsWritten mean words scripts xs text w left (within n [])) (sym is)
      (written_on mean words scripts xs text old (head_text (words x)) rest left (before n) (within n []) 0 so (x, at, refl, refl, refl) (head_feeds (words x))
      (λ r e. picks_head mean words scripts xs n r) behind)

  pub end_written : (h : List Entry) (old new : Text) (rest left : Option Text) → AreAllDone (steps_on scripts n) h → new ≡ old ++ end_text (length h) → IsLeftBehind (end_text (length h)) rest left
      → IsWritten mean words scripts xs text old rest (within n h) → IsWritten mean words scripts xs text new left (before (n + 1))
  end_written h old new rest left done is behind so =
      subst (λ w. IsWritten mean words scripts xs text w left (before (n + 1))) (sym is)
      (written_on mean words scripts xs text old (end_text (length h)) rest left (within n h) (before (n + 1)) (length scripts) so (x, at, inr (done, refl, refl, refl)) (end_feeds (length h))
      (λ r e. picks_end mean words scripts xs n h r done) behind)

  pub entry_written : (now next : Progress) (old new : Text) (rest left : Option Text) → length scripts ≤ 16 → AreUnderway (steps_on scripts n) now.history.items now.pending.items
      → IsWrittenNext (mean x) (words x) now next rest left old new
      → IsWritten mean words scripts xs text old rest (within n now.history.items) → IsWritten mean words scripts xs text new left (within n next.history.items)
  entry_written now next old new rest left few under one so =
      let h = now.history.items in
      let e = one.entry in
      let block : Text = full_entry_text (words x) e in
      let many : length (steps_on scripts n) ≡ length scripts = length-map scripts _ in
      let picked = one.picked (steps_on scripts n) (omega (arith, many, few)) under in
      subst (λ g. IsWritten mean words scripts xs text new left (within n g)) (sym one.history)
      (subst (λ w. IsWritten mean words scripts xs text w left (within n (h ++ e ∷ []))) (sym one.written)
      (written_on mean words scripts xs text old block rest left (within n h) (within n (h ++ e ∷ [])) e.caller so (x, at, inl (e, picked.entry, refl, refl))
      (entry_feeds (mean x) (words x) h e picked.entry.reply picked.entry.done)
      (λ r is. picks_entry mean words scripts xs n h e.caller e.caller r picked.left (picked.picked r is)) one.behind))
