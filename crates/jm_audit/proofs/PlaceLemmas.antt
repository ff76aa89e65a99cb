-- What may be said from a place on is what an allowed text says there.
use Rattle.std.proofs.Common.{◌≡◌, ◌≢◌, ℕ, zero, suc, ◌+◌, ◌<◌, true, false, List, [], ◌∷◌, ◌++◌, length, drop, map, refl, sym, ap, ◌∙◌, subst, inl, inr, arith, add-one, eq-eqb, append-nil}
use Rattle.std.specs.Prelude.{◌⊎◌, ◌==◌, Option, Some, None, All, slice_get, codes, decimal, filter}
use Rattle.std.specs.List.{flat_map}
use Rattle.std.proofs.lemmas.Bool.{ne_eqb}
use Rattle.std.proofs.lemmas.Option.{none-some, same_Some}
use Rattle.std.proofs.lemmas.List.{append_assoc, map-append}
use Rattle.std.proofs.lemmas.List.Elements.{All-push, All-nil, All-head, All-tail, filter-append}
use mathlib.Core.List.{IsPrefix}
use Rattle.jm_model.specs.Words.{Text}
use Rattle.jm_model.specs.Meanings.{Meaning}
use Rattle.jm_model.specs.declared.step.Entry.{Entry}
use Rattle.jm_model.specs.declared.step.Step.{Step}
use Rattle.jm_model.specs.declared.step.Step.TheVariants.{Event, Death, Pass}
use Rattle.jm_model.specs.declared.step.Outcome.{Outcome}
use Rattle.jm_model.specs.declared.step.Outcome.TheVariants.{Fired, Refused, Done, Kept, NoMemory}
use Rattle.jm_semantics.specs.Scripts.{steps_of, IsInterleaving}
use Rattle.jm_semantics.specs.Legality.{IsReply, IsLegal, IsLegalAfter}
use Rattle.jm_semantics.proofs.ReplyLemmas.{reply_is_determined-lem}
use Rattle.jm_semantics.proofs.LegalityLemmas.{legal-push}
use Rattle.jm_print.specs.Lexicons.{Lexicon, name_of}
use Rattle.jm_print.specs.Texts.{full_entry_text, run_text, outcome_text, binding_text, history_text}
use Rattle.jm_print.specs.Told.{texts_of}
use Rattle.jm_print.proofs.Cutting.{decimal-digits, digits-lack}
use Rattle.jm_script.specs.declared.script.ScriptLine.{ScriptLine}
use Rattle.jm_audit.specs.Allowed.{steps_on, IsHistoryOf, AreHistoriesFrom, IsAllowed}
use Rattle.jm_audit.specs.Guides.{said, Says, stop, go, Picks, Guided, stopped, follows, leaves, AreDetermined}
use Rattle.jm_audit.specs.Pending.{HasLeft}
use Rattle.jm_audit.specs.Places.{Place, before, within, head_text, end_text, IsNextEntry, AreAllDone, Writes, Goes, Ends, GoesOn, IsWritten, IsLeftBehind}
use Rattle.jm_audit.proofs.LineLemmas.{same_behind, first_lines, within_line, one_line, one_line-append, HasFeed, feed-left, feed-right, cut_line}

-- ---- lists
drop_none : {X : Type 0} (xs : List X) (n : ℕ) → slice_get xs n ≡ None → drop n xs ≡ []
drop_none [] zero h = refl
drop_none [] (suc n) h = refl
drop_none (x ∷ xs) zero h = absurd (none-some x (sym h))
drop_none (x ∷ xs) (suc n) h = drop_none xs n h

drop_some : {X : Type 0} (xs : List X) (n : ℕ) (x : X) → slice_get xs n ≡ Some x → drop n xs ≡ x ∷ drop (n + 1) xs
drop_some xs n x h = rw (add-one n) (at xs n h)
  where
    at : (ys : List _) (k : ℕ) → slice_get ys k ≡ Some x → drop k ys ≡ x ∷ drop (suc k) ys
    at [] k h = absurd (none-some x h)
    at (y ∷ ys) zero h = ap (λ z. z ∷ ys) (same_Some y x h)
    at (y ∷ ys) (suc k) h = at ys k h

some_drop : {X : Type 0} (xs : List X) (n : ℕ) (x : X) (rest : List X) → drop n xs ≡ x ∷ rest → (slice_get xs n ≡ Some x) × (drop (n + 1) xs ≡ rest)
some_drop {X} xs n x rest h = let got = at xs n h in (got.0, rw (add-one n) got.1)
  where
    at : (ys : List X) (k : ℕ) → drop k ys ≡ x ∷ rest → (slice_get ys k ≡ Some x) × (drop (suc k) ys ≡ rest)
    at [] zero h = absurd (cc (h))
    at [] (suc k) h = absurd (cc (h))
    at (y ∷ ys) zero h = (ap Some (let same : y ≡ x = cc (h) in same), cc (h))
    at (y ∷ ys) (suc k) h = at ys k h

none_drop : {X : Type 0} (xs : List X) (n : ℕ) → drop n xs ≡ [] → slice_get xs n ≡ None
none_drop [] zero h = refl
none_drop [] (suc n) h = refl
none_drop (x ∷ xs) zero h = absurd (cc (h))
none_drop (x ∷ xs) (suc n) h = none_drop xs n h

-- ---- one entry more
pub steps_of-append : (k : ℕ) (h g : List Entry) → steps_of k (h ++ g) ≡ steps_of k h ++ steps_of k g
steps_of-append k h g =
    ap (map (λ (x : Entry). (x.line, x.step))) (filter-append (λ (x : Entry). x.caller == k) h g)
    ∙ map-append (λ (x : Entry). (x.line, x.step)) (filter (λ (x : Entry). x.caller == k) h) (filter (λ (x : Entry). x.caller == k) g)

pub steps_of-here : (k : ℕ) (x : Entry) (g : List Entry) → x.caller ≡ k → steps_of k (x ∷ g) ≡ (x.line, x.step) ∷ steps_of k g
steps_of-here k x g same = let test : (x.caller == k) ≡ true = eq-eqb x.caller k same in rw test refl

pub steps_of-other : (k : ℕ) (x : Entry) (g : List Entry) → x.caller ≢ k → steps_of k (x ∷ g) ≡ steps_of k g
steps_of-other k x g other = let test : (x.caller == k) ≡ false = ne_eqb x.caller k other in rw test refl

-- ---- texts
pub head_feeds : (l : Lexicon) → HasFeed (head_text l)
head_feeds l = feed-right (codes "spec " ++ l.specification) (codes "\n") (record { front = []; back = []; is = refl })

pub end_feeds : (n : ℕ) → HasFeed (end_text n)
end_feeds n = feed-right (codes "end " ++ decimal n) (codes "\n") (record { front = []; back = []; is = refl })

feed : HasFeed (codes "\n")
feed = record { front = []; back = []; is = refl }

outcome_feeds : (m : Meaning) (l : Lexicon) (h : List Entry) (x : Entry) (s : Step) (o : Outcome) → IsReply m h s o → o ≢ NoMemory → HasFeed (outcome_text (run_text l x) l s o)
outcome_feeds m l h x (Event e b) (Fired firings) reply done =
    feed-left (name_of l.events e.0 ++ codes " " ++ binding_text l b ++ codes " fired " ++ decimal (length firings) ++ codes "\n") (flat_map (run_text l x) firings)
    (feed-right (name_of l.events e.0 ++ codes " " ++ binding_text l b ++ codes " fired " ++ decimal (length firings)) (codes "\n") feed)
outcome_feeds m l h x (Event e b) (Refused q) reply done =
    feed-right (name_of l.events e.0 ++ codes " " ++ binding_text l b ++ codes " refused " ++ name_of l.objects q) (codes "\n") feed
outcome_feeds m l h x (Event e b) Done reply done = absurd reply
outcome_feeds m l h x (Event e b) (Kept n) reply done = absurd reply
outcome_feeds m l h x (Event e b) NoMemory reply done = absurd (done refl)
outcome_feeds m l h x (Death q) Done reply done = feed-right (codes "death " ++ name_of l.objects q) (codes " done\n") (record { front = codes " done"; back = []; is = refl })
outcome_feeds m l h x (Death o) (Refused q) reply done = feed-right (codes "death " ++ name_of l.objects o ++ codes " refused " ++ name_of l.objects q) (codes "\n") feed
outcome_feeds m l h x (Death o) (Fired firings) reply done = absurd reply
outcome_feeds m l h x (Death o) (Kept n) reply done = absurd reply
outcome_feeds m l h x (Death o) NoMemory reply done = absurd reply
outcome_feeds m l h x Pass (Kept n) reply done = feed-right (codes "pass kept " ++ decimal n) (codes "\n") feed
outcome_feeds m l h x Pass (Fired firings) reply done = absurd reply
outcome_feeds m l h x Pass (Refused q) reply done = absurd reply
outcome_feeds m l h x Pass Done reply done = absurd reply
outcome_feeds m l h x Pass NoMemory reply done = absurd reply

pub entry_feeds : (m : Meaning) (l : Lexicon) (h : List Entry) (x : Entry) → IsReply m h x.step x.outcome → x.outcome ≢ NoMemory → HasFeed (full_entry_text l x)
entry_feeds m l h x reply done =
    feed-right (decimal x.caller ++ codes ":" ++ decimal x.line ++ codes " ") (outcome_text (run_text l x) l x.step x.outcome) (outcome_feeds m l h x x.step x.outcome reply done)

-- its first line begins with its caller
caller_first : (l : Lexicon) (x : Entry) (line more : Text) → (line ++ 10 ∷ []) ++ more ≡ full_entry_text l x → IsPrefix (decimal x.caller ++ 58 ∷ []) (line ++ 10 ∷ [])
caller_first l x line more is =
    let front = decimal x.caller ++ 58 ∷ [] in
    let said = outcome_text (run_text l x) l x.step x.outcome in
    let whole : full_entry_text l x ≡ front ++ (decimal x.line ++ (codes " " ++ said)) =
    append_assoc (front ++ decimal x.line) (codes " ") said ∙ append_assoc front (decimal x.line) (codes " " ++ said) in
    within_line front line more (decimal x.line ++ (codes " " ++ said))
    (one_line-append (decimal x.caller) (58 ∷ []) (one_line (decimal x.caller) (digits-lack (decimal x.caller) 10 (inl (omega arith)) (decimal-digits x.caller))) ((λ (e : 58 ≡ 10). absurd (omega (arith, e))), tt))
    (is ∙ whole)

-- ---- an entry is determined
module _ (m : Meaning) (lists : List (List (ℕ × Step))) (h : List Entry) (k : ℕ) where
  next_one : (x y : Entry) → IsNextEntry m lists h k x → IsNextEntry m lists h k y → x ≡ y
  next_one x y p q =
      let lists_same : steps_of k h ++ (x.line, x.step) ∷ p.later ≡ steps_of k h ++ (y.line, y.step) ∷ q.later = same_Some _ _ (sym p.first ∙ q.first) in
      let rest = same_behind (steps_of k h) ((x.line, x.step) ∷ p.later) ((y.line, y.step) ∷ q.later) lists_same in
      let one = heads (x.line, x.step) (y.line, y.step) p.later q.later rest in
      let line : x.line ≡ y.line = ap (λ (z : ℕ × Step). z.0) one in
      let step : x.step ≡ y.step = ap (λ (z : ℕ × Step). z.1) one in
      let caller : x.caller ≡ y.caller = p.by ∙ sym q.by in
      let outcome : x.outcome ≡ y.outcome = reply_is_determined-lem m h x.step x.outcome y.outcome p.reply (subst (λ s. IsReply m h s y.outcome) (sym step) q.reply) p.done q.done in
      λ i. record { caller = caller i; line = line i; step = step i; outcome = outcome i }
    where
      heads : (a b : ℕ × Step) (as' bs : List (ℕ × Step)) → a ∷ as' ≡ b ∷ bs → a ≡ b
      heads a b as' bs e = cc (e)

  next_or_done : (x : Entry) → IsNextEntry m lists h k x → AreAllDone lists h → ⊥
  next_or_done x p done =
      let all : steps_of k h ++ (x.line, x.step) ∷ p.later ≡ steps_of k h = done k (steps_of k h ++ (x.line, x.step) ∷ p.later) p.first in
      let rest : (x.line, x.step) ∷ p.later ≡ [] = same_behind (steps_of k h) ((x.line, x.step) ∷ p.later) [] (all ∙ sym (append-nil (steps_of k h))) in
      absurd (cc (rest))

left_or_done : (lists : List (List (ℕ × Step))) (h : List Entry) (j : ℕ) → HasLeft lists h j → AreAllDone lists h → ⊥
left_or_done lists h j p done =
    let all : steps_of j h ++ p.step ∷ p.later ≡ steps_of j h = done j (steps_of j h ++ p.step ∷ p.later) p.is in
    let rest : p.step ∷ p.later ≡ [] = same_behind (steps_of j h) (p.step ∷ p.later) [] (all ∙ sym (append-nil (steps_of j h))) in
    absurd (cc (rest))

module _ {X : Type 0} (mean : X → Meaning) (words : X → Lexicon) (scripts : List (List ScriptLine)) (xs : List X) where
  abbrev W : Place → ℕ → Text → Place → Type 0
  W = Writes mean words scripts xs

  abbrev G : Place → ℕ → Text → Text → Place → Type 0
  G = Goes mean words scripts xs

  abbrev E : Place → Text → Type 0
  E = Ends mean words scripts xs

  -- ---- steps are determined
  writes_one : (s : Place) (k : ℕ) (block other : Text) (next next' : Place) → W s k block next → W s k other next' → (block ≡ other) × (next ≡ next')
  writes_one (before n) k block other next next' p q =
      let same : p.0 ≡ q.0 = same_Some p.0 q.0 (sym p.1 ∙ q.1) in
      (p.3 ∙ ap (λ x. head_text (words x)) same ∙ sym q.3, p.4 ∙ sym q.4)
  writes_one (within n h) k block other next next' p q =
      let same : q.0 ≡ p.0 = same_Some q.0 p.0 (sym q.1 ∙ p.1) in
      go' p.2 (subst (λ x. ((e : Entry) × IsNextEntry (mean x) (steps_on scripts n) h k e × (other ≡ full_entry_text (words x) e) × (next' ≡ within n (h ++ e ∷ [])))
      ⊎ (AreAllDone (steps_on scripts n) h × (k ≡ length scripts) × (other ≡ end_text (length h)) × (next' ≡ before (n + 1)))) same q.2)
    where
      go' : ((e : Entry) × IsNextEntry (mean p.0) (steps_on scripts n) h k e × (block ≡ full_entry_text (words p.0) e) × (next ≡ within n (h ++ e ∷ [])))
          ⊎ (AreAllDone (steps_on scripts n) h × (k ≡ length scripts) × (block ≡ end_text (length h)) × (next ≡ before (n + 1)))
          → ((e : Entry) × IsNextEntry (mean p.0) (steps_on scripts n) h k e × (other ≡ full_entry_text (words p.0) e) × (next' ≡ within n (h ++ e ∷ [])))
          ⊎ (AreAllDone (steps_on scripts n) h × (k ≡ length scripts) × (other ≡ end_text (length h)) × (next' ≡ before (n + 1)))
          → (block ≡ other) × (next ≡ next')
      go' (inl a) (inl b) =
          let one : a.0 ≡ b.0 = next_one (mean p.0) (steps_on scripts n) h k a.0 b.0 a.1 b.1 in
          (a.2 ∙ ap (full_entry_text (words p.0)) one ∙ sym b.2, a.3 ∙ ap (λ e. within n (h ++ e ∷ [])) one ∙ sym b.3)
      go' (inl a) (inr b) = absurd (next_or_done (mean p.0) (steps_on scripts n) h k a.0 a.1 b.0)
      go' (inr a) (inl b) = absurd (next_or_done (mean p.0) (steps_on scripts n) h k b.0 b.1 a.0)
      go' (inr a) (inr b) = (a.2 ∙ sym b.2, a.3 ∙ sym b.3)

  ends_apart : (s : Place) (u : Text) (k : ℕ) (block : Text) (next : Place) → E s u → W s k block next → ⊥
  ends_apart (before n) u k block next e w = none-some w.0 (sym e.0 ∙ w.1)
  ends_apart (within n h) u k block next e w = e

  ends_one : (s : Place) (u v : Text) → E s u → E s v → u ≡ v
  ends_one (before n) u v e d = e.1 ∙ sym d.1
  ends_one (within n h) u v e d = absurd e

  pub determined : AreDetermined G E
  determined = record {
    one_line = λ s k line more n goes. goes.0;
    one_way = λ s k line more n line' more' n' p q.
        let one = writes_one s k ((line ++ 10 ∷ []) ++ more) ((line' ++ 10 ∷ []) ++ more') n n' p.1 q.1 in
        let lines = first_lines line line' more more' p.0 q.0 one.0 in
        (lines.0, lines.1, one.1);
    one_end = ends_one;
    apart = λ s u k line more n e goes. ends_apart s u k ((line ++ 10 ∷ []) ++ more) n e goes.1;
  }

  -- ---- the text picks the caller
  pub picks_head : (n : ℕ) (t : Text) → Picks G E (before n) 0 t
  picks_head n t j line more next goes front = goes.1.2

  pub picks_end : (n : ℕ) (h : List Entry) (t : Text) → AreAllDone (steps_on scripts n) h → Picks G E (within n h) (length scripts) t
  picks_end n h t done j line more next goes front = elim goes.1.2 [
    | inl entry ↦ absurd (next_or_done (mean goes.1.0) (steps_on scripts n) h j entry.0 entry.1 done)
    | inr end ↦ end.1
  ]

  pub picks_entry : (n : ℕ) (h : List Entry) (k i : ℕ) (t : Text) → HasLeft (steps_on scripts n) h i
      → ((j : ℕ) → HasLeft (steps_on scripts n) h j → IsPrefix (decimal j ++ 58 ∷ []) t → j ≡ k) → Picks G E (within n h) k t
  picks_entry n h k i t some chosen j line more next goes front = elim goes.1.2 [
    | inl entry ↦
        let x = entry.0 in
        let first = caller_first (words goes.1.0) x line more entry.2 in
        let mine : IsPrefix (decimal j ++ 58 ∷ []) (line ++ 10 ∷ []) = subst (λ c. IsPrefix (decimal c ++ 58 ∷ []) (line ++ 10 ∷ [])) entry.1.by first in
        let whole : IsPrefix (decimal j ++ 58 ∷ []) t = (mine.0 ++ front.0, sym (append_assoc (decimal j ++ 58 ∷ []) mine.0 front.0) ∙ ap (λ l. l ++ front.0) mine.1 ∙ front.1) in
        chosen j (record { step = (x.line, x.step); later = entry.1.later; is = entry.1.first }) whole
    | inr end ↦ absurd (left_or_done (steps_on scripts n) h i some end.0)
  ]

  -- ---- one block more
  pub written_on : (text written block : Text) (rest left : Option Text) (s next : Place) (k : ℕ) → IsWritten mean words scripts xs text written rest s → W s k block next → HasFeed block
      → ((r : Text) → rest ≡ Some r → Picks G E s k r) → IsLeftBehind block rest left → IsWritten mean words scripts xs text (written ++ block) left next
  written_on text written block rest left s next k so writes feeds picks behind w on =
      let cut = cut_line block feeds in
      let goes : G s k cut.line cut.more next = (cut.one, subst (λ b. W s k b next) cut.is writes) in
      let said' : Text = (cut.line ++ 10 ∷ []) ++ cut.more in
      let further : GoesOn mean words scripts xs s rest (block ++ w) = on_from cut.line cut.more goes cut.is rest left picks behind on in
      subst (λ v. Guided G E (before 0) text v) (sym (append_assoc written block w)) (so (block ++ w) further)
    where
      on_from : (line more : Text) → G s k line more next → block ≡ (line ++ 10 ∷ []) ++ more → (rest left : Option Text) → ((r : Text) → rest ≡ Some r → Picks G E s k r) → IsLeftBehind block rest left
          → GoesOn mean words scripts xs next left w → GoesOn mean words scripts xs s rest (block ++ w)
      on_from line more goes is None None picks behind on = go k line more w next goes (ap (λ b. b ++ w) is) on
      on_from line more goes is None (Some r) picks behind on = absurd behind
      on_from line more goes is (Some t) None picks behind on =
          leaves k line more w next goes (picks t refl) (λ front. behind front.0 (sym front.1 ∙ ap (λ b. b ++ front.0) (sym is))) (ap (λ b. b ++ w) is) on
      on_from line more goes is (Some t) (Some r) picks behind on =
          follows k line more r w next goes (picks t refl) (behind ∙ ap (λ b. b ++ r) is) (ap (λ b. b ++ w) is) on

  -- all is said
  pub written_whole : (text written : Text) (rest : Option Text) (n : ℕ) → IsWritten mean words scripts xs text written rest (before n) → slice_get xs n ≡ None → Guided G E (before 0) text written
  written_whole text written rest n so none = subst (λ v. Guided G E (before 0) text v) (append-nil written) (so [] (ended rest))
    where
      ended : (r : Option Text) → GoesOn mean words scripts xs (before n) r []
      ended None = stop (none, refl)
      ended (Some r) = stopped (none, refl)

  -- ---- what is said is allowed
  abbrev AreFrom : ℕ → List X → List (List Entry) → Type 0
  AreFrom = AreHistoriesFrom mean words scripts

  -- a history so far
  record IsSoFar (n : ℕ) (x : X) (h : List Entry) : Type 0 where
    legal : IsLegal (mean x) h
    callers : All (λ e. e.caller < length (steps_on scripts n)) h
    done : All (λ e. e.outcome ≢ NoMemory) h

  record IsCompletion (n : ℕ) (x : X) (h : List Entry) (v : Text) : Type 0 where
    more : List Entry
    hs : List (List Entry)
    history : IsHistoryOf mean words scripts n x (h ++ more)
    each : AreFrom (n + 1) (drop (n + 1) xs) hs
    is : v ≡ flat_map (full_entry_text (words x)) more ++ (end_text (length (h ++ more)) ++ texts_of (map words (drop (n + 1) xs)) hs)

  record IsTail (n : ℕ) (v : Text) : Type 0 where
    hs : List (List Entry)
    each : AreFrom n (drop n xs) hs
    is : v ≡ texts_of (map words (drop n xs)) hs

  abbrev Means : Place → Text → Type 0
  Means (before n) v = IsTail n v
  Means (within n h) v = (x : X) → slice_get xs n ≡ Some x → IsSoFar n x h → IsCompletion n x h v

  said_block : (v line more w block : Text) → v ≡ said G E line more ++ w → (line ++ 10 ∷ []) ++ more ≡ block → v ≡ block ++ w
  said_block v line more w block is same = is ∙ ap (λ b. b ++ w) same

  seven : (a b c d e f g w : Text) → (a ++ b ++ c) ++ (d ++ ((e ++ f ++ g) ++ w)) ≡ (a ++ b ++ c ++ d ++ e ++ f ++ g) ++ w
  seven a b c d e f g w = simp append_assoc

  history_split : (l : Lexicon) (h : List Entry) (w : Text) → head_text l ++ (flat_map (full_entry_text l) h ++ (end_text (length h) ++ w)) ≡ history_text l h ++ w
  history_split l h w = seven (codes "spec ") l.specification (codes "\n") (flat_map (full_entry_text l) h) (codes "end ") (decimal (length h)) (codes "\n") w

  from_head : (n : ℕ) (x : X) (v w : Text) → slice_get xs n ≡ Some x → v ≡ head_text (words x) ++ w → Means (within n []) w → Means (before n) v
  from_head n x v w at is means =
      let c = means x at (record { legal = tt; callers = All-nil (λ e. e.caller < length (steps_on scripts n)); done = All-nil (λ e. e.outcome ≢ NoMemory) }) in
      let rest = drop_some xs n x at in
      record {
        hs = c.more ∷ c.hs;
        each = subst (λ ys. AreFrom n ys (c.more ∷ c.hs)) (sym rest) (c.history, c.each);
        is = is ∙ ap (λ t. head_text (words x) ++ t) c.is ∙ history_split (words x) c.more (texts_of (map words (drop (n + 1) xs)) c.hs)
            ∙ ap (λ ys. texts_of (map words ys) (c.more ∷ c.hs)) (sym rest);
      }

  from_entry : (n k : ℕ) (h : List Entry) (x : X) (e : Entry) (v w : Text) → slice_get xs n ≡ Some x → IsNextEntry (mean x) (steps_on scripts n) h k e → v ≡ full_entry_text (words x) e ++ w
      → Means (within n (h ++ e ∷ [])) w → Means (within n h) v
  from_entry n k h x e v w at next is means y at' so =
      let same : x ≡ y = same_Some x y (sym at ∙ at') in
      subst (λ z. IsCompletion n z h v) same (completed (subst (λ z. IsSoFar n z h) (sym same) so))
    where
      completed : IsSoFar n x h → IsCompletion n x h v
      completed so =
          let here : e.caller < length (steps_on scripts n) = subst (λ c. c < length (steps_on scripts n)) (sym next.by) (there (steps_on scripts n) k _ next.first) in
          let c = means x at (record {
            legal = legal-push (mean x) h e so.legal next.own next.reply;
            callers = All-push (λ (z : Entry). z.caller < length (steps_on scripts n)) h e so.callers here;
            done = All-push (λ (z : Entry). z.outcome ≢ NoMemory) h e so.done next.done;
          }) in
          let joined : (h ++ e ∷ []) ++ c.more ≡ h ++ e ∷ c.more = append_assoc h (e ∷ []) c.more in
          record {
            more = e ∷ c.more;
            hs = c.hs;
            history = subst (IsHistoryOf mean words scripts n x) joined c.history;
            each = c.each;
            is = is ∙ ap (λ t. full_entry_text (words x) e ++ t) (c.is ∙ ap (λ g. flat_map (full_entry_text (words x)) c.more ++ (end_text (length g) ++ texts_of (map words (drop (n + 1) xs)) c.hs)) joined)
                ∙ sym (append_assoc (full_entry_text (words x) e) (flat_map (full_entry_text (words x)) c.more) _);
          }
        where
          there : {Y : Type 0} (ys : List Y) (i : ℕ) (y : Y) → slice_get ys i ≡ Some y → i < length ys
          there [] i y h = absurd (none-some y h)
          there (z ∷ ys) zero y h = omega arith
          there (z ∷ ys) (suc i) y h = omega (arith, there ys i y h)

  from_end : (n : ℕ) (h : List Entry) (x : X) (v w : Text) → slice_get xs n ≡ Some x → AreAllDone (steps_on scripts n) h → v ≡ end_text (length h) ++ w → Means (before (n + 1)) w → Means (within n h) v
  from_end n h x v w at done is means y at' so =
      let all : h ++ [] ≡ h = append-nil h in
      record {
        more = [];
        hs = means.hs;
        history = subst (IsHistoryOf mean words scripts n y) (sym all) (record {
          legal = so.legal;
          woven = record { callers = so.callers; done = so.done; each = λ k less. each_of k less };
        });
        each = means.each;
        is = is ∙ ap (λ g. end_text (length g) ++ w) (sym all) ∙ ap (λ t. end_text (length (h ++ [])) ++ t) means.is;
      }
    where
      each_of : (k : ℕ) → k < length (steps_on scripts n) → slice_get (steps_on scripts n) k ≡ Some (steps_of k h)
      each_of k less = let g = got (steps_on scripts n) k less in g.1 ∙ ap Some (done k g.0 g.1)
        where
          got : {Y : Type 0} (ys : List Y) (i : ℕ) → i < length ys → (y : Y) × (slice_get ys i ≡ Some y)
          got [] i less = absurd (omega (arith, less))
          got (z ∷ ys) zero less = (z, refl)
          got (z ∷ ys) (suc i) less = got ys i (omega (arith, less))

  says_means : {s : Place} {v : Text} → Says G E s v → Means s v
  says_means {s = before n} {v = v} (stop e) =
      let rest = drop_none xs n e.0 in
      record { hs = []; each = subst (λ ys. AreFrom n ys []) (sym rest) tt; is = e.1 ∙ ap (λ ys. texts_of (map words ys) []) (sym rest) }
  says_means {s = within n h} {v = v} (stop e) = absurd e
  says_means {s = before n} {v = v} (go k line more w next goes is rest) =
      let writes = goes.1 in
      from_head n writes.0 v w writes.1 (said_block v line more w (head_text (words writes.0)) is writes.3) (subst (λ s. Means s w) writes.4 (says_means rest))
  says_means {s = within n h} {v = v} (go k line more w next goes is rest) =
      let later = says_means rest in
      elim goes.1.2 [
        | inl entry ↦ from_entry n k h goes.1.0 entry.0 v w goes.1.1 entry.1 (said_block v line more w (full_entry_text (words goes.1.0) entry.0) is entry.2) (subst (λ s. Means s w) entry.3 later)
        | inr end ↦ from_end n h goes.1.0 v w goes.1.1 end.0 (said_block v line more w (end_text (length h)) is end.2) (subst (λ s. Means s w) end.3 later)
      ]

  pub says_allowed : (v : Text) → Says G E (before 0) v → IsAllowed mean words scripts xs v
  says_allowed v says = let t = says_means says in record { histories = t.hs; each = t.each; printed = t.is }

  -- ---- and what is allowed may be said
  say : (s : Place) (k : ℕ) (block w : Text) (next : Place) → W s k block next → HasFeed block → Says G E next w → Says G E s (block ++ w)
  say s k block w next writes feeds says =
      let cut = cut_line block feeds in
      go k cut.line cut.more w next (cut.one, subst (λ b. W s k b next) cut.is writes) (ap (λ b. b ++ w) cut.is) says

  entries_said : (n : ℕ) (x : X) (h g : List Entry) (w : Text) → slice_get xs n ≡ Some x → IsLegalAfter (mean x) h g → IsInterleaving (h ++ g) (steps_on scripts n) → Says G E (before (n + 1)) w
      → Says G E (within n h) (flat_map (full_entry_text (words x)) g ++ (end_text (length (h ++ g)) ++ w))
  entries_said n x h [] w at legal woven says =
      let all : h ++ [] ≡ h = append-nil h in
      let done : AreAllDone (steps_on scripts n) h = λ k own is. same_Some own (steps_of k h) (sym is ∙ woven.each k (there (steps_on scripts n) k own is) ∙ ap (λ e. Some (steps_of k e)) all) in
      subst (λ e. Says G E (within n h) (end_text (length e) ++ w)) (sym all)
      (say (within n h) (length scripts) (end_text (length h)) w (before (n + 1)) (x, at, inr (done, refl, refl, refl)) (end_feeds (length h)) says)
    where
      there : {Y : Type 0} (ys : List Y) (i : ℕ) (y : Y) → slice_get ys i ≡ Some y → i < length ys
      there [] i y h = absurd (none-some y h)
      there (z ∷ ys) zero y h = omega arith
      there (z ∷ ys) (suc i) y h = omega (arith, there ys i y h)
  entries_said n x h (e ∷ g) w at legal woven says =
      let joined : (h ++ e ∷ []) ++ g ≡ h ++ e ∷ g = append_assoc h (e ∷ []) g in
      let caller : e.caller < length (steps_on scripts n) = All-head (λ (z : Entry). z.caller < length (steps_on scripts n)) e g (behind (λ (z : Entry). z.caller < length (steps_on scripts n)) h (e ∷ g) woven.callers) in
      let next : IsNextEntry (mean x) (steps_on scripts n) h e.caller e = record {
        by = refl;
        later = steps_of e.caller g;
        first = woven.each e.caller caller ∙ ap Some (steps_of-append e.caller h (e ∷ g) ∙ ap (λ l. steps_of e.caller h ++ l) (steps_of-here e.caller e g refl));
        own = legal.0;
        reply = legal.1;
        done = All-head (λ (z : Entry). z.outcome ≢ NoMemory) e g (behind (λ (z : Entry). z.outcome ≢ NoMemory) h (e ∷ g) woven.done);
      } in
      let later = entries_said n x (h ++ e ∷ []) g w at legal.2 (subst (λ l. IsInterleaving l (steps_on scripts n)) (sym joined) woven) says in
      let text = flat_map (full_entry_text (words x)) g ++ (end_text (length ((h ++ e ∷ []) ++ g)) ++ w) in
      let here = say (within n h) e.caller (full_entry_text (words x) e) text (within n (h ++ e ∷ [])) (x, at, inl (e, next, refl, refl)) (entry_feeds (mean x) (words x) h e next.reply next.done) later in
      subst (Says G E (within n h)) (sym (append_assoc (full_entry_text (words x) e) (flat_map (full_entry_text (words x)) g) _))
      (subst (λ l. Says G E (within n h) (full_entry_text (words x) e ++ (flat_map (full_entry_text (words x)) g ++ (end_text (length l) ++ w)))) joined here)
    where
      behind : (P : Entry → Type 0) (a b : List Entry) → All P (a ++ b) → All P b
      behind P [] b all = all
      behind P (z ∷ a) b all = behind P a b (All-tail P z (a ++ b) all)

  allowed_said : (n : ℕ) (rest : List X) (hs : List (List Entry)) → drop n xs ≡ rest → AreFrom n rest hs → Says G E (before n) (texts_of (map words rest) hs)
  allowed_said n [] [] is each = stop (none_drop xs n is, refl)
  allowed_said n [] (h ∷ hs) is each = absurd each
  allowed_said n (x ∷ rest) [] is each = absurd each
  allowed_said n (x ∷ rest) (h ∷ hs) is each =
      let got = some_drop xs n x rest is in
      let later = allowed_said (n + 1) rest hs got.1 each.1 in
      let within' = entries_said n x [] h (texts_of (map words rest) hs) got.0 each.0.legal each.0.woven later in
      subst (Says G E (before n)) (history_split (words x) h (texts_of (map words rest) hs))
      (say (before n) 0 (head_text (words x)) _ (within n []) (x, got.0, refl, refl, refl) (head_feeds (words x)) within')

  pub allowed_says : (v : Text) → IsAllowed mean words scripts xs v → Says G E (before 0) v
  allowed_says v h = subst (Says G E (before 0)) (sym h.printed) (allowed_said 0 xs h.histories refl h.each)
