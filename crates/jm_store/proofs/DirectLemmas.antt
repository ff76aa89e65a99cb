-- An event that makes something of one monitor at most.
use Rattle.std.proofs.Common.{◌≡◌, ℕ, inl, inr, Bool, true, cond, List, [], ◌∷◌, ◌++◌, length, refl, sym, ap, ◌∙◌, subst, arith}
use Rattle.std.specs.Prelude.{Option, Some, None, Contains, IsTrue, IfNone, IfSome}
use Rattle.std.specs.Option.{is_some}
use Rattle.std.proofs.lemmas.Bool.{false≢true}
use Rattle.std.specs.List.Sorted.{IsPermutation}
use Rattle.std.proofs.lemmas.Option.{none-some}
use Rattle.std.proofs.lemmas.List.Sorted.{IsPermutation-refl}
use Rattle.std.proofs.lemmas.List.Elements.{Contains-append_left}
use Rattle.jm_model.specs.Bindings.{mask_of}
use Rattle.jm_model.specs.Meanings.{Meaning}
use Rattle.jm_model.specs.declared.binding.Binding.{Binding}
use Rattle.jm_model.specs.declared.firings.Firing.{Firing}
use Rattle.jm_semantics.specs.Traces.{ParametricEvent}
use Rattle.jm_semantics.proofs.ListLemmas.{Contains-cons_cases, Contains-head}
use Rattle.jm_index.specs.Index.{Pair, AreBelow, IsFitting, flag_of}
use Rattle.jm_index.proofs.ReadLemmas.{Contains-none}
use Rattle.jm_monitors.specs.declared.stored.Stored.{Stored}
use Rattle.jm_monitors.specs.Steps.{IsOverAfter, IsLiveEvent, AreMarksAfter, IsReport}
use Rattle.jm_store.specs.declared.moves.Move.{Move}
use Rattle.jm_store.specs.Slots.{monitor_at}
use Rattle.jm_store.specs.Moves.{AreMovesRead, AreEnding, EndsFewer, LieWithin, reached_by, after_moves, asks_by, ends_all}
use Rattle.jm_store.specs.Contents.{Contents, stored_of, IsFit, IsSpared, IsStoreAfter, ArePlaced, ArePlacedOf, ArePaired, IsFilled, IsEventDone, IsStepTaken}
use Rattle.jm_store.proofs.EndingLemmas.{fewer-refl}
use Rattle.jm_store.proofs.StoreLemmas.{store_same, spared_same}
use Rattle.jm_store.proofs.MoveLemmas.{move_base}
use Rattle.jm_store.proofs.SparedLemmas.{opened_fewer}
use Rattle.jm_store.proofs.PlacingLemmas.{placed_already}
use Rattle.jm_store.proofs.ReportLemmas.{report_none}
use Rattle.jm_store.proofs.RestingLemmas.{completed, report_still, ending_still, after_resting, placed_resting}
use Rattle.jm_store.proofs.PlanningLemmas.{apart_moves, leads_moves, moves_within, carried_out, ended_after, answer_sorted, spared_placed, may_reach}

-- the moves were placed and carried out: what the event comes to
module _ (m : Meaning) {S : Type 0} (Stands : S → List ℕ → Type 0) (letter : ℕ) (b : Binding) (dead : List Bool) (known : Bool) (old mid new : Contents S) (moves placed : List (Move S)) (firings : List Firing)
    (marked : IsTrue known → Contains old.marks b) (read : AreMovesRead m Stands letter b dead old.marks (asks_by known old.ending letter b) old.monitors moves) (p : ArePlacedOf old mid moves moves placed) (paired : ArePaired mid)
    (same : (k : ℕ) → monitor_at mid.monitors k ≡ monitor_at old.monitors k) (stored : stored_of mid ≡ stored_of old) (marks : mid.marks ≡ old.marks) where
  abbrev asks : ℕ → Bool
  asks = asks_by known old.ending letter b

  resting : List (Move S)
  resting = (completed m Stands letter b dead old.monitors old.marks asks moves read).resting

  -- none that is left is cut by what the index dropped
  pub spared_at_once : ((o : ℕ) → flag_of mid.index.dropped o ≡ true → flag_of old.index.dropped o ≡ true) → ((o : ℕ) → flag_of old.index.dropped o ≡ true → flag_of dead o ≡ true)
      → new.monitors ≡ after_moves placed mid.monitors → new.index.dropped ≡ mid.index.dropped → IsSpared m Stands old → IsSpared m Stands new
  spared_at_once kept within monitors dropped spared =
      let full = completed m Stands letter b dead old.monitors old.marks asks moves read in
      let more = moves ++ full.resting in
      let all = placed ++ full.resting in
      let order : IsPermutation more more = IsPermutation-refl more in
      let apart = apart_moves m Stands letter b dead old.marks asks old.monitors more full.all in
      let q = placed_resting m Stands letter b dead old mid moves placed full.resting full.each same p apart paired in
      let at : new.monitors ≡ after_moves all mid.monitors = monitors ∙ after_resting m Stands letter b dead old mid moves placed full.resting full.each same in
      let left = spared_placed m Stands letter b dead asks old mid more more all full.all order q (spared_same m Stands old mid stored kept spared) (λ o is. within o (kept o is)) in
      rw (at, dropped) left

  pub done_at_once : (kept : (o : ℕ) → flag_of mid.index.dropped o ≡ true → flag_of old.index.dropped o ≡ true) → (within : (o : ℕ) → flag_of old.index.dropped o ≡ true → flag_of dead o ≡ true)
      → new.monitors ≡ after_moves placed mid.monitors → new.index.dropped ≡ mid.index.dropped → AreMarksAfter b old.marks new.marks → EndsFewer old.ending new.ending
      → AreEnding m Stands new.ending (reached_by placed) → IsReport m Stands (reached_by moves) firings
      → (trace : List ParametricEvent) → IsLiveEvent m dead letter b → IsStoreAfter m Stands trace dead old → IsEventDone m Stands trace dead letter b new firings
  done_at_once kept within monitors dropped added fewer ended report trace live holds =
      let full = completed m Stands letter b dead old.monitors old.marks asks moves read in
      let more = moves ++ full.resting in
      let all = placed ++ full.resting in
      let order : IsPermutation more more = IsPermutation-refl more in
      let apart = apart_moves m Stands letter b dead old.marks asks old.monitors more full.all in
      let q = placed_resting m Stands letter b dead old mid moves placed full.resting full.each same p apart paired in
      let may = may_reach m Stands letter b dead old.marks known old.ending (stored_of old) marked holds.ended in
      let at : new.monitors ≡ after_moves all mid.monitors = monitors ∙ after_resting m Stands letter b dead old mid moves placed full.resting full.each same in
      let after = carried_out m Stands letter b dead asks old mid more more all full.all may order q paired same stored marks trace holds.monitors live new.marks added in
      let end = ended_after m Stands letter b dead asks old mid more more all full.all may order q paired same stored marks trace holds.monitors live new.ending fewer holds.ended
      (ending_still m Stands letter b dead old.monitors placed full.resting old.ending new.ending full.each fewer holds.ended ended) in
      record {
        answer = answer_sorted m Stands letter b dead asks old mid more more all full.all may order q paired same stored marks trace holds.monitors live firings
            (report_still m Stands letter b dead old.monitors moves full.resting firings full.each report);
        store = record { monitors = rw at after.0; ended = rw at end; spared = spared_at_once kept within monitors dropped holds.spared };
        none_cut = rw at after.1;
      }

pub one_of : {X : Type 0} (x y : X) → Contains (x ∷ []) y → x ≡ y
one_of x y there = elim (Contains-cons_cases x [] y there) [ inl same ↦ same | inr none ↦ absurd (Contains-none y none) ]

-- ---- what is answered, or not
pub if_none : {X : Type 0} (o : Option X) (A B C D : Type 0) → (A → B → C → D) → IfNone o A → IfNone o B → IfNone o C → IfNone o D
if_none None A B C D f a b c = f a b c
if_none (Some x) A B C D f a b c = tt

pub in_none : {X : Type 0} (o : Option X) (A : Type 0) → A → IfNone o A
in_none None A a = a
in_none (Some x) A a = tt

pub none_map : {X : Type 0} (o : Option X) (A B : Type 0) → (A → B) → IfNone o A → IfNone o B
none_map None A B f a = f a
none_map (Some x) A B f a = tt

pub some_map : {X : Type 0} (o : Option X) (P Q : X → Type 0) → ((x : X) → P x → Q x) → IfSome o P → IfSome o Q
some_map None P Q f p = tt
some_map (Some x) P Q f p = f x p

pub if_some : {X : Type 0} (o : Option X) (P Q R : X → Type 0) → ((x : X) → P x → Q x → R x) → IfSome o P → IfSome o Q → IfSome o R
if_some None P Q R f p q = tt
if_some (Some x) P Q R f p q = f x p q

pub in_some : {X : Type 0} (o : Option X) (P : X → Type 0) → ((x : X) → P x) → IfSome o P
in_some None P f = tt
in_some (Some x) P f = f x

pub either_way : {X : Type 0} (o : Option X) (A : Type 0) → IfNone o A → IfSome o (λ x. A) → A
either_way None A none some = none
either_way (Some x) A none some = some

-- ---- one move
module _ (m : Meaning) {S : Type 0} (Stands : S → List ℕ → Type 0) (letter : ℕ) (b : Binding) (dead : List Bool) (known : Bool) (old new : Contents S) (step : Move S) (firings : List Firing)
    (marked : IsTrue known → Contains old.marks b) (read : AreMovesRead m Stands letter b dead old.marks (asks_by known old.ending letter b) old.monitors (step ∷ [])) (fits : IsFit old dead) (there : AreBelow (length dead) b) where
  -- its objects stand in the table
  pub step_within : AreBelow (length dead) step.monitor.instance
  step_within =
      let full = completed m Stands letter b dead old.monitors old.marks (asks_by known old.ending letter b) (step ∷ []) read in
      moves_within m Stands letter b dead old.marks (asks_by known old.ending letter b) old.monitors ((step ∷ []) ++ full.resting) full.all (length dead) fits.instances there step
      (Contains-append_left (step ∷ []) full.resting step (Contains-head step []))

  -- where the binding is a mark, it has a slot
  pub step_slotted : IsTrue known → step.slot ≡ None → ⊥
  step_slotted is none =
      let full = completed m Stands letter b dead old.monitors old.marks (asks_by known old.ending letter b) (step ∷ []) read in
      let (k, visited, base) = move_base m Stands letter b dead old.marks old.monitors (asks_by known old.ending letter b) ((step ∷ []) ++ full.resting) full.all step
      (Contains-append_left (step ∷ []) full.resting step (Contains-head step [])) in
      elim base.moved.is_base.1 [
        | inl below ↦ none-some k (sym none ∙ base.moved.advanced.slot ∙ ap (λ (t : Bool). cond t (Some k) None) below)
        | inr fresh ↦ fresh.0 (marked is)
      ]

  -- the index leads to its slot
  pub step_leads : ((k : ℕ) (s : Stored S) → monitor_at old.monitors k ≡ Some s → Contains old.index.list (record { binding = s.instance; slot = k })) → ArePlaced old (step ∷ [])
  step_leads paired move k among slot =
      let full = completed m Stands letter b dead old.monitors old.marks (asks_by known old.ending letter b) (step ∷ []) read in
      leads_moves m Stands letter b dead old.marks (asks_by known old.ending letter b) old.monitors ((step ∷ []) ++ full.resting) full.all old.index.list paired move k
      (Contains-append_left (step ∷ []) full.resting move among) slot

  within_one : LieWithin (length dead) (step ∷ [])
  within_one move among = subst (λ (x : Move S). AreBelow (length dead) x.monitor.instance) (one_of step move among) step_within

  -- out of memory the store is still one of the trace
  pub step_kept : stored_of new ≡ stored_of old → new.marks ≡ old.marks → new.ending ≡ old.ending
      → ((flags : List Bool) → IsFitting old.index flags → AreBelow (length flags) step.monitor.instance → IsFitting new.index flags)
      → (trace : List ParametricEvent) → IsStoreAfter m Stands trace dead old → IsStoreAfter m Stands trace dead new
  step_kept stored marks ending index trace =
      store_same m Stands trace dead old new stored marks (rw ending (fewer-refl old.ending))
      (opened_fewer old.index new.index dead (step ∷ []) fits.index within_one (λ flags fit lie. index flags fit (lie step (Contains-head step []))))

  pub step_still : stored_of new ≡ stored_of old → ((flags : List Bool) → IsFitting old.index flags → AreBelow (length flags) step.monitor.instance → IsFitting new.index flags)
      → IsSpared m Stands old → IsSpared m Stands new
  step_still stored index =
      spared_same m Stands old new stored (opened_fewer old.index new.index dead (step ∷ []) fits.index within_one (λ flags fit lie. index flags fit (lie step (Contains-head step []))))

  pub step_spared : IsStepTaken m Stands step old new firings → IsSpared m Stands old → IsSpared m Stands new
  step_spared t =
      spared_at_once m Stands letter b dead known old t.between new (step ∷ []) (t.slotted ∷ []) firings marked read t.placed t.paired t.same t.stored t.marks
      (opened_fewer old.index t.between.index dead (step ∷ []) fits.index within_one (λ flags fit lie. t.fits flags fit (lie step (Contains-head step []))))
      fits.index.reached t.monitors t.dropped

  pub step_done : IsStepTaken m Stands step old new firings → AreMarksAfter b old.marks new.marks → (trace : List ParametricEvent) → IsLiveEvent m dead letter b → IsStoreAfter m Stands trace dead old
      → IsEventDone m Stands trace dead letter b new firings
  step_done t added = done_at_once m Stands letter b dead known old t.between new (step ∷ []) (t.slotted ∷ []) firings marked read t.placed t.paired t.same t.stored t.marks
      (opened_fewer old.index t.between.index dead (step ∷ []) fits.index within_one (λ flags fit lie. t.fits flags fit (lie step (Contains-head step []))))
      fits.index.reached t.monitors t.dropped added t.fewer ended t.report
    where
      ended : AreEnding m Stands new.ending (reached_by (t.slotted ∷ []))
      ended s among e ends =
          let same = one_of t.slotted.monitor s among in
          subst (λ (x : Stored S). IsOverAfter m Stands e x.state 0) same (t.ended e (subst (λ (x : Stored S). ends_all new.ending e (mask_of x.instance) ≡ true) (sym same) ends))

-- ---- no move
module _ (m : Meaning) {S : Type 0} (Stands : S → List ℕ → Type 0) (letter : ℕ) (b : Binding) (dead : List Bool) (known : Bool) (old new : Contents S) where
  pub none_done : (marked : IsTrue known → Contains old.marks b) → AreMovesRead m Stands letter b dead old.marks (asks_by known old.ending letter b) old.monitors [] → ArePaired old
      → ((pair : Pair) → Contains old.index.list pair → IsFilled old pair) → IsFit old dead → new.monitors ≡ old.monitors → new.index ≡ old.index → new.ending ≡ old.ending → AreMarksAfter b old.marks new.marks
      → IsLiveEvent m dead letter b → (trace : List ParametricEvent) → IsStoreAfter m Stands trace dead old → IsEventDone m Stands trace dead letter b new []
  none_done marked read paired filled fits monitors index ending added live trace =
      done_at_once m Stands letter b dead known old old new [] [] [] marked read none paired (λ k. refl) refl refl (λ o is. is) fits.index.reached monitors (ap (λ i. i.dropped) index) added
      (rw ending (fewer-refl old.ending)) (λ s there. absurd (Contains-none s there)) (report_none m Stands []) trace live
    where
      none : ArePlacedOf old old [] [] []
      none = placed_already old [] (λ i j d lt within. absurd (omega (arith, lt, within))) (λ move k there slot. absurd (Contains-none move there)) filled (λ move there. absurd (Contains-none move there))

pub some_is : {X : Type 0} (o : Option X) → is_some o ≡ true → o ≡ None → ⊥
some_is None some none = false≢true some
some_is (Some x) some none = none-some x (sym none)
