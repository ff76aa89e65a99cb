-- What is proved of the definitions: that events, deaths and passes keep a store, and what flags tell of a history.
use Rattle.std.specs.Prelude.{ℕ, ◌≡◌, ◌<◌, ◌↔◌, Bool, true, false, List, [], ◌∷◌, ◌++◌, Contains, Some, None, length, replicate}
use Rattle.jm_model.specs.Words.{Word}
use Rattle.jm_model.specs.Bindings.{is_below, is_compatible, join, objects_of}
use Rattle.jm_model.specs.Meanings.{Meaning, IsCutWord}
use Rattle.jm_model.specs.declared.binding.Binding.{Binding}
use Rattle.jm_model.specs.declared.firings.Firing.{Firing}
use Rattle.jm_model.specs.declared.step.Entry.{Entry}
use Rattle.jm_semantics.specs.Traces.{ParametricEvent, seen_of, slice_of}
use Rattle.jm_semantics.specs.Histories.{trace_of, accepted_death, dead_mask, first_dead}
use Rattle.jm_semantics.specs.Instances.{IsInstance}
use Rattle.jm_semantics.specs.Answers.{IsAnswer}
use Rattle.jm_semantics.specs.Disposal.{IsKeptCount}
use Rattle.jm_marks.specs.Marks.{is_dead_object, dead_mask_of, has_live}
use Rattle.jm_monitors.specs.declared.stored.Stored.{Stored}
use Rattle.jm_monitors.specs.Stores.{HasInstance, IsStoreOf}
use Rattle.jm_monitors.specs.Steps.{IsAtStart, IsBase, AreReached, IsAfterEvent, AreMarksAfter, IsReport, IsLiveEvent, NoneCutAbove, IsAfterPass, after_death}
use Rattle.jm_monitors.specs.Deaths.{AreFlagsOf}

module _ (m : Meaning) {S : Type 0} (Stands : S → Word → Type 0) where
  -- the monitors at the start are a store of the empty trace
  abbrev pub StartIsStore : Type 0
  StartIsStore = (dead : List Bool) (stored : List (Stored S)) → IsAtStart m Stands stored
      → IsStoreOf m Stands [] dead stored []

  -- two stored monitors that an event makes into one instance are of one instance
  abbrev pub BaseIsOne : Type 0
  BaseIsOne =
      (trace : List ParametricEvent) (dead : List Bool) (stored : List (Stored S)) (marks : List Binding) (letter : ℕ)
      (b : Binding) (r s : Stored S)
      → IsStoreOf m Stands trace dead stored marks → IsLiveEvent m dead letter b → Contains stored r → Contains stored s
      → IsBase b marks r → IsBase b marks s
      → join r.instance b ≡ join s.instance b → r.instance ≡ s.instance

  -- what an event makes of a monitor that its binding isn't below is a new instance
  abbrev pub MadeIsNew : Type 0
  MadeIsNew =
      (trace : List ParametricEvent) (dead : List Bool) (stored : List (Stored S)) (marks : List Binding) (letter : ℕ)
      (b : Binding) (s : Stored S)
      → IsStoreOf m Stands trace dead stored marks → IsLiveEvent m dead letter b → Contains stored s → IsBase b marks s
      → is_below b s.instance ≡ false
      → HasInstance stored (join s.instance b) → ⊥

  -- the report of the reached monitors is the answer to the event
  abbrev pub ReportIsAnswer : Type 0
  ReportIsAnswer =
      (trace : List ParametricEvent) (dead : List Bool) (stored reached : List (Stored S)) (marks : List Binding)
      (letter : ℕ) (b : Binding) (firings : List Firing)
      → IsStoreOf m Stands trace dead stored marks → IsLiveEvent m dead letter b
      → AreReached m Stands letter b dead stored marks reached → IsReport m Stands reached firings
      → IsAnswer m trace (record { letter = letter; binding = b }) firings

  -- an event keeps a store, and leaves none above its binding that is cut
  abbrev pub EventKeepsStore : Type 0
  EventKeepsStore =
      (trace : List ParametricEvent) (dead : List Bool) (stored reached after : List (Stored S))
      (marks marked : List Binding) (letter : ℕ) (b : Binding)
      → IsStoreOf m Stands trace dead stored marks → IsLiveEvent m dead letter b
      → AreReached m Stands letter b dead stored marks reached
      → IsAfterEvent m Stands b dead stored reached after → AreMarksAfter b marks marked
      → IsStoreOf m Stands (trace ++ record { letter = letter; binding = b } ∷ []) dead after marked
      × NoneCutAbove m Stands b dead after

  -- a death keeps a store
  abbrev pub DeathKeepsStore : Type 0
  DeathKeepsStore =
      (trace : List ParametricEvent) (dead : List Bool) (stored : List (Stored S)) (marks : List Binding) (o : ℕ)
      → IsStoreOf m Stands trace dead stored marks → IsStoreOf m Stands trace (after_death dead o) stored marks

  -- A pass keeps a store. After it exactly the instances that aren't cut are stored, and the marks are exactly the seen
  -- bindings with a live object.
  abbrev pub PassKeepsStore : Type 0
  PassKeepsStore =
      (trace : List ParametricEvent) (dead : List Bool) (stored after : List (Stored S)) (marks left : List Binding)
      → IsStoreOf m Stands trace dead stored marks → IsAfterPass m Stands dead stored after marks left
      → IsStoreOf m Stands trace dead after left
      × ((t : Binding) → HasInstance after t ↔ (IsInstance trace t
      × (IsCutWord m (slice_of trace t) (dead_mask_of dead t) → ⊥)))
      × ((b : Binding) → Contains left b ↔ (Contains (seen_of trace) b × (has_live dead b ≡ true)))

  -- after a pass so many monitors are stored as the history has instances that aren't cut
  abbrev pub PassCountsStored : Type 0
  PassCountsStored =
      (h : List Entry) (dead : List Bool) (stored after : List (Stored S)) (marks left : List Binding)
      → AreFlagsOf h dead → IsStoreOf m Stands (trace_of h) dead stored marks
      → IsAfterPass m Stands dead stored after marks left → IsKeptCount m h (length after)

-- The join of an instance and a seen binding is an instance. So an event whose binding is a mark makes no new one.
abbrev pub JoinsOfSeenStand : Type 0
JoinsOfSeenStand =
    (trace : List ParametricEvent) (s b : Binding)
    → IsInstance trace s → Contains (seen_of trace) b → is_compatible s b ≡ true → IsInstance trace (join s b)

-- a word that is cut only with more dead objects of t has one of these
abbrev pub CutByOwnDeath : Meaning → Type 0
CutByOwnDeath m =
    (w : Word) (t : Binding) (dead more : List Bool)
    → (IsCutWord m w (dead_mask_of dead t) → ⊥) → IsCutWord m w (dead_mask_of more t)
    → (o : ℕ) × Contains (objects_of t) o × (is_dead_object dead o ≡ false) × (is_dead_object more o ≡ true)

-- flags of a history's dead objects tell the dead parameters of each binding
abbrev pub FlagsTellParameters : Type 0
FlagsTellParameters =
    (h : List Entry) (dead : List Bool) (t : Binding) → AreFlagsOf h dead → dead_mask h t ≡ dead_mask_of dead t

-- and whether it binds a dead object
abbrev pub FlagsTellLive : Type 0
FlagsTellLive =
    (h : List Entry) (dead : List Bool) (b : Binding) → AreFlagsOf h dead
    → (first_dead h b ≡ None) ↔ ((o : ℕ) → Contains (objects_of b) o → is_dead_object dead o ≡ false)

-- before the first entry no object is dead
abbrev pub FlagsAtStart : Type 0
FlagsAtStart = (n : ℕ) → AreFlagsOf [] (replicate n false)

-- an accepted death sets one flag
abbrev pub FlagsAfterDeath : Type 0
FlagsAfterDeath =
    (h : List Entry) (dead : List Bool) (x : Entry) (o : ℕ)
    → AreFlagsOf h dead → accepted_death x.step x.outcome ≡ Some o → o < length dead
    → AreFlagsOf (h ++ x ∷ []) (after_death dead o)

-- any other entry sets none
abbrev pub FlagsAfterOther : Type 0
FlagsAfterOther =
    (h : List Entry) (dead : List Bool) (x : Entry)
    → AreFlagsOf h dead → accepted_death x.step x.outcome ≡ None → AreFlagsOf (h ++ x ∷ []) dead
