-- How an event reaches monitors, and what a store becomes by an event, a death and a pass.
use Rattle.std.specs.Prelude.{ℕ, ◌≡◌, ◌≢◌, ◌<◌, ◌↔◌, ◌⊎◌, Bool, true, false, List, [], ◌∷◌, ◌++◌, Contains, length, bit_and, slice_set}
use Rattle.std.specs.List.{AllPairs}
use Rattle.std.specs.List.Sorted.{IsStrictlySortedBy}
use Rattle.jm_model.specs.Words.{Word, Mask}
use Rattle.jm_model.specs.Bindings.{empty, is_below, is_compatible, join, mask_of, objects_of}
use Rattle.jm_model.specs.Meanings.{Meaning, IsHit, IsCutWord}
use Rattle.jm_model.specs.declared.binding.Binding.{Binding}
use Rattle.jm_model.specs.declared.firings.Firing.{Firing}
use Rattle.jm_semantics.specs.Answers.{firing_cmp}
use Rattle.jm_marks.specs.Marks.{dead_mask_of, is_dead_object, has_live, IsCovered}
use Rattle.jm_monitors.specs.declared.stored.Stored.{Stored}
use Rattle.jm_monitors.specs.Stores.{HasInstance}

-- the letter is one of the specification's, and the binding one of its eight parameters, which binds exactly those of
-- the letter and no dead object
pub record IsLiveEvent (m : Meaning) (dead : List Bool) (letter : ℕ) (b : Binding) : Type 0 where
  pub letter_there : letter < m.letters
  pub eight : length b ≡ 8
  pub params : mask_of b ≡ m.params letter
  pub live : (o : ℕ) → Contains (objects_of b) o → is_dead_object dead o ≡ false

-- The event's binding reaches the stored monitor: it lies below its instance, so that the monitor moves; or it is no
-- mark, isn't below, and of the marks below their join each lies below the instance, so that the join is a new
-- instance, made of this one.
abbrev pub IsBase : {S : Type 0} → Binding → List Binding → Stored S → Type 0
IsBase b marks s =
    (is_compatible s.instance b ≡ true)
    × ((is_below b s.instance ≡ true)
    ⊎ ((Contains marks b → ⊥) × (is_below b s.instance ≡ false) × IsCovered marks (join s.instance b) s.instance))

-- the marks after the event
abbrev pub AreMarksAfter : Binding → List Binding → List Binding → Type 0
AreMarksAfter b marks after = (t : Binding) → Contains after t ↔ (Contains marks t ⊎ (t ≡ b))

-- of the marks those with a live object
abbrev pub AreLiveMarks : List Bool → List Binding → List Binding → Type 0
AreLiveMarks dead marks left = (b : Binding) → Contains left b ↔ (Contains marks b × (has_live dead b ≡ true))

-- the flags after the death of o
abbrev pub after_death : List Bool → ℕ → List Bool
after_death dead o = slice_set dead o true

-- t binds what a reported instance has to bind
abbrev pub IsFull : Meaning → Binding → Type 0
IsFull m t = bit_and m.must_bind (mask_of t) ≡ m.must_bind

module _ {S : Type 0} (Stands : S → Word → Type 0) where
  -- the state stands for the words of the other with the letter at their end
  abbrev pub Follows : ℕ → S → S → Type 0
  Follows letter before after = (w : Word) → Stands before w → Stands after (w ++ letter ∷ [])

  -- the monitor is the join of a stored one that the event reaches, moved by the letter
  pub record IsReached (letter : ℕ) (b : Binding) (stored : List (Stored S)) (marks : List Binding)
      (r : Stored S) : Type 0 where
    pub base : Stored S
    pub stored_base : Contains stored base
    pub is_base : IsBase b marks base
    pub joined : r.instance ≡ join base.instance b
    pub next : Follows letter base.state r.state

module _ (m : Meaning) {S : Type 0} (Stands : S → Word → Type 0) where
  -- before the first event: the monitor of the empty binding, whose state stands for the empty word, unless that is cut
  abbrev pub IsAtStart : List (Stored S) → Type 0
  IsAtStart stored =
      ((state : S) × Stands state [] × (stored ≡ record { instance = empty; state = state } ∷ []))
      ⊎ ((stored ≡ []) × IsCutWord m [] 0)

  -- the state's words are cut with these dead parameters
  abbrev pub IsCutState : S → Mask → Type 0
  IsCutState state dead = (w : Word) → Stands state w → IsCutWord m w dead

  -- none of the state's words is
  abbrev pub IsAliveState : S → Mask → Type 0
  IsAliveState state dead = (w : Word) → Stands state w → IsCutWord m w dead → ⊥

  -- the words of the state with the letter at their end hit nothing, and are cut with these dead parameters
  abbrev pub IsOverAfter : ℕ → S → Mask → Type 0
  IsOverAfter letter state dead =
      (w : Word) → Stands state w → ((k : ℕ) → IsHit m (w ++ letter ∷ []) k → ⊥) × IsCutWord m (w ++ letter ∷ []) dead

  -- The reached monitors: distinct, each reached, and one for each stored monitor that the event reaches, but that new
  -- instances which hit nothing and are cut at once may be left out.
  pub record AreReached (letter : ℕ) (b : Binding) (dead : List Bool) (stored : List (Stored S))
      (marks : List Binding) (reached : List (Stored S)) : Type 0 where
    pub distinct : AllPairs (λ r s. r.instance ≢ s.instance) reached
    pub each : (r : Stored S) → Contains reached r → IsReached Stands letter b stored marks r
    pub moved : (s : Stored S) → Contains stored s → is_below b s.instance ≡ true → HasInstance reached s.instance
    pub made : (s : Stored S) → Contains stored s → is_below b s.instance ≡ false → IsBase b marks s →
        HasInstance reached (join s.instance b)
        ⊎ IsOverAfter letter s.state (dead_mask_of dead (join s.instance b))

  -- After the event: the reached monitors but those that are cut, and of the stored ones those that the event's binding
  -- isn't below.
  pub record IsAfterEvent (b : Binding) (dead : List Bool) (stored reached after : List (Stored S)) : Type 0 where
    pub distinct : AllPairs (λ r s. r.instance ≢ s.instance) after
    pub each : (s : Stored S) → Contains after s
        → (Contains reached s × IsAliveState s.state (dead_mask_of dead s.instance))
        ⊎ (Contains stored s × (is_below b s.instance ≡ false))
    pub reached_stay : (r : Stored S) → Contains reached r → Contains after r
        ⊎ IsCutState r.state (dead_mask_of dead r.instance)
    pub others_stay : (s : Stored S) → Contains stored s → is_below b s.instance ≡ false → Contains after s

  -- no stored instance above b is cut
  abbrev pub NoneCutAbove : Binding → List Bool → List (Stored S) → Type 0
  NoneCutAbove b dead stored = (s : Stored S) → Contains stored s → is_below b s.instance ≡ true
      → IsAliveState s.state (dead_mask_of dead s.instance)

  -- the firing is of one of the monitors, whose words hit the handler
  pub record IsReported (monitors : List (Stored S)) (f : Firing) : Type 0 where
    pub monitor : Stored S
    pub among : Contains monitors monitor
    pub instance : monitor.instance ≡ f.instance
    pub full : IsFull m f.instance
    pub hit : (w : Word) → Stands monitor.state w → IsHit m w f.handler

  -- the strictly increasing list of exactly the firings of the monitors
  pub record IsReport (monitors : List (Stored S)) (firings : List Firing) : Type 0 where
    pub increasing : IsStrictlySortedBy firing_cmp firings
    pub each : (f : Firing) → Contains firings f → IsReported monitors f
    pub all : (s : Stored S) (w : Word) (k : ℕ) → Contains monitors s → IsFull m s.instance → Stands s.state w
        → IsHit m w k → Contains firings (record { instance = s.instance; handler = k })

  -- Some of the stored monitors were dropped, each of which is cut, and nothing was added.
  pub record IsThinned (dead : List Bool) (stored after : List (Stored S)) : Type 0 where
    pub distinct : AllPairs (λ r s. r.instance ≢ s.instance) after
    pub among : (s : Stored S) → Contains after s → Contains stored s
    pub dropped : (s : Stored S) → Contains stored s → Contains after s
        ⊎ IsCutState s.state (dead_mask_of dead s.instance)

  -- none of the monitors is cut by these dead objects, given by their flags
  abbrev pub AreSpared : List Bool → List (Stored S) → Type 0
  AreSpared dead stored = (s : Stored S) → Contains stored s → IsAliveState s.state (dead_mask_of dead s.instance)

  -- After a pass: of the stored monitors those that aren't cut, and of the marks those with a live object.
  pub record IsAfterPass (dead : List Bool) (stored after : List (Stored S)) (marks left : List Binding) : Type 0 where
    pub thinned : IsThinned dead stored after
    pub alive : AreSpared dead after
    pub left_marks : AreLiveMarks dead marks left

  -- the letter leaves the state as it is, and its words hit nothing
  pub record IsResting (letter : ℕ) (state : S) : Type 0 where
    pub stays : (w : Word) → Stands state w → Stands state (w ++ letter ∷ [])
    pub quiet : (w : Word) → Stands state w → (k : ℕ) → IsHit m w k → ⊥

  -- b is a mark, and the letter leaves each stored monitor above b as it is, none of which is cut
  pub record AreResting (dead : List Bool) (letter : ℕ) (b : Binding) (stored : List (Stored S))
      (marks : List Binding) : Type 0 where
    pub marked : Contains marks b
    pub each : (s : Stored S) → Contains stored s → is_below b s.instance ≡ true → IsResting letter s.state
        × IsAliveState s.state (dead_mask_of dead s.instance)
