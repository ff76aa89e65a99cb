-- How entries lie in a row: a short form of each, the objects of their events one after the other, and the outcomes
-- that are not shared.
use Rattle.std.specs.Prelude.{◌≡◌, ℕ, zero, suc, ◌+◌, ◌*◌, ◌/◌, ◌%◌, ◌<◌, ◌≤◌, ◌==◌, cond, List, [], ◌∷◌, ◌++◌, length, map, drop, Option, Some, None, slice_get, slice_index_or, count_ones, All, vec_len, vec_capacity}
use Rattle.std.specs.Global.{Vec}
use Rattle.jm_model.specs.Words.{Mask}
use Rattle.jm_model.specs.Bindings.{objects_of, mask_of}
use Rattle.jm_model.specs.declared.binding.Binding.{Binding}
use Rattle.jm_model.specs.declared.step.Step.{Step}
use Rattle.jm_model.specs.declared.step.Step.TheVariants.{Event, Death, Pass}
use Rattle.jm_model.specs.declared.step.Outcome.{Outcome}
use Rattle.jm_model.specs.declared.step.Outcome.TheVariants.{Fired, Done, NoMemory}
use Rattle.jm_model.specs.declared.step.Entry.{Entry}
use Rattle.jm_history.specs.declared.lent.LentEvent.{LentEvent}
use Rattle.jm_history.specs.declared.row.Short.{Short}
use Rattle.jm_history.specs.declared.row.ShortStep.{ShortStep}
use Rattle.jm_history.specs.declared.row.ShortStep.TheVariants.{Event as ShortEvent, Death as ShortDeath, Pass as ShortPass}

-- the binding of so many parameters, those of a mask, to the first of these objects
unfoldable pub placed_in : ℕ → Mask → List ℕ → Binding
placed_in zero mask os = []
placed_in (suc n) mask os =
    cond (mask % 2 == 1) (slice_get os 0 ∷ placed_in n (mask / 2) (drop 1 os)) (None ∷ placed_in n (mask / 2) os)

-- the binding of the parameters of a mask to the first of these objects
abbrev pub placed : Mask → List ℕ → Binding
placed mask os = placed_in 8 mask os

-- ---- back from the short form
-- the step, where the objects are these
abbrev pub step_of : List ℕ → ShortStep → Step
step_of os (ShortEvent letter mask start) = Event letter (placed mask (drop start os))
step_of os (ShortDeath object) = Death object
step_of os ShortPass = Pass

-- the outcome at a place
abbrev pub outcome_at : List Outcome → ℕ → Outcome
outcome_at xs place = slice_index_or xs place NoMemory

-- the entry, where the objects and the outcomes are these
abbrev pub entry_in : List ℕ → List Outcome → Short → Entry
entry_in os xs s =
    record { caller = s.caller; line = s.line; step = step_of os s.step; outcome = outcome_at xs s.outcome }

abbrev pub entries_in : List ℕ → List Outcome → List Short → List Entry
entries_in os xs shorts = map (entry_in os xs) shorts

-- the entry that an event is, where its parameters have the first of the objects that are lent
abbrev pub event_entry : LentEvent → Entry
event_entry e = record {
  caller = e.caller;
  line = e.line;
  step = Event e.letter (placed e.mask e.objects.now);
  outcome = e.outcome.now;
}

-- ---- the short form
-- a step whose first object lies at this place
abbrev pub short_of : ℕ → Step → ShortStep
short_of start (Event letter binding) = ShortEvent letter (mask_of binding) start
short_of start (Death object) = ShortDeath object
short_of start Pass = ShortPass

-- the objects that are put after the others for a step
abbrev pub objects_in : Step → List ℕ
objects_in (Event letter binding) = objects_of binding
objects_in (Death object) = []
objects_in Pass = []

-- an event has a binding of eight parameters
abbrev pub IsOfEight : Step → Type 0
IsOfEight (Event letter binding) = length binding ≡ 8
IsOfEight (Death object) = Unit {0}
IsOfEight Pass = Unit {0}

-- the outcomes that entries share stand first
abbrev pub IsShared : List Outcome → Type 0
IsShared xs = (1 < length xs) × (outcome_at xs 0 ≡ Fired []) × (outcome_at xs 1 ≡ Done)

-- some are put after the others
abbrev pub Grown : {A : Type 0} → List A → List A → Type 0
Grown {A} old new = (more : List A) × (new ≡ old ++ more)

-- ---- what holds of each row
-- the objects of a step lie among so many
abbrev pub FitsStep : ℕ → ShortStep → Type 0
FitsStep count (ShortEvent letter mask start) = start + count_ones mask ≤ count
FitsStep count (ShortDeath object) = Unit {0}
FitsStep count ShortPass = Unit {0}

-- the objects and the outcome of an entry are there
abbrev pub FitsIn : ℕ → ℕ → Short → Type 0
FitsIn objects outcomes s = FitsStep objects s.step × (s.outcome < outcomes)

-- how many places of objects, and of outcomes, a short form tells apart
abbrev pub most_places : ℕ
most_places = 65536

-- the entries have their objects and outcomes, and there is room for so many more
pub record IsRow (shorts : Vec Short) (objects : Vec ℕ) (outcomes : Vec Outcome) (room : ℕ) : Type 0 where
  pub fit : All (FitsIn (length objects.items) (length outcomes.items)) shorts.items
  pub shared : IsShared outcomes.items
  pub entries : vec_len shorts + room ≤ vec_capacity shorts
  pub objects_room : vec_len objects + 8 * room ≤ vec_capacity objects
  pub outcomes_room : vec_len outcomes + room ≤ vec_capacity outcomes
  pub object_places : 0 < room → vec_len objects + 8 * room ≤ most_places
  pub outcome_places : 0 < room → vec_len outcomes + room ≤ most_places
