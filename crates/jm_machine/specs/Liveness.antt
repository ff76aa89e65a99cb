-- What may still follow the runs of compiled rules, as it is kept.
use Rattle.std.specs.Prelude.{ℕ, ◌≡◌, ◌≢◌, ◌<◌, ◌↔◌, ◌⊎◌, Bool, true, false, List, [], ◌∷◌, Some, IsBitSet, IsSomeAnd, length, slice_get, slice_index, slice_index_or}
use Rattle.jm_model.specs.Words.{Word, Mask}
use Rattle.jm_model.specs.Numbers.{no_number, at_rest}
use Rattle.jm_events.specs.Events.{EventDefinitions}
use Rattle.jm_goal.specs.Goals.{GoalDefinition}
use Rattle.jm_table.specs.Tables.{Transitions, IsTable, next_of}
use Rattle.jm_coenable.specs.Needs.{NeedSets, AreNeedsOf, IsAlive, IsNeededFrom, IsNeededAtStart, step_of}
use Rattle.jm_grammar.specs.Meanings.{IsWord}
use Rattle.jm_earley.specs.Charts.{ChartsDefinition, ChartDefinition, IsChartOf}
use Rattle.jm_earley.specs.DeadSets.{IsAvailable}
use Rattle.jm_earley.specs.EarleySets.{IsAliveFor}
use Rattle.jm_machine.specs.declared.place.Place.{Place}
use Rattle.jm_machine.specs.declared.place.Place.TheVariants.{Start, State, Parse}
use Rattle.jm_machine.specs.declared.cut_rule.CutRule.{CutRule}
use Rattle.jm_machine.specs.declared.cut_rule.CutRule.TheVariants.{Exact, Coarse}
use Rattle.jm_machine.specs.declared.engine.Engine.{Engine}
use Rattle.jm_machine.specs.declared.engine.Engine.TheVariants.{States}
use Rattle.jm_machine.specs.Engines.{IsPlaceOf, EngineHolds}
use Rattle.jm_machine.specs.CompiledProperties.{may_begin}

-- ---- of a table

-- For each state the handlers that it hits, the letters that leave it as it is, and those that end an instance, each as
-- a mask; the letters that end an instance of the empty word; what is needed; and by letter and state the state to
-- which a plain move leads.
pub record StateFacts : Type 0 where
  pub hits : List ℕ
  pub idle : List ℕ
  pub ending : List ℕ
  pub first_ending : ℕ
  pub needs : NeedSets
  pub plain : List (List ℕ)

-- bit k of a state's mask is set where the category of handler k holds of the words that lead to the state
abbrev pub AreHandlerMasks : Engine → GoalDefinition → List ℕ → Type 0
AreHandlerMasks engine goal hits =
    (state : ℕ) → state < length hits → (word : Word) → IsPlaceOf engine (State state) word → (k : ℕ) →
    IsBitSet (slice_index hits state) k ↔ IsSomeAnd (slice_get goal.groups k) (λ group. EngineHolds engine group word)

module _ (t : Transitions) (hits : List ℕ) where
  -- the letter leaves the state as it is, which hits nothing
  pub record IsIdleLetter (state e : ℕ) : Type 0 where
    pub letter : e < t.letters
    pub stays : next_of t state e ≡ state
    pub quiet : slice_index hits state ≡ 0

  -- the letter leads from the state to one that hits nothing, and from which no word leads to a handled one; from the
  -- start where the property is reset at the state
  pub record IsEndingLetter (goal : GoalDefinition) (needs : NeedSets) (state e : ℕ) : Type 0 where
    pub letter : e < t.letters
    pub quiet : slice_index hits (step_of t goal state e) ≡ 0
    pub ends : (u : Transitions) (g : GoalDefinition) (v : EventDefinitions) → AreNeedsOf u g v needs
        → IsAlive (IsNeededFrom u g v (step_of t goal state e)) 0 → ⊥

  -- the letter leads from the state to this one, which hits nothing, and from which some word leads to a handled one
  pub record IsPlainState (goal : GoalDefinition) (needs : NeedSets) (e state reached : ℕ) : Type 0 where
    pub letter : e < t.letters
    pub next : reached ≡ step_of t goal state e
    pub quiet : slice_index hits reached ≡ 0
    pub goes_on : (u : Transitions) (g : GoalDefinition) (v : EventDefinitions) → AreNeedsOf u g v needs
        → IsAlive (IsNeededFrom u g v reached) 0

  -- What stands in the row of the letter for the state is so: the state that it leads to, if that is another one, or
  -- that it leaves the state as it is.
  pub record IsPlainEntry (goal : GoalDefinition) (needs : NeedSets) (e state entry : ℕ) : Type 0 where
    pub moves : entry ≢ no_number → entry ≢ at_rest → IsPlainState goal needs e state entry
    pub rests : entry ≡ at_rest → IsPlainState goal needs e state state

  abbrev pub IsPlainRow : GoalDefinition → NeedSets → ℕ → List ℕ → Type 0
  IsPlainRow goal needs e row =
      (state entry : ℕ) → slice_get row state ≡ Some entry → IsPlainEntry goal needs e state entry

  abbrev pub ArePlainRows : GoalDefinition → NeedSets → List (List ℕ) → Type 0
  ArePlainRows goal needs rows = (e : ℕ) → IsPlainRow goal needs e (slice_index_or rows e [])

  abbrev pub AreIdle : List ℕ → Type 0
  AreIdle idle = (state e : ℕ) → state < t.states → IsBitSet (slice_index idle state) e → IsIdleLetter state e

  abbrev pub AreEnding : GoalDefinition → NeedSets → List ℕ → Type 0
  AreEnding goal needs ending =
      (state e : ℕ) → state < t.states → IsBitSet (slice_index ending state) e → IsEndingLetter goal needs state e

-- words can't begin with the letter, or it leads from the start to such a state
abbrev pub IsFirstEnding : Transitions → GoalDefinition → List ℕ → NeedSets → ℕ → Type 0
IsFirstEnding t goal hits needs e = (e < t.letters) × ((may_begin goal e → ⊥) ⊎ IsEndingLetter t hits goal needs 0 e)

-- the facts of a table for this goal, whose letters are the events
pub record AreFactsOf (t : Transitions) (goal : GoalDefinition) (events : EventDefinitions)
    (f : StateFacts) : Type 0 where
  pub table : IsTable t
  pub count : length f.hits ≡ t.states
  pub hits : AreHandlerMasks (States t) goal f.hits
  pub idle : AreIdle t f.hits f.idle
  pub ending : AreEnding t f.hits goal f.needs f.ending
  pub first_ending : (e : ℕ) → IsBitSet f.first_ending e → IsFirstEnding t goal f.hits f.needs e
  pub needs : AreNeedsOf t goal events f.needs
  pub plain : ArePlainRows t f.hits goal f.needs f.plain

-- some word of one or more letters without a dead parameter leads from the place's state to a handled one; from
-- the empty word it is one that may begin so
abbrev pub CanHitFrom : Transitions → GoalDefinition → EventDefinitions → Place → Mask → Type 0
CanHitFrom t g v Start dead = IsAlive (IsNeededAtStart t g v) dead
CanHitFrom t g v (State s) dead = (s < t.states) × IsAlive (IsNeededFrom t g v s) dead
CanHitFrom t g v _ dead = ⊥

-- ---- of a grammar

-- an instance is cut only where each letter has a dead parameter
abbrev pub is_coarse : CutRule → Bool
is_coarse Exact = false
is_coarse Coarse = true

-- The chart of the empty word, the charts of the words of one letter, and whether the rule of cuts is the coarse one.
pub record ParseFacts : Type 0 where
  pub begin : ChartDefinition
  pub firsts : List ChartDefinition
  pub coarse : Bool

module _ (c : ChartsDefinition) where
  -- chart e is that of the word of letter e alone
  pub record AreFirstCharts (firsts : List ChartDefinition) : Type 0 where
    pub count : length firsts ≡ length c.params
    pub each : (e : ℕ) (chart : ChartDefinition) → slice_get firsts e ≡ Some chart → IsChartOf c (e ∷ []) chart

  -- the word of letter e alone is in the language, or one that goes on with letters without a dead parameter is
  abbrev pub GoesOn : Mask → ℕ → Type 0
  GoesOn dead e = IsWord c.grammar (e ∷ []) ⊎ IsAliveFor c.grammar c.params dead (e ∷ [])

  -- words may begin with letter e, which has no dead parameter, and go on so
  abbrev pub BeginsWith : GoalDefinition → Mask → ℕ → Type 0
  BeginsWith goal dead e = may_begin goal e × IsAvailable c.params dead e × GoesOn dead e

  -- so much is left of the words of the place, so far as its chart tells: nothing where the property was reset
  abbrev pub IsLeftOf : Place → Bool → Word → Type 0
  IsLeftOf (Parse chart) true word = word ≡ []
  IsLeftOf (Parse chart) false word = IsChartOf c word chart
  IsLeftOf _ reset word = Unit {0}

  -- some word of one or more letters without a dead parameter, put after what is left of the place's word, is
  -- in the language; after the empty word it is one that may begin so
  abbrev pub CanMatch : GoalDefinition → Place → Word → Mask → Type 0
  CanMatch goal Start word dead = (e : ℕ) × BeginsWith goal dead e
  CanMatch goal (Parse chart) word dead = IsAliveFor c.grammar c.params dead word
  CanMatch goal _ word dead = ⊥
