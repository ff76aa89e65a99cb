use Rattle.std.proofs.Common.{ℕ, ◌≡◌, ◌==◌, ◌<◌, ◌≤◌, ◌+◌, ◌⊎◌, inl, inr, suc, zero, false, List, [], ◌∷◌, Option, Some, None, Ok, Err, Result, All, Contains, map, fold, find, option_map, unwrap_or, length, get_or, slice_get, refl, sym, ap, subst, ◌∙◌, arith}
use Rattle.std.specs.List.{IsDistinct, position_or_len}
use Rattle.std.proofs.lemmas.Bool.Decides.{eqb_tells}
use Rattle.std.proofs.lemmas.Bool.{eqb-true}
use Rattle.std.proofs.Math.Dec.{eqb}
use Rattle.std.proofs.lemmas.List.{length-map}
use Rattle.std.proofs.lemmas.List.Elements.{All-contains, All-weaker, All-map, All-tail, All-head, recursion_from_All}
use Rattle.std.proofs.lemmas.List.Folds.{find_at}
use Rattle.std.proofs.lemmas.Map.Keys.{IsDistinct-cons}
use Rattle.std.proofs.lemmas.Map.Views.{Contains-from_any}
use Rattle.std.proofs.lemmas.Map.Steps.{length-le_from_distinct_below}
use Rattle.std.proofs.lemmas.Option.{slice_get_within, slice_get-get_or, get_or_from_slice_get}
use Rattle.jm_model.specs.declared.fault.SpecFault.{SpecFault}
use Rattle.jm_model.specs.declared.fault.SpecFault.TheVariants.{TooManyStates}
use Rattle.jm_model.specs.declared.fault.SpecError.{SpecError}
use Rattle.jm_model.specs.declared.fault.SpecError.TheVariants.{Bad, NoMemory}
use Rattle.jm_table.specs.Graphs.{IsReached}
use Rattle.jm_table.specs.Explorations.{IsWithoutRepeats, IfBad, IsMet, IsCrowded}
use Rattle.jm_fsm.specs.declared.machine.Destination.{Destination}
use Rattle.jm_fsm.specs.declared.machine.Destination.TheVariants.{State, Fail}
use Rattle.jm_fsm.specs.declared.machine.Transition.{Transition}
use Rattle.jm_fsm.specs.Machines.{StateDefinition, StateMachine}
use Rattle.jm_fsm.specs.WellFormed.{IsDestination, IsMachine}
use Rattle.jm_fsm.specs.Meanings.{destination_of, next_destination, fsm_state_after}
use Rattle.jm_fsm.proofs.CompileLemmas.{graph_of, reached_is}

-- ---- what a machine reaches is one of its states, or `fail`

fallback_destination : (n : ℕ) (o : Option Destination) → ((destination : Destination) → o ≡ Some destination → IsDestination n destination) → IsDestination n (unwrap_or o Fail)
fallback_destination n None h = tt
fallback_destination n (Some destination) h = h destination refl

listed_destination : (n : ℕ) (o : Option Transition) (other : Destination) → ((t : Transition) → o ≡ Some t → IsDestination n t.destination) → IsDestination n other → IsDestination n (unwrap_or (option_map (λ (t : Transition). t.destination) o) other)
listed_destination n None other h fallen = fallen
listed_destination n (Some t) other h fallen = h t refl

found_is_there : {X : Type 0} (xs : List X) (k : ℕ) (x : X) → slice_get xs k ≡ Some x → Contains xs x
found_is_there xs k x h = (k, slice_get_within xs k x h, get_or_from_slice_get xs k x x h)

destination_is_destination : (n : ℕ) (s : StateDefinition) (letter : ℕ) → All (λ (t : Transition). IsDestination n t.destination) s.transitions → ((destination : Destination) → s.fallback ≡ Some destination → IsDestination n destination) → IsDestination n (destination_of s letter)
destination_is_destination n s letter listed fallen =
    let test = λ (t : Transition). t.letter.0 == letter in
    listed_destination n (find test s.transitions) (unwrap_or s.fallback Fail)
    (λ t e. All-contains (λ (x : Transition). IsDestination n x.destination) s.transitions t listed (found_is_there s.transitions (position_or_len test s.transitions) t (sym (find_at test s.transitions) ∙ e)))
    (fallback_destination n s.fallback fallen)

module _ (m : StateMachine) (machine : IsMachine m) where
  from_state : (o : Option StateDefinition) (letter : ℕ) → ((s : StateDefinition) → o ≡ Some s → Contains m.states s) → IsDestination (length m.states) (unwrap_or (option_map (λ s. destination_of s letter) o) Fail)
  from_state None letter h = tt
  from_state (Some s) letter h =
      destination_is_destination (length m.states) s letter
      (All-contains (λ (x : StateDefinition). All (λ (t : Transition). IsDestination (length m.states) t.destination) x.transitions) m.states s machine.listed (h s refl))
      (All-contains (λ (x : StateDefinition). (destination : Destination) → x.fallback ≡ Some destination → IsDestination (length m.states) destination) m.states s machine.fallen (h s refl))

  next_is_destination : (destination : Destination) (letter : ℕ) → IsDestination (length m.states) destination → IsDestination (length m.states) (next_destination m destination letter)
  next_is_destination Fail letter h = tt
  next_is_destination (State k) letter h = from_state (slice_get m.states k) letter (λ s e. found_is_there m.states k s e)

  path_is_destination : (word : List ℕ) (destination : Destination) → IsDestination (length m.states) destination → IsDestination (length m.states) (fold (next_destination m) destination word)
  path_is_destination [] destination h = h
  path_is_destination (letter ∷ word) destination h = path_is_destination word (next_destination m destination letter) (next_is_destination destination letter h)

  reached_is_destination : (letters : ℕ) (destination : Destination) → IsReached (graph_of m) letters destination → IsDestination (length m.states) destination
  reached_is_destination letters destination h =
      let same : fsm_state_after m h.0 ≡ destination = let e : ◌≡◌ {A = Result Destination SpecFault} (Ok (fsm_state_after m h.0)) (Ok destination) = sym (reached_is m h.0) ∙ h.2 in cc in
      subst (λ (x : Destination). IsDestination (length m.states) x) same (path_is_destination h.0 (State 0) machine.some_states)

-- ---- so there are at most 1,024 of them

-- a number for each state, and the one after them for `fail`
abbrev number_of : ℕ → Destination → ℕ
number_of n (State k) = k
number_of n Fail = n

number_below : (n : ℕ) (a : Destination) → IsDestination n a → number_of n a < n + 1
number_below n (State k) h = omega (arith, h)
number_below n Fail h = omega arith

number_tells : (n : ℕ) (a b : Destination) → IsDestination n a → IsDestination n b → number_of n a ≡ number_of n b → a ≡ b
number_tells n (State j) (State k) ha hb e = ap (λ x. State x) e
number_tells n (State j) Fail ha hb e = absurd (omega (arith, ha, e))
number_tells n Fail (State k) ha hb e = absurd (omega (arith, hb, e))
number_tells n Fail Fail ha hb e = refl

numbers_differ : (n : ℕ) (found : List Destination) → All (IsDestination n) found → IsWithoutRepeats found → IsDistinct eqb (map (number_of n) found)
unfolding IsDistinct
numbers_differ n [] each distinct = tt
numbers_differ n (a ∷ found) each distinct =
    let rest = All-tail (IsDestination n) a found each in
    let head = All-head (IsDestination n) a found each in
    let apart : All (λ (b : Destination). eqb (number_of n a) (number_of n b) ≡ false) found = λ k d lt.
    let b = get_or found k d in
    elim (eqb_tells (number_of n a) (number_of n b)) [
      | inl same ↦
          let one = number_tells n a b head (rest k d lt) same.1 in
          let place : zero ≡ suc k = distinct zero (suc k) b (ap (λ x. Some x) one) (slice_get-get_or found k d lt) in
          absurd (omega (arith, place))
      | inr other ↦ other.0
    ] in
    IsDistinct-cons eqb (number_of n a) (map (number_of n) found)
    (recursion_from_All (λ y. eqb (number_of n a) y ≡ false) (map (number_of n) found) (All-map (λ y. eqb (number_of n a) y ≡ false) (number_of n) found apart))
    (numbers_differ n found rest (λ j k d hj hk. let e : suc j ≡ suc k = distinct (suc j) (suc k) d hj hk in omega (arith, e)))

few_destinations : (n : ℕ) (found : List Destination) → All (IsDestination n) found → IsWithoutRepeats found → length found ≤ n + 1
few_destinations n found each distinct =
    let numbers = map (number_of n) found in
    let below : All (λ y. y < n + 1) numbers = All-map (λ y. y < n + 1) (number_of n) found (All-weaker (IsDestination n) (λ a. number_of n a < n + 1) (number_below n) found each) in
    let few = length-le_from_distinct_below numbers (n + 1) (numbers_differ n found each distinct)
    (λ q passes. All-contains (λ y. y < n + 1) numbers q below (Contains-from_any (λ x y e. eqb-true x y e) q numbers passes)) in
    omega (arith, few, length-map found (number_of n))

-- ---- and the work on a machine has no fault

pub no_fault : (m : StateMachine) (letters : ℕ) → IsMachine m → (error : SpecError)
    → IfBad error (λ fault. IsMet (graph_of m) letters fault ⊎ ((fault ≡ TooManyStates) × IsCrowded (graph_of m) letters)) → error ≡ NoMemory
no_fault m letters machine NoMemory cause = refl
no_fault m letters machine (Bad fault) (inl met) =
    absurd (let e : ◌≡◌ {A = Result Destination SpecFault} (Ok (fsm_state_after m met.word)) (Err fault) = sym (reached_is m met.word) ∙ met.meets in cc)
no_fault m letters machine (Bad fault) (inr many) =
    let crowd = many.1 in
    absurd (omega (
      arith,
      crowd.many,
      machine.few_states,
      few_destinations (length m.states) crowd.found (All-weaker (IsReached (graph_of m) letters) (IsDestination (length m.states)) (reached_is_destination m machine letters) crowd.found crowd.each) crowd.distinct,
    ))
