use Rattle.std.proofs.Common.{ℕ, ◌≡◌, ◌<◌, ◌+◌, ◌↔◌, inl, inr, suc, zero, List, [], ◌∷◌, ◌++◌, Option, Some, Ok, Result, IsSomeAnd, All, Contains, map, fold, length, slice_get, refl, sym, ap, subst, ◌∙◌, arith, length-append}
use Rattle.std.proofs.lemmas.Bool.{cases_lt}
use Rattle.jm_model.specs.declared.fault.SpecFault.{SpecFault}
use Rattle.jm_table.specs.Graphs.{GraphMeaning, step_from, reached_by}
use Rattle.jm_table.specs.Tables.{Transitions, IsInGroup, IsWord, state_after_of, Follows}
use Rattle.jm_fsm.specs.declared.machine.Destination.{Destination}
use Rattle.jm_fsm.specs.declared.machine.Destination.TheVariants.{State}
use Rattle.jm_fsm.specs.Machines.{StateMachine}
use Rattle.jm_fsm.specs.Tables.{HasStates, IsCompiled}
use Rattle.jm_fsm.specs.Categories.{IsMember, category_count}
use Rattle.jm_fsm.specs.Meanings.{next_destination, fsm_state_after}

-- a machine as a graph
abbrev pub graph_of : StateMachine → GraphMeaning Destination
graph_of m = record { start = Ok (State 0); step = λ destination letter. Ok (next_destination m destination letter) }

path_is : (m : StateMachine) (destination : Destination) (word : List ℕ) → fold (step_from (graph_of m)) (Ok destination) word ≡ Ok (fold (next_destination m) destination word)
path_is m destination [] = refl
path_is m destination (letter ∷ word) = path_is m (next_destination m destination letter) word

-- the graph reaches by a word where the path of the word ends
pub reached_is : (m : StateMachine) (word : List ℕ) → reached_by (graph_of m) word ≡ Ok (fsm_state_after m word)
reached_is m word = path_is m (State 0) word

-- The table after has that many groups more than the table before, which had none: the states of the group of a
-- category are the places of the list at which its members stand.
pub record HasGroups (m : StateMachine) (nodes : List Destination) (count : ℕ)
    (before after : Transitions) : Type 0 where
  pub states : after.states ≡ before.states
  pub letters : after.letters ≡ before.letters
  pub next : after.next ≡ before.next
  pub many : length after.groups ≡ count
  pub each : (category : ℕ) → category < count → (state : ℕ)
      → IsInGroup after state category ↔ IsSomeAnd (slice_get nodes state) (IsMember m category)

get-append : {X : Type 0} (xs ys : List X) (k : ℕ) → k < length xs → slice_get (xs ++ ys) k ≡ slice_get xs k
get-append [] ys k lt = absurd (omega arith)
get-append (x ∷ xs) ys zero lt = refl
get-append (x ∷ xs) ys (suc k) lt = get-append xs ys k (omega arith)

get-last : {X : Type 0} (xs : List X) (x : X) → slice_get (xs ++ x ∷ []) (length xs) ≡ Some x
get-last [] x = refl
get-last (y ∷ xs) x = get-last xs x

last_group : (groups : List (List ℕ)) (members : List ℕ) (category state : ℕ) → length groups ≡ category → IsSomeAnd (slice_get (groups ++ members ∷ []) category) (λ states. Contains states state) ↔ Contains members state
last_group groups members category state e =
    let at : slice_get (groups ++ members ∷ []) category ≡ Some members = ap (λ k. slice_get (groups ++ members ∷ []) k) (sym e) ∙ get-last groups members in
    (λ h. rw at at h, λ h. rw at h)

module _ (m : StateMachine) (nodes : List Destination) where
  pub group_more : (category : ℕ) (before t after : Transitions) (members places : List ℕ) → HasGroups m nodes category before t → after ≡ record t { groups = t.groups ++ members ∷ [] }
      → ((s : ℕ) → Contains members s ↔ Contains places s) → ((s : ℕ) → Contains places s ↔ IsSomeAnd (slice_get nodes s) (IsMember m category)) → HasGroups m nodes (category + 1) before after
  group_more category before t after members places so_far added same are = subst (λ (x : Transitions). HasGroups m nodes (category + 1) before x) (sym added) (record {
    states = so_far.states;
    letters = so_far.letters;
    next = so_far.next;
    many = omega (arith, length-append t.groups (members ∷ []), so_far.many);
    each = λ k lt state. elim (cases_lt k category) [
      | inl old ↦ rw (get-append t.groups (members ∷ []) k (omega (arith, old, so_far.many))) (so_far.each k old state)
      | inr last ↦
          let e : k ≡ category = omega (arith, lt, last) in
          let here = last_group t.groups members k state (so_far.many ∙ sym e) in
          let is : Contains places state ↔ IsSomeAnd (slice_get nodes state) (IsMember m k) = subst (λ x. Contains places state ↔ IsSomeAnd (slice_get nodes state) (IsMember m x)) (sym e) (are state) in
          (λ h. is.0 ((same state).0 (here.0 h)), λ h. here.1 ((same state).1 (is.1 h)))
    ];
  })

  holds_of : (o : Option Destination) (destination : Destination) (category : ℕ) → o ≡ Some destination → IsSomeAnd o (IsMember m category) ↔ IsMember m category destination
  holds_of o destination category e = (λ h. rw e at h, λ h. rw e h)

  same_states : (before after : Transitions) (word : List ℕ) → after.letters ≡ before.letters → after.next ≡ before.next → state_after_of after word ≡ state_after_of before word
  same_states before after word letters next = rw (letters, next) refl

  -- where the path of a word ends stands at the word's state
  stands_at : (before after : Transitions) → Follows (graph_of m) before nodes → HasGroups m nodes (category_count m) before after
      → (word : List ℕ) → IsWord after word → slice_get nodes (state_after_of after word) ≡ Some (fsm_state_after m word)
  stands_at before after follows groups word below =
      let stands = follows.stands word (subst (λ n. All (λ letter. letter < n) word) groups.letters below) in
      let end : stands.0 ≡ fsm_state_after m word = let e : ◌≡◌ {A = Result Destination SpecFault} (Ok stands.0) (Ok (fsm_state_after m word)) = sym stands.1 ∙ reached_is m word in cc in
      let same = same_states before after word groups.letters groups.next in
      ap (λ k. slice_get nodes k) same ∙ stands.2 ∙ ap (λ x. Some x) end

  pub has_states : (before after : Transitions) → Follows (graph_of m) before nodes → HasGroups m nodes (category_count m) before after → HasStates m after
  has_states before after follows groups = record {
    destinations = nodes;
    count = follows.count ∙ sym groups.states;
    stands = stands_at before after follows groups;
    reached = λ state lt.
        let r = follows.reached state (subst (λ n. state < n) groups.states lt) in
        (r.0, subst (λ n. All (λ letter. letter < n) r.0) (sym groups.letters) r.1, same_states before after r.0 groups.letters groups.next ∙ r.2);
    distinct = follows.distinct;
  }

  pub is_compiled : (before after : Transitions) → Follows (graph_of m) before nodes → HasGroups m nodes (category_count m) before after → IsCompiled m after
  is_compiled before after follows groups word below category lt =
      let at = stands_at before after follows groups word below in
      let group = groups.each category lt (state_after_of after word) in
      let member = holds_of (slice_get nodes (state_after_of after word)) (fsm_state_after m word) category at in
      (λ h. member.0 (group.0 h), λ h. group.1 (member.1 h))

pub map_same : {X : Type 0} (xs : List X) → map (λ x. x) xs ≡ xs
map_same [] = refl
map_same (x ∷ xs) = ap (λ l. x ∷ l) (map_same xs)
