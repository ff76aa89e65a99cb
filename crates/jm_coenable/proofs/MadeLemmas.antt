use Rattle.std.proofs.Common.{ℕ, ◌≡◌, ◌<◌, ◌↔◌, List, [], ◌∷◌, length, Contains, subst, ◌∙◌, arith}
use Rattle.jm_events.specs.Events.{EventDefinitions}
use Rattle.jm_goal.specs.Goals.{GoalDefinition}
use Rattle.jm_table.specs.Tables.{Transitions, IsTable, IsWord}
use Rattle.jm_coenable.specs.Needs.{set_at, step_of, run_from, IsNeededFrom, IsArrival, AreNeedsOf}
use Rattle.jm_coenable.specs.Searches.{AreDeadSets, IsFamilySet, IsStart}
use Rattle.jm_coenable.proofs.NeedLemmas.{word_head, word_tail, step_within}
use Rattle.jm_coenable.proofs.StartLemmas.{start_sound, start_complete}

word_within : (t : Transitions) (g : GoalDefinition) (word : List ℕ) (state : ℕ) → IsTable t → state < t.states → IsWord t word → run_from t g state word < t.states
word_within t g [] state table lt word = lt
word_within t g (first ∷ rest) state table lt word =
    word_within t g rest (step_of t g state first) table (step_within t g state first table lt (word_head t first rest word)) (word_tail t first rest word)

arrival_within : (t : Transitions) (g : GoalDefinition) (state last : ℕ) → IsTable t → IsArrival t g state last → state < t.states
arrival_within t g state last table a =
    let lt : 0 < t.states = table.some_states in
    subst (λ (s : ℕ). s < t.states) a.leads (word_within t g (a.first ∷ a.rest) 0 table lt a.letters)

-- what was made of needed masks and last letters are the needs
pub needs_made : (t : Transitions) (g : GoalDefinition) (v : EventDefinitions) (arrivals needed alive families : List (List ℕ)) (first start : List ℕ) → IsTable t → length needed ≡ t.states
    → ((state mask : ℕ) → state < t.states → Contains (set_at needed state) mask ↔ IsNeededFrom t g v state mask)
    → ((state last : ℕ) → state < t.states → Contains (set_at arrivals state) last ↔ IsArrival t g state last)
    → length alive ≡ length needed → ((place : ℕ) → place < length alive → AreDeadSets (set_at needed place) (set_at alive place))
    → length families ≡ t.letters → ((letter : ℕ) → letter < length families → IsFamilySet arrivals needed letter (set_at families letter))
    → ((mask : ℕ) → Contains first mask ↔ IsStart t g v needed t.letters mask) → AreDeadSets first start
    → AreNeedsOf t g v (record { alive = alive; start = start; families = families })
needs_made t g v arrivals needed alive families first start table count needs arrives dead_count dead family_count family begins dead_first = record {
  states = dead_count ∙ count;
  letters = family_count;
  alive = λ state d lt few.
      let sets = dead state (omega (arith, lt, dead_count, count)) d in (
        λ h. let a = (sets.0 h).1 in (a.0, (needs state a.0 lt).0 a.1, a.2),
        λ h. sets.1 (few, (h.0, (needs state h.0 lt).1 h.1, h.2)),
      );
  start = λ d few. (
    λ h. let a = ((dead_first d).0 h).1 in (a.0, start_sound t g v needed table needs a.0 ((begins a.0).0 a.1), a.2),
    λ h. let n = h.1 in (dead_first d).1 (few, (h.0, (begins h.0).1 (start_complete t g v needed table needs n.1 h.0 n.0 n.2 n.3), h.2)),
  );
  families = λ letter mask lt few.
      let set = family letter (omega (arith, lt, family_count)) mask in (
        λ h. let told = (set.0 h).1 in
            let within : told.0 < t.states = omega (arith, told.1, count) in
            (told.0, (arrives told.0 letter within).0 told.2, (needs told.0 mask within).0 told.3),
        λ h. let within = arrival_within t g h.0 letter table h.1 in
            set.1 (few, (h.0, omega (arith, within, count), (arrives h.0 letter within).1 h.1, (needs h.0 mask within).1 h.2)),
      );
}
