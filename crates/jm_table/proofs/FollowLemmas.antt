use Rattle.std.proofs.Common.{ℕ, ◌≡◌, ◌<◌, ◌≤◌, ◌+◌, ◌*◌, List, [], ◌∷◌, Some, Result, Ok, All, fold, length, slice_get, get_or, refl, sym, ap, subst, ◌∙◌, arith}
use Rattle.jm_model.specs.declared.fault.SpecFault.{SpecFault}
use Rattle.std.proofs.lemmas.Nat.{div-mul-add, mod-mul-add, mul-add-lt, mul-le}
use Rattle.std.proofs.Math.Nat.{le_refl}
use Rattle.std.proofs.lemmas.List.Elements.{All-from_get_or, All-head, All-tail, All-get_or}
use Rattle.std.proofs.lemmas.Option.{same_Some, slice_get_within, slice_get-get_or}
use Rattle.jm_table.specs.Graphs.{GraphMeaning, step_from, reached_by, IsReached}
use Rattle.jm_table.specs.Explorations.{IsExplored, IsInWork}
use Rattle.jm_table.specs.Tables.{Transitions, next_of, state_from, state_after_of, IsTable, IsWord, Follows}
use Rattle.jm_table.proofs.ExplorationLemmas.{IsSound, found_is_sound, explored_all}

module _ {D : Type 0} (g : GraphMeaning D) (letters : ℕ) (found : List D) (next : List ℕ) where
  -- the table of the work
  abbrev pub table_of : Transitions
  table_of = record { states = length found; letters = letters; next = next; groups = [] }

  module _ (work : IsInWork g letters (length found * letters) found next) (sound : IsSound g letters found) (few : letters ≤ 32) where
    next_within : (m : ℕ) → m < length next → get_or next m 0 < length found
    next_within m lt = let step = work.each m (omega (arith, work.count)) in slice_get_within found (get_or next m 0) step.1 step.4

    pub is_table : IsTable table_of
    is_table = record {
      some_states = slice_get_within found 0 sound.first.0 sound.first.2;
      few_states = sound.few;
      few_letters = few;
      whole = work.count;
      within = All-from_get_or (λ state. state < length found) next 0 next_within;
      few_groups = omega arith;
    }

    -- a letter takes the state of what was reached to that of what its step leads to
    step_follows : (k : ℕ) (d : D) (letter : ℕ) → slice_get found k ≡ Some d → letter < letters → (e : D) × (g.step d letter ≡ Ok e) × (slice_get found (next_of table_of k letter) ≡ Some e)
    step_follows k d letter at lt =
        let below = slice_get_within found k d at in
        let place : k * letters + letter < length found * letters = subst (λ n. k * letters + letter < n) (omega arith) (mul-add-lt k letters letter (length found) below lt) in
        let step = work.each (k * letters + letter) place in
        let from : step.0 ≡ d = same_Some step.0 d (sym step.2 ∙ ap (λ i. slice_get found i) (div-mul-add k letters letter lt) ∙ at) in
        let leads : g.step d letter ≡ Ok step.1 = sym (ap (λ x. g.step x letter) from) ∙ sym (ap (λ a. g.step step.0 a) (mod-mul-add k letters letter lt)) ∙ step.3 in
        (step.1, leads, step.4)

    word_follows : (word : List ℕ) (k : ℕ) (d : D) → slice_get found k ≡ Some d → All (λ letter. letter < letters) word
        → (e : D) × (fold (step_from g) (Ok d) word ≡ Ok e) × (slice_get found (state_from table_of k word) ≡ Some e)
    word_follows [] k d at below = (d, refl, at)
    word_follows (letter ∷ word) k d at below =
        let step = step_follows k d letter at (All-head (λ a. a < letters) letter word below) in
        let rest = word_follows word (next_of table_of k letter) step.0 step.2 (All-tail (λ a. a < letters) letter word below) in
        (rest.0, ap (λ r. fold (step_from g) r word) step.1 ∙ rest.1, rest.2)

    word_stands : (word : List ℕ) → All (λ letter. letter < letters) word → (d : D) × (reached_by g word ≡ Ok d) × (slice_get found (state_after_of table_of word) ≡ Some d)
    word_stands word below =
        let after = word_follows word 0 sound.first.0 sound.first.2 below in
        (after.0, ap (λ r. fold (step_from g) r word) sound.first.1 ∙ after.1, after.2)

    state_reached : (state : ℕ) → state < length found → (word : List ℕ) × IsWord table_of word × (state_after_of table_of word ≡ state)
    state_reached state lt =
        let d = get_or found state sound.first.0 in
        let way = All-get_or (IsReached g letters) found state sound.first.0 lt sound.each in
        let after = word_stands way.0 way.1 in
        let same : after.0 ≡ d = let e : ◌≡◌ {A = Result D SpecFault} (Ok after.0) (Ok d) = sym after.1 ∙ way.2 in cc in
        (way.0, way.1, sound.distinct (state_after_of table_of way.0) state d (after.2 ∙ ap (λ x. Some x) same) (slice_get-get_or found state sound.first.0 lt))

    pub follows : Follows g table_of found
    follows = record { stands = word_stands; reached = state_reached; distinct = sound.distinct; count = refl }

  -- the work is done: the table is whole, it follows the graph, and what was found is what the order of work finds
  pub finished : (states state : ℕ) → states ≡ length found → state ≡ length found → letters ≤ 32 → IsInWork g letters (state * letters) found next
      → (IsTable (record { states = states; letters = letters; next = next; groups = [] }))
      × (Follows g (record { states = states; letters = letters; next = next; groups = [] }) found) × (IsExplored g letters (Ok found))
  finished states state all done few so_far =
      let work : IsInWork g letters (length found * letters) found next = subst (λ k. IsInWork g letters (k * letters) found next) done so_far in
      let sound = found_is_sound g letters (length found * letters) found (mul-le (length found) letters 1024 letters work.few (le_refl letters)) work.steps in (
        subst (λ k. IsTable (record { states = k; letters = letters; next = next; groups = [] })) (sym all) (is_table work sound few),
        subst (λ k. Follows g (record { states = k; letters = letters; next = next; groups = [] }) found) (sym all) (follows work sound few),
        explored_all g letters found work.few work.steps,
      )
