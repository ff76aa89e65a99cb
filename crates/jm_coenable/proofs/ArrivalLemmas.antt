use Rattle.std.proofs.Common.{ℕ, ◌≡◌, ◌<◌, ◌+◌, ◌↔◌, inl, inr, Bool, true, List, [], ◌∷◌, ◌++◌, length, get_or, Contains, refl, sym, ap, subst, ◌∙◌, arith, ◌||◌}
use borrow.Author.Count.{below_more}
use Rattle.std.proofs.lemmas.List.{get_or_default}
use Rattle.jm_goal.specs.Goals.{GoalDefinition}
use Rattle.jm_table.specs.Tables.{Transitions, IsTable, IsWord}
use Rattle.jm_table.proofs.PlaceLemmas.{fold_push}
use Rattle.jm_coenable.specs.Needs.{set_at, step_of, run_from, IsFirst, IsArrival}
use Rattle.jm_coenable.specs.Rounds.{IsPut, IsPart, AreArrivals, IsSpreadBelow, IsSpread}
use Rattle.jm_coenable.proofs.SetLemmas.{part_put, part_then}
use Rattle.jm_coenable.proofs.NeedLemmas.{word_cons, word_head, word_tail, step_within}

-- a word with one letter more
word_push : (t : Transitions) (word : List ℕ) (letter : ℕ) → IsWord t word → letter < t.letters → IsWord t (word ++ letter ∷ [])
word_push t [] letter word lt = word_cons t letter [] lt word
word_push t (first ∷ rest) letter word lt = word_cons t first (rest ++ letter ∷ []) (word_head t first rest word) (word_push t rest letter (word_tail t first rest word) lt)

module _ (t : Transitions) (g : GoalDefinition) where
  arrives_first : (letter : ℕ) → letter < t.letters → IsFirst g letter → IsArrival t g (step_of t g 0 letter) letter
  arrives_first letter lt begins = record {
    before = [];
    first = letter;
    rest = [];
    ends = refl;
    letters = word_cons t letter [] lt (λ k d h. absurd (omega (arith, h)));
    begins = begins;
    leads = refl;
  }

  arrives_more : (state last letter : ℕ) → letter < t.letters → IsArrival t g state last → IsArrival t g (step_of t g state letter) letter
  arrives_more state last letter lt a = record {
    before = a.first ∷ a.rest;
    first = a.first;
    rest = a.rest ++ letter ∷ [];
    ends = refl;
    letters = word_push t (a.first ∷ a.rest) letter a.letters lt;
    begins = a.begins;
    leads = fold_push (step_of t g) 0 (a.first ∷ a.rest) letter ∙ ap (λ (s : ℕ). step_of t g s letter) a.leads;
  }

  arrivals_put : (a b : List (List ℕ)) (wanted : Bool) (place member : ℕ) (changed : Bool) → IsPut a b wanted place member changed
      → (AreArrivals t g a → wanted ≡ true → IsArrival t g place member) → AreArrivals t g a → AreArrivals t g b
  arrivals_put a b wanted place member changed put arrives sound state last lt h =
      elim (put.only state last h) [
        | inl old ↦ sound state last lt old
        | inr new ↦ subst (λ (s : ℕ). IsArrival t g s last) (sym new.1) (subst (λ (m : ℕ). IsArrival t g place m) (sym new.2) (arrives sound new.0))
      ]

-- ---- the part of a round for a letter

module _ (t : Transitions) (g : GoalDefinition) (state letter next : ℕ) (below : letter < t.letters) (leads : next ≡ step_of t g state letter) where
  pub arrive_begins : (a b : List (List ℕ)) (first changed : Bool) → (first ≡ true ↔ ((state ≡ 0) × IsFirst g letter)) → IsPut a b first next letter changed
      → IsPart (AreArrivals t g) (IsSpreadBelow t g state letter 0) a b changed
  arrive_begins a b first changed tells put =
      part_put (AreArrivals t g) (IsSpreadBelow t g state letter 0) a b first next letter changed put
      (arrivals_put t g a b first next letter changed put (λ _ is_first.
      let start = tells.0 is_first in
      subst (λ (s : ℕ). IsArrival t g s letter) (ap (λ (s : ℕ). step_of t g s letter) (sym start.0) ∙ sym leads) (arrives_first t g letter below start.1)))
      (λ _. record {
        first = λ zero_state begins. subst (λ (s : ℕ). Contains (set_at b s) letter) leads (put.here (tells.1 (zero_state, begins)));
        more = λ last lt. absurd (omega (arith, lt));
      })

  pub arrive_more : (a b c : List (List ℕ)) (found : List ℕ) (last : ℕ) (wanted changed more : Bool) → state < t.states → length b ≡ t.states → found ≡ get_or b state found
      → (wanted ≡ true ↔ Contains found last) → IsPart (AreArrivals t g) (IsSpreadBelow t g state letter last) a b changed → IsPut b c wanted next letter more
      → IsPart (AreArrivals t g) (IsSpreadBelow t g state letter (last + 1)) a c (changed || more)
  arrive_more a b c found last wanted changed more within count is tells part put =
      let at : found ≡ get_or b state [] = is ∙ get_or_default b state found [] (omega (arith, within, count)) in
      let Here : List (List ℕ) → Type 0 = λ sets. Contains (set_at sets state) last → Contains (set_at sets (step_of t g state letter)) letter in
      part_then (AreArrivals t g) (IsSpreadBelow t g state letter last) Here (IsSpreadBelow t g state letter (last + 1)) a b c changed more part
      (part_put (AreArrivals t g) Here b c wanted next letter more put
      (arrivals_put t g b c wanted next letter more put (λ sound is_wanted.
      subst (λ (s : ℕ). IsArrival t g s letter) (sym leads)
      (arrives_more t g state last letter below (sound state last within (subst (λ (s : List ℕ). Contains s last) at (tells.0 is_wanted))))))
      (λ same there.
      let before : Contains (set_at b state) last = subst (λ (s : List (List ℕ)). Contains (set_at s state) last) same there in
      subst (λ (s : ℕ). Contains (set_at c s) letter) leads (put.here (tells.1 (subst (λ (s : List ℕ). Contains s last) (sym at) before)))))
      (λ spread here. record {
        first = spread.first;
        more = below_more (λ (l : ℕ). Contains (set_at c state) l → Contains (set_at c (step_of t g state letter)) letter) last spread.more here;
      })

-- ---- complete

module _ (t : Transitions) (g : GoalDefinition) (sets : List (List ℕ)) (table : IsTable t) (spread : IsSpread t g sets) where
  -- where a word goes on from a state with a last letter, its last letter arrives
  arrive_on : (rest before : List ℕ) (state here last : ℕ) → state < t.states → here < t.letters → Contains (set_at sets state) here → IsWord t rest
      → here ∷ rest ≡ before ++ last ∷ [] → Contains (set_at sets (run_from t g state rest)) last
  arrive_on [] [] state here last lt below there word ends = let e : here ≡ last = cc in subst (λ (l : ℕ). Contains (set_at sets state) l) e there
  arrive_on [] (b ∷ []) state here last lt below there word ends = absurd (cc)
  arrive_on [] (b ∷ (d ∷ before)) state here last lt below there word ends = absurd (cc)
  arrive_on (next ∷ rest) [] state here last lt below there word ends = absurd (cc)
  arrive_on (next ∷ rest) (b ∷ before) state here last lt below there word ends =
      let next_below = word_head t next rest word in
      let tail : next ∷ rest ≡ before ++ last ∷ [] = cc in
      arrive_on rest before (step_of t g state next) next last (step_within t g state next table lt next_below) next_below ((spread state lt next next_below).more here below there)
      (word_tail t next rest word) tail

  pub arrivals_all : (state last : ℕ) → IsArrival t g state last → Contains (set_at sets state) last
  arrivals_all state last a =
      let below = word_head t a.first a.rest a.letters in
      let lt : 0 < t.states = table.some_states in
      subst (λ (s : ℕ). Contains (set_at sets s) last) a.leads
      (arrive_on a.rest a.before (step_of t g 0 a.first) a.first last (step_within t g 0 a.first table lt below) below ((spread 0 lt a.first below).first refl a.begins)
      (word_tail t a.first a.rest a.letters) a.ends)
