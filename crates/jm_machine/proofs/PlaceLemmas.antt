-- Words lead to states of tables.
use Rattle.std.proofs.Common.{◌≡◌, ℕ, zero, suc, ◌+◌, ◌*◌, ◌<◌, List, [], ◌∷◌, ◌++◌, sym, ◌∙◌, ap, subst, arith}
use Rattle.std.specs.Prelude.{◌↔◌}
use Rattle.std.proofs.lemmas.List.Elements.{All-get_or, All-head, All-tail, All-push}
use Rattle.jm_table.specs.Tables.{Transitions, next_of, state_from, state_after_of, IsTable, IsWord, IsInGroup}
use Rattle.jm_table.proofs.PlaceLemmas.{fold_push}

-- ---- a state of a word is one of the table

place_within : (states letters state letter : ℕ) → state < states → letter < letters → state * letters + letter < states * letters
place_within zero letters state letter a b = absurd (omega (arith, a))
place_within (suc states) letters zero letter a b = omega (arith, b)
place_within (suc states) letters (suc state) letter a b = omega (arith, place_within states letters state letter (omega (arith, a)) b)

next_within : (t : Transitions) (state letter : ℕ) → IsTable t → state < t.states → letter < t.letters → next_of t state letter < t.states
next_within t state letter table a b =
    All-get_or (λ s. s < t.states) t.next (state * t.letters + letter) 0
    (subst (λ n. state * t.letters + letter < n) (sym table.whole) (place_within t.states t.letters state letter a b)) table.within

word_within : (t : Transitions) (state : ℕ) (w : List ℕ) → IsTable t → state < t.states → IsWord t w → state_from t state w < t.states
word_within t state [] table a word = a
word_within t state (e ∷ w) table a word =
    word_within t (next_of t state e) w table (next_within t state e table a (All-head (λ x. x < t.letters) e w word)) (All-tail (λ x. x < t.letters) e w word)

pub state_within : (t : Transitions) (w : List ℕ) → IsTable t → IsWord t w → state_after_of t w < t.states
state_within t w table word = word_within t 0 w table table.some_states word

-- a word with a letter more, where the letter leads on from the state of the word
pub push_word : (t : Transitions) (state next e : ℕ) (w : List ℕ) → e < t.letters → next ≡ next_of t state e → IsWord t w × (state ≡ state_after_of t w) → IsWord t (w ++ e ∷ []) × (next ≡ state_after_of t (w ++ e ∷ []))
push_word t state next e w letter step place =
    (All-push (λ x. x < t.letters) w e place.0 letter, step ∙ ap (λ n. next_of t n e) place.1 ∙ sym (fold_push (next_of t) 0 w e))

-- the empty word is one of each table
pub no_letters : (t : Transitions) → IsWord t []
no_letters t = λ k d less. absurd (omega (arith, less))

-- a letter more leads to the next state
pub state_next : (t : Transitions) (state next e : ℕ) (w : List ℕ) → IsTable t → e < t.letters → (state < t.states → next ≡ next_of t state e) → IsWord t w × (state ≡ state_after_of t w)
    → IsWord t (w ++ e ∷ []) × (next ≡ state_after_of t (w ++ e ∷ []))
state_next t state next e w table letter step place =
    let within : state < t.states = subst (λ n. n < t.states) (sym place.1) (state_within t w table place.0) in
    push_word t state next e w letter (step within) place

-- the groups of a state are those after its words
pub group_after : (t : Transitions) (state group : ℕ) (w : List ℕ) (P : Type 0) → IsTable t → (state < t.states → P ↔ IsInGroup t state group) → IsWord t w × (state ≡ state_after_of t w) → P ↔ IsInGroup t (state_after_of t w) group
group_after t state group w P table says place =
    let within : state < t.states = subst (λ n. n < t.states) (sym place.1) (state_within t w table place.0) in
    subst (λ n. P ↔ IsInGroup t n group) place.1 (says within)
