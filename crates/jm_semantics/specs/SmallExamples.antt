-- Specifications over one parameter, one for each rule that they show.
use Rattle.std.specs.Prelude.{ℕ, zero, suc, ◌≡◌, Bool, true, false, not, List, [], ◌∷◌, ◌++◌, None, Some}
use Rattle.jm_model.specs.Meanings.{Meaning}
use Rattle.jm_model.specs.declared.binding.Binding.{Binding}
use Rattle.jm_model.specs.declared.firings.Firing.{Firing}
use Rattle.jm_model.specs.declared.step.Entry.{Entry}
use Rattle.jm_semantics.specs.ExampleEntries.{one_handler, binding, event, death, pass, fires}

-- the event e of object x, at a line
abbrev pub on : ℕ → ℕ → ℕ → List Firing → Entry
on line e x firings = event line e (binding (Some x) None None) firings

-- handler 0 runs for the instance of x
abbrev pub fires_on : ℕ → List Firing
fires_on x = fires (binding (Some x) None None) ∷ []

-- ---- Tick: a binds the parameter and tick binds none; each word that isn't empty matches
abbrev pub tick_params : ℕ → ℕ
tick_params zero = 1
tick_params _ = 0

abbrev pub is_some_word : List ℕ → Bool
is_some_word [] = false
is_some_word (e ∷ w) = true

abbrev pub tick : Meaning
tick = one_handler 2 tick_params is_some_word

-- the same where a reported instance binds all parameters
abbrev pub full_tick : Meaning
full_tick = record tick { must_bind = 1 }

-- an event without parameters reaches every instance
abbrev pub ticking : List Firing → List Entry
ticking answer = on 1 0 0 (fires_on 0) ∷ on 2 0 1 (fires_on 1) ∷ event 3 1 (binding None None None) answer ∷ []

abbrev pub both_bound : List Firing
both_bound = fires (binding (Some 0) None None) ∷ fires (binding (Some 1) None None) ∷ []

-- the same with a second handler, whose category holds of the same words
abbrev pub tick_twice : Meaning
tick_twice = record tick { handlers = 2 }

abbrev pub fires_twice : Binding → List Firing
fires_twice t = record { instance = t; handler = 0 } ∷ record { instance = t; handler = 1 } ∷ []

-- firings lie in the order of their instances, and then of their handlers
abbrev pub firing_in_order : List Entry
firing_in_order =
    on 1 0 0 (fires_twice (binding (Some 0) None None)) ∷
    event 2 1 (binding None None None)
    (fires_twice (binding None None None) ++ fires_twice (binding (Some 0) None None)) ∷ []

-- ---- NotAB: every word but `a b` matches
abbrev pub is_not_ab : List ℕ → Bool
is_not_ab (zero ∷ suc zero ∷ []) = false
is_not_ab _ = true

abbrev pub not_ab : Meaning
not_ab = one_handler 2 (λ _. 1) is_not_ab

-- the category is left and entered again
abbrev pub back_again : List Entry
back_again = on 1 0 0 (fires_on 0) ∷ on 2 1 0 [] ∷ on 3 0 0 (fires_on 0) ∷ []

-- ---- Quiet: there is no handler, so every instance is cut
abbrev pub quiet : Meaning
quiet = record not_ab { handlers = 0 }

abbrev pub silence : List Entry
silence = on 1 0 0 [] ∷ pass 2 0 ∷ []

-- ---- HasNext: the letters hasnext and next; a word matches that ends in a `next` not directly after a `hasnext`
-- whether it does, where the letter before the word was a hasnext or not
abbrev pub is_blind_after : Bool → List ℕ → Bool
is_blind_after asked [] = false
is_blind_after asked (zero ∷ w) = is_blind_after true w
is_blind_after asked (suc e ∷ []) = not asked
is_blind_after asked (suc e ∷ d ∷ w) = is_blind_after false (d ∷ w)

abbrev pub has_next : Meaning
has_next = one_handler 2 (λ _. 1) (is_blind_after false)

-- the same where hasnext is a creation letter
abbrev pub created_has_next : Meaning
created_has_next = record has_next { creation = 0 ∷ [] }

-- the iterator is used at once
abbrev pub blind_next : List Firing → ℕ → List Entry
blind_next answer kept = on 1 1 0 answer ∷ pass 2 kept ∷ []

-- ---- SafeLock: the letters acquire and release over a lock. A word fails when no word that begins with it
-- is balanced, which is so when some prefix has more releases than acquires.
-- whether the word fails with this many acquires still open
abbrev pub fails_with : ℕ → List ℕ → Bool
fails_with open_locks [] = false
fails_with open_locks (zero ∷ w) = fails_with (suc open_locks) w
fails_with zero (suc e ∷ w) = true
fails_with (suc open_locks) (suc e ∷ w) = fails_with open_locks w

abbrev pub safe_lock : Meaning
safe_lock = record (one_handler 2 (λ _. 1) (fails_with 0)) { coarse_cut = λ j. true }

-- the category `fail` isn't left, and an instance is cut where no letter is available
abbrev pub failing : List Entry
failing =
    on 1 1 0 (fires_on 0) ∷
    on 2 0 0 (fires_on 0) ∷
    on 3 0 1 [] ∷
    pass 4 3 ∷
    death 5 0 ∷
    pass 6 2 ∷ []

-- ---- AnyWord: a grammar of which every word is a sentence, with a handler for `fail`, which never runs
abbrev pub any_word : Meaning
any_word = record (one_handler 1 (λ _. 1) (λ w. false)) { coarse_cut = λ j. true }

-- the same without the exception for grammars
abbrev pub any_word_finely : Meaning
any_word_finely = record any_word { coarse_cut = λ j. false }

-- an instance that can never fire, before and after its object dies
abbrev pub never_failing : ℕ → ℕ → List Entry
never_failing before after = on 1 0 0 [] ∷ pass 2 before ∷ death 3 0 ∷ pass 4 after ∷ []

-- ---- Two: one property matches the word `a b`, and another is violated by a `b` with no `a` before it
abbrev pub is_ab : List ℕ → Bool
is_ab (zero ∷ suc zero ∷ []) = true
is_ab _ = false

-- whether the word ends in b and has no a
abbrev pub is_early_b : List ℕ → Bool
is_early_b (suc zero ∷ []) = true
is_early_b (suc zero ∷ w) = is_early_b w
is_early_b _ = false

-- whether the category of handler k, which is that of property k, holds
abbrev pub two_test : List ℕ → ℕ → Bool
two_test w zero = is_ab w
two_test w (suc k) = is_early_b w

abbrev pub two : Meaning
two = record not_ab { handlers = 2; property_of = λ k. k; Holds = λ w k. two_test w k ≡ true }

-- After `b` the first property is cut and the second isn't. After `b a` both are.
abbrev pub two_properties : List Entry
two_properties =
    on 1 1 0 (record { instance = binding (Some 0) None None; handler = 1 } ∷ []) ∷
    pass 2 2 ∷
    on 3 0 0 [] ∷
    pass 4 1 ∷
    on 5 0 1 [] ∷
    on 6 1 1 (fires_on 1) ∷ []

-- ---- Again: `a b` matches, and the handler resets the property, so that its category is asked of what follows
-- whether what follows the last reset is `a b`
abbrev pub is_ab_again : List ℕ → Bool
is_ab_again (zero ∷ suc zero ∷ []) = true
is_ab_again (zero ∷ suc zero ∷ w) = is_ab_again w
is_ab_again _ = false

abbrev pub again : Meaning
again = one_handler 2 (λ _. 1) is_ab_again

-- the handler runs a second time
abbrev pub started_anew : List Entry
started_anew = on 1 0 0 [] ∷ on 2 1 0 (fires_on 0) ∷ on 3 0 0 [] ∷ on 4 1 0 (fires_on 0) ∷ []
