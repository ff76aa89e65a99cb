use Rattle.std.proofs.Common.{◌≡◌, ℕ, zero, suc, Bool, true, false, inl, inr, List, [], ◌∷◌, ◌++◌, refl, sym, ◌∙◌, subst, lit<, arith}
use Rattle.std.specs.Prelude.{◌&&◌, ◌||◌, None, Some}
use Rattle.std.proofs.lemmas.Bool.{false≢true, true≢false, and_parts, and_from, or_left, or_right, or_cases}
use Rattle.jm_model.specs.Meanings.{CanHit, IsCreated, IsPropertyCut, IsCutWord}
use Rattle.jm_semantics.specs.Legality.{IsLegal}
use Rattle.jm_semantics.specs.ExampleEntries.{binding, fires}
use Rattle.jm_semantics.specs.SmallExamples.{tick_params, is_some_word, tick, full_tick, ticking, both_bound, tick_twice, firing_in_order, is_not_ab, not_ab, back_again, quiet, silence, is_blind_after, has_next, created_has_next, blind_next, fires_on, fails_with, safe_lock, failing, any_word, any_word_finely, never_failing, is_ab, is_early_b, two_test, two, two_properties, is_ab_again, again, started_anew}
use Rattle.jm_semantics.proofs.ListLemmas.{Contains-nil, Contains-head, Contains-cons_cases}
use Rattle.jm_semantics.proofs.DecidingAnswers.{Tests}
use Rattle.jm_semantics.proofs.DecidingHistories.{CutTests, legal-tested}
use Rattle.jm_semantics.proofs.ExampleLemmas.{is_free, free-apart, apart-free, append≢nil, created-anyhow, one_handler_tests, one_handler_cuts, grammar_cuts}

-- ---- Tick and NotAB
pub ticking-legal : IsLegal tick (ticking (fires (binding None None None) ∷ both_bound))
ticking-legal = legal-tested tick (one_handler_tests 2 tick_params is_some_word) None (ticking (fires (binding None None None) ∷ both_bound)) refl

abbrev full_tick_tests : Tests full_tick
full_tick_tests = record { test = λ w k. is_some_word w; holds = λ w k h. h; tested = λ w k h. h }

pub full_ticking-legal : IsLegal full_tick (ticking both_bound)
full_ticking-legal = legal-tested full_tick full_tick_tests None (ticking both_bound) refl

abbrev tick_twice_tests : Tests tick_twice
tick_twice_tests = record { test = λ w k. is_some_word w; holds = λ w k h. h; tested = λ w k h. h }

pub firing_in_order-legal : IsLegal tick_twice firing_in_order
firing_in_order-legal = legal-tested tick_twice tick_twice_tests None firing_in_order refl

pub back_again-legal : IsLegal not_ab back_again
back_again-legal = legal-tested not_ab (one_handler_tests 2 (λ _. 1) is_not_ab) None back_again refl

-- ---- Quiet: every instance is cut
abbrev quiet_tests : Tests quiet
quiet_tests = record { test = λ w k. is_not_ab w; holds = λ w k h. h; tested = λ w k h. h }

abbrev quiet_cuts : CutTests quiet
quiet_cuts = record {
  alive = λ w dead. false;
  cut = λ w dead h k is. absurd (omega (arith, is));
  uncut = λ w dead h cut. false≢true h;
}

pub silence-legal : IsLegal quiet silence
silence-legal = legal-tested quiet quiet_tests (Some quiet_cuts) silence refl

-- ---- HasNext
-- two uses in a row match, whatever came before
blind-twice : (asked : Bool) (w : List ℕ) → is_blind_after asked (w ++ 1 ∷ 1 ∷ []) ≡ true
blind-twice asked [] = refl
blind-twice asked (zero ∷ w) = blind-twice true w
blind-twice asked (suc e ∷ []) = refl
blind-twice asked (suc e ∷ x ∷ w) = blind-twice false (x ∷ w)

abbrev free_word : List ℕ → ℕ → Bool
free_word w dead = is_free 1 dead

abbrev has_next_cuts : CutTests has_next
has_next_cuts = one_handler_cuts 2 (λ _. 1) (is_blind_after false) free_word
    (λ w dead e u a h. apart-free 1 dead a.0.1)
    (λ w dead h. (1, 1 ∷ [], ((lit< tt, free-apart 1 dead h), ((lit< tt, free-apart 1 dead h), tt)), blind-twice false w))

pub blind_next-legal : IsLegal has_next (blind_next (fires_on 0) 2)
blind_next-legal = legal-tested has_next (one_handler_tests 2 (λ _. 1) (is_blind_after false)) (Some has_next_cuts) (blind_next (fires_on 0) 2) refl

abbrev created_tests : Tests created_has_next
created_tests = record { test = λ w k. is_blind_after false w; holds = λ w k h. h; tested = λ w k h. h }

-- whether the word begins with a hasnext, or may still do so
abbrev may_be_created : List ℕ → Bool
may_be_created [] = true
may_be_created (zero ∷ w) = true
may_be_created (suc e ∷ w) = false

created-begins : (w : List ℕ) (e : ℕ) (u : List ℕ) → IsCreated created_has_next (w ++ e ∷ u) → may_be_created w ≡ true
created-begins [] e u h = refl
created-begins (zero ∷ w) e u h = refl
created-begins (suc x ∷ w) e u (inl none) = absurd (let no : 0 ∷ [] ≡ [] = none in cc)
created-begins (suc x ∷ w) e u (inr some) =
    elim (Contains-cons_cases 0 [] (suc x) some) [ inl same ↦ absurd (omega (arith, same)) | inr none ↦ absurd (Contains-nil (suc x) none) ]

created-can : (w : List ℕ) (dead : ℕ) → (is_free 1 dead && may_be_created w) ≡ true → CanHit created_has_next w dead 0
created-can [] dead h =
    let free = free-apart 1 dead (and_parts (is_free 1 dead) true h).0 in
    record {
      next = 0;
      rest = 1 ∷ 1 ∷ [];
      handler = 0;
      available = ((lit< tt, free), ((lit< tt, free), ((lit< tt, free), tt)));
      hit = ((λ e. cc), inr (Contains-head 0 []), lit< tt, refl);
      owner = refl;
    }
created-can (zero ∷ w) dead h =
    let free = free-apart 1 dead (and_parts (is_free 1 dead) true h).0 in
    record {
      next = 1;
      rest = 1 ∷ [];
      handler = 0;
      available = ((lit< tt, free), ((lit< tt, free), tt));
      hit = ((λ e. cc), inr (Contains-head 0 []), lit< tt, blind-twice true w);
      owner = refl;
    }
created-can (suc e ∷ w) dead h = absurd (false≢true (and_parts (is_free 1 dead) false h).1)

abbrev created_cuts : CutTests created_has_next
created_cuts = record {
  alive = λ w dead. is_free 1 dead && may_be_created w;
  cut = λ w dead h k is c.
      true≢false (sym (and_from (is_free 1 dead) (may_be_created w) (apart-free 1 dead c.available.0.1) (created-begins w c.next c.rest c.hit.1)) ∙ h);
  uncut = λ w dead h cut. cut 0 (lit< tt) (created-can w dead h);
}

pub created_blind_next-legal : IsLegal created_has_next (blind_next [] 1)
created_blind_next-legal = legal-tested created_has_next created_tests (Some created_cuts) (blind_next [] 1) refl

-- ---- grammars with a handled `fail`
abbrev safe_lock_tests : Tests safe_lock
safe_lock_tests = record { test = λ w k. fails_with 0 w; holds = λ w k h. h; tested = λ w k h. h }

pub failing-legal : IsLegal safe_lock failing
failing-legal = legal-tested safe_lock safe_lock_tests (Some (grammar_cuts 2 (fails_with 0) (lit< tt))) failing refl

abbrev any_word_tests : Tests any_word
any_word_tests = record { test = λ w k. false; holds = λ w k h. h; tested = λ w k h. h }

pub never_failing-legal : IsLegal any_word (never_failing 2 1)
never_failing-legal = legal-tested any_word any_word_tests (Some (grammar_cuts 1 (λ w. false) (lit< tt))) (never_failing 2 1) refl

abbrev any_word_finely_tests : Tests any_word_finely
any_word_finely_tests = record { test = λ w k. false; holds = λ w k h. h; tested = λ w k h. h }

abbrev any_word_finely_cuts : CutTests any_word_finely
any_word_finely_cuts = record {
  alive = λ w dead. false;
  cut = λ w dead h k is c. false≢true c.hit.3;
  uncut = λ w dead h cut. false≢true h;
}

pub never_failing_finely-legal : IsLegal any_word_finely (never_failing 0 0)
never_failing_finely-legal = legal-tested any_word_finely any_word_finely_tests (Some any_word_finely_cuts) (never_failing 0 0) refl

-- ---- Two
abbrev two_tests : Tests two
two_tests = record { test = two_test; holds = λ w k h. h; tested = λ w k h. h }

-- whether w may still become `a b`, and whether it has no a
abbrev is_ab_open : List ℕ → Bool
is_ab_open [] = true
is_ab_open (zero ∷ []) = true
is_ab_open _ = false

abbrev has_no_a : List ℕ → Bool
has_no_a [] = true
has_no_a (suc zero ∷ w) = has_no_a w
has_no_a _ = false

ab-open : (w : List ℕ) (e : ℕ) (u : List ℕ) → is_ab (w ++ e ∷ u) ≡ true → is_ab_open w ≡ true
ab-open [] e u h = refl
ab-open (suc x ∷ w) e u h = absurd (false≢true h)
ab-open (zero ∷ []) e u h = refl
ab-open (zero ∷ zero ∷ w) e u h = absurd (false≢true h)
ab-open (zero ∷ suc (suc x) ∷ w) e u h = absurd (false≢true h)
ab-open (zero ∷ suc zero ∷ []) e u h = absurd (false≢true h)
ab-open (zero ∷ suc zero ∷ x ∷ w) e u h = absurd (false≢true h)

early-open : (w : List ℕ) (e : ℕ) (u : List ℕ) → is_early_b (w ++ e ∷ u) ≡ true → has_no_a w ≡ true
early-open [] e u h = refl
early-open (zero ∷ w) e u h = absurd (false≢true h)
early-open (suc (suc x) ∷ w) e u h = absurd (false≢true h)
early-open (suc zero ∷ []) e u h = refl
early-open (suc zero ∷ x ∷ w) e u h = early-open (x ∷ w) e u h

early-next : (w : List ℕ) → has_no_a w ≡ true → is_early_b (w ++ 1 ∷ []) ≡ true
early-next [] h = refl
early-next (zero ∷ w) h = absurd (false≢true h)
early-next (suc (suc x) ∷ w) h = absurd (false≢true h)
early-next (suc zero ∷ []) h = refl
early-next (suc zero ∷ x ∷ w) h = early-next (x ∷ w) h

two-cut : (w : List ℕ) (dead : ℕ) → (is_free 1 dead && (is_ab_open w || has_no_a w)) ≡ false → IsCutWord two w dead
two-cut w dead h zero is c =
    let ab : is_ab (w ++ c.next ∷ c.rest) ≡ true = subst (λ k. two_test (w ++ c.next ∷ c.rest) k ≡ true) c.owner c.hit.3 in
    true≢false (sym (and_from (is_free 1 dead) (is_ab_open w || has_no_a w) (apart-free 1 dead c.available.0.1) (or_left (is_ab_open w) (has_no_a w) (ab-open w c.next c.rest ab))) ∙ h)
two-cut w dead h (suc k) is c =
    let early : is_early_b (w ++ c.next ∷ c.rest) ≡ true = subst (λ k. two_test (w ++ c.next ∷ c.rest) k ≡ true) c.owner c.hit.3 in
    true≢false (sym (and_from (is_free 1 dead) (is_ab_open w || has_no_a w) (apart-free 1 dead c.available.0.1) (or_right (is_ab_open w) (has_no_a w) (early-open w c.next c.rest early))) ∙ h)

ab-can : (w : List ℕ) (dead : ℕ) → is_free 1 dead ≡ true → is_ab_open w ≡ true → CanHit two w dead 0
ab-can [] dead free h = record {
  next = 0;
  rest = 1 ∷ [];
  handler = 0;
  available = ((lit< tt, free-apart 1 dead free), ((lit< tt, free-apart 1 dead free), tt));
  hit = ((λ e. cc), inl refl, lit< tt, refl);
  owner = refl;
}
ab-can (zero ∷ []) dead free h = record {
  next = 1;
  rest = [];
  handler = 0;
  available = ((lit< tt, free-apart 1 dead free), tt);
  hit = ((λ e. cc), inl refl, lit< tt, refl);
  owner = refl;
}
ab-can (zero ∷ x ∷ w) dead free h = absurd (false≢true h)
ab-can (suc x ∷ w) dead free h = absurd (false≢true h)

early-can : (w : List ℕ) (dead : ℕ) → is_free 1 dead ≡ true → has_no_a w ≡ true → CanHit two w dead 1
early-can w dead free h = record {
  next = 1;
  rest = [];
  handler = 1;
  available = ((lit< tt, free-apart 1 dead free), tt);
  hit = (append≢nil w 1 [], created-anyhow two refl (w ++ 1 ∷ []), lit< tt, early-next w h);
  owner = refl;
}

two-uncut : (w : List ℕ) (dead : ℕ) → (is_free 1 dead && (is_ab_open w || has_no_a w)) ≡ true → IsCutWord two w dead → ⊥
two-uncut w dead h cut =
    let hs = and_parts (is_free 1 dead) (is_ab_open w || has_no_a w) h in
    elim (or_cases (is_ab_open w) (has_no_a w) hs.1) [
      | inl open_ab ↦ cut 0 (lit< tt) (ab-can w dead hs.0 open_ab)
      | inr no_a ↦ cut 1 (lit< tt) (early-can w dead hs.0 no_a)
    ]

abbrev two_cuts : CutTests two
two_cuts = record { alive = λ w dead. is_free 1 dead && (is_ab_open w || has_no_a w); cut = two-cut; uncut = two-uncut }

pub two_properties-legal : IsLegal two two_properties
two_properties-legal = legal-tested two two_tests (Some two_cuts) two_properties refl

-- after the first `b` the first property is cut, and the second isn't
pub first_property-cut : IsPropertyCut two (1 ∷ []) 0 0
first_property-cut c =
    let ab : is_ab (1 ∷ c.next ∷ c.rest) ≡ true = subst (λ k. two_test (1 ∷ c.next ∷ c.rest) k ≡ true) c.owner c.hit.3 in
    false≢true ab

pub second_property-uncut : IsPropertyCut two (1 ∷ []) 0 1 → ⊥
second_property-uncut cut = cut (early-can (1 ∷ []) 0 refl refl)

-- ---- Again
pub started_anew-legal : IsLegal again started_anew
started_anew-legal = legal-tested again (one_handler_tests 2 (λ _. 1) is_ab_again) None started_anew refl
