-- Tests for the meanings of the examples.
use Rattle.std.proofs.Common.{◌≡◌, ℕ, ◌<◌, Bool, true, inl, List, [], ◌∷◌, ◌++◌, refl, sym, ◌∙◌, lit<}
use Rattle.std.specs.Prelude.{◌==◌, bit_and}
use Rattle.std.specs.List.{AllByRecursion}
use Rattle.std.proofs.lemmas.Bool.{true≢false, eqb-true, eq-eqb}
use Rattle.jm_model.specs.Meanings.{Meaning, IsAvailable, IsCreated}
use Rattle.jm_semantics.specs.ExampleEntries.{one_handler}
use Rattle.jm_semantics.proofs.DecidingAnswers.{Tests}
use Rattle.jm_semantics.proofs.DecidingHistories.{CutTests}

-- whether no parameter of the mask is dead
abbrev pub is_free : ℕ → ℕ → Bool
is_free mask dead = bit_and mask dead == 0

pub free-apart : (mask dead : ℕ) → is_free mask dead ≡ true → bit_and mask dead ≡ 0
free-apart mask dead h = eqb-true (bit_and mask dead) 0 h

pub apart-free : (mask dead : ℕ) → bit_and mask dead ≡ 0 → is_free mask dead ≡ true
apart-free mask dead h = eq-eqb (bit_and mask dead) 0 h

pub append≢nil : (w : List ℕ) (e : ℕ) (u : List ℕ) → w ++ e ∷ u ≡ [] → ⊥
append≢nil [] e u h = cc
append≢nil (x ∷ w) e u h = cc

-- any word may begin a life where there are no creation letters
pub created-anyhow : (m : Meaning) → m.creation ≡ [] → (w : List ℕ) → IsCreated m w
created-anyhow m none [] = tt
created-anyhow m none (e ∷ w) = inl none

module _ (letters : ℕ) (params : ℕ → ℕ) (test : List ℕ → Bool) where
  abbrev pub one_handler_tests : Tests (one_handler letters params test)
  one_handler_tests = record { test = λ w k. test w; holds = λ w k h. h; tested = λ w k h. h }

  -- the letters are all available
  abbrev pub AreAvailable : ℕ → List ℕ → Type 0
  AreAvailable dead u = AllByRecursion (IsAvailable (one_handler letters params test) dead) u

  -- some word of available letters leads into the language
  abbrev pub Leads : List ℕ → ℕ → Type 0
  Leads w dead = (e : ℕ) × (u : List ℕ) × AreAvailable dead (e ∷ u) × (test (w ++ e ∷ u) ≡ true)

  -- a test that tells where some word does
  abbrev pub one_handler_cuts : (alive : List ℕ → ℕ → Bool) → ((w : List ℕ) (dead e : ℕ) (u : List ℕ) → AreAvailable dead (e ∷ u) → test (w ++ e ∷ u) ≡ true → alive w dead ≡ true)
      → ((w : List ℕ) (dead : ℕ) → alive w dead ≡ true → Leads w dead) → CutTests (one_handler letters params test)
  one_handler_cuts alive can leads = record {
    alive = alive;
    cut = λ w dead h k is c. true≢false (sym (can w dead c.next c.rest c.available c.hit.3) ∙ h);
    uncut = λ w dead h cut.
        let l = leads w dead h in
        cut 0 (lit< tt) (record {
          next = l.0;
          rest = l.1;
          handler = 0;
          available = l.2;
          hit = (append≢nil w l.0 l.1, created-anyhow (one_handler letters params test) refl (w ++ l.0 ∷ l.1), lit< tt, l.3);
          owner = refl;
        });
  }

-- a grammar with a handled `fail` over one parameter: an instance is cut where that is dead
abbrev pub grammar_cuts : (letters : ℕ) (test : List ℕ → Bool) → 0 < letters → CutTests (record (one_handler letters (λ _. 1) test) { coarse_cut = λ j. true })
grammar_cuts letters test some = record {
  alive = λ w dead. is_free 1 dead;
  cut = λ w dead h k is e a. true≢false (sym (apart-free 1 dead a.1) ∙ h);
  uncut = λ w dead h none. none 0 (lit< tt) 0 (some, free-apart 1 dead h);
}
