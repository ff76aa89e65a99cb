-- What the laws use of a hit and a cut, and all that is said here of the inside of a `Meaning`.
use Rattle.std.proofs.Common.{ℕ, true, false, List, [], ◌∷◌, ◌++◌, refl, subst}
use Rattle.std.specs.Prelude.{MatchBool}
use Rattle.std.specs.List.{AllByRecursion}
use Rattle.std.proofs.lemmas.List.{append_assoc}
use Rattle.jm_model.specs.Meanings.{Meaning, IsHit, IsAvailable, CanHit, IsPropertyCut, IsCutWord}
use Rattle.jm_semantics.proofs.MaskLemmas.{IsWithin, apart-within}

module _ (m : Meaning) where
  -- ---- more dead objects
  -- what is available when more is dead was available before
  available-fewer : (fewer more e : ℕ) → IsWithin fewer more → IsAvailable m more e → IsAvailable m fewer e
  available-fewer fewer more e h a = (a.0, apart-within (m.params e) fewer more h a.1)

  all_available-fewer : (fewer more : ℕ) (u : List ℕ) → IsWithin fewer more → AllByRecursion (IsAvailable m more) u → AllByRecursion (IsAvailable m fewer) u
  all_available-fewer fewer more [] h a = a
  all_available-fewer fewer more (e ∷ u) h a = (available-fewer fewer more e h a.0, all_available-fewer fewer more u h a.1)

  property_cut-more_dead : (w : List ℕ) (fewer more j : ℕ) → IsWithin fewer more → IsPropertyCut m w fewer j → IsPropertyCut m w more j
  property_cut-more_dead w fewer more j h =
      elim (m.coarse_cut j) as (λ v. MatchBool v ((e : ℕ) → IsAvailable m fewer e → ⊥) (CanHit m w fewer j → ⊥) → MatchBool v ((e : ℕ) → IsAvailable m more e → ⊥) (CanHit m w more j → ⊥)) [
        | true ↦ λ none e a. none e (available-fewer fewer more e h a)
        | false ↦ λ never c. never (record {
          next = c.next;
          rest = c.rest;
          handler = c.handler;
          available = all_available-fewer fewer more (c.next ∷ c.rest) h c.available;
          hit = c.hit;
          owner = c.owner;
        })
      ]

  -- a cut word is cut when more is dead
  pub cut-more_dead : (w : List ℕ) (fewer more : ℕ) → IsWithin fewer more → IsCutWord m w fewer → IsCutWord m w more
  cut-more_dead w fewer more h cut k is = property_cut-more_dead w fewer more (m.property_of k) h (cut k is)

  -- ---- one available letter more
  property_cut-letter : (w : List ℕ) (dead e j : ℕ) → IsAvailable m dead e → IsPropertyCut m w dead j → IsPropertyCut m (w ++ e ∷ []) dead j
  property_cut-letter w dead e j a =
      elim (m.coarse_cut j) as (λ v. MatchBool v ((d : ℕ) → IsAvailable m dead d → ⊥) (CanHit m w dead j → ⊥) → MatchBool v ((d : ℕ) → IsAvailable m dead d → ⊥) (CanHit m (w ++ e ∷ []) dead j → ⊥)) [
        | true ↦ λ none. none
        | false ↦ λ never c. never (record {
          next = e;
          rest = c.next ∷ c.rest;
          handler = c.handler;
          available = (a, c.available);
          hit = subst (λ u. IsHit m u c.handler) (append_assoc w (e ∷ []) (c.next ∷ c.rest)) c.hit;
          owner = c.owner;
        })
      ]

  -- a cut word is cut after an available letter
  pub cut-letter : (w : List ℕ) (dead e : ℕ) → IsAvailable m dead e → IsCutWord m w dead → IsCutWord m (w ++ e ∷ []) dead
  cut-letter w dead e a cut k is = property_cut-letter w dead e (m.property_of k) a (cut k is)

  property_cut-no_hit : (w : List ℕ) (dead e k : ℕ) → IsAvailable m dead e → IsPropertyCut m w dead (m.property_of k) → IsHit m (w ++ e ∷ []) k → ⊥
  property_cut-no_hit w dead e k a =
      elim (m.coarse_cut (m.property_of k)) as (λ v. MatchBool v ((d : ℕ) → IsAvailable m dead d → ⊥) (CanHit m w dead (m.property_of k) → ⊥) → IsHit m (w ++ e ∷ []) k → ⊥) [
        | true ↦ λ none _. none e a
        | false ↦ λ never h. never (record { next = e; rest = []; handler = k; available = (a, tt); hit = h; owner = refl })
      ]

  -- an available letter hits nothing after a cut word
  pub cut-no_hit : (w : List ℕ) (dead e k : ℕ) → IsAvailable m dead e → IsCutWord m w dead → IsHit m (w ++ e ∷ []) k → ⊥
  cut-no_hit w dead e k a cut h = property_cut-no_hit w dead e k a (cut k h.2) h
