-- What is needed of a specification to be hit again, and when an instance is cut.
use Rattle.std.proofs.Common.{◌≡◌, ℕ, ◌<◌, List, [], ◌∷◌, min, bit_and, bit_or, refl, sym, ◌∙◌, ap, subst, arith}
use Rattle.std.specs.Prelude.{◌↔◌}
use Rattle.std.specs.Int.{bit_at}
use Rattle.std.specs.List.{AllByRecursion}
use Rattle.std.proofs.lemmas.Nat.Bits.{bit_at_and, bit_at_or, bit_at-zero, same_from_bits}
use Rattle.jm_model.specs.Meanings.{Meaning, IsAvailable, CanHit}
use Rattle.jm_semantics.specs.Families.{params_of, IsNeeded}

-- ---- masks that are apart

apart_bit : (a d p : ℕ) → bit_and a d ≡ 0 → min (bit_at a p) (bit_at d p) ≡ 0
apart_bit a d p h = sym (bit_at_and a d p) ∙ ap (λ n. bit_at n p) h ∙ bit_at-zero p

from_bits : (a d : ℕ) → ((p : ℕ) → min (bit_at a p) (bit_at d p) ≡ 0) → bit_and a d ≡ 0
from_bits a d h = same_from_bits (bit_and a d) 0 (λ p. bit_at_and a d p ∙ h p ∙ sym (bit_at-zero p))

pub none_apart : (d : ℕ) → bit_and 0 d ≡ 0
none_apart d = from_bits 0 d (λ p. rw (bit_at-zero p) (omega arith))

both_apart : (a b d : ℕ) → bit_and a d ≡ 0 → bit_and b d ≡ 0 → bit_and (bit_or a b) d ≡ 0
both_apart a b d x y =
    from_bits (bit_or a b) d (λ p.
    let u = apart_bit a d p x in
    let v = apart_bit b d p y in
    rw (bit_at_or a b p) (omega (arith, u, v)))

first_apart : (a b d : ℕ) → bit_and (bit_or a b) d ≡ 0 → bit_and a d ≡ 0
first_apart a b d x = from_bits a d (λ p. let u = rw (bit_at_or a b p) at (apart_bit (bit_or a b) d p x) in omega (arith, u))

second_apart : (a b d : ℕ) → bit_and (bit_or a b) d ≡ 0 → bit_and b d ≡ 0
second_apart a b d x = from_bits b d (λ p. let u = rw (bit_at_or a b p) at (apart_bit (bit_or a b) d p x) in omega (arith, u))

-- ---- a word of available letters is one whose parameters are alive

module _ (m : Meaning) (dead : ℕ) where
  letters_there : (u : List ℕ) → AllByRecursion (IsAvailable m dead) u → AllByRecursion (λ e. e < m.letters) u
  letters_there [] h = h
  letters_there (e ∷ u) h = (h.0.0, letters_there u h.1)

  params_apart : (u : List ℕ) → AllByRecursion (IsAvailable m dead) u → bit_and (params_of m u) dead ≡ 0
  params_apart [] h = none_apart dead
  params_apart (e ∷ u) h = both_apart (m.params e) (params_of m u) dead h.0.1 (params_apart u h.1)

  all_available : (u : List ℕ) → AllByRecursion (λ e. e < m.letters) u → bit_and (params_of m u) dead ≡ 0 → AllByRecursion (IsAvailable m dead) u
  all_available [] h apart = h
  all_available (e ∷ u) h apart =
      ((h.0, first_apart (m.params e) (params_of m u) dead apart), all_available u h.1 (second_apart (m.params e) (params_of m u) dead apart))

  -- a property can be hit again where what is needed has no dead parameter
  pub can_hit_needed : (w : List ℕ) (j : ℕ) → ((k : ℕ) → m.property_of k ≡ j) → CanHit m w dead j ↔ ((mask : ℕ) × IsNeeded m w mask × (bit_and mask dead ≡ 0))
  can_hit_needed w j one = (
    λ h. (
      params_of m (h.next ∷ h.rest),
      record {
        next = h.next;
        rest = h.rest;
        handler = h.handler;
        letters = letters_there (h.next ∷ h.rest) h.available;
        hit = h.hit;
        params = refl;
      },
      params_apart (h.next ∷ h.rest) h.available,
    ),
    λ h. let need = h.1 in record {
      next = need.next;
      rest = need.rest;
      handler = need.handler;
      available = all_available (need.next ∷ need.rest) need.letters (subst (λ (n : ℕ). bit_and n dead ≡ 0) need.params h.2);
      hit = need.hit;
      owner = one need.handler;
    },
  )
