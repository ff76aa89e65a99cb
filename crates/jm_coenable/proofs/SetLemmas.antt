use Rattle.std.proofs.Common.{ℕ, zero, suc, ◌≡◌, ◌<◌, ◌≤◌, ◌-◌, ◌↔◌, ◌⊎◌, inl, inr, Bool, true, false, ◌||◌, List, [], ◌∷◌, ◌++◌, length, get_or, set, Contains, refl, sym, ap, subst, ◌∙◌, arith}
use Rattle.std.proofs.lemmas.Bool.{false≢true}
use Rattle.std.proofs.lemmas.Bool.Decides.{eqb_tells}
use Rattle.std.proofs.lemmas.List.{get_or-set_same, get_or-set_other, get_or_default, set-get_or}
use Rattle.std.proofs.lemmas.List.Sums.{sum_by-set}
use Rattle.std.proofs.Math.ListN.{length-set}
use Rattle.jm_coenable.specs.Needs.{set_at}
use Rattle.jm_coenable.specs.Rounds.{room_of, IsPut, IsPart}

-- ---- one member more

-- nothing is put
pub put_same : (old : List (List ℕ)) (wanted : Bool) (place member : ℕ) → (wanted ≡ true → Contains (set_at old place) member) → IsPut old old wanted place member false
put_same old wanted place member there = record {
  count = refl;
  only = λ p m h. inl h;
  here = there;
  less = λ e. absurd (false≢true e);
  same = λ _. refl;
}

-- what was found is there, and is put back
pub put_back : (old : List (List ℕ)) (wanted : Bool) (place member : ℕ) (found : List ℕ) → found ≡ get_or old place found → place < length old → Contains found member
    → IsPut old (set old place found) wanted place member false
put_back old wanted place member found is lt there =
    let e : set old place found ≡ old = ap (λ (s : List ℕ). set old place s) is ∙ set-get_or old place found in
    let at : get_or old place [] ≡ found = get_or_default old place [] found lt ∙ sym is in
    subst (λ (new : List (List ℕ)). IsPut old new wanted place member false) (sym e)
    (put_same old wanted place member (λ _. subst (λ (s : List ℕ). Contains s member) (sym at) there))

-- a member that wasn't there is put
pub put_more : (old : List (List ℕ)) (wanted : Bool) (place member : ℕ) (found new : List ℕ) → found ≡ get_or old place found → place < length old → wanted ≡ true
    → ((other : ℕ) → Contains new other ↔ (Contains found other ⊎ (other ≡ member))) → length found < length new → length new ≤ 256
    → IsPut old (set old place new) wanted place member true
put_more old wanted place member found new is lt is_wanted added longer few =
    let at : get_or old place [] ≡ found = get_or_default old place [] found lt ∙ sym is in
    let here : get_or (set old place new) place [] ≡ new = get_or-set_same old place new [] lt in
    record {
      count = length-set old place new;
      only = λ p m h. elim (eqb_tells p place) [
        | inl same ↦
            let k : Contains new m = subst (λ (s : List ℕ). Contains s m) (ap (λ (q : ℕ). get_or (set old place new) q []) same.1 ∙ here) h in
            elim ((added m).0 k) [
              | inl before ↦ inl (subst (λ (s : List ℕ). Contains s m) (sym at ∙ ap (λ (q : ℕ). get_or old q []) (sym same.1)) before)
              | inr e ↦ inr (is_wanted, same.1, e)
            ]
        | inr differs ↦ inl (subst (λ (s : List ℕ). Contains s m) (get_or-set_other old place p new [] differs.1) h)
      ];
      here = λ _. subst (λ (s : List ℕ). Contains s member) (sym here) ((added member).1 (inr refl));
      less = λ _. omega (arith, sum_by-set (λ (s : List ℕ). 256 - length s) old place new [] lt, ap (λ (s : List ℕ). length s) at);
      same = λ e. absurd (false≢true (sym e));
    }

pub empty_more : (sets : List (List ℕ)) (set : List ℕ) → ((p m : ℕ) → Contains (get_or sets p []) m → ⊥) → ((m : ℕ) → Contains set m → ⊥)
    → (p m : ℕ) → Contains (get_or (sets ++ set ∷ []) p []) m → ⊥
empty_more [] set none empty zero m h = empty m h
empty_more [] set none empty (suc p) m h = omega (arith, h.1)
empty_more (s ∷ sets) set none empty zero m h = none zero m h
empty_more (s ∷ sets) set none empty (suc p) m h = empty_more sets set (λ q. none (suc q)) empty p m h

-- ---- parts of a round

pub part_map : (S C D : List (List ℕ) → Type 0) (a b : List (List ℕ)) (changed : Bool) → IsPart S C a b changed → (C b → D b) → IsPart S D a b changed
part_map S C D a b changed part weaken = record {
  count = part.count;
  sound = part.sound;
  room = part.room;
  less = part.less;
  same = part.same;
  closed = λ e. weaken (part.closed e);
}

put_room : (a b : List (List ℕ)) (wanted : Bool) (place member : ℕ) (changed : Bool) → IsPut a b wanted place member changed → room_of b ≤ room_of a
put_room a b wanted place member true put = omega (arith, put.less refl)
put_room a b wanted place member false put = omega (arith, ap (λ (s : List (List ℕ)). room_of s) (put.same refl))

pub part_put : (S D : List (List ℕ) → Type 0) (a b : List (List ℕ)) (wanted : Bool) (place member : ℕ) (changed : Bool) → IsPut a b wanted place member changed → (S a → S b)
    → (b ≡ a → D b) → IsPart S D a b changed
part_put S D a b wanted place member changed put sound closed = record {
  count = put.count;
  sound = sound;
  room = put_room a b wanted place member changed put;
  less = put.less;
  same = put.same;
  closed = λ e. closed (put.same e);
}

pub part_then : (S C D E : List (List ℕ) → Type 0) (a b c : List (List ℕ)) (changed more : Bool) → IsPart S C a b changed → IsPart S D b c more → (C c → D c → E c)
    → IsPart S E a c (changed || more)
part_then S C D E a b c true more p q join = record {
  count = q.count ∙ p.count;
  sound = λ s. q.sound (p.sound s);
  room = omega (arith, p.room, q.room);
  less = λ _. omega (arith, p.less refl, q.room);
  same = λ e. absurd (false≢true (sym e));
  closed = λ e. absurd (false≢true (sym e));
}
part_then S C D E a b c false more p q join = record {
  count = q.count ∙ p.count;
  sound = λ s. q.sound (p.sound s);
  room = omega (arith, p.room, q.room);
  less = λ e. omega (arith, p.room, q.less e);
  same = λ e. q.same e ∙ p.same refl;
  closed = λ e. join (subst (λ (s : List (List ℕ)). C s) (sym (q.same e)) (p.closed refl)) (q.closed e);
}
