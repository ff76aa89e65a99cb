-- What a sweep leaves, as it goes from the last place to the first.
use Rattle.std.proofs.Common.{◌≡◌, ℕ, zero, suc, ◌+◌, ◌-◌, ◌<◌, ◌≤◌, Bool, true, false, List, [], ◌∷◌, ◌++◌, Option, Some, length, take, get_or, map, filter, refl, sym, ap, ◌∙◌, subst, arith, length-append, append_assoc, append-nil}
use Rattle.std.specs.Prelude.{slice_get, IfSome}
use Rattle.std.specs.List.{swap_remove}
use Rattle.std.specs.List.Sorted.{IsPermutation}
use Rattle.std.proofs.lemmas.Option.{same_Some}
use Rattle.std.proofs.lemmas.List.Sorted.{IsPermutation-refl, IsPermutation-trans, IsPermutation-cons, IsPermutation-to_front}
use Rattle.std.proofs.lemmas.List.{take_at}

module _ {X : Type 0} where
  -- the last of a list, and what stands before it
  last_of : (x : X) (xs : List X) → (front : List X) × (y : X) × (x ∷ xs ≡ front ++ y ∷ []) × (length front ≡ length xs)
  last_of x [] = ([], x, refl, refl)
  last_of x (z ∷ zs) =
      let (front, y, is, same) = last_of z zs in
      (x ∷ front, y, ap (λ (v : List X). x ∷ v) is, ap suc same)

  at_end : (front rest : List X) (y d : X) → get_or (front ++ y ∷ rest) (length front) d ≡ y
  at_end [] rest y d = refl
  at_end (x ∷ front) rest y d = at_end front rest y d

  got_at : (front rest : List X) (y : X) → slice_get (front ++ y ∷ rest) (length front) ≡ Some y
  got_at [] rest y = refl
  got_at (x ∷ front) rest y = got_at front rest y

  -- what stands after the first place, after the first is removed
  behind : (x : X) (rest : List X) → IsPermutation rest (swap_remove (x ∷ rest) 0 x)
  behind x [] = IsPermutation-refl []
  behind x (z ∷ zs) =
      let (front, y, is, same) = last_of z zs in
      let last : get_or (z ∷ zs) (length zs) x ≡ y = rw (is, ← same) (at_end front [] y x) in
      let others : take (length zs) (z ∷ zs) ≡ front = rw is (take_at front (y ∷ []) (length zs) same) in
      let all : length (x ∷ z ∷ zs) - 1 ≡ suc (length zs) = omega arith in
      rw (all, last, others) (rw is (IsPermutation-to_front front y))

  removed_later : (y : X) (xs : List X) (i n : ℕ) (x : X) → length xs ≡ suc n → swap_remove (y ∷ xs) (suc i) x ≡ y ∷ swap_remove xs i x
  removed_later y xs i n x some =
      let all : suc (length xs) - 1 ≡ suc n = omega (arith, some) in
      let rest : length xs - 1 ≡ n = omega (arith, some) in
      rw (all, rest) refl

  -- what stands in front of the place is as before
  removed_behind : (front : List X) (x : X) (rest : List X) → swap_remove (front ++ x ∷ rest) (length front) x ≡ front ++ swap_remove (x ∷ rest) 0 x
  removed_behind [] x rest = refl
  removed_behind (y ∷ front) x rest =
      let some : length (front ++ x ∷ rest) ≡ suc (length front + length rest) = omega (arith, length-append front (x ∷ rest)) in
      removed_later y (front ++ x ∷ rest) (length front) (length front + length rest) x some ∙ ap (λ (v : List X). y ∷ v) (removed_behind front x rest)

  -- The list after the places from this one on were swept: in front of it what was there, and after it what passes the
  -- test of what was there.
  pub record IsSweptTo (test : X → Bool) (old new : List X) (place : ℕ) : Type 0 where
    pub front : List X
    pub before : List X
    pub after : List X
    pub old_is : old ≡ front ++ before
    pub new_is : new ≡ front ++ after
    pub place_is : length front ≡ place
    pub same : IsPermutation (filter test before) after

  pub swept_start : (test : X → Bool) (old : List X) → IsSweptTo test old old (length old)
  swept_start test old = record { front = old; before = []; after = []; old_is = sym (append-nil old); new_is = sym (append-nil old); place_is = refl; same = IsPermutation-refl [] }

  pub swept_end : (test : X → Bool) (old new : List X) (place : ℕ) → IsSweptTo test old new place → place ≤ 0 → IsPermutation (filter test old) new
  swept_end test old new place s none = none_left s.front s.old_is s.new_is (omega (arith, s.place_is))
    where
      none_left : (front : List X) → old ≡ front ++ s.before → new ≡ front ++ s.after → length front ≡ 0 → IsPermutation (filter test old) new
      none_left [] is was e = rw (is, was) s.same
      none_left (x ∷ front) is was e = absurd (omega (arith, e))

  mapped_at : (test : X → Bool) (front rest : List X) (y : X) → slice_get (map test (front ++ y ∷ rest)) (length front) ≡ Some (test y)
  mapped_at test [] rest y = refl
  mapped_at test (x ∷ front) rest y = mapped_at test front rest y

  -- the place before the last one that was swept, and what is there
  record IsNext (test : X → Bool) (old new : List X) (i : ℕ) : Type 0 where
    front : List X
    here : X
    before : List X
    after : List X
    old_is : old ≡ front ++ here ∷ before
    new_is : new ≡ front ++ here ∷ after
    place_is : length front ≡ i
    same : IsPermutation (filter test before) after

  next_of : (test : X → Bool) (old new : List X) (place i : ℕ) → IsSweptTo test old new place → i + 1 ≡ place → IsNext test old new i
  next_of test old new place i s is = at s.front s.old_is s.new_is s.place_is
    where
      at : (front : List X) → old ≡ front ++ s.before → new ≡ front ++ s.after → length front ≡ place → IsNext test old new i
      at [] old_is new_is e = absurd (omega (arith, e, is))
      at (x ∷ xs) old_is new_is e =
          let (front, y, split, same) = last_of x xs in
          record {
            front = front;
            here = y;
            before = s.before;
            after = s.after;
            old_is = old_is ∙ ap (λ (v : List X). v ++ s.before) split ∙ append_assoc front (y ∷ []) s.before;
            new_is = new_is ∙ ap (λ (v : List X). v ++ s.after) split ∙ append_assoc front (y ∷ []) s.after;
            place_is = omega (arith, e, is, same);
            same = s.same;
          }

  -- what is there, and what is left after it goes
  got_in : (new front after : List X) (here : X) (i : ℕ) → new ≡ front ++ here ∷ after → length front ≡ i → slice_get new i ≡ Some here
  got_in new front after here i is e = rw (is, ← e) (got_at front after here)

  mapped_in : (test : X → Bool) (new front after : List X) (here : X) (i : ℕ) → new ≡ front ++ here ∷ after → length front ≡ i → slice_get (map test new) i ≡ Some (test here)
  mapped_in test new front after here i is e = rw (is, ← e) (mapped_at test front after here)

  removed_in : (new front after : List X) (here : X) (i : ℕ) → new ≡ front ++ here ∷ after → length front ≡ i → swap_remove new i here ≡ front ++ swap_remove (here ∷ after) 0 here
  removed_in new front after here i is e = rw (is, ← e) (removed_behind front here after)

  passes : (test : X → Bool) (old new : List X) (i : ℕ) (v : Bool) (n : IsNext test old new i) → slice_get (map test new) i ≡ Some v → test n.here ≡ v
  passes test old new i v n got =
      same_Some (test n.here) v (sym (mapped_in test new n.front n.after n.here i n.new_is n.place_is) ∙ got)

  -- what passes the test stays
  pub swept_keep : (test : X → Bool) (old new : List X) (place i : ℕ) → IsSweptTo test old new place → i + 1 ≡ place → slice_get (map test new) i ≡ Some true → IsSweptTo test old new i
  swept_keep test old new place i s is got =
      let n = next_of test old new place i s is in
      let passing : test n.here ≡ true = passes test old new i true n got in
      record {
        front = n.front;
        before = n.here ∷ n.before;
        after = n.here ∷ n.after;
        old_is = n.old_is;
        new_is = n.new_is;
        place_is = n.place_is;
        same = rw passing (IsPermutation-cons n.here (filter test n.before) n.after n.same);
      }

  -- and what doesn't goes
  pub swept_drop : (test : X → Bool) (old new newer : List X) (place i : ℕ) (o : Option X) → IsSweptTo test old new place → i + 1 ≡ place → slice_get (map test new) i ≡ Some false → o ≡ slice_get new i
      → IfSome o (λ y. newer ≡ swap_remove new i y) → IsSweptTo test old newer i
  swept_drop test old new newer place i o s is got there removed =
      let n = next_of test old new place i s is in
      let failing : test n.here ≡ false = passes test old new i false n got in
      let at = got_in new n.front n.after n.here i n.new_is n.place_is in
      let gone : newer ≡ swap_remove new i n.here = subst (λ (v : Option X). IfSome v (λ y. newer ≡ swap_remove new i y)) (there ∙ at) removed in
      let left = removed_in new n.front n.after n.here i n.new_is n.place_is in
      record {
        front = n.front;
        before = n.here ∷ n.before;
        after = swap_remove (n.here ∷ n.after) 0 n.here;
        old_is = n.old_is;
        new_is = gone ∙ left;
        place_is = n.place_is;
        same = rw failing (IsPermutation-trans (filter test n.before) n.after (swap_remove (n.here ∷ n.after) 0 n.here) n.same (behind n.here n.after));
      }

  -- the places in front are there
  pub swept_within : (test : X → Bool) (old new : List X) (place : ℕ) → IsSweptTo test old new place → place ≤ length new
  swept_within test old new place s = rw s.new_is (omega (arith, length-append s.front s.after, s.place_is))

  -- what passes the test at all places of a stretch stays
  pub swept_jump : (test : X → Bool) (old new : List X) (place n : ℕ) → IsSweptTo test old new place → n ≤ place
      → ((k : ℕ) → place - n ≤ k → k < place → slice_get (map test new) k ≡ Some true) → IsSweptTo test old new (place - n)
  swept_jump test old new place zero s within all = let same : place ≡ place - 0 = omega arith in subst (λ (i : ℕ). IsSweptTo test old new i) same s
  swept_jump test old new place (suc n) s within all =
      let sooner = swept_jump test old new place n s (omega (arith, within)) (λ k from below. all k (omega (arith, from)) below) in
      swept_keep test old new (place - n) (place - suc n) sooner (omega (arith, within)) (all (place - suc n) (omega arith) (omega (arith, within)))
