-- What is known once all seats are joined into one.
use Rattle.std.proofs.Common.{◌≡◌, ℕ, zero, suc, ◌+◌, ◌<◌, ◌≤◌, Bool, true, false, cond, eqb, ltb, List, [], ◌∷◌, ◌++◌, length, Option, Some, None, slice_get, sym, refl, ap, ◌∙◌, subst, ⊎_elim, arith}
use Rattle.std.proofs.lemmas.Bool.Decides.{nat_tests}
use mathlib.Core.Logic.{dite}
use mathlib.Core.Option.{some, some-injective}
use mathlib.Core.List.{IsPrefix}
use native.Mathlib.Decide.{ℕ_discrete, dec_le}
use lib.ListN.{get_elem?}
use Rattle.atomic_table.specs.Table.{Final, Seen}
use Rattle.jm_turn.specs.declared.rule.View.{View}
use Rattle.jm_turn.specs.declared.rule.Joined.{Joined}
use Rattle.jm_turn.specs.Lists.{total, times, entries_by, once_below}
use Rattle.jm_turn.specs.Views.{joined_numbers, holders_of, number_at, numbers_in}
use Rattle.jm_turn.specs.Rule.{AllKnow, AllBelow, Fits, Homes, IsInSlot, IsHeld, RuleHolds}
use Rattle.jm_turn.specs.TableSeats.{HasJoined, IsRecorded, IsValueOf}
use Rattle.std.specs.Option.{IsSome, option_to_list}
use Rattle.jm_turn.proofs.Sums.{times_self, total_one, total_two, total_some, once_below_most, once_below_in, one_if_true}

-- how many are below m
abbrev below : ℕ → List ℕ → ℕ
below m [] = 0
below m (x ∷ xs) = cond (ltb x m) 1 0 + below m xs

one_below : (x m a b t : ℕ) → a ≡ b + t → cond (ltb x (m + 1)) 1 0 + a ≡ cond (ltb x m) 1 0 + b + (cond (eqb x m) 1 0 + t)
one_below x m a b t e = grind (arith, nat_tests)

below_more : (m : ℕ) (xs : List ℕ) → below (m + 1) xs ≡ below m xs + times m xs
below_more m [] = refl
below_more m (x ∷ xs) = one_below x m (below (m + 1) xs) (below m xs) (times m xs) (below_more m xs)

none_below : (xs : List ℕ) → below 0 xs ≡ 0
none_below [] = refl
none_below (x ∷ xs) = let e : ltb x 0 ≡ false = grind (arith, nat_tests) in let h = none_below xs in ap (λ (b : Bool). cond b 1 0 + below 0 xs) e ∙ omega arith

below_suc : (m : ℕ) (xs : List ℕ) → below (suc m) xs ≡ below m xs + times m xs
below_suc m xs = let e : suc m ≡ m + 1 = omega arith in ap (λ (k : ℕ). below k xs) e ∙ below_more m xs

module _ (xs : List ℕ) (once : (n : ℕ) → times n xs ≤ 1) where
  below_most : (m : ℕ) → below m xs ≤ m
  below_most zero = let h = none_below xs in omega arith
  below_most (suc m) = let h = below_suc m xs in let k = below_most m in let o = once m in omega arith

  below_missing : (n m : ℕ) → n < m → times n xs ≡ 0 → below m xs + 1 ≤ m
  below_missing n zero less none_there = absurd (omega arith)
  below_missing n (suc m) less none_there = let h = below_suc m xs in let k = below_most m in let o = once m in dite (ℕ_discrete n m)
      (λ e. let z : times m xs ≡ 0 = ap (λ (j : ℕ). times j xs) (sym e) ∙ none_there in omega arith)
      (λ ne. let r = below_missing n m (omega arith) none_there in omega arith)

self_there : (x : ℕ) (xs : List ℕ) → 0 < times x (x ∷ xs)
self_there x xs = grind (arith, nat_tests)

one_more : (x m a : ℕ) → x < m → cond (ltb x m) 1 0 + a ≡ a + 1
one_more x m a less = grind (arith, nat_tests)

all_below : (m : ℕ) (xs : List ℕ) → ((n : ℕ) → m ≤ n → times n xs ≡ 0) → below m xs ≡ length xs
all_below m [] none_above = refl
all_below m (x ∷ xs) none_above =
    let self = self_there x xs in
    let less : x < m = dite (dec_le m x) (λ le. let z = none_above x le in absurd (omega arith)) (λ no. omega arith) in
    let one = one_more x m (below m xs) less in
    let rest = all_below m xs (λ n le. let z = none_above n le in omega arith) in
    omega arith

-- as many numbers_in as there are below m, each at most once and below m, are all of these
pub all_there : (m : ℕ) (xs : List ℕ) → ((n : ℕ) → times n xs ≤ once_below n m) → length xs ≡ m → (n : ℕ) → n < m → 0 < times n xs
all_there m xs within long n less = dite (ℕ_discrete (times n xs) 0)
    (λ none_there.
    let a = below_missing xs (λ k. let b = within k in let o = once_below_most k m in omega arith) n m less none_there in
    let b = all_below m xs (λ k le. let w = within k in let z : once_below k m ≡ 0 = grind (arith, nat_tests) in omega arith) in
    absurd (omega arith))
    (λ some_there. omega arith)

some_same : {V : Type 0} (x y : V) → Some x ≡ Some y → x ≡ y
some_same x y e = cc (e)

once_below_mono : (n a b : ℕ) → a ≤ b → once_below n a ≤ once_below n b
once_below_mono n a b le = grind (arith, nat_tests)

module _ {V E F : Type 0} (entries : V → List E) (caller : E → ℕ) (part : V → F) (f : F) (most : ℕ) where
  joined_known : (history : List E) (ps : List (Joined E)) (n : ℕ) (h : List E) → AllKnow caller history ps → HasJoined ps n h → IsPrefix h history × (entries_by caller n history ≡ entries_by caller n h)
  joined_known history [] n h k has = absurd has
  joined_known history (p ∷ ps) n h k has = ⊎_elim
      (λ (t : (p.number ≡ Some n) × (p.seen ≡ h)). (subst (λ (l : List E). IsPrefix l history) t.1 k.0.0, sym (k.0.1 n t.0) ∙ ap (entries_by caller n) t.1))
      (λ (t : HasJoined ps n h). joined_known history ps n h k.1 t) has

  recorded_known : (history : List E) (count : ℕ) (v : View E F) → Fits caller f history count v → (n : ℕ) (h : List E) → IsRecorded v n h → IsPrefix h history × (entries_by caller n history ≡ entries_by caller n h)
  recorded_known history count v o n h is = ⊎_elim
      (λ (t : (v.number ≡ Some n) × (v.seen ≡ h)). (subst (λ (l : List E). IsPrefix l history) t.1 o.knows.0, sym (o.knows.1 n t.0) ∙ ap (entries_by caller n) t.1))
      (λ (t : HasJoined v.joined n h). joined_known history v.joined n h o.joined t) is

  below_at : (n : ℕ) (history : List E) → AllBelow caller n history → (i : ℕ) (e : E) → slice_get history i ≡ Some e → caller e < n
  below_at n [] a i e at = absurd (cc (at))
  below_at n (x ∷ xs) a zero e at = let same : x ≡ e = cc (at) in let h = a.0 in let k = ap caller same in omega arith
  below_at n (x ∷ xs) a (suc i) e at = below_at n xs a.1 i e at

  ticket_needs : (number ticket : Option ℕ) (t : ℕ) → length (option_to_list ticket) ≤ length (option_to_list number) → ticket ≡ Some t → (n : ℕ) × (number ≡ Some n)
  ticket_needs None (Some t') t le is = absurd (omega arith)
  ticket_needs None None t le is = absurd (cc (is))
  ticket_needs (Some n) ticket t le is = (n, refl)

  -- once all seats are joined into one, which is not the holder, the slot has the value
  pub closes : (ws : List ℕ) (xs : List (Option V)) (id : ℕ) (v : View E F) → v.holder ≡ false → length (numbers_in v) ≡ most → Final (Seen (RuleHolds entries caller part f most) id v) ws xs
      → (y : V) × (get_elem? xs 0 ≡ some (Some y)) × IsValueOf entries caller part f v y
  closes ws xs id v off all_numbers final =
      let s = final.0 in let r = final.1.0 in let at = final.1.1 in
      let o = r.each id v at in
      let room = r.room in
      let less : r.count ≤ most = omega arith in
      let there = all_there most (numbers_in v) (λ n. let a = total_one (number_at n) s.views id v at in let b = r.numbers n in let k = once_below_mono n r.count most less in omega arith) all_numbers in
      ⊎_elim
      (λ (home : IsInSlot entries part f r.history s.homes (total holders_of s.views)). (
        home.0,
        final.4 0 (Some home.0) (ap (λ (hs : Homes V). get_elem? hs 0) home.1),
        record {
          fixed = home.3;
          seen = λ n h is. subst (λ (l : List E). IsPrefix h l) (sym home.2) (recorded_known r.history r.count v o n h is).0;
          own = λ n h is. ap (entries_by caller n) home.2 ∙ (recorded_known r.history r.count v o n h is).1;
          known = λ i e here.
              let in_history : slice_get r.history i ≡ Some e = ap (λ (l : List E). slice_get l i) (sym home.2) ∙ here in
              let low = below_at r.count r.history r.callers i e in_history in
              there (caller e) (omega arith);
        },
      ))
      (λ (busy : IsHeld s.homes (total holders_of s.views)).
      let holder = total_some holders_of s.views busy.1 in
      let j = holder.0 in let u = holder.1 in
      let on : u.holder ≡ true = one_if_true u.holder holder.3 in
      let p = r.each j u holder.2 in
      let numbered = ticket_needs u.number u.ticket (length r.history) p.ticketed (p.served on) in
      let n = numbered.0 in
      dite (ℕ_discrete id j)
      (λ e. let is : v ≡ u = some-injective v u (sym at ∙ (ap (get_elem? s.views) e ∙ holder.2)) in
      let bad : false ≡ true = sym off ∙ (ap (λ (x : View E F). x.holder) is ∙ on) in absurd (cc (bad)))
      (λ apart.
      let two = total_two (number_at n) s.views id j v u at holder.2 apart in
      let theirs : number_at n u ≡ times n ((n ∷ []) ++ joined_numbers u.joined) = ap (λ (x : Option ℕ). times n (option_to_list x ++ joined_numbers u.joined)) numbered.1 in
      let self = times_self n in
      let b = r.numbers n in
      let one = once_below_most n r.count in
      let below_count : n < r.count = once_below_in n r.count (omega arith) in
      let mine = there n (omega arith) in
      absurd (omega arith)))
      r.home

  -- so what is taken from it is the value
  pub closes_some : (ws : List ℕ) (xs : List (Option V)) (id : ℕ) (v : View E F) (t : Option V) → v.holder ≡ false → length (numbers_in v) ≡ most → Final (Seen (RuleHolds entries caller part f most) id v) ws xs → get_elem? xs 0 ≡ some t → IsSome t
  closes_some ws xs id v t off all_numbers final taken =
      let k = closes ws xs id v off all_numbers final in
      subst (λ (o : Option V). IsSome o) (sym (some-injective t (Some k.0) (sym taken ∙ k.1))) refl

  pub closes_value : (ws : List ℕ) (xs : List (Option V)) (id : ℕ) (v : View E F) (t : Option V) (y : V) → v.holder ≡ false → length (numbers_in v) ≡ most → Final (Seen (RuleHolds entries caller part f most) id v) ws xs → get_elem? xs 0 ≡ some t → t ≡ Some y
      → IsValueOf entries caller part f v y
  closes_value ws xs id v t y off all_numbers final taken was =
      let k = closes ws xs id v off all_numbers final in
      let same : k.0 ≡ y = some_same k.0 y (sym (some-injective t (Some k.0) (sym taken ∙ k.1)) ∙ was) in
      subst (λ (z : V). IsValueOf entries caller part f v z) same k.2
