-- The slots that an event reads.
use Rattle.std.proofs.Common.{◌≡◌, ◌≢◌, ℕ, zero, suc, ◌+◌, ◌*◌, ◌/◌, ◌<◌, ◌≤◌, ◌==◌, ◌⊎◌, inl, inr, Bool, true, false, cond, ◌&&◌, ◌||◌, not, List, [], ◌∷◌, ◌++◌, length, take, get_or, refl, sym, ap, ◌∙◌, subst, append_assoc, append-nil, arith}
use Rattle.std.specs.Prelude.{Option, Some, None, Contains, AllPairs, filter, count_by, slice_set, bit_and, IfSome}
use Rattle.std.specs.Int.{bit_at}
use Rattle.std.specs.Option.{is_some, option_to_list}
use Rattle.std.specs.List.{cons_option}
use Rattle.std.proofs.lemmas.Bool.{and_parts, and_from, eqb-true, eq-eqb, cases_Bool, false≢true}
use Rattle.std.proofs.lemmas.List.{take_more, length-append, get_or-set_other}
use Rattle.std.proofs.lemmas.List.Elements.{Contains-append_left, Contains-append_right, Contains-append_cases}
use Rattle.std.proofs.lemmas.List.Kept.{AllPairs-filter}
use Rattle.std.proofs.lemmas.List.Sums.{sum_by-cons}
use Rattle.std.proofs.lemmas.Nat.Bits.{bit_at_and, same_from_bits, bit_at_lowest, bit_at-suc}
use Rattle.jm_model.specs.Bindings.{is_below, is_compatible, mask_of}
use Rattle.jm_model.specs.declared.binding.Binding.{Binding}
use Rattle.jm_semantics.proofs.ListLemmas.{Contains-cons_cases, Contains-head, Contains-filter, Contains-from_filter, Contains-map}
use Rattle.jm_semantics.proofs.MaskLemmas.{mask_where-mono, IsWithin}
use Rattle.jm_index.specs.Index.{Pair, PairList, asked, asked_slots}
use Rattle.jm_index.proofs.ReadLemmas.{Contains-none, Contains-cons}
use Rattle.jm_monitors.specs.declared.stored.Stored.{Stored}
use Rattle.jm_store.specs.declared.monitors.Slot.{Slot}
use Rattle.jm_store.specs.Slots.{monitors_of, monitor_at, stored_in}
use Rattle.jm_store.specs.Moves.{asks_by, ends_all, has_all, visited, AreVisited, IsCompatibleAt}
use Rattle.jm_store.specs.Contents.{Contents, IsOnlyAbove, IsNoneAbove, IsAbove}
use Rattle.jm_store.specs.Housing.{IsHoused, IsSettled, AreDomains}
use Rattle.jm_store.proofs.FitLemmas.{are_paired}
use Rattle.jm_store.proofs.HousingLemmas.{same_one, pair_by_slot}
use Rattle.jm_store.proofs.GivenLemmas.{Contains-from_map, pairs_head, pairs_tail, pairs_none, pairs_append, pairs_map}

-- one set of parameters more
pub visited_more : (asks : ℕ → Bool) (b : Binding) (pairs : List Pair) (ds : List ℕ) (d : ℕ) → visited asks b pairs (ds ++ d ∷ []) ≡ visited asks b pairs ds ++ cond (asks d) (asked_slots d b pairs) []
visited_more asks b pairs [] d = append-nil (cond (asks d) (asked_slots d b pairs) [])
visited_more asks b pairs (e ∷ ds) d =
    ap (λ (l : List ℕ). cond (asks e) (asked_slots e b pairs) [] ++ l) (visited_more asks b pairs ds d)
    ∙ sym (append_assoc (cond (asks e) (asked_slots e b pairs) []) (visited asks b pairs ds) (cond (asks d) (asked_slots d b pairs) []))

pub visited_taken : (asks : ℕ → Bool) (b : Binding) (pairs : List Pair) (ds : List ℕ) (i : ℕ) (t : Bool) → i < length ds → asks (get_or ds i 0) ≡ t
    → visited asks b pairs (take (i + 1) ds) ≡ visited asks b pairs (take i ds) ++ cond t (asked_slots (get_or ds i 0) b pairs) []
visited_taken asks b pairs ds i t lt is =
    ap (visited asks b pairs) (take_more ds i 0 lt) ∙ visited_more asks b pairs (take i ds) (get_or ds i 0)
    ∙ ap (λ (v : Bool). visited asks b pairs (take i ds) ++ cond v (asked_slots (get_or ds i 0) b pairs) []) is

-- the slots for some of the sets are no more than those for all
visited_fewer : (asks : ℕ → Bool) (b : Binding) (pairs : List Pair) (ds : List ℕ) (i : ℕ) → length (visited asks b pairs (take i ds)) ≤ length (visited asks b pairs ds)
visited_fewer asks b pairs ds zero = omega arith
visited_fewer asks b pairs [] (suc i) = omega arith
visited_fewer asks b pairs (d ∷ ds) (suc i) =
    let first = cond (asks d) (asked_slots d b pairs) [] in
    omega (arith, length-append first (visited asks b pairs (take i ds)), length-append first (visited asks b pairs ds), visited_fewer asks b pairs ds i)

-- a slot that is read is that of a pair
record IsAskedBy (b : Binding) (pairs : List Pair) (d k : ℕ) : Type 0 where
  pair : Pair
  among : Contains pairs pair
  slot : pair.slot ≡ k
  domain : mask_of pair.binding ≡ d
  compatible : is_compatible pair.binding b ≡ true

asked_by : (b : Binding) (pairs : List Pair) (d k : ℕ) → Contains (asked_slots d b pairs) k → IsAskedBy b pairs d k
asked_by b pairs d k there =
    let test : Pair → Bool = λ pair. (mask_of pair.binding == d) && is_compatible pair.binding b in
    let (pair, kept, is) = Contains-from_map (λ (p : Pair). p.slot) (filter test pairs) k there in
    let (among, passes) = Contains-from_filter test pairs pair kept in
    let parts = and_parts (mask_of pair.binding == d) (is_compatible pair.binding b) passes in
    record { pair = pair; among = among; slot = is; domain = eqb-true (mask_of pair.binding) d parts.0; compatible = parts.1 }

-- .. and its set of parameters is one of those asked
record IsVisitedBy (asks : ℕ → Bool) (b : Binding) (pairs : List Pair) (ds : List ℕ) (k : ℕ) : Type 0 where
  domain : ℕ
  ask : asks domain ≡ true
  listed : Contains ds domain
  asked_for : IsAskedBy b pairs domain k

visited_by : (asks : ℕ → Bool) (b : Binding) (pairs : List Pair) (ds : List ℕ) (k : ℕ) → Contains (visited asks b pairs ds) k → IsVisitedBy asks b pairs ds k
visited_by asks b pairs [] k there = absurd (Contains-none k there)
visited_by asks b pairs (d ∷ ds) k there =
    elim (Contains-append_cases (cond (asks d) (asked_slots d b pairs) []) (visited asks b pairs ds) k there) [
      | inl here ↦ let asked_for = at (asks d) here in record { domain = d; ask = asked_for.0; listed = Contains-head d ds; asked_for = asked_for.1 }
      | inr later ↦ let v = visited_by asks b pairs ds k later in record { domain = v.domain; ask = v.ask; listed = Contains-cons d v.domain ds v.listed; asked_for = v.asked_for }
    ]
  where
    at : (t : Bool) → Contains (cond t (asked_slots d b pairs) []) k → (t ≡ true) × IsAskedBy b pairs d k
    at true h = (refl, asked_by b pairs d k h)
    at false h = absurd (Contains-none k h)

-- a pair's slot is read, where its set of parameters is asked
visited_has : (asks : ℕ → Bool) (b : Binding) (pairs : List Pair) (ds : List ℕ) (pair : Pair) → Contains pairs pair → is_compatible pair.binding b ≡ true → asks (mask_of pair.binding) ≡ true
    → Contains ds (mask_of pair.binding) → Contains (visited asks b pairs ds) pair.slot
visited_has asks b pairs [] pair among compatible ask listed = absurd (Contains-none (mask_of pair.binding) listed)
visited_has asks b pairs (d ∷ ds) pair among compatible ask listed =
    elim (Contains-cons_cases d ds (mask_of pair.binding) listed) [
      | inl same ↦ Contains-append_left (cond (asks d) (asked_slots d b pairs) []) (visited asks b pairs ds) pair.slot (here same)
      | inr later ↦ Contains-append_right (cond (asks d) (asked_slots d b pairs) []) (visited asks b pairs ds) pair.slot (visited_has asks b pairs ds pair among compatible ask later)
    ]
  where
    here : d ≡ mask_of pair.binding → Contains (cond (asks d) (asked_slots d b pairs) []) pair.slot
    here same =
        let test : Pair → Bool = λ p. (mask_of p.binding == d) && is_compatible p.binding b in
        let passes : test pair ≡ true = and_from (mask_of pair.binding == d) (is_compatible pair.binding b) (eq-eqb (mask_of pair.binding) d (sym same)) compatible in
        rw (ap asks same ∙ ask) (Contains-map (λ (p : Pair). p.slot) (filter test pairs) pair (Contains-filter test pairs pair among passes))

-- no slot is read twice
visited_apart : (asks : ℕ → Bool) (b : Binding) (pairs : List Pair) (ds : List ℕ) → AllPairs (λ x y. x.slot ≢ y.slot) pairs → AllPairs (λ x y. x ≢ y) ds → AllPairs (λ j k. j ≢ k) (visited asks b pairs ds)
visited_apart asks b pairs [] apart distinct = pairs_none (λ j k. j ≢ k)
visited_apart asks b pairs (d ∷ ds) apart distinct =
    pairs_append (λ j k. j ≢ k) (cond (asks d) (asked_slots d b pairs) []) (visited asks b pairs ds) (one (asks d)) (visited_apart asks b pairs ds apart (pairs_tail (λ x y. x ≢ y) d ds distinct))
    (λ j k here later same.
    let mine = mine_of (asks d) j here in
    let other = visited_by asks b pairs ds k later in
    let pair = same_one (λ (p : Pair). p.slot) pairs mine.pair other.asked_for.pair apart mine.among other.asked_for.among (mine.slot ∙ same ∙ sym other.asked_for.slot) in
    pairs_head (λ x y. x ≢ y) d ds distinct other.domain other.listed (sym mine.domain ∙ ap (λ (p : Pair). mask_of p.binding) pair ∙ other.asked_for.domain))
  where
    one : (t : Bool) → AllPairs (λ j k. j ≢ k) (cond t (asked_slots d b pairs) [])
    one true = pairs_map (λ j k. j ≢ k) (λ (p : Pair). p.slot) (asked d b pairs) (AllPairs-filter (λ x y. x.slot ≢ y.slot) (λ (pair : Pair). (mask_of pair.binding == d) && is_compatible pair.binding b) pairs apart)
    one false = pairs_none (λ j k. j ≢ k)

    mine_of : (t : Bool) (j : ℕ) → Contains (cond t (asked_slots d b pairs) []) j → IsAskedBy b pairs d j
    mine_of true j h = asked_by b pairs d j h
    mine_of false j h = absurd (Contains-none j h)

-- the parameters of a binding are bound above it
pub mask_within : (b t : Binding) → is_below b t ≡ true → bit_and (mask_of b) (mask_of t) ≡ mask_of b
mask_within b t below =
    same_from_bits (bit_and (mask_of b) (mask_of t)) (mask_of b)
    (λ p. omega (arith, bit_at_and (mask_of b) (mask_of t) p, mask_where-mono (λ _. true) (λ _. true) b t (λ o h. h) below p))

-- so what a binding lies below is asked
pub asked_above : (known : Bool) (ending : List ℕ) (letter : ℕ) (b t : Binding) → is_below b t ≡ true → asks_by known ending letter b (mask_of t) ≡ true
asked_above known ending letter b t below =
    ap (λ (v : Bool). v || (not known && not (ends_all ending letter (mask_of t)))) (eq-eqb (bit_and (mask_of b) (mask_of t)) (mask_of b) (mask_within b t below))

-- and anything else where the binding is no mark, unless the letter ends it
pub asked_unless : (known : Bool) (ending : List ℕ) (letter d : ℕ) (b : Binding) → known ≡ false → (asks_by known ending letter b d ≡ true) ⊎ (ends_all ending letter d ≡ true)
asked_unless known ending letter d b unknown =
    elim (cases_Bool (ends_all ending letter d)) [
      | inl ends ↦ inr ends
      | inr more ↦ inl (rw (unknown, more) (or_true (bit_and (mask_of b) d == mask_of b)))
    ]
  where
    or_true : (v : Bool) → (v || true) ≡ true
    or_true true = refl
    or_true false = refl

count_cons : {X : Type 0} (p : X → Bool) (x : X) (xs : List X) → count_by p (x ∷ xs) ≡ cond (p x) 1 0 + count_by p xs
count_cons p x xs = sum_by-cons (λ y. cond (p y) 1 0) x xs

module _ {S : Type 0} where
  -- the monitor of a pair's slot is of the pair's binding
  pub settled_monitor : (slots : List (Slot S)) (pairs : List Pair) → IsHoused slots pairs → IsSettled slots pairs → (pair : Pair) → Contains pairs pair
      → (s : Stored S) × (monitor_at (monitors_of slots) pair.slot ≡ Some s) × (s.instance ≡ pair.binding)
  settled_monitor slots pairs h settled pair among =
      let (s, at) = settled pair among in
      (s, at, sym (pair_by_slot slots pairs pair.slot s.instance h (h.paired pair.slot s at) pair among refl))

  pub compatible_there : (slots : List (Slot S)) (pairs : List Pair) (b : Binding) (d k : ℕ) → IsHoused slots pairs → IsSettled slots pairs → Contains (asked_slots d b pairs) k
      → (s : Stored S) × (monitor_at (monitors_of slots) k ≡ Some s) × (is_compatible s.instance b ≡ true)
  compatible_there slots pairs b d k h settled there =
      let by = asked_by b pairs d k there in
      let (s, at, is) = settled_monitor slots pairs h settled by.pair by.among in
      (s, subst (λ (n : ℕ). monitor_at (monitors_of slots) n ≡ Some s) by.slot at, ap (λ (t : Binding). is_compatible t b) is ∙ by.compatible)

  pub are_visited : (asks : ℕ → Bool) (b : Binding) (slots : List (Slot S)) (pairs : List Pair) (ds : List ℕ) → IsHoused slots pairs → IsSettled slots pairs → AreDomains ds pairs
      → AreVisited asks b (monitors_of slots) (visited asks b pairs ds)
  are_visited asks b slots pairs ds h settled domains = record {
    apart = visited_apart asks b pairs ds h.slots_apart domains.distinct;
    each = λ k there.
        let v = visited_by asks b pairs ds k there in
        let by = v.asked_for in
        let (s, at, is) = settled_monitor slots pairs h settled by.pair by.among in
        (s, subst (λ (n : ℕ). monitor_at (monitors_of slots) n ≡ Some s) by.slot at, ap (λ (t : Binding). is_compatible t b) is ∙ by.compatible);
    all = λ k s at compatible ask.
        let there = h.paired k s at in
        visited_has asks b pairs ds (record { binding = s.instance; slot = k }) there compatible ask (domains.listed (record { binding = s.instance; slot = k }) there);
  }

  -- ---- as many monitors as slots that are read
  removed_counts : (monitors : List (Option (Stored S))) (p : Stored S → Bool) (k : ℕ) (s : Stored S) → monitor_at monitors k ≡ Some s → p s ≡ true
      → count_by p (stored_in monitors) ≡ count_by p (stored_in (slice_set monitors k None)) + 1
  removed_counts [] p k s at holds = cc
  removed_counts (x ∷ monitors) p zero s at holds = here x at
    where
      one : (r : Stored S) → p r ≡ true → count_by p (r ∷ stored_in monitors) ≡ count_by p (stored_in monitors) + 1
      one r is = omega (arith, count_cons p r (stored_in monitors), ap {B = ℕ} (λ (t : Bool). cond t 1 0) is)

      here : (o : Option (Stored S)) → o ≡ Some s → count_by p (cons_option o (stored_in monitors)) ≡ count_by p (stored_in monitors) + 1
      here None e = cc
      here (Some r) e = let same : r ≡ s = cc in one r (ap p same ∙ holds)
  removed_counts (x ∷ monitors) p (suc k) s at holds = behind x (removed_counts monitors p k s at holds)
    where
      behind : (o : Option (Stored S)) → count_by p (stored_in monitors) ≡ count_by p (stored_in (slice_set monitors k None)) + 1
          → count_by p (cons_option o (stored_in monitors)) ≡ count_by p (cons_option o (stored_in (slice_set monitors k None))) + 1
      behind None ih = ih
      behind (Some r) ih = omega (arith, ih, count_cons p r (stored_in monitors), count_cons p r (stored_in (slice_set monitors k None)))

  pub slots_counted : (monitors : List (Option (Stored S))) (p : Stored S → Bool) (slots : List ℕ) → AllPairs (λ j k. j ≢ k) slots
      → ((k : ℕ) → Contains slots k → (s : Stored S) × (monitor_at monitors k ≡ Some s) × (p s ≡ true)) → length slots ≤ count_by p (stored_in monitors)
  slots_counted monitors p [] apart each = omega arith
  slots_counted monitors p (k ∷ slots) apart each =
      let (s, at, holds) = each k (Contains-head k slots) in
      let fewer = slots_counted (slice_set monitors k None) p slots (pairs_tail (λ j n. j ≢ n) k slots apart)
      (λ j there.
      let (r, is, passes) = each j (Contains-cons k j slots there) in
      (r, get_or-set_other monitors k j None None (λ same. pairs_head (λ x y. x ≢ y) k slots apart j there (sym same)) ∙ is, passes)) in
      omega (arith, fewer, removed_counts monitors p k s at holds)

  pub visited_bound : (asks : ℕ → Bool) (b : Binding) (slots : List (Slot S)) (pairs : List Pair) (ds : List ℕ) (i : ℕ) → IsHoused slots pairs → IsSettled slots pairs → AreDomains ds pairs
      → length (visited asks b pairs (take i ds)) ≤ count_by (λ s. is_compatible s.instance b) (stored_in (monitors_of slots))
  visited_bound asks b slots pairs ds i h settled domains =
      let visit = are_visited asks b slots pairs ds h settled domains in
      let all = slots_counted (monitors_of slots) (λ s. is_compatible s.instance b) (visited asks b pairs ds) visit.apart visit.each in
      omega (arith, all, visited_fewer asks b pairs ds i)

  pub compatible_at : (slots : List (Slot S)) (pairs : List Pair) (b : Binding) (d : ℕ) → IsHoused slots pairs → IsSettled slots pairs → (k : ℕ) → Contains (asked_slots d b pairs) k
      → IsCompatibleAt b (monitor_at (monitors_of slots) k)
  compatible_at slots pairs b d h settled k there =
      let (s, at, is) = compatible_there slots pairs b d k h settled there in
      subst (IsCompatibleAt b) (sym at) is

-- ---- the only slot above a binding
tail_within : (c d m n x y : ℕ) → c < 2 → d < 2 → x ≡ c + 2 * m → y ≡ d + 2 * n → IsWithin x y → IsWithin m n
tail_within c d m n x y low less left right h p =
    let first : bit_at x (suc p) ≡ bit_at m p = bit_at-suc x p ∙ ap (λ z. bit_at z p) (ap (λ z. z / 2) left ∙ half c m low) in
    let second : bit_at y (suc p) ≡ bit_at n p = bit_at-suc y p ∙ ap (λ z. bit_at z p) (ap (λ z. z / 2) right ∙ half d n less) in
    rw (first, second) at (h (suc p))
  where
    half : (e q : ℕ) → e < 2 → (e + 2 * q) / 2 ≡ q
    half e q l = omega arith

unbound_mask : (n : ℕ) → 2 * n ≡ 0 + 2 * n
unbound_mask n = omega arith

no_head : (m n : ℕ) → IsWithin (1 + 2 * m) (2 * n) → ⊥
no_head m n h = omega (arith, h 0, bit_at_lowest (1 + 2 * m), bit_at_lowest (2 * n))

-- a binding lies below a compatible one that binds all its parameters
pub below_within : (b t : Binding) → is_compatible t b ≡ true → IsWithin (mask_of b) (mask_of t) → is_below b t ≡ true
below_within [] [] c h = refl
below_within [] (y ∷ t) c h = absurd (false≢true c)
below_within (x ∷ b) [] c h = absurd (false≢true c)
below_within (None ∷ b) (None ∷ t) c h = below_within b t c (tail_within 0 0 (mask_of b) (mask_of t) (mask_of (None ∷ b)) (mask_of (None ∷ t)) (omega arith) (omega arith) (unbound_mask (mask_of b)) (unbound_mask (mask_of t)) h)
below_within (None ∷ b) (Some q ∷ t) c h = below_within b t c (tail_within 0 1 (mask_of b) (mask_of t) (mask_of (None ∷ b)) (mask_of (Some q ∷ t)) (omega arith) (omega arith) (unbound_mask (mask_of b)) refl h)
below_within (Some o ∷ b) (None ∷ t) c h = absurd (no_head (mask_of b) (mask_of t) h)
below_within (Some o ∷ b) (Some q ∷ t) c h =
    let cs = and_parts (q == o) (is_compatible t b) c in
    and_from (o == q) (is_below b t) (eq-eqb o q (sym (eqb-true q o cs.0))) (below_within b t cs.1 (tail_within 1 1 (mask_of b) (mask_of t) (mask_of (Some o ∷ b)) (mask_of (Some q ∷ t)) (omega arith) (omega arith) refl refl h))

pub all_within : (b : Binding) (d : ℕ) → has_all b d ≡ true → IsWithin (mask_of b) d
all_within b d h p = omega (arith, bit_at_and (mask_of b) d p, ap (λ n. bit_at n p) (eqb-true (bit_and (mask_of b) d) (mask_of b) h))

-- the monitors of the slots that are read where all parameters are bound lie above the binding
pub visited_above : {S : Type 0} (b : Binding) (slots : List (Slot S)) (pairs : List Pair) (ds : List ℕ) → IsHoused slots pairs → IsSettled slots pairs → (k : ℕ) (s : Stored S) → Contains (visited (has_all b) b pairs ds) k
    → monitor_at (monitors_of slots) k ≡ Some s → is_below b s.instance ≡ true
visited_above {S} b slots pairs ds h settled k s has at =
    let v = visited_by (has_all b) b pairs ds k has in
    let by = v.asked_for in
    let (r, here, is) = settled_monitor slots pairs h settled by.pair by.among in
    let there : Some r ≡ Some s = sym here ∙ ap (monitor_at (monitors_of slots)) by.slot ∙ at in
    let same : r ≡ s = cc in
    let within : IsWithin (mask_of b) (mask_of by.pair.binding) = subst (IsWithin (mask_of b)) (sym by.domain) (all_within b v.domain v.ask) in
    subst (λ (t : Binding). is_below b t ≡ true) (sym is ∙ ap (λ (x : Stored S). x.instance) same) (below_within b by.pair.binding by.compatible within)

pub only_above : {S : Type 0} (b : Binding) (slots : List (Slot S)) (marks : List Binding) (open' : Bool) (index : PairList) (ending ds : List ℕ) (k : ℕ) → IsHoused slots index.list → IsSettled slots index.list
    → AreDomains ds index.list → visited (has_all b) b index.list ds ≡ k ∷ []
    → IsOnlyAbove b (record { monitors = monitors_of slots; marks = marks; is_open = open'; index = index; ending = ending }) k
only_above {S} b slots marks open' index ending ds k h settled domains one =
    record {
      visit = subst (λ (l : List ℕ). AreVisited (has_all b) b (monitors_of slots) l) one (are_visited (has_all b) b slots index.list ds h settled domains);
      above = λ s at.
          let v = visited_by (has_all b) b index.list ds k (subst (λ (l : List ℕ). Contains l k) (sym one) (Contains-head k [])) in
          let by = v.asked_for in
          let (r, here, is) = settled_monitor slots index.list h settled by.pair by.among in
          let there : Some r ≡ Some s = sym here ∙ ap (monitor_at (monitors_of slots)) by.slot ∙ at in
          let same : r ≡ s = cc in
          let within : IsWithin (mask_of b) (mask_of by.pair.binding) = subst (IsWithin (mask_of b)) (sym by.domain) (all_within b v.domain v.ask) in
          subst (λ (t : Binding). is_below b t ≡ true) (sym is ∙ ap (λ (x : Stored S). x.instance) same) (below_within b by.pair.binding by.compatible within);
      paired = are_paired slots marks open' index ending h;
      filled = λ pair there. settled_monitor slots index.list h settled pair there;
    }

pub none_above : {S : Type 0} (b : Binding) (slots : List (Slot S)) (marks : List Binding) (open' : Bool) (index : PairList) (ending ds : List ℕ) → IsHoused slots index.list → IsSettled slots index.list
    → AreDomains ds index.list → visited (has_all b) b index.list ds ≡ []
    → IsNoneAbove b (record { monitors = monitors_of slots; marks = marks; is_open = open'; index = index; ending = ending })
none_above {S} b slots marks open' index ending ds h settled domains none =
    record {
      visit = subst (λ (l : List ℕ). AreVisited (has_all b) b (monitors_of slots) l) none (are_visited (has_all b) b slots index.list ds h settled domains);
      paired = are_paired slots marks open' index ending h;
      filled = λ pair there. settled_monitor slots index.list h settled pair there;
    }

pub above_by : {S : Type 0} (b : Binding) (store : Contents S) (o : Option ℕ) (l : List ℕ) → l ≡ option_to_list o → (l ≡ [] → IsNoneAbove b store) → ((k : ℕ) → l ≡ k ∷ [] → IsOnlyAbove b store k)
    → IsAbove b store o
above_by b store None l e none one = none e
above_by b store (Some k) l e none one = one k e

pub popped : (xs ys : List ℕ) (n : ℕ) (o : Option ℕ) → xs ≡ ys ++ option_to_list o → ys ≡ take n xs → n ≡ 0 → xs ≡ option_to_list o
popped xs ys n o e rest none = e ∙ ap (λ (l : List ℕ). l ++ option_to_list o) (rest ∙ ap (λ (k : ℕ). take k xs) none)

pub was_none : (o : Option ℕ) → is_some o ≡ false → o ≡ None
was_none None e = refl
was_none (Some k) e = absurd (false≢true (sym e))

-- what an answer says, where one thing follows from another
pub if_some : {X : Type 0} (P Q : X → Type 0) (o : Option X) → ((x : X) → P x → Q x) → IfSome o P → IfSome o Q
if_some P Q None f h = tt
if_some P Q (Some x) f h = f x h

pub not_all : (b : Binding) (d : ℕ) → (bit_and (mask_of b) d ≡ mask_of b → ⊥) → has_all b d ≡ false
not_all b d h = elim (cases_Bool (has_all b d)) [ inl yes' ↦ absurd (h (eqb-true (bit_and (mask_of b) d) (mask_of b) yes')) | inr off ↦ off ]

-- of bindings that agree one lies below the other where its parameters are among the other's, and only there
pub below_by_mask : (b t : Binding) → is_compatible t b ≡ true → bit_and (mask_of b) (mask_of t) ≡ mask_of b → is_below b t ≡ true
below_by_mask b t c h = below_within b t c (λ p. omega (arith, bit_at_and (mask_of b) (mask_of t) p, ap (λ n. bit_at n p) h))

pub apart_by_mask : (b t : Binding) → (bit_and (mask_of b) (mask_of t) ≡ mask_of b → ⊥) → is_below b t ≡ false
apart_by_mask b t h = elim (cases_Bool (is_below b t)) [ inl below ↦ absurd (h (mask_within b t below)) | inr apart ↦ apart ]
