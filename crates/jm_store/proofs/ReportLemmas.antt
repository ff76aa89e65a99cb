-- Loops that list firings.
use Rattle.std.proofs.Common.{◌≡◌, ◌≢◌, ℕ, zero, suc, ◌+◌, ◌-◌, ◌*◌, ◌^◌, ◌<◌, ◌≤◌, inl, inr, length, Bool, true, false, cond, eqb, List, [], ◌∷◌, ◌++◌, take, get_or, pow-suc, refl, sym, ◌∙◌, ap, subst, arith}
use Rattle.std.specs.Prelude.{◌==◌, AllPairs, Contains, IsBitSet, ◌↔◌}
use Rattle.std.specs.Int.{bit_at}
use Rattle.std.specs.List.Sorted.{IsStrictlySortedBy, IsSortedBy, IsPermutation}
use Rattle.std.specs.Ordering.{nat_cmp, is_lt, ordering_then, ordering_reverse}
use Rattle.std.specs.declared.cmp.Ordering.{Ordering}
use Rattle.std.specs.declared.cmp.Ordering.TheVariants.{Less, Equal, Greater}
use Rattle.std.proofs.lemmas.List.{append-nil, get_or_default}
use Rattle.std.proofs.lemmas.List.Sorted.{Contains-permutation, IsPermutation-sym}
use Rattle.std.proofs.lemmas.Bool.{false≢true, ne_eqb, eqb-true, eq-eqb, lt-ltb, cases_lt}
use Rattle.std.proofs.lemmas.Cmp.{tied_itself}
use Rattle.std.proofs.lemmas.Map.Keys.{Less-from_sorted, sorted_from_all_adjacent}
use Rattle.std.proofs.lemmas.List.Elements.{Contains-append_left, Contains-append_right, Contains-append_cases}
use Rattle.std.proofs.lemmas.Nat.Bits.{bit_at-zero, and_pow, bit_at-lt, bit_at_above}
use Rattle.jm_model.specs.Bindings.{binding_cmp}
use Rattle.jm_model.specs.Meanings.{Meaning, IsHit}
use Rattle.jm_model.specs.declared.binding.Binding.{Binding}
use Rattle.jm_model.specs.declared.firings.Firing.{Firing}
use Rattle.jm_semantics.specs.Answers.{firing_cmp}
use Rattle.jm_semantics.proofs.ListLemmas.{Contains-nil, Contains-head, Contains-cons_cases}
use Rattle.jm_semantics.proofs.OrderLemmas.{binding_cmp_total, firing_cmp_total}
use Rattle.jm_monitors.specs.declared.stored.Stored.{Stored}
use Rattle.jm_store.specs.Reports.{IsAt, firings_below, AreHitsOf}
use Rattle.jm_monitors.specs.Steps.{IsFull, IsReported, IsReport}
use Rattle.jm_store.proofs.GivenLemmas.{pairs_none, pairs_append}
use Rattle.jm_store.proofs.ListLemmas.{Contains-take_more, Contains-take_older, Contains-take_here, at_from_take, sorted-append, sorted-one, sorted-nil}
use Rattle.jm_store.proofs.OrderLemmas.{then-Equal, nat-Equal, same_from_tie}
use Rattle.jm_store.proofs.PermuteLemmas.{pairs_permuted}

-- ---- the firings of one instance
-- a firing of them is of a handler below n, whose bit is set
record IsOfBit (t : Binding) (hits n : ℕ) (f : Firing) : Type 0 where
  instance : f.instance ≡ t
  below : f.handler < n
  bit : bit_at hits f.handler ≡ 1

one_of : (t : Binding) (hits n : ℕ) (b : Bool) (f : Firing) → (bit_at hits n == 1) ≡ b → Contains (cond b (record { instance = t; handler = n } ∷ []) []) f → IsOfBit t hits (suc n) f
one_of t hits n true f e h =
    elim (Contains-cons_cases (record { instance = t; handler = n }) [] f h) [
      | inl same ↦ subst (IsOfBit t hits (suc n)) same (record { instance = refl; below = omega arith; bit = eqb-true (bit_at hits n) 1 e })
      | inr none ↦ absurd (Contains-nil f none)
    ]
one_of t hits n false f e h = absurd (Contains-nil f h)

firings_below-parts : (t : Binding) (hits n : ℕ) (f : Firing) → Contains (firings_below t hits n) f → IsOfBit t hits n f
unfolding firings_below
firings_below-parts t hits zero f h = absurd (Contains-nil f h)
firings_below-parts t hits (suc n) f h =
    elim (Contains-append_cases (firings_below t hits n) (cond (bit_at hits n == 1) (record { instance = t; handler = n } ∷ []) []) f h) [
      | inl before ↦ let p = firings_below-parts t hits n f before in record { instance = p.instance; below = omega (arith, p.below); bit = p.bit }
      | inr here ↦ one_of t hits n (bit_at hits n == 1) f refl here
    ]

firings_below-has : (t : Binding) (hits n k : ℕ) → k < n → bit_at hits k ≡ 1 → Contains (firings_below t hits n) (record { instance = t; handler = k })
unfolding firings_below
firings_below-has t hits zero k lt set = absurd (omega arith)
firings_below-has t hits (suc n) k lt set =
    let f : Firing = record { instance = t; handler = k } in
    let rest : List Firing = cond (bit_at hits n == 1) (record { instance = t; handler = n } ∷ []) [] in
    elim (cases_lt k n) [
      | inl before ↦ Contains-append_left (firings_below t hits n) rest f (firings_below-has t hits n k before set)
      | inr not ↦
          let same : n ≡ k = omega arith in
          let one : (bit_at hits n == 1) ≡ true = eq-eqb (bit_at hits n) 1 (ap (bit_at hits) same ∙ set) in
          let here : Contains rest f =
          subst (λ (b : Bool). Contains (cond b (record { instance = t; handler = n } ∷ []) []) f) (sym one)
          (subst (λ (j : ℕ). Contains (record { instance = t; handler = j } ∷ []) f) (sym same) (Contains-head f [])) in
          Contains-append_right (firings_below t hits n) rest f here
    ]

-- one handler more
pub hits_more : (t : Binding) (hits n : ℕ) → bit_at hits n ≡ 1 → firings_below t hits (n + 1) ≡ firings_below t hits n ++ record { instance = t; handler = n } ∷ []
unfolding firings_below
hits_more t hits n one =
    ap (firings_below t hits) add-one'
    ∙ ap (λ (b : Bool). firings_below t hits n ++ cond b (record { instance = t; handler = n } ∷ []) []) (eq-eqb (bit_at hits n) 1 one)
  where
    add-one' : n + 1 ≡ suc n
    add-one' = omega arith

pub hits_skip : (t : Binding) (hits n : ℕ) → (bit_at hits n ≡ 1 → ⊥) → firings_below t hits (n + 1) ≡ firings_below t hits n
unfolding firings_below
hits_skip t hits n other =
    ap (firings_below t hits) add-one'
    ∙ ap (λ (b : Bool). firings_below t hits n ++ cond b (record { instance = t; handler = n } ∷ []) []) (ne_eqb (bit_at hits n) 1 other)
    ∙ append-nil (firings_below t hits n)
  where
    add-one' : n + 1 ≡ suc n
    add-one' = omega arith

pub hits_none : (t : Binding) (hits : ℕ) → firings_below t hits 0 ≡ []
unfolding firings_below
hits_none t hits = refl

-- no firing where no handler is hit
pub no_hits : (t : Binding) (n : ℕ) → firings_below t 0 n ≡ []
unfolding firings_below
no_hits t zero = refl
no_hits t (suc n) = rw (no_hits t n, bit_at-zero n) refl

-- above all handlers that are hit there is no firing
pub hits_within : (t : Binding) (hits n d : ℕ) → hits < 2 ^ n → firings_below t hits (n + d) ≡ firings_below t hits n
hits_within t hits n zero low = ap (firings_below t hits) none
  where
    none : n + 0 ≡ n
    none = omega arith
hits_within t hits n (suc d) low =
    let off = bit_at_above hits n (n + d) low (omega arith) in
    ap (firings_below t hits) next ∙ hits_skip t hits (n + d) (λ one. absurd (omega (arith, one, off))) ∙ hits_within t hits n d low
  where
    next : n + suc d ≡ n + d + 1
    next = omega arith

pub hits_all : (t : Binding) (hits n : ℕ) → hits < 2 ^ n → n ≤ 16 → firings_below t hits 16 ≡ firings_below t hits n
hits_all t hits n low few = ap (firings_below t hits) whole ∙ hits_within t hits n (16 - n) low
  where
    whole : 16 ≡ n + (16 - n)
    whole = omega (arith, few)

nat-Less : (x y : ℕ) → x < y → nat_cmp x y ≡ Less
nat-Less x y h = ap (λ (b : Bool). cond b Less (cond (eqb x y) Equal Greater)) (lt-ltb x y h)

handlers-order : (f g : Firing) → f.instance ≡ g.instance → f.handler < g.handler → firing_cmp f g ≡ Less
handlers-order f g same lt =
    let tie : binding_cmp f.instance g.instance ≡ Equal = ap (λ (t : Binding). binding_cmp t g.instance) same ∙ tied_itself binding_cmp_total g.instance in
    ap (λ (o : Ordering). ordering_then o (nat_cmp f.handler g.handler)) tie ∙ nat-Less f.handler g.handler lt

pub firings_below-increasing : (t : Binding) (hits n : ℕ) → IsStrictlySortedBy firing_cmp (firings_below t hits n)
unfolding firings_below
firings_below-increasing t hits zero = sorted-nil firing_cmp
firings_below-increasing t hits (suc n) =
    sorted-append firing_cmp (firings_below t hits n) (cond (bit_at hits n == 1) (record { instance = t; handler = n } ∷ []) []) (firings_below-increasing t hits n)
    (elim (bit_at hits n == 1) as (λ b. IsStrictlySortedBy firing_cmp (cond b (record { instance = t; handler = n } ∷ []) [])) [
      | true ↦ sorted-one firing_cmp _
      | false ↦ sorted-nil firing_cmp
    ])
    (λ f h c d.
    let p = firings_below-parts t hits n f c in
    after f p (bit_at hits n == 1) h d)
  where
    after : (f : Firing) → IsOfBit t hits n f → (b : Bool) (h : Firing) → Contains (cond b (record { instance = t; handler = n } ∷ []) []) h → firing_cmp f h ≡ Less
    after f p true h d =
        elim (Contains-cons_cases (record { instance = t; handler = n }) [] h d) [
          | inl same ↦ subst (λ (x : Firing). firing_cmp f x ≡ Less) same (handlers-order f (record { instance = t; handler = n }) p.instance p.below)
          | inr none ↦ absurd (Contains-nil h none)
        ]
    after f p false h d = absurd (Contains-nil h d)

-- ---- bits
pub bit_from_set : (n k : ℕ) → IsBitSet n k → bit_at n k ≡ 1
bit_from_set n k h =
    elim (cases_lt (bit_at n k) 1) [
      | inl low ↦
          let none : bit_at n k ≡ 0 = omega arith in
          absurd (h (and_pow n k ∙ ap (λ (b : ℕ). b * 2 ^ k) none ∙ zero-mul' (2 ^ k)))
      | inr high ↦ omega (arith, bit_at-lt n k)
    ]
  where
    zero-mul' : (m : ℕ) → 0 * m ≡ 0
    zero-mul' m = omega arith

-- a set bit is one of the number's
pub bit_below : (n width k : ℕ) → n < 2 ^ width → IsBitSet n k → k < width
bit_below n width k fits set =
    elim (cases_lt k width) [
      | inl lt ↦ lt
      | inr ge ↦ absurd (omega (arith, bit_from_set n k set, bit_at_above n width k fits ge))
    ]

pub set_from_bit : (n k : ℕ) → bit_at n k ≡ 1 → IsBitSet n k
set_from_bit n k one none =
    let product : bit_at n k * 2 ^ k ≡ 0 = sym (and_pow n k) ∙ none in
    let power : 1 * 2 ^ k ≡ 0 = ap (λ (b : ℕ). b * 2 ^ k) (sym one) ∙ product in
    positive k (omega (arith, power))
  where
    positive : (j : ℕ) → 2 ^ j ≡ 0 → ⊥
    positive zero e = omega (arith, e)
    positive (suc j) e = positive j (omega (arith, e, pow-suc 2 j))

-- ---- distinct firings in order
distinct_sorted : (firings : List Firing) → IsStrictlySortedBy firing_cmp firings → AllPairs (λ f g. f ≢ g) firings
distinct_sorted firings up i j d lt within same =
    let less = Less-from_sorted firing_cmp firings i j d up lt within in
    let tie = tied_itself firing_cmp_total (get_or firings i d) in
    apart (sym tie ∙ ap (firing_cmp (get_or firings i d)) same ∙ less)
  where
    apart : Equal ≡ Less → ⊥
    apart e = cc

firing_tie : (f g : Firing) → firing_cmp f g ≡ Equal → f ≡ g
firing_tie f g tie =
    let parts = then-Equal (binding_cmp f.instance g.instance) (nat_cmp f.handler g.handler) tie in
    let instance : f.instance ≡ g.instance = same_from_tie f.instance g.instance parts.0 in
    let handler : f.handler ≡ g.handler = nat-Equal f.handler g.handler parts.1 in
    λ i. record { instance = instance i; handler = handler i }

strict : (f g : Firing) → is_lt (firing_cmp g f) ≡ false → (f ≡ g → ⊥) → firing_cmp f g ≡ Less
strict f g not apart = by (firing_cmp f g) refl
  where
    by : (o : Ordering) → firing_cmp f g ≡ o → firing_cmp f g ≡ Less
    by Less e = e
    by Equal e = absurd (apart (firing_tie f g e))
    by Greater e =
        let back : firing_cmp g f ≡ Less = firing_cmp_total.antisymm g f ∙ ap ordering_reverse e in
        absurd (false≢true (sym not ∙ ap is_lt back))

strictly : (firings : List Firing) → IsSortedBy (λ f g. is_lt (firing_cmp f g)) firings → AllPairs (λ f g. f ≢ g) firings → IsStrictlySortedBy firing_cmp firings
strictly [] sorted distinct = sorted-nil firing_cmp
strictly (x ∷ firings) sorted distinct =
    let all : List Firing = x ∷ firings in
    sorted_from_all_adjacent firing_cmp_total all x
    (λ k lt. strict (get_or all k x) (get_or all (k + 1) x) (sorted k x (omega arith) lt) (distinct k (k + 1) x (omega arith) lt))

few_sorted : (firings : List Firing) → length firings ≤ 1 → IsStrictlySortedBy firing_cmp firings
few_sorted [] few = sorted-nil firing_cmp
few_sorted (x ∷ firings) few = sorted_from_all_adjacent firing_cmp_total (x ∷ firings) x (λ k lt. absurd (omega (arith, lt, few)))

-- ---- the loop
module _ (m : Meaning) {S : Type 0} (Stands : S → List ℕ → Type 0) (monitors : List (Stored S)) where
  pub hits_of_none : AreHitsOf m Stands (take 0 monitors) []
  hits_of_none = record {
    distinct = pairs_none (λ f g. f ≢ g);
    each = λ f h. absurd (Contains-nil f h);
    all = λ s w k h full stands hit. absurd (Contains-nil s h);
  }

  older : (i : ℕ) (s : Stored S) → IsAt monitors i s → (f : Firing) → IsReported m Stands (take i monitors) f → IsReported m Stands (take (i + 1) monitors) f
  older i s at f h = record {
    monitor = h.monitor;
    among = Contains-take_older monitors i s h.monitor at h.among;
    instance = h.instance;
    full = h.full;
    hit = h.hit;
  }

  pub hits_of_skip : (i : ℕ) (s : Stored S) (firings : List Firing) → IsAt monitors i s → (IsFull m s.instance → ⊥) → AreHitsOf m Stands (take i monitors) firings → AreHitsOf m Stands (take (i + 1) monitors) firings
  hits_of_skip i s firings at few h = record {
    distinct = h.distinct;
    each = λ f c. older i s at f (h.each f c);
    all = λ r w k c full stands hit. elim (Contains-take_more monitors i s r at c) [
      | inl before ↦ h.all r w k before full stands hit
      | inr here ↦ absurd (few (subst (λ (x : Stored S). IsFull m x.instance) (sym here) full))
    ];
  }

  -- of distinct monitors one at a lower place is of another instance
  earlier_apart : AllPairs (λ r s. r.instance ≢ s.instance) monitors → (j i : ℕ) (r s : Stored S) → IsAt monitors j r → IsAt monitors i s → j < i → r.instance ≢ s.instance
  earlier_apart distinct j i r s at_j at_i lt same =
      distinct j i r lt at_i.0
      (ap (λ (x : Stored S). x.instance) at_j.1 ∙ same ∙ sym (ap (λ (x : Stored S). x.instance) (get_or_default monitors i r s at_i.0 ∙ at_i.1)))

  pub hits_of_more : (i : ℕ) (s : Stored S) (firings : List Firing) (hits : ℕ) → AllPairs (λ r s. r.instance ≢ s.instance) monitors → IsAt monitors i s → IsFull m s.instance → hits < 2 ^ 16
      → ((w : List ℕ) → Stands s.state w → (k : ℕ) → (IsBitSet hits k ↔ IsHit m w k)) → AreHitsOf m Stands (take i monitors) firings → AreHitsOf m Stands (take (i + 1) monitors) (firings ++ firings_below s.instance hits 16)
  hits_of_more i s firings hits distinct at full fits is h =
      let new = firings_below s.instance hits 16 in
      record {
        distinct = pairs_append (λ f g. f ≢ g) firings new h.distinct (distinct_sorted new (firings_below-increasing s.instance hits 16))
            (λ f x c d same.
            let r = h.each f c in
            let p = firings_below-parts s.instance hits 16 x d in
            let place = at_from_take monitors i r.among.0 r.monitor (r.among.1, r.among.2) in
            earlier_apart distinct r.among.0 i r.monitor s place.0 at place.1 (r.instance ∙ ap (λ (y : Firing). y.instance) same ∙ p.instance));
        each = λ f c. elim (Contains-append_cases firings new f c) [
          | inl before ↦ older i s at f (h.each f before)
          | inr here ↦
              let p = firings_below-parts s.instance hits 16 f here in
              record {
                monitor = s;
                among = Contains-take_here monitors i s at;
                instance = sym p.instance;
                full = subst (IsFull m) (sym p.instance) full;
                hit = λ w stands. (is w stands f.handler).0 (set_from_bit hits f.handler p.bit);
              }
        ];
        all = λ r w k c whole stands hit. elim (Contains-take_more monitors i s r at c) [
          | inl before ↦ Contains-append_left firings new _ (h.all r w k before whole stands hit)
          | inr here ↦
              let mine : Stands s.state w = subst (λ (x : Stored S). Stands x.state w) (sym here) stands in
              let bit : bit_at hits k ≡ 1 = bit_from_set hits k ((is w mine k).1 hit) in
              subst (λ (x : Stored S). Contains (firings ++ new) (record { instance = x.instance; handler = k })) here
              (Contains-append_right firings new _ (firings_below-has s.instance hits 16 k (low k bit) bit))
        ];
      }
    where
      low : (k : ℕ) → bit_at hits k ≡ 1 → k < 16
      low k bit = elim (cases_lt k 16) [ inl lt ↦ lt | inr ge ↦ absurd (omega (arith, bit_at_above hits 16 k fits ge)) ]

  -- ---- from the firings to the report
  pub report_of : (firings : List Firing) → IsStrictlySortedBy firing_cmp firings → AreHitsOf m Stands monitors firings → IsReport m Stands monitors firings
  report_of firings up h = record { increasing = up; each = h.each; all = h.all }

  pub report_none : IsReport m Stands (take 0 monitors) []
  report_none = record { increasing = sorted-nil firing_cmp; each = hits_of_none.each; all = hits_of_none.all }

  pub report_of_few : (firings : List Firing) → length firings ≤ 1 → AreHitsOf m Stands monitors firings → IsReport m Stands monitors firings
  report_of_few firings few h = report_of firings (few_sorted firings few) h

  pub report_of_sorted : (firings sorted : List Firing) → IsPermutation firings sorted → IsSortedBy (λ f g. is_lt (firing_cmp f g)) sorted → AreHitsOf m Stands monitors firings → IsReport m Stands monitors sorted
  report_of_sorted firings sorted same order h = record {
    increasing = strictly sorted order (pairs_permuted (λ f g. f ≢ g) (λ f g q e. q (sym e)) firings sorted same h.distinct);
    each = λ f there. h.each f (Contains-permutation sorted firings f (IsPermutation-sym firings sorted same) there);
    all = λ s w k there full stands hit. Contains-permutation firings sorted _ same (h.all s w k there full stands hit);
  }
