-- Loops that list firings and instances, and what the lists say of a history.
use Rattle.std.proofs.Common.{◌≡◌, ℕ, zero, suc, ◌+◌, ◌*◌, ◌^◌, ◌<◌, inl, inr, length, Bool, true, false, List, [], ◌∷◌, ◌++◌, take, get_or, pow-suc, refl, sym, ◌∙◌, ap, subst, arith}
use Rattle.std.specs.Prelude.{Contains, IsBitSet, ◌↔◌, bit_and}
use Rattle.std.specs.Int.{bit_at}
use Rattle.std.specs.List.{AllByRecursion}
use Rattle.std.specs.List.Sorted.{IsStrictlySortedBy}
use Rattle.std.proofs.lemmas.Bool.{cases_lt, false≢true}
use Rattle.std.proofs.lemmas.List.{take_more}
use Rattle.std.proofs.lemmas.List.Elements.{Contains-append_left, Contains-append_right, Contains-append_cases}
use Rattle.std.proofs.lemmas.Nat.Bits.{and_pow, bit_at-lt, bit_at_above}
use Rattle.jm_model.specs.Bindings.{binding_cmp, is_below, mask_of, mask_where}
use Rattle.jm_model.specs.Meanings.{Meaning, IsHit, IsCutWord}
use Rattle.jm_model.specs.declared.binding.Binding.{Binding}
use Rattle.jm_model.specs.declared.firings.Firing.{Firing}
use Rattle.jm_model.specs.declared.step.Entry.{Entry}
use Rattle.jm_semantics.specs.Traces.{ParametricEvent, slice_of}
use Rattle.jm_semantics.specs.Histories.{trace_of, is_dead, dead_mask}
use Rattle.jm_semantics.specs.Answers.{IsAnswer, firing_cmp}
use Rattle.jm_semantics.specs.Disposal.{IsCut, IsKeptCount}
use Rattle.jm_semantics.proofs.ListLemmas.{Contains-nil, Contains-head, Contains-cons_cases}
use Rattle.jm_audit.specs.Flags.{is_flagged}
use Rattle.jm_audit.specs.Slices.{Sliced, AreInstancesOf}
use Rattle.jm_audit.specs.Accounts.{IsHitAmong, AreHits, IsReport, IsPushed, AreSame, IsCutBy, AreAlive, AreKept}

-- an element more of what was taken
pub taken : {X : Type 0} (xs : List X) (i : ℕ) (x : X) → i < length xs → x ≡ get_or xs i x → take (i + 1) xs ≡ take i xs ++ x ∷ []
taken xs i x there is = take_more xs i x there ∙ ap (λ y. take i xs ++ y ∷ []) (sym is)

one : {X : Type 0} (x y : X) → Contains (x ∷ []) y → x ≡ y
one x y h = elim (Contains-cons_cases x [] y h) [ inl same ↦ same | inr none ↦ absurd (Contains-nil y none) ]

-- ---- bits
bit_from_set : (n k : ℕ) → IsBitSet n k → bit_at n k ≡ 1
bit_from_set n k h =
    elim (cases_lt (bit_at n k) 1) [
      | inl low ↦
          let none : bit_at n k ≡ 0 = omega arith in
          absurd (h (and_pow n k ∙ ap (λ (b : ℕ). b * 2 ^ k) none ∙ zero-mul' (2 ^ k)))
      | inr high ↦ omega (arith, bit_at-lt n k)
    ]
  where
    zero-mul' : (m : ℕ) → 0 * m ≡ 0
    zero-mul' m = omega arith

bit_below : (n width k : ℕ) → n < 2 ^ width → IsBitSet n k → k < width
bit_below n width k fits set =
    elim (cases_lt k width) [
      | inl lt ↦ lt
      | inr ge ↦ absurd (omega (arith, bit_from_set n k set, bit_at_above n width k fits ge))
    ]

set_from_bit : (n k : ℕ) → bit_at n k ≡ 1 → IsBitSet n k
set_from_bit n k one none =
    let product : bit_at n k * 2 ^ k ≡ 0 = sym (and_pow n k) ∙ none in
    let power : 1 * 2 ^ k ≡ 0 = ap (λ (b : ℕ). b * 2 ^ k) (sym one) ∙ product in
    positive k (omega (arith, power))
  where
    positive : (j : ℕ) → 2 ^ j ≡ 0 → ⊥
    positive zero e = omega (arith, e)
    positive (suc j) e = positive j (omega (arith, e, pow-suc 2 j))

-- ---- the firings of one instance
pub pushed_none : (t : Binding) (hits : ℕ) (old : List Firing) → IsPushed t hits 0 old old
pushed_none t hits old = record { each = λ f h. inl h; kept = λ f h. h; all = λ k lt set. absurd (omega (arith, lt)) }

pub pushed_more : (t : Binding) (hits n : ℕ) (old new : List Firing) → bit_at hits n ≡ 1 → IsPushed t hits n old new → IsPushed t hits (n + 1) old (new ++ record { instance = t; handler = n } ∷ [])
pushed_more t hits n old new set h =
    let f : Firing = record { instance = t; handler = n } in
    record {
      each = λ g among. elim (Contains-append_cases new (f ∷ []) g among) [
        | inl before ↦ elim (h.each g before) [
          | inl o ↦ inl o
          | inr p ↦ inr (p.0, omega (arith, p.1), p.2)
        ]
        | inr here ↦ inr (subst (λ (x : Firing). (x.instance ≡ t) × (x.handler < n + 1) × (bit_at hits x.handler ≡ 1)) (one f g here) (refl, omega arith, set))
      ];
      kept = λ g o. Contains-append_left new (f ∷ []) g (h.kept g o);
      all = λ k lt bit. elim (cases_lt k n) [
        | inl low ↦ Contains-append_left new (f ∷ []) (record { instance = t; handler = k }) (h.all k low bit)
        | inr high ↦
            let same : n ≡ k = omega (arith, lt, high) in
            subst (λ (j : ℕ). Contains (new ++ f ∷ []) (record { instance = t; handler = j })) same (Contains-append_right new (f ∷ []) f (Contains-head f []))
      ];
    }

pub pushed_skip : (t : Binding) (hits n : ℕ) (old new : List Firing) → (bit_at hits n ≡ 1 → ⊥) → IsPushed t hits n old new → IsPushed t hits (n + 1) old new
pushed_skip t hits n old new other h = record {
  each = λ g among. elim (h.each g among) [ inl o ↦ inl o | inr p ↦ inr (p.0, omega (arith, p.1), p.2) ];
  kept = h.kept;
  all = λ k lt bit. elim (cases_lt k n) [
    | inl low ↦ h.all k low bit
    | inr high ↦ let same : k ≡ n = omega (arith, lt, high) in absurd (other (ap (bit_at hits) (sym same) ∙ bit))
  ];
}

-- ---- instance by instance
module _ (m : Meaning) (b : Binding) where
  pub hits_none : AreHits m b [] []
  hits_none = record { each = λ f h. absurd (Contains-nil f h); all = λ f h. absurd (Contains-nil h.instance h.among) }

  older : (xs : List Sliced) (x : Sliced) (f : Firing) → IsHitAmong m b xs f → IsHitAmong m b (xs ++ x ∷ []) f
  older xs x f h = record { instance = h.instance; among = Contains-append_left xs (x ∷ []) h.instance h.among; same = h.same; above = h.above; full = h.full; hit = h.hit }

  pub hits_skip : (xs : List Sliced) (x : Sliced) (firings : List Firing) → (is_below b x.binding ≡ true → bit_and m.must_bind (mask_of x.binding) ≡ m.must_bind → ⊥) → AreHits m b xs firings → AreHits m b (xs ++ x ∷ []) firings
  hits_skip xs x firings other h = record {
    each = λ f among. older xs x f (h.each f among);
    all = λ f hit. elim (Contains-append_cases xs (x ∷ []) hit.instance hit.among) [
      | inl before ↦ h.all f (record { instance = hit.instance; among = before; same = hit.same; above = hit.above; full = hit.full; hit = hit.hit })
      | inr here ↦
          let same : x.binding ≡ f.instance = ap (λ (i : Sliced). i.binding) (one x hit.instance here) ∙ hit.same in
          absurd (other (subst (λ t. is_below b t ≡ true) (sym same) hit.above) (subst (λ t. bit_and m.must_bind (mask_of t) ≡ m.must_bind) (sym same) hit.full))
    ];
  }

  pub hits_more : (xs : List Sliced) (x : Sliced) (firings new : List Firing) (hits : ℕ) → is_below b x.binding ≡ true → bit_and m.must_bind (mask_of x.binding) ≡ m.must_bind → hits < 2 ^ 16
      → ((k : ℕ) → (IsBitSet hits k ↔ IsHit m x.word k)) → IsPushed x.binding hits 16 firings new → AreHits m b xs firings → AreHits m b (xs ++ x ∷ []) new
  hits_more xs x firings new hits above full fits is pushed h = record {
    each = λ f among. elim (pushed.each f among) [
      | inl before ↦ older xs x f (h.each f before)
      | inr p ↦ record {
        instance = x;
        among = Contains-append_right xs (x ∷ []) x (Contains-head x []);
        same = sym p.0;
        above = subst (λ t. is_below b t ≡ true) (sym p.0) above;
        full = subst (λ t. bit_and m.must_bind (mask_of t) ≡ m.must_bind) (sym p.0) full;
        hit = (is f.handler).0 (set_from_bit hits f.handler p.2);
      }
    ];
    all = λ f hit. elim (Contains-append_cases xs (x ∷ []) hit.instance hit.among) [
      | inl before ↦ pushed.kept f (h.all f (record { instance = hit.instance; among = before; same = hit.same; above = hit.above; full = hit.full; hit = hit.hit }))
      | inr here ↦
          let mine : x ≡ hit.instance = one x hit.instance here in
          let set : IsBitSet hits f.handler = (is f.handler).1 (subst (λ (i : Sliced). IsHit m i.word f.handler) (sym mine) hit.hit) in
          let same : x.binding ≡ f.instance = ap (λ (i : Sliced). i.binding) mine ∙ hit.same in
          let there : Contains new (record { instance = x.binding; handler = f.handler }) = pushed.all f.handler (bit_below hits 16 f.handler fits set) (bit_from_set hits f.handler set) in
          subst (λ (t : Binding). Contains new (record { instance = t; handler = f.handler })) same there
    ];
  }

  pub report_of : (instances : List Sliced) (firings others : List Firing) → IsStrictlySortedBy firing_cmp others → AreSame firings others → AreHits m b instances firings → IsReport m b instances others
  report_of instances firings others up same h = record {
    increasing = up;
    hits = record { each = λ f among. h.each f ((same f).1 among); all = λ f hit. (same f).0 (h.all f hit) };
  }

-- the report is the answer
pub answer_of : (m : Meaning) (trace : List ParametricEvent) (a : ParametricEvent) (instances : List Sliced) (firings : List Firing) → AreInstancesOf m (trace ++ a ∷ []) instances → IsReport m a.binding instances firings → IsAnswer m trace a firings
answer_of m trace a instances firings are report = record {
  increasing = report.increasing;
  exact = λ f. (
    (λ among.
        let h = report.hits.each f among in
        record {
          instance = (are.exact f.instance).0 (h.instance, h.among, h.same);
          above = h.above;
          full = h.full;
          hit = subst (λ w. IsHit m w f.handler) (are.slices h.instance h.among ∙ ap (slice_of (trace ++ a ∷ [])) h.same) h.hit;
        }),
    (λ fires.
        let i = (are.exact f.instance).1 fires.instance in
        report.hits.all f (record {
          instance = i.0;
          among = i.1;
          same = i.2;
          above = fires.above;
          full = fires.full;
          hit = subst (λ w. IsHit m w f.handler) (ap (slice_of (trace ++ a ∷ [])) (sym i.2) ∙ sym (are.slices i.0 i.1)) fires.hit;
        })),
  );
}

-- ---- what a pass keeps
module _ (m : Meaning) (flags : List Bool) where
  pub alive_none : AreAlive m flags [] []
  alive_none = record { each = λ t h. absurd (Contains-nil t h); all = λ i h alive. absurd (Contains-nil i h) }

  pub alive_skip : (xs : List Sliced) (x : Sliced) (alive : List Binding) → IsCutBy m flags x → AreAlive m flags xs alive → AreAlive m flags (xs ++ x ∷ []) alive
  alive_skip xs x alive cut h = record {
    each = λ t among. let i = h.each t among in (i.0, Contains-append_left xs (x ∷ []) i.0 i.1, i.2, i.3);
    all = λ i among uncut. elim (Contains-append_cases xs (x ∷ []) i among) [
      | inl before ↦ h.all i before uncut
      | inr here ↦ absurd (uncut (subst (IsCutBy m flags) (one x i here) cut))
    ];
  }

  pub alive_more : (xs : List Sliced) (x : Sliced) (alive : List Binding) → (IsCutBy m flags x → ⊥) → AreAlive m flags xs alive → AreAlive m flags (xs ++ x ∷ []) (alive ++ x.binding ∷ [])
  alive_more xs x alive uncut h = record {
    each = λ t among. elim (Contains-append_cases alive (x.binding ∷ []) t among) [
      | inl before ↦ let i = h.each t before in (i.0, Contains-append_left xs (x ∷ []) i.0 i.1, i.2, i.3)
      | inr here ↦ (x, Contains-append_right xs (x ∷ []) x (Contains-head x []), one x.binding t here, uncut)
    ];
    all = λ i among alive'. elim (Contains-append_cases xs (x ∷ []) i among) [
      | inl before ↦ Contains-append_left alive (x.binding ∷ []) i.binding (h.all i before alive')
      | inr here ↦ subst (λ (j : Sliced). Contains (alive ++ x.binding ∷ []) j.binding) (one x i here) (Contains-append_right alive (x.binding ∷ []) x.binding (Contains-head x.binding []))
    ];
  }

  pub kept_of : (instances : List Sliced) (alive kept : List Binding) → IsStrictlySortedBy binding_cmp kept → ((t : Binding) → Contains alive t ↔ Contains kept t) → AreAlive m flags instances alive → AreKept m flags instances kept
  kept_of instances alive kept up same h = record {
    increasing = up;
    alive = record { each = λ t among. h.each t ((same t).1 among); all = λ i among uncut. (same i.binding).0 (h.all i among uncut) };
  }

pub count_of : (m : Meaning) (h : List Entry) (flags : List Bool) (instances : List Sliced) (kept : List Binding) → ((o : ℕ) → is_flagged flags o ≡ is_dead h o) → AreInstancesOf m (trace_of h) instances
    → AreKept m flags instances kept → IsKeptCount m h (length kept)
count_of m h flags instances kept dead are k = record {
  kept = kept;
  increasing = k.increasing;
  exact = λ t. (
    (λ among.
        let i = k.alive.each t among in
        ((are.exact t).0 (i.0, i.1, i.2), λ cut. i.3 (from_slice i.0 t i.1 i.2 (by_flags t cut)))),
    (λ alive.
        let i = (are.exact t).1 alive.0 in
        subst (Contains kept) i.2 (k.alive.all i.0 i.1 (λ cut. alive.1 (from_flags t (to_slice i.0 t i.1 i.2 cut))))),
  );
  count = refl;
}
  where
    from_slice : (i : Sliced) (t : Binding) → Contains instances i → i.binding ≡ t → IsCutWord m (slice_of (trace_of h) t) (mask_where (is_flagged flags) t) → IsCutBy m flags i
    from_slice i t among same cut =
        subst (λ w. IsCutWord m w (mask_where (is_flagged flags) i.binding)) (sym (are.slices i among))
        (subst (λ (s : Binding). IsCutWord m (slice_of (trace_of h) s) (mask_where (is_flagged flags) s)) (sym same) cut)

    to_slice : (i : Sliced) (t : Binding) → Contains instances i → i.binding ≡ t → IsCutBy m flags i → IsCutWord m (slice_of (trace_of h) t) (mask_where (is_flagged flags) t)
    to_slice i t among same cut =
        subst (λ (s : Binding). IsCutWord m (slice_of (trace_of h) s) (mask_where (is_flagged flags) s)) same
        (subst (λ w. IsCutWord m w (mask_where (is_flagged flags) i.binding)) (are.slices i among) cut)

    masks : (t : Binding) → mask_where (is_flagged flags) t ≡ dead_mask h t
    masks t = λ j. mask_where (λ o. dead o j) t

    by_flags : (t : Binding) → IsCut m h t → IsCutWord m (slice_of (trace_of h) t) (mask_where (is_flagged flags) t)
    by_flags t cut = subst (IsCutWord m (slice_of (trace_of h) t)) (sym (masks t)) cut

    from_flags : (t : Binding) → IsCutWord m (slice_of (trace_of h) t) (mask_where (is_flagged flags) t) → IsCut m h t
    from_flags t cut = subst (IsCutWord m (slice_of (trace_of h) t)) (masks t) cut

-- what holds of all letters holds of the one at a place
pub at_place : (P : ℕ → Type 0) (w : List ℕ) (i : ℕ) → AllByRecursion P w → i < length w → P (get_or w i 0)
at_place P [] i h there = absurd (omega (arith, there))
at_place P (e ∷ w) zero h there = h.0
at_place P (e ∷ w) (suc i) h there = at_place P w i h.1 (omega (arith, there))

pub not_both : (b : Bool) → b ≡ true → b ≡ false → ⊥
not_both b is isnt = false≢true (sym isnt ∙ is)
