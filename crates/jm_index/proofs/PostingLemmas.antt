-- Postings that rise, and what is left of one that was thinned out.
use Rattle.std.proofs.Common.{◌≡◌, ℕ, zero, suc, ◌-◌, ◌<◌, ◌≤◌, Bool, true, false, cond, List, [], ◌∷◌, ◌++◌, Some, length, refl, sym, ap, ◌∙◌, subst, arith, ◌⊎◌, inl, inr}
use Rattle.std.specs.Prelude.{Contains, slice_get, filter}
use Rattle.std.proofs.lemmas.Bool.{cases_eq}
use Rattle.std.proofs.lemmas.List.Elements.{Contains-append_left, Contains-push_cases}
use Rattle.jm_index.specs.Layout.{Rises, IsFiled}
use Rattle.jm_index.specs.Postings.{IsThinned}
use Rattle.jm_index.proofs.ReadLemmas.{Contains-none, Contains-tail, Contains-cons, Contains-of_filter, Rises-lower}

-- a number above all goes to the end
pub Rises-push : (low k : ℕ) (ps : List ℕ) → low ≤ k → Rises low ps → ((x : ℕ) → Contains ps x → x < k) → Rises low (ps ++ k ∷ [])
Rises-push low k [] h r below = (h, tt)
Rises-push low k (x ∷ ps) h r below =
    let first : x < k = below x (0, (omega arith), refl) in
    (r.0, Rises-push (suc x) k ps (omega (arith, first)) r.1 (λ y there. below y (Contains-cons x y ps there)))

-- what is at most k is below k, unless the last is k
pub below_last : (low k : ℕ) (ps : List ℕ) → Rises low ps → ((x : ℕ) → Contains ps x → x ≤ k) → (slice_get ps (length ps - 1) ≡ Some k → ⊥)
    → (x : ℕ) → Contains ps x → x < k
below_last low k [] r most last x there = absurd (Contains-none x there)
below_last low k (y ∷ []) r most last x (zero, h, e) =
    let top : y ≤ k = most y (0, (omega arith), refl) in
    let apart : y ≡ k → ⊥ = λ same. last (ap (λ (n : ℕ). Some n) same) in
    omega (arith, top, apart, e)
below_last low k (y ∷ []) r most last x (suc j, h, e) = absurd (omega arith)
below_last low k (y ∷ z ∷ ps) r most last x there =
    at (below_last (suc y) k (z ∷ ps) r.1 (λ v h. most v (Contains-cons y v (z ∷ ps) h)) rest_last) (cases_eq y x)
  where
    next : suc (suc (length ps)) - 1 ≡ suc (length ps)
    next = omega arith

    rest_next : suc (length ps) - 1 ≡ length ps
    rest_next = omega arith

    rest_last : slice_get (z ∷ ps) (length (z ∷ ps) - 1) ≡ Some k → ⊥
    rest_last is =
        let here : slice_get (z ∷ ps) (length ps) ≡ Some k = rw rest_next at is in
        let there : slice_get (y ∷ z ∷ ps) (suc (length ps)) ≡ Some k = here in
        last (subst (λ (n : ℕ). slice_get (y ∷ z ∷ ps) n ≡ Some k) (sym next) there)

    at : ((w : ℕ) → Contains (z ∷ ps) w → w < k) → (y ≡ x) ⊎ (y ≡ x → ⊥) → x < k
    at rest (inl same) =
        let up : z < k = rest z (0, (omega arith), refl) in
        let low : suc y ≤ z = r.1.0 in
        omega (arith, up, low, same)
    at rest (inr apart) = rest x (Contains-tail y x (z ∷ ps) there apart)

pub Rises-filter : (test : ℕ → Bool) (low : ℕ) (ps : List ℕ) → Rises low ps → Rises low (filter test ps)
Rises-filter test low [] r = tt
Rises-filter test low (x ∷ ps) r = at (Rises-filter test (suc x) ps r.1) (test x)
  where
    at : Rises (suc x) (filter test ps) → (v : Bool) → Rises low (cond v (x ∷ filter test ps) (filter test ps))
    at rest true = (r.0, rest)
    at rest false = Rises-lower low (suc x) (filter test ps) (omega (arith, r.0)) rest

pub Contains-in_filter : (test : ℕ → Bool) (ps : List ℕ) (x : ℕ) → test x ≡ true → Contains ps x → Contains (filter test ps) x
Contains-in_filter test [] x pass there = there
Contains-in_filter test (y ∷ ps) x pass there = at (Contains-in_filter test ps x pass) (cases_eq y x)
  where
    kept : (v : Bool) → Contains (filter test ps) x → Contains (cond v (y ∷ filter test ps) (filter test ps)) x
    kept true h = Contains-cons y x (filter test ps) h
    kept false h = h

    at : (Contains ps x → Contains (filter test ps) x) → (y ≡ x) ⊎ (y ≡ x → ⊥) → Contains (cond (test y) (y ∷ filter test ps) (filter test ps)) x
    at ih (inl same) =
        let passes : test y ≡ true = ap test same ∙ pass in
        rw passes (0, (omega arith), same)
    at ih (inr apart) = kept (test y) (ih (Contains-tail y x ps there apart))

-- a posting in which a number was filed at the end, by what it stands for
pub rising_pushed : (items value list : List ℕ) (k : ℕ) → items ≡ value → list ≡ items → Rises 0 items → ((x : ℕ) → Contains value x → x ≤ k)
    → (slice_get list (length list - 1) ≡ Some k → ⊥) → Rises 0 (items ++ k ∷ [])
rising_pushed items value list k is same rises most last =
    let all : (x : ℕ) → Contains items x → x ≤ k = subst (λ (v : List ℕ). (x : ℕ) → Contains v x → x ≤ k) (sym is) most in
    let end : slice_get items (length items - 1) ≡ Some k → ⊥ = subst (λ (v : List ℕ). slice_get v (length v - 1) ≡ Some k → ⊥) same last in
    Rises-push 0 k items (omega arith) rises (below_last 0 k items rises all end)

pub thinned_within : (test : ℕ → Bool) (items value new : List ℕ) → items ≡ value → new ≡ filter test items → (x : ℕ) → Contains new x → Contains value x
thinned_within test items value new is kept x there =
    subst (λ (v : List ℕ). Contains v x) is (Contains-of_filter test items x (subst (λ (v : List ℕ). Contains v x) kept there))

pub thinned_live : (test : ℕ → Bool) (items value new : List ℕ) → items ≡ value → new ≡ filter test items → (x : ℕ) → test x ≡ true → Contains value x → Contains new x
thinned_live test items value new is kept x pass there =
    subst (λ (v : List ℕ). Contains v x) (sym kept) (Contains-in_filter test items x pass (subst (λ (v : List ℕ). Contains v x) (sym is) there))

-- what is left of a posting that was thinned out
pub IsThinned-rises : (test : ℕ → Bool) (old new : List ℕ) → IsThinned test old new → Rises 0 old → Rises 0 new
IsThinned-rises test old new (inl same) r = rw same r
IsThinned-rises test old new (inr kept) r = rw kept (Rises-filter test 0 old r)

pub IsThinned-within : (test : ℕ → Bool) (items value new : List ℕ) → items ≡ value → IsThinned test items new → (x : ℕ) → Contains new x → Contains value x
IsThinned-within test items value new is (inl same) x there = subst (λ (v : List ℕ). Contains v x) (same ∙ is) there
IsThinned-within test items value new is (inr kept) x there = thinned_within test items value new is kept x there

pub IsThinned-live : (test : ℕ → Bool) (items value new : List ℕ) → items ≡ value → IsThinned test items new → (x : ℕ) → test x ≡ true → Contains value x → Contains new x
IsThinned-live test items value new is (inl same) x pass there = subst (λ (v : List ℕ). Contains v x) (sym (same ∙ is)) there
IsThinned-live test items value new is (inr kept) x pass there = thinned_live test items value new is kept x pass there

-- a number more, at the end
pub filed_last : (k : ℕ) (items value new : List ℕ) → items ≡ value → new ≡ items ++ k ∷ [] → IsFiled k value new
filed_last k items value new is pushed =
    let filed : IsFiled k items (items ++ k ∷ []) = ((λ x there. Contains-append_left items (k ∷ []) x there), last) in
    rw (← is, pushed) filed
  where
    last : (x : ℕ) → Contains (items ++ k ∷ []) x → Contains items x ⊎ (x ≡ k)
    last x there = elim (Contains-push_cases items k x there) [ inl was ↦ inl was | inr same ↦ inr (sym same) ]
