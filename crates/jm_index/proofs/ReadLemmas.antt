-- What stands in a posting, in rising order, is read in the order of the entries.
use Rattle.std.proofs.Common.{◌≡◌, ℕ, zero, suc, ◌+◌, ◌-◌, ◌≤◌, Bool, true, false, cond, List, [], ◌∷◌, Option, Some, None, refl, sym, ◌∙◌, subst, arith, ◌⊎◌, inl, inr}
use Rattle.std.specs.Prelude.{Contains, slice_get, option_and_then, filter}
use Rattle.std.specs.List.{cons_option, filter_map}
use Rattle.std.proofs.lemmas.Bool.{cases_eq}
use Rattle.jm_index.specs.Layout.{Rises}

pub Contains-none : {X : Type 0} (x : X) → Contains [] x → ⊥
Contains-none x (k, h, e) = omega arith

pub Contains-tail : {X : Type 0} (y x : X) (xs : List X) → Contains (y ∷ xs) x → (y ≡ x → ⊥) → Contains xs x
Contains-tail y x xs (zero, h, e) apart = absurd (apart e)
Contains-tail y x xs (suc k, h, e) apart = (k, (omega arith), e)

pub Contains-cons : {X : Type 0} (y x : X) (xs : List X) → Contains xs x → Contains (y ∷ xs) x
Contains-cons y x xs (k, h, e) = (suc k, (omega arith), e)

pub Contains-of_filter : {X : Type 0} (test : X → Bool) (xs : List X) (x : X) → Contains (filter test xs) x → Contains xs x
Contains-of_filter test [] x h = h
Contains-of_filter {X} test (y ∷ xs) x h = at (Contains-of_filter test xs x) (test y) h
  where
    at : (Contains (filter test xs) x → Contains xs x) → (v : Bool) → Contains (cond v (y ∷ filter test xs) (filter test xs)) x → Contains (y ∷ xs) x
    at ih true (zero, l, e) = (zero, (omega arith), e)
    at ih true (suc k, l, e) = Contains-cons y x xs (ih (k, (omega arith), e))
    at ih false g = Contains-cons y x xs (ih g)

-- what rises from `low` on is no less
pub rising_from : (low x : ℕ) (ps : List ℕ) → Rises low ps → Contains ps x → low ≤ x
rising_from low x [] r there = absurd (Contains-none x there)
rising_from low x (y ∷ ps) r (zero, h, e) = omega (arith, r.0, e)
rising_from low x (y ∷ ps) r (suc k, h, e) =
    let rest : suc y ≤ x = rising_from (suc y) x ps r.1 (k, (omega arith), e) in
    omega (arith, r.0, rest)

pub Rises-lower : (low high : ℕ) (ps : List ℕ) → low ≤ high → Rises high ps → Rises low ps
Rises-lower low high [] h r = tt
Rises-lower low high (x ∷ ps) h r = (omega (arith, r.0), r.1)

module _ {X Y : Type 0} (f : X → Option Y) where
  -- what f gives of the element at a place, counted from b
  abbrev pub at_place : List X → ℕ → ℕ → Option Y
  at_place es b p = option_and_then f (slice_get es (p - b))

  -- each place of which f gives something is among ps
  abbrev pub AllAmong : List X → ℕ → List ℕ → Type 0
  AllAmong es b ps = (k : ℕ) (e : X) (v : Y) → slice_get es k ≡ Some e → f e ≡ Some v → Contains ps (b + k)

  none_past : (b : ℕ) (ps : List ℕ) → filter_map (at_place [] b) ps ≡ []
  none_past b [] = refl
  none_past b (p ∷ ps) = none_past b ps

  cons_none : (o : Option Y) (ys : List Y) → ((v : Y) → o ≡ Some v → ⊥) → cons_option o ys ≡ ys
  cons_none None ys h = refl
  cons_none (Some v) ys h = absurd (h v refl)

  at_next : (e : X) (es : List X) (b p : ℕ) → suc b ≤ p → at_place (e ∷ es) b p ≡ at_place es (suc b) p
  at_next e es b p h =
      let next : p - b ≡ suc (p - suc b) = omega arith in
      rw next

  shifted : (e : X) (es : List X) (b : ℕ) (ps : List ℕ) → Rises (suc b) ps → filter_map (at_place (e ∷ es) b) ps ≡ filter_map (at_place es (suc b)) ps
  shifted e es b [] r = refl
  shifted e es b (p ∷ ps) r =
      let rest = shifted e es b ps (Rises-lower (suc b) (suc p) ps (omega (arith, r.0)) r.1) in
      rw (at_next e es b p r.0, rest)

  -- the rest of the places, where the first isn't among the positions from there on
  among_rest : (e : X) (es : List X) (b : ℕ) (ps qs : List ℕ) → AllAmong (e ∷ es) b ps → ((x : ℕ) → suc b ≤ x → Contains ps x → Contains qs x) → AllAmong es (suc b) qs
  among_rest e es b ps qs all keep k y v at is =
      let next : b + suc k ≡ suc b + k = omega arith in
      keep (suc b + k) (omega arith) (subst (λ (n : ℕ). Contains ps n) next (all (suc k) y v at is))

  step : (e : X) (es : List X) (b p : ℕ) (ps : List ℕ) → ((qs : List ℕ) → Rises (suc b) qs → AllAmong es (suc b) qs → filter_map (at_place es (suc b)) qs ≡ filter_map f es)
      → Rises b (p ∷ ps) → AllAmong (e ∷ es) b (p ∷ ps) → (p ≡ b) ⊎ (p ≡ b → ⊥) → filter_map (at_place (e ∷ es) b) (p ∷ ps) ≡ filter_map f (e ∷ es)
  step e es b p ps ih r all (inl here) =
      let rises : Rises (suc b) ps = Rises-lower (suc b) (suc p) ps (omega (arith, here)) r.1 in
      let rest = ih ps rises (among_rest e es b (p ∷ ps) ps all (λ x above there. Contains-tail p x ps there (λ same. omega (arith, same, here, above)))) in
      let first : p - b ≡ 0 = omega (arith, here) in
      rw (first, shifted e es b ps rises, rest)
  step e es b p ps ih r all (inr apart) =
      let above : suc b ≤ p = omega (arith, r.0, apart) in
      let rises : Rises (suc b) (p ∷ ps) = (above, r.1) in
      let rest = ih (p ∷ ps) rises (among_rest e es b (p ∷ ps) (p ∷ ps) all (λ x low there. there)) in
      let zeroth : b + 0 ≡ b = omega arith in
      let none : (v : Y) → f e ≡ Some v → ⊥ =
      λ v is. let there : p ≤ b = rising_from p b (p ∷ ps) ((omega arith), r.1) (subst (λ (n : ℕ). Contains (p ∷ ps) n) zeroth (all 0 e v refl is)) in omega (arith, there, above)
      in
      shifted e es b (p ∷ ps) rises ∙ rest ∙ sym (cons_none (f e) (filter_map f es) none)

  read_from : (es : List X) (b : ℕ) (ps : List ℕ) → Rises b ps → AllAmong es b ps → filter_map (at_place es b) ps ≡ filter_map f es
  read_from [] b ps r all = none_past b ps
  read_from (e ∷ es) b [] r all =
      let rest : [] ≡ filter_map f es = read_from es (suc b) [] tt (among_rest e es b [] [] all (λ x low there. there)) in
      rest ∙ sym (cons_none (f e) (filter_map f es) (λ v is. Contains-none (b + 0) (all 0 e v refl is)))
  read_from (e ∷ es) b (p ∷ ps) r all = step e es b p ps (read_from es (suc b)) r all (cases_eq p b)

  at_zero : (es : List X) (p : ℕ) → option_and_then f (slice_get es p) ≡ at_place es 0 p
  at_zero es p =
      let same : p - 0 ≡ p = omega arith in
      rw same

  from_zero : (es : List X) (ps : List ℕ) → filter_map (λ p. option_and_then f (slice_get es p)) ps ≡ filter_map (at_place es 0) ps
  from_zero es [] = refl
  from_zero es (p ∷ ps) = rw (at_zero es p, from_zero es ps)

  -- positions in rising order, among which stands each of which f gives something
  pub read_all : (es : List X) (ps : List ℕ) → Rises 0 ps → ((k : ℕ) (e : X) (v : Y) → slice_get es k ≡ Some e → f e ≡ Some v → Contains ps k)
      → filter_map (λ p. option_and_then f (slice_get es p)) ps ≡ filter_map f es
  read_all es ps r all =
      let among : AllAmong es 0 ps =
      λ k e v at is. let same : k ≡ 0 + k = omega arith in subst (λ (n : ℕ). Contains ps n) same (all k e v at is)
      in
      from_zero es ps ∙ read_from es 0 ps r among
