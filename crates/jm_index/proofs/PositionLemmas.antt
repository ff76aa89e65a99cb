-- The positions of bindings after a change under a key, or among all others.
use Rattle.std.proofs.Common.{◌≡◌, ℕ, ◌==◌, true, false, cond, List, [], ◌∷◌, Option, Some, None, length, get_or, refl, sym, ap, ◌∙◌, arith, ◌⊎◌, inl, inr}
use Rattle.std.specs.Option.{option_or}
use Rattle.std.specs.Prelude.{Result, Ok, Err, OnErr}
use Rattle.std.specs.Map.{lookup}
use Rattle.std.specs.HashMap.{get}
use Rattle.std.proofs.lemmas.Bool.{cases_Bool, and_parts, eqb-true, eq-eqb, false_from_ne_true, both_ways}
use Rattle.std.proofs.lemmas.List.{get_or_past}
use Rattle.jm_model.specs.Bindings.{objects_of, mask_of}
use Rattle.jm_model.specs.Layout.{binding_eq}
use Rattle.jm_model.proofs.EqLemmas.{binding_eq-Decides}
use Rattle.jm_index.specs.declared.key.ParamPair.{ParamPair}
use Rattle.jm_index.specs.declared.key.Key.{Key}
use Rattle.jm_index.specs.declared.key.Key.TheVariants.{Empty, One, Two, More}
use Rattle.jm_index.specs.declared.positions.Positions.{Positions}
use Rattle.jm_index.specs.Keys.{key_by, key_of, param_pair_eq, position_plus_one_at, position_in}
use Rattle.jm_index.specs.Positions.{at_key, position_of, IsPut, IsSameAt, IsSame, IsUpdated}

abbrev Bound : Type 0
Bound = List (Option ℕ)

-- ---- a binding is told by its parameters and objects
same_binding : (a b : Bound) → length a ≡ length b → mask_of a ≡ mask_of b → objects_of a ≡ objects_of b → a ≡ b
same_binding [] [] l m os = refl
same_binding [] (y ∷ b) l m os = cc
same_binding (x ∷ a) [] l m os = cc
same_binding (None ∷ a) (None ∷ b) l m os = ap (λ (v : Bound). None ∷ v) (same_binding a b (omega (arith, l)) (omega (arith, m)) os)
same_binding (None ∷ a) (Some y ∷ b) l m os = absurd (omega (arith, m))
same_binding (Some x ∷ a) (None ∷ b) l m os = absurd (omega (arith, m))
same_binding (Some x ∷ a) (Some y ∷ b) l m os =
    let first : x ≡ y = cc in
    let others : objects_of a ≡ objects_of b = cc in
    let rest : a ≡ b = same_binding a b (omega (arith, l)) (omega (arith, m)) others in
    cc

unbound_mask : (b : Bound) → objects_of b ≡ [] → mask_of b ≡ 0
unbound_mask [] none = refl
unbound_mask (None ∷ b) none = let rest = unbound_mask b none in omega (arith, rest)
unbound_mask (Some o ∷ b) none = cc

same_parts : (m n : ℕ) (os ps : List ℕ) → key_by m os ≡ key_by n ps → (key_by m os ≡ More → ⊥) → (os ≡ ps) × ((os ≡ []) ⊎ (m ≡ n))
same_parts m n [] [] e exact = (refl, inl refl)
same_parts m n [] (p ∷ []) e exact = cc
same_parts m n [] (p ∷ q ∷ []) e exact = cc
same_parts m n [] (p ∷ q ∷ r ∷ ps) e exact = cc
same_parts m n (o ∷ []) [] e exact = cc
same_parts m n (o ∷ []) (p ∷ []) e exact =
    let mask : m ≡ n = cc in
    let first : o ≡ p = cc in
    (ap (λ (v : ℕ). v ∷ []) first, inr mask)
same_parts m n (o ∷ []) (p ∷ q ∷ []) e exact = cc
same_parts m n (o ∷ []) (p ∷ q ∷ r ∷ ps) e exact = cc
same_parts m n (o ∷ u ∷ []) [] e exact = cc
same_parts m n (o ∷ u ∷ []) (p ∷ []) e exact = cc
same_parts m n (o ∷ u ∷ []) (p ∷ q ∷ []) e exact =
    let both : ◌≡◌ {A = ParamPair} (record { mask = m; first = o; second = u }) (record { mask = n; first = p; second = q }) = cc in
    let first : o ≡ p = ap (λ (c : ParamPair). c.first) both in
    let second : u ≡ q = ap (λ (c : ParamPair). c.second) both in
    (rw (first, second) refl, inr (ap (λ (c : ParamPair). c.mask) both))
same_parts m n (o ∷ u ∷ []) (p ∷ q ∷ r ∷ ps) e exact = cc
same_parts m n (o ∷ u ∷ w ∷ os) ps e exact = absurd (exact refl)

-- so two bindings of one key are one, unless it is that of all others
pub key_of-same : (a b : Bound) → length a ≡ 8 → length b ≡ 8 → key_of a ≡ key_of b → (key_of a ≡ More → ⊥) → a ≡ b
key_of-same a b eight other e exact = by (same_parts (mask_of a) (mask_of b) (objects_of a) (objects_of b) e exact)
  where
    by : (objects_of a ≡ objects_of b) × ((objects_of a ≡ []) ⊎ (mask_of a ≡ mask_of b)) → a ≡ b
    by (os, inr m) = same_binding a b (eight ∙ sym other) m os
    by (os, inl none) = same_binding a b (eight ∙ sym other) (unbound_mask a none ∙ sym (unbound_mask b (sym os ∙ none))) os

more_or_not : (key : Key) → (key ≡ More) ⊎ (key ≡ More → ⊥)
more_or_not Empty = inr (λ e. cc)
more_or_not (One m o) = inr (λ e. cc)
more_or_not (Two c) = inr (λ e. cc)
more_or_not More = inl refl

-- ---- pairs of parameters
same_param_pair : (m n o p u q : ℕ) → m ≡ n → o ≡ p → u ≡ q → ◌≡◌ {A = ParamPair} (record { mask = m; first = o; second = u }) (record { mask = n; first = p; second = q })
same_param_pair m n o p u q mask first second = rw (mask, first, second) refl

param_pair_eq-true : (a b : ParamPair) → param_pair_eq a b ≡ true → a ≡ b
param_pair_eq-true a b e =
    let parts = and_parts _ _ e in
    let rest = and_parts _ _ parts.1 in
    same_param_pair _ _ _ _ _ _ (eqb-true _ _ parts.0) (eqb-true _ _ rest.0) (eqb-true _ _ rest.1)

param_pair_eq-refl : (a : ParamPair) → param_pair_eq a a ≡ true
param_pair_eq-refl a = rw (eq-eqb a.mask a.mask refl, eq-eqb a.first a.first refl, eq-eqb a.second a.second refl) refl

pub put_param_pair : (s t : Positions) (param_pair : ParamPair) (w : Option ℕ) → t.empty ≡ s.empty → t.rows ≡ s.rows
    → ((q : ParamPair) → get param_pair_eq t.param_pairs q ≡ cond (param_pair_eq param_pair q) w (get param_pair_eq s.param_pairs q)) → IsPut (Two param_pair) w s t
put_param_pair s t param_pair w empty rows updated =
    record {
      here = updated param_pair ∙ rw (param_pair_eq-refl param_pair) refl;
      exact = λ e. cc;
      elsewhere = λ other apart. elsewhere other apart;
    }
  where
    elsewhere : (other : Key) → (other ≡ Two param_pair → ⊥) → at_key t other ≡ at_key s other
    elsewhere Empty apart = empty
    elsewhere (One m o) apart = rw rows refl
    elsewhere (Two c) apart =
        let differs : param_pair_eq param_pair c ≡ false = false_from_ne_true _ (λ same. apart (ap (λ (v : ParamPair). Two v) (sym (param_pair_eq-true param_pair c same)))) in
        updated c ∙ rw differs refl
    elsewhere More apart = refl

-- ---- all bindings
position-same : (s t : Positions) (q : Bound) → at_key t (key_of q) ≡ at_key s (key_of q) → get binding_eq t.others q ≡ get binding_eq s.others q → position_of t q ≡ position_of s q
unfolding position_of
position-same s t q at among = rw (at, among) refl

pub position-here : (s : Positions) (b : Bound) → length b ≡ 8 → position_of s b ≡ option_or (at_key s (key_of b)) (get binding_eq s.others b)
unfolding position_of
position-here s b eight = rw (eq-eqb (length b) 8 eight) refl

-- a binding that isn't b has another length than eight places, or another key, or that of all others
at-other : (s t : Positions) (b q : Bound) → length b ≡ 8 → length q ≡ 8 → (b ≡ q → ⊥) → ((other : Key) → (other ≡ key_of b → ⊥) → at_key t other ≡ at_key s other)
    → at_key t (key_of q) ≡ at_key s (key_of q)
at-other s t b q eight length_is apart elsewhere =
    elim (more_or_not (key_of q)) [
      | inl more ↦ rw more refl
      | inr exact ↦ elsewhere (key_of q) (λ same. apart (sym (key_of-same q b length_is eight same exact)))
    ]

position-longer : (s t : Positions) (q : Bound) → (length q ≡ 8 → ⊥) → position_of t q ≡ position_of s q
unfolding position_of
position-longer s t q other = let test : (length q == 8) ≡ false = false_from_ne_true _ (λ e. other (eqb-true (length q) 8 e)) in rw test refl

position-other : (s t : Positions) (b q : Bound) → length b ≡ 8 → (b ≡ q → ⊥) → ((other : Key) → (other ≡ key_of b → ⊥) → at_key t other ≡ at_key s other)
    → get binding_eq t.others q ≡ get binding_eq s.others q → position_of t q ≡ position_of s q
position-other s t b q eight apart elsewhere among = by (cases_Bool (length q == 8))
  where
    by : ((length q == 8) ≡ true) ⊎ ((length q == 8) ≡ false) → position_of t q ≡ position_of s q
    by (inl test) = position-same s t q (at-other s t b q eight (eqb-true (length q) 8 test) apart elsewhere) among
    by (inr test) = position-longer s t q (λ is. both_ways (length q == 8) test (eq-eqb (length q) 8 is))

-- what one binding has after a change, and all others as before
updated_by : (s t : Positions) (b : Bound) (w : Option ℕ) → length b ≡ 8 → position_of t b ≡ w → ((other : Key) → (other ≡ key_of b → ⊥) → at_key t other ≡ at_key s other)
    → ((q : Bound) → binding_eq b q ≡ false → get binding_eq t.others q ≡ get binding_eq s.others q) → IsUpdated b w s t
updated_by s t b w eight here elsewhere among q = by (cases_Bool (binding_eq b q))
  where
    by : (binding_eq b q ≡ true) ⊎ (binding_eq b q ≡ false) → position_of t q ≡ cond (binding_eq b q) w (position_of s q)
    by (inl test) = let same : b ≡ q = (binding_eq-Decides b q).0 test in rw test (ap (position_of t) (sym same) ∙ here)
    by (inr test) =
        rw test (position-other s t b q eight (λ same. both_ways (binding_eq b q) test ((binding_eq-Decides b q).1 same)) elsewhere (among q test))

pub put_key : (s t : Positions) (b : Bound) (k : ℕ) → length b ≡ 8 → t.others ≡ s.others → IsPut (key_of b) (Some k) s t → IsUpdated b (Some k) s t
put_key s t b k eight others put =
    updated_by s t b (Some k) eight (position-here t b eight ∙ rw (put.here) refl) put.elsewhere (λ q apart. ap (λ v. get binding_eq v q) others)

none_of_or : (x y : Option ℕ) → option_or x y ≡ None → x ≡ None
none_of_or None y e = refl
none_of_or (Some v) y e = cc

pub put_other : (s t : Positions) (b : Bound) (k : ℕ) → length b ≡ 8 → position_of s b ≡ None → IsSameAt s t
    → ((q : Bound) → get binding_eq t.others q ≡ cond (binding_eq b q) (Some k) (get binding_eq s.others q)) → IsUpdated b (Some k) s t
put_other s t b k eight absent same updated =
    let none : at_key s (key_of b) ≡ None = none_of_or _ _ (sym (position-here s b eight) ∙ absent) in
    let self : binding_eq b b ≡ true = (binding_eq-Decides b b).1 refl in
    let among : get binding_eq t.others b ≡ Some k = updated b ∙ rw self refl in
    updated_by s t b (Some k) eight (position-here t b eight ∙ rw (same (key_of b), none, among) refl) (λ other apart. same other) (λ q apart. updated q ∙ rw apart refl)

pub same_positions : (s t : Positions) → IsSameAt s t → ((q : Bound) → get binding_eq t.others q ≡ get binding_eq s.others q) → IsSame s t
same_positions s t same among q = position-same s t q (same (key_of q)) (among q)

pub taken : (s m t : Positions) (b : Bound) → length b ≡ 8 → m.others ≡ s.others → IsPut (key_of b) None s m → IsSameAt m t
    → ((q : Bound) → get binding_eq t.others q ≡ cond (binding_eq b q) None (get binding_eq m.others q)) → IsUpdated b None s t
taken s m t b eight others put same updated =
    let self : binding_eq b b ≡ true = (binding_eq-Decides b b).1 refl in
    let among : get binding_eq t.others b ≡ None = updated b ∙ rw self refl in
    let here : at_key t (key_of b) ≡ None = same (key_of b) ∙ put.here in
    updated_by s t b None eight (position-here t b eight ∙ rw (here, among) refl) (λ other apart. same other ∙ put.elsewhere other apart)
    (λ q apart. updated q ∙ rw apart (ap (λ v. get binding_eq v q) others))

no_positions : (s : Positions) → ((key : Key) → at_key s key ≡ None) → ((q : Bound) → get binding_eq s.others q ≡ None) → (b : Bound) → position_of s b ≡ None
unfolding position_of
no_positions s none among b = rw (none (key_of b), among b) (elim (length b == 8) as (λ v. ◌≡◌ {A = Option ℕ} (cond v None None) None) [ true ↦ refl | false ↦ refl ])

no_position_plus_one : (m o : ℕ) → position_plus_one_at [] m o ≡ 0
no_position_plus_one m o = ap (λ (row : List ℕ). get_or row o 0) (get_or_past {X = List ℕ} [] m [] (omega arith)) ∙ get_or_past {X = ℕ} [] o 0 (omega arith)

-- where nothing was put
pub bare : (s : Positions) → s.empty ≡ None → s.rows ≡ [] → s.param_pairs.entries ≡ [] → s.others.entries ≡ [] → (b : Bound) → position_of s b ≡ None
bare s empty rows param_pairs others = no_positions s none (λ q. ap (λ (es : List (Bound × ℕ)). lookup (binding_eq q) es) others)
  where
    none : (key : Key) → at_key s key ≡ None
    none Empty = empty
    none (One m o) = ap (λ (rs : List (List ℕ)). position_in (position_plus_one_at rs m o)) rows ∙ ap position_in (no_position_plus_one m o)
    none (Two c) = ap (λ (es : List (ParamPair × ℕ)). lookup (param_pair_eq c) es) param_pairs
    none More = refl

pub on_err : {T E : Type 0} (r : Result T E) (P : Type 0) → P → OnErr r P
on_err (Ok x) P h = tt
on_err (Err e) P h = h
