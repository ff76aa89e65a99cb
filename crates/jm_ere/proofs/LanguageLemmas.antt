use Rattle.std.proofs.Common.{ℕ, ◌≡◌, ◌≢◌, ◌↔◌, ◌==◌, ◌&&◌, ◌||◌, not, Bool, true, false, inl, inr, ◌⊎◌, List, [], ◌∷◌, ◌++◌, refl, sym, ap, subst, ◌∙◌, append_assoc, append-nil, if◌then◌else◌}
use Rattle.std.specs.List.{AllByRecursion}
use Rattle.std.proofs.lemmas.Bool.Decides.{eqb_tells}
use Rattle.jm_ere.specs.declared.tree.Operator.TheVariants.{Or, And}
use Rattle.jm_ere.specs.Expressions.{Expression, Symbol, EmptyWord, NoWord, Complement, Star, Plus, Product, Combination}
use Rattle.jm_ere.specs.Meanings.{InLanguage, IsSplit, IsChain, joined}
use Rattle.jm_ere.specs.NormalForms.{is_nullable}

-- ---- splits and chains

empty_front : (u v : List ℕ) → [] ≡ u ++ v → (u ≡ []) × (v ≡ [])
empty_front [] v e = (refl, sym e)
empty_front (x ∷ u) v e = cc

module _ (L M : List ℕ → Type 0) where
  pub split_empty : IsSplit L M [] ↔ (L [] × M [])
  split_empty = (
    λ h. let e = empty_front h.0 h.1 h.2 in (subst L e.0 h.3, subst M e.1 h.4),
    λ h. ([], [], refl, h.0, h.1),
  )

  front_step : (x : ℕ) (w front back : List ℕ) → (x ∷ w) ≡ front ++ back → L front → M back → (IsSplit (λ u. L (x ∷ u)) M w) ⊎ (L [] × M (x ∷ w))
  front_step x w [] back e l m = inr (l, subst M (sym e) m)
  front_step x w (y ∷ front) back e l m =
      let head : x ≡ y = cc in
      let tail : w ≡ front ++ back = cc in
      inl (front, back, tail, subst (λ (z : ℕ). L (z ∷ front)) (sym head) l, m)

  pub split_step : (x : ℕ) (w : List ℕ) → IsSplit L M (x ∷ w) ↔ ((IsSplit (λ u. L (x ∷ u)) M w) ⊎ (L [] × M (x ∷ w)))
  split_step x w = (
    λ h. front_step x w h.0 h.1 h.2 h.3 h.4,
    elim [
      | inl h ↦ (x ∷ h.0, h.1, ap (λ u. x ∷ u) h.2, h.3, h.4)
      | inr h ↦ ([], x ∷ w, refl, h.0, h.1)
    ],
  )

module _ (L : List ℕ → Type 0) where
  pub chain_empty : IsChain L []
  chain_empty = ([], tt, refl)

  first_step : (x : ℕ) (w : List ℕ) (words : List (List ℕ)) → AllByRecursion (λ u. (u ≢ []) × L u) words → (x ∷ w) ≡ joined words → IsSplit (λ u. L (x ∷ u)) (IsChain L) w
  first_step x w [] all e = cc
  first_step x w ([] ∷ words) all e = absurd (all.0.0 refl)
  first_step x w ((y ∷ u) ∷ words) all e =
      let head : x ≡ y = cc in
      let tail : w ≡ u ++ joined words = cc in
      (u, joined words, tail, subst (λ (z : ℕ). L (z ∷ u)) (sym head) all.0.1, (words, all.1, refl))

  pub chain_step : (x : ℕ) (w : List ℕ) → IsChain L (x ∷ w) ↔ IsSplit (λ u. L (x ∷ u)) (IsChain L) w
  chain_step x w = (
    λ h. first_step x w h.0 h.1 h.2,
    λ h. let more : (x ∷ h.0) ≢ [] = λ (e : ◌≡◌ {A = List ℕ} (x ∷ h.0) []). cc in
        ((x ∷ h.0) ∷ h.4.0, ((more, h.3), h.4.1), ap (λ u. x ∷ u) (h.2 ∙ ap (λ b. h.0 ++ b) h.4.2)),
  )

  joined_append : (us vs : List (List ℕ)) → joined us ++ joined vs ≡ joined (us ++ vs)
  joined_append [] vs = refl
  joined_append (u ∷ us) vs = append_assoc u (joined us) (joined vs) ∙ ap (λ w. u ++ w) (joined_append us vs)

  all_append : (P : List ℕ → Type 0) (us vs : List (List ℕ)) → AllByRecursion P us → AllByRecursion P vs → AllByRecursion P (us ++ vs)
  all_append P [] vs a b = b
  all_append P (u ∷ us) vs a b = (a.0, all_append P us vs a.1 b)

  pub chain_append : (u v : List ℕ) → IsChain L u → IsChain L v → IsChain L (u ++ v)
  chain_append u v h k = (
    h.0 ++ k.0,
    all_append (λ w. (w ≢ []) × L w) h.0 k.0 h.1 k.1,
    ap (λ w. w ++ v) h.2 ∙ ap (λ w. joined h.0 ++ w) k.2 ∙ joined_append h.0 k.0,
  )

  chains : (words : List (List ℕ)) → AllByRecursion (λ u. (u ≢ []) × IsChain L u) words → IsChain L (joined words)
  chains [] all = chain_empty
  chains (u ∷ words) all = chain_append u (joined words) all.0.1 (chains words all.1)

  one_chain : (w : List ℕ) → IsChain L w → IsChain (IsChain L) w
  one_chain [] h = ([], tt, refl)
  one_chain (x ∷ w) h =
      let more : (x ∷ w) ≢ [] = λ (e : ◌≡◌ {A = List ℕ} (x ∷ w) []). cc in
      ((x ∷ w) ∷ [], ((more, h), tt), sym (append-nil (x ∷ w)))

  pub chain_of_chains : (w : List ℕ) → IsChain (IsChain L) w ↔ IsChain L w
  chain_of_chains w = (λ h. subst (IsChain L) (sym h.2) (chains h.0 h.1), one_chain w)

pub split_map : (L M P Q : List ℕ → Type 0) → ((u : List ℕ) → L u → P u) → ((u : List ℕ) → M u → Q u) → (w : List ℕ) → IsSplit L M w → IsSplit P Q w
split_map L M P Q f g w h = (h.0, h.1, h.2, f h.0 h.3, g h.1 h.4)

all_map : (L P : List ℕ → Type 0) → ((u : List ℕ) → L u → P u) → (words : List (List ℕ)) → AllByRecursion (λ u. (u ≢ []) × L u) words → AllByRecursion (λ u. (u ≢ []) × P u) words
all_map L P f [] all = tt
all_map L P f (u ∷ words) all = ((all.0.0, f u all.0.1), all_map L P f words all.1)

pub chain_map : (L P : List ℕ → Type 0) → ((u : List ℕ) → L u → P u) → (w : List ℕ) → IsChain L w → IsChain P w
chain_map L P f w h = (h.0, all_map L P f h.0 h.1, h.2)

-- ---- the empty word

-- the test is true where the fact holds, and false where it doesn't
abbrev pub Decided : Bool → Type 0 → Type 0
Decided true P = P
Decided false P = P → ⊥

decided_same : (b : Bool) (P Q : Type 0) → (P → Q) → (Q → P) → Decided b P → Decided b Q
decided_same true P Q f g h = f h
decided_same false P Q f g h = λ q. h (g q)

decided_not : (b : Bool) (P : Type 0) → Decided b P → Decided (not b) (P → ⊥)
decided_not true P h = λ f. f h
decided_not false P h = h

decided_and : (a b : Bool) (P Q : Type 0) → Decided a P → Decided b Q → Decided (a && b) (P × Q)
decided_and true true P Q h k = (h, k)
decided_and true false P Q h k = λ p. k p.1
decided_and false b P Q h k = λ p. h p.0

decided_or : (a b : Bool) (P Q : Type 0) → Decided a P → Decided b Q → Decided (a || b) (P ⊎ Q)
decided_or true b P Q h k = inl h
decided_or false true P Q h k = inr k
decided_or false false P Q h k = elim [ inl p ↦ h p | inr q ↦ k q ]

by_test : (b : Bool) (P : Type 0) → Decided b P → P ⊎ (P → ⊥)
by_test true P h = inl h
by_test false P h = inr h

-- the empty word is decided exactly
pub nullable_tells : (r : Expression) → Decided (is_nullable r) (InLanguage r [])
nullable_tells (Symbol x) = λ (e : ◌≡◌ {A = List ℕ} [] (x ∷ [])). cc
nullable_tells EmptyWord = refl
nullable_tells NoWord = λ h. h
nullable_tells (Complement r) = decided_not (is_nullable r) (InLanguage r []) (nullable_tells r)
nullable_tells (Star r) = chain_empty (InLanguage r)
nullable_tells (Plus r) =
    decided_same (is_nullable r) (InLanguage r []) (InLanguage (Plus r) []) (λ h. (split_empty (InLanguage r) (InLanguage (Star r))).1 (h, chain_empty (InLanguage r)))
    (λ h. ((split_empty (InLanguage r) (InLanguage (Star r))).0 h).0) (nullable_tells r)
nullable_tells (Product r s) =
    decided_same (is_nullable r && is_nullable s) (InLanguage r [] × InLanguage s []) (InLanguage (Product r s) []) ((split_empty (InLanguage r) (InLanguage s)).1)
    ((split_empty (InLanguage r) (InLanguage s)).0) (decided_and (is_nullable r) (is_nullable s) (InLanguage r []) (InLanguage s []) (nullable_tells r) (nullable_tells s))
nullable_tells (Combination Or r s) = decided_or (is_nullable r) (is_nullable s) (InLanguage r []) (InLanguage s []) (nullable_tells r) (nullable_tells s)
nullable_tells (Combination And r s) = decided_and (is_nullable r) (is_nullable s) (InLanguage r []) (InLanguage s []) (nullable_tells r) (nullable_tells s)

-- ---- derivatives without normal forms

-- the words that may follow the letter
abbrev pub plain : ℕ → Expression → Expression
plain x (Symbol y) = if x == y then EmptyWord else NoWord
plain x EmptyWord = NoWord
plain x NoWord = NoWord
plain x (Complement r) = Complement (plain x r)
plain x (Star r) = Product (plain x r) (Star r)
plain x (Plus r) = Product (plain x r) (Star r)
plain x (Product r s) = if is_nullable r then Combination Or (Product (plain x r) s) (plain x s) else Product (plain x r) s
plain x (Combination op r s) = Combination op (plain x r) (plain x s)

symbol_follows : (x y : ℕ) (w : List ℕ) → InLanguage (Symbol y) (x ∷ w) ↔ InLanguage (plain x (Symbol y)) w
symbol_follows x y w = elim (eqb_tells x y) [
  | inl same ↦ let test : (x == y) ≡ true = same.0 in let e : x ≡ y = same.1 in rw test (λ (h : ◌≡◌ {A = List ℕ} (x ∷ w) (y ∷ [])). cc, λ (h : ◌≡◌ {A = List ℕ} w []). cc)
  | inr other ↦ let test : (x == y) ≡ false = other.0 in let ne : x ≢ y = other.1 in rw test (λ (h : ◌≡◌ {A = List ℕ} (x ∷ w) (y ∷ [])). let e : x ≡ y = cc in ne e, λ (h : ⊥). absurd h)
]

-- each word of the one language is one of the other
abbrev pub Same : (List ℕ → Type 0) → (List ℕ → Type 0) → Type 0
Same L M = (w : List ℕ) → L w ↔ M w

pub itself : (L : List ℕ → Type 0) → Same L L
itself L w = (λ h. h, λ h. h)

pub through : (L M N : List ℕ → Type 0) → Same L M → Same M N → Same L N
through L M N f g w = (λ h. (g w).0 ((f w).0 h), λ h. (f w).1 ((g w).1 h))

module _ (x : ℕ) where
  -- the words that follow the letter in r are those of d
  abbrev Follow : Expression → Expression → Type 0
  Follow r d = Same (λ w. InLanguage r (x ∷ w)) (InLanguage d)

  product_follows : (r s d e : Expression) (b : Bool) → Decided b (InLanguage r []) → Follow r d → Follow s e → Follow (Product r s) (if b then Combination Or (Product d s) e else Product d s)
  product_follows r s d e true has follow_r follow_s w =
      let step = split_step (InLanguage r) (InLanguage s) x w in (
        λ h. elim (step.0 h) [
          | inl k ↦ inl (split_map (λ u. InLanguage r (x ∷ u)) (InLanguage s) (InLanguage d) (InLanguage s) (λ u. (follow_r u).0) (λ u m. m) w k)
          | inr p ↦ inr ((follow_s w).0 p.1)
        ],
        elim [
          | inl k ↦ step.1 (inl (split_map (InLanguage d) (InLanguage s) (λ u. InLanguage r (x ∷ u)) (InLanguage s) (λ u. (follow_r u).1) (λ u m. m) w k))
          | inr q ↦ step.1 (inr (has, (follow_s w).1 q))
        ],
      )
  product_follows r s d e false hasnt follow_r follow_s w =
      let step = split_step (InLanguage r) (InLanguage s) x w in (
        λ h. elim (step.0 h) [
          | inl k ↦ split_map (λ u. InLanguage r (x ∷ u)) (InLanguage s) (InLanguage d) (InLanguage s) (λ u. (follow_r u).0) (λ u m. m) w k
          | inr p ↦ absurd (hasnt p.0)
        ],
        λ k. step.1 (inl (split_map (InLanguage d) (InLanguage s) (λ u. InLanguage r (x ∷ u)) (InLanguage s) (λ u. (follow_r u).1) (λ u m. m) w k)),
      )

  star_follows : (r d : Expression) → Follow r d → Follow (Star r) (Product d (Star r))
  star_follows r d follow w = (
    λ h. split_map (λ u. InLanguage r (x ∷ u)) (InLanguage (Star r)) (InLanguage d) (InLanguage (Star r)) (λ u. (follow u).0) (λ u m. m) w ((chain_step (InLanguage r) x w).0 h),
    λ h. (chain_step (InLanguage r) x w).1 (split_map (InLanguage d) (InLanguage (Star r)) (λ u. InLanguage r (x ∷ u)) (InLanguage (Star r)) (λ u. (follow u).1) (λ u m. m) w h),
  )

  plus_follows : (r d : Expression) → Follow r d → Follow (Plus r) (Product d (Star r))
  plus_follows r d follow w =
      let step = split_step (InLanguage r) (InLanguage (Star r)) x w in (
        λ h. elim (step.0 h) [
          | inl k ↦ split_map (λ u. InLanguage r (x ∷ u)) (InLanguage (Star r)) (InLanguage d) (InLanguage (Star r)) (λ u. (follow u).0) (λ u m. m) w k
          | inr p ↦ (star_follows r d follow w).0 p.1
        ],
        λ k. step.1 (inl (split_map (InLanguage d) (InLanguage (Star r)) (λ u. InLanguage r (x ∷ u)) (InLanguage (Star r)) (λ u. (follow u).1) (λ u m. m) w k)),
      )

  -- the derivative has the words that may follow the letter
  pub plain_tells : (r : Expression) → Follow r (plain x r)
  plain_tells (Symbol y) w = symbol_follows x y w
  plain_tells EmptyWord w = (λ (e : ◌≡◌ {A = List ℕ} (x ∷ w) []). cc, λ h. absurd h)
  plain_tells NoWord w = (λ h. h, λ h. h)
  plain_tells (Complement r) w = let t = plain_tells r w in (λ h k. h (t.1 k), λ h k. h (t.0 k))
  plain_tells (Star r) w = star_follows r (plain x r) (plain_tells r) w
  plain_tells (Plus r) w = plus_follows r (plain x r) (plain_tells r) w
  plain_tells (Product r s) w = product_follows r s (plain x r) (plain x s) (is_nullable r) (nullable_tells r) (plain_tells r) (plain_tells s) w
  plain_tells (Combination Or r s) w =
      let t = plain_tells r w in let u = plain_tells s w in
      (elim [ inl h ↦ inl (t.0 h) | inr h ↦ inr (u.0 h) ], elim [ inl h ↦ inl (t.1 h) | inr h ↦ inr (u.1 h) ])
  plain_tells (Combination And r s) w =
      let t = plain_tells r w in let u = plain_tells s w in
      (λ h. (t.0 h.0, u.0 h.1), λ h. (t.1 h.0, u.1 h.1))

-- whether a word is in a language is decided
pub decide : (w : List ℕ) (r : Expression) → InLanguage r w ⊎ (InLanguage r w → ⊥)
decide [] r = by_test (is_nullable r) (InLanguage r []) (nullable_tells r)
decide (x ∷ w) r = elim (decide w (plain x r)) [
  | inl h ↦ inl ((plain_tells x r w).1 h)
  | inr none ↦ inr (λ h. none ((plain_tells x r w).0 h))
]
