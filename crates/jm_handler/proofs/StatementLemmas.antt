-- Statements one after the other.
use Rattle.std.proofs.Common.{◌≡◌, ℕ, ◌+◌, ◌-◌, ◌<◌, ◌≤◌, Bool, true, false, List, [], ◌∷◌, length, get_or, take, drop, refl, sym, ap, ◌∙◌, subst, inr, ⊎_elim, below_more, cond, arith}
use Rattle.std.specs.Prelude.{Option, ◌&&◌, ◌==◌, IsSomeAnd}
use Rattle.std.proofs.lemmas.Grind.{fold-append}
use Rattle.std.proofs.lemmas.List.{take_more}
use Rattle.std.proofs.lemmas.Option.{slice_get-get_or}
use Rattle.std.proofs.lemmas.Bool.{and_parts, eqb-true, eq-eqb}
use Rattle.jm_text.specs.declared.token.Token.{Token}
use Rattle.jm_handler.specs.Statements.{opens, closes, depth_behind, depth_of, may_end, EndsAt, IsStatement, AreStatements}

pub depth_next : (bytes : List ℕ) (tokens : List Token) (i : ℕ) (d : Token) → i < length tokens
    → depth_of bytes (take (i + 1) tokens) ≡ depth_behind bytes (depth_of bytes (take i tokens)) (get_or tokens i d)
depth_next bytes tokens i d h =
    ap (depth_of bytes) (take_more tokens i d h) ∙ fold-append (depth_behind bytes) 0 (take i tokens) (get_or tokens i d ∷ [])

pub depth_step : (bytes : List ℕ) (tokens : List Token) (i depth next : ℕ) (d : Token) → i < length tokens → depth ≡ depth_of bytes (take i tokens)
    → next ≡ depth_behind bytes depth (get_or tokens i d) → next ≡ depth_of bytes (take (i + 1) tokens)
depth_step bytes tokens i depth next d h so_far step =
    step ∙ ap (λ n. depth_behind bytes n (get_or tokens i d)) so_far ∙ sym (depth_next bytes tokens i d h)

depth_few : (bytes : List ℕ) (depth : ℕ) (t : Token) → depth_behind bytes depth t ≤ depth + 1
depth_few bytes depth t =
    elim (opens bytes t) as (λ v. cond v (depth + 1) (cond (closes bytes t) (depth - 1) depth) ≤ depth + 1) [
      | true ↦ omega arith
      | false ↦ elim (closes bytes t) as (λ v. cond v (depth - 1) depth ≤ depth + 1) [ true ↦ omega arith | false ↦ omega arith ]
    ]

pub depth_small : (bytes : List ℕ) (i depth next : ℕ) (t : Token) → depth ≤ i → next ≡ depth_behind bytes depth t → next ≤ i + 1
depth_small bytes i depth next t h is = let few = depth_few bytes depth t in omega arith

-- the test of a place
pub EndsAt-here : (bytes : List ℕ) (tokens : List Token) (i depth : ℕ) (d : Token) → i < length tokens → depth ≡ depth_of bytes (take (i + 1) tokens)
    → depth ≡ 0 → may_end bytes (get_or tokens i d) ≡ true → EndsAt bytes tokens i
EndsAt-here bytes tokens i depth d h is outside last =
    (sym is ∙ outside, subst (λ (o : Option Token). IsSomeAnd o (λ t. may_end bytes t ≡ true)) (sym (slice_get-get_or tokens i d h)) last)

pub EndsAt-last : (bytes : List ℕ) (tokens : List Token) (i : ℕ) (d : Token) → i < length tokens → EndsAt bytes tokens i → may_end bytes (get_or tokens i d) ≡ true
EndsAt-last bytes tokens i d h (outside, last) = subst (λ (o : Option Token). IsSomeAnd o (λ t. may_end bytes t ≡ true)) (slice_get-get_or tokens i d h) last

pub EndsAt-true : (bytes : List ℕ) (tokens : List Token) (i depth : ℕ) (d : Token) (ends : Bool) → i < length tokens → depth ≡ depth_of bytes (take (i + 1) tokens)
    → ends ≡ (depth == 0 && may_end bytes (get_or tokens i d)) → ends ≡ true → EndsAt bytes tokens i
EndsAt-true bytes tokens i depth d ends h is said ended =
    let parts = and_parts (depth == 0) (may_end bytes (get_or tokens i d)) (sym said ∙ ended) in
    EndsAt-here bytes tokens i depth d h is (eqb-true depth 0 parts.0) parts.1

pub EndsAt-false : (bytes : List ℕ) (tokens : List Token) (i depth : ℕ) (d : Token) (ends : Bool) → i < length tokens → depth ≡ depth_of bytes (take (i + 1) tokens)
    → ends ≡ (depth == 0 && may_end bytes (get_or tokens i d)) → ends ≡ false → EndsAt bytes tokens i → ⊥
EndsAt-false bytes tokens i depth d ends h is said isnt at =
    let zero : (depth == 0) ≡ true = eq-eqb depth 0 (is ∙ at.0) in
    let there = EndsAt-last bytes tokens i d h at in
    let both : (depth == 0 && may_end bytes (get_or tokens i d)) ≡ true = rw (zero, there) refl in
    cc

pub IsStatement-at : (bytes : List ℕ) (tokens : List Token) (i : ℕ) → i < length tokens → ((k : ℕ) → k < i → EndsAt bytes tokens k → ⊥) → EndsAt bytes tokens i
    → IsStatement bytes tokens (i + 1)
IsStatement-at bytes tokens i h before here =
    let back : i ≡ i + 1 - 1 = omega arith in
    record {
      some = omega arith;
      within = omega arith;
      first = λ k l. before k (omega arith);
      ended = inr (subst (λ (n : ℕ). EndsAt bytes tokens n) back here);
    }

pub none_before : (bytes : List ℕ) (tokens : List Token) (i : ℕ) → ((k : ℕ) → k < i → EndsAt bytes tokens k → ⊥) → (EndsAt bytes tokens i → ⊥)
    → (k : ℕ) → k < i + 1 → EndsAt bytes tokens k → ⊥
none_before bytes tokens i before here = below_more _ _ before here

-- ---- one way to part tokens into statements
later_statement : (bytes : List ℕ) (tokens : List Token) (n m : ℕ) → IsStatement bytes tokens n → IsStatement bytes tokens m → n < m → ⊥
later_statement bytes tokens n m h k less =
    ⊎_elim (λ whole. absurd (omega (arith, k.within))) (λ ended. k.first (n - 1) (omega (arith, h.some)) ended) h.ended

pub statement-same : (bytes : List ℕ) (tokens : List Token) (n m : ℕ) → IsStatement bytes tokens n → IsStatement bytes tokens m → n ≡ m
statement-same bytes tokens n m h k =
    let low : n < m → ⊥ = later_statement bytes tokens n m h k in
    let high : m < n → ⊥ = later_statement bytes tokens m n k h in
    omega arith

pub statements-same : (bytes : List ℕ) (tokens : List Token) (rs qs : List (List Token)) → AreStatements bytes tokens rs → AreStatements bytes tokens qs → rs ≡ qs
statements-same bytes tokens [] [] h k = refl
statements-same bytes tokens [] (q ∷ qs) h k = let none : length tokens ≡ 0 = ap length h in absurd (omega (arith, k.0.some, k.0.within))
statements-same bytes tokens (r ∷ rs) [] h k = let none : length tokens ≡ 0 = ap length k in absurd (omega (arith, h.0.some, h.0.within))
statements-same bytes tokens (r ∷ rs) (q ∷ qs) h k =
    let long : length r ≡ length q = statement-same bytes tokens (length r) (length q) h.0 k.0 in
    let first : r ≡ q = h.1 ∙ ap (λ n. take n tokens) long ∙ sym k.1 in
    let rest = statements-same bytes (drop (length q) tokens) rs qs (subst (λ (n : ℕ). AreStatements bytes (drop n tokens) rs) long h.2) k.2 in
    λ j. first j ∷ rest j
