-- Texts cut at their line feeds, and what two texts have in common.
use Rattle.std.proofs.Common.{◌≡◌, ◌≢◌, ℕ, zero, suc, ◌+◌, ◌<◌, ◌≤◌, length, drop, get_or, true, false, List, [], ◌∷◌, ◌++◌, refl, sym, ap, ◌∙◌, subst, inl, inr, arith, eq-eqb, zero-add}
use Rattle.std.specs.Prelude.{◌⊎◌, ◌==◌, if◌then◌else◌, Some, slice_get}
use Rattle.std.proofs.lemmas.Bool.{ne_eqb, cases_eq}
use Rattle.std.proofs.lemmas.List.{append_assoc}
use mathlib.Core.List.{IsPrefix}
use Rattle.jm_model.specs.Words.{Text}
use Rattle.jm_print.proofs.Cutting.{Lacks}
use Rattle.jm_audit.specs.Guides.{EndsLine, IsOneLine}
use Rattle.jm_audit.specs.Fronts.{feeds, agreeing, AreWholeLines}

-- what stands after the same text
pub same_behind : {X : Type 0} (a q r : List X) → a ++ q ≡ a ++ r → q ≡ r
same_behind [] q r e = e
same_behind (x ∷ a) q r e =
    let tail : a ++ q ≡ a ++ r = cc (e) in
    same_behind a q r tail

-- texts whose first lines agree have the same first line, and the same after it
pub first_lines : (a b s t : Text) → IsOneLine a → IsOneLine b → (a ++ 10 ∷ []) ++ s ≡ (b ++ 10 ∷ []) ++ t → (a ≡ b) × (s ≡ t)
first_lines [] [] s t h k e = (refl, cc (e))
first_lines [] (y ∷ b) s t h k e = let head : 10 ≡ y = cc (e) in absurd (k.0 (sym head))
first_lines (x ∷ a) [] s t h k e = let head : x ≡ 10 = cc (e) in absurd (h.0 head)
first_lines (x ∷ a) (y ∷ b) s t h k e =
    let head : x ≡ y = cc (e) in
    let tail : (a ++ 10 ∷ []) ++ s ≡ (b ++ 10 ∷ []) ++ t = cc (e) in
    let rest = first_lines a b s t h.1 k.1 tail in
    ((λ j. head j ∷ rest.0 j), rest.1)

-- a text without a line feed with which a text begins is a front of the first line
pub within_line : (a line more z : Text) → IsOneLine a → (line ++ 10 ∷ []) ++ more ≡ a ++ z → IsPrefix a (line ++ 10 ∷ [])
within_line [] line more z one e = (line ++ 10 ∷ [], refl)
within_line (c ∷ a) [] more z one e = let head : 10 ≡ c = cc (e) in absurd (one.0 (sym head))
within_line (c ∷ a) (x ∷ line) more z one e =
    let head : x ≡ c = cc (e) in
    let tail : (line ++ 10 ∷ []) ++ more ≡ a ++ z = cc (e) in
    let rest = within_line a line more z one.1 tail in
    let back : c ≡ x = sym head in
    (rest.0, (λ j. back j ∷ rest.1 j))

pub one_line : (a : Text) → Lacks 10 a → IsOneLine a
one_line [] h = tt
one_line (c ∷ a) h = (h.0, one_line a h.1)

pub one_line-append : (a b : Text) → IsOneLine a → IsOneLine b → IsOneLine (a ++ b)
one_line-append [] b h k = k
one_line-append (c ∷ a) b h k = (h.0, one_line-append a b h.1 k)

-- ---- a text that has a line feed
pub record HasFeed (text : Text) : Type 0 where
  pub front : Text
  pub back : Text
  pub is : text ≡ front ++ 10 ∷ back

pub feed-left : (a b : Text) → HasFeed a → HasFeed (a ++ b)
feed-left a b h = record { front = h.front; back = h.back ++ b; is = ap (λ t. t ++ b) h.is ∙ append_assoc h.front (10 ∷ h.back) b }

pub feed-right : (a b : Text) → HasFeed b → HasFeed (a ++ b)
feed-right a b h = record { front = a ++ h.front; back = h.back; is = ap (λ t. a ++ t) h.is ∙ sym (append_assoc a h.front (10 ∷ h.back)) }

-- its first line, and the lines after it
pub record IsCut (text : Text) : Type 0 where
  pub line : Text
  pub more : Text
  pub one : IsOneLine line
  pub is : text ≡ (line ++ 10 ∷ []) ++ more

cut_at : (front back : Text) → IsCut (front ++ 10 ∷ back)
cut_at [] back = record { line = []; more = back; one = tt; is = refl }
cut_at (c ∷ front) back = elim (cases_eq c 10) [
  | inl here ↦ record { line = []; more = front ++ 10 ∷ back; one = tt; is = ap (λ x. x ∷ (front ++ 10 ∷ back)) here }
  | inr other ↦
      let rest = cut_at front back in
      record { line = c ∷ rest.line; more = rest.more; one = (other, rest.one); is = ap (λ t. c ∷ t) rest.is }
]

pub cut_line : (text : Text) → HasFeed text → IsCut text
cut_line text h = subst IsCut (sym h.is) (cut_at h.front h.back)

-- ---- whole lines
pub ends_line : (front : Text) → AreWholeLines front → EndsLine front
ends_line front (inl none) = subst EndsLine (sym none) tt
ends_line front (inr some) = subst EndsLine (sym some.1) (last some.0)
  where
    last : (line : Text) → EndsLine (line ++ 10 ∷ [])
    last [] = refl
    last (c ∷ []) = refl
    last (c ∷ d ∷ line) = last (d ∷ line)

-- the whole lines that two texts begin with alike
pub record IsAgreed (a b : Text) : Type 0 where
  pub front : Text
  pub lines : AreWholeLines front
  pub many : feeds front ≡ agreeing a b
  pub one : IsPrefix front a
  pub other : IsPrefix front b

nothing : (a b : Text) → agreeing a b ≡ 0 → IsAgreed a b
nothing a b none = record { front = []; lines = inl refl; many = sym none; one = (a, refl); other = (b, refl) }

more_agree : (x : ℕ) (a b : Text) → agreeing (x ∷ a) (x ∷ b) ≡ (if x == 10 then 1 else 0) + agreeing a b
more_agree x a b =
    let self : (x == x) ≡ true = eq-eqb x x refl in
    ap (λ v. if v then ((if x == 10 then 1 else 0) + agreeing a b) else 0) self

no_feed : (x n : ℕ) → x ≢ 10 → (if x == 10 then 1 else 0) + n ≡ n
no_feed x n other =
    let none : (x == 10) ≡ false = ne_eqb x 10 other in
    ap (λ v. (if v then 1 else 0) + n) none ∙ zero-add n

with_front : (x : ℕ) (a b : Text) (h : IsAgreed a b) → AreWholeLines (x ∷ h.front) → IsAgreed (x ∷ a) (x ∷ b)
with_front x a b h lines = record {
  front = x ∷ h.front;
  lines = lines;
  many = ap (λ n. (if x == 10 then 1 else 0) + n) h.many ∙ sym (more_agree x a b);
  one = (h.one.0, ap (λ t. x ∷ t) h.one.1);
  other = (h.other.0, ap (λ t. x ∷ t) h.other.1);
}

longer : (x : ℕ) (a b : Text) → IsAgreed a b → IsAgreed (x ∷ a) (x ∷ b)
longer x a b h = go h.lines (cases_eq x 10)
  where
    go : AreWholeLines h.front → (x ≡ 10) ⊎ (x ≢ 10) → IsAgreed (x ∷ a) (x ∷ b)
    go (inr some) _ = with_front x a b h (inr (x ∷ some.0, ap (λ t. x ∷ t) some.1))
    go (inl none) (inl feed) = with_front x a b h (inr ([], (λ j. feed j ∷ none j)))
    go (inl none) (inr other) =
        nothing (x ∷ a) (x ∷ b) (more_agree x a b ∙ no_feed x (agreeing a b) other ∙ sym h.many ∙ ap feeds none)

pub agreed : (a b : Text) → IsAgreed a b
agreed [] b = nothing [] b refl
agreed (x ∷ a) [] = nothing (x ∷ a) [] refl
agreed (x ∷ a) (y ∷ b) = elim (cases_eq x y) [
  | inl same ↦ subst (λ z. IsAgreed (x ∷ a) (z ∷ b)) same (longer x a b (agreed a b))
  | inr other ↦
      let apart : (x == y) ≡ false = ne_eqb x y other in
      nothing (x ∷ a) (y ∷ b) (ap (λ v. if v then ((if x == 10 then 1 else 0) + agreeing a b) else 0) apart)
]

-- ---- byte by byte
pub agree-step : (one other : Text) (i : ℕ) → i < length one → slice_get other i ≡ Some (get_or one i 0)
    → agreeing (drop i one) (drop i other) ≡ (if get_or one i 0 == 10 then 1 else 0) + agreeing (drop (suc i) one) (drop (suc i) other)
agree-step [] other i there at = absurd (omega (arith, there))
agree-step (x ∷ one) [] zero there at = absurd (cc (at))
agree-step (x ∷ one) [] (suc i) there at = absurd (cc (at))
agree-step (x ∷ one) (y ∷ other) zero there at =
    let same : x ≡ y = cc (at) in
    subst (λ z. agreeing (x ∷ one) (z ∷ other) ≡ (if x == 10 then 1 else 0) + agreeing one other) same (more_agree x one other)
agree-step (x ∷ one) (y ∷ other) (suc i) there at = agree-step one other i (omega (arith, there)) at

pub agree-stop : (one other : Text) (i : ℕ) → i < length one → (slice_get other i ≡ Some (get_or one i 0) → ⊥) → agreeing (drop i one) (drop i other) ≡ 0
agree-stop [] other i there apart = absurd (omega (arith, there))
agree-stop (x ∷ one) [] zero there apart = refl
agree-stop (x ∷ one) [] (suc i) there apart = none (drop i one)
  where
    none : (a : Text) → agreeing a [] ≡ 0
    none [] = refl
    none (z ∷ a) = refl
agree-stop (x ∷ one) (y ∷ other) zero there apart =
    let test : (x == y) ≡ false = ne_eqb x y (λ e. apart (ap Some (sym e))) in
    ap (λ v. if v then ((if x == 10 then 1 else 0) + agreeing one other) else 0) test
agree-stop (x ∷ one) (y ∷ other) (suc i) there apart = agree-stop one other i (omega (arith, there)) apart

pub agree-end : (one other : Text) (i : ℕ) → length one ≤ i → agreeing (drop i one) other ≡ 0
agree-end [] other zero past = refl
agree-end [] other (suc i) past = refl
agree-end (x ∷ one) other zero past = absurd (omega (arith, past))
agree-end (x ∷ one) other (suc i) past = agree-end one other i (omega (arith, past))
