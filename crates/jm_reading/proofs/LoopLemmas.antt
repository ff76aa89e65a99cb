-- Loops that read a rule one time after the other.
use Rattle.std.proofs.Common.{◌≡◌, ℕ, zero, suc, ◌<◌, ◌≤◌, Bool, true, false, List, length, Option, Some, None, Ok, refl, sym, ap, ◌∙◌, arith}
use Rattle.jm_text.specs.declared.token.Token.{Token}
use Rattle.jm_model.specs.declared.fault.SpecError.{SpecError}
use Rattle.jm_model.specs.declared.fault.SpecError.TheVariants.{Bad, NoMemory}
use Rattle.jm_model.specs.declared.fault.SpecFault.TheVariants.{Syntax}
use Rattle.jm_reading.specs.declared.cursor.Cursor.{Cursor}
use Rattle.jm_reading.specs.Answers.{FailsAt}
use Rattle.jm_reading.specs.Reading.{at_most}
use Rattle.jm_reading.specs.Taking.{Rule, Takes, folded_at}

module _ {X : Type 0} (goes_on : List Token → Bool) (item : X → List Token → Option (X × List Token)) where
  pub items_stop : (n : ℕ) (xs : X) (tokens : List Token) → goes_on tokens ≡ false → at_most goes_on item n xs tokens ≡ Some (xs, tokens)
  items_stop zero xs tokens h = rw h refl
  items_stop (suc n) xs tokens h = rw h refl

  pub items_break : (n : ℕ) (xs : X) (tokens : List Token) → goes_on tokens ≡ true → item xs tokens ≡ None → at_most goes_on item n xs tokens ≡ None
  items_break zero xs tokens h none = rw h refl
  items_break (suc n) xs tokens h none = rw (h, none) refl

  pub items_go : (n : ℕ) (xs ys : X) (tokens behind : List Token) → goes_on tokens ≡ true → item xs tokens ≡ Some (ys, behind) → at_most goes_on item (suc n) xs tokens ≡ at_most goes_on item n ys behind
  items_go n xs ys tokens behind h some = rw (h, some) refl

-- what is left to read is what the loop began with, where the items so far are these, and no more items are than tokens
pub record ItemsLeft {X : Type 0} (goes_on : List Token → Bool) (item : X → List Token → Option (X × List Token)) (first : X) (start : List Token) (xs : X) (rest : List Token) : Type 0 where
  pub left : ℕ
  pub enough : length rest ≤ left
  pub fewer : length rest ≤ length start
  pub whole : at_most goes_on item left xs rest ≡ at_most goes_on item (length start) first start

module _ {X : Type 0} {goes_on : List Token → Bool} {item : X → List Token → Option (X × List Token)} where
  pub items_begin : (first : X) (start : List Token) → ItemsLeft goes_on item first start first start
  items_begin first start = record { left = length start; enough = omega arith; fewer = omega arith; whole = refl }

  items_more_of : (left : ℕ) (first : X) (start : List Token) (xs ys : X) (rest behind : List Token) → length rest ≤ left → length rest ≤ length start → at_most goes_on item left xs rest ≡ at_most goes_on item (length start) first start → goes_on rest ≡ true → item xs rest ≡ Some (ys, behind) → length behind < length rest → ItemsLeft goes_on item first start ys behind
  items_more_of zero first start xs ys rest behind enough fewer whole h some less = absurd (omega arith)
  items_more_of (suc n) first start xs ys rest behind enough fewer whole h some less = record {
    left = n;
    enough = omega arith;
    fewer = omega arith;
    whole = sym (items_go goes_on item n xs ys rest behind h some) ∙ whole;
  }

  pub items_more : (first : X) (start : List Token) (xs ys : X) (rest behind : List Token) → ItemsLeft goes_on item first start xs rest → goes_on rest ≡ true → item xs rest ≡ Some (ys, behind) → length behind < length rest → ItemsLeft goes_on item first start ys behind
  items_more first start xs ys rest behind s = items_more_of s.left first start xs ys rest behind s.enough s.fewer s.whole

  pub items_end : (first : X) (start : List Token) (xs : X) (rest : List Token) → ItemsLeft goes_on item first start xs rest → goes_on rest ≡ false → at_most goes_on item (length start) first start ≡ Some (xs, rest)
  items_end first start xs rest s h = sym s.whole ∙ items_stop goes_on item s.left xs rest h

  pub items_fail : (first : X) (start : List Token) (xs : X) (rest : List Token) → ItemsLeft goes_on item first start xs rest → goes_on rest ≡ true → item xs rest ≡ None → at_most goes_on item (length start) first start ≡ None
  items_fail first start xs rest s h none = sym s.whole ∙ items_break goes_on item s.left xs rest h none

pub fails_too : {X Y : Type 0} (e : SpecError) (read : Option X) (whole : Option Y) → FailsAt e read → (read ≡ None → whole ≡ None) → FailsAt e whole
fails_too NoMemory read whole h k = tt
fails_too (Bad (Syntax line)) read whole h k = k h
fails_too (Bad _) read whole h k = h

-- ---- the loop of `fold_many`

-- what is left to read, after what was read, is what the loop began with
pub record IsLeft {X : Type 0} (goes : List ℕ → List Token → Bool) (rule : X → Rule X) (start : Cursor) (first : X) (n : ℕ) (rest : Cursor) (x : X) : Type 0 where
  pub bytes : rest.bytes.now ≡ start.bytes.now
  pub whole : at_most (goes start.bytes.now) (λ x. rule x start.bytes.now) n x rest.rest.now ≡ at_most (goes start.bytes.now) (λ x. rule x start.bytes.now) (length start.rest.now) first start.rest.now

module _ {X : Type 0} (goes : List ℕ → List Token → Bool) (rule : X → Rule X) (start : Cursor) (first : X) (rest : Cursor) (x : X) where
  abbrev on : List Token → Bool
  on = goes start.bytes.now

  abbrev more : X → List Token → Option (X × List Token)
  more x = rule x start.bytes.now

  module _ (n : ℕ) (s : IsLeft goes rule start first n rest x) where
    same_on : (b : Bool) → b ≡ goes rest.bytes.now rest.rest.now → on rest.rest.now ≡ b
    same_on b h = sym (h ∙ ap (λ bytes. goes bytes rest.rest.now) s.bytes)

    same_rule : more x rest.rest.now ≡ rule x rest.bytes.now rest.rest.now
    same_rule = ap (λ bytes. rule x bytes rest.rest.now) (sym s.bytes)

    pub all_gathered : false ≡ goes rest.bytes.now rest.rest.now → Takes start (Ok x) rest (folded_at goes rule first)
    unfolding folded_at
    all_gathered h = (s.bytes, sym s.whole ∙ items_stop on more n x rest.rest.now (same_on false h))

    pub none_gathered : (e : SpecError) → true ≡ goes rest.bytes.now rest.rest.now → FailsAt e (rule x rest.bytes.now rest.rest.now) → FailsAt e (folded_at goes rule first start.bytes.now start.rest.now)
    unfolding folded_at
    none_gathered e h fails = fails_too e _ _ fails (λ none. sym s.whole ∙ items_break on more n x rest.rest.now (same_on true h) (same_rule ∙ none))

    pub too_many : n ≡ 0 → true ≡ goes rest.bytes.now rest.rest.now → folded_at goes rule first start.bytes.now start.rest.now ≡ None
    unfolding folded_at
    too_many z h = sym s.whole ∙ rw (z, same_on true h) refl

  pub one_gathered : (n k : ℕ) (y : X) (after : Cursor) → n ≡ suc k → IsLeft goes rule start first n rest x → true ≡ goes rest.bytes.now rest.rest.now → Takes rest (Ok y) after (rule x) → IsLeft goes rule start first k after y
  one_gathered n k y after e s h takes = record {
    bytes = takes.0 ∙ s.bytes;
    whole = sym (items_go on more k x y rest.rest.now after.rest.now (same_on n s true h) (same_rule n s ∙ takes.1)) ∙ ap (λ n. at_most on more n x rest.rest.now) (sym e) ∙ s.whole;
  }
