-- The steps of the loops that look for the end of a piece.
use Rattle.std.proofs.Common.{◌≡◌, ℕ, ◌+◌, ◌<◌, ◌≤◌, Bool, true, false, cond, eqb, ltb, tests, List, [], ◌∷◌, length, get_or, drop, Option, Some, None, refl, sym, ap, ◌∙◌, arith}
use Rattle.std.specs.List.{starts_with}
use Rattle.std.specs.Prelude.{nat_eq, codes, unwrap_or}
use Rattle.std.proofs.lemmas.List.{drop_more, drop-drop}
use Rattle.jm_text.specs.Pieces.{line_feed, plus, comment_rest, escapes, text_rest}

-- two numbers added one after the other
pub plus-plus : (j k : ℕ) (n : Option ℕ) → plus j (plus k n) ≡ plus (j + k) n
plus-plus j k None = refl
plus-plus j k (Some m) = let e : m + k + j ≡ m + (j + k) = omega arith in ap (λ (x : ℕ). Some x) e

pub plus-zero : (n : Option ℕ) → plus 0 n ≡ n
plus-zero None = refl
plus-zero (Some m) = let e : m + 0 ≡ m = omega arith in ap (λ (x : ℕ). Some x) e

-- a comment goes on where it isn't closed
pub comment_goes_on : (bytes : List ℕ) (i : ℕ) → i < length bytes → starts_with nat_eq (drop i bytes) (codes "*/") ≡ false → comment_rest (drop i bytes) ≡ plus 1 (comment_rest (drop (i + 1) bytes))
comment_goes_on bytes i lt open_here =
    let e = drop_more bytes i 0 lt in
    ap comment_rest e ∙ rw (rw e at open_here) refl

quote_first : (q b : ℕ) (bs : List ℕ) → eqb b q ≡ true → text_rest q (b ∷ bs) ≡ Some 1
quote_first q b [] h = rw h refl
quote_first q b (c ∷ bs) h = rw h refl

feed_first : (q b : ℕ) (bs : List ℕ) → eqb b q ≡ false → eqb b line_feed ≡ true → text_rest q (b ∷ bs) ≡ None
feed_first q b [] h k = rw h refl
feed_first q b (c ∷ bs) h k = rw (h, k) refl

plain_first : (q b : ℕ) (bs : List ℕ) → eqb b q ≡ false → eqb b line_feed ≡ false → escapes (b ∷ bs) ≡ false → text_rest q (b ∷ bs) ≡ plus 1 (text_rest q bs)
plain_first q b [] h k e = rw h refl
plain_first q b (c ∷ bs) h k e = rw (h, k, e) refl

escape_first : (q b : ℕ) (bs : List ℕ) → eqb b q ≡ false → eqb b line_feed ≡ false → escapes (b ∷ bs) ≡ true → text_rest q (b ∷ bs) ≡ plus 2 (text_rest q (drop 1 bs))
escape_first q b [] h k e = cc
escape_first q b (c ∷ bs) h k e = rw (h, k, e) refl

-- the same at a place of the bytes
module _ (q : ℕ) (bytes : List ℕ) (i : ℕ) (lt : i < length bytes) where
  there : text_rest q (drop i bytes) ≡ text_rest q (get_or bytes i 0 ∷ drop (i + 1) bytes)
  there = ap (text_rest q) (drop_more bytes i 0 lt)

  pub at_quote : eqb (get_or bytes i 0) q ≡ true → text_rest q (drop i bytes) ≡ Some 1
  at_quote h = there ∙ quote_first q _ _ h

  pub at_feed : eqb (get_or bytes i 0) q ≡ false → eqb (get_or bytes i 0) line_feed ≡ true → text_rest q (drop i bytes) ≡ None
  at_feed h k = there ∙ feed_first q _ _ h k

  pub at_plain : eqb (get_or bytes i 0) q ≡ false → eqb (get_or bytes i 0) line_feed ≡ false → escapes (drop i bytes) ≡ false → text_rest q (drop i bytes) ≡ plus 1 (text_rest q (drop (i + 1) bytes))
  at_plain h k e = there ∙ plain_first q _ _ h k (ap escapes (sym (drop_more bytes i 0 lt)) ∙ e)

  pub at_escape : eqb (get_or bytes i 0) q ≡ false → eqb (get_or bytes i 0) line_feed ≡ false → escapes (drop i bytes) ≡ true → text_rest q (drop i bytes) ≡ plus 2 (text_rest q (drop (i + 2) bytes))
  at_escape h k e =
      let two : i + 1 + 1 ≡ i + 2 = omega arith in
      let more = drop-drop 1 (i + 1) bytes ∙ ap (λ n. drop n bytes) two in
      there ∙ escape_first q _ _ h k (ap escapes (sym (drop_more bytes i 0 lt)) ∙ e) ∙ ap (λ bs. plus 2 (text_rest q bs)) more

-- the place that a search found, or the length
pub found_or_all : (found : Option ℕ) (p n : ℕ) → p ≤ n → found ≡ cond (ltb p n) (Some p) None → unwrap_or found n ≡ p
found_or_all found p n within is = go (ltb p n) refl is
  where
    go : (v : Bool) → ltb p n ≡ v → found ≡ cond v (Some p) None → unwrap_or found n ≡ p
    go true less e = ap (λ (o : Option ℕ). unwrap_or o n) e
    go false less e =
        let last : n ≡ p = grind (arith, tests) in
        ap (λ (o : Option ℕ). unwrap_or o n) e ∙ last
