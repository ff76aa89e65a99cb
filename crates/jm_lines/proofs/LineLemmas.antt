-- The words of a text's first line, found one after another, and the lines after it.
use Rattle.std.proofs.Common.{◌≡◌, ℕ, suc, ◌+◌, ◌-◌, ◌<◌, ◌≤◌, Bool, true, false, ◌==◌, cond, not, List, [], ◌∷◌, ◌++◌, filter, length, get_or, take, drop, refl, sym, ap, ◌∙◌, append_assoc, arith, length-append, length-drop, drop-drop}
use Rattle.std.specs.Prelude.{All, slice_index}
use Rattle.std.specs.List.{slice_split, position_or_len, before_first}
use Rattle.std.specs.Str.Lines.{strip_carriage_return}
use Rattle.std.proofs.lemmas.Bool.Decides.{nat_tests}
use Rattle.std.proofs.lemmas.List.{take_all, get_or-drop}
use Rattle.std.proofs.lemmas.Grind.{common_steps}
use Rattle.std.proofs.lemmas.List.Elements.{All-head, All-tail, All-weaker}
use Rattle.std.proofs.lemmas.List.Sums.{prefix_len-le-length, fails_before_first, split_at_first}
use Rattle.std.proofs.lemmas.List.Splits.{slice_split_none, slice_split_at, slice_split_first}
use Rattle.jm_lines.specs.Low.{is_low}
use Rattle.jm_lines.specs.Lines.{is_line_feed, is_hash, is_blank, is_some_word, first_line, content_of, words_of, lines_of}

-- none of these bytes passes
abbrev pub NonePass : (ℕ → Bool) → List ℕ → Type 0
NonePass p bytes = All (λ b. p b ≡ false) bytes

append_none : (l : List ℕ) → l ++ [] ≡ l
append_none [] = refl
append_none (b ∷ l) = ap (λ m. b ∷ m) (append_none l)

one_more : (n : ℕ) → 1 + n ≡ suc n
one_more n = omega arith

-- what stands before the first byte that passes, after bytes of which none does
before_front : (p : ℕ → Bool) (front rest : List ℕ) → NonePass p front → before_first p (front ++ rest) ≡ front ++ before_first p rest
before_front p [] rest h = refl
before_front p (b ∷ front) rest h =
    let here = All-head (λ b. p b ≡ false) b front h in
    rw (here, one_more (position_or_len p (front ++ rest))) (ap (λ l. b ∷ l) (before_front p front rest (All-tail (λ b. p b ≡ false) b front h)))

before_skip : (p : ℕ → Bool) (b : ℕ) (rest : List ℕ) → p b ≡ false → before_first p (b ∷ rest) ≡ b ∷ before_first p rest
before_skip p b rest here = rw (here, one_more (position_or_len p rest)) refl

before_here : (p : ℕ → Bool) (b : ℕ) (rest : List ℕ) → p b ≡ true → before_first p (b ∷ rest) ≡ []
before_here p b rest here = rw here refl

pub place_fits : (p : ℕ → Bool) (bytes : List ℕ) → position_or_len p bytes ≤ length bytes
place_fits p bytes = prefix_len-le-length (λ b. not (p b)) bytes

place_front : (p : ℕ → Bool) (front rest : List ℕ) → NonePass p front → position_or_len p (front ++ rest) ≡ length front + position_or_len p rest
place_front p [] rest h = omega arith
place_front p (b ∷ front) rest h =
    let here = All-head (λ b. p b ≡ false) b front h in
    let more = place_front p front rest (All-tail (λ b. p b ≡ false) b front h) in
    rw here (omega (arith, more))

place_skip : (p : ℕ → Bool) (b : ℕ) (rest : List ℕ) → p b ≡ false → position_or_len p (b ∷ rest) ≡ 1 + position_or_len p rest
place_skip p b rest here = rw here refl

place_here : (p : ℕ → Bool) (b : ℕ) (rest : List ℕ) → p b ≡ true → position_or_len p (b ∷ rest) ≡ 0
place_here p b rest here = rw here refl

-- ---- the carriage return

cons_choice : (c : Bool) (b : ℕ) (t r : List ℕ) → cond c (b ∷ t) (b ∷ r) ≡ b ∷ cond c t r
cons_choice true b t r = refl
cons_choice false b t r = refl

strip-cons : (b y : ℕ) (l : List ℕ) → strip_carriage_return (b ∷ y ∷ l) ≡ b ∷ strip_carriage_return (y ∷ l)
strip-cons b y l =
    let longer : suc (suc (length l)) - 1 ≡ suc (length l) = omega arith in
    let shorter : suc (length l) - 1 ≡ length l = omega arith in
    rw (longer, shorter) (cons_choice (slice_index (y ∷ l) (length l) == 13) b (take (length l) (y ∷ l)) (y ∷ l))

-- one that doesn't end the text in front stays
strip-front : (front : List ℕ) (b : ℕ) (rest : List ℕ) → (b == 13) ≡ false → strip_carriage_return (front ++ b ∷ rest) ≡ front ++ b ∷ strip_carriage_return rest
strip-front [] b [] h = rw h refl
strip-front [] b (y ∷ rest) h = strip-cons b y rest
strip-front (x ∷ []) b rest h = strip-cons x b rest ∙ ap (λ l. x ∷ l) (strip-front [] b rest h)
strip-front (x ∷ y ∷ front) b rest h = strip-cons x y (front ++ b ∷ rest) ∙ ap (λ l. x ∷ l) (strip-front (y ∷ front) b rest h)

no_return : (b : ℕ) → is_low b ≡ false → (b == 13) ≡ false
no_return b h = grind (arith, nat_tests)

strip-none : (part : List ℕ) → NonePass is_low part → strip_carriage_return part ≡ part
strip-none [] h = refl
strip-none (b ∷ []) h = rw (no_return b (All-head (λ b. is_low b ≡ false) b [] h)) refl
strip-none (b ∷ y ∷ part) h = strip-cons b y part ∙ ap (λ l. b ∷ l) (strip-none (y ∷ part) (All-tail (λ b. is_low b ≡ false) b (y ∷ part) h))

-- ---- a word, and what ends it

no_feed : (b : ℕ) → is_low b ≡ false → is_line_feed b ≡ false
no_feed b h = grind (arith, nat_tests)

no_hash : (b : ℕ) → is_low b ≡ false → is_hash b ≡ false
no_hash b h = grind (arith, nat_tests)

no_blank : (b : ℕ) → is_low b ≡ false → is_blank b ≡ false
no_blank b h = grind (arith, nat_tests)

blank_no_feed : (b : ℕ) → is_blank b ≡ true → is_line_feed b ≡ false
blank_no_feed b h = grind (arith, nat_tests)

blank_no_hash : (b : ℕ) → is_blank b ≡ true → is_hash b ≡ false
blank_no_hash b h = grind (arith, nat_tests)

blank_no_return : (b : ℕ) → is_blank b ≡ true → (b == 13) ≡ false
blank_no_return b h = grind (arith, nat_tests)

module _ (part : List ℕ) (plain : NonePass is_low part) where
  feeds : NonePass is_line_feed part
  feeds = All-weaker (λ b. is_low b ≡ false) (λ b. is_line_feed b ≡ false) no_feed part plain

  hashes : NonePass is_hash part
  hashes = All-weaker (λ b. is_low b ≡ false) (λ b. is_hash b ≡ false) no_hash part plain

  blanks : NonePass is_blank part
  blanks = All-weaker (λ b. is_low b ≡ false) (λ b. is_blank b ≡ false) no_blank part plain

  -- the part is all that is left of the line
  alone : content_of part ≡ part
  alone = ap (before_first is_hash) (strip-none part plain) ∙ all_before
    where
      all_before : before_first is_hash part ≡ part
      all_before = ap (before_first is_hash) (sym (append_none part)) ∙ before_front is_hash part [] hashes ∙ append_none part

  words_alone : (line : List ℕ) → line ≡ part → words_of line ≡ filter is_some_word (part ∷ [])
  words_alone line e = ap (λ l. filter is_some_word (slice_split is_blank l)) (ap content_of e ∙ alone) ∙ ap (filter is_some_word) (slice_split_none is_blank part blanks)

  -- a blank stands after it
  module _ (b : ℕ) (rest : List ℕ) (blank : is_blank b ≡ true) where
    line_on : first_line (part ++ b ∷ rest) ≡ part ++ b ∷ first_line rest
    line_on = before_front is_line_feed part (b ∷ rest) feeds ∙ ap (λ l. part ++ l) (before_skip is_line_feed b rest (blank_no_feed b blank))

    content_on : content_of (first_line (part ++ b ∷ rest)) ≡ part ++ b ∷ content_of (first_line rest)
    content_on =
        ap content_of line_on
        ∙ ap (before_first is_hash) (strip-front part b (first_line rest) (blank_no_return b blank))
        ∙ before_front is_hash part (b ∷ strip_carriage_return (first_line rest)) hashes
        ∙ ap (λ l. part ++ l) (before_skip is_hash b (strip_carriage_return (first_line rest)) (blank_no_hash b blank))

    words_on : words_of (first_line (part ++ b ∷ rest)) ≡ filter is_some_word (part ∷ []) ++ words_of (first_line rest)
    words_on =
        ap (λ l. filter is_some_word (slice_split is_blank l)) content_on
        ∙ ap (filter is_some_word) (slice_split_at is_blank part b (content_of (first_line rest)) blanks blank)
        ∙ one_front (is_some_word part)
      where
        one_front : (c : Bool) → cond c (part ∷ words_of (first_line rest)) (words_of (first_line rest)) ≡ cond c (part ∷ []) [] ++ words_of (first_line rest)
        one_front true = refl
        one_front false = refl

    place_on : position_or_len is_line_feed (part ++ b ∷ rest) ≡ length part + 1 + position_or_len is_line_feed rest
    place_on = place_front is_line_feed part (b ∷ rest) feeds ∙ omega (arith, place_skip is_line_feed b rest (blank_no_feed b blank))

-- ---- the words so far

-- these are the words of a text's first line that stand before a place of the line, and what follows is like a text
pub record HasFound (text : List ℕ) (words : List (List ℕ)) (at : ℕ) : Type 0 where
  pub bounded : at ≤ length text
  pub left : words ++ words_of (first_line (drop at text)) ≡ words_of (first_line text)
  pub line : at + position_or_len is_line_feed (drop at text) ≡ position_or_len is_line_feed text

plain_before : (p : ℕ → Bool) (bytes : List ℕ) → NonePass p (before_first p bytes)
plain_before p bytes = λ k d lt. let fails = fails_before_first p bytes k d (grind (arith, common_steps)) in grind (arith, common_steps)

module _ (text : List ℕ) (words : List (List ℕ)) (at end : ℕ) (part : List ℕ) (before : HasFound text words at) (found : end ≡ at + position_or_len is_low (drop at text)) (here : part ≡ take (end - at) (drop at text)) where
  is_front : part ≡ before_first is_low (drop at text)
  is_front =
      let n : end - at ≡ position_or_len is_low (drop at text) = omega arith in
      here ∙ ap (λ k. take k (drop at text)) n

  plain : NonePass is_low part
  plain = rw is_front (plain_before is_low (drop at text))

  -- the text ends after the word
  module _ (all : end ≡ length text) where
    whole : drop at text ≡ part
    whole = sym (here ∙ take_all (end - at) (drop at text) (omega (arith, length-drop at text)))

    whole_line : first_line (drop at text) ≡ part
    whole_line =
        ap first_line whole ∙ ap first_line (sym (append_none part)) ∙ before_front is_line_feed part [] (feeds part plain) ∙ append_none part

    pub last_words : words ++ filter is_some_word (part ∷ []) ≡ words_of (first_line text)
    last_words = ap (λ l. words ++ l) (sym (words_alone part plain (first_line (drop at text)) whole_line)) ∙ before.left

    pub last_place : end ≡ position_or_len is_line_feed text
    last_place =
        let none = ap (position_or_len is_line_feed) (whole ∙ sym (append_none part)) ∙ place_front is_line_feed part [] (feeds part plain) in
        omega (arith, before.line, none, ap length whole, length-drop at text, before.bounded)

  -- a byte stands after it
  module _ (lt : end < length text) (b : ℕ) (byte : b ≡ get_or text end 0) where
    split : drop at text ≡ part ++ b ∷ drop (end + 1) text
    split =
        let r = drop at text in
        let n = position_or_len is_low r in
        let inside : n < length r = omega (arith, length-drop at text) in
        let next : get_or r n 0 ≡ b = get_or-drop at text n 0 ∙ ap (λ k. get_or text k 0) (sym found) ∙ sym byte in
        let further : at + (n + 1) ≡ end + 1 = omega arith in
        let after : drop (n + 1) r ≡ drop (end + 1) text = drop-drop (n + 1) at text ∙ ap (λ k. drop k text) further in
        split_at_first is_low r 0 inside ∙ ap (λ l. l ++ get_or r n 0 ∷ drop (n + 1) r) (sym is_front) ∙ ap (λ c. part ++ c ∷ drop (n + 1) r) next ∙ ap (λ l. part ++ b ∷ l) after

    part_length : length part ≡ end - at
    part_length = omega (arith, ap length split, length-append part (b ∷ drop (end + 1) text), length-drop at text, length-drop (end + 1) text, before.bounded)

    pub line_words : is_line_feed b ≡ true → words ++ filter is_some_word (part ∷ []) ≡ words_of (first_line text)
    line_words feed = ap (λ l. words ++ l) (sym (words_alone part plain (first_line (drop at text)) ends)) ∙ before.left
      where
        ends : first_line (drop at text) ≡ part
        ends =
            ap first_line split ∙ before_front is_line_feed part (b ∷ drop (end + 1) text) (feeds part plain)
            ∙ ap (λ l. part ++ l) (before_here is_line_feed b (drop (end + 1) text) feed) ∙ append_none part

    pub line_place : is_line_feed b ≡ true → end ≡ position_or_len is_line_feed text
    line_place feed =
        let place = ap (position_or_len is_line_feed) split ∙ place_front is_line_feed part (b ∷ drop (end + 1) text) (feeds part plain) in
        omega (arith, before.line, place, place_here is_line_feed b (drop (end + 1) text) feed, part_length)

    pub found_more : is_blank b ≡ true → HasFound text (words ++ filter is_some_word (part ∷ [])) (end + 1)
    found_more blank =
        let place = ap (position_or_len is_line_feed) split ∙ place_on part plain b (drop (end + 1) text) blank in
        record {
          bounded = omega arith;
          left =
              append_assoc words (filter is_some_word (part ∷ [])) (words_of (first_line (drop (end + 1) text)))
              ∙ ap (λ l. words ++ l) (sym (ap (λ l. words_of (first_line l)) split ∙ words_on part plain b (drop (end + 1) text) blank))
              ∙ before.left;
          line = omega (arith, before.line, place, part_length);
        }

-- ---- the lines

-- no line stands after the first
pub lines_end : (text : List ℕ) → position_or_len is_line_feed text ≡ length text → lines_of text ≡ first_line text ∷ []
lines_end text all =
    let whole : first_line text ≡ text = take_all (position_or_len is_line_feed text) text (omega arith) in
    let none = rw whole at (plain_before is_line_feed text) in
    slice_split_none is_line_feed text none ∙ ap (λ l. l ∷ []) (sym whole)

-- these lines do
pub lines_more : (text : List ℕ) (end : ℕ) → end ≡ position_or_len is_line_feed text → end < length text → lines_of text ≡ first_line text ∷ lines_of (drop (end + 1) text)
lines_more text end e lt =
    slice_split_first is_line_feed text 0 (omega arith) ∙ ap (λ k. first_line text ∷ lines_of (drop (k + 1) text)) (sym e)
