-- A recording, cut line after line.
use Rattle.std.proofs.Common.{◌≡◌, ℕ, zero, suc, ◌+◌, ◌-◌, ◌<◌, ◌≤◌, true, false, List, [], ◌∷◌, ◌++◌, map, length, get_or, take, drop, max, refl, sym, ap, ◌∙◌, append_assoc, append-nil, arith, length-append, length-drop, drop-drop}
use Rattle.std.proofs.lemmas.Bool.{eqb-true, ltb-true, ne_eqb, false≢true}
use Rattle.std.specs.Prelude.{All, Bool, ◌==◌, filter, eqb, nat_lt, slice_index, slice_index_or, if◌then◌else◌}
use Rattle.std.specs.List.{slice_split, onto_first, position_or_len, before_first, join_with_byte}
use Rattle.std.specs.Str.Lines.{strip_carriage_return}
use Rattle.std.proofs.lemmas.Bool.Decides.{nat_tests}
use Rattle.std.proofs.lemmas.List.{take_all, map-append, length_push}
use Rattle.std.proofs.lemmas.List.Elements.{All-nil, All-push}
use Rattle.std.proofs.lemmas.List.Sums.{split_at_first, passes_at_first}
use Rattle.std.proofs.lemmas.List.Splits.{slice_split-cons_no, slice_split_none, slice_split_at, join_with_byte-slice_split}
use Rattle.jm_lines.specs.Lines.{is_line_feed, is_hash, is_blank, is_some_word, first_line, content_of, lines_of}
use Rattle.jm_lines.proofs.LineLemmas.{lines_end, lines_more}
use Rattle.jm_sweep.specs.Recordings.{are_parting, is_parting, parts_of, span_text, LiesWithin}

-- lines, each with its line feed
abbrev pub fed_lines : List (List ℕ) → List ℕ
fed_lines [] = []
fed_lines (line ∷ lines) = line ++ 10 ∷ fed_lines lines

fed_push : (lines : List (List ℕ)) (line rest : List ℕ) → fed_lines (lines ++ line ∷ []) ++ rest ≡ fed_lines lines ++ (line ++ 10 ∷ rest)
fed_push [] line rest = append_assoc line (10 ∷ []) rest
fed_push (l ∷ lines) line rest =
    append_assoc l (10 ∷ fed_lines (lines ++ line ∷ [])) rest ∙ ap (λ t. l ++ 10 ∷ t) (fed_push lines line rest) ∙ sym (append_assoc l (10 ∷ fed_lines lines) (line ++ 10 ∷ rest))

fed_join : (line : List ℕ) (lines : List (List ℕ)) → fed_lines (line ∷ lines) ≡ join_with_byte 10 (line ∷ lines) ++ 10 ∷ []
fed_join line [] = refl
fed_join line (l ∷ lines) = ap (λ t. line ++ 10 ∷ t) (fed_join l lines) ∙ sym (append_assoc line (10 ∷ join_with_byte 10 (l ∷ lines)) (10 ∷ []))

front_of : (front rest : List ℕ) → take (length front) (front ++ rest) ≡ front
front_of [] rest = refl
front_of (b ∷ front) rest = ap (λ t. b ∷ t) (front_of front rest)

-- lines without their last line feed
unfed : (lines : List (List ℕ)) (rest : List ℕ) (n : ℕ) → n ≡ length (fed_lines lines) → take (n - 1) (fed_lines lines ++ rest) ≡ join_with_byte 10 lines
unfed [] rest n e =
    let none : n - 1 ≡ 0 = omega (arith, e) in
    ap (λ k. take k rest) none
unfed (line ∷ lines) rest n e =
    let j = join_with_byte 10 (line ∷ lines) in
    let whole = fed_join line lines in
    let count : n - 1 ≡ length j = omega (arith, e, ap length whole, length-append j (10 ∷ [])) in
    ap (λ k. take k (fed_lines (line ∷ lines) ++ rest)) count ∙ ap (λ t. take (length j) (t ++ rest)) whole ∙ ap (take (length j)) (append_assoc j (10 ∷ []) rest) ∙ front_of j (10 ∷ rest)

-- ---- a line that begins with a byte above `-`

short_word : (b : ℕ) (word : List ℕ) (words : List (List ℕ)) → 45 < b → are_parting ((b ∷ word) ∷ words) ≡ false
short_word b word (x ∷ words) above = refl
short_word b word [] above =
    let other : eqb b 45 ≡ false = ne_eqb b 45 (λ e. omega (arith, e, above)) in
    rw other refl

some_word : (b : ℕ) (word : List ℕ) → is_some_word (b ∷ word) ≡ true
some_word b word =
    let some : eqb (length (b ∷ word)) 0 ≡ false = ne_eqb (length (b ∷ word)) 0 (λ e. omega (arith, e)) in
    rw some refl

first_part : (b : ℕ) (parts : List (List ℕ)) → 45 < b → are_parting (filter is_some_word (onto_first b parts)) ≡ false
first_part b [] above = short_word b [] [] above
first_part b (part ∷ parts) above = rw (some_word b part) (short_word b part (filter is_some_word parts) above)

skips : (p : ℕ → Bool) (b : ℕ) (rest : List ℕ) → p b ≡ false → before_first p (b ∷ rest) ≡ b ∷ before_first p rest
skips p b rest here =
    let more : (n : ℕ) → 1 + n ≡ suc n = λ n. omega arith in
    rw (here, more (position_or_len p rest)) refl

begins_so : (b : ℕ) (line : List ℕ) → (b == 13) ≡ false → (rest : List ℕ) × (strip_carriage_return (b ∷ line) ≡ b ∷ rest)
begins_so b [] h = ([], rw h refl)
begins_so b (y ∷ line) h =
    let longer : suc (suc (length line)) - 1 ≡ suc (length line) = omega arith in
    let there = either (slice_index (y ∷ line) (length line) == 13) (take (length line) (y ∷ line)) (y ∷ line) in
    (there.0, rw longer there.1)
  where
    either : (c : Bool) (short long : List ℕ) → (rest : List ℕ) × ((if c then b ∷ short else b ∷ long) ≡ b ∷ rest)
    either true short long = (short, refl)
    either false short long = (long, refl)

-- no parting line does
pub above_dash : (b : ℕ) (rest : List ℕ) → 45 < b → is_parting (first_line (b ∷ rest)) ≡ false
above_dash b rest above =
    let feed : is_line_feed b ≡ false = ne_eqb b 10 (λ e. omega (arith, e, above)) in
    let return : (b == 13) ≡ false = ne_eqb b 13 (λ e. omega (arith, e, above)) in
    let hash : is_hash b ≡ false = ne_eqb b 35 (λ e. omega (arith, e, above)) in
    let blank : is_blank b ≡ false = grind (arith, nat_tests) in
    let line = before_first is_line_feed rest in
    let stripped = begins_so b line return in
    let content : content_of (first_line (b ∷ rest)) ≡ b ∷ before_first is_hash stripped.0 =
    ap content_of (skips is_line_feed b rest feed) ∙ ap (before_first is_hash) stripped.1 ∙ skips is_hash b stripped.0 hash in
    ap (λ l. are_parting (filter is_some_word (slice_split is_blank l))) content
    ∙ ap (λ l. are_parting (filter is_some_word l)) (slice_split-cons_no is_blank b (before_first is_hash stripped.0) blank)
    ∙ first_part b (slice_split is_blank (before_first is_hash stripped.0)) above

pub above_dash_first : (text : List ℕ) → nat_lt 45 (slice_index_or text 0 0) ≡ true → is_parting (first_line text) ≡ false
above_dash_first [] h = absurd (omega (arith, ltb-true 45 0 h))
above_dash_first (b ∷ rest) h = above_dash b rest (ltb-true 45 b h)

-- ---- the parts

-- these are the spans of the parts before the one that begins here, and the lines of that one so far end here
pub record IsCut (bytes : List ℕ) (spans : List (ℕ × ℕ)) (begin at : ℕ) : Type 0 where
  pub part : List (List ℕ)
  pub ordered : begin ≤ at
  pub bounded : at ≤ length bytes
  pub plain : All (λ line. is_parting line ≡ false) part
  pub text : drop begin bytes ≡ fed_lines part ++ drop at bytes
  pub lines : lines_of (drop begin bytes) ≡ part ++ lines_of (drop at bytes)
  pub cut : map (span_text bytes) spans ++ map (join_with_byte 10) (slice_split is_parting (lines_of (drop begin bytes))) ≡ parts_of bytes
  pub within : All (LiesWithin bytes) spans
  pub few : length spans ≤ begin

pub nothing_cut : (bytes : List ℕ) → IsCut bytes [] 0 0
nothing_cut bytes = record {
  part = [];
  ordered = omega arith;
  bounded = omega arith;
  plain = All-nil (λ line. is_parting line ≡ false);
  text = refl;
  lines = refl;
  cut = refl;
  within = All-nil (LiesWithin bytes);
  few = omega arith;
}

module _ (bytes : List ℕ) (spans : List (ℕ × ℕ)) (begin at : ℕ) (before : IsCut bytes spans begin at) (found : ℕ) (is : found ≡ position_or_len is_line_feed (drop at bytes)) where
  abbrev pub line : List ℕ
  line = first_line (drop at bytes)

  abbrev pub texts : List (ℕ × ℕ) → List (List ℕ)
  texts s = map (span_text bytes) s

  rest_length : length (drop at bytes) ≡ length bytes - at
  rest_length = length-drop at bytes

  -- one span more
  more_texts : (s : ℕ × ℕ) (rest : List (List ℕ)) → texts (spans ++ s ∷ []) ++ rest ≡ texts spans ++ (span_text bytes s ∷ rest)
  more_texts s rest = ap (λ l. l ++ rest) (map-append (span_text bytes) spans (s ∷ [])) ∙ append_assoc (texts spans) (span_text bytes s ∷ []) rest

  -- the line is the last one
  module _ (all : at + found ≡ length bytes) where
    last_line : lines_of (drop begin bytes) ≡ before.part ++ line ∷ []
    last_line = before.lines ∙ ap (λ l. before.part ++ l) (lines_end (drop at bytes) (omega (arith, rest_length, is, all, before.bounded)))

    -- and belongs to the part
    pub last_part : is_parting line ≡ false → map (span_text bytes) (spans ++ (begin, at + found) ∷ []) ≡ parts_of bytes
    last_part plain =
        let alone = slice_split_none is_parting (lines_of (drop begin bytes)) (rw last_line (All-push (λ l. is_parting l ≡ false) before.part line before.plain plain)) in
        let joined : map (join_with_byte 10) (slice_split is_parting (lines_of (drop begin bytes))) ≡ drop begin bytes ∷ [] = ap (map (join_with_byte 10)) alone ∙ ap (λ t. t ∷ []) (join_with_byte-slice_split 10 (drop begin bytes)) in
        let whole : span_text bytes (begin, at + found) ≡ drop begin bytes = take_all (at + found - begin) (drop begin bytes) (omega (arith, length-drop begin bytes, all)) in
        sym (append-nil (texts (spans ++ (begin, at + found) ∷ []))) ∙ more_texts (begin, at + found) [] ∙ ap (λ t. texts spans ++ t ∷ []) whole ∙ ap (λ l. texts spans ++ l) (sym joined) ∙ before.cut

    pub last_few : (s : ℕ × ℕ) → length (spans ++ s ∷ []) ≤ length bytes + 1
    last_few s = omega (arith, length_push spans s, before.few, before.ordered, before.bounded)

  span_is : span_text bytes (begin, max (at - 1) begin) ≡ join_with_byte 10 before.part
  span_is =
      let count : max (at - 1) begin - begin ≡ (at - begin) - 1 = omega (arith, before.ordered) in
      let long : at - begin ≡ length (fed_lines before.part) = omega (arith, ap length before.text, length-append (fed_lines before.part) (drop at bytes), rest_length, length-drop begin bytes, before.ordered, before.bounded) in
      ap (λ k. take k (drop begin bytes)) count ∙ ap (take (at - begin - 1)) before.text ∙ unfed before.part (drop at bytes) (at - begin) long

  -- the part ends before a parting line
  module _ (parting : is_parting line ≡ true) where
    parted : (rest : List (List ℕ)) → lines_of (drop begin bytes) ≡ before.part ++ line ∷ rest → texts (spans ++ (begin, max (at - 1) begin) ∷ []) ++ map (join_with_byte 10) (slice_split is_parting rest) ≡ parts_of bytes
    parted rest e =
        let cut = ap (slice_split is_parting) e ∙ slice_split_at is_parting before.part line rest before.plain parting in
        more_texts (begin, max (at - 1) begin) (map (join_with_byte 10) (slice_split is_parting rest)) ∙ ap (λ t. texts spans ++ t ∷ map (join_with_byte 10) (slice_split is_parting rest)) span_is
        ∙ ap (λ l. texts spans ++ map (join_with_byte 10) l) (sym cut) ∙ before.cut

    -- which is the last line: an empty part follows
    pub parted_last : at + found ≡ length bytes → map (span_text bytes) ((spans ++ (begin, max (at - 1) begin) ∷ []) ++ (at + found, at + found) ∷ []) ≡ parts_of bytes
    parted_last all =
        let none : at + found - (at + found) ≡ 0 = omega arith in
        map-append (span_text bytes) (spans ++ (begin, max (at - 1) begin) ∷ []) ((at + found, at + found) ∷ []) ∙ ap (λ k. texts (spans ++ (begin, max (at - 1) begin) ∷ []) ++ take k (drop (at + found) bytes) ∷ []) none ∙ parted [] (last_line all)

    -- a parting line has some bytes
    some_bytes : (n : ℕ) → n ≡ found → 1 ≤ n
    some_bytes zero e = absurd (false≢true (sym none ∙ parting))
      where
        none : is_parting line ≡ false
        none = ap (λ k. is_parting (take k (drop at bytes))) (sym (e ∙ is))
    some_bytes (suc n) e = omega arith

    pub parted_few : (s t : ℕ × ℕ) → at + found ≡ length bytes → length ((spans ++ s ∷ []) ++ t ∷ []) ≤ length bytes + 1
    parted_few s t all = omega (arith, length_push (spans ++ s ∷ []) t, length_push spans s, before.few, before.ordered, all, some_bytes found refl)

  -- a line feed ends the line
  module _ (lt : at + found < length bytes) where
    lt_rest : position_or_len is_line_feed (drop at bytes) < length (drop at bytes)
    lt_rest = omega (arith, rest_length, is, lt)

    further : drop (position_or_len is_line_feed (drop at bytes) + 1) (drop at bytes) ≡ drop (at + found + 1) bytes
    further =
        let n : at + (position_or_len is_line_feed (drop at bytes) + 1) ≡ at + found + 1 = omega (arith, is) in
        drop-drop (position_or_len is_line_feed (drop at bytes) + 1) at bytes ∙ ap (λ k. drop k bytes) n

    text_here : drop at bytes ≡ line ++ 10 ∷ drop (at + found + 1) bytes
    text_here =
        let r = drop at bytes in
        let feed : get_or r (position_or_len is_line_feed r) 0 ≡ 10 = eqb-true _ 10 (passes_at_first is_line_feed r 0 lt_rest) in
        split_at_first is_line_feed r 0 lt_rest ∙ ap (λ b. line ++ b ∷ drop (position_or_len is_line_feed r + 1) r) feed ∙ ap (λ t. line ++ 10 ∷ t) further

    lines_here : lines_of (drop begin bytes) ≡ before.part ++ line ∷ lines_of (drop (at + found + 1) bytes)
    lines_here = before.lines ∙ ap (λ l. before.part ++ l) (lines_more (drop at bytes) (position_or_len is_line_feed (drop at bytes)) refl lt_rest ∙ ap (λ t. line ∷ lines_of t) further)

    -- the line belongs to the part
    pub one_line : is_parting line ≡ false → IsCut bytes spans begin (at + found + 1)
    one_line plain = record {
      part = before.part ++ line ∷ [];
      ordered = omega (arith, before.ordered);
      bounded = omega (arith, lt);
      plain = All-push (λ l. is_parting l ≡ false) before.part line before.plain plain;
      text = before.text ∙ ap (λ t. fed_lines before.part ++ t) text_here ∙ sym (fed_push before.part line (drop (at + found + 1) bytes));
      lines = lines_here ∙ sym (append_assoc before.part (line ∷ []) (lines_of (drop (at + found + 1) bytes)));
      cut = before.cut;
      within = before.within;
      few = before.few;
    }

    -- or parts it from the next
    pub one_part : is_parting line ≡ true → IsCut bytes (spans ++ (begin, max (at - 1) begin) ∷ []) (at + found + 1) (at + found + 1)
    one_part parting = record {
      part = [];
      ordered = omega arith;
      bounded = omega (arith, lt);
      plain = All-nil (λ l. is_parting l ≡ false);
      text = refl;
      lines = refl;
      cut = parted parting (lines_of (drop (at + found + 1) bytes)) lines_here;
      within = All-push (LiesWithin bytes) spans (begin, max (at - 1) begin) before.within (omega arith, omega (arith, before.ordered, before.bounded));
      few = omega (arith, length_push spans (begin, max (at - 1) begin), before.few, before.ordered);
    }
