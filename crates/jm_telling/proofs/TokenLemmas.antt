-- What holds of the tokens of a file.
use Rattle.std.proofs.Common.{◌≡◌, ℕ, zero, suc, ◌+◌, ◌<◌, ◌≤◌, Bool, true, false, not, cond, ◌&&◌, ◌||◌, nat_eq, ◌⊎◌, inl, inr, List, [], ◌∷◌, ◌++◌, length, take, drop, Option, Some, None, Result, Ok, Err, refl, sym, ap, ◌∙◌, subst, append_assoc, append-nil, length-append, take-append-drop, arith}
use Rattle.std.specs.Prelude.{All, Contains, codes, slice_index_or, ◌==◌, if◌then◌else◌}
use Rattle.std.specs.List.{list_all, starts_with, prefix_len}
use Rattle.std.proofs.lemmas.Bool.Decides.{Decides-eqb}
use Rattle.std.proofs.lemmas.Slice.Eq.{starts_is}
use Rattle.std.proofs.lemmas.List.Folds.{length-prefix_len}
use Rattle.std.proofs.lemmas.List.Sums.{sum_by-append}
use Rattle.std.proofs.lemmas.List.Elements.{All-nil, All-cons, All-weaker}
use Rattle.jm_text.specs.declared.token.Token.{Token}
use Rattle.jm_text.specs.declared.token.TokenKind.{TokenKind}
use Rattle.jm_text.specs.declared.token.TokenKind.TheVariants.{Word, Text, Mark}
use Rattle.jm_text.specs.declared.piece.Piece.{Piece}
use Rattle.jm_text.specs.declared.piece.Piece.TheVariants.{Gap, Cut, Open}
use Rattle.jm_text.specs.Pieces.{line_feed, backslash, is_white, is_quote, is_word_byte, plus, line_length, comment_rest, escapes, text_rest, mark_length, closed, piece_of}
use Rattle.jm_text.specs.Tokens.{piece_length, led_by, tokens_behind, token_list, AreTokensOf}
use Rattle.jm_text.proofs.Cutting.{line_feeds, front as piece_at_front, front_open}
use Rattle.jm_telling.specs.TokenLaws.{HasNoEnd, EndsLine, IsDropped, white, line_comment, comment, nothing, more, TileFrom, TokensTile, IsBetween, begins_word, ends_word, IsWholeWord, WordsAreMaximal, long_marks, IsLongestMark, MarksAreLongest, takes_along, IsInside, IsQuoted, TextsAreQuoted, IsUnclosed, open_text, open_comment, TileUpTo, OpenIsUnclosed}

-- ---- small facts

same_some : {X : Type 0} {x y : X} → Some x ≡ Some y → x ≡ y
same_some e = cc

never_some : {X : Type 0} {x : X} → None ≡ Some x → ⊥
never_some e = cc

never_ok : {V E : Type 0} {v : V} {e : E} → ◌≡◌ {A = Result V E} (Err e) (Ok v) → ⊥
never_ok e = cc

same_ok : {V E : Type 0} {v w : V} → ◌≡◌ {A = Result V E} (Ok v) (Ok w) → v ≡ w
same_ok e = cc

never : true ≡ false → ⊥
never e = cc

both_ways : {b : Bool} → b ≡ true → b ≡ false → ⊥
both_ways is other = never (sym is ∙ other)

and_left : (x y : Bool) → (x && y) ≡ true → x ≡ true
and_left true y h = refl
and_left false y h = h

and_right : (x y : Bool) → (x && y) ≡ true → y ≡ true
and_right true y h = h
and_right false y h = absurd (never (sym h))

or_parts : (x y : Bool) → (x || y) ≡ true → (x ≡ true) ⊎ (y ≡ true)
or_parts true y h = inl refl
or_parts false y h = inr h

choose : {A : Type 0} (P : A → Type 0) (c : Bool) (x y : A) → (c ≡ true → P x) → (c ≡ false → P y) → P (if c then x else y)
choose P true x y a b = a refl
choose P false x y a b = b refl

is_that : (b k : ℕ) → (b == k) ≡ true → b ≡ k
is_that b k h = (Decides-eqb b k).0 h

drop_behind : (text behind : List ℕ) → drop (length text) (text ++ behind) ≡ behind
drop_behind [] behind = refl
drop_behind (x ∷ text) behind = drop_behind text behind

-- what stands after a pattern
behind_pattern : (bytes pattern : List ℕ) → starts_with nat_eq bytes pattern ≡ true → bytes ≡ pattern ++ drop (length pattern) bytes
behind_pattern bytes pattern h = (starts_is Decides-eqb bytes pattern (starts_with nat_eq bytes pattern) refl).0 h

begins_with : (bytes pattern rest : List ℕ) → bytes ≡ pattern ++ rest → starts_with nat_eq bytes pattern ≡ true
begins_with bytes pattern rest e = (starts_is Decides-eqb bytes pattern (starts_with nat_eq bytes pattern) refl).1 rest e

-- ---- bytes of words

white_no_word : (b : ℕ) → is_white b ≡ true → is_word_byte b ≡ false
white_no_word b h = three (or_parts (b == 32 || b == 9 || b == 13) (b == line_feed) h)
  where
    at : (k : ℕ) → (b == k) ≡ true → is_word_byte k ≡ false → is_word_byte b ≡ false
    at k e h = subst (λ v. is_word_byte v ≡ false) (sym (is_that b k e)) h

    one : ((b == 32) ≡ true) ⊎ ((b == 9) ≡ true) → is_word_byte b ≡ false
    one (inl e) = at 32 e refl
    one (inr e) = at 9 e refl

    two : ((b == 32 || b == 9) ≡ true) ⊎ ((b == 13) ≡ true) → is_word_byte b ≡ false
    two (inl e) = one (or_parts (b == 32) (b == 9) e)
    two (inr e) = at 13 e refl

    three : ((b == 32 || b == 9 || b == 13) ≡ true) ⊎ ((b == line_feed) ≡ true) → is_word_byte b ≡ false
    three (inl e) = two (or_parts (b == 32 || b == 9) (b == 13) e)
    three (inr e) = at 10 e refl

quote_no_word : (b : ℕ) → is_quote b ≡ true → is_word_byte b ≡ false
quote_no_word b h = one (or_parts (b == 34) (b == 39) h)
  where
    one : (b == 34) ≡ true ⊎ (b == 39) ≡ true → is_word_byte b ≡ false
    one (inl e) = subst (λ v. is_word_byte v ≡ false) (sym (is_that b 34 e)) refl
    one (inr e) = subst (λ v. is_word_byte v ≡ false) (sym (is_that b 39 e)) refl

ends_append : (front text : List ℕ) → 0 < length text → ends_word (front ++ text) ≡ ends_word text
ends_append [] text some = refl
ends_append (x ∷ []) [] some = absurd (omega (arith, some))
ends_append (x ∷ []) (y ∷ text) some = refl
ends_append (x ∷ y ∷ front) text some = ends_append (y ∷ front) text some

-- the longest front that passes a test, and where it stops
front_passes : (p : ℕ → Bool) (xs : List ℕ) → list_all p (take (prefix_len p xs) xs) ≡ true
front_passes p [] = refl
front_passes p (x ∷ xs) = by_case (front_passes p xs) (p x) refl
  where
    by_case : list_all p (take (prefix_len p xs) xs) ≡ true → (c : Bool) → p x ≡ c → list_all p (take (cond c (1 + prefix_len p xs) 0) (x ∷ xs)) ≡ true
    by_case rest true e = let one : 1 + prefix_len p xs ≡ suc (prefix_len p xs) = omega arith in rw (one, e) rest
    by_case rest false e = refl

front_stops : (p : ℕ → Bool) → ((x : ℕ) → p x ≡ false → is_word_byte x ≡ false) → (xs : List ℕ) → begins_word (drop (prefix_len p xs) xs) ≡ false
front_stops p fails [] = refl
front_stops p fails (x ∷ xs) = by_case (front_stops p fails xs) (p x) refl
  where
    by_case : begins_word (drop (prefix_len p xs) xs) ≡ false → (c : Bool) → p x ≡ c → begins_word (drop (cond c (1 + prefix_len p xs) 0) (x ∷ xs)) ≡ false
    by_case rest true e = let one : 1 + prefix_len p xs ≡ suc (prefix_len p xs) = omega arith in rw one rest
    by_case rest false e = fails x e

-- ---- what a piece says

-- two texts stand side by side, and no word goes on from one to the other
abbrev Seam : List ℕ → List ℕ → Type 0
Seam before behind = (ends_word before ≡ false) ⊎ (begins_word behind ≡ false)

record Splits (bytes : List ℕ) (n : ℕ) (P : List ℕ → List ℕ → Type 0) : Type 0 where
  text : List ℕ
  behind : List ℕ
  split : bytes ≡ text ++ behind
  long : n ≡ length text
  some : 0 < n
  seam : Seam text behind
  says : P text behind

abbrev IsMarkText : List ℕ → Type 0
IsMarkText text = Contains long_marks text ⊎ (length text ≡ 1)

record IsQuotedText (text : List ℕ) : Type 0 where
  quote : ℕ
  inside : List ℕ
  is : is_quote quote ≡ true
  made : text ≡ quote ∷ (inside ++ quote ∷ [])
  within : IsInside quote inside
  free : takes_along false inside ≡ false

abbrev KindSays : List ℕ → TokenKind → List ℕ → List ℕ → Type 0
KindSays bytes Word text behind = (list_all is_word_byte text ≡ true) × (begins_word behind ≡ false)
KindSays bytes Text text behind = IsQuotedText text
KindSays bytes Mark text behind = IsMarkText text

abbrev PieceSays : List ℕ → Piece → Type 0
PieceSays bytes (Gap n) = Splits bytes n IsDropped
PieceSays bytes (Cut kind n) = Splits bytes n (KindSays bytes kind)
PieceSays bytes Open = IsUnclosed bytes

white_says : (b : ℕ) (bs : List ℕ) → is_white b ≡ true → PieceSays (b ∷ bs) (Gap 1)
white_says b bs h = record { text = b ∷ []; behind = bs; split = refl; long = refl; some = omega arith; seam = inl (white_no_word b h); says = white b bs h }

abbrev no_feed : ℕ → Bool
no_feed c = not (c == line_feed)

feed_no_word : (x : ℕ) → no_feed x ≡ false → is_word_byte x ≡ false
feed_no_word x h = by_case (x == line_feed) refl h
  where
    by_case : (c : Bool) → (x == line_feed) ≡ c → not c ≡ false → is_word_byte x ≡ false
    by_case true e h = subst (λ v. is_word_byte v ≡ false) (sym (is_that x 10 e)) refl
    by_case false e h = absurd (never h)

feed_stops : (xs : List ℕ) → EndsLine (drop (prefix_len no_feed xs) xs)
feed_stops [] = tt
feed_stops (x ∷ xs) = by_case (feed_stops xs) (x == line_feed) refl
  where
    by_case : EndsLine (drop (prefix_len no_feed xs) xs) → (c : Bool) → (x == line_feed) ≡ c → EndsLine (drop (cond (not c) (1 + prefix_len no_feed xs) 0) (x ∷ xs))
    by_case rest true e = is_that x 10 e
    by_case rest false e = let one : 1 + prefix_len no_feed xs ≡ suc (prefix_len no_feed xs) = omega arith in rw one rest

line_says : (bytes : List ℕ) → starts_with nat_eq bytes (codes "//") ≡ true → PieceSays bytes (Gap (line_length bytes))
line_says bytes h =
    let rest = drop 2 bytes in
    let k = prefix_len no_feed rest in
    let at : bytes ≡ codes "//" ++ rest = behind_pattern bytes (codes "//") h in
    let counted : line_length bytes ≡ 1 + (1 + k) = ap (prefix_len no_feed) at in
    let taken : length (take k rest) ≡ k = length-prefix_len no_feed rest in
    record {
      text = codes "//" ++ take k rest;
      behind = drop k rest;
      split = at ∙ ap (λ v. codes "//" ++ v) (sym (take-append-drop k rest));
      long = omega (arith, counted, taken);
      some = omega (arith, counted);
      seam = inr (front_stops no_feed feed_no_word rest);
      says = line_comment (take k rest) (drop k rest) (front_passes no_feed rest) (feed_stops rest);
    }

-- after `/*`
record Closes (bytes : List ℕ) (n : ℕ) : Type 0 where
  text : List ℕ
  behind : List ℕ
  split : bytes ≡ text ++ codes "*/" ++ behind
  long : n ≡ length text + 2
  no_end : HasNoEnd text

comment_closes : (bs : List ℕ) (m : ℕ) → comment_rest bs ≡ Some m → Closes bs m
comment_closes [] m h = absurd (never_some h)
comment_closes (b ∷ bs) m h = by_case (comment_closes bs) (starts_with nat_eq (b ∷ bs) (codes "*/")) refl h
  where
    no_end_more : starts_with nat_eq (b ∷ bs) (codes "*/") ≡ false → (text rest : List ℕ) → bs ≡ text ++ codes "*/" ++ rest → HasNoEnd text → HasNoEnd (b ∷ text)
    no_end_more open_here text rest split none [] behind is =
        let whole : b ∷ bs ≡ codes "*/" ++ (behind ++ codes "*/" ++ rest) = ap (λ v. b ∷ v) split ∙ ap (λ v. v ++ codes "*/" ++ rest) is in
        both_ways (begins_with (b ∷ bs) (codes "*/") (behind ++ codes "*/" ++ rest) whole) open_here
    no_end_more open_here text rest split none (x ∷ before) behind is = none before behind (ap (drop 1) is)

    later : ((m : ℕ) → comment_rest bs ≡ Some m → Closes bs m) → starts_with nat_eq (b ∷ bs) (codes "*/") ≡ false → (o : Option ℕ) → comment_rest bs ≡ o → plus 1 o ≡ Some m → Closes (b ∷ bs) m
    later closes open_here None e h = absurd (never_some h)
    later closes open_here (Some k) e h =
        let c = closes k e in
        let n : k + 1 ≡ m = same_some h in
        record {
          text = b ∷ c.text;
          behind = c.behind;
          split = ap (λ v. b ∷ v) c.split;
          long = omega (arith, n, c.long);
          no_end = no_end_more open_here c.text c.behind c.split c.no_end;
        }

    by_case : ((m : ℕ) → comment_rest bs ≡ Some m → Closes bs m) → (c : Bool) → starts_with nat_eq (b ∷ bs) (codes "*/") ≡ c → (if c then Some 2 else plus 1 (comment_rest bs)) ≡ Some m → Closes (b ∷ bs) m
    by_case closes true e h = record {
      text = [];
      behind = drop 2 (b ∷ bs);
      split = behind_pattern (b ∷ bs) (codes "*/") e;
      long = sym (same_some h);
      no_end = λ before behind is. let lengths = ap (λ (v : List ℕ). length v) is in omega (arith, lengths, length-append before (codes "*/"), length-append (before ++ codes "*/") behind);
    }
    by_case closes false e h = later closes e (comment_rest bs) refl h

nothing_holds : (pattern before behind : List ℕ) → 0 < length pattern → [] ≡ before ++ pattern ++ behind → ⊥
nothing_holds pattern before behind some is =
    let lengths = ap (λ (v : List ℕ). length v) is in
    omega (arith, lengths, length-append before pattern, length-append (before ++ pattern) behind, some)

comment_open : (bs : List ℕ) → comment_rest bs ≡ None → HasNoEnd bs
comment_open [] h = λ before behind is. nothing_holds (codes "*/") before behind (omega arith) is
comment_open (b ∷ bs) h = by_case (comment_open bs) (starts_with nat_eq (b ∷ bs) (codes "*/")) refl h
  where
    later : (o : Option ℕ) → comment_rest bs ≡ o → plus 1 o ≡ None → comment_rest bs ≡ None
    later None e h = e
    later (Some k) e h = absurd (never_some (sym h))

    no_end : HasNoEnd bs → starts_with nat_eq (b ∷ bs) (codes "*/") ≡ false → HasNoEnd (b ∷ bs)
    no_end none e [] behind is = both_ways (begins_with (b ∷ bs) (codes "*/") behind is) e
    no_end none e (x ∷ before) behind is = none before behind (ap (drop 1) is)

    by_case : (comment_rest bs ≡ None → HasNoEnd bs) → (c : Bool) → starts_with nat_eq (b ∷ bs) (codes "*/") ≡ c → (if c then Some 2 else plus 1 (comment_rest bs)) ≡ None → HasNoEnd (b ∷ bs)
    by_case opens true e h = absurd (never_some (sym h))
    by_case opens false e h = no_end (opens (later (comment_rest bs) refl h)) e

comment_says : (bytes : List ℕ) → starts_with nat_eq bytes (codes "/*") ≡ true → PieceSays bytes (closed Gap (plus 2 (comment_rest (drop 2 bytes))))
comment_says bytes h = by_case (comment_rest (drop 2 bytes)) refl
  where
    by_case : (o : Option ℕ) → comment_rest (drop 2 bytes) ≡ o → PieceSays bytes (closed Gap (plus 2 o))
    by_case None e = subst IsUnclosed (sym (behind_pattern bytes (codes "/*") h)) (open_comment (drop 2 bytes) (comment_open (drop 2 bytes) e))
    by_case (Some m) e =
        let c = comment_closes (drop 2 bytes) m e in
        let here : bytes ≡ codes "/*" ++ (c.text ++ codes "*/" ++ c.behind) = behind_pattern bytes (codes "/*") h ∙ ap (λ v. codes "/*" ++ v) c.split in
        let last : ends_word ((codes "/*" ++ c.text) ++ codes "*/") ≡ false = ends_append (codes "/*" ++ c.text) (codes "*/") (omega arith) in
        record {
          text = codes "/*" ++ c.text ++ codes "*/";
          behind = c.behind;
          split = here;
          long = omega (arith, c.long, length-append c.text (codes "*/"));
          some = omega arith;
          seam = inl last;
          says = comment c.text c.behind c.no_end;
        }

-- ---- texts

head_is : {x y : ℕ} {xs ys : List ℕ} → x ∷ xs ≡ y ∷ ys → x ≡ y
head_is e = ap (λ v. slice_index_or v 0 0) e

quote_no_feed : (q : ℕ) → is_quote q ≡ true → (line_feed == q) ≡ false
quote_no_feed q h = one (or_parts (q == 34) (q == 39) h)
  where
    one : (q == 34) ≡ true ⊎ (q == 39) ≡ true → (line_feed == q) ≡ false
    one (inl e) = subst (λ v. (line_feed == v) ≡ false) (sym (is_that q 34 e)) refl
    one (inr e) = subst (λ v. (line_feed == v) ≡ false) (sym (is_that q 39 e)) refl

is_no : (b k : ℕ) → (b == k) ≡ false → b ≡ k → ⊥
is_no b k h e = both_ways ((Decides-eqb b k).1 e) h

module _ (q : ℕ) where
  inside_nothing : IsInside q []
  inside_nothing = record { one_line = refl; taken = λ before behind is. absurd (nothing_holds (q ∷ []) before behind (omega arith) (is ∙ sym (append_assoc before (q ∷ []) behind))) }

  module _ (b : ℕ) (other : (b == q) ≡ false) (no_feed_here : (b == line_feed) ≡ false) where
    -- a byte that takes nothing along
    inside_more : (text : List ℕ) → (b == backslash) ≡ false → IsInside q text → IsInside q (b ∷ text)
    inside_more text plain within = record { one_line = rw no_feed_here within.one_line; taken = taken }
      where
        taken : (before behind : List ℕ) → b ∷ text ≡ before ++ q ∷ behind → takes_along false before ≡ true
        taken [] behind is = absurd (is_no b q other (head_is is))
        taken (x ∷ before) behind is =
            let same : x ≡ b = sym (head_is is) in
            ap (λ v. takes_along (v == backslash) before) same ∙ ap (λ v. takes_along v before) plain ∙ within.taken before behind (ap (drop 1) is)

    -- the last byte of a line
    inside_last : IsInside q (b ∷ [])
    inside_last = record { one_line = rw no_feed_here refl; taken = taken }
      where
        taken : (before behind : List ℕ) → b ∷ [] ≡ before ++ q ∷ behind → takes_along false before ≡ true
        taken [] behind is = absurd (is_no b q other (head_is is))
        taken (x ∷ before) behind is = absurd (nothing_holds (q ∷ []) before behind (omega arith) (ap (drop 1) is ∙ sym (append_assoc before (q ∷ []) behind)))

    -- a backslash, and the byte that it takes along
    inside_pair : (c : ℕ) (text : List ℕ) → (b == backslash) ≡ true → (c == line_feed) ≡ false → IsInside q text → IsInside q (b ∷ c ∷ text)
    inside_pair c text takes no_feed_behind within = record { one_line = rw (no_feed_here, no_feed_behind) within.one_line; taken = taken }
      where
        taken : (before behind : List ℕ) → b ∷ c ∷ text ≡ before ++ q ∷ behind → takes_along false before ≡ true
        taken [] behind is = absurd (is_no b q other (head_is is))
        taken (x ∷ []) behind is = ap (λ v. v == backslash) (sym (head_is is)) ∙ takes
        taken (x ∷ y ∷ before) behind is =
            let same : x ≡ b = sym (head_is is) in
            ap (λ v. takes_along (not (v == backslash) && y == backslash) before) same ∙ ap (λ v. takes_along (not v && y == backslash) before) takes ∙ within.taken before behind (ap (drop 2) is)

-- after a quote
record Quotes (quote : ℕ) (bytes : List ℕ) (n : ℕ) : Type 0 where
  text : List ℕ
  behind : List ℕ
  split : bytes ≡ text ++ quote ∷ behind
  long : n ≡ length text + 1
  within : IsInside quote text
  free : takes_along false text ≡ false

-- after a quote, where no other one ends the text on its line
record RunsOut (quote : ℕ) (bytes : List ℕ) : Type 0 where
  text : List ℕ
  behind : List ℕ
  split : bytes ≡ text ++ behind
  within : IsInside quote text
  ends : EndsLine behind

-- what a text comes to
abbrev TextSays : ℕ → List ℕ → Option ℕ → Type 0
TextSays q bytes None = RunsOut q bytes
TextSays q bytes (Some n) = Quotes q bytes n

module _ (q : ℕ) (q_no_feed : (line_feed == q) ≡ false) where
  here_says : (b : ℕ) (bs : List ℕ) → (b == q) ≡ true → TextSays q (b ∷ bs) (Some 1)
  here_says b bs e = record { text = []; behind = bs; split = ap (λ v. v ∷ bs) (is_that b q e); long = refl; within = inside_nothing q; free = refl }

  feed_says : (b : ℕ) (bs : List ℕ) → (b == line_feed) ≡ true → TextSays q (b ∷ bs) None
  feed_says b bs e = record { text = []; behind = b ∷ bs; split = refl; within = inside_nothing q; ends = is_that b line_feed e }

  -- after a line feed nothing of the text stands
  feed_first : (c : ℕ) (bs : List ℕ) → (c == line_feed) ≡ true → text_rest q (c ∷ bs) ≡ None
  feed_first c [] e = subst (λ v. text_rest q (v ∷ []) ≡ None) (sym (is_that c line_feed e)) (rw q_no_feed refl)
  feed_first c (d ∷ bs) e = subst (λ v. text_rest q (v ∷ d ∷ bs) ≡ None) (sym (is_that c line_feed e)) (rw q_no_feed refl)

  rest_says : (bs : List ℕ) → TextSays q bs (text_rest q bs)
  rest_says [] = record { text = []; behind = []; split = refl; within = inside_nothing q; ends = tt }
  rest_says (b ∷ []) = by_case (b == q) refl (b == line_feed) refl
    where
      by_case : (c : Bool) → (b == q) ≡ c → (d : Bool) → (b == line_feed) ≡ d → TextSays q (b ∷ []) (if c then Some 1 else None)
      by_case true e d g = here_says b [] e
      by_case false e true g = feed_says b [] g
      by_case false e false g = record { text = b ∷ []; behind = []; split = refl; within = inside_last q b e g; ends = tt }
  rest_says (b ∷ c ∷ bs) = one (rest_says bs) (rest_says (c ∷ bs)) (b == q) refl
    where
      pair : (b == q) ≡ false → (b == line_feed) ≡ false → (b == backslash) ≡ true → (c == line_feed) ≡ false → (o : Option ℕ) → TextSays q bs o → TextSays q (b ∷ c ∷ bs) (plus 2 o)
      pair other within_line takes none None r = record { text = b ∷ c ∷ r.text; behind = r.behind; split = ap (λ v. b ∷ c ∷ v) r.split; within = inside_pair q b other within_line c r.text takes none r.within; ends = r.ends }
      pair other within_line takes none (Some k) t = record {
        text = b ∷ c ∷ t.text;
        behind = t.behind;
        split = ap (λ v. b ∷ c ∷ v) t.split;
        long = omega (arith, t.long);
        within = inside_pair q b other within_line c t.text takes none t.within;
        free = ap (λ v. takes_along (not v && c == backslash) t.text) takes ∙ t.free;
      }

      plain : (b == q) ≡ false → (b == line_feed) ≡ false → (b == backslash) ≡ false → (o : Option ℕ) → TextSays q (c ∷ bs) o → TextSays q (b ∷ c ∷ bs) (plus 1 o)
      plain other within_line takes_none None r = record { text = b ∷ r.text; behind = r.behind; split = ap (λ v. b ∷ v) r.split; within = inside_more q b other within_line r.text takes_none r.within; ends = r.ends }
      plain other within_line takes_none (Some k) t = record {
        text = b ∷ t.text;
        behind = t.behind;
        split = ap (λ v. b ∷ v) t.split;
        long = omega (arith, t.long);
        within = inside_more q b other within_line t.text takes_none t.within;
        free = ap (λ v. takes_along v t.text) takes_none ∙ t.free;
      }

      last : (b == q) ≡ false → (b == line_feed) ≡ false → (c == line_feed) ≡ true → TextSays q (b ∷ c ∷ bs) None
      last other within_line feed = record { text = b ∷ []; behind = c ∷ bs; split = refl; within = inside_last q b other within_line; ends = is_that c line_feed feed }

      four : TextSays q (c ∷ bs) (text_rest q (c ∷ bs)) → (b == q) ≡ false → (b == line_feed) ≡ false → (t : Bool) → (b == backslash) ≡ t → (n : Bool) → (c == line_feed) ≡ n → (t && not n) ≡ false → TextSays q (b ∷ c ∷ bs) (plus 1 (text_rest q (c ∷ bs)))
      four says other within_line t takes true feed h = subst (λ o. TextSays q (b ∷ c ∷ bs) (plus 1 o)) (sym (feed_first c bs feed)) (last other within_line feed)
      four says other within_line true takes false feed h = absurd (never h)
      four says other within_line false takes false feed h = plain other within_line takes (text_rest q (c ∷ bs)) says

      three : TextSays q bs (text_rest q bs) → TextSays q (c ∷ bs) (text_rest q (c ∷ bs)) → (b == q) ≡ false → (b == line_feed) ≡ false → (d : Bool) → escapes (b ∷ c ∷ bs) ≡ d → TextSays q (b ∷ c ∷ bs) (if d then plus 2 (text_rest q bs) else plus 1 (text_rest q (c ∷ bs)))
      three near nearer other within_line true e = pair other within_line (and_left (b == backslash) (not (c == line_feed)) e) (no_feed_behind (c == line_feed) refl (and_right (b == backslash) (not (c == line_feed)) e)) (text_rest q bs) near
        where
          no_feed_behind : (n : Bool) → (c == line_feed) ≡ n → not n ≡ true → (c == line_feed) ≡ false
          no_feed_behind true is h = absurd (never (sym h))
          no_feed_behind false is h = is
      three near nearer other within_line false e = four nearer other within_line (b == backslash) refl (c == line_feed) refl e

      two : TextSays q bs (text_rest q bs) → TextSays q (c ∷ bs) (text_rest q (c ∷ bs)) → (b == q) ≡ false → (d : Bool) → (b == line_feed) ≡ d → TextSays q (b ∷ c ∷ bs) (if d then None else if escapes (b ∷ c ∷ bs) then plus 2 (text_rest q bs) else plus 1 (text_rest q (c ∷ bs)))
      two near nearer other true e = feed_says b (c ∷ bs) e
      two near nearer other false e = three near nearer other e (escapes (b ∷ c ∷ bs)) refl

      one : TextSays q bs (text_rest q bs) → TextSays q (c ∷ bs) (text_rest q (c ∷ bs)) → (d : Bool) → (b == q) ≡ d → TextSays q (b ∷ c ∷ bs) (if d then Some 1 else if b == line_feed then None else if escapes (b ∷ c ∷ bs) then plus 2 (text_rest q bs) else plus 1 (text_rest q (c ∷ bs)))
      one near nearer true e = here_says b (c ∷ bs) e
      one near nearer false e = two near nearer e (b == line_feed) refl

text_says : (b : ℕ) (bs : List ℕ) → is_quote b ≡ true → PieceSays (b ∷ bs) (closed (Cut Text) (plus 1 (text_rest b bs)))
text_says b bs h = by_case (text_rest b bs) (rest_says b (quote_no_feed b h) bs)
  where
    by_case : (o : Option ℕ) → TextSays b bs o → PieceSays (b ∷ bs) (closed (Cut Text) (plus 1 o))
    by_case None r = subst (λ v. IsUnclosed (b ∷ v)) (sym r.split) (open_text b r.text r.behind h r.within r.ends)
    by_case (Some m) t = record {
      text = b ∷ (t.text ++ b ∷ []);
      behind = t.behind;
      split = ap (λ v. b ∷ v) (t.split ∙ sym (append_assoc t.text (b ∷ []) t.behind));
      long = omega (arith, t.long, length-append t.text (b ∷ []));
      some = omega arith;
      seam = inl (ends_append (b ∷ t.text) (b ∷ []) (omega arith) ∙ quote_no_word b h);
      says = record { quote = b; inside = t.text; is = h; made = refl; within = t.within; free = t.free };
    }

word_says : (b : ℕ) (bs : List ℕ) → is_word_byte b ≡ true → PieceSays (b ∷ bs) (Cut Word (prefix_len is_word_byte (b ∷ bs)))
word_says b bs h =
    let k = prefix_len is_word_byte (b ∷ bs) in
    let counted : k ≡ 1 + prefix_len is_word_byte bs = rw h refl in
    let back = front_stops is_word_byte (λ x e. e) (b ∷ bs) in
    record {
      text = take k (b ∷ bs);
      behind = drop k (b ∷ bs);
      split = sym (take-append-drop k (b ∷ bs));
      long = sym (length-prefix_len is_word_byte (b ∷ bs));
      some = omega (arith, counted);
      seam = inr back;
      says = (front_passes is_word_byte (b ∷ bs), back);
    }

mark_says : (b : ℕ) (bs : List ℕ) → is_word_byte b ≡ false → PieceSays (b ∷ bs) (Cut Mark (mark_length (b ∷ bs)))
mark_says b bs other =
    let P = λ (n : ℕ). Splits (b ∷ bs) n (KindSays (b ∷ bs) Mark) in
    choose P _ _ _ (λ h. long 0 (codes "<=>") refl refl (omega arith) (omega arith) h) λ _.
    choose P _ _ _ (λ h. long 1 (codes "[*]") refl refl (omega arith) (omega arith) h) λ _.
    choose P _ _ _ (λ h. long 2 (codes "<*>") refl refl (omega arith) (omega arith) h) λ _.
    choose P _ _ _ (λ h. long 3 (codes "(*)") refl refl (omega arith) (omega arith) h) λ _.
    choose P _ _ _ (λ h. long 4 (codes "->") refl refl (omega arith) (omega arith) h) λ _.
    choose P _ _ _ (λ h. long 5 (codes "=>") refl refl (omega arith) (omega arith) h) λ _.
    choose P _ _ _ (λ h. long 6 (codes "&&") refl refl (omega arith) (omega arith) h) λ _.
    choose P _ _ _ (λ h. long 7 (codes "||") refl refl (omega arith) (omega arith) h) λ _.
    record { text = b ∷ []; behind = bs; split = refl; long = refl; some = omega arith; seam = inl other; says = inr refl }
  where
    long : (k : ℕ) (mark : List ℕ) → slice_index_or long_marks k mark ≡ mark → ends_word mark ≡ false → k < 8 → 0 < length mark → starts_with nat_eq (b ∷ bs) mark ≡ true → Splits (b ∷ bs) (length mark) (KindSays (b ∷ bs) Mark)
    long k mark at ends few some h = record {
      text = mark;
      behind = drop (length mark) (b ∷ bs);
      split = behind_pattern (b ∷ bs) mark h;
      long = refl;
      some = some;
      seam = inl ends;
      says = inl (k, few, at);
    }

piece_says : (b : ℕ) (bs : List ℕ) → PieceSays (b ∷ bs) (piece_of (b ∷ bs))
unfolding piece_of
piece_says b bs =
    choose (PieceSays (b ∷ bs)) (is_white b) _ _ (white_says b bs) λ _.
    choose (PieceSays (b ∷ bs)) (starts_with nat_eq (b ∷ bs) (codes "//")) _ _ (line_says (b ∷ bs)) λ _.
    choose (PieceSays (b ∷ bs)) (starts_with nat_eq (b ∷ bs) (codes "/*")) _ _ (comment_says (b ∷ bs)) λ _.
    choose (PieceSays (b ∷ bs)) (is_quote b) _ _ (text_says b bs) λ _.
    choose (PieceSays (b ∷ bs)) (is_word_byte b) _ _ (word_says b bs) (mark_says b bs)

-- ---- the longest mark

here : (c : Bool) (n x : ℕ) → c ≡ true → n ≤ (if c then n else x)
here true n x h = omega arith
here false n x h = absurd (cc)

past : (c : Bool) (m n x : ℕ) → m ≤ n → m ≤ x → m ≤ (if c then n else x)
past true m n x a b = a
past false m n x a b = b

none_longer : (bytes : List ℕ) → All (λ mark. starts_with nat_eq bytes mark ≡ true → length mark ≤ mark_length bytes) long_marks
none_longer bytes =
    let P = λ (mark : List ℕ). starts_with nat_eq bytes mark ≡ true → length mark ≤ mark_length bytes in
    let c = λ (mark : List ℕ). starts_with nat_eq bytes mark in
    let m1 = codes "<=>" in let m2 = codes "[*]" in let m3 = codes "<*>" in let m4 = codes "(*)" in
    let m5 = codes "->" in let m6 = codes "=>" in let m7 = codes "&&" in let m8 = codes "||" in
    let x8 : ℕ = if c m8 then 2 else 1 in
    let x7 : ℕ = if c m7 then 2 else x8 in
    let x6 : ℕ = if c m6 then 2 else x7 in
    let x5 : ℕ = if c m5 then 2 else x6 in
    let x4 : ℕ = if c m4 then 3 else x5 in
    let x3 : ℕ = if c m3 then 3 else x4 in
    let x2 : ℕ = if c m2 then 3 else x3 in
    let two_behind : (x : ℕ) → 2 ≤ x5 → 2 ≤ mark_length bytes = λ x h. past (c m1) 2 3 x2 (omega arith) (past (c m2) 2 3 x3 (omega arith) (past (c m3) 2 3 x4 (omega arith) (past (c m4) 2 3 x5 (omega arith) h))) in
    All-cons P m1 (m2 ∷ m3 ∷ m4 ∷ m5 ∷ m6 ∷ m7 ∷ m8 ∷ []) (λ h. here (c m1) 3 x2 h)
    (All-cons P m2 (m3 ∷ m4 ∷ m5 ∷ m6 ∷ m7 ∷ m8 ∷ []) (λ h. past (c m1) 3 3 x2 (omega arith) (here (c m2) 3 x3 h))
    (All-cons P m3 (m4 ∷ m5 ∷ m6 ∷ m7 ∷ m8 ∷ []) (λ h. past (c m1) 3 3 x2 (omega arith) (past (c m2) 3 3 x3 (omega arith) (here (c m3) 3 x4 h)))
    (All-cons P m4 (m5 ∷ m6 ∷ m7 ∷ m8 ∷ []) (λ h. past (c m1) 3 3 x2 (omega arith) (past (c m2) 3 3 x3 (omega arith) (past (c m3) 3 3 x4 (omega arith) (here (c m4) 3 x5 h))))
    (All-cons P m5 (m6 ∷ m7 ∷ m8 ∷ []) (λ h. two_behind 0 (here (c m5) 2 x6 h))
    (All-cons P m6 (m7 ∷ m8 ∷ []) (λ h. two_behind 0 (past (c m5) 2 2 x6 (omega arith) (here (c m6) 2 x7 h)))
    (All-cons P m7 (m8 ∷ []) (λ h. two_behind 0 (past (c m5) 2 2 x6 (omega arith) (past (c m6) 2 2 x7 (omega arith) (here (c m7) 2 x8 h))))
    (All-cons P m8 [] (λ h. two_behind 0 (past (c m5) 2 2 x6 (omega arith) (past (c m6) 2 2 x7 (omega arith) (past (c m7) 2 2 x8 (omega arith) (here (c m8) 2 1 h))))) (All-nil P))))))))

mark_piece : (b : ℕ) (bs : List ℕ) (n : ℕ) → piece_of (b ∷ bs) ≡ Cut Mark n → n ≡ mark_length (b ∷ bs)
unfolding piece_of
mark_piece b bs n e =
    let P = λ (p : Piece). p ≡ Cut Mark n → n ≡ mark_length (b ∷ bs) in
    (choose P (is_white b) _ _ (λ h e. absurd (cc)) (λ _.
    choose P (starts_with nat_eq (b ∷ bs) (codes "//")) _ _ (λ h e. absurd (cc)) (λ _.
    choose P (starts_with nat_eq (b ∷ bs) (codes "/*")) _ _ (λ h. no_gap (plus 2 (comment_rest (drop 2 (b ∷ bs))))) (λ _.
    choose P (is_quote b) _ _ (λ h. no_text (plus 1 (text_rest b bs))) (λ _.
    choose P (is_word_byte b) _ _ (λ h e. absurd (cc)) (λ h e. same_length e)))))) e
  where
    no_gap : (o : Option ℕ) → closed Gap o ≡ Cut Mark n → n ≡ mark_length (b ∷ bs)
    no_gap None e = absurd (cc)
    no_gap (Some k) e = absurd (cc)

    no_text : (o : Option ℕ) → closed (Cut Text) o ≡ Cut Mark n → n ≡ mark_length (b ∷ bs)
    no_text None e = absurd (cc)
    no_text (Some k) e = absurd (cc)

    same_length : {k : ℕ} → Cut Mark k ≡ Cut Mark n → n ≡ k
    same_length e = ap piece_length (sym e)

-- ---- the tokens, one after the other

record Stands (bytes : List ℕ) (token : Token) : Type 0 where
  word : token.kind ≡ Word → IsWholeWord bytes token
  mark : token.kind ≡ Mark → IsLongestMark bytes token
  quoted : token.kind ≡ Text → IsQuoted bytes token

record Told (front bytes : List ℕ) (tokens : List Token) : Type 0 where
  tiled : TileFrom (length front) bytes tokens
  each : All (Stands (front ++ bytes)) tokens

abbrev Walks : ℕ → Type 0
Walks f = (front bytes : List ℕ) (line : ℕ) (tokens : List Token) → length bytes ≤ f → tokens_behind 0 bytes (length front) line ≡ Ok tokens → Seam front bytes → Told front bytes tokens

-- something dropped more at the front
gap_before : (place : ℕ) (gap bytes : List ℕ) (tokens : List Token) → IsDropped gap bytes → TileFrom (place + length gap) bytes tokens → TileFrom place (gap ++ bytes) tokens
gap_before place gap bytes [] is tiled = more gap bytes [] (subst (IsDropped gap) (sym (append-nil bytes)) is) tiled
gap_before place gap bytes (token ∷ tokens) is (first, text, rest, e, dropped, start, end, some, tiled) = (
  gap ++ first,
  text,
  rest,
  ap (λ v. gap ++ v) e ∙ sym (append_assoc gap (first ++ text) rest) ∙ ap (λ v. v ++ rest) (sym (append_assoc gap first text)),
  more gap first (text ++ rest) (subst (IsDropped gap) (e ∙ append_assoc first text rest) is) dropped,
  omega (arith, start, length-append gap first),
  end,
  some,
  tiled,
)

seam_behind : (front text behind : List ℕ) → 0 < length text → Seam text behind → Seam (front ++ text) behind
seam_behind front text behind some (inl h) = inl (ends_append front text some ∙ h)
seam_behind front text behind some (inr h) = inr h

-- a word begins where one may
word_front : (front text behind : List ℕ) → 0 < length text → list_all is_word_byte text ≡ true → Seam front (text ++ behind) → ends_word front ≡ false
word_front front text behind some made (inl h) = h
word_front front [] behind some made (inr h) = absurd (omega (arith, some))
word_front front (x ∷ text) behind some made (inr h) = absurd (both_ways (and_left (is_word_byte x) (list_all is_word_byte text) made) h)

module _ (f : ℕ) (walks : Walks f) (front : List ℕ) (b : ℕ) (bs : List ℕ) (line : ℕ) (fuel : length (b ∷ bs) ≤ suc f) (seam : Seam front (b ∷ bs)) where
  module _ (n : ℕ) (P : List ℕ → List ℕ → Type 0) (s : Splits (b ∷ bs) n P) where
    fits : n ≤ length (b ∷ bs)
    fits = let lengths = ap (λ (v : List ℕ). length v) s.split in omega (arith, lengths, length-append s.text s.behind, s.long)

    rest_is : drop n (b ∷ bs) ≡ s.behind
    rest_is = (λ i. drop (s.long i) (s.split i)) ∙ drop_behind s.text s.behind

    place_is : length front + n ≡ length (front ++ s.text)
    place_is = omega (arith, length-append front s.text, s.long)

    whole_is : (front ++ s.text) ++ s.behind ≡ front ++ (b ∷ bs)
    whole_is = append_assoc front s.text s.behind ∙ ap (λ v. front ++ v) (sym s.split)

    abbrev line_then : ℕ
    line_then = line + line_feeds (take n (b ∷ bs))

    -- the tokens after
    told_behind : (tokens : List Token) → tokens_behind 0 (drop n (b ∷ bs)) (length front + n) line_then ≡ Ok tokens → Told (front ++ s.text) s.behind tokens
    told_behind tokens cut =
        let short : length s.behind ≤ f = let lengths = ap (λ (v : List ℕ). length v) s.split in omega (arith, lengths, length-append s.text s.behind, s.long, s.some, fuel) in
        walks (front ++ s.text) s.behind line_then tokens short (sym (λ i. tokens_behind 0 (rest_is i) (place_is i) line_then) ∙ cut) (seam_behind front s.text s.behind (omega (arith, s.long, s.some)) s.seam)

  told : (p : Piece) → piece_of (b ∷ bs) ≡ p → PieceSays (b ∷ bs) p → (tokens : List Token) → tokens_behind 0 (b ∷ bs) (length front) line ≡ Ok tokens → Told front (b ∷ bs) tokens
  told (Gap n) e s tokens cut =
      let at = piece_at_front (b ∷ bs) (length front) line n s.some (fits n _ s) (ap piece_length e) in
      let next = sym (ap (λ p. led_by p (length front) line (tokens_behind 0 (drop n (b ∷ bs)) (length front + n) (line_then n _ s))) e) ∙ sym at ∙ cut in
      let later = told_behind n _ s tokens next in
      let place : length (front ++ s.text) ≡ length front + length s.text = length-append front s.text in
      record {
        tiled = subst (λ v. TileFrom (length front) v tokens) (sym s.split) (gap_before (length front) s.text s.behind tokens s.says (subst (λ k. TileFrom k s.behind tokens) place later.tiled));
        each = subst (λ v. All (Stands v) tokens) (whole_is n _ s) later.each;
      }
  told (Cut kind n) e s tokens cut =
      let at = piece_at_front (b ∷ bs) (length front) line n s.some (fits n _ s) (ap piece_length e) in
      by_rest (tokens_behind 0 (drop n (b ∷ bs)) (length front + n) (line_then n _ s)) refl
      (sym (ap (λ p. led_by p (length front) line (tokens_behind 0 (drop n (b ∷ bs)) (length front + n) (line_then n _ s))) e) ∙ sym at ∙ cut)
    where
      token : Token
      token = record { kind = kind; start = length front; end = length front + n; line = line }

      between : IsBetween (front ++ (b ∷ bs)) token
      between = record {
        before = front;
        text = s.text;
        behind = s.behind;
        split = sym (whole_is n _ s);
        start = refl;
        end = ap (λ k. length front + k) s.long;
      }

      stands : Stands (front ++ (b ∷ bs)) token
      stands = record {
        word = λ is. let says = subst (λ k. KindSays (b ∷ bs) k s.text s.behind) is s.says in record {
          at = between;
          made = says.0;
          front = word_front front s.text s.behind (omega (arith, s.long, s.some)) says.0 (subst (Seam front) s.split seam);
          back = says.1;
        };
        mark = λ is.
            let says = subst (λ k. KindSays (b ∷ bs) k s.text s.behind) is s.says in
            let long : length s.text ≡ mark_length (b ∷ bs) = sym s.long ∙ mark_piece b bs n (e ∙ ap (λ k. Cut k n) is) in
            record {
              at = between;
              mark = says;
              longest = subst (λ k. All (λ mark. starts_with nat_eq (s.text ++ s.behind) mark ≡ true → length mark ≤ k) long_marks) (sym long)
                  (subst (λ v. All (λ mark. starts_with nat_eq v mark ≡ true → length mark ≤ mark_length (b ∷ bs)) long_marks) s.split (none_longer (b ∷ bs)));
            };
        quoted = λ is.
            let says = subst (λ k. KindSays (b ∷ bs) k s.text s.behind) is s.says in
            record { at = between; quote = says.quote; inside = says.inside; is = says.is; made = says.made; within = says.within; free = says.free };
      }

      by_rest : (r : Result (List Token) ℕ) → tokens_behind 0 (drop n (b ∷ bs)) (length front + n) (line_then n _ s) ≡ r → led_by (Cut kind n) (length front) line r ≡ Ok tokens → Told front (b ∷ bs) tokens
      by_rest (Err opening) is h = absurd (never_ok h)
      by_rest (Ok rest) is h =
          let later = told_behind n _ s rest is in
          let all : token ∷ rest ≡ tokens = same_ok h in
          let end : length (front ++ s.text) ≡ token.end = sym (place_is n _ s) in
          subst (Told front (b ∷ bs)) all (record {
            tiled = ([], s.text, s.behind, s.split, nothing (s.text ++ s.behind), omega arith, ap (λ k. length front + k) s.long, omega (arith, s.long, s.some), subst (λ k. TileFrom k s.behind rest) end later.tiled);
            each = All-cons (Stands (front ++ (b ∷ bs))) token rest stands (subst (λ v. All (Stands v) rest) (whole_is n _ s) later.each);
          })
  told Open e s tokens cut = absurd (never_ok (sym (front_open_is) ∙ cut))
    where
      front_open_is : tokens_behind 0 (b ∷ bs) (length front) line ≡ Err line
      front_open_is = front_open (b ∷ bs) (length front) line (omega arith) e

walks_all : (f : ℕ) → Walks f
walks_all f front [] line tokens short cut seam = subst (Told front []) (same_ok cut) (record { tiled = nothing []; each = All-nil (Stands (front ++ [])) })
walks_all zero front (b ∷ bs) line tokens short cut seam = absurd (omega (arith, short))
walks_all (suc f) front (b ∷ bs) line tokens short cut seam = told f (walks_all f) front b bs line short seam (piece_of (b ∷ bs)) refl (piece_says b bs) tokens cut

all_told : (bytes : List ℕ) (tokens : List Token) → AreTokensOf bytes tokens → Told [] bytes tokens
unfolding token_list
all_told bytes tokens are = walks_all (length bytes) [] bytes 1 tokens (omega arith) are.cut (inl refl)

pub tokens_tile : TokensTile
tokens_tile bytes tokens are = (all_told bytes tokens are).tiled

pub words_are_maximal : WordsAreMaximal
words_are_maximal bytes tokens are = All-weaker (Stands bytes) (λ token. token.kind ≡ Word → IsWholeWord bytes token) (λ token s. s.word) tokens (all_told bytes tokens are).each

pub marks_are_longest : MarksAreLongest
marks_are_longest bytes tokens are = All-weaker (Stands bytes) (λ token. token.kind ≡ Mark → IsLongestMark bytes token) (λ token s. s.mark) tokens (all_told bytes tokens are).each

pub texts_are_quoted : TextsAreQuoted
texts_are_quoted bytes tokens are = All-weaker (Stands bytes) (λ token. token.kind ≡ Text → IsQuoted bytes token) (λ token s. s.quoted) tokens (all_told bytes tokens are).each

-- ---- what isn't closed

record Opens (place line : ℕ) (bytes : List ℕ) (opening : ℕ) : Type 0 where
  front : List ℕ
  rest : List ℕ
  tokens : List Token
  split : bytes ≡ front ++ rest
  tiled : TileUpTo rest place front tokens
  unclosed : IsUnclosed rest
  counted : opening ≡ line + line_feeds front

same_err : {V E : Type 0} {d e : E} → ◌≡◌ {A = Result V E} (Err d) (Err e) → d ≡ e
same_err e = cc

gap_up_to : (behind : List ℕ) (place : ℕ) (gap bytes : List ℕ) (tokens : List Token) → IsDropped gap (bytes ++ behind) → TileUpTo behind (place + length gap) bytes tokens → TileUpTo behind place (gap ++ bytes) tokens
gap_up_to behind place gap bytes [] is tiled = more gap bytes behind is tiled
gap_up_to behind place gap bytes (token ∷ tokens) is (first, text, rest, e, dropped, start, end, some, tiled) = (
  gap ++ first,
  text,
  rest,
  ap (λ v. gap ++ v) e ∙ sym (append_assoc gap (first ++ text) rest) ∙ ap (λ v. v ++ rest) (sym (append_assoc gap first text)),
  more gap first (text ++ rest ++ behind) (subst (IsDropped gap) (ap (λ v. v ++ behind) (e ∙ append_assoc first text rest) ∙ append_assoc first (text ++ rest) behind) is) dropped,
  omega (arith, start, length-append gap first),
  end,
  some,
  tiled,
)

line_feeds-append : (xs ys : List ℕ) → line_feeds (xs ++ ys) ≡ line_feeds xs + line_feeds ys
line_feeds-append xs ys = sum_by-append (λ b. cond (b == line_feed) 1 0) xs ys

take_front : (text behind : List ℕ) → take (length text) (text ++ behind) ≡ text
take_front [] behind = refl
take_front (x ∷ text) behind = ap (λ v. x ∷ v) (take_front text behind)

abbrev Opening : ℕ → Type 0
Opening f = (place line : ℕ) (bytes : List ℕ) (opening : ℕ) → length bytes ≤ f → tokens_behind 0 bytes place line ≡ Err opening → Opens place line bytes opening

module _ (f : ℕ) (further : Opening f) (place line : ℕ) (b : ℕ) (bs : List ℕ) (opening : ℕ) (fuel : length (b ∷ bs) ≤ suc f) where
  abbrev tokens_from : ℕ → Result (List Token) ℕ
  tokens_from n = tokens_behind 0 (drop n (b ∷ bs)) (place + n) (line + line_feeds (take n (b ∷ bs)))

  module _ (n : ℕ) (P : List ℕ → List ℕ → Type 0) (s : Splits (b ∷ bs) n P) where
    few : n ≤ length (b ∷ bs)
    few = let lengths = ap (λ (v : List ℕ). length v) s.split in omega (arith, lengths, length-append s.text s.behind, s.long)

    feeds : line_feeds (take n (b ∷ bs)) ≡ line_feeds s.text
    feeds = ap line_feeds ((λ i. take (s.long i) (s.split i)) ∙ take_front s.text s.behind)

    behind_is : drop n (b ∷ bs) ≡ s.behind
    behind_is = (λ i. drop (s.long i) (s.split i)) ∙ drop_behind s.text s.behind

    later : tokens_from n ≡ Err opening → Opens (place + length s.text) (line + line_feeds s.text) s.behind opening
    later cut =
        let short : length s.behind ≤ f = let lengths = ap (λ (v : List ℕ). length v) s.split in omega (arith, lengths, length-append s.text s.behind, s.long, s.some, fuel) in
        let long = s.long in
        further (place + length s.text) (line + line_feeds s.text) s.behind opening short (sym (λ i. tokens_behind 0 (behind_is i) (place + long i) (line + feeds i)) ∙ cut)

    all_counted : (o : Opens (place + length s.text) (line + line_feeds s.text) s.behind opening) → opening ≡ line + line_feeds (s.text ++ o.front)
    all_counted o = omega (arith, o.counted, line_feeds-append s.text o.front)

    all_split : (o : Opens (place + length s.text) (line + line_feeds s.text) s.behind opening) → b ∷ bs ≡ (s.text ++ o.front) ++ o.rest
    all_split o = s.split ∙ ap (λ v. s.text ++ v) o.split ∙ sym (append_assoc s.text o.front o.rest)

  opens_with : (p : Piece) → piece_of (b ∷ bs) ≡ p → PieceSays (b ∷ bs) p → tokens_behind 0 (b ∷ bs) place line ≡ Err opening → Opens place line (b ∷ bs) opening
  opens_with (Gap n) e s cut =
      let at = piece_at_front (b ∷ bs) place line n s.some (few n _ s) (ap piece_length e) in
      let o = later n _ s (sym (ap (λ p. led_by p place line (tokens_from n)) e) ∙ sym at ∙ cut) in
      record {
        front = s.text ++ o.front;
        rest = o.rest;
        tokens = o.tokens;
        split = all_split n _ s o;
        tiled = gap_up_to o.rest place s.text o.front o.tokens (subst (IsDropped s.text) o.split s.says) o.tiled;
        unclosed = o.unclosed;
        counted = all_counted n _ s o;
      }
  opens_with (Cut kind n) e s cut =
      let at = piece_at_front (b ∷ bs) place line n s.some (few n _ s) (ap piece_length e) in
      by_rest (tokens_from n) refl (sym (ap (λ p. led_by p place line (tokens_from n)) e) ∙ sym at ∙ cut)
    where
      by_rest : (r : Result (List Token) ℕ) → tokens_from n ≡ r → led_by (Cut kind n) place line r ≡ Err opening → Opens place line (b ∷ bs) opening
      by_rest (Ok rest) is h = absurd (never_ok (sym h))
      by_rest (Err d) is h =
          let o = later n _ s (is ∙ ap Err (same_err h)) in
          let token : Token = record { kind = kind; start = place; end = place + n; line = line } in
          record {
            front = s.text ++ o.front;
            rest = o.rest;
            tokens = token ∷ o.tokens;
            split = all_split n _ s o;
            tiled = ([], s.text, o.front, refl, nothing (s.text ++ o.front ++ o.rest), omega arith, ap (λ k. place + k) s.long, omega (arith, s.long, s.some), subst (λ k. TileUpTo o.rest k o.front o.tokens) (ap (λ k. place + k) (sym s.long)) o.tiled);
            unclosed = o.unclosed;
            counted = all_counted n _ s o;
          }
  opens_with Open e u cut = record {
    front = [];
    rest = b ∷ bs;
    tokens = [];
    split = refl;
    tiled = nothing (b ∷ bs);
    unclosed = u;
    counted = let same : line ≡ opening = same_err (sym (front_open (b ∷ bs) place line (omega arith) e) ∙ cut) in omega (arith, same);
  }

opens : (f : ℕ) → Opening f
opens f place line [] opening short cut = absurd (never_ok (sym cut))
opens zero place line (b ∷ bs) opening short cut = absurd (omega (arith, short))
opens (suc f) place line (b ∷ bs) opening short cut = opens_with f (opens f) place line b bs opening short (piece_of (b ∷ bs)) refl (piece_says b bs) cut

pub open_is_unclosed : OpenIsUnclosed
unfolding token_list
open_is_unclosed bytes line are =
    let o = opens (length bytes) 0 1 bytes line (omega arith) are.cut in
    record { front = o.front; rest = o.rest; tokens = o.tokens; split = o.split; tiled = o.tiled; unclosed = o.unclosed; counted = o.counted }
