-- A script that is cut, line after line.
use Rattle.std.proofs.Common.{◌≡◌, ℕ, ◌+◌, ◌<◌, ◌≤◌, Bool, true, false, cond, List, [], ◌∷◌, ◌++◌, map, length, Option, Some, None, is_some, ltb, refl, sym, ap, ◌∙◌, append_assoc, take, arith, length-append}
use Rattle.std.specs.Prelude.{All}
use Rattle.std.specs.Borrow.{Bor}
use Rattle.std.specs.List.{join_with_byte, list_any, position_or_len}
use Rattle.std.specs.Str.{bytes_eq}
use Rattle.std.proofs.lemmas.Bool.Decides.{nat_tests}
use Rattle.std.proofs.lemmas.List.{append-nil, length_push}
use Rattle.std.proofs.lemmas.List.Elements.{All-nil, All-append, All-push, All-weaker}
use Rattle.std.proofs.lemmas.List.Splits.{join_with_byte-slice_split, length-slice_split}
use Rattle.std.proofs.lemmas.List.Sums.{count_by-le-length}
use Rattle.jm_events.specs.Names.{number_of, with_name}
use Rattle.jm_events.proofs.NameLemmas.{list_any-number_of, with_name-new}
use Rattle.jm_lines.specs.Lines.{is_line_feed, first_line, lines_of, lines_left, words_of}
use Rattle.jm_sync.specs.declared.line.SyncKind.{SyncKind}
use Rattle.jm_sync.specs.declared.line.SyncLine.{SyncLine}
use Rattle.jm_sync.specs.Cuts.{Request, words_request, request_of, rest_of_line, rest_of, names_with, names_behind, names_after, number_for, numbered, sync_lines_behind, sync_lines_of, RisesFrom, IsExtension}

-- what words ask for is what their line asks for
pub request_is : (line : List ℕ) (words : List (List ℕ)) (r : Option Request) → words ≡ words_of line → r ≡ words_request words → request_of line ≡ r
unfolding request_of
request_is line words r here e = ap words_request (sym here) ∙ sym e

-- what a line asks for goes last
pub pushed : (old new : List SyncLine) (n : ℕ) (kind : SyncKind) (name k : ℕ) → new ≡ old ++ record { line = n; kind = kind; name = name } ∷ [] → name ≡ k → new ≡ old ++ record { line = n; kind = kind; name = k } ∷ []
pushed old new n kind name k new_is same = rw (← same) new_is

-- ---- names

known : (names : List (List ℕ)) (name : List ℕ) (k : ℕ) → number_of names name ≡ Some k → with_name names name ≡ names
known names name k e =
    let there : list_any (bytes_eq name) names ≡ true = list_any-number_of names name ∙ ap is_some e in
    rw there refl

found_below : (i n k : ℕ) → cond {A = Option ℕ} (ltb i n) (Some i) None ≡ Some k → k < n
found_below i n k e = grind (arith, nat_tests)

-- the number of a name that is mentioned is that of a name
number_for-below : (names : List (List ℕ)) (name : List ℕ) → number_for names name < length (with_name names name)
number_for-below names name = by_case (number_of names name) refl
  where
    by_case : (o : Option ℕ) → number_of names name ≡ o → number_for names name < length (with_name names name)
    by_case None e = rw (with_name-new names name e, e) (omega (arith, length_push names name))
    by_case (Some k) e = rw (known names name k e, e) (found_below (position_or_len (bytes_eq name) names) (length names) k e)

length-with_name : (names : List (List ℕ)) (name : List ℕ) → length names ≤ length (with_name names name)
length-with_name names name = by_case (list_any (bytes_eq name) names)
  where
    by_case : (b : Bool) → length names ≤ length (cond b names (names ++ name ∷ []))
    by_case true = omega arith
    by_case false = omega (arith, length-append names (name ∷ []))

length-names_with : (names : List (List ℕ)) (r : Option Request) → length names ≤ length (names_with names r)
length-names_with names None = omega arith
length-names_with names (Some r) = length-with_name names r.name

length-names_behind : (names lines : List (List ℕ)) → length names ≤ length (names_behind names lines)
length-names_behind names [] = omega arith
length-names_behind names (line ∷ lines) =
    omega (arith, length-names_behind (names_with names (request_of line)) lines, length-names_with names (request_of line))

-- a mention keeps the names
pub IsExtension-none : (names : List (List ℕ)) → IsExtension names names
IsExtension-none names = record { added = []; at_end = sym (append-nil names) }

IsExtension-with_name : (old names : List (List ℕ)) (name : List ℕ) → IsExtension old names → IsExtension old (with_name names name)
IsExtension-with_name old names name h = by_case (list_any (bytes_eq name) names)
  where
    by_case : (b : Bool) → IsExtension old (cond b names (names ++ name ∷ []))
    by_case true = h
    by_case false = record { added = h.added ++ name ∷ []; at_end = ap (λ l. l ++ name ∷ []) h.at_end ∙ append_assoc old h.added (name ∷ []) }

pub IsExtension-names_with : (old names : List (List ℕ)) (r : Option Request) → IsExtension old names → IsExtension old (names_with names r)
IsExtension-names_with old names None h = h
IsExtension-names_with old names (Some r) h = IsExtension-with_name old names r.name h

pub IsExtension-trans : (a b c : List (List ℕ)) → IsExtension a b → IsExtension b c → IsExtension a c
IsExtension-trans a b c h k = record { added = h.added ++ k.added; at_end = k.at_end ∙ ap (λ l. l ++ k.added) h.at_end ∙ append_assoc a h.added k.added }

-- a name that is new has room
pub room_for : (names : List (List ℕ)) (name : List ℕ) (limit : ℕ) → number_of names name ≡ None → length (with_name names name) < limit → length names + 1 < limit
room_for names name limit none few =
    let h : length (names ++ name ∷ []) < limit = rw (with_name-new names name none) at few in
    omega (arith, h, length_push names name)

-- ---- the rest

some_line : (text : List ℕ) → lines_of text ≡ [] → ⊥
some_line text e = omega (arith, length-slice_split is_line_feed text, ap length e)

joined_more : (line : List ℕ) (lines : List (List ℕ)) → (lines ≡ [] → ⊥) → join_with_byte 10 (line ∷ map rest_of_line lines) ≡ (line ++ 10 ∷ []) ++ join_with_byte 10 (map rest_of_line lines)
joined_more line [] some = absurd (some refl)
joined_more line (next ∷ lines) some = sym (append_assoc line (10 ∷ []) (join_with_byte 10 (map rest_of_line (next ∷ lines))))

-- a line that is taken out leaves no byte, and the others stay
length-rest_of_line : (line : List ℕ) → length (rest_of_line line) ≤ length line
length-rest_of_line line = by_case (is_some (request_of line))
  where
    by_case : (b : Bool) → length (cond b [] line) ≤ length line
    by_case true = omega arith
    by_case false = omega arith

joined_shorter : (lines : List (List ℕ)) → length (join_with_byte 10 (map rest_of_line lines)) ≤ length (join_with_byte 10 lines)
joined_shorter [] = omega arith
joined_shorter (line ∷ []) = length-rest_of_line line
joined_shorter (line ∷ next ∷ lines) =
    omega (arith, length-rest_of_line line, joined_shorter (next ∷ lines), length-append (rest_of_line line) (10 ∷ join_with_byte 10 (map rest_of_line (next ∷ lines))), length-append line (10 ∷ join_with_byte 10 (next ∷ lines)))

pub length-rest_of : (bytes : List ℕ) → length (rest_of bytes) ≤ length bytes
unfolding rest_of
length-rest_of bytes = omega (arith, joined_shorter (lines_of bytes), ap length (join_with_byte-slice_split 10 bytes))

-- ---- a line more

-- what was cut of a script, where the names were these: the rest, the lines that ask for order and the names of the lines
-- so far, which are so many; these lines are left
pub record HasCut (old : List (List ℕ)) (bytes : List ℕ) (rest : List ℕ) (sync : List SyncLine) (names : List (List ℕ)) (n : ℕ) (left : List (List ℕ)) : Type 0 where
  pub other : rest ++ join_with_byte 10 (map rest_of_line left) ≡ rest_of bytes
  pub asking : sync ++ sync_lines_behind (n + 1) names left ≡ sync_lines_of old bytes
  pub then : names_behind names left ≡ names_after old bytes
  pub extended : IsExtension old names
  pub named : All (λ l. l.name < length names) sync

-- nothing is cut yet
pub cut_nothing : (names : List (List ℕ)) (bytes : List ℕ) → HasCut names bytes [] [] names 0 (lines_of bytes)
unfolding rest_of sync_lines_of names_after
cut_nothing names bytes = record {
  other = refl;
  asking = refl;
  then = refl;
  extended = IsExtension-none names;
  named = All-nil (λ l. l.name < length names);
}

numbered-below : (n : ℕ) (names : List (List ℕ)) (r : Option Request) → All (λ l. l.name < length (names_with names r)) (numbered n names r)
numbered-below n names None = All-nil (λ l. l.name < length names)
numbered-below n names (Some r) =
    All-push (λ l. l.name < length (with_name names r.name)) [] (record { line = n; kind = r.kind; name = number_for names r.name }) (All-nil (λ l. l.name < length (with_name names r.name))) (number_for-below names r.name)

module _ (old : List (List ℕ)) (bytes : List ℕ) (rest : List ℕ) (sync : List SyncLine) (names : List (List ℕ)) (n : ℕ) (left : List (List ℕ)) (before : HasCut old bytes rest sync names n left) where
  -- all lines are cut
  pub all_cut : left ≡ [] → (rest ≡ rest_of bytes) × (sync ≡ sync_lines_of old bytes) × (names ≡ names_after old bytes)
  all_cut none = (
    sym (append-nil rest) ∙ (rw none at before.other),
    sym (append-nil sync) ∙ (rw none at before.asking),
    (rw none at before.then),
  )

  module _ (line : List ℕ) (more : List (List ℕ)) (here : left ≡ line ∷ more) where
    -- the names of a line are among those of the script
    pub few_names : (limit : ℕ) → length (names_after old bytes) < limit → length (names_with names (request_of line)) < limit
    few_names limit few =
        let all : names_behind (names_with names (request_of line)) more ≡ names_after old bytes = rw here at before.then in
        omega (arith, few, ap length all, length-names_behind (names_with names (request_of line)) more)

    module _ (new_rest : List ℕ) (rest_is : new_rest ≡ rest ++ rest_of_line line) (new_sync : List SyncLine) (sync_is : new_sync ≡ sync ++ numbered (n + 1) names (request_of line)) (new : List (List ℕ)) (new_is : new ≡ names_with names (request_of line)) where
      cut_names : names_behind new more ≡ names_after old bytes
      cut_names = ap (λ ns. names_behind ns more) new_is ∙ (rw here at before.then)

      cut_lines : new_sync ++ sync_lines_behind (n + 1 + 1) new more ≡ sync_lines_of old bytes
      cut_lines =
          rw (sync_is, new_is) (append_assoc sync (numbered (n + 1) names (request_of line)) (sync_lines_behind (n + 1 + 1) (names_with names (request_of line)) more) ∙ (rw here at before.asking))

      cut_named : All (λ l. l.name < length new) new_sync
      cut_named =
          rw (sync_is, new_is) (All-append (λ l. l.name < length (names_with names (request_of line))) sync (numbered (n + 1) names (request_of line))
          (All-weaker (λ l. l.name < length names) (λ l. l.name < length (names_with names (request_of line))) (λ l lt. omega (arith, lt, length-names_with names (request_of line))) sync before.named)
          (numbered-below (n + 1) names (request_of line)))

      cut_extended : IsExtension old new
      cut_extended = rw new_is (IsExtension-names_with old names (request_of line) before.extended)

      -- the last line
      pub last_line : more ≡ [] → HasCut old bytes new_rest new_sync new (n + 1) more
      last_line none = record {
        other = ap (λ ls. new_rest ++ join_with_byte 10 (map rest_of_line ls)) none ∙ append-nil new_rest ∙ rest_is ∙ ap (λ ls. rest ++ join_with_byte 10 (rest_of_line line ∷ map rest_of_line ls)) (sym none) ∙ (rw here at before.other);
        asking = cut_lines;
        then = cut_names;
        extended = cut_extended;
        named = cut_named;
      }

      -- a line with others after it
      pub next_line : (text : List ℕ) → more ≡ lines_of text → HasCut old bytes (new_rest ++ 10 ∷ []) new_sync new (n + 1) more
      next_line text some =
          let after = join_with_byte 10 (map rest_of_line more) in
          record {
            other =
                ap (λ r. (r ++ 10 ∷ []) ++ after) rest_is
                ∙ ap (λ r. r ++ after) (append_assoc rest (rest_of_line line) (10 ∷ []))
                ∙ append_assoc rest (rest_of_line line ++ 10 ∷ []) after
                ∙ ap (λ r. rest ++ r) (sym (joined_more (rest_of_line line) more (λ none. some_line text (sym some ∙ none))))
                ∙ (rw here at before.other);
            asking = cut_lines;
            then = cut_names;
            extended = cut_extended;
            named = cut_named;
          }

-- no line is left, or those of a text are
pub none_left : (o : Option (Bor (List ℕ))) → is_some o ≡ false → lines_left o ≡ []
none_left None e = refl
none_left (Some text) e = cc

pub some_left : (o : Option (Bor (List ℕ))) → is_some o ≡ true → (text : List ℕ) × (lines_left o ≡ lines_of text)
some_left None e = cc
some_left (Some text) e = (text.now, refl)

-- the first line is what stands before its end, and the lines after it are left
pub line_here : (o : Option (Bor (List ℕ))) (text : Bor (List ℕ)) (end : ℕ) (more : List (List ℕ)) → o ≡ Some text → end ≡ position_or_len is_line_feed text.now → lines_of text.now ≡ first_line text.now ∷ more → lines_left o ≡ take end text.now ∷ more
line_here o text end more is e lines = ap lines_left is ∙ lines ∙ ap (λ n. take n text.now ∷ more) (sym e)

-- ---- the lines rise

rises_before : (n : ℕ) (ls : List SyncLine) → RisesFrom (n + 1) ls → RisesFrom n ls
rises_before n [] h = tt
rises_before n (l ∷ ls) h = let le : n ≤ l.line = omega (arith, h.0) in (le, h.1)

line_rises : (n : ℕ) (names : List (List ℕ)) (r : Option Request) (more : List SyncLine) → RisesFrom (n + 1) more → RisesFrom n (numbered n names r ++ more)
line_rises n names None more h = rises_before n more h
line_rises n names (Some r) more h = (omega arith, h)

lines_rise : (n : ℕ) (names lines : List (List ℕ)) → RisesFrom n (sync_lines_behind n names lines)
lines_rise n names [] = tt
lines_rise n names (line ∷ lines) = line_rises n names (request_of line) _ (lines_rise (n + 1) (names_with names (request_of line)) lines)

pub script_rises : (names : List (List ℕ)) (bytes : List ℕ) → RisesFrom 1 (sync_lines_of names bytes)
unfolding sync_lines_of
script_rises names bytes = lines_rise 1 names (lines_of bytes)

-- ---- how many names there are

length-names_with_more : (names : List (List ℕ)) (r : Option Request) → length (names_with names r) ≤ length names + 1
length-names_with_more names None = omega arith
length-names_with_more names (Some r) = by_case (list_any (bytes_eq r.name) names)
  where
    by_case : (b : Bool) → length (cond b names (names ++ r.name ∷ [])) ≤ length names + 1
    by_case true = omega arith
    by_case false = omega (arith, length-append names (r.name ∷ []))

length-names_behind_more : (names lines : List (List ℕ)) → length (names_behind names lines) ≤ length names + length lines
length-names_behind_more names [] = omega arith
length-names_behind_more names (line ∷ lines) =
    omega (arith, length-names_behind_more (names_with names (request_of line)) lines, length-names_with_more names (request_of line))

-- a script adds at most one name a line, and has at most one line more than bytes
pub length-names_after : (names : List (List ℕ)) (bytes : List ℕ) → length (names_after names bytes) ≤ length names + length bytes + 1
unfolding names_after
length-names_after names bytes =
    omega (arith, length-names_behind_more names (lines_of bytes), length-slice_split is_line_feed bytes, count_by-le-length is_line_feed bytes)
