-- What is spelled is read.
use Rattle.std.proofs.Common.{◌≡◌, ℕ, suc, ◌+◌, Bool, true, false, ◌&&◌, ◌||◌, cond, List, [], ◌∷◌, ◌++◌, Some, None, refl, sym, ap, subst, ◌∙◌, arith}
use Rattle.std.specs.List.{list_all, list_any, position_or_len, before_first, after_first}
use Rattle.std.specs.Str.{bytes_eq}
use Rattle.std.proofs.lemmas.Bool.{false≢true, eqb-true}
use Rattle.std.proofs.lemmas.Bool.Decides.{nat_tests}
use Rattle.std.proofs.lemmas.List.Folds.{list_any-append}
use Rattle.std.proofs.lemmas.Slice.Eq.{bytes_eq-Decides}
use Rattle.jm_text.specs.Texts.{is_name_byte, is_name_text}
use Rattle.jm_script.specs.Statements.{Statement, Event, Death, Pass, death_word, pass_word, is_dot, event_statement, death_statement, pass_statement}
use Rattle.jm_lines.specs.Objects.{is_object}
use Rattle.jm_script.specs.Spelling.{Spells, SpelledIsRead, OneReading, ReadIsSpelled}
use Rattle.jm_lines.proofs.WordLemmas.{both_left, both_right}

no_dot : (b : ℕ) → is_name_byte b ≡ true → is_dot b ≡ false
no_dot b h = grind (arith, nat_tests)

name_bytes : (name : List ℕ) → is_name_text name ≡ true → list_all is_name_byte name ≡ true
name_bytes [] h = refl
name_bytes (b ∷ name) h = both_right _ _ h

-- the first dot of two names round a dot
before_dot : (spec event : List ℕ) → list_all is_name_byte spec ≡ true → before_first is_dot (spec ++ 46 ∷ event) ≡ spec
before_dot [] event h = refl
before_dot (b ∷ spec) event h =
    let here = no_dot b (both_left _ _ h) in
    let rest = before_dot spec event (both_right (is_name_byte b) _ h) in
    rw (here, one_more (position_or_len is_dot (spec ++ 46 ∷ event))) (ap (λ l. b ∷ l) rest)
  where
    one_more : (n : ℕ) → 1 + n ≡ suc n
    one_more n = omega arith

after_dot : (spec event : List ℕ) → list_all is_name_byte spec ≡ true → after_first is_dot (spec ++ 46 ∷ event) ≡ event
after_dot [] event h = refl
after_dot (b ∷ spec) event h =
    let here = no_dot b (both_left _ _ h) in
    let rest = after_dot spec event (both_right (is_name_byte b) _ h) in
    rw (here, one_more (position_or_len is_dot (spec ++ 46 ∷ event))) rest
  where
    one_more : (n : ℕ) → 1 + n + 1 ≡ suc (n + 1)
    one_more n = omega arith

or_true : (a : Bool) → (a || true) ≡ true
or_true true = refl
or_true false = refl

-- a word with a dot is no other word
dotted : (spec event word : List ℕ) → list_any is_dot word ≡ false → bytes_eq (spec ++ 46 ∷ event) word ≡ false
dotted spec event word none = by_case (bytes_eq (spec ++ 46 ∷ event) word) refl
  where
    has_dot : list_any is_dot (spec ++ 46 ∷ event) ≡ true
    has_dot = list_any-append is_dot spec (46 ∷ event) ∙ or_true (list_any is_dot spec)

    by_case : (b : Bool) → bytes_eq (spec ++ 46 ∷ event) word ≡ b → bytes_eq (spec ++ 46 ∷ event) word ≡ false
    by_case false e = e
    by_case true e = absurd (false≢true (sym none ∙ sym (ap (list_any is_dot) ((bytes_eq-Decides (spec ++ 46 ∷ event) word).0 e)) ∙ has_dot))

pub spelled_is_read : SpelledIsRead
spelled_is_read word words (Event spec event objects) h =
    let before = before_dot spec event (name_bytes spec h.spec_named) in
    let after = after_dot spec event (name_bytes spec h.spec_named) in
    rw (h.first, h.rest, dotted spec event death_word refl, dotted spec event pass_word refl, before, after, h.spec_named, h.event_named, h.objects_named) refl
spelled_is_read word words (Death object) h = rw (h.0.first, h.0.rest, h.1) refl
spelled_is_read word words (Pass spec) h = rw (h.0.first, h.0.rest, h.1) refl

pub one_reading : OneReading
one_reading word words statement other h k =
    let e : Some statement ≡ Some other = sym (spelled_is_read word words statement h) ∙ spelled_is_read word words other k in
    cc

-- a word with a name after its first dot
dot_parts : (word : List ℕ) → is_name_text (after_first is_dot word) ≡ true → word ≡ before_first is_dot word ++ 46 ∷ after_first is_dot word
dot_parts [] h = absurd (false≢true h)
dot_parts (b ∷ word) h = by_case (is_dot b) refl (λ k. dot_parts word k)
  where
    next : 1 + position_or_len is_dot word ≡ suc (position_or_len is_dot word)
    next = omega arith

    behind_next : 1 + position_or_len is_dot word + 1 ≡ suc (position_or_len is_dot word + 1)
    behind_next = omega arith

    by_case : (c : Bool) → is_dot b ≡ c → (is_name_text (after_first is_dot word) ≡ true → word ≡ before_first is_dot word ++ 46 ∷ after_first is_dot word) → b ∷ word ≡ before_first is_dot (b ∷ word) ++ 46 ∷ after_first is_dot (b ∷ word)
    by_case true e rest = rw e (ap (λ x. x ∷ word) (eqb-true b 46 e))
    by_case false e rest =
        let before : before_first is_dot (b ∷ word) ≡ b ∷ before_first is_dot word = rw (e, next) refl in
        let after : after_first is_dot (b ∷ word) ≡ after_first is_dot word = rw (e, behind_next) refl in
        let ih = rest (ap is_name_text (sym after) ∙ h) in
        ap (λ l. b ∷ l) ih ∙ ap (λ l. l ++ 46 ∷ after_first is_dot word) (sym before) ∙ ap (λ l. before_first is_dot (b ∷ word) ++ 46 ∷ l) (sym after)

death_spelled : (word : List ℕ) (words : List (List ℕ)) (s : Statement) → word ≡ death_word → death_statement words ≡ Some s → Spells word words s
death_spelled word [] s first e = cc
death_spelled word (object ∷ []) s first e = by_case (is_object object) refl e
  where
    by_case : (b : Bool) → is_object object ≡ b → cond b (Some (Death object)) None ≡ Some s → Spells word (object ∷ []) s
    by_case true named e = let same : Death object ≡ s = cc in subst (Spells word (object ∷ [])) same (record { first = first; rest = refl }, named)
    by_case false named e = cc
death_spelled word (object ∷ other ∷ words) s first e = cc

pass_spelled : (word : List ℕ) (words : List (List ℕ)) (s : Statement) → word ≡ pass_word → pass_statement words ≡ Some s → Spells word words s
pass_spelled word [] s first e = cc
pass_spelled word (spec ∷ []) s first e = by_case (is_name_text spec) refl e
  where
    by_case : (b : Bool) → is_name_text spec ≡ b → cond b (Some (Pass spec)) None ≡ Some s → Spells word (spec ∷ []) s
    by_case true named e = let same : Pass spec ≡ s = cc in subst (Spells word (spec ∷ [])) same (record { first = first; rest = refl }, named)
    by_case false named e = cc
pass_spelled word (spec ∷ other ∷ words) s first e = cc

event_spelled : (word : List ℕ) (words : List (List ℕ)) (s : Statement) → event_statement word words ≡ Some s → Spells word words s
event_spelled word words s e = by_case (is_name_text (before_first is_dot word) && is_name_text (after_first is_dot word) && list_all is_object words) refl e
  where
    by_case : (b : Bool) → (is_name_text (before_first is_dot word) && is_name_text (after_first is_dot word) && list_all is_object words) ≡ b → cond b (Some (Event (before_first is_dot word) (after_first is_dot word) words)) None ≡ Some s → Spells word words s
    by_case true h e =
        let same : Event (before_first is_dot word) (after_first is_dot word) words ≡ s = cc in
        let named = both_left _ _ h in
        subst (Spells word words) same
        (record {
          first = dot_parts word (both_right (is_name_text (before_first is_dot word)) _ named);
          rest = refl;
          spec_named = both_left _ _ named;
          event_named = both_right (is_name_text (before_first is_dot word)) _ named;
          objects_named = both_right (is_name_text (before_first is_dot word) && is_name_text (after_first is_dot word)) _ h;
        })
    by_case false h e = cc

pub read_is_spelled : ReadIsSpelled
read_is_spelled word words s e = by_death (bytes_eq word death_word) refl e
  where
    by_pass : (b : Bool) → bytes_eq word pass_word ≡ b → cond b (pass_statement words) (event_statement word words) ≡ Some s → Spells word words s
    by_pass true same e = pass_spelled word words s ((bytes_eq-Decides word pass_word).0 same) e
    by_pass false same e = event_spelled word words s e

    by_death : (b : Bool) → bytes_eq word death_word ≡ b → cond b (death_statement words) (cond (bytes_eq word pass_word) (pass_statement words) (event_statement word words)) ≡ Some s → Spells word words s
    by_death true same e = death_spelled word words s ((bytes_eq-Decides word death_word).0 same) e
    by_death false same e = by_pass (bytes_eq word pass_word) refl e
