-- Mentions of objects, one after another.
use Rattle.std.proofs.Common.{◌≡◌, ℕ, zero, suc, ◌<◌, ◌≤◌, ◌+◌, ◌-◌, Bool, true, false, ◌||◌, cond, List, [], ◌∷◌, ◌++◌, map, length, get_or, drop, take, Option, Some, None, is_some, Result, Ok, Err, OnOk, IfOk, IsTrue, slice_get, refl, sym, ap, ◌∙◌, append_assoc, arith, length-append}
use Rattle.std.specs.Prelude.{nat_le, unwrap_or}
use Rattle.std.proofs.lemmas.Bool.Decides.{nat_tests}
use Rattle.jm_model.specs.declared.step.NoMemory.{NoMemory}
use Rattle.std.specs.List.{list_all, list_any}
use Rattle.std.specs.Str.{bytes_eq}
use Rattle.std.specs.Borrow.{Bor}
use Rattle.std.proofs.lemmas.List.{drop_more, take_all}
use Rattle.std.proofs.lemmas.List.Folds.{list_any-append}
use Rattle.jm_events.specs.Names.{number_of, with_name}
use Rattle.jm_script.specs.Objects.{mentioned, number_at_mention, numbers_of, IsExtension}
use Rattle.jm_lines.specs.Objects.{is_object}
use Rattle.jm_script.proofs.NameLemmas.{list_any-number_of, number-mentioned}
use Rattle.jm_lines.proofs.WordLemmas.{both_left, both_right}

-- the texts of words
abbrev pub texts : List (Bor (List ℕ)) → List (List ℕ)
texts words = map (λ w. w.now) words

pub length-texts : (words : List (Bor (List ℕ))) → length (texts words) ≡ length words
length-texts [] = refl
length-texts (x ∷ words) = ap suc (length-texts words)

text_at : (words : List (Bor (List ℕ))) (i : ℕ) (d : Bor (List ℕ)) → get_or (texts words) i d.now ≡ (get_or words i d).now
text_at [] i d = refl
text_at (x ∷ words) zero d = refl
text_at (x ∷ words) (suc i) d = text_at words i d

-- the word at a place, and what follows it
pub texts_more : (words : List (Bor (List ℕ))) (i : ℕ) (d : Bor (List ℕ)) → i < length words → drop i (texts words) ≡ (get_or words i d).now ∷ drop (i + 1) (texts words)
texts_more words i d lt =
    let inside : i < length (texts words) = omega (arith, length-texts words) in
    drop_more (texts words) i d.now inside ∙ ap (λ w. w ∷ drop (i + 1) (texts words)) (text_at words i d)

-- each of the words is an object
pub object_at : (words : List (Bor (List ℕ))) (i : ℕ) (d : Bor (List ℕ)) → i < length words → IsTrue (list_all is_object (texts words)) → is_object (get_or words i d).now ≡ true
object_at [] i d lt h = absurd (omega arith)
object_at (x ∷ words) zero d lt h = both_left _ _ h
object_at (x ∷ words) (suc i) d lt h = object_at words i d (omega arith) (both_right (is_object x.now) _ h)

-- the word at a place is an object, or isn't
pub one_fails : (words : List (Bor (List ℕ))) (i : ℕ) (d : Bor (List ℕ)) (whole : Bool) → i < length words → whole ≡ list_all is_object (drop i (texts words)) → is_object (get_or words i d).now ≡ false → false ≡ whole
one_fails words i d whole lt before e = sym (before ∙ ap (list_all is_object) (texts_more words i d lt) ∙ rw e refl)

pub one_passes : (words : List (Bor (List ℕ))) (i : ℕ) (d : Bor (List ℕ)) (whole : Bool) → i < length words → whole ≡ list_all is_object (drop i (texts words)) → is_object (get_or words i d).now ≡ true → whole ≡ list_all is_object (drop (i + 1) (texts words))
one_passes words i d whole lt before e = before ∙ ap (list_all is_object) (texts_more words i d lt) ∙ rw e refl

-- a mention adds at most one name
pub length-with_name : (names : List (List ℕ)) (name : List ℕ) → length (with_name names name) ≤ length names + 1
length-with_name names name = by_case (list_any (bytes_eq name) names)
  where
    by_case : (b : Bool) → length (cond b names (names ++ name ∷ [])) ≤ length names + 1
    by_case true = omega arith
    by_case false = omega (arith, length-append names (name ∷ []))

pub length-mentioned : (names words : List (List ℕ)) → length (mentioned names words) ≤ length names + length words
length-mentioned names [] = omega arith
length-mentioned names (word ∷ words) = omega (arith, length-mentioned (with_name names word) words, length-with_name names word)

-- a mention keeps the names
pub IsExtension-none : (names : List (List ℕ)) → IsExtension names names
IsExtension-none names = record { added = []; at_end = append_end names }
  where
    append_end : (names : List (List ℕ)) → names ≡ names ++ []
    append_end [] = refl
    append_end (x ∷ names) = ap (λ rest. x ∷ rest) (append_end names)

pub IsExtension-with_name : (old names : List (List ℕ)) (name : List ℕ) → IsExtension old names → IsExtension old (with_name names name)
IsExtension-with_name old names name h = by_case (list_any (bytes_eq name) names)
  where
    by_case : (b : Bool) → IsExtension old (cond b names (names ++ name ∷ []))
    by_case true = h
    by_case false = record { added = h.added ++ name ∷ []; at_end = ap (λ l. l ++ name ∷ []) h.at_end ∙ append_assoc old h.added (name ∷ []) }

pub IsExtension-mentioned : (old names words : List (List ℕ)) → IsExtension old names → IsExtension old (mentioned names words)
IsExtension-mentioned old names [] h = h
IsExtension-mentioned old names (word ∷ words) h = IsExtension-mentioned old (with_name names word) words (IsExtension-with_name old names word h)

pub IsExtension-trans : (a b c : List (List ℕ)) → IsExtension a b → IsExtension b c → IsExtension a c
IsExtension-trans a b c h k = record { added = h.added ++ k.added; at_end = k.at_end ∙ ap (λ l. l ++ k.added) h.at_end ∙ append_assoc a h.added k.added }

pub length-IsExtension : (old new : List (List ℕ)) → IsExtension old new → length old ≤ length new
length-IsExtension old new h = omega (arith, ap length h.at_end, length-append old h.added)

-- a word that isn't among the names is mentioned after them
pub with_name-behind : (names new : List (List ℕ)) (name : List ℕ) → number_of names name ≡ None → with_name (names ++ new) name ≡ names ++ with_name new name
with_name-behind names new name e =
    let none : list_any (bytes_eq name) names ≡ false = list_any-number_of names name ∙ ap is_some e in
    let among : list_any (bytes_eq name) (names ++ new) ≡ list_any (bytes_eq name) new = list_any-append (bytes_eq name) names new ∙ ap (λ b. b || list_any (bytes_eq name) new) none in
    rw among (by_case (list_any (bytes_eq name) new))
  where
    by_case : (b : Bool) → cond b (names ++ new) ((names ++ new) ++ name ∷ []) ≡ names ++ cond b new (new ++ name ∷ [])
    by_case true = refl
    by_case false = append_assoc names new (name ∷ [])

pub with_name-before : (names new : List (List ℕ)) (name : List ℕ) (k : ℕ) → number_of names name ≡ Some k → with_name (names ++ new) name ≡ names ++ new
with_name-before names new name k e =
    let known : list_any (bytes_eq name) names ≡ true = list_any-number_of names name ∙ ap is_some e in
    let among : list_any (bytes_eq name) (names ++ new) ≡ true = list_any-append (bytes_eq name) names new ∙ ap (λ b. b || list_any (bytes_eq name) new) known in
    rw among refl

-- the number of a name that is mentioned
pub number_of_mentioned : (r : Result ℕ NoMemory) (names new : List (List ℕ)) (name : List ℕ) → OnOk r (new ≡ with_name names name) → IfOk r (λ n. slice_get new n ≡ Some name)
    → IfOk r (λ n. n ≡ unwrap_or (number_of names name) (length names)) → IfOk r (λ n. n ≡ number_at_mention names name)
number_of_mentioned (Ok n) names new name known at place = number-mentioned names new name (number_of names name) refl n known at place
number_of_mentioned (Err e) names new name known at place = tt

-- one mention more
pub numbered_more : (taken : List ℕ) (names : List (List ℕ)) (word : List ℕ) (words : List (List ℕ)) (whole : List ℕ) (number : ℕ) → number ≡ number_at_mention names word → taken ++ numbers_of names (word ∷ words) ≡ whole → (taken ++ number ∷ []) ++ numbers_of (with_name names word) words ≡ whole
numbered_more taken names word words whole number e before =
    append_assoc taken (number ∷ []) (numbers_of (with_name names word) words) ∙ ap (λ n. taken ++ n ∷ numbers_of (with_name names word) words) e ∙ before

pub left_new : (names new : List (List ℕ)) (word : List ℕ) (words whole : List (List ℕ)) → number_of names word ≡ None → mentioned (names ++ new) (word ∷ words) ≡ whole → mentioned (names ++ with_name new word) words ≡ whole
left_new names new word words whole none before = ap (λ l. mentioned l words) (sym (with_name-behind names new word none)) ∙ before

pub left_known : (names new : List (List ℕ)) (word : List ℕ) (words whole : List (List ℕ)) (o : Option ℕ) → o ≡ number_of names word → is_some o ≡ true → mentioned (names ++ new) (word ∷ words) ≡ whole → mentioned (names ++ new) words ≡ whole
left_known names new word words whole None e some before = cc
left_known names new word words whole (Some k) e some before = ap (λ l. mentioned l words) (sym (with_name-before names new word k (sym e))) ∙ before

pub none_is : (o : Option ℕ) → is_some o ≡ false → o ≡ None
none_is None e = refl
none_is (Some k) e = cc

pub le_true : (a b : ℕ) → a ≤ b → true ≡ nat_le a b
le_true a b le = grind (arith, nat_tests)

-- a list of words is empty, or has a first word
pub texts_none : (words : List (Bor (List ℕ))) → length words < 1 → [] ≡ texts words
texts_none [] lt = refl
texts_none (x ∷ words) lt = absurd (omega arith)

pub texts_split : (words : List (Bor (List ℕ))) (d : Bor (List ℕ)) → 1 ≤ length words → (get_or words 0 d).now ∷ texts (take (length words - 1) (drop 1 words)) ≡ texts words
texts_split [] d le = absurd (omega arith)
texts_split (x ∷ words) d le =
    let rest : take (suc (length words) - 1) words ≡ words = take_all (suc (length words) - 1) words (omega arith) in
    ap (λ ws. x.now ∷ texts ws) rest

pub le_given : (a b : ℕ) (v : Bool) → v ≡ nat_le a b → v ≡ true → a ≤ b
le_given a b v is true_is = le_from (sym is ∙ true_is)
  where
    le_from : nat_le a b ≡ true → a ≤ b
    le_from e = grind (arith, nat_tests)
