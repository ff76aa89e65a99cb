-- The words of the table spell their command.
use Rattle.std.proofs.Common.{ℕ, ◌≡◌, ◌+◌, ◌<◌, ◌≤◌, Bool, true, false, not, List, [], ◌∷◌, ◌++◌, length, get_or, Some, None, codes, decimal, inl, inr, refl, sym, ◌∙◌, ap, subst, position, bytes_eq, nat_eq, nat_lt, nat_le, arith, rules}
use Rattle.std.specs.List.{list_all, starts_with, position_or_len}
use Rattle.std.specs.Char.{is_ascii_digit}
use Rattle.std.specs.Str.Parse.{digits_value}
use Rattle.std.proofs.Math.Seq.{take-append_seam, drop-append-add}
use Rattle.std.proofs.lemmas.Bool.{false≢true, lt-ltb}
use Rattle.std.proofs.lemmas.Bool.Decides.{eqb_tells}
use Rattle.std.proofs.lemmas.List.{length-append}
use Rattle.std.proofs.lemmas.Fmt.{decimal_nonempty, length-decimal-le, digits_decimal, digits_value-decimal, first_decimal}
use Rattle.jm_cli.specs.Words.{CommandWords, is_name, are_names, is_short_number, rounds_of, run_of, audit_of, command_of}
use Rattle.jm_cli.specs.Words.CommandWords.{Replay, Run, Check, Coenable, Gen, Sweep, Audit}
use Rattle.jm_cli.specs.Spelling.{AreNames, Spells}
use Rattle.jm_cli.proofs.Numbers.{own}
use Rattle.jm_cli.proofs.Saying.{both, same_bytes}

pub names_told : (words : List (List ℕ)) → AreNames words → are_names words ≡ true
names_told words names = search (rules, names.some, names.few, names.each)

-- ---- the separator
no_separator_by : (x : List ℕ) (b : Bool) → bytes_eq (codes "--") x ≡ b → is_name x ≡ true → b ≡ false
no_separator_by x false e name = refl
no_separator_by x true e name =
    let bad : is_name (codes "--") ≡ true = subst (λ y. is_name y ≡ true) (sym (same_bytes (codes "--") x e)) name in
    absurd (false≢true bad)

-- names stand before the separator
first_separator : (specs rest : List (List ℕ)) → list_all is_name specs ≡ true
    → position_or_len (bytes_eq (codes "--")) (specs ++ codes "--" ∷ rest) ≡ length specs
first_separator [] rest names = refl
first_separator (x ∷ specs) rest names =
    let b = both (is_name x) (list_all is_name specs) names in
    let other : bytes_eq (codes "--") x ≡ false = no_separator_by x (bytes_eq (codes "--") x) refl b.0 in
    let up : 1 + length specs ≡ length (x ∷ specs) = omega arith in
    rw other (ap (λ n. 1 + n) (first_separator specs rest b.1) ∙ up)

pub separator_at : (specs scripts : List (List ℕ)) → list_all is_name specs ≡ true
    → position (bytes_eq (codes "--")) (specs ++ codes "--" ∷ scripts) ≡ Some (length specs)
separator_at specs scripts names =
    let first = first_separator specs scripts names in
    let within : nat_lt (length specs) (length (specs ++ codes "--" ∷ scripts)) ≡ true =
    lt-ltb (length specs) (length (specs ++ codes "--" ∷ scripts)) (omega (arith, length-append specs (codes "--" ∷ scripts))) in
    rw (first, within) refl

-- it stands nowhere in names
names_end : (words : List (List ℕ)) → list_all is_name words ≡ true → position_or_len (bytes_eq (codes "--")) words ≡ length words
names_end [] names = refl
names_end (x ∷ words) names =
    let b = both (is_name x) (list_all is_name words) names in
    let other : bytes_eq (codes "--") x ≡ false = no_separator_by x (bytes_eq (codes "--") x) refl b.0 in
    let up : 1 + length words ≡ length (x ∷ words) = omega arith in
    rw other (ap (λ n. 1 + n) (names_end words b.1) ∙ up)

pub run_of_names : (words : List (List ℕ)) → list_all is_name words ≡ true → run_of words ≡ None
run_of_names words names =
    let end = names_end words names in
    let without : nat_lt (length words) (length words) ≡ false = search rules in
    rw (end, without) refl

run_told : (specs scripts : List (List ℕ)) → AreNames specs → AreNames scripts
    → run_of (specs ++ codes "--" ∷ scripts) ≡ Some (Run specs scripts)
run_told specs scripts first second =
    let at = separator_at specs scripts first.each in
    rw (at, take-append_seam specs (codes "--" ∷ scripts), drop-append-add specs (codes "--" ∷ scripts) 1, names_told specs first, names_told scripts second) refl

audit_told : (history : List ℕ) (specs scripts : List (List ℕ)) → is_name history ≡ true → AreNames specs → AreNames scripts
    → audit_of (history ∷ (specs ++ codes "--" ∷ scripts)) ≡ Some (Audit history specs scripts)
audit_told history specs scripts name first second =
    let names : list_all is_name (history ∷ specs) ≡ true = rw name first.each in
    let at = separator_at (history ∷ specs) scripts names in
    rw (at, take-append_seam specs (codes "--" ∷ scripts), drop-append-add (history ∷ specs) (codes "--" ∷ scripts) 1)
    (rw (name, names_told specs first, names_told scripts second) refl)

-- ---- the number
-- a text whose first byte lies past another doesn't begin with that
begins_past : (byte : ℕ) (word : List ℕ) → byte ≤ 48 → 48 < get_or word 0 0 → not (starts_with nat_eq word (byte ∷ [])) ≡ true
begins_past byte [] low past = refl
begins_past byte (d ∷ word) low past =
    let other : nat_eq byte d ≡ false = elim (eqb_tells byte d) [
      | inl same ↦ absurd (omega (arith, low, past, same.1))
      | inr other ↦ other.0
    ] in
    rw other refl

pub decimal_name : (n : ℕ) → 1 ≤ n → n ≤ 8000 → is_name (decimal n) ≡ true
decimal_name n some few = begins_past 45 (decimal n) (omega arith) (first_decimal n (omega arith) (omega arith))

short_decimal : (n : ℕ) → 1 ≤ n → n ≤ 8000 → is_short_number (decimal n) ≡ true
short_decimal n some few =
    let nonempty = decimal_nonempty n (omega arith) in
    let short = length-decimal-le 4 n (omega arith) (omega arith) (omega arith) in
    let all : list_all is_ascii_digit (decimal n) ≡ true = digits_decimal own n (omega arith) in
    let front = begins_past 48 (decimal n) (omega arith) (first_decimal n (omega arith) (omega arith)) in
    search (rules, nonempty, short, all, front)

rounds_told : (n : ℕ) → 1 ≤ n → n ≤ 8000 → rounds_of (decimal n) ≡ Some n
rounds_told n some few =
    let value : digits_value 10 (decimal n) ≡ n = digits_value-decimal own n (omega arith) in
    let within : nat_le n 8000 ≡ true = search rules in
    rw (short_decimal n some few, value, within) refl

pub told : (words : List (List ℕ)) (c : CommandWords) → Spells words c → command_of words ≡ Some c
told words (Replay spec script) s = rw (s.0, s.1, s.2) refl
told words (Run specs scripts) s = rw s.0 (run_told specs scripts s.1 s.2)
told words (Check specs) s = rw (s.0, names_told specs s.1) refl
told words (Coenable specs) s = rw (s.0, names_told specs s.1) refl
told words (Sweep spec recording) s = rw (s.0, s.1, s.2) refl
told words (Gen n) s = rw (s.0, rounds_told n s.1 s.2) refl
told words (Audit history specs scripts) s = rw s.0 (audit_told history specs scripts s.1 s.2 s.3)
