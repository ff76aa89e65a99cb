-- The text of a caller and a line, written from its end.
use Rattle.std.proofs.Common.{◌≡◌, ℕ, ◌+◌, ◌-◌, ◌<◌, ◌≤◌, ◌^◌, ◌/◌, ◌%◌, inl, inr, List, [], ◌∷◌, ◌++◌, length, get_or, take, drop, set, subst, sym, ◌∙◌, ap, arith, append_assoc, length-append}
use Rattle.std.specs.Prelude.{codes, decimal}
use Rattle.std.proofs.lemmas.List.{drop-set, take_all}
use Rattle.std.proofs.lemmas.Fmt.{length-decimal-le, decimal_digit, decimal_step}
use Rattle.std.proofs.lemmas.Bool.{cases_lt}
use Rattle.std.proofs.lemmas.List.{take-append-drop, length-take-le}
use Rattle.std.proofs.Math.Seq.{get_or-append_seam, set-append_seam, take-append_seam}
use Rattle.jm_print.specs.Shorts.{place_text}

-- a number of 32 bits has ten digits at most
pub ten_digits : (n m : ℕ) → n ≡ m → m < 2 ^ 32 → length (decimal n) ≤ 10
ten_digits n m same h = length-decimal-le 10 n (omega arith) (omega arith) (omega arith)

-- the parts, from the last to the first
place_parts : (caller line : ℕ) (all behind last : List ℕ) → last ≡ decimal line ++ codes " " → behind ≡ 58 ∷ last → all ≡ decimal caller ++ behind
    → all ≡ decimal caller ++ codes ":" ++ decimal line ++ codes " "
place_parts caller line all behind last one two three =
    three ∙ ap (λ t. decimal caller ++ t) (two ∙ ap (λ t. 58 ∷ t) one)
    ∙ sym (append_assoc (decimal caller) (codes ":") (decimal line ++ codes " "))
    ∙ sym (append_assoc (decimal caller ++ codes ":") (decimal line) (codes " "))

-- what stands in the buffer from the start of the caller on
pub place_written : (caller line colon start : ℕ) (before after : List ℕ) → 1 ≤ colon → colon ≤ length before → start + length (decimal caller) ≡ colon - 1 → colon + length (decimal line) ≡ 31
    → drop colon before ≡ decimal line ++ codes " " → drop start after ≡ decimal caller ++ drop (colon - 1) (set before (colon - 1) 58)
    → take (32 - start) (drop start after) ≡ decimal caller ++ codes ":" ++ decimal line ++ codes " "
place_written caller line colon start before after some within first second last all =
    let text : List ℕ = decimal caller ++ codes ":" ++ decimal line ++ codes " " in
    let next : colon - 1 + 1 ≡ colon = omega arith in
    let middle : drop (colon - 1) (set before (colon - 1) 58) ≡ 58 ∷ drop colon before =
    drop-set before (colon - 1) 58 (omega arith) ∙ ap (λ (n : ℕ). 58 ∷ drop n before) next in
    let is : drop start after ≡ text = place_parts caller line (drop start after) (drop (colon - 1) (set before (colon - 1) 58)) (drop colon before) last middle all in
    let one = length-append (decimal caller ++ codes ":" ++ decimal line) (codes " ") in
    let two = length-append (decimal caller ++ codes ":") (decimal line) in
    let three = length-append (decimal caller) (codes ":") in
    let short : length text ≤ 32 - start = omega (arith, one, two, three) in
    ap (take (32 - start)) is ∙ take_all (32 - start) text short

-- ---- the next number, where the last digit is below 9
pub record EndsIn (n : ℕ) (start : List ℕ) (digit : ℕ) : Type 0 where
  pub now : decimal n ≡ start ++ digit ∷ []
  pub next : digit < 57 → decimal (n + 1) ≡ start ++ (digit + 1) ∷ []

pub last_digit : (n : ℕ) → n < 2 ^ 32 → (start : List ℕ) × (digit : ℕ) × EndsIn n start digit
last_digit n small =
    elim (cases_lt n 10) [
      | inl one ↦ (
        [],
        48 + n,
        record {
          now = decimal_digit n one;
          next = λ below. decimal_digit (n + 1) (omega (arith, below)) ∙ ap (λ (k : ℕ). k ∷ []) (omega arith);
        },
      )
      | inr more ↦
          let same : (48 + n % 10 < 57) → (n + 1) / 10 ≡ n / 10 = λ below. omega (arith, below) in
          let digit : (48 + n % 10 < 57) → 48 + (n + 1) % 10 ≡ 48 + n % 10 + 1 = λ below. omega (arith, below) in (
            decimal (n / 10),
            48 + n % 10,
            record {
              now = decimal_step n more (omega (arith, small));
              next = λ below. decimal_step (n + 1) (omega (arith, more)) (omega (arith, small))
                  ∙ (λ j. decimal (same below j) ++ digit below j ∷ []);
            },
          )
    ]

-- ---- the next line, where its last digit is below 9
line_parts : (caller line : ℕ) (start : List ℕ) (digit : ℕ) → decimal line ≡ start ++ digit ∷ []
    → place_text caller line ≡ (decimal caller ++ codes ":" ++ start) ++ digit ∷ 32 ∷ []
line_parts caller line start digit is =
    ap (λ t. decimal caller ++ codes ":" ++ t ++ codes " ") is ∙ simp append_assoc

digit_there : (front rest : List ℕ) (digit : ℕ) → get_or ((front ++ digit ∷ 32 ∷ []) ++ rest) (length front) 0 ≡ digit
digit_there front rest digit =
    ap (λ t. get_or t (length front) 0) (append_assoc front (digit ∷ 32 ∷ []) rest) ∙ get_or-append_seam front digit (32 ∷ rest) 0

digit_set : (front rest : List ℕ) (digit v : ℕ) → take (length front + 2) (set ((front ++ digit ∷ 32 ∷ []) ++ rest) (length front) v) ≡ front ++ v ∷ 32 ∷ []
digit_set front rest digit v =
    let text : List ℕ = front ++ v ∷ 32 ∷ [] in
    let size : length text ≡ length front + 2 = length-append front (v ∷ 32 ∷ []) in
    ap (λ t. take (length front + 2) (set t (length front) v)) (append_assoc front (digit ∷ 32 ∷ []) rest)
    ∙ ap (take (length front + 2)) (set-append_seam front digit (32 ∷ rest) v ∙ sym (append_assoc front (v ∷ 32 ∷ []) rest))
    ∙ ap (λ (n : ℕ). take n (text ++ rest)) (sym size)
    ∙ take-append_seam text rest

pub next_place : (caller line next len : ℕ) (bytes : List ℕ) → line < 2 ^ 32 → len ≤ 32 → length bytes ≡ 32 → take len bytes ≡ place_text caller line → next ≡ line + 1
    → get_or bytes (len - 2) 0 < 57 → take len (set bytes (len - 2) (get_or bytes (len - 2) 0 + 1)) ≡ place_text caller next
next_place caller line next len bytes small short size is follows below =
    let (start, digit, ends) = last_digit line small in
    let front : List ℕ = decimal caller ++ codes ":" ++ start in
    let text : List ℕ = front ++ digit ∷ 32 ∷ [] in
    let parts : take len bytes ≡ text = is ∙ line_parts caller line start digit ends.now in
    let count : len ≡ length front + 2 =
    sym (length-take-le len bytes (omega (arith, short, size))) ∙ ap length parts ∙ length-append front (digit ∷ 32 ∷ []) in
    let at : len - 2 ≡ length front = omega (arith, count) in
    let whole : bytes ≡ text ++ drop len bytes = sym (take-append-drop len bytes) ∙ ap (λ t. t ++ drop len bytes) parts in
    let there : get_or bytes (len - 2) 0 ≡ digit = (λ j. get_or (whole j) (at j) 0) ∙ digit_there front (drop len bytes) digit in
    let low : digit < 57 = subst (λ (d : ℕ). d < 57) there below in
    (λ j. take (count j) (set (whole j) (at j) (there j + 1))) ∙ digit_set front (drop len bytes) digit (digit + 1)
    ∙ sym (line_parts caller (line + 1) start (digit + 1) (ends.next low)) ∙ ap (place_text caller) (sym follows)
