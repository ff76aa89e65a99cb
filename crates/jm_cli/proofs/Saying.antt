-- Words that spell a command are those of the table.
use Rattle.std.proofs.Common.{ℕ, zero, suc, nat_le, ◌≡◌, ◌+◌, ◌≤◌, Bool, true, false, not, ◌&&◌, List, [], ◌∷◌, ◌++◌, length, get_or, take, drop, Option, Some, None, option_map, codes, decimal, if◌then◌else◌, ◌⊎◌, inl, inr, refl, sym, ◌∙◌, ap, subst, position, bytes_eq, nat_eq, arith, rules}
use Rattle.std.specs.List.{starts_with}
use Rattle.std.specs.Option.{option_and_then}
use Rattle.std.specs.Str.Parse.{digits_value}
use Rattle.std.proofs.lemmas.Bool.{false≢true, leb-true}
use Rattle.std.proofs.lemmas.Option.{same_Some, none-some}
use Rattle.std.proofs.lemmas.List.{take-append-drop, drop_more}
use Rattle.std.proofs.lemmas.List.Quantifiers.{position-Some}
use Rattle.std.proofs.lemmas.Slice.Eq.{bytes_eq-Decides}
use Rattle.std.proofs.lemmas.Fmt.{decimal-digits_value, decimal_digit}
use Rattle.jm_cli.specs.Words.{CommandWords, is_name, are_names, names_of, is_short_number, rounds_of, replay_of, run_around, run_of, audit_around, audit_of, check_of, coenable_of, gen_of, sweep_of, command_of}
use Rattle.jm_cli.specs.Words.CommandWords.{Replay, Run, Check, Coenable, Gen, Sweep, Audit}
use Rattle.jm_cli.specs.Spelling.{AreNames, Spells}
use Rattle.jm_cli.proofs.Numbers.{own, digits, some}

-- ---- choices
pub chosen : {X : Type 0} (b : Bool) (x y : Option X) (c : X) → (if b then x else y) ≡ Some c → ((b ≡ true) × (x ≡ Some c)) ⊎ ((b ≡ false) × (y ≡ Some c))
chosen true x y c e = inl (refl, e)
chosen false x y c e = inr (refl, e)

pub taken : {X : Type 0} (b : Bool) (x c : X) → (if b then Some x else None) ≡ Some c → (b ≡ true) × (x ≡ c)
taken true x c e = (refl, same_Some x c e)
taken false x c e = absurd (none-some c e)

pub both : (a b : Bool) → (a && b) ≡ true → (a ≡ true) × (b ≡ true)
both true b e = (refl, e)
both false b e = absurd (false≢true e)

some_then : {X Y : Type 0} (f : X → Option Y) (o : Option X) (y : Y) → option_and_then f o ≡ Some y → (x : X) × (o ≡ Some x) × (f x ≡ Some y)
some_then f (Some x) y e = (x, refl, e)
some_then f None y e = absurd (none-some y e)

some_map : {X Y : Type 0} (f : X → Y) (o : Option X) (y : Y) → option_map f o ≡ Some y → (x : X) × (o ≡ Some x) × (f x ≡ y)
some_map f (Some x) y e = (x, refl, same_Some (f x) y e)
some_map f None y e = absurd (none-some y e)

pub same_bytes : (xs ys : List ℕ) → bytes_eq xs ys ≡ true → xs ≡ ys
same_bytes xs ys e = (bytes_eq-Decides xs ys).0 e

-- ---- names
pub names_spelled : (words : List (List ℕ)) → are_names words ≡ true → AreNames words
names_spelled words e = record { some = search rules; few = search rules; each = search rules }

-- ---- the commands
replay_spelled : (words : List (List ℕ)) (c : CommandWords) → replay_of words ≡ Some c → Spells (codes "replay" ∷ words) c
replay_spelled [] c e = absurd (none-some c e)
replay_spelled (x ∷ []) c e = absurd (none-some c e)
replay_spelled (spec ∷ script ∷ []) c e =
    let t = taken (is_name spec && is_name script) (Replay spec script) c e in
    let b = both (is_name spec) (is_name script) t.0 in
    subst (Spells (codes "replay" ∷ spec ∷ script ∷ [])) t.1 (refl, b.0, b.1)
replay_spelled (x ∷ y ∷ z ∷ words) c e = absurd (none-some c e)

sweep_spelled : (words : List (List ℕ)) (c : CommandWords) → sweep_of words ≡ Some c → Spells (codes "sweep" ∷ words) c
sweep_spelled [] c e = absurd (none-some c e)
sweep_spelled (x ∷ []) c e = absurd (none-some c e)
sweep_spelled (spec ∷ script ∷ []) c e =
    let t = taken (is_name spec && is_name script) (Sweep spec script) c e in
    let b = both (is_name spec) (is_name script) t.0 in
    subst (Spells (codes "sweep" ∷ spec ∷ script ∷ [])) t.1 (refl, b.0, b.1)
sweep_spelled (x ∷ y ∷ z ∷ words) c e = absurd (none-some c e)

run_spelled : (words : List (List ℕ)) (c : CommandWords) → run_of words ≡ Some c → Spells (codes "run" ∷ words) c
run_spelled words c e =
    let found = some_then (λ k. run_around (take k words) (drop (k + 1) words)) (position (bytes_eq (codes "--")) words) c e in
    let k = found.0 in
    let before = take k words in
    let after = drop (k + 1) words in
    let t = taken (are_names before && are_names after) (Run before after) c found.2 in
    let b = both (are_names before) (are_names after) t.0 in
    let at = position-Some (bytes_eq (codes "--")) words k [] found.1 in
    let there = drop_more words k [] at.0 in
    let split : words ≡ before ++ codes "--" ∷ after =
    sym (take-append-drop k words) ∙ ap (λ r. before ++ r) there
    ∙ ap (λ w. before ++ w ∷ after) (sym (same_bytes (codes "--") (get_or words k []) at.1)) in
    subst (Spells (codes "run" ∷ words)) t.1 (ap (λ r. codes "run" ∷ r) split, names_spelled before b.0, names_spelled after b.1)

audit_split : (words before after : List (List ℕ)) (c : CommandWords) → words ≡ before ++ codes "--" ∷ after → audit_around before after ≡ Some c
    → Spells (codes "audit" ∷ words) c
audit_split words [] after c is e = absurd (none-some c e)
audit_split words (history ∷ specs) after c is e =
    let t = taken (is_name history && (are_names specs && are_names after)) (Audit history specs after) c e in
    let b = both (is_name history) (are_names specs && are_names after) t.0 in
    let d = both (are_names specs) (are_names after) b.1 in
    subst (Spells (codes "audit" ∷ words)) t.1
    (ap (λ r. codes "audit" ∷ r) is, b.0, names_spelled specs d.0, names_spelled after d.1)

audit_spelled : (words : List (List ℕ)) (c : CommandWords) → audit_of words ≡ Some c → Spells (codes "audit" ∷ words) c
audit_spelled words c e =
    let found = some_then (λ k. audit_around (take k words) (drop (k + 1) words)) (position (bytes_eq (codes "--")) words) c e in
    let k = found.0 in
    let before = take k words in
    let after = drop (k + 1) words in
    let at = position-Some (bytes_eq (codes "--")) words k [] found.1 in
    let there = drop_more words k [] at.0 in
    let split : words ≡ before ++ codes "--" ∷ after =
    sym (take-append-drop k words) ∙ ap (λ r. before ++ r) there
    ∙ ap (λ w. before ++ w ∷ after) (sym (same_bytes (codes "--") (get_or words k []) at.1)) in
    audit_split words before after c split found.2

check_spelled : (words : List (List ℕ)) (c : CommandWords) → check_of words ≡ Some c → Spells (codes "check" ∷ words) c
check_spelled words c e =
    let found = some_map (λ specs. Check specs) (names_of words) c e in
    let t = taken (are_names words) words found.0 found.1 in
    subst (Spells (codes "check" ∷ words)) (ap (λ specs. Check specs) t.1 ∙ found.2) (refl, names_spelled words t.0)

coenable_spelled : (words : List (List ℕ)) (c : CommandWords) → coenable_of words ≡ Some c → Spells (codes "coenable" ∷ words) c
coenable_spelled words c e =
    let found = some_map (λ specs. Coenable specs) (names_of words) c e in
    let t = taken (are_names words) words found.0 found.1 in
    subst (Spells (codes "coenable" ∷ words)) (ap (λ specs. Coenable specs) t.1 ∙ found.2) (refl, names_spelled words t.0)

-- a short number doesn't begin with the digit 0
no_zero : (word : List ℕ) → is_short_number word ≡ true → get_or word 0 0 ≡ 48 → length word ≡ 1
no_zero [] short front = absurd (omega (arith, front))
no_zero (d ∷ word) short front =
    let other : not (starts_with nat_eq (d ∷ word) (codes "0")) ≡ true = search rules in
    let none : not (starts_with nat_eq (48 ∷ word) (codes "0")) ≡ true =
    subst (λ x. not (starts_with nat_eq (x ∷ word) (codes "0")) ≡ true) front other in
    absurd (false≢true none)

-- the number 0 isn't short
positive : (word : List ℕ) (n : ℕ) → is_short_number word ≡ true → decimal n ≡ word → 1 ≤ n
positive word zero short e =
    let bad : is_short_number (48 ∷ []) ≡ true =
    subst (λ w. is_short_number w ≡ true) (sym e ∙ decimal_digit 0 (omega arith)) short in
    absurd (false≢true bad)
positive word (suc n) short e = omega arith

gen_spelled : (words : List (List ℕ)) (c : CommandWords) → gen_of words ≡ Some c → Spells (codes "gen" ∷ words) c
gen_spelled [] c e = absurd (none-some c e)
gen_spelled (word ∷ []) c e =
    let found = some_map (λ n. Gen n) (rounds_of word) c e in
    let v = digits_value 10 word in
    let t = taken (is_short_number word && nat_le v 8000) v found.0 found.1 in
    let b = both (is_short_number word) (nat_le v 8000) t.0 in
    let few : v ≤ 8000 = leb-true v 8000 b.1 in
    let written : decimal v ≡ word =
    decimal-digits_value own word (digits word b.0) (some word b.0).0 (no_zero word b.0) (omega (arith, few)) in
    subst (Spells (codes "gen" ∷ word ∷ [])) (ap (λ n. Gen n) t.1 ∙ found.2)
    (ap (λ w. codes "gen" ∷ w ∷ []) (sym written), positive word v b.0 written, few)
gen_spelled (x ∷ y ∷ words) c e = absurd (none-some c e)

pub spelled : (words : List (List ℕ)) (c : CommandWords) → command_of words ≡ Some c → Spells words c
spelled [] c e = absurd (none-some c e)
spelled (w ∷ words) c e =
    elim (chosen (bytes_eq w (codes "replay")) _ _ c e) [
      | inl h ↦ rw (same_bytes w (codes "replay") h.0) (replay_spelled words c h.1)
      | inr h ↦ elim (chosen (bytes_eq w (codes "run")) _ _ c h.1) [
        | inl h ↦ rw (same_bytes w (codes "run") h.0) (run_spelled words c h.1)
        | inr h ↦ elim (chosen (bytes_eq w (codes "check")) _ _ c h.1) [
          | inl h ↦ rw (same_bytes w (codes "check") h.0) (check_spelled words c h.1)
          | inr h ↦ elim (chosen (bytes_eq w (codes "coenable")) _ _ c h.1) [
            | inl h ↦ rw (same_bytes w (codes "coenable") h.0) (coenable_spelled words c h.1)
            | inr h ↦ elim (chosen (bytes_eq w (codes "gen")) _ _ c h.1) [
              | inl h ↦ rw (same_bytes w (codes "gen") h.0) (gen_spelled words c h.1)
              | inr h ↦ elim (chosen (bytes_eq w (codes "sweep")) _ _ c h.1) [
                | inl h ↦ rw (same_bytes w (codes "sweep") h.0) (sweep_spelled words c h.1)
                | inr h ↦ elim (chosen (bytes_eq w (codes "audit")) _ _ c h.1) [
                  | inl h ↦ rw (same_bytes w (codes "audit") h.0) (audit_spelled words c h.1)
                  | inr h ↦ absurd (none-some c h.1)
                ]
              ]
            ]
          ]
        ]
      ]
    ]
