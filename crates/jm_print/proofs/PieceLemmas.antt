-- The text of entries has a byte and more for each of them.
use Rattle.std.proofs.Common.{ℕ, ◌≡◌, ◌+◌, ◌^◌, ◌<◌, ◌≤◌, ◌++◌, List, [], ◌∷◌, length, codes, arith, ap, sym, ◌∙◌, take, drop, All, length-append}
use Rattle.std.specs.Prelude.{decimal}
use Rattle.std.specs.List.{flat_map}
use Rattle.std.proofs.lemmas.List.Concat.{flat_map-cons}
use Rattle.std.proofs.Math.Seq.{take-append_seam, drop-append_seam}
use Rattle.std.proofs.lemmas.List.Elements.{All-nil, All-cons, All-same, All-take, All-drop}
use Rattle.jm_model.specs.declared.step.Entry.{Entry}
use Rattle.jm_print.specs.Lexicons.{Lexicon}
use Rattle.jm_print.specs.Texts.{run_text, outcome_text, full_entry_text}

some_byte : (a c d e : List ℕ) (b : ℕ) → 1 ≤ length (a ++ b ∷ [] ++ c ++ d ++ e)
some_byte a c d e b = simp length-append (omega arith)

pub full_entry_text-some_byte : (l : Lexicon) (x : Entry) → 1 ≤ length (full_entry_text l x)
full_entry_text-some_byte l x = some_byte (decimal x.caller) (decimal x.line) (codes " ") (outcome_text (run_text l x) l x.step x.outcome) 58

pub flat_map-no_shorter : {X : Type 0} (text : X → List ℕ) → ((x : X) → 1 ≤ length (text x)) → (xs : List X) → length xs ≤ length (flat_map text xs)
flat_map-no_shorter text some [] = omega arith
flat_map-no_shorter text some (x ∷ xs) =
    rw (flat_map-cons text x xs) (simp length-append (omega (arith, some x, flat_map-no_shorter text some xs)))

-- so there are no more entries than a text can have bytes
pub few_more : {X : Type 0} (text : X → List ℕ) → ((x : X) → 1 ≤ length (text x)) → (start page after : List ℕ) (taken piece : List X) (count bytes : ℕ)
    → page ≡ start ++ flat_map text taken → after ≡ page ++ flat_map text piece
    → count ≡ length taken → bytes ≡ length after → bytes < 2 ^ 64 → count + length piece < 2 ^ 64
few_more text some start page after taken piece count bytes before behind counted long fits =
    let one : length page ≡ length start + length (flat_map text taken) = ap length before ∙ length-append start (flat_map text taken) in
    let other : length after ≡ length page + length (flat_map text piece) = ap length behind ∙ length-append page (flat_map text piece) in
    omega (arith, flat_map-no_shorter text some taken, flat_map-no_shorter text some piece)

-- what holds of all elements of lists holds of those of each
pub All-flat_map : {X A : Type 0} (P : A → Type 0) (f : X → List A) (xs : List X) → All P (flat_map f xs) → All (λ x. All P (f x)) xs
All-flat_map P f [] all = All-nil (λ x. All P (f x))
All-flat_map P f (x ∷ xs) all =
    let own = f x in
    let rest = flat_map f xs in
    let both : All P (own ++ rest) = All-same P (own ++ rest) (flat_map f (x ∷ xs)) (sym (flat_map-cons f x xs)) all in
    All-cons (λ y. All P (f y)) x xs
    (All-same P own (take (length own) (own ++ rest)) (sym (take-append_seam own rest)) (All-take P (length own) (own ++ rest) both))
    (All-flat_map P f xs (All-same P rest (drop (length own) (own ++ rest)) (sym (drop-append_seam own rest)) (All-drop P (length own) (own ++ rest) both)))
