-- The lines that are left of a queue.
use Rattle.std.proofs.Common.{◌≡◌, ◌≢◌, ℕ, zero, suc, ◌+◌, ◌<◌, ◌≤◌, List, [], ◌∷◌, ◌++◌, length, take, drop, Option, Some, None, slice_get, refl, sym, ◌∙◌, ap, subst, arith}
use Rattle.std.specs.Prelude.{All, reverse}
use Rattle.std.specs.List.{flat_map}
use Rattle.std.proofs.lemmas.Option.{none-some, same_Some, slice_get_within, get_or_from_slice_get}
use Rattle.std.proofs.lemmas.List.{take_all, reverse-append}
use Rattle.std.proofs.lemmas.List.Elements.{All-nil, All-cons, All-head, All-tail, All-weaker}
use Rattle.std.proofs.Math.Seq.{take-suc, drop-append_seam}
use Rattle.jm_script.specs.Blocks.{lines_from, IsBegun, IsQueue, StandsFrom}
use Rattle.jm_script.specs.Meanings.{RisesFrom}
use Rattle.jm_script.specs.declared.script.ScriptLine.{ScriptLine}

-- ---- lists
abbrev all_of : List (List ScriptLine) → List ScriptLine
all_of blocks = flat_map (λ lines. lines) blocks

-- the last block stands first in the queue
pub last_first : (blocks : List (List ScriptLine)) (n : ℕ) (b : List ScriptLine) → length blocks ≡ n + 1 → slice_get blocks n ≡ Some b → reverse blocks ≡ b ∷ reverse (take n blocks)
last_first blocks n b size at =
    let next : n + 1 ≡ suc n = omega arith in
    let whole : take (n + 1) blocks ≡ take n blocks ++ b ∷ [] =
    rw next (take-suc blocks n b (slice_get_within blocks n b at)) ∙ ap (λ x. take n blocks ++ x ∷ []) (get_or_from_slice_get blocks n b b at) in
    ap reverse (sym (take_all (n + 1) blocks (omega (arith, size))) ∙ whole) ∙ reverse-append (take n blocks) (b ∷ [])

drop_more : {A : Type 0} (n : ℕ) (xs : List A) → drop 1 (drop n xs) ≡ drop (n + 1) xs
drop_more zero xs = refl
drop_more (suc n) [] = let more : suc n + 1 ≡ suc (n + 1) = omega arith in rw more refl
drop_more (suc n) (x ∷ xs) = let more : suc n + 1 ≡ suc (n + 1) = omega arith in rw more (drop_more n xs)

at_first : {A : Type 0} (n : ℕ) (xs ys : List A) → n < length xs → slice_get (drop n (xs ++ ys)) 0 ≡ slice_get xs n
at_first n [] ys within = absurd (omega arith)
at_first zero (x ∷ xs) ys within = refl
at_first (suc n) (x ∷ xs) ys within = at_first n xs ys (omega arith)

-- ---- numbers that rise
lower : (m n : ℕ) (lines : List ScriptLine) → m ≤ n → RisesFrom n lines → RisesFrom m lines
lower m n [] less rising = rising
lower m n (l ∷ lines) less rising = let first : n ≤ l.line = rising.0 in (omega arith, rising.1)

rising_rest : (lines : List ScriptLine) → RisesFrom 1 lines → RisesFrom 1 (drop 1 lines)
rising_rest [] rising = rising
rising_rest (l ∷ lines) rising = lower 1 (l.line + 1) lines (omega arith) rising.1

all_from : (n : ℕ) (lines : List ScriptLine) → RisesFrom n lines → All (λ x. n ≤ x.line) lines
all_from n [] rising = All-nil (λ (x : ScriptLine). n ≤ x.line)
all_from n (l ∷ lines) rising =
    let first : n ≤ l.line = rising.0 in
    All-cons (λ (x : ScriptLine). n ≤ x.line) l lines first (All-weaker (λ (x : ScriptLine). l.line + 1 ≤ x.line) (λ (x : ScriptLine). n ≤ x.line) (λ x low. omega arith) lines (all_from (l.line + 1) lines rising.1))

-- where the first line doesn't stand above another one, no line does
pub none_above : (number : Option ℕ) (lines : List ScriptLine) (line : ScriptLine) → RisesFrom 1 lines → slice_get lines 0 ≡ Some line → StandsFrom number line → All (StandsFrom number) lines
none_above number [] line rising at from = absurd (none-some line at)
none_above None (l ∷ lines) line rising at from = absurd from
none_above (Some number) (l ∷ lines) line rising at from =
    let first : number ≤ l.line = subst (λ (x : ScriptLine). number ≤ x.line) (sym (same_Some l line at)) from in
    All-cons (λ (x : ScriptLine). number ≤ x.line) l lines first (All-weaker (λ (x : ScriptLine). l.line + 1 ≤ x.line) (λ (x : ScriptLine). number ≤ x.line) (λ x low. omega arith) lines (all_from (l.line + 1) lines rising.1))

-- ---- the first line of a queue, and what is left after it
module _ (b : List ScriptLine) (others : List (List ScriptLine)) (place : ℕ) (queue : IsQueue (b ∷ others) place) where
  pub first_line : slice_get (lines_from (b ∷ others) place) 0 ≡ slice_get b place
  first_line = at_first place b (all_of others) queue.begun

  pub same_block : place + 1 ≢ length b → IsQueue (b ∷ others) (place + 1) × (lines_from (b ∷ others) (place + 1) ≡ drop 1 (lines_from (b ∷ others) place))
  same_block more =
      let left : lines_from (b ∷ others) (place + 1) ≡ drop 1 (lines_from (b ∷ others) place) = sym (drop_more place (b ++ all_of others)) in
      let begun : place < length b = queue.begun in (
        record { each = queue.each; begun = grind (arith, begun, more); rising = subst (RisesFrom 1) (sym left) (rising_rest (lines_from (b ∷ others) place) queue.rising) },
        left,
      )

  pub next_block : place + 1 ≡ length b → IsQueue others 0 × (lines_from others 0 ≡ drop 1 (lines_from (b ∷ others) place))
  next_block ends =
      let left : lines_from others 0 ≡ drop 1 (lines_from (b ∷ others) place) =
      sym (drop_more place (b ++ all_of others) ∙ ap (λ n. drop n (b ++ all_of others)) ends ∙ drop-append_seam b (all_of others)) in
      let rest : All (λ lines. 1 ≤ length lines) others = All-tail (λ lines. 1 ≤ length lines) b others queue.each in (
        record { each = rest; begun = begins others rest; rising = subst (RisesFrom 1) (sym left) (rising_rest (lines_from (b ∷ others) place) queue.rising) },
        left,
      )
    where
      begins : (blocks : List (List ScriptLine)) → All (λ lines. 1 ≤ length lines) blocks → IsBegun blocks 0
      begins [] each = refl
      begins (c ∷ blocks) each = let some : 1 ≤ length c = All-head (λ lines. 1 ≤ length lines) c blocks each in omega arith

-- a queue with a line has a block
pub some_block : (blocks : List (List ScriptLine)) (place : ℕ) → 1 ≤ length (lines_from (reverse blocks) place) → 1 ≤ length blocks
some_block [] zero some = some
some_block [] (suc place) some = some
some_block (b ∷ blocks) place some = omega arith

-- ---- a line is let go
module _ (blocks : List (List ScriptLine)) (place n : ℕ) (b : List ScriptLine) (size : length blocks ≡ n + 1) (at : slice_get blocks n ≡ Some b) (queue : IsQueue (reverse blocks) place) where
  parted : reverse blocks ≡ b ∷ reverse (take n blocks)
  parted = last_first blocks n b size at

  opened : IsQueue (b ∷ reverse (take n blocks)) place
  opened = subst (λ (l : List (List ScriptLine)). IsQueue l place) parted queue

  pub goes_on : place + 1 < length b → IsQueue (reverse blocks) (place + 1) × (lines_from (reverse blocks) (place + 1) ≡ drop 1 (lines_from (reverse blocks) place))
  goes_on more =
      subst (λ (l : List (List ScriptLine)). IsQueue l (place + 1) × (lines_from l (place + 1) ≡ drop 1 (lines_from l place))) (sym parted)
      (same_block b (reverse (take n blocks)) place opened (λ ends. absurd (omega (arith, more, ends))))

  pub block_ends : (rest : List (List ScriptLine)) → rest ≡ take n blocks → length b ≤ place + 1 → IsQueue (reverse rest) 0 × (lines_from (reverse rest) 0 ≡ drop 1 (lines_from (reverse blocks) place))
  block_ends rest is ends =
      let begun : place < length b = opened.begun in
      let last : place + 1 ≡ length b = omega (arith, begun, ends) in
      subst (λ (l : List (List ScriptLine)). IsQueue (reverse l) 0 × (lines_from (reverse l) 0 ≡ drop 1 (lines_from (reverse blocks) place))) (sym is)
      (subst (λ (l : List (List ScriptLine)). IsQueue (reverse (take n blocks)) 0 × (lines_from (reverse (take n blocks)) 0 ≡ drop 1 (lines_from l place))) (sym parted)
      (next_block b (reverse (take n blocks)) place opened last))
