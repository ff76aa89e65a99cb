-- The lines of full blocks, and where each stands.
use Rattle.std.proofs.Common.{◌≡◌, ℕ, zero, suc, ◌+◌, ◌*◌, ◌/◌, ◌%◌, ◌<◌, ◌≤◌, List, [], ◌∷◌, ◌++◌, length, map, filter, take, Some, slice_get, refl, sym, ◌∙◌, ap, subst, arith, append_assoc, append-nil, length-append}
use Rattle.std.specs.List.{flat_map}
use Rattle.std.proofs.lemmas.List.{map-append, take_all}
use Rattle.std.proofs.lemmas.Option.{get_or_from_slice_get, slice_get_within}
use Rattle.std.proofs.Math.Seq.{take-suc}
use Rattle.std.proofs.lemmas.Grind.{flat_map-append}
use Rattle.std.proofs.lemmas.List.Elements.{All-head, All-tail, All-push, filter-append}
use Rattle.jm_model.specs.declared.step.Step.{Step}
use Rattle.jm_semantics.specs.Scripts.{projection_of, is_for}
use Rattle.jm_script.specs.Projections.{script_of, line_of}
use Rattle.jm_script.specs.declared.script.ScriptLine.{ScriptLine}
use Rattle.jm_script.specs.Blocks.{lines_of, steps_in, AreFull}

-- ---- how many lines there are, and where
abbrev all_of : List (List ScriptLine) → List ScriptLine
all_of blocks = flat_map (λ lines. lines) blocks

length_full : (blocks : List (List ScriptLine)) → AreFull blocks → length (all_of blocks) ≡ 16384 * length blocks
length_full [] full = refl
length_full (b ∷ blocks) full =
    let P : List ScriptLine → Type 0 = λ lines. length lines ≡ 16384 in
    omega (arith, length-append b (all_of blocks), All-head P b blocks full, length_full blocks (All-tail P b blocks full))

pub length_lines : (full : List (List ScriptLine)) (last : List ScriptLine) → AreFull full → length (lines_of full last) ≡ length full * 16384 + length last
length_lines full last each = omega (arith, length-append (all_of full) last, length_full full each)

slice_get-left : {A : Type 0} (xs ys : List A) (i : ℕ) → i < length xs → slice_get (xs ++ ys) i ≡ slice_get xs i
slice_get-left [] ys i within = absurd (omega arith)
slice_get-left (x ∷ xs) ys zero within = refl
slice_get-left (x ∷ xs) ys (suc i) within = slice_get-left xs ys i (omega arith)

slice_get-right : {A : Type 0} (xs ys : List A) (i k : ℕ) → k ≡ length xs + i → slice_get (xs ++ ys) k ≡ slice_get ys i
slice_get-right [] ys i k at =
    let same : k ≡ i = omega (arith, at) in
    rw same refl
slice_get-right (x ∷ xs) ys i zero at = absurd (omega arith)
slice_get-right (x ∷ xs) ys i (suc k) at = slice_get-right xs ys i k (omega arith)

IsFull : List ScriptLine → Type 0
IsFull lines = length lines ≡ 16384

-- a line of a full block
in_block : (blocks : List (List ScriptLine)) (last b : List ScriptLine) (q r place : ℕ) → AreFull blocks → slice_get blocks q ≡ Some b → r < 16384 → place ≡ 16384 * q + r → (r < length b) × (slice_get b r ≡ slice_get (lines_of blocks last) place)
in_block [] last b q r place full at inside is = absurd (cc)
in_block (c ∷ blocks) last b zero r place full at inside is =
    let same : c ≡ b = cc in
    let size : length c ≡ 16384 = All-head (λ lines. length lines ≡ 16384) c blocks full in
    let within : r < length c = omega (arith, size) in
    let here : place ≡ r = omega (arith, is) in
    (rw (← same) within, rw (← same, here) (sym (ap (λ ls. slice_get ls r) (append_assoc c (all_of blocks) last) ∙ slice_get-left c (all_of blocks ++ last) r within)))
in_block (c ∷ blocks) last b (suc q) r place full at inside is =
    let size : length c ≡ 16384 = All-head (λ lines. length lines ≡ 16384) c blocks full in
    let rest = in_block blocks last b q r (16384 * q + r) (All-tail (λ lines. length lines ≡ 16384) c blocks full) at inside refl in
    (rest.0, rest.1 ∙ sym (ap (λ ls. slice_get ls place) (append_assoc c (all_of blocks) last) ∙ slice_get-right c (all_of blocks ++ last) (16384 * q + r) place (omega (arith, size, is))))

module _ (full : List (List ScriptLine)) (last : List ScriptLine) (each : AreFull full) (room : length last ≤ 16384) (place : ℕ) (there : place < length (lines_of full last)) where
  pub in_full : (b : List ScriptLine) → slice_get full (place / 16384) ≡ Some b → (place % 16384 < length b) × (slice_get b (place % 16384) ≡ slice_get (lines_of full last) place)
  in_full b at = in_block full last b (place / 16384) (place % 16384) place each at (omega arith) (omega arith)

  pub in_last : length full ≤ place / 16384 → (place % 16384 < length last) × (slice_get last (place % 16384) ≡ slice_get (lines_of full last) place)
  in_last past =
      let count = length_lines full last each in
      let size = length_full full each in
      let within : place % 16384 < length last = omega (arith, there, count, past, room) in
      (within, sym (slice_get-right (all_of full) last (place % 16384) place (omega (arith, there, count, size, past, room))))

-- ---- a block more
pub begun : (full new : List (List ScriptLine)) (last : List ScriptLine) → new ≡ full ++ last ∷ [] → lines_of new [] ≡ lines_of full last
begun full new last pushed =
    append-nil (all_of new)
    ∙ ap all_of pushed
    ∙ flat_map-append (λ (lines : List ScriptLine). lines) full (last ∷ [])
    ∙ ap (λ ls. all_of full ++ ls) (append-nil last)

pub full_more : (full new : List (List ScriptLine)) (last : List ScriptLine) → new ≡ full ++ last ∷ [] → AreFull full → length last ≡ 16384 → AreFull new
full_more full new last pushed each size = subst AreFull (sym pushed) (All-push (λ (lines : List ScriptLine). length lines ≡ 16384) full last each size)

-- a line more in the last one
pub line_more : (full : List (List ScriptLine)) (last new more start : List ScriptLine) → new ≡ last ++ more → lines_of full last ≡ start → lines_of full new ≡ start ++ more
line_more full last new more start pushed same =
    ap (lines_of full) pushed ∙ sym (append_assoc (all_of full) last more) ∙ ap (λ ls. ls ++ more) same

-- ---- steps
projection-append : (xs ys : List ScriptLine) (s : ℕ) → projection_of (script_of (xs ++ ys)) s ≡ projection_of (script_of xs) s ++ projection_of (script_of ys) s
projection-append xs ys s =
    ap (λ ls. projection_of ls s) (map-append line_of xs ys)
    ∙ ap (λ ls. map (λ l. (l.line, l.step)) ls) (filter-append (λ l. is_for s l.spec) (script_of xs) (script_of ys))
    ∙ map-append (λ l. (l.line, l.step)) (filter (λ l. is_for s l.spec) (script_of xs)) (filter (λ l. is_for s l.spec) (script_of ys))

pub steps_all : (s : ℕ) (blocks : List (List ScriptLine)) → steps_in s blocks ≡ projection_of (script_of (all_of blocks)) s
steps_all s [] = refl
steps_all s (b ∷ blocks) =
    ap (λ steps. projection_of (script_of b) s ++ steps) (steps_all s blocks)
    ∙ sym (projection-append b (all_of blocks) s)

-- those of the full blocks, and those of the last one
pub steps_both : (s : ℕ) (full : List (List ScriptLine)) (last : List ScriptLine) (steps then : List (ℕ × Step)) → steps ≡ [] ++ steps_in s full → then ≡ steps ++ projection_of (script_of last) s → then ≡ projection_of (script_of (lines_of full last)) s
steps_both s full last steps then first behind =
    behind ∙ ap (λ k. k ++ projection_of (script_of last) s) (first ∙ steps_all s full) ∙ sym (projection-append (all_of full) last s)

pub steps_pushed : (s : ℕ) (full new : List (List ScriptLine)) (last : List ScriptLine) → new ≡ full ++ last ∷ [] → steps_in s new ≡ projection_of (script_of (lines_of full last)) s
steps_pushed s full new last pushed =
    steps_all s new ∙ ap (λ ls. projection_of (script_of ls) s) (sym (append-nil (all_of new)) ∙ begun full new last pushed)

-- ---- lines one after the other
pub taken_more : (lines then : List ScriptLine) (place : ℕ) (all : List ScriptLine) (l : ScriptLine) → lines ≡ take place all → slice_get all place ≡ Some l → then ≡ lines ++ l ∷ [] → then ≡ take (place + 1) all
taken_more lines then place all l so_far at pushed =
    let next : place + 1 ≡ suc place = omega arith in
    pushed
    ∙ ap (λ ls. ls ++ l ∷ []) so_far
    ∙ ap (λ x. take place all ++ x ∷ []) (sym (get_or_from_slice_get all place l l at))
    ∙ sym (rw next (take-suc all place l (slice_get_within all place l at)))

pub taken_all : (lines all : List ScriptLine) (place : ℕ) → lines ≡ take place all → length all ≤ place → lines ≡ all
taken_all lines all place so_far past = so_far ∙ take_all place all past
