-- Lines in short form stay as they are when objects are put after the others.
use Rattle.std.proofs.Common.{◌≡◌, ℕ, ◌+◌, ◌≤◌, List, [], ◌∷◌, ◌++◌, length, drop, All, refl, sym, ◌∙◌, ap, subst, arith, length-append, length-drop}
use Rattle.std.specs.Prelude.{count_ones}
use Rattle.std.proofs.lemmas.List.{drop-append-le, take-append-le, map-append, get_or_append_left}
use Rattle.std.proofs.lemmas.List.Elements.{All-head, All-tail, All-weaker, All-push}
use Rattle.jm_script.specs.declared.script.Target.{Target}
use Rattle.jm_script.specs.declared.script.Target.TheVariants as target
use Rattle.jm_script.specs.declared.script.ScriptLine.{ScriptLine}
use Rattle.jm_script.specs.declared.block.Brief.{Brief}
use Rattle.jm_script.specs.declared.block.Brief.TheVariants as brief
use Rattle.jm_script.specs.declared.block.BriefLine.{BriefLine}
use Rattle.jm_script.specs.Blocks.{event_target, target_in, line_in, lines_in, FitsIn, IsBlock, Grown}

-- ---- objects after the others
target_in-more : (objects more : List ℕ) (b : Brief) → FitsIn (length objects) b → target_in (objects ++ more) b ≡ target_in objects b
target_in-more objects more (brief.Event spec letter mask first) fits =
    let behind = drop-append-le first objects more (omega (arith, fits)) in
    let enough : count_ones mask ≤ length (drop first objects) = omega (arith, fits, length-drop first objects) in
    ap (λ os. event_target spec letter.0 mask os) behind
    ∙ ap (λ os. event_target spec letter.0 mask os) (sym refl)
    ∙ first_same spec letter.0 mask (drop first objects) more enough
  where
    first_same : (spec letter mask : ℕ) (os more : List ℕ) → count_ones mask ≤ length os → event_target spec letter mask (os ++ more) ≡ event_target spec letter mask os
    first_same spec letter mask os more enough = rw (take-append-le (count_ones mask) os more enough) refl
target_in-more objects more (brief.Death first) fits = ap (λ o. target.Death o) (get_or_append_left objects more 0 first fits)
target_in-more objects more (brief.Pass spec) fits = refl

FitsIn-more : (m n : ℕ) → m ≤ n → (b : Brief) → FitsIn m b → FitsIn n b
FitsIn-more m n le (brief.Event spec letter mask first) fits = omega (arith, fits, le)
FitsIn-more m n le (brief.Death first) fits = omega (arith, fits, le)
FitsIn-more m n le (brief.Pass spec) fits = tt

lines_in-more : (objects more : List ℕ) (ls : List BriefLine) → All (λ l. FitsIn (length objects) l.brief) ls → lines_in (objects ++ more) ls ≡ lines_in objects ls
lines_in-more objects more [] fit = refl
lines_in-more objects more (l ∷ ls) fit =
    let P : BriefLine → Type 0 = λ l. FitsIn (length objects) l.brief in
    let here = target_in-more objects more l.brief (All-head P l ls fit) in
    let rest = lines_in-more objects more ls (All-tail P l ls fit) in
    λ i. record { line = l.number; target = here i } ∷ rest i

-- one line more
pub lines_in-push : (old new : List ℕ) (ls longer : List BriefLine) (l : BriefLine) (t : Target) → IsBlock ls old → Grown old new → longer ≡ ls ++ l ∷ [] → target_in new l.brief ≡ t
    → lines_in new longer ≡ lines_in old ls ++ record { line = l.number; target = t } ∷ []
lines_in-push old new ls longer l t block grown pushed is =
    let at_new = ap (λ os. lines_in os ls) grown.1 ∙ lines_in-more old grown.0 ls block.fit in
    ap (lines_in new) pushed
    ∙ map-append (line_in new) ls (l ∷ [])
    ∙ (λ i. at_new i ++ record { line = l.number; target = is i } ∷ [])

pub block-push : (old new : List ℕ) (ls longer : List BriefLine) (l : BriefLine) → IsBlock ls old → Grown old new → length new ≤ length old + 8 → longer ≡ ls ++ l ∷ [] → FitsIn (length new) l.brief → IsBlock longer new
block-push old new ls longer l block grown len pushed fits =
    let size : length new ≡ length old + length grown.0 = ap length grown.1 ∙ length-append old grown.0 in
    let more : length old ≤ length new = omega (arith, size) in
    let each = All-weaker (λ l. FitsIn (length old) l.brief) (λ l. FitsIn (length new) l.brief) (λ l f. FitsIn-more (length old) (length new) more l.brief f) ls block.fit in
    let count : length longer ≡ length ls + 1 = ap length pushed ∙ length-append ls (l ∷ []) in
    record {
      fit = subst (All (λ l. FitsIn (length new) l.brief)) (sym pushed) (All-push (λ l. FitsIn (length new) l.brief) ls l each fits);
      few = omega (arith, block.few, len, count);
    }

-- with room made for it
pub pushed : (ls : List BriefLine) (old : List ℕ) (ls_then : List BriefLine) (then new : List ℕ) (longer : List BriefLine) (l : BriefLine) (line : ℕ) (b : Brief) (t : Target) (here : List ScriptLine) → here ≡ lines_in old ls → IsBlock ls old → ls_then ≡ ls → then ≡ old → Grown then new → longer ≡ ls_then ++ l ∷ [] → l.number ≡ line → l.brief ≡ b → target_in new b ≡ t
    → lines_in new longer ≡ here ++ record { line = line; target = t } ∷ []
pushed ls old ls_then then new longer l line b t here view block same_lines same grown behind number does is =
    let one = lines_in-push old new ls longer l t block (subst (λ os. Grown os new) same grown) (behind ∙ ap (λ ls. ls ++ l ∷ []) same_lines) (ap (target_in new) does ∙ is) in
    rw view (one ∙ (λ i. lines_in old ls ++ record { line = number i; target = t } ∷ []))
