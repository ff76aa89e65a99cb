-- Scripts that can be done in the order that they ask for have no fault of that kind.
use Rattle.std.proofs.Common.{◌≡◌, ◌⊎◌, inl, inr, ⊎_elim, ℕ, zero, suc, ◌<◌, false, List, [], ◌∷◌, ◌++◌, length, get_or, take, None, Some, slice_get, refl, sym, ap, subst, ◌∙◌, append_assoc, arith, length-append}
use Rattle.std.specs.Prelude.{Contains, nat_eq}
use Rattle.std.specs.List.{IsDistinct}
use Rattle.std.proofs.lemmas.Bool.Decides.{nat_tests}
use Rattle.std.proofs.lemmas.List.Concat.{flat_map-append}
use Rattle.std.proofs.lemmas.List.Elements.{All-from_recursion, All-contains, Contains-append_right}
use Rattle.std.proofs.lemmas.Map.Keys.{IsDistinct-head, IsDistinct-tail}
use Rattle.std.proofs.lemmas.Option.{none-some, same_Some}
use Rattle.jm_model.specs.declared.fault.ScriptFault.{ScriptFault}
use Rattle.jm_model.specs.declared.fault.ScriptFault.TheVariants.{TooLong, BadLine, UnknownSpec, UnknownEvent, WrongCount, TooManyObjects, TooManyLines, TooManyNotes, DuplicatePost, Stuck}
use Rattle.jm_sync.specs.declared.line.SyncKind.TheVariants.{Post}
use Rattle.jm_sync.specs.declared.line.SyncLine.{SyncLine}
use Rattle.jm_inputs.specs.Inputs.{asked_behind, asked_by}
use Rattle.jm_sync.specs.Checks.{all_lines, posted_by, posts_of, line_at, AreSound, StandsBehind, IsSecondPost, IsWrong}

in_cons : {A : Type 0} (x y : A) (xs : List A) (k : ℕ) → k < length (x ∷ xs) → get_or (x ∷ xs) k y ≡ y → (x ≡ y) ⊎ Contains xs y
in_cons x y xs zero less e = inl e
in_cons x y xs (suc k) less e = inr (k, omega arith, e)

-- a list without two of a kind doesn't have what stands in it also before that
not_itself : (n : ℕ) → nat_eq n n ≡ false → ⊥
not_itself n e = grind (arith, nat_tests)

never_twice : (xs ys : List ℕ) (n : ℕ) → IsDistinct nat_eq (xs ++ n ∷ ys) → Contains xs n → ⊥
never_twice [] ys n apart has = omega (arith, has.1)
never_twice (x ∷ xs) ys n apart has =
    ⊎_elim
    (λ (same : x ≡ n).
    let others = All-from_recursion (λ y. nat_eq x y ≡ false) (xs ++ n ∷ ys) (IsDistinct-head nat_eq x (xs ++ n ∷ ys) apart) in
    let differs = All-contains (λ y. nat_eq x y ≡ false) (xs ++ n ∷ ys) n others (Contains-append_right xs (n ∷ ys) n (0, omega arith, refl)) in
    not_itself n (subst (λ y. nat_eq y n ≡ false) same differs))
    (λ (later : Contains xs n). never_twice xs ys n (IsDistinct-tail nat_eq x (xs ++ n ∷ ys) apart) later)
    (in_cons x n xs has.0 has.1 has.2)

-- the lines of a script stand among all
split_lines : (scripts : List (List SyncLine)) (k : ℕ) (lines : List SyncLine) → slice_get scripts k ≡ Some lines → (rest : List SyncLine) × (all_lines scripts ≡ all_lines (take k scripts) ++ (lines ++ rest))
split_lines [] k lines at = absurd (none-some lines at)
split_lines (x ∷ scripts) zero lines at = (all_lines scripts, ap (λ v. v ++ all_lines scripts) (same_Some x lines at))
split_lines (x ∷ scripts) (suc k) lines at =
    let more = split_lines scripts k lines at in
    (more.0, ap (λ v. x ++ v) more.1 ∙ sym (append_assoc x (all_lines (take k scripts)) (lines ++ more.0)))

-- all lines: those before a line, the line, and what is after it
around : (scripts : List (List SyncLine)) (k : ℕ) (before : List SyncLine) (l : SyncLine) → StandsBehind scripts k before l → (behind : List SyncLine) × (all_lines scripts ≡ before ++ l ∷ behind)
around scripts k before l h =
    let more = split_lines scripts k (h.above ++ l ∷ h.below) h.there in (
      h.below ++ more.0,
      more.1
          ∙ ap (λ v. all_lines (take k scripts) ++ v) (append_assoc h.above (l ∷ h.below) more.0)
          ∙ sym (append_assoc (all_lines (take k scripts)) h.above (l ∷ (h.below ++ more.0)))
          ∙ ap (λ v. v ++ l ∷ (h.below ++ more.0)) (sym h.earlier),
    )

posts_of-append : (a b : List SyncLine) → posts_of (a ++ b) ≡ posts_of a ++ posts_of b
posts_of-append a b = flat_map-append (λ (l : SyncLine). posted_by l.kind l.name) a b

posts_behind : (l : SyncLine) (behind : List SyncLine) → l.kind ≡ Post → posts_of (l ∷ behind) ≡ l.name ∷ posts_of behind
posts_behind l behind posts = ap (λ kind. posted_by kind l.name ++ posts_of behind) posts

once_only : (scripts : List (List SyncLine)) (k number : ℕ) → IsDistinct nat_eq (posts_of (all_lines scripts)) → IsSecondPost scripts k number → ⊥
once_only scripts k number once h =
    let more = around scripts k h.before h.line h.stands in
    let all : posts_of (all_lines scripts) ≡ posts_of h.before ++ h.line.name ∷ posts_of more.0 =
    ap posts_of more.1 ∙ posts_of-append h.before (h.line ∷ more.0) ∙ ap (λ v. posts_of h.before ++ v) (posts_behind h.line more.0 h.posts) in
    never_twice (posts_of h.before) (posts_of more.0) h.line.name (subst (λ v. IsDistinct nat_eq v) all once) h.again

pub sound_not_wrong : (scripts : List (List SyncLine)) (k : ℕ) (fault : ScriptFault) → AreSound scripts → IsWrong scripts k fault → ⊥
sound_not_wrong scripts k (TooManyNotes number) sound h =
    let more = around scripts k h.before h.line h.stands in
    omega (arith, sound.few, h.full, ap (λ v. length v) more.1, length-append h.before (h.line ∷ more.0))
sound_not_wrong scripts k (DuplicatePost number) sound h = once_only scripts k number sound.once h.1
sound_not_wrong scripts k (Stuck number) sound h = h.2.stuck (sound.reachable k h.2.place h.2.line h.2.there)
sound_not_wrong scripts k TooLong sound h = h
sound_not_wrong scripts k (BadLine number) sound h = h
sound_not_wrong scripts k (UnknownSpec number) sound h = h
sound_not_wrong scripts k (UnknownEvent number) sound h = h
sound_not_wrong scripts k (WrongCount number) sound h = h
sound_not_wrong scripts k (TooManyObjects number) sound h = h
sound_not_wrong scripts k (TooManyLines number) sound h = h

-- ---- scripts that may ask for nothing

no_lines : (names texts : List (List ℕ)) → all_lines (asked_behind false names texts) ≡ []
no_lines names [] = refl
no_lines names (text ∷ texts) = no_lines names texts

no_line_at : (names texts : List (List ℕ)) (k i : ℕ) → line_at (asked_behind false names texts) k i ≡ None
no_line_at names [] k i = refl
no_line_at names (text ∷ texts) zero i = refl
no_line_at names (text ∷ texts) (suc k) i = no_line_at names texts k i

none_stands : (texts : List (List ℕ)) (k : ℕ) (before : List SyncLine) (l : SyncLine) → StandsBehind (asked_by false texts) k before l → ⊥
none_stands texts k before l h =
    let more = around (asked_by false texts) k before l h in
    omega (arith, ap (λ v. length v) (no_lines [] texts), ap (λ v. length v) more.1, length-append before (l ∷ more.0))

-- nothing is wrong with what isn't asked for
pub unasked_not_wrong : (texts : List (List ℕ)) (k : ℕ) (fault : ScriptFault) → IsWrong (asked_by false texts) k fault → ⊥
unasked_not_wrong texts k (TooManyNotes number) h = none_stands texts k h.before h.line h.stands
unasked_not_wrong texts k (DuplicatePost number) h = none_stands texts k h.1.before h.1.line h.1.stands
unasked_not_wrong texts k (Stuck number) h = none-some h.2.line (sym (no_line_at [] texts k h.2.place) ∙ h.2.there)
unasked_not_wrong texts k TooLong h = h
unasked_not_wrong texts k (BadLine number) h = h
unasked_not_wrong texts k (UnknownSpec number) h = h
unasked_not_wrong texts k (UnknownEvent number) h = h
unasked_not_wrong texts k (WrongCount number) h = h
unasked_not_wrong texts k (TooManyObjects number) h = h
unasked_not_wrong texts k (TooManyLines number) h = h
