-- What is wrong first with what scripts ask for is one.
use Rattle.std.proofs.Common.{◌≡◌, inl, inr, ℕ, zero, suc, ◌+◌, ◌<◌, false, List, [], ◌∷◌, ◌++◌, length, get_or, take, Some, slice_get, refl, sym, ap, subst, ◌∙◌, append_assoc, arith, length-append}
use Rattle.std.specs.Prelude.{Contains, nat_eq}
use Rattle.std.specs.List.{IsDistinct}
use Rattle.std.proofs.lemmas.Bool.{cases_order}
use Rattle.std.proofs.lemmas.Bool.Decides.{nat_tests}
use Rattle.std.proofs.lemmas.List.{get_or_append_left, get_or_at}
use Rattle.std.proofs.lemmas.List.Concat.{flat_map-append}
use Rattle.std.proofs.lemmas.Map.Keys.{apart_from_distinct}
use Rattle.std.proofs.lemmas.Option.{none-some, same_Some}
use Rattle.jm_model.specs.declared.fault.ScriptFault.{ScriptFault}
use Rattle.jm_model.specs.declared.fault.ScriptFault.TheVariants.{TooManyNotes, DuplicatePost, Stuck}
use Rattle.jm_sync.specs.declared.line.SyncKind.TheVariants.{Post}
use Rattle.jm_sync.specs.declared.line.SyncLine.{SyncLine}
use Rattle.jm_sync.specs.Checks.{all_lines, posted_by, posts_of, line_at, AreFew, ArePostedOnce, Reachable, StandsBehind, IsOneTooMany, IsSecondPost, IsFirstStuck, IsWrong}
use Rattle.jm_telling.proofs.FirstRefusals.{same_head, same_tail}

-- ---- places in lists

-- what stands at a place is one
one_at : {X : Type 0} (before others : List X) (x y : X) (behind rest : List X) → before ++ x ∷ behind ≡ others ++ y ∷ rest → length before ≡ length others → x ≡ y
one_at before others x y behind rest split same =
    sym (get_or_at before x behind x (length others) same) ∙ ap (λ v. get_or v (length others) x) split ∙ get_or_at others y rest x (length others) refl

-- what stands earlier stands before what stands later
stands_before : {X : Type 0} (before others : List X) (x y : X) (behind rest : List X) → before ++ x ∷ behind ≡ others ++ y ∷ rest → length before < length others → (more : List X) × (others ≡ before ++ x ∷ more)
stands_before [] [] x y behind rest split less = absurd (omega (arith, less))
stands_before [] (o ∷ others) x y behind rest split less = (others, ap (λ v. v ∷ others) (sym (same_head split)))
stands_before (b ∷ before) [] x y behind rest split less = absurd (omega (arith, less))
stands_before (b ∷ before) (o ∷ others) x y behind rest split less =
    let more = stands_before before others x y behind rest (same_tail split) (omega (arith, less)) in
    let back = sym (same_head split) in
    (more.0, λ i. back i ∷ more.1 i)

-- numbers without two of a kind
not_itself : (n : ℕ) → nat_eq n n ≡ false → ⊥
not_itself n e = grind (arith, nat_tests)

never_twice : (xs ys : List ℕ) (n : ℕ) → IsDistinct nat_eq (xs ++ n ∷ ys) → Contains xs n → ⊥
never_twice xs ys n once has =
    let first : get_or (xs ++ n ∷ ys) has.0 n ≡ n = get_or_append_left xs (n ∷ ys) n has.0 has.1 ∙ has.2 in
    let second : get_or (xs ++ n ∷ ys) (length xs) n ≡ n = get_or_at xs n ys n (length xs) refl in
    let apart = apart_from_distinct nat_eq (xs ++ n ∷ ys) has.0 (length xs) n once has.1 (omega (arith, length-append xs (n ∷ ys))) in
    not_itself n (subst (λ v. nat_eq v n ≡ false) first (subst (λ v. nat_eq (get_or (xs ++ n ∷ ys) has.0 n) v ≡ false) second apart))

-- ---- the lines of scripts

-- the lines of a script stand among all
split_lines : (scripts : List (List SyncLine)) (k : ℕ) (lines : List SyncLine) → slice_get scripts k ≡ Some lines → (rest : List SyncLine) × (all_lines scripts ≡ all_lines (take k scripts) ++ (lines ++ rest))
split_lines [] k lines at = absurd (none-some lines at)
split_lines (x ∷ scripts) zero lines at = (all_lines scripts, ap (λ v. v ++ all_lines scripts) (same_Some x lines at))
split_lines (x ∷ scripts) (suc k) lines at =
    let more = split_lines scripts k lines at in
    (more.0, ap (λ v. x ++ v) more.1 ∙ sym (append_assoc x (all_lines (take k scripts)) (lines ++ more.0)))

-- all lines: those before a line, the line, and what is after it
around : (scripts : List (List SyncLine)) (k : ℕ) (before : List SyncLine) (l : SyncLine) → StandsBehind scripts k before l → (behind : List SyncLine) × (all_lines scripts ≡ before ++ l ∷ behind)
around scripts k before l h =
    let more = split_lines scripts k (h.above ++ l ∷ h.below) h.there in (
      h.below ++ more.0,
      more.1
          ∙ ap (λ v. all_lines (take k scripts) ++ v) (append_assoc h.above (l ∷ h.below) more.0)
          ∙ sym (append_assoc (all_lines (take k scripts)) h.above (l ∷ (h.below ++ more.0)))
          ∙ ap (λ v. v ++ l ∷ (h.below ++ more.0)) (sym h.earlier),
    )

-- lines with as many lines before them are of one script
one_script : (scripts : List (List SyncLine)) (k n : ℕ) (above below others under : List SyncLine) (l m : SyncLine)
    → slice_get scripts k ≡ Some (above ++ l ∷ below) → slice_get scripts n ≡ Some (others ++ m ∷ under)
    → length (all_lines (take k scripts)) + length above ≡ length (all_lines (take n scripts)) + length others
    → k ≡ n
one_script [] k n above below others under l m here there same = absurd (none-some (above ++ l ∷ below) here)
one_script (x ∷ scripts) zero zero above below others under l m here there same = refl
one_script (x ∷ scripts) zero (suc n) above below others under l m here there same =
    let whole = same_Some x (above ++ l ∷ below) here in
    absurd (omega (arith, same, ap (λ v. length v) whole, length-append above (l ∷ below), length-append x (all_lines (take n scripts))))
one_script (x ∷ scripts) (suc k) zero above below others under l m here there same =
    let whole = same_Some x (others ++ m ∷ under) there in
    absurd (omega (arith, same, ap (λ v. length v) whole, length-append others (m ∷ under), length-append x (all_lines (take k scripts))))
one_script (x ∷ scripts) (suc k) (suc n) above below others under l m here there same =
    ap (λ v. suc v) (one_script scripts k n above below others under l m here there
    (omega (arith, same, length-append x (all_lines (take k scripts)), length-append x (all_lines (take n scripts)))))

-- and one line
one_line : (scripts : List (List SyncLine)) (k n : ℕ) (before others : List SyncLine) (l m : SyncLine) → StandsBehind scripts k before l → StandsBehind scripts n others m → length before ≡ length others → (k ≡ n) × (l ≡ m)
one_line scripts k n before others l m h g same =
    let first = around scripts k before l h in
    let second = around scripts n others m g in
    let place : length (all_lines (take k scripts)) + length h.above ≡ length (all_lines (take n scripts)) + length g.above =
    omega (arith, same, ap (λ v. length v) h.earlier, ap (λ v. length v) g.earlier, length-append (all_lines (take k scripts)) h.above, length-append (all_lines (take n scripts)) g.above) in
    (one_script scripts k n h.above h.below g.above g.below l m h.there g.there place, one_at before others l m first.0 second.0 (sym first.1 ∙ second.1) same)

-- ---- names that are posted twice

posts_around : (before behind : List SyncLine) (l : SyncLine) → l.kind ≡ Post → posts_of (before ++ l ∷ behind) ≡ posts_of before ++ l.name ∷ posts_of behind
posts_around before behind l posts =
    flat_map-append (λ (l : SyncLine). posted_by l.kind l.name) before (l ∷ behind) ∙ ap (λ kind. posts_of before ++ (posted_by kind l.name ++ posts_of behind)) posts

module _ (scripts : List (List SyncLine)) where
  not_few : (k number : ℕ) → IsOneTooMany scripts k number → AreFew scripts → ⊥
  not_few k number h few =
      let more = around scripts k h.before h.line h.stands in
      omega (arith, few, h.full, ap (λ v. length v) more.1, length-append h.before (h.line ∷ more.0))

  not_once : (k number : ℕ) → IsSecondPost scripts k number → ArePostedOnce scripts → ⊥
  not_once k number h once =
      let more = around scripts k h.before h.line h.stands in
      let all = ap posts_of more.1 ∙ posts_around h.before more.0 h.line h.posts in
      never_twice (posts_of h.before) (posts_of more.0) h.line.name (subst (λ v. IsDistinct nat_eq v) all once) h.again

  one_too_many : (k n number other : ℕ) → IsOneTooMany scripts k number → IsOneTooMany scripts n other → (k ≡ n) × (number ≡ other)
  one_too_many k n number other h g =
      let one = one_line scripts k n h.before g.before h.line g.line h.stands g.stands (h.full ∙ sym g.full) in
      (one.0, h.numbered ∙ ap (λ (l : SyncLine). l.line) one.1 ∙ sym g.numbered)

  -- a second post isn't after another
  not_behind : (k n number other : ℕ) (h : IsSecondPost scripts k number) (g : IsSecondPost scripts n other) → length h.before < length g.before → ⊥
  not_behind k n number other h g less =
      let first = around scripts k h.before h.line h.stands in
      let second = around scripts n g.before g.line g.stands in
      let more = stands_before h.before g.before h.line g.line first.0 second.0 (sym first.1 ∙ second.1) less in
      let all = ap posts_of more.1 ∙ posts_around h.before more.0 h.line h.posts in
      never_twice (posts_of h.before) (posts_of more.0) h.line.name (subst (λ v. IsDistinct nat_eq v) all g.first) h.again

  one_second : (k n number other : ℕ) → IsSecondPost scripts k number → IsSecondPost scripts n other → (k ≡ n) × (number ≡ other)
  one_second k n number other h g = elim (cases_order (length h.before) (length g.before)) [
    | inl same ↦
        let one = one_line scripts k n h.before g.before h.line g.line h.stands g.stands same in
        (one.0, h.numbered ∙ ap (λ (l : SyncLine). l.line) one.1 ∙ sym g.numbered)
    | inr apart ↦ elim apart [
      | inl less ↦ absurd (not_behind k n number other h g less)
      | inr less ↦ absurd (not_behind n k other number g h less)
    ]
  ]

  -- ---- lines that can't be come to

  -- none is in a script before that of the first, nor above it
  not_before : (k n number other : ℕ) (h : IsFirstStuck scripts k number) (g : IsFirstStuck scripts n other) → k < n → ⊥
  not_before k n number other h g less = h.stuck (g.earlier k h.place h.line less h.there)

  not_above : (k n number other : ℕ) (h : IsFirstStuck scripts k number) (g : IsFirstStuck scripts n other) → k ≡ n → h.place < g.place → ⊥
  not_above k n number other h g same less = h.stuck (subst (λ i. Reachable scripts i h.place) (sym same) (g.above h.place less))

  one_stuck_line : (k n number other : ℕ) (h : IsFirstStuck scripts k number) (g : IsFirstStuck scripts n other) → k ≡ n → number ≡ other
  one_stuck_line k n number other h g same = elim (cases_order h.place g.place) [
    | inl place ↦
        let line = same_Some h.line g.line (sym h.there ∙ (λ i. line_at scripts (same i) (place i)) ∙ g.there) in
        h.numbered ∙ ap (λ (l : SyncLine). l.line) line ∙ sym g.numbered
    | inr apart ↦ elim apart [
      | inl less ↦ absurd (not_above k n number other h g same less)
      | inr less ↦ absurd (not_above n k other number g h (sym same) less)
    ]
  ]

  one_stuck : (k n number other : ℕ) → IsFirstStuck scripts k number → IsFirstStuck scripts n other → (k ≡ n) × (number ≡ other)
  one_stuck k n number other h g = elim (cases_order k n) [
    | inl same ↦ (same, one_stuck_line k n number other h g same)
    | inr apart ↦ elim apart [
      | inl less ↦ absurd (not_before k n number other h g less)
      | inr less ↦ absurd (not_before n k other number g h less)
    ]
  ]

  -- ---- what is wrong

  -- the three ways in which scripts may be wrong
  data IsWrongSo : ℕ → ScriptFault → Type 0 where
    too_many : (k number : ℕ) → IsOneTooMany scripts k number → IsWrongSo k (TooManyNotes number)
    second : (k number : ℕ) → AreFew scripts → IsSecondPost scripts k number → IsWrongSo k (DuplicatePost number)
    stuck : (k number : ℕ) → AreFew scripts → ArePostedOnce scripts → IsFirstStuck scripts k number → IsWrongSo k (Stuck number)

  wrong_so : (k : ℕ) (fault : ScriptFault) → IsWrong scripts k fault → IsWrongSo k fault
  wrong_so k (TooManyNotes number) h = too_many k number h
  wrong_so k (DuplicatePost number) h = second k number h.0 h.1
  wrong_so k (Stuck number) h = stuck k number h.0 h.1 h.2
  wrong_so k _ h = absurd h

  one_so : (k n : ℕ) (fault other : ScriptFault) → IsWrongSo k fault → IsWrongSo n other → (k ≡ n) × (fault ≡ other)
  one_so _ _ _ _ (too_many k number h) (too_many n other g) = let one = one_too_many k n number other h g in (one.0, ap (λ v. TooManyNotes v) one.1)
  one_so _ _ _ _ (too_many k number h) (second n other few g) = absurd (not_few k number h few)
  one_so _ _ _ _ (too_many k number h) (stuck n other few once g) = absurd (not_few k number h few)
  one_so _ _ _ _ (second k number few h) (too_many n other g) = absurd (not_few n other g few)
  one_so _ _ _ _ (second k number few h) (second n other less g) = let one = one_second k n number other h g in (one.0, ap (λ v. DuplicatePost v) one.1)
  one_so _ _ _ _ (second k number few h) (stuck n other less once g) = absurd (not_once k number h once)
  one_so _ _ _ _ (stuck k number few once h) (too_many n other g) = absurd (not_few n other g few)
  one_so _ _ _ _ (stuck k number few once h) (second n other less g) = absurd (not_once n other g once)
  one_so _ _ _ _ (stuck k number few once h) (stuck n other less also g) = let one = one_stuck k n number other h g in (one.0, ap (λ v. Stuck v) one.1)

  pub one_wrong : (k n : ℕ) (fault other : ScriptFault) → IsWrong scripts k fault → IsWrong scripts n other → (k ≡ n) × (fault ≡ other)
  one_wrong k n fault other h g = one_so k n fault other (wrong_so k fault h) (wrong_so n other g)
