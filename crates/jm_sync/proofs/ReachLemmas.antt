-- Fronts, and the lines above them.
use Rattle.std.proofs.Common.{◌≡◌, ℕ, zero, suc, ◌+◌, ◌-◌, ◌<◌, ◌≤◌, ◌⊎◌, inl, inr, Bool, true, false, ◌||◌, cond, List, [], ◌∷◌, ◌++◌, length, get_or, Option, Some, None, Result, Ok, Err, refl, sym, ap, ◌∙◌, ⊎_elim, arith}
use Rattle.std.specs.Prelude.{nat_eq, slice_get, slice_index, option_and_then, IfErr, OnOk}
use Rattle.std.proofs.Math.ListN.{set, length-set}
use Rattle.std.proofs.lemmas.Bool.{cases_lt, cases_eq}
use Rattle.std.proofs.lemmas.Bool.Decides.{nat_tests}
use Rattle.std.proofs.lemmas.List.{get_or-set_same, get_or-set_other}
use Rattle.std.proofs.lemmas.Option.{none-some, same_Some, get_or_from_slice_get, slice_get_read, slice_get_within}
use Rattle.jm_sync.specs.declared.line.SyncKind.{SyncKind}
use Rattle.jm_sync.specs.declared.line.SyncKind.TheVariants.{Post, Wait}
use Rattle.jm_sync.specs.declared.line.SyncLine.{SyncLine}
use Rattle.jm_sync.specs.declared.error.SyncError.{SyncError}
use Rattle.jm_sync.specs.declared.error.SyncError.TheVariants.{Bad, NoMemory}
use Rattle.jm_sync.specs.Names.{is_among, with_number}
use Rattle.jm_sync.specs.Checks.{line_at, Reachable, at_post, at_wait, AreReachable}
use Rattle.jm_sync.specs.Walks.{posted_past, IsOpen, CanPass, HasReached, IsAtEnd, IsFrontError, IsReachError}

-- how many lines stand after the fronts
abbrev pub lines_left : List (List SyncLine) → List ℕ → ℕ
lines_left [] fronts = 0
lines_left (lines ∷ scripts) [] = 0
lines_left (lines ∷ scripts) (front ∷ fronts) = (length lines - front) + lines_left scripts fronts

-- ---- the line at a place

there_from : (scripts : List (List SyncLine)) (k i : ℕ) (lines : List SyncLine) (l : SyncLine) → slice_get scripts k ≡ Some lines → slice_get lines i ≡ Some l → line_at scripts k i ≡ Some l
there_from scripts k i lines l here at = ap (option_and_then (λ (ls : List SyncLine). slice_get ls i)) here ∙ at

-- a line stands in its script
record StandsIn (scripts : List (List SyncLine)) (k i : ℕ) (l : SyncLine) : Type 0 where
  lines : List SyncLine
  here : slice_get scripts k ≡ Some lines
  at : slice_get lines i ≡ Some l

stands : (scripts : List (List SyncLine)) (k i : ℕ) (l : SyncLine) → line_at scripts k i ≡ Some l → StandsIn scripts k i l
stands scripts k i l there = by_case (slice_get scripts k) refl
  where
    by_case : (o : Option (List SyncLine)) → slice_get scripts k ≡ o → StandsIn scripts k i l
    by_case None e = absurd (none-some l (sym (ap (option_and_then (λ (ls : List SyncLine). slice_get ls i)) e) ∙ there))
    by_case (Some lines) e = record { lines = lines; here = e; at = sym (ap (option_and_then (λ (ls : List SyncLine). slice_get ls i)) e) ∙ there }

-- ---- numbers of names

or_left : (a b : Bool) → a ≡ true → (a || b) ≡ true
or_left true b e = refl
or_left false b e = cc

or_right : (a b : Bool) → b ≡ true → (a || b) ≡ true
or_right true b e = refl
or_right false b e = e

or_cases : (a b : Bool) → (a || b) ≡ true → (a ≡ true) ⊎ (b ≡ true)
or_cases true b e = inl refl
or_cases false b e = inr e

same_number : (a b : ℕ) → nat_eq a b ≡ true → b ≡ a
same_number a b e = grind (arith, nat_tests)

itself : (a : ℕ) → nat_eq a a ≡ true
itself a = grind (arith, nat_tests)

among_push_old : (numbers : List ℕ) (x name : ℕ) → is_among numbers name ≡ true → is_among (numbers ++ x ∷ []) name ≡ true
among_push_old [] x name e = cc
among_push_old (y ∷ numbers) x name e =
    ⊎_elim (λ here. or_left (nat_eq name y) _ here) (λ later. or_right (nat_eq name y) _ (among_push_old numbers x name later)) (or_cases (nat_eq name y) _ e)

among_push_new : (numbers : List ℕ) (x : ℕ) → is_among (numbers ++ x ∷ []) x ≡ true
among_push_new [] x = or_left (nat_eq x x) false (itself x)
among_push_new (y ∷ numbers) x = or_right (nat_eq x y) _ (among_push_new numbers x)

among_push_cases : (numbers : List ℕ) (x name : ℕ) → is_among (numbers ++ x ∷ []) name ≡ true → (is_among numbers name ≡ true) ⊎ (x ≡ name)
among_push_cases [] x name e = ⊎_elim (λ here. inr (same_number name x here)) (λ later. inl later) (or_cases (nat_eq name x) false e)
among_push_cases (y ∷ numbers) x name e =
    ⊎_elim (λ here. inl (or_left (nat_eq name y) _ here))
    (λ later. ⊎_elim (λ old. inl (or_right (nat_eq name y) _ old)) (λ new. inr new) (among_push_cases numbers x name later))
    (or_cases (nat_eq name y) _ e)

-- a number that is added is there, and those that were there stay
added_old : (numbers : List ℕ) (x name : ℕ) → is_among numbers name ≡ true → is_among (with_number numbers x) name ≡ true
added_old numbers x name e = by_case (is_among numbers x)
  where
    by_case : (b : Bool) → is_among (cond b numbers (numbers ++ x ∷ [])) name ≡ true
    by_case true = e
    by_case false = among_push_old numbers x name e

added_new : (numbers : List ℕ) (x : ℕ) → is_among (with_number numbers x) x ≡ true
added_new numbers x = by_case (is_among numbers x) refl
  where
    by_case : (b : Bool) → is_among numbers x ≡ b → is_among (cond b numbers (numbers ++ x ∷ [])) x ≡ true
    by_case true e = e
    by_case false e = among_push_new numbers x

added_cases : (numbers : List ℕ) (x name : ℕ) → is_among (with_number numbers x) name ≡ true → (is_among numbers name ≡ true) ⊎ (x ≡ name)
added_cases numbers x name e = by_case (is_among numbers x) e
  where
    by_case : (b : Bool) → is_among (cond b numbers (numbers ++ x ∷ [])) name ≡ true → (is_among numbers name ≡ true) ⊎ (x ≡ name)
    by_case true e = inl e
    by_case false e = among_push_cases numbers x name e

past_old : (numbers : List ℕ) (kind : SyncKind) (x name : ℕ) → is_among numbers name ≡ true → is_among (posted_past numbers kind x) name ≡ true
past_old numbers Post x name e = added_old numbers x name e
past_old numbers Wait x name e = e

past_new : (numbers : List ℕ) (kind : SyncKind) (x : ℕ) → kind ≡ Post → is_among (posted_past numbers kind x) x ≡ true
past_new numbers Post x e = added_new numbers x
past_new numbers Wait x e = cc

past_cases : (numbers : List ℕ) (kind : SyncKind) (x name : ℕ) → is_among (posted_past numbers kind x) name ≡ true → (is_among numbers name ≡ true) ⊎ ((kind ≡ Post) × (x ≡ name))
past_cases numbers Post x name e = ⊎_elim (λ old. inl old) (λ new. inr (refl, new)) (added_cases numbers x name e)
past_cases numbers Wait x name e = inl e

-- ---- a front passes its line

-- a front after one line more leaves fewer lines
pub fewer_left : (scripts : List (List SyncLine)) (fronts : List ℕ) (k : ℕ) (lines : List SyncLine) → slice_get scripts k ≡ Some lines → k < length fronts → get_or fronts k 0 < length lines → lines_left scripts (set fronts k (get_or fronts k 0 + 1)) < lines_left scripts fronts
fewer_left [] fronts k lines here inside room = absurd (none-some lines here)
fewer_left (x ∷ scripts) [] k lines here inside room = absurd (omega arith)
fewer_left (x ∷ scripts) (f ∷ fronts) zero lines here inside room =
    let same : length x ≡ length lines = ap length (same_Some x lines here) in
    omega (arith, same, room)
fewer_left (x ∷ scripts) (f ∷ fronts) (suc k) lines here inside room =
    omega (arith, fewer_left scripts fronts k lines here (omega arith) room)

module _ (scripts : List (List SyncLine)) (fronts posted : List ℕ) (before : HasReached scripts fronts posted) (k : ℕ) (inside : k < length scripts) (passes : CanPass scripts fronts posted k) where
  there : line_at scripts k (slice_index fronts k) ≡ Some passes.passes.line
  there = there_from scripts k (slice_index fronts k) passes.lines passes.passes.line passes.here passes.passes.there

  -- its line can be come to
  front_reached : Reachable scripts k (slice_index fronts k)
  front_reached = by_kind passes.passes.line.kind refl
    where
      by_kind : (kind : SyncKind) → passes.passes.line.kind ≡ kind → Reachable scripts k (slice_index fronts k)
      by_kind Post e = at_post k (slice_index fronts k) passes.passes.line there e (before.reached k)
      by_kind Wait e =
          let post = before.sound passes.passes.line.name (passes.passes.named e) in
          at_wait k (slice_index fronts k) passes.passes.line there e (before.reached k) post.script post.place post.line post.there post.posts post.named post.reached

  pub left_less : lines_left scripts (set fronts k (slice_index fronts k + 1)) < lines_left scripts fronts
  left_less = fewer_left scripts fronts k passes.lines passes.here (omega (arith, before.counted)) (slice_get_within passes.lines (slice_index fronts k) passes.passes.line passes.passes.there)

  -- a line above the new fronts is above the old ones, or it is the one that was passed
  above_cases : (j i : ℕ) → i < slice_index (set fronts k (slice_index fronts k + 1)) j → (i < slice_index fronts j) ⊎ ((j ≡ k) × (i ≡ slice_index fronts k))
  above_cases j i lt = ⊎_elim same other (cases_eq j k)
    where
      same : j ≡ k → (i < slice_index fronts j) ⊎ ((j ≡ k) × (i ≡ slice_index fronts k))
      same e =
          let now : i < slice_index fronts k + 1 = rw (e, get_or-set_same fronts k (slice_index fronts k + 1) 0 (omega (arith, before.counted))) at lt in
          ⊎_elim (λ less. inl (rw e less)) (λ least. inr (e, omega (arith, now, least))) (cases_lt i (slice_index fronts k))

      other : (j ≡ k → ⊥) → (i < slice_index fronts j) ⊎ ((j ≡ k) × (i ≡ slice_index fronts k))
      other apart = inl (rw (get_or-set_other fronts k j (slice_index fronts k + 1) 0 apart) at lt)

  pub passed : (then : List ℕ) → then ≡ posted_past posted passes.passes.line.kind passes.passes.line.name → HasReached scripts (set fronts k (slice_index fronts k + 1)) then
  passed then then_is = record {
    counted = length-set fronts k (slice_index fronts k + 1) ∙ before.counted;
    reached = λ j i lt. ⊎_elim (λ old. before.reached j i old) (λ new. rw (new.0, new.1) front_reached) (above_cases j i lt);
    sound = λ name h. ⊎_elim (before.sound name) (λ new. record { script = k; place = slice_index fronts k; line = passes.passes.line; there = there; posts = new.0; named = new.1; reached = front_reached }) (past_cases posted passes.passes.line.kind passes.passes.line.name name (rw then_is at h));
    complete = λ j i l lt at post. rw then_is (⊎_elim
        (λ old. past_old posted passes.passes.line.kind passes.passes.line.name l.name (before.complete j i l old at post))
        (λ new.
        let same : passes.passes.line ≡ l = same_Some passes.passes.line l (sym there ∙ rw (new.0, new.1) at at) in
        rw (← ap (λ (m : SyncLine). m.name) same) (past_new posted passes.passes.line.kind passes.passes.line.name (ap (λ (m : SyncLine). m.kind) same ∙ post)))
        (above_cases j i lt));
  }

  -- a number that was read at a place of the fronts
  front_is : (n : ℕ) → n ≡ get_or fronts k n → slice_index fronts k ≡ n
  front_is n e =
      let within : k < length fronts = omega (arith, before.counted) in
      get_or_from_slice_get fronts k n 0 (slice_get_read fronts (length fronts) k n refl within e)

  module _ (next : ℕ) (next_is : next ≡ get_or fronts k next) where
    pub left_less_then : lines_left scripts (set fronts k (next + 1)) < lines_left scripts fronts
    left_less_then = rw (front_is next next_is) at left_less

    pub passed_then : (front : ℕ) (lines : List SyncLine) (line : SyncLine) → front ≡ get_or fronts k front → slice_get scripts k ≡ Some lines → line ≡ get_or lines front line
        → (then : List ℕ) → then ≡ posted_past posted line.kind line.name → HasReached scripts (set fronts k (next + 1)) then
    passed_then front lines line front_at here line_at then then_is =
        let those : passes.lines ≡ lines = same_Some passes.lines lines (sym passes.here ∙ here) in
        let there_now : slice_get lines front ≡ Some passes.passes.line = rw (those, front_is front front_at) at passes.passes.there in
        let same : passes.passes.line ≡ line = same_Some passes.passes.line line (sym there_now ∙ slice_get_read lines (length lines) front line refl (slice_get_within lines front passes.passes.line there_now) line_at) in
        rw (front_is next next_is) at (passed then (then_is ∙ ap (λ (l : SyncLine). posted_past posted l.kind l.name) (sym same)))

-- ---- no front can pass its line

-- a line that was found closed
pub closed : (r : Bool) (lines same : List SyncLine) (front : ℕ) (posted : List ℕ) → same ≡ lines → (IsOpen same front posted → r ≡ true) → r ≡ false → IsOpen lines front posted → ⊥
closed r lines same front posted e to shut o = let yes : r ≡ true = to (rw e o) in cc

pub none_more : (scripts : List (List SyncLine)) (fronts posted : List ℕ) (k : ℕ) (lines : List SyncLine) → slice_get scripts k ≡ Some lines → ((j : ℕ) → j < k → CanPass scripts fronts posted j → ⊥) → (IsOpen lines (slice_index fronts k) posted → ⊥) → (j : ℕ) → j < k + 1 → CanPass scripts fronts posted j → ⊥
none_more scripts fronts posted k lines here before closed j lt passes = ⊎_elim (λ less. before j less passes) last (cases_lt j k)
  where
    last : k ≤ j → ⊥
    last le =
        let same : j ≡ k = omega (arith, lt, le) in
        let those : passes.lines ≡ lines = same_Some passes.lines lines (sym passes.here ∙ ap (slice_get scripts) same ∙ here) in
        closed (rw (← those, ← same) passes.passes)

-- a script that isn't there passes nothing
pub none_past : (scripts : List (List SyncLine)) (fronts posted : List ℕ) (k : ℕ) → length scripts ≤ k → ((j : ℕ) → j < k → CanPass scripts fronts posted j → ⊥) → (j : ℕ) → CanPass scripts fronts posted j → ⊥
none_past scripts fronts posted k all before j passes =
    let inside : j < length scripts = slice_get_within scripts j passes.lines passes.here in
    before j (omega (arith, inside, all)) passes

module _ (scripts : List (List SyncLine)) (fronts posted : List ℕ) (before : HasReached scripts fronts posted) (none : (k : ℕ) → CanPass scripts fronts posted k → ⊥) where
  apart : Post ≡ Wait → ⊥
  apart e = cc

  -- then no front stands at a line that posts, or waits for a name that is posted
  stays : (k : ℕ) (l : SyncLine) → line_at scripts k (slice_index fronts k) ≡ Some l → (l.kind ≡ Wait → is_among posted l.name ≡ true) → ⊥
  stays k l there named =
      let s = stands scripts k (slice_index fronts k) l there in
      none k (record { lines = s.lines; here = s.here; passes = record { line = l; there = s.at; named = named } })

  -- and each line that can be come to stands above its front
  below : (k i : ℕ) → Reachable scripts k i → i < slice_index fronts k
  below _ _ (at_post k i l at post above) =
      ⊎_elim (λ lt. lt)
      (λ le. absurd (⊎_elim
      (λ lt. omega (arith, below k (slice_index fronts k) (above (slice_index fronts k) lt)))
      (λ ge. let same : i ≡ slice_index fronts k = omega (arith, le, ge) in stays k l (rw same at at) (λ wait. absurd (apart (sym post ∙ wait))))
      (cases_lt (slice_index fronts k) i)))
      (cases_lt i (slice_index fronts k))
  below _ _ (at_wait k i l at wait above m n p p_at p_posts p_named reached) =
      ⊎_elim (λ lt. lt)
      (λ le. absurd (⊎_elim
      (λ lt. omega (arith, below k (slice_index fronts k) (above (slice_index fronts k) lt)))
      (λ ge. let same : i ≡ slice_index fronts k = omega (arith, le, ge) in
      stays k l (rw same at at) (λ _. rw p_named at (before.complete m n p (below m n reached) p_at p_posts)))
      (cases_lt (slice_index fronts k) i)))
      (cases_lt i (slice_index fronts k))

  -- a front at the end has all lines above it
  at_end : (k i : ℕ) (l : SyncLine) → IsAtEnd scripts fronts k → line_at scripts k i ≡ Some l → Reachable scripts k i
  at_end k i l end there =
      let s = stands scripts k i l there in
      before.reached k i (omega (arith, slice_get_within s.lines i l s.at, end s.lines s.here))

  pub all_reached : (r : Result Unit SyncError) → OnOk r ((k : ℕ) → IsAtEnd scripts fronts k) → OnOk r (AreReachable scripts)
  all_reached (Ok x) end = λ k i l there. at_end k i l (end k) there
  all_reached (Err e) end = tt

  pub some_stuck : (r : Result Unit SyncError) → IfErr r (IsFrontError scripts fronts) → IfErr r (IsReachError scripts)
  some_stuck (Ok x) h = tt
  some_stuck (Err NoMemory) h = tt
  some_stuck (Err (Bad k fault)) (number, is, first) = (
    number,
    is,
    record {
      place = slice_index fronts k;
      line = first.line;
      there = first.there;
      stuck = λ r. omega (arith, below k (slice_index fronts k) r);
      above = before.reached k;
      earlier = λ j i l lt there. at_end j i l (first.earlier j lt) there;
      numbered = first.numbered;
    },
  )
