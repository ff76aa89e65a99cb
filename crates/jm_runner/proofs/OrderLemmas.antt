-- How notes keep the order that scripts ask for: what a seat has seen grows, by its own entries and by those of others.
use Rattle.std.proofs.Common.{◌≡◌, ℕ, ◌+◌, ◌≤◌, ◌⊎◌, inl, inr, ◌==◌, Bool, true, false, cond, List, [], ◌∷◌, ◌++◌, map, length, drop, refl, sym, ap, subst, ◌∙◌, ⊎_elim, arith, length-append}
use Rattle.std.specs.Prelude.{All}
use mathlib.Core.List.{IsPrefix}
use Rattle.std.proofs.lemmas.Bool.Decides.{nat_tests}
use Rattle.std.proofs.Math.Seq.{drop-append_seam}
use Rattle.std.proofs.lemmas.List.{drop-map, drop-drop, length-map, nil_from_length, same_from_push}
use Rattle.std.proofs.lemmas.List.Elements.{All-nil, All-cons, All-head, All-tail, All-drop, filter-append}
use Rattle.jm_model.specs.declared.step.Step.{Step}
use Rattle.jm_model.specs.declared.step.Entry.{Entry}
use Rattle.jm_core.specs.Replays.{line_and_step}
use Rattle.jm_turn.specs.Lists.{entries_by}
use Rattle.jm_turn.proofs.Prefixes.{entries_by-append, entries_by_own}
use Rattle.jm_dispatch.specs.Steps.{caller_of}
use Rattle.jm_runner.specs.Orders.{AreFrom, StandBefore, HasAbove, AreBehind}

-- ---- a longer list

pub above_longer : (k p : ℕ) (steps : List (ℕ × Step)) (list more : List Entry) → HasAbove k p steps list → HasAbove k p steps (list ++ more)
above_longer k p steps list more has =
    let n = length (entries_by caller_of k list) in
    let m = length (entries_by caller_of k more) in
    let longer : length (entries_by caller_of k (list ++ more)) ≡ n + m = ap length (filter-append (λ (x : Entry). x.caller == k) list more) ∙ length-append (entries_by caller_of k list) (entries_by caller_of k more) in
    record { left = rw (longer, ← drop-drop m n steps) (All-drop (λ (step : ℕ × Step). p ≤ step.0) m (drop n steps) has.left) }

-- ---- what isn't seen yet

-- what holds of the lines of steps holds of the lines of entries that have them
pub of_lines : (P : ℕ → Type 0) (list : List Entry) → All (λ (step : ℕ × Step). P step.0) (map line_and_step list) → All (λ (x : Entry). P x.line) list
of_lines P [] h = All-nil (λ (x : Entry). P x.line)
of_lines P (x ∷ list) h =
    All-cons (λ (x : Entry). P x.line) x list (All-head (λ (step : ℕ × Step). P step.0) (line_and_step x) (map line_and_step list) h)
    (of_lines P list (All-tail (λ (step : ℕ × Step). P step.0) (line_and_step x) (map line_and_step list) h))

differ : (a b : ℕ) → (a == b) ≡ false → a ≡ b → ⊥
differ a b apart e = grind (arith, nat_tests)

-- what holds of a caller's entries holds of each entry that is the caller's
pub of_own : (P : Entry → Type 0) (k : ℕ) (list : List Entry) → All P (entries_by caller_of k list) → All (λ (x : Entry). x.caller ≡ k → P x) list
of_own P k [] h = All-nil (λ (x : Entry). x.caller ≡ k → P x)
of_own P k (x ∷ list) h = by_case (x.caller == k) refl h (λ t. of_own P k list t)
  where
    by_case : (b : Bool) → (x.caller == k) ≡ b → All P (cond b (x ∷ entries_by caller_of k list) (entries_by caller_of k list)) → (All P (entries_by caller_of k list) → All (λ (y : Entry). y.caller ≡ k → P y) list) → All (λ (y : Entry). y.caller ≡ k → P y) (x ∷ list)
    by_case true e t rest = All-cons (λ (y : Entry). y.caller ≡ k → P y) x list (λ _. All-head P x (entries_by caller_of k list) t) (rest (All-tail P x (entries_by caller_of k list) t))
    by_case false e t rest = All-cons (λ (y : Entry). y.caller ≡ k → P y) x list (λ same. absurd (differ x.caller k e same)) (rest t)

-- the entries that a history has after a list, which has all from above line p, stand at lines from p on
pub left_are_from : (k p : ℕ) (steps : List (ℕ × Step)) (before behind : List Entry) → map line_and_step (entries_by caller_of k (before ++ behind)) ≡ steps → HasAbove k p steps before → AreFrom k p behind
left_are_from k p steps before behind own has =
    let parts = filter-append (λ (x : Entry). x.caller == k) before behind in
    let rest : drop (length (entries_by caller_of k before)) steps ≡ map line_and_step (entries_by caller_of k behind) =
    ap (drop (length (entries_by caller_of k before))) (sym own ∙ ap (map line_and_step) parts)
    ∙ drop-map line_and_step (length (entries_by caller_of k before)) (entries_by caller_of k before ++ entries_by caller_of k behind)
    ∙ ap (map line_and_step) (drop-append_seam (entries_by caller_of k before) (entries_by caller_of k behind)) in
    of_own (λ (x : Entry). p ≤ x.line) k behind (of_lines (λ n. p ≤ n) (entries_by caller_of k behind) (rw rest at has.left))

-- where each entry of caller j below line q stands after all that caller k has above line p, the history is in order
pub gives_order : (history : List Entry) (steps : List (ℕ × Step)) (k p j q : ℕ) → map line_and_step (entries_by caller_of k history) ≡ steps → AreBehind k p steps j q history → StandBefore k p j q history
gives_order history steps k p j q own behind before rest y e mine late =
    left_are_from k p steps before (y ∷ rest) (ap (λ h. map line_and_step (entries_by caller_of k h)) (sym e) ∙ own) (behind before rest y e mine late)

-- ---- a list that grows

-- an element of two lists, one after the other, stands in the first or in the second
parted : {A : Type 0} (before behind list more : List A) (y : A) → before ++ y ∷ behind ≡ list ++ more → ((t : List A) × (list ≡ before ++ y ∷ t)) ⊎ ((t : List A) × (before ≡ list ++ t) × (more ≡ t ++ y ∷ behind))
parted before behind [] more y e = inr (before, refl, sym e)
parted [] behind (x ∷ list) more y e = let same : x ≡ y = cc in inl (list, ap (λ z. z ∷ list) same)
parted (z ∷ before) behind (x ∷ list) more y e =
    let same : x ≡ z = cc in
    let rest : before ++ y ∷ behind ≡ list ++ more = cc in
    ⊎_elim
    (λ h. inl (h.0, ap (λ w. w ∷ list) same ∙ ap (λ l. z ∷ l) h.1))
    (λ h. inr (h.0, ap (λ l. z ∷ l) h.1 ∙ ap (λ w. w ∷ (list ++ h.0)) (sym same), h.2))
    (parted before behind list more y rest)

itself : (a b : ℕ) → a ≡ b → (a == b) ≡ true
itself a b e = grind (arith, nat_tests)

-- an entry of a caller is among the caller's
own_is_there : (j : ℕ) (before behind : List Entry) (y : Entry) → y.caller ≡ j → entries_by caller_of j (before ++ y ∷ behind) ≡ [] → ⊥
own_is_there j before behind y mine none =
    let parts = filter-append (λ (x : Entry). x.caller == j) before (y ∷ behind) in
    let here : entries_by caller_of j (y ∷ behind) ≡ y ∷ entries_by caller_of j behind = rw (itself y.caller j mine) refl in
    let long : length (entries_by caller_of j before) + length (entries_by caller_of j (y ∷ behind)) ≡ 0 = sym (length-append (entries_by caller_of j before) (entries_by caller_of j (y ∷ behind))) ∙ ap length (sym parts ∙ none) in
    omega (arith, ap length here, long)

-- entries of others change nothing
pub behind_more : (k p : ℕ) (steps : List (ℕ × Step)) (j q : ℕ) (list more : List Entry) → entries_by caller_of j more ≡ [] → AreBehind k p steps j q list → AreBehind k p steps j q (list ++ more)
behind_more k p steps j q list more others are before behind y e mine late =
    ⊎_elim
    (λ h. are before h.0 y h.1 mine late)
    (λ h. absurd (own_is_there j h.0 behind y mine (ap (entries_by caller_of j) (sym h.2) ∙ others)))
    (parted before behind list more y (sym e))

-- a turn: the list that was found has all from above line p, so the new entry stands after that
pub behind_turn : (k p : ℕ) (steps : List (ℕ × Step)) (j q : ℕ) (found : List Entry) (new : Entry) → HasAbove k p steps found → AreBehind k p steps j q found → AreBehind k p steps j q (found ++ new ∷ [])
behind_turn k p steps j q found new has are before behind y e mine late =
    ⊎_elim
    (λ h. are before h.0 y h.1 mine late)
    (λ h. rw h.1 (above_longer k p steps found h.0 has))
    (parted before behind found (new ∷ []) y (sym e))

at_middle : (P : Entry → Type 0) (before behind : List Entry) (y : Entry) → All P (before ++ y ∷ behind) → P y
at_middle P [] behind y h = All-head P y behind h
at_middle P (x ∷ before) behind y h = at_middle P before behind y (All-tail P x (before ++ y ∷ behind) h)

-- a caller that has done nothing below line q yet
pub behind_none : (k p : ℕ) (steps : List (ℕ × Step)) (j q : ℕ) (list : List Entry) → All (λ (x : Entry). x.caller ≡ j → x.line ≤ q) list → AreBehind k p steps j q list
behind_none k p steps j q list early before behind y e mine late =
    let low = at_middle (λ (x : Entry). x.caller ≡ j → x.line ≤ q) before behind y (rw e at early) mine in
    absurd (omega (arith, low, late))

-- ---- a post

-- a caller that has done exactly the steps above line p has all of them
pub has_done_above : (k p : ℕ) (done left : List (ℕ × Step)) (list : List Entry) → map line_and_step (entries_by caller_of k list) ≡ done → All (λ (step : ℕ × Step). p ≤ step.0) left → HasAbove k p (done ++ left) list
has_done_above k p done left list own later =
    let long : length (entries_by caller_of k list) ≡ length done = sym (length-map (entries_by caller_of k list) line_and_step) ∙ ap length own in
    record { left = rw (long, drop-append_seam done left) later }

-- ---- beginnings

pub above_later : (k p : ℕ) (steps : List (ℕ × Step)) (list later : List Entry) → IsPrefix list later → HasAbove k p steps list → HasAbove k p steps later
above_later k p steps list later begins has = subst (λ (l : List Entry). HasAbove k p steps l) begins.1 (above_longer k p steps list begins.0 has)

-- a list that goes on with entries of others alone
pub behind_later : (k p : ℕ) (steps : List (ℕ × Step)) (j q : ℕ) (list later : List Entry) → IsPrefix list later → entries_by caller_of j later ≡ entries_by caller_of j list → AreBehind k p steps j q list
    → AreBehind k p steps j q later
behind_later k p steps j q list later begins own are =
    let more = begins.0 in
    let parts : entries_by caller_of j later ≡ entries_by caller_of j list ++ entries_by caller_of j more = ap (entries_by caller_of j) (sym begins.1) ∙ entries_by-append caller_of j list more in
    let long = length-append (entries_by caller_of j list) (entries_by caller_of j more) in
    let none : entries_by caller_of j more ≡ [] = nil_from_length (entries_by caller_of j more) (omega (arith, ap length parts, ap length own, long)) in
    subst (λ (l : List Entry). AreBehind k p steps j q l) begins.1 (behind_more k p steps j q list more none are)

-- what a seat had seen, what its turn found, and its own entry after that
module _ (k p : ℕ) (steps : List (ℕ × Step)) (j q : ℕ) (seen found : List Entry) (new : Entry) (begins : IsPrefix seen found) (mine : new.caller ≡ j)
    (own : entries_by caller_of j (found ++ new ∷ []) ≡ entries_by caller_of j seen ++ new ∷ []) where
  found_own : entries_by caller_of j found ≡ entries_by caller_of j seen
  found_own = (same_from_push (entries_by caller_of j found) (entries_by caller_of j seen) new new (sym (entries_by_own caller_of j found new mine) ∙ own)).0

  pub above_after_turn : HasAbove k p steps seen → HasAbove k p steps (found ++ new ∷ [])
  above_after_turn has = above_longer k p steps found (new ∷ []) (above_later k p steps seen found begins has)

  pub behind_after_turn : HasAbove k p steps seen → AreBehind k p steps j q seen → AreBehind k p steps j q (found ++ new ∷ [])
  behind_after_turn has are = behind_turn k p steps j q found new (above_later k p steps seen found begins has) (behind_later k p steps j q seen found begins found_own are)
