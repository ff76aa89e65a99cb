-- How the steps that are still to be done become entries.
use Rattle.std.proofs.Common.{◌≡◌, ◌≢◌, ℕ, zero, suc, ◌+◌, ◌^◌, ◌<◌, ◌≤◌, true, false, List, [], ◌∷◌, ◌++◌, length, take, drop, get_or, map, refl, sym, ap, ◌∙◌, subst, inl, inr, arith, add-one, eq-eqb, append-nil, length-append}
use Rattle.std.specs.Prelude.{◌⊎◌, ◌==◌, Some, All, Contains, slice_get, decimal, filter}
use Rattle.std.proofs.lemmas.Bool.{ne_eqb, cases_eq}
use Rattle.std.proofs.lemmas.Option.{none-some, same_Some}
use Rattle.std.proofs.lemmas.List.{append_assoc, map-append, length-map, length-take-le, take_more, take_all}
use Rattle.std.proofs.lemmas.List.Elements.{filter-append, All-head, All-tail, All-cons, All-nil, All-append, All-weaker, All-contains}
use mathlib.Core.List.{IsPrefix}
use Rattle.jm_model.specs.Words.{Text}
use Rattle.jm_model.specs.declared.step.Entry.{Entry}
use Rattle.jm_model.specs.declared.step.Step.{Step}
use Rattle.jm_semantics.specs.Scripts.{steps_of, projection_of}
use Rattle.jm_script.specs.declared.script.ScriptLine.{ScriptLine}
use Rattle.jm_script.specs.Projections.{script_of}
use Rattle.jm_audit.specs.Allowed.{steps_on}
use Rattle.jm_semantics.proofs.ListLemmas.{Contains-head, Contains-cons}
use Rattle.std.proofs.lemmas.Fmt.{decimal_injective}
use Rattle.jm_print.proofs.Cutting.{cut, decimal-digits, digits-lack}
use Rattle.jm_audit.specs.Places.{AreAllDone}
use Rattle.jm_audit.specs.Pending.{pending_at, left_of, AreUnderway, IsFirstAt, IsMarkedBy, HasLeft, mark}
use Rattle.jm_audit.specs.declared.pending.Pending.{Pending}
use Rattle.jm_audit.proofs.PlaceLemmas.{steps_of-append, steps_of-here, steps_of-other}

-- texts that begin with the marks of two callers
same_caller : (m n : ℕ) (s t : Text) → m < 2 ^ 64 → n < 2 ^ 64 → decimal m ++ 58 ∷ s ≡ decimal n ++ 58 ∷ t → m ≡ n
same_caller m n s t here there e =
    let parts = cut 58 (decimal m) (decimal n) s t (digits-lack (decimal m) 58 (inr (omega arith)) (decimal-digits m)) (digits-lack (decimal n) 58 (inr (omega arith)) (decimal-digits n)) e in
    decimal_injective m n here there parts.0

-- ---- what is left of a caller
left-append : (k : ℕ) (a b : List Pending) → left_of k (a ++ b) ≡ left_of k a ++ left_of k b
left-append k a b =
    ap (map (λ (p : Pending). (p.line, p.step))) (filter-append (λ (p : Pending). p.caller == k) a b)
    ∙ map-append (λ (p : Pending). (p.line, p.step)) (filter (λ (p : Pending). p.caller == k) a) (filter (λ (p : Pending). p.caller == k) b)

left-here : (k : ℕ) (p : Pending) (b : List Pending) → p.caller ≡ k → left_of k (p ∷ b) ≡ (p.line, p.step) ∷ left_of k b
left-here k p b same = let test : (p.caller == k) ≡ true = eq-eqb p.caller k same in rw test refl

left-other : (k : ℕ) (p : Pending) (b : List Pending) → p.caller ≢ k → left_of k (p ∷ b) ≡ left_of k b
left-other k p b other = let test : (p.caller == k) ≡ false = ne_eqb p.caller k other in rw test refl

left-none : (k : ℕ) (a : List Pending) → All (λ q. q.caller ≢ k) a → left_of k a ≡ []
left-none k [] h = refl
left-none k (p ∷ a) h = left-other k p a (All-head (λ (q : Pending). q.caller ≢ k) p a h) ∙ left-none k a (All-tail (λ (q : Pending). q.caller ≢ k) p a h)

left-some : (k : ℕ) (a : List Pending) (s : ℕ × Step) (later : List (ℕ × Step)) → left_of k a ≡ s ∷ later → (p : Pending) × Contains a p × (p.caller ≡ k)
left-some k [] s later h = absurd (cc (h))
left-some k (p ∷ a) s later h = elim (cases_eq p.caller k) [
  | inl same ↦ (p, Contains-head p a, same)
  | inr other ↦
      let rest = left-some k a s later (sym (left-other k p a other) ∙ h) in
      (rest.0, Contains-cons p a rest.0 rest.1, rest.2)
]

-- ---- the steps of one caller more
left-mapped : (n : ℕ) (own : List (ℕ × Step)) → left_of n (map (pending_at n) own) ≡ own
left-mapped n [] = refl
left-mapped n (s ∷ own) = left-here n (pending_at n s) (map (pending_at n) own) refl ∙ ap (λ l. s ∷ l) (left-mapped n own)

left-mapped_other : (k n : ℕ) (own : List (ℕ × Step)) → n ≢ k → left_of k (map (pending_at n) own) ≡ []
left-mapped_other k n [] other = refl
left-mapped_other k n (s ∷ own) other = left-other k (pending_at n s) (map (pending_at n) own) other ∙ left-mapped_other k n own other

callers-mapped : (n m : ℕ) (own : List (ℕ × Step)) → n < m → All (λ p. p.caller < m) (map (pending_at n) own)
callers-mapped n m [] less = All-nil (λ (p : Pending). p.caller < m)
callers-mapped n m (s ∷ own) less = All-cons (λ (p : Pending). p.caller < m) (pending_at n s) (map (pending_at n) own) less (callers-mapped n m own less)

-- a list of one more: one of the others, or the last
one_more : (lists : List (List (ℕ × Step))) (own : List (ℕ × Step)) (k : ℕ) (o : List (ℕ × Step)) → slice_get (lists ++ own ∷ []) k ≡ Some o
    → ((k < length lists) × (slice_get lists k ≡ Some o)) ⊎ ((k ≡ length lists) × (own ≡ o))
one_more [] own zero o is = inr (refl, same_Some own o is)
one_more [] own (suc k) o is = absurd (none-some o is)
one_more (x ∷ lists) own zero o is = inl (omega arith, is)
one_more (x ∷ lists) own (suc k) o is = elim (one_more lists own k o is) [
  | inl other ↦ inl (omega (arith, other.0), other.1)
  | inr last ↦ inr (ap suc last.0, last.1)
]

none-left : (k n : ℕ) (pending : List Pending) → All (λ p. p.caller < n) pending → n ≤ k → left_of k pending ≡ []
none-left k n pending low less =
    left-none k pending (All-weaker (λ (p : Pending). p.caller < n) (λ (p : Pending). p.caller ≢ k) (λ p small e. absurd (omega (arith, small, e, less))) pending low)

pub underway_nil : AreUnderway [] [] []
underway_nil = record { callers = All-nil (λ (p : Pending). p.caller < 0); each = λ k own is. absurd (none-some own is) }

pub underway_more : (lists : List (List (ℕ × Step))) (own : List (ℕ × Step)) (pending : List Pending) → AreUnderway lists [] pending
    → AreUnderway (lists ++ own ∷ []) [] (pending ++ map (pending_at (length lists)) own)
underway_more lists own pending under =
    let n = length lists in
    let more = map (pending_at n) own in
    let longer : length (lists ++ own ∷ []) ≡ n + 1 = length-append lists (own ∷ []) in
    record {
      callers =
          subst (λ m. All (λ (p : Pending). p.caller < m) (pending ++ more)) (sym longer)
          (All-append (λ (p : Pending). p.caller < n + 1) pending more
          (All-weaker (λ (p : Pending). p.caller < n) (λ (p : Pending). p.caller < n + 1) (λ p small. omega (arith, small)) pending under.callers)
          (callers-mapped n (n + 1) own (omega arith)));
      each = λ k o is. elim (one_more lists own k o is) [
        | inl other ↦
            under.each k o other.1
            ∙ sym (left-append k pending more ∙ ap (λ l. left_of k pending ++ l) (left-mapped_other k n own (λ e. absurd (omega (arith, e, other.0)))) ∙ append-nil (left_of k pending))
        | inr last ↦
            sym (left-append k pending more ∙ ap (λ l. l ++ left_of k more) (none-left k n pending under.callers (omega (arith, last.0)))
            ∙ subst (λ j. left_of j more ≡ own) (sym last.0) (left-mapped n own) ∙ last.1)
      ];
    }

-- the steps of the scripts, script by script
steps_more : (scripts : List (List ScriptLine)) (number k : ℕ) (script : List ScriptLine) → k < length scripts → script ≡ get_or scripts k script
    → steps_on (take (k + 1) scripts) number ≡ steps_on (take k scripts) number ++ projection_of (script_of script) number ∷ []
steps_more scripts number k script less is =
    let own = λ (s : List ScriptLine). projection_of (script_of s) number in
    ap (map own) (take_more scripts k script less ∙ ap (λ s. take k scripts ++ s ∷ []) (sym is)) ∙ map-append own (take k scripts) (script ∷ [])

pub pending_more : (scripts : List (List ScriptLine)) (number k : ℕ) (script : List ScriptLine) (before after : List Pending) → k < length scripts → script ≡ get_or scripts k script
    → AreUnderway (steps_on (take k scripts) number) [] before → after ≡ before ++ map (pending_at k) (projection_of (script_of script) number)
    → AreUnderway (steps_on (take (k + 1) scripts) number) [] after
pending_more scripts number k script before after less is under made =
    let own = projection_of (script_of script) number in
    let many : length (steps_on (take k scripts) number) ≡ k = length-map (take k scripts) _ ∙ length-take-le k scripts (omega (arith, less)) in
    subst (λ ps. AreUnderway (steps_on (take (k + 1) scripts) number) [] ps) (sym made)
    (subst (λ ls. AreUnderway ls [] (before ++ map (pending_at k) own)) (sym (steps_more scripts number k script less is))
    (subst (λ n. AreUnderway (steps_on (take k scripts) number ++ own ∷ []) [] (before ++ map (pending_at n) own)) many
    (underway_more (steps_on (take k scripts) number) own before under)))

pub pending_whole : (scripts : List (List ScriptLine)) (number k : ℕ) (pending : List Pending) → length scripts ≤ k → AreUnderway (steps_on (take k scripts) number) [] pending
    → AreUnderway (steps_on scripts number) [] pending
pending_whole scripts number k pending all under = subst (λ ss. AreUnderway (steps_on ss number) [] pending) (take_all k scripts all) under

-- ---- one step is taken out
pub list_at : (lists : List (List (ℕ × Step))) (k : ℕ) → k < length lists → (own : List (ℕ × Step)) × (slice_get lists k ≡ Some own)
list_at [] k less = absurd (omega (arith, less))
list_at (own ∷ lists) zero less = (own, refl)
list_at (own ∷ lists) (suc k) less = list_at lists k (omega (arith, less))

take-front : {X : Type 0} (a b : List X) → take (length a) (a ++ b) ≡ a
take-front [] [] = refl
take-front [] (y ∷ b) = refl
take-front (x ∷ a) b = ap (λ l. x ∷ l) (take-front a b)

drop-front : {X : Type 0} (a : List X) (x : X) (b : List X) → drop (suc (length a)) (a ++ x ∷ b) ≡ b
drop-front [] x b = refl
drop-front (y ∷ a) x b = drop-front a x b

module _ (pending : List Pending) (place : ℕ) (p : Pending) (first : IsFirstAt pending place p) where
  pub there : Contains pending p
  there = subst (λ l. Contains l p) (sym first.is) (behind first.front)
    where
      behind : (a : List Pending) → Contains (a ++ p ∷ first.back) p
      behind [] = Contains-head p first.back
      behind (q ∷ a) = Contains-cons q (a ++ p ∷ first.back) p (behind a)

  parts : take place pending ++ drop (place + 1) pending ≡ first.front ++ first.back
  parts =
      (λ i. take (first.at i) (first.is i) ++ drop (first.at i + 1) (first.is i))
      ∙ ap (λ l. l ++ drop (length first.front + 1) (first.front ++ p ∷ first.back)) (take-front first.front (p ∷ first.back))
      ∙ ap (λ l. first.front ++ l) (ap (λ n. drop n (first.front ++ p ∷ first.back)) (add-one (length first.front)) ∙ drop-front first.front p first.back)

  -- what holds of all steps holds of those that stay
  pub without : (P : Pending → Type 0) → All P pending → All P (take place pending ++ drop (place + 1) pending)
  without P all = subst (All P) (sym parts) (halves first.front (subst (All P) first.is all))
    where
      halves : (a : List Pending) → All P (a ++ p ∷ first.back) → All P (a ++ first.back)
      halves [] all' = All-tail P p first.back all'
      halves (q ∷ a) all' = All-cons P q (a ++ first.back) (All-head P q (a ++ p ∷ first.back) all') (halves a (All-tail P q (a ++ p ∷ first.back) all'))

module _ (lists : List (List (ℕ × Step))) (h : List Entry) (pending : List Pending) (under : AreUnderway lists h pending) where
  pub all_done : pending ≡ [] → AreAllDone lists h
  all_done none k own is = under.each k own is ∙ ap (λ l. steps_of k h ++ left_of k l) none ∙ append-nil (steps_of k h)

  module _ (place : ℕ) (p : Pending) (first : IsFirstAt pending place p) where
    listed : p.caller < length lists
    listed = All-contains (λ (q : Pending). q.caller < length lists) pending p under.callers (there pending place p first)

    own_list : (own : List (ℕ × Step)) × (slice_get lists p.caller ≡ Some own)
    own_list = list_at lists p.caller listed

    mine : left_of p.caller pending ≡ (p.line, p.step) ∷ left_of p.caller first.back
    mine =
        ap (left_of p.caller) first.is ∙ left-append p.caller first.front (p ∷ first.back)
        ∙ ap (λ l. l ++ left_of p.caller (p ∷ first.back)) (left-none p.caller first.front first.first)
        ∙ left-here p.caller p first.back refl

    -- the first step of its caller that isn't done
    pub is_first : slice_get lists p.caller ≡ Some (steps_of p.caller h ++ (p.line, p.step) ∷ left_of p.caller first.back)
    is_first = own_list.1 ∙ ap Some (under.each p.caller own_list.0 own_list.1 ∙ ap (λ l. steps_of p.caller h ++ l) mine)

    pub has_left : HasLeft lists h p.caller
    has_left = record { step = (p.line, p.step); later = left_of p.caller first.back; is = is_first }

    -- only its caller's lines can be what the text goes on with
    pub chosen : length lists < 2 ^ 64 → (r : Text) → IsMarkedBy (Some r) pending p.caller → (j : ℕ) → HasLeft lists h j → IsPrefix (mark j) r → j ≡ p.caller
    chosen few r marked j left front =
        let own = under.each j (steps_of j h ++ left.step ∷ left.later) left.is in
        let rest : left_of j pending ≡ left.step ∷ left.later = sym (behind (steps_of j h) (left.step ∷ left.later) (left_of j pending) own) in
        let q = left-some j pending left.step left.later rest in
        let low : j < length lists = subst (λ c. c < length lists) q.2 (All-contains (λ (x : Pending). x.caller < length lists) pending q.0 under.callers q.1) in
        elim marked [
          | inl mark' ↦
              let same : decimal j ++ 58 ∷ front.0 ≡ decimal p.caller ++ 58 ∷ mark'.0 =
              sym (append_assoc (decimal j) (58 ∷ []) front.0) ∙ front.1 ∙ sym mark'.1 ∙ append_assoc (decimal p.caller) (58 ∷ []) mark'.0 in
              same_caller j p.caller front.0 mark'.0 (omega (arith, low, few)) (omega (arith, listed, few)) same
          | inr none ↦ absurd (none q.0 q.1 (subst (λ c. IsPrefix (mark c) r) (sym q.2) front))
        ]
      where
        behind : {X : Type 0} (a q r' : List X) → a ++ q ≡ a ++ r' → q ≡ r'
        behind [] q r' e = e
        behind (x ∷ a) q r' e =
            let tail : a ++ q ≡ a ++ r' = cc (e) in
            behind a q r' tail

    -- what is left of the others when it is an entry
    pub taken_out : (x : Entry) → x.caller ≡ p.caller → x.line ≡ p.line → x.step ≡ p.step → AreUnderway lists (h ++ x ∷ []) (take place pending ++ drop (place + 1) pending)
    taken_out x caller line step = record {
      callers = without pending place p first (λ (q : Pending). q.caller < length lists) under.callers;
      each = λ k own is.
          under.each k own is ∙ ap (λ l. steps_of k h ++ left_of k l) first.is ∙ moved k (cases_eq p.caller k)
          ∙ ap (λ l. steps_of k (h ++ x ∷ []) ++ left_of k l) (sym (parts pending place p first));
    }
      where
        moved : (k : ℕ) → (p.caller ≡ k) ⊎ (p.caller ≢ k) → steps_of k h ++ left_of k (first.front ++ p ∷ first.back) ≡ steps_of k (h ++ x ∷ []) ++ left_of k (first.front ++ first.back)
        moved k (inl same) =
            let front : left_of k first.front ≡ [] = left-none k first.front (subst (λ c. All (λ (q : Pending). q.caller ≢ c) first.front) same first.first) in
            ap (λ l. steps_of k h ++ l) (left-append k first.front (p ∷ first.back) ∙ ap (λ l. l ++ left_of k (p ∷ first.back)) front ∙ left-here k p first.back same)
            ∙ sym (append_assoc (steps_of k h) ((p.line, p.step) ∷ []) (left_of k first.back))
            ∙ (λ i. (steps_of k h ++ (sym line i, sym step i) ∷ []) ++ left_of k first.back)
            ∙ ap (λ l. (steps_of k h ++ l) ++ left_of k first.back) (sym (steps_of-here k x [] (caller ∙ same)))
            ∙ ap (λ l. l ++ left_of k first.back) (sym (steps_of-append k h (x ∷ [])))
            ∙ ap (λ l. steps_of k (h ++ x ∷ []) ++ l) (sym (left-append k first.front first.back ∙ ap (λ l. l ++ left_of k first.back) front))
        moved k (inr other) =
            ap (λ l. steps_of k h ++ l) (left-append k first.front (p ∷ first.back) ∙ ap (λ l. left_of k first.front ++ l) (left-other k p first.back other) ∙ sym (left-append k first.front first.back))
            ∙ ap (λ l. l ++ left_of k (first.front ++ first.back))
            (sym (steps_of-append k h (x ∷ []) ∙ ap (λ l. steps_of k h ++ l) (steps_of-other k x [] (λ e. other (sym caller ∙ e))) ∙ append-nil (steps_of k h)))
