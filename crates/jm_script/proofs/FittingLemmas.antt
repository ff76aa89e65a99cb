-- Targets fit the specifications and the names that there are.
use Rattle.std.proofs.Common.{◌≡◌, ℕ, suc, ◌<◌, ◌≤◌, Bool, true, false, cond, List, [], ◌∷◌, ◌++◌, map, filter, take, length, get_or, refl, sym, ap, ◌∙◌, subst, arith}
use Rattle.std.specs.Prelude.{All, ◌==◌, count_ones, Result, Ok, Err, IfOk}
use Rattle.std.proofs.lemmas.Bool.Decides.{nat_tests}
use Rattle.std.proofs.lemmas.List.Elements.{All-nil, All-cons, All-head, All-tail, All-weaker}
use Rattle.jm_model.specs.Bindings.{objects_of}
use Rattle.jm_events.specs.Names.{with_name}
use Rattle.jm_model.specs.declared.step.Step.{Step}
use Rattle.jm_semantics.specs.Scripts.{projection_of, is_for}
use Rattle.jm_script.specs.Projections.{script_of, spec_of, step_of, line_of}
use Rattle.jm_script.specs.Objects.{mentioned, number_at_mention, numbers_of}
use Rattle.jm_script.specs.Catalogs.{CatalogEntry}
use Rattle.jm_script.specs.Events.{spread}
use Rattle.jm_script.specs.Fitting.{HasEvent, FitsEvent, FitsTarget, FitsCatalog, FitsSpecification}
use Rattle.jm_script.specs.declared.event.NamedEvent.{NamedEvent}
use Rattle.jm_script.specs.declared.script.Target.{Target}
use Rattle.jm_script.specs.declared.script.Target.TheVariants.{Event, Death, Pass}
use Rattle.jm_script.specs.declared.script.ScriptLine.{ScriptLine}
use Rattle.jm_script.proofs.NameLemmas.{number_at_mention-below}
use Rattle.jm_script.proofs.SpreadLemmas.{length-spread, mask_of-spread, objects_of-spread}
use Rattle.jm_script.proofs.ObjectLemmas.{IsExtension-none, IsExtension-mentioned, length-IsExtension}

-- each number of a mention is one of a name
pub numbers_of-below : (names words : List (List ℕ)) → All (λ n. n < length (mentioned names words)) (numbers_of names words)
numbers_of-below names [] = All-nil (λ n. n < length names)
numbers_of-below names (word ∷ words) =
    let then = with_name names word in
    let more = length-IsExtension then (mentioned then words) (IsExtension-mentioned then then words (IsExtension-none then)) in
    let first : number_at_mention names word < length (mentioned then words) = omega (arith, more, number_at_mention-below names word) in
    All-cons (λ n. n < length (mentioned then words)) (number_at_mention names word) (numbers_of then words) first (numbers_of-below then words)

length-numbers_of : (names words : List (List ℕ)) → length (numbers_of names words) ≡ length words
length-numbers_of names [] = refl
length-numbers_of names (word ∷ words) = ap suc (length-numbers_of (with_name names word) words)

head_is : (x : ℕ) (numbers : List ℕ) → take 1 numbers ≡ x ∷ [] → get_or numbers 0 0 ≡ x
head_is x [] e = cc
head_is x (y ∷ numbers) e = cc

-- and so is that of a single word
pub first_below : (names words : List (List ℕ)) (numbers : List ℕ) (n : ℕ) → n ≡ length words → (n == 1) ≡ true → take n numbers ≡ numbers_of names words → get_or numbers 0 0 < length (mentioned names words)
first_below names [] numbers n e one here = absurd (not_one n e one)
  where
    not_one : (n : ℕ) → n ≡ 0 → (n == 1) ≡ true → ⊥
    not_one n e one = grind (arith, nat_tests)
first_below names (word ∷ []) numbers n e one here =
    let single : n ≡ 1 = e in
    let first = head_is (number_at_mention names word) numbers (rw single at here) in
    rw first (number_at_mention-below names word)
first_below names (word ∷ other ∷ words) numbers n e one here = absurd (not_one n (length words) e one)
  where
    not_one : (n k : ℕ) → n ≡ suc (suc k) → (n == 1) ≡ true → ⊥
    not_one n k e one = grind (arith, nat_tests)

-- an event that gives the numbers of a mention to its parameters fits
pub fits_event : (catalog : List CatalogEntry) (names new words : List (List ℕ)) (count : ℕ) (numbers : List ℕ) (event : NamedEvent) → HasEvent catalog event.spec event.letter.0 event.mask → count ≡ count_ones event.mask → count ≡ length words → take count numbers ≡ numbers_of names words → new ≡ mentioned names words → event.mask < 256
    → FitsEvent catalog (length new) event.spec event.letter.0 (spread 8 event.mask (take (count_ones event.mask) numbers))
fits_event catalog names new words count numbers event there counted many written mentions small =
    let objects : take (count_ones event.mask) numbers ≡ numbers_of names words = ap (λ n. take n numbers) (sym counted) ∙ written in
    let as_many : count_ones event.mask ≡ length (numbers_of names words) = sym counted ∙ many ∙ sym (length-numbers_of names words) in
    rw objects (record {
      event = rw (mask_of-spread 8 event.mask (numbers_of names words) small as_many) there;
      eight = length-spread 8 event.mask (numbers_of names words);
      named = rw (objects_of-spread 8 event.mask (numbers_of names words) small as_many, mentions) (numbers_of-below names words);
    })

-- with more names a target still fits
pub FitsTarget-more : (catalog : List CatalogEntry) (m n : ℕ) → m ≤ n → (t : Target) → FitsTarget catalog m t → FitsTarget catalog n t
FitsTarget-more catalog m n le (Event spec letter binding) h =
    let below : (o : ℕ) → o < m → o < n = λ o lt. omega arith in
    record { event = h.event; eight = h.eight; named = All-weaker (λ o. o < m) (λ o. o < n) below (objects_of binding) h.named }
FitsTarget-more catalog m n le (Death object) h = omega arith
FitsTarget-more catalog m n le (Pass spec) h = h

pub FitsCatalog-more : (catalog : List CatalogEntry) (m n : ℕ) → m ≤ n → (script : List ScriptLine) → FitsCatalog catalog m script → FitsCatalog catalog n script
FitsCatalog-more catalog m n le script h =
    All-weaker (λ l. FitsTarget catalog m l.target) (λ l. FitsTarget catalog n l.target) (λ l fits. FitsTarget-more catalog m n le l.target fits) script h

for_same : (q s : ℕ) → (q == s) ≡ true → q ≡ s
for_same q s e = grind (arith, nat_tests)

-- the step of a target that is for a specification fits it
step_fits : (catalog : List CatalogEntry) (names spec : ℕ) (t : Target) → is_for spec (spec_of t) ≡ true → FitsTarget catalog names t → FitsSpecification catalog names spec (step_of t)
step_fits catalog names spec (Event s letter binding) e h = rw (for_same s spec e) at h
step_fits catalog names spec (Death object) e h = h
step_fits catalog names spec (Pass s) e h = tt

-- and so do the steps of a projection
pub projection_fits : (catalog : List CatalogEntry) (names spec : ℕ) (ls : List ScriptLine) → FitsCatalog catalog names ls → All (λ (s : ℕ × Step). FitsSpecification catalog names spec s.1) (projection_of (script_of ls) spec)
projection_fits catalog names spec [] h = All-nil (λ (s : ℕ × Step). FitsSpecification catalog names spec s.1)
projection_fits catalog names spec (l ∷ ls) h = by_case (is_for spec (spec_of l.target)) refl (projection_fits catalog names spec ls (All-tail (λ l. FitsTarget catalog names l.target) l ls h))
  where
    by_case : (b : Bool) → is_for spec (spec_of l.target) ≡ b → All (λ (s : ℕ × Step). FitsSpecification catalog names spec s.1) (projection_of (script_of ls) spec) → All (λ (s : ℕ × Step). FitsSpecification catalog names spec s.1) (map (λ l. (l.line, l.step)) (cond b (line_of l ∷ filter (λ l. is_for spec l.spec) (script_of ls)) (filter (λ l. is_for spec l.spec) (script_of ls))))
    by_case true e rest = All-cons (λ (s : ℕ × Step). FitsSpecification catalog names spec s.1) (l.line, step_of l.target) (projection_of (script_of ls) spec) (step_fits catalog names spec l.target e (All-head (λ l. FitsTarget catalog names l.target) l ls h)) rest
    by_case false e rest = rest

-- also those of a front of it
fit_front : (P : ℕ × Step → Type 0) (xs ys : List (ℕ × Step)) → All P (xs ++ ys) → All P xs
fit_front P [] ys all = All-nil P
fit_front P (x ∷ xs) ys all = All-cons P x xs (All-head P x (xs ++ ys) all) (fit_front P xs ys (All-tail P x (xs ++ ys) all))

pub projected_fits : (catalog : List CatalogEntry) (names spec : ℕ) (ls : List ScriptLine) (steps rest : List (ℕ × Step)) → steps ++ rest ≡ projection_of (script_of ls) spec → FitsCatalog catalog names ls → All (λ (s : ℕ × Step). FitsSpecification catalog names spec s.1) steps
projected_fits catalog names spec ls steps rest e h =
    let P : ℕ × Step → Type 0 = λ s. FitsSpecification catalog names spec s.1 in
    fit_front P steps rest (subst (All P) (sym e) (projection_fits catalog names spec ls h))

-- also as a call gives them, if it does
pub made_fits : {T E : Type 0} (items : T → List (ℕ × Step)) (catalog : List CatalogEntry) (names spec : ℕ) (ls lines : List ScriptLine) → ls ≡ lines → (r : Result T E) → IfOk r (λ steps. items steps ≡ projection_of (script_of ls) spec) → FitsCatalog catalog names lines
    → IfOk r (λ steps. All (λ (s : ℕ × Step). FitsSpecification catalog names spec s.1) (items steps))
made_fits items catalog names spec ls lines same (Ok steps) e h =
    subst (All (λ (s : ℕ × Step). FitsSpecification catalog names spec s.1)) (sym e) (projection_fits catalog names spec ls (subst (FitsCatalog catalog names) (sym same) h))
made_fits items catalog names spec ls lines same (Err x) e h = tt
