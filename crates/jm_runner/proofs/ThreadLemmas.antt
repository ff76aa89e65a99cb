-- What the threads of workers give back.
use Rattle.std.proofs.Common.{◌≡◌, ℕ, ◌<◌, List, [], ◌∷◌, ◌++◌, map, length, Some, slice_get, refl, sym, ap, ◌∙◌, subst, arith}
use Rattle.std.specs.Prelude.{IfOk, Result, Ok}
use Rattle.std.specs.Option.{option_map}
use Rattle.std.specs.PromisedHandle.{KeepsEach}
use Rattle.std.specs.declared.thread.PromisedHandle.{PromisedHandle}
use Rattle.std.specs.declared.thread.Promise as Promise
use Rattle.std.proofs.lemmas.Option.{slice_get-map, slice_get_within, get_or_from_slice_get}
use Rattle.std.proofs.lemmas.List.{length-map}
use Rattle.jm_model.specs.declared.step.Entry.{Entry}
use Rattle.jm_turn.specs.Seats.{LockModel, SeatModel}
use Rattle.jm_script.specs.declared.script.ScriptLine.{ScriptLine}
use Rattle.jm_sync.specs.declared.line.SyncLine.{SyncLine}
use Rattle.jm_runner.specs.Hands.{HasWorked}
use Rattle.jm_runner.specs.Notes.{IsNamed}
use Rattle.jm_runner.proofs.PlaceLemmas.{map_get}

-- one more at the end of a list and of what it is mapped to
pub map_snoc : {A B : Type 0} (f : A → B) (xs more : List A) (x : A) (ys : List B) (y : B) → more ≡ xs ++ x ∷ [] → map f xs ≡ ys → f x ≡ y → map f more ≡ ys ++ y ∷ []
map_snoc {A} f xs more x ys y is same last = ap (λ l. map f l) is ∙ at_end xs ∙ ap (λ l. l ++ f x ∷ []) same ∙ ap (λ z. ys ++ z ∷ []) last
  where
    at_end : (l : List A) → map f (l ++ x ∷ []) ≡ map f l ++ f x ∷ []
    at_end [] = refl
    at_end (z ∷ l) = ap (λ m. f z ∷ m) (at_end l)

-- what is after a place goes on with its first element
pub snoc_rest : {A : Type 0} (xs rest : List A) (x : A) → (xs ++ x ∷ []) ++ rest ≡ xs ++ x ∷ rest
snoc_rest [] rest x = refl
snoc_rest (y ∷ xs) rest x = ap (λ l. y ∷ l) (snoc_rest xs rest x)

pub same_length : {A B : Type 0} (f : A → B) (xs : List A) (ys : List B) → map f xs ≡ ys → length xs ≡ length ys
same_length f xs ys same = sym (length-map xs f) ∙ ap (λ l. length l) same

pub none_left : {A : Type 0} (xs : List A) → length xs ≡ 0 → xs ≡ []
none_left [] size = refl
none_left (x ∷ xs) size = absurd (omega (arith, size))

-- where nothing is after it, it is the whole
pub ends : {A : Type 0} (xs rest whole : List A) → xs ++ rest ≡ whole → rest ≡ [] → xs ≡ whole
ends {A} xs rest whole all none = sym (alone xs) ∙ ap (λ l. xs ++ l) (sym none) ∙ all
  where
    alone : (l : List A) → l ++ [] ≡ l
    alone [] = refl
    alone (y ∷ l) = ap (λ m. y ∷ m) (alone l)

-- what threads that keep their promises gave back, where all gave a value
pub promises_met : {T E P : Type 0} (g : Promise.Ghosts P (Result T E)) (before_of : P → T) (R : T → T → Type 0) (n : ℕ) (handles : List (PromisedHandle (Result T E) P)) (results : List (Result T E)) (hands values : List T) (k : ℕ) (before after : T)
    → ((p : P) (r : Result T E) → g.kept_by p r → IfOk r (λ back. R (before_of p) back)) → n ≡ length handles → KeepsEach g n handles results → map (λ h. before_of h.promise) handles ≡ hands → map (λ x. Ok x) values ≡ results
    → slice_get hands k ≡ Some before → slice_get values k ≡ Some after → R before after
promises_met {T} {E} {P} g before_of R n handles results hands values k before after says size each made same hat vat =
    let has : slice_get results k ≡ Some (Ok after) = ap (λ l. slice_get l k) (sym same) ∙ slice_get-map (λ x. Ok x) values k ∙ ap (λ o. option_map (λ x. Ok x) o) vat in
    let from = map_get (λ h. before_of h.promise) handles k before (ap (λ l. slice_get l k) made ∙ hat) in
    let within : k < length handles = slice_get_within handles k from.0 from.1 in
    let kept = (each k (Ok after) (omega (arith, size, within))).1 in
    let handle_is : kept.handle ≡ from.0 = kept.handle_is ∙ get_or_from_slice_get handles k from.0 kept.handle from.1 in
    let said = says kept.handle.promise _ kept.kept in
    let told : R (before_of kept.handle.promise) after = subst (λ (r : Result T E). IfOk r (λ back. R (before_of kept.handle.promise) back)) (get_or_from_slice_get results k (Ok after) (Ok after) has) said in
    subst (λ b. R b after) (sym from.2) (subst (λ (h : PromisedHandle (Result T E) P). R (before_of h.promise) after) handle_is told)

-- what was done in a run was done in the run that its naming names
pub named_worked : {F : Type 0} (js : List (List ScriptLine)) (jc asked : List (List SyncLine)) (jw watches : List (LockModel F)) (names : ℕ) (was before after : List (SeatModel Entry F)) → IsNamed js jc jw asked watches names → was ≡ before
    → HasWorked watches js asked before after → HasWorked jw js jc was after
named_worked js jc asked jw watches names was before after named same worked =
    subst (λ b. HasWorked jw js jc b after) (sym same)
    (subst (λ w. HasWorked w js jc before after) (sym named.watches_are)
    (subst (λ c. HasWorked watches js c before after) (sym named.cuts_are) worked))

-- and the other way round
pub worked_named_back : {F : Type 0} (js : List (List ScriptLine)) (jc asked : List (List SyncLine)) (jw watches : List (LockModel F)) (names : ℕ) (before after : List (SeatModel Entry F)) → IsNamed js jc jw asked watches names
    → HasWorked jw js jc before after → HasWorked watches js asked before after
worked_named_back js jc asked jw watches names before after named worked =
    subst (λ w. HasWorked w js asked before after) named.watches_are
    (subst (λ c. HasWorked jw js c before after) named.cuts_are worked)
