-- Seats are joined into one, from the last to the first.
use Rattle.std.proofs.Common.{◌≡◌, ℕ, ◌+◌, ◌<◌, ◌≢◌, ◌⊎◌, cond, eqb, List, [], ◌∷◌, ◌++◌, length, Some, slice_get, sym, ap, ◌∙◌, inl, inr, ⊎_elim, arith, length-append}
use Rattle.std.proofs.lemmas.Bool.Decides.{nat_tests}
use mathlib.Core.Logic.{dite}
use native.Mathlib.Decide.{ℕ_discrete}
use Rattle.jm_turn.specs.declared.rule.View.{View}
use Rattle.jm_turn.specs.declared.rule.Joined.{Joined}
use Rattle.jm_turn.specs.Lists.{times}
use Rattle.jm_turn.specs.Views.{idle_seat, with_joined, joined_numbers, numbers_in}
use Rattle.jm_turn.specs.TableSeats.{HasJoined, IsRecorded}
use Rattle.std.specs.Option.{option_to_list}
use Rattle.jm_turn.proofs.Sums.{times-append}
use Rattle.jm_turn.proofs.Elements.{get_snoc, get_last, get_longer}

-- of the seats, the rest are still to be joined, and the view knows the others
pub record Gathers {A E F : Type 0} (number : A → ℕ) (view : A → View E F) (all rest : List A) (v : View E F) : Type 0 where
  pub count : length (numbers_in v) + length rest ≡ length all
  pub before : (k : ℕ) (s : A) → slice_get rest k ≡ Some s → slice_get all k ≡ Some s
  pub recorded : (k : ℕ) (s : A) → slice_get all k ≡ Some s → (slice_get rest k ≡ Some s) ⊎ IsRecorded v (number s) (view s).seen
  pub known : (n : ℕ) → 0 < times n (numbers_in v) → (k : ℕ) × (s : A) × (slice_get all k ≡ Some s) × (number s ≡ n)

has_joined_right : {E : Type 0} (ps qs : List (Joined E)) (n : ℕ) (h : List E) → HasJoined qs n h → HasJoined (ps ++ qs) n h
has_joined_right [] qs n h has = has
has_joined_right (p ∷ ps) qs n h has = inr (has_joined_right ps qs n h has)

no_other : (n m t : ℕ) → 0 < cond (eqb n m) 1 0 + t → n ≢ m → 0 < t
no_other n m t more ne = grind (arith, nat_tests)

module _ {A E F : Type 0} (number : A → ℕ) (view : A → View E F) (f : F) where
  pub gathers_first : (all rest : List A) (x : A) → all ≡ rest ++ x ∷ [] → view x ≡ idle_seat (number x) (view x).seen f → Gathers number view all rest (view x)
  gathers_first all rest x is seat =
      let nums : numbers_in (view x) ≡ number x ∷ [] = ap numbers_in seat in
      let long : length all ≡ length rest + 1 = ap length is ∙ length-append rest (x ∷ []) in
      let one : length (numbers_in (view x)) ≡ 1 = ap length nums in
      record {
        count = omega arith;
        before = λ k s at. ap (λ (l : List A). slice_get l k) is ∙ get_longer rest x s k at;
        recorded = λ k s at. ⊎_elim (λ (t : slice_get rest k ≡ Some s). inl t)
            (λ (t : (k ≡ length rest) × (x ≡ s)). inr (inl (ap (λ (v : View E F). v.number) seat ∙ ap (λ (y : A). Some (number y)) t.1, ap (λ (y : A). (view y).seen) t.1)))
            (get_snoc rest x s k (ap (λ (l : List A). slice_get l k) (sym is) ∙ at));
        known = λ n more.
            let same : times n (numbers_in (view x)) ≡ cond (eqb (number x) n) 1 0 + 0 = ap (times n) nums in
            (length rest, x, ap (λ (l : List A). slice_get l (length rest)) is ∙ get_last rest x, dite (ℕ_discrete (number x) n) (λ e. e) (λ ne. let z = no_other (number x) n 0 (omega arith) ne in absurd (omega arith)));
      }

  pub gathers_more : (all old rest : List A) (v : View E F) (x : A) → Gathers number view all old v → old ≡ rest ++ x ∷ [] → view x ≡ idle_seat (number x) (view x).seen f → Gathers number view all rest (with_joined v (view x))
  gathers_more all old rest v x g is seat =
      let nums : numbers_in (with_joined v (view x)) ≡ option_to_list v.number ++ (number x ∷ joined_numbers v.joined) = ap (λ (w : View E F). numbers_in (with_joined v w)) seat in
      let a = length-append (option_to_list v.number) (number x ∷ joined_numbers v.joined) in
      let b = length-append (option_to_list v.number) (joined_numbers v.joined) in
      let long : length (numbers_in (with_joined v (view x))) ≡ length (option_to_list v.number ++ (number x ∷ joined_numbers v.joined)) = ap length nums in
      let short : length old ≡ length rest + 1 = ap length is ∙ length-append rest (x ∷ []) in
      let count = g.count in
      let in_old : (k : ℕ) (s : A) → slice_get (rest ++ x ∷ []) k ≡ Some s → slice_get all k ≡ Some s = λ k s at. g.before k s (ap (λ (l : List A). slice_get l k) is ∙ at) in
      record {
        count = omega arith;
        before = λ k s at. in_old k s (get_longer rest x s k at);
        recorded = λ k s at. ⊎_elim
            (λ (t : slice_get old k ≡ Some s). ⊎_elim (λ (t : slice_get rest k ≡ Some s). inl t)
            (λ (t : (k ≡ length rest) × (x ≡ s)). inr (inr (inl (ap (λ (v : View E F). v.number) seat ∙ ap (λ (y : A). Some (number y)) t.1, ap (λ (y : A). (view y).seen) t.1))))
            (get_snoc rest x s k (ap (λ (l : List A). slice_get l k) (sym is) ∙ t)))
            (λ (t : IsRecorded v (number s) (view s).seen). inr (⊎_elim
            (λ (u : (v.number ≡ Some (number s)) × (v.seen ≡ (view s).seen)). inl u)
            (λ (u : HasJoined v.joined (number s) (view s).seen). inr (inr (has_joined_right (view x).joined v.joined (number s) (view s).seen u))) t))
            (g.recorded k s at);
        known = λ n more.
            let same : times n (numbers_in (with_joined v (view x))) ≡ times n (option_to_list v.number ++ (number x ∷ joined_numbers v.joined)) = ap (times n) nums in
            let a = times-append n (option_to_list v.number) (number x ∷ joined_numbers v.joined) in
            let b = times-append n (option_to_list v.number) (joined_numbers v.joined) in
            dite (ℕ_discrete (number x) n)
            (λ e. (length rest, x, in_old (length rest) x (get_last rest x), e))
            (λ ne. g.known n (no_other (number x) n (times n (numbers_in v)) (omega arith) ne));
      }
