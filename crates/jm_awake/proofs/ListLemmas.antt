-- Lists of entries: what a filter and an addition leave.
use Rattle.std.proofs.Common.{◌≡◌, ◌≢◌, ℕ, zero, suc, ◌⊎◌, inl, inr, Bool, true, false, cond, List, [], ◌∷◌, ◌++◌, refl, sym, ap, ◌∙◌, subst, arith}
use Rattle.std.specs.Prelude.{AllPairs, Contains, filter}
use Rattle.std.proofs.lemmas.Bool.{false≢true}
use Rattle.std.proofs.lemmas.List.Elements.{Contains-append_left, Contains-push, Contains-push_cases, Contains-get_or, All-contains, All-filter, All-contains_itself}
use Rattle.std.proofs.lemmas.List.Kept.{AllPairs-filter}
use Rattle.std.proofs.lemmas.List.Quantifiers.{all_pairs_push}
use Rattle.jm_model.specs.declared.binding.Binding.{Binding}
use Rattle.jm_awake.specs.declared.card.Listed.{Listed}
use Rattle.jm_awake.specs.declared.card.Card.{Card}
use Rattle.jm_awake.specs.Awake.{SlotList, is_there}
use Rattle.jm_awake.specs.Added.{IsAddedTo}

-- ---- a filter
pub filtered_from : {X : Type 0} (p : X → Bool) (xs : List X) (x : X) → Contains (filter p xs) x → Contains xs x
filtered_from p xs x h = All-contains (Contains xs) (filter p xs) x (All-filter p (Contains xs) xs (All-contains_itself xs)) h

behind : {X : Type 0} (y : X) (xs : List X) (x : X) → Contains xs x → Contains (y ∷ xs) x
behind y xs x (k, low, is) = (suc k, omega arith, is)

first_in : {X : Type 0} (y : X) (rest : List X) (x : X) (v : Bool) → y ≡ x → v ≡ true → Contains (cond v (y ∷ rest) rest) x
first_in y rest x true is e = (zero, omega arith, is)
first_in y rest x false is e = absurd (false≢true e)

later_in : {X : Type 0} (y : X) (rest : List X) (x : X) (v : Bool) → Contains rest x → Contains (cond v (y ∷ rest) rest) x
later_in y rest x true h = behind y rest x h
later_in y rest x false h = h

pub filtered_in : {X : Type 0} (p : X → Bool) (xs : List X) (x : X) → Contains xs x → p x ≡ true → Contains (filter p xs) x
filtered_in p [] x (k, low, is) passes = absurd (omega (arith, low))
filtered_in p (y ∷ xs) x (zero, low, is) passes = first_in y (filter p xs) x (p y) is (ap p is ∙ passes)
filtered_in p (y ∷ xs) x (suc k, low, is) passes = later_in y (filter p xs) x (p y) (filtered_in p xs x (k, omega (arith, low), is) passes)

in_cases : {X : Type 0} (y : X) (rest : List X) (x : X) (v : Bool) → Contains (cond v (y ∷ rest) rest) x → ((v ≡ true) × (y ≡ x)) ⊎ Contains rest x
in_cases y rest x true (zero, low, is) = inl (refl, is)
in_cases y rest x true (suc k, low, is) = inr (k, omega (arith, low), is)
in_cases y rest x false h = inr h

pub filtered_passes : {X : Type 0} (p : X → Bool) (xs : List X) (x : X) → Contains (filter p xs) x → p x ≡ true
filtered_passes p [] x (k, low, is) = absurd (omega (arith, low))
filtered_passes p (y ∷ xs) x h =
    elim (in_cases y (filter p xs) x (p y) h) [
      | inl here ↦ sym (ap p here.1) ∙ here.0
      | inr later ↦ filtered_passes p xs x later
    ]

-- ---- one entry more, after what still counts
pushed_apart : (xs : List Listed) (x : Listed) → AllPairs (λ a b. a ≢ b) xs → (Contains xs x → ⊥) → AllPairs (λ a b. a ≢ b) (xs ++ x ∷ [])
pushed_apart xs x apart fresh =
    all_pairs_push (λ a b. a ≢ b) xs x apart (λ k d low same. fresh (subst (Contains xs) same (Contains-get_or xs k d low)))

-- what was left of the list before the addition
pub added : (cards : List Card) (x : Listed) (old mid new : SlotList) → (mid ≡ old) ⊎ (mid ≡ record old { entries = filter (is_there cards) old.entries }) → mid.is_kept ≡ true → new.letter ≡ mid.letter → new.binding ≡ mid.binding
    → new.entries ≡ mid.entries ++ x ∷ [] → IsAddedTo cards x old new
added cards x old mid new (inl same) kept letter binding is =
    let own : new.entries ≡ old.entries ++ x ∷ [] = is ∙ ap (λ (l : SlotList). l.entries ++ x ∷ []) same in
    record {
      kept = sym (ap (λ (l : SlotList). l.is_kept) same) ∙ kept;
      letter = letter ∙ ap (λ (l : SlotList). l.letter) same;
      binding = binding ∙ ap (λ (l : SlotList). l.binding) same;
      here = subst (λ (l : List Listed). Contains l x) (sym own) (Contains-push old.entries x);
      all = λ y h yes. subst (λ (l : List Listed). Contains l y) (sym own) (Contains-append_left old.entries (x ∷ []) y h);
      among = λ y h. elim (Contains-push_cases old.entries x y (subst (λ (l : List Listed). Contains l y) own h)) [
        | inl was ↦ inl was
        | inr same ↦ inr (sym same)
      ];
      apart = λ apart none. subst (AllPairs (λ a b. a ≢ b)) (sym own) (pushed_apart old.entries x apart none);
    }
added cards x old mid new (inr less) kept letter binding is =
    let own : new.entries ≡ filter (is_there cards) old.entries ++ x ∷ [] = is ∙ ap (λ (l : SlotList). l.entries ++ x ∷ []) less in
    record {
      kept = sym (ap (λ (l : SlotList). l.is_kept) less) ∙ kept;
      letter = letter ∙ ap (λ (l : SlotList). l.letter) less;
      binding = binding ∙ ap (λ (l : SlotList). l.binding) less;
      here = subst (λ (l : List Listed). Contains l x) (sym own) (Contains-push (filter (is_there cards) old.entries) x);
      all = λ y h yes. subst (λ (l : List Listed). Contains l y) (sym own) (Contains-append_left (filter (is_there cards) old.entries) (x ∷ []) y (filtered_in (is_there cards) old.entries y h yes));
      among = λ y h. elim (Contains-push_cases (filter (is_there cards) old.entries) x y (subst (λ (l : List Listed). Contains l y) own h)) [
        | inl was ↦ inl (filtered_from (is_there cards) old.entries y was)
        | inr same ↦ inr (sym same)
      ];
      apart = λ apart none. subst (AllPairs (λ a b. a ≢ b)) (sym own)
          (pushed_apart (filter (is_there cards) old.entries) x (AllPairs-filter (λ a b. a ≢ b) (is_there cards) old.entries apart)
          (λ h. none (filtered_from (is_there cards) old.entries x h)));
    }

abbrev pub with_entries : ℕ → Binding → Bool → List Listed → SlotList
with_entries letter binding is_kept entries = record { letter = letter; binding = binding; is_kept = is_kept; entries = entries }
