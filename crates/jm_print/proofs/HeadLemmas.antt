-- Heads: what stands in front of the object of an event of one parameter.
use Rattle.std.proofs.Common.{◌≡◌, ℕ, zero, suc, ◌*◌, ◌%◌, ◌^◌, ◌<◌, ◌≤◌, ◌⊎◌, inl, inr, List, [], ◌∷◌, ◌++◌, length, get_or, refl, sym, ◌∙◌, ap, subst, arith, append_assoc, append-nil}
use lib.Count.{ones}
use Rattle.std.specs.Prelude.{Option, Some, codes, count_ones, slice_get, unwrap_or}
use Rattle.jm_history.specs.Rows.{placed, placed_in}
use Rattle.jm_print.specs.Lexicons.{Lexicon, name_of}
use Rattle.jm_print.specs.Texts.{binding_text, pair_text, HasNamesFrom}
use Rattle.jm_events.specs.Events.{EventDefinitions, event_names}
use Rattle.jm_print.specs.declared.head.Head.{Head}
use Rattle.jm_print.specs.Shorts.{head_text, IsNamedBy, IsHeadOf, AreHeads}

-- the mask of a parameter
pub mask_of_one : (p : ℕ) → p < 8 → 1 * 2 ^ p % 256 ≡ 2 ^ p
mask_of_one zero low = refl
mask_of_one (suc zero) low = refl
mask_of_one (suc (suc zero)) low = refl
mask_of_one (suc (suc (suc zero))) low = refl
mask_of_one (suc (suc (suc (suc zero)))) low = refl
mask_of_one (suc (suc (suc (suc (suc zero))))) low = refl
mask_of_one (suc (suc (suc (suc (suc (suc zero)))))) low = refl
mask_of_one (suc (suc (suc (suc (suc (suc (suc zero))))))) low = refl
mask_of_one (suc (suc (suc (suc (suc (suc (suc (suc p)))))))) low = absurd (omega (arith, low))

one_bit : (p : ℕ) → p < 8 → count_ones (2 ^ p) ≡ 1
unfolding ones
one_bit zero low = refl
one_bit (suc zero) low = refl
one_bit (suc (suc zero)) low = refl
one_bit (suc (suc (suc zero))) low = refl
one_bit (suc (suc (suc (suc zero)))) low = refl
one_bit (suc (suc (suc (suc (suc zero))))) low = refl
one_bit (suc (suc (suc (suc (suc (suc zero)))))) low = refl
one_bit (suc (suc (suc (suc (suc (suc (suc zero))))))) low = refl
one_bit (suc (suc (suc (suc (suc (suc (suc (suc p)))))))) low = absurd (omega (arith, low))

-- an event of one parameter has an object
pub one_object : (p : ℕ) (os : List ℕ) → p < 8 → count_ones (2 ^ p) ≤ length os → 1 ≤ length os
one_object p os low enough = subst (λ (n : ℕ). n ≤ length os) (one_bit p low) enough

-- and its text is that of the one pair
one_pair : (l : Lexicon) (os : List ℕ) (p : ℕ) → p < 8 → 1 ≤ length os → binding_text l (placed (2 ^ p) os) ≡ pair_text l p (get_or os 0 0)
unfolding placed_in
one_pair l [] p low some = absurd (omega (arith, some))
one_pair l (o ∷ os) zero low some = append-nil (pair_text l 0 o)
one_pair l (o ∷ os) (suc zero) low some = append-nil (pair_text l 1 o)
one_pair l (o ∷ os) (suc (suc zero)) low some = append-nil (pair_text l 2 o)
one_pair l (o ∷ os) (suc (suc (suc zero))) low some = append-nil (pair_text l 3 o)
one_pair l (o ∷ os) (suc (suc (suc (suc zero)))) low some = append-nil (pair_text l 4 o)
one_pair l (o ∷ os) (suc (suc (suc (suc (suc zero))))) low some = append-nil (pair_text l 5 o)
one_pair l (o ∷ os) (suc (suc (suc (suc (suc (suc zero)))))) low some = append-nil (pair_text l 6 o)
one_pair l (o ∷ os) (suc (suc (suc (suc (suc (suc (suc zero))))))) low some = append-nil (pair_text l 7 o)
one_pair l (o ∷ os) (suc (suc (suc (suc (suc (suc (suc (suc p)))))))) low some = absurd (omega (arith, low))

pub one_name : (l : Lexicon) (os : List ℕ) (p : ℕ) → p < 8 → 1 ≤ length os → HasNamesFrom l 0 (placed (2 ^ p) os) → get_or os 0 0 < length l.objects
unfolding placed_in
one_name l [] p low some names = absurd (omega (arith, some))
one_name l (o ∷ os) zero low some names = names.1
one_name l (o ∷ os) (suc zero) low some names = names.1
one_name l (o ∷ os) (suc (suc zero)) low some names = names.1
one_name l (o ∷ os) (suc (suc (suc zero))) low some names = names.1
one_name l (o ∷ os) (suc (suc (suc (suc zero)))) low some names = names.1
one_name l (o ∷ os) (suc (suc (suc (suc (suc zero))))) low some names = names.1
one_name l (o ∷ os) (suc (suc (suc (suc (suc (suc zero)))))) low some names = names.1
one_name l (o ∷ os) (suc (suc (suc (suc (suc (suc (suc zero))))))) low some names = names.1
one_name l (o ∷ os) (suc (suc (suc (suc (suc (suc (suc (suc p)))))))) low some names = absurd (omega (arith, low))

-- the head and the object make the text of the event
pub head_and_object : (l : Lexicon) (letter p : ℕ) (os : List ℕ) → p < 8 → 1 ≤ length os
    → head_text l letter p ++ name_of l.objects (get_or os 0 0) ≡ name_of l.events letter ++ codes " " ++ binding_text l (placed (2 ^ p) os)
head_and_object l letter p os low some =
    let event = name_of l.events letter in
    let parameter = name_of l.parameters p in
    let object = name_of l.objects (get_or os 0 0) in
    let pair : parameter ++ codes "=" ++ object ≡ binding_text l (placed (2 ^ p) os) = sym (one_pair l os p low some) in
    let joined : head_text l letter p ++ object ≡ event ++ codes " " ++ (parameter ++ codes "=" ++ object) = simp append_assoc in
    joined ∙ ap (λ t. event ++ codes " " ++ t) pair

named_at : (names own : List (List ℕ)) (k : ℕ) (name : List ℕ) → names ≡ own → slice_get own k ≡ Some name → name_of names k ≡ name
named_at names own k name same at = ap (λ v. name_of v k) same ∙ ap (λ (x : Option (List ℕ)). unwrap_or x []) at

-- the head, written part by part
pub head_written : (l : Lexicon) (table : EventDefinitions) (letter p : ℕ) (event parameter a b c d : List ℕ) → IsNamedBy l table
    → slice_get (event_names table) letter ≡ Some event → slice_get table.parameters p ≡ Some parameter
    → a ≡ event → b ≡ a ++ codes " " → c ≡ b ++ parameter → d ≡ c ++ codes "=" → d ≡ head_text l letter p
head_written l table letter p event parameter a b c d named at there one two three four =
    let first : event ≡ name_of l.events letter = sym (named_at l.events (event_names table) letter event named.0 at) in
    let second : parameter ≡ name_of l.parameters p = sym (named_at l.parameters table.parameters p parameter named.1 there) in
    four ∙ ap (λ t. t ++ codes "=") (three ∙ (λ j. two j ++ second j)) ∙ ap (λ t. t ++ codes " " ++ name_of l.parameters p ++ codes "=") (one ∙ first)

-- the head with the name of the object
pub head_printed : (l : Lexicon) (letter p mask : ℕ) (os head name : List ℕ) → p < 8 → mask ≡ 2 ^ p → count_ones mask ≤ length os → head ≡ head_text l letter p
    → slice_get l.objects (get_or os 0 0) ≡ Some name
    → head ++ name ≡ name_of l.events letter ++ codes " " ++ binding_text l (placed mask os)
head_printed l letter p mask os head name low is enough front at =
    let some : 1 ≤ length os = one_object p os low (subst (λ (m : ℕ). count_ones m ≤ length os) is enough) in
    let object : name ≡ name_of l.objects (get_or os 0 0) = sym (named_at l.objects l.objects (get_or os 0 0) name refl at) in
    (λ j. front j ++ object j) ∙ head_and_object l letter p os low some
    ∙ ap (λ (m : ℕ). name_of l.events letter ++ codes " " ++ binding_text l (placed m os)) (sym is)

-- ---- the heads of a table, one after the other
got_last : {X : Type 0} (xs : List X) (x y : X) (k : ℕ) → slice_get (xs ++ x ∷ []) k ≡ Some y → (slice_get xs k ≡ Some y) ⊎ ((k ≡ length xs) × (x ≡ y))
got_last [] x y zero is = inr (refl, cc)
got_last [] x y (suc k) is = absurd (cc)
got_last (z ∷ zs) x y zero is = inl is
got_last (z ∷ zs) x y (suc k) is =
    elim (got_last zs x y k is) [
      | inl before ↦ inl before
      | inr last ↦ inr (ap suc last.0, last.1)
    ]

pub heads_more : (l : Lexicon) (heads : List Head) (head : Head) (letter : ℕ) → length heads ≡ letter → AreHeads l heads → IsHeadOf l letter head
    → AreHeads l (heads ++ head ∷ [])
heads_more l heads head letter count before last k x is =
    elim (got_last heads head x k is) [
      | inl there ↦ before k x there
      | inr end ↦ subst (λ (h : Head). IsHeadOf l k h) end.1 (subst (λ (n : ℕ). IsHeadOf l n head) (sym count ∙ sym end.0) last)
    ]
