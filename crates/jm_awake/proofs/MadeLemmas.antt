-- A list that is made.
use Rattle.std.proofs.Common.{◌≡◌, ℕ, ◌<◌, ◌*◌, ◌^◌, ◌%◌, inl, inr, true, List, length, bit_or, refl, sym, ap, ◌∙◌, subst}
use Rattle.std.specs.Prelude.{slice_index, slice_index_or, slice_set}
use Rattle.std.specs.Int.{w32, bit_at}
use Rattle.std.proofs.lemmas.Bool.{cases_eq}
use Rattle.std.proofs.lemmas.List.{get_or-set_same, get_or-set_other}
use Rattle.std.proofs.lemmas.Nat.Bits.{bit_at_set_same, bit_at_set_other}
use Rattle.jm_model.specs.Bindings.{mask_of}
use Rattle.jm_model.specs.declared.binding.Binding.{Binding}
use Rattle.jm_awake.specs.declared.card.Listed.{Listed}
use Rattle.jm_awake.specs.declared.card.Card.{Card}
use Rattle.jm_awake.specs.Awake.{SlotList, Lists, no_list, list_at, path_of, number_at, IsKept, IsFound}
use Rattle.jm_awake.specs.Steps.{AreListedIn, IsPlaceMade, IsMade}
use Rattle.jm_awake.proofs.SoundLemmas.{kept_within}

module _ (items : List SlotList) (rows : List (List ℕ)) (cards : List Card) (letters : ℕ) (masks : List ℕ) (e : ℕ) (b : Binding) (slots : List ℕ) (old one : Lists) (place : ℕ) (entries : List Listed) (l : SlotList) (mask : ℕ)
    (made : IsPlaceMade e (path_of b) one (record { lists = items; rows = rows; cards = cards; letters = letters; masks = masks }) place) (listed : AreListedIn e slots entries old one) (low : e < 32) (room : e < length masks)
    (one_mask : bit_at old.letters e ≡ 1 → slice_index old.masks e ≡ mask_of b) (own : mask ≡ mask_of b) (letter : l.letter ≡ e) (binding : l.binding ≡ b) (kept : l.is_kept ≡ true) (has : l.entries ≡ entries) where
  abbrev new : Lists
  new = record { lists = slice_set items place l; rows = rows; cards = cards; letters = bit_or letters (1 * 2 ^ e % 2 ^ 32); masks = slice_set masks e mask }

  at_place : list_at new place ≡ l
  at_place = get_or-set_same items place l no_list made.within

  elsewhere : (p : ℕ) → (p ≡ place → ⊥) → IsKept new p → list_at new p ≡ list_at old p
  elsewhere p other is =
      let first : list_at new p ≡ slice_index_or items p no_list = get_or-set_other items place p l no_list other in
      first ∙ made.lists p (sym (ap (λ (m : SlotList). m.is_kept) first) ∙ is) ∙ ap (λ (ls : List SlotList). slice_index_or ls p no_list) listed.carded.lists

  here_found : IsFound new place l
  here_found = record {
    low = subst (λ (n : ℕ). n < 32) (sym letter) low;
    number = ap (λ (n : ℕ). number_at rows n (path_of l.binding)) letter ∙ ap (λ (t : Binding). number_at rows e (path_of t)) binding ∙ made.number;
    mask = ap (slice_index (slice_set masks e mask)) letter ∙ get_or-set_same masks e mask 0 room ∙ own ∙ sym (ap mask_of binding);
    has_letter = ap (bit_at (bit_or letters (1 * 2 ^ e % 2 ^ 32))) letter ∙ bit_at_set_same w32 letters e low;
  }

  mask_for : (m : SlotList) → bit_at old.letters m.letter ≡ 1 → slice_index old.masks m.letter ≡ mask_of m.binding → slice_index (slice_set masks e mask) m.letter ≡ mask_of m.binding
  mask_for m there was = elim (cases_eq m.letter e) [
    | inl same ↦
        ap (slice_index (slice_set masks e mask)) same ∙ get_or-set_same masks e mask 0 room ∙ own
        ∙ sym (one_mask (sym (ap (bit_at old.letters) same) ∙ there)) ∙ sym (ap (slice_index old.masks) same) ∙ was
    | inr other ↦
        get_or-set_other masks e m.letter mask 0 other ∙ ap (λ (ms : List ℕ). slice_index ms m.letter) (made.masks ∙ listed.carded.masks) ∙ was
  ]

  letter_for : (m : SlotList) → bit_at old.letters m.letter ≡ 1 → bit_at (bit_or letters (1 * 2 ^ e % 2 ^ 32)) m.letter ≡ 1
  letter_for m there = elim (cases_eq m.letter e) [
    | inl same ↦ ap (bit_at (bit_or letters (1 * 2 ^ e % 2 ^ 32))) same ∙ bit_at_set_same w32 letters e low
    | inr other ↦ bit_at_set_other w32 letters e low m.letter other ∙ ap (λ (n : ℕ). bit_at n m.letter) (made.letters ∙ listed.carded.letters) ∙ there
  ]

  other_found : (p : ℕ) (m : SlotList) → m ≡ list_at old p → IsKept old p → IsFound old p m → IsFound new p m
  other_found p m is there f =
      let within : p < length one.lists = subst (λ (ls : List SlotList). p < length ls) (sym listed.carded.lists) (kept_within old p there) in
      record {
        low = f.low;
        number = made.rows m.letter (path_of m.binding) p within (ap (λ (r : List (List ℕ)). number_at r m.letter (path_of m.binding)) listed.carded.rows ∙ f.number);
        mask = mask_for m f.has_letter f.mask;
        has_letter = letter_for m f.has_letter;
      }

  pub made_list : IsMade e b slots old new
  made_list = record {
    place = place;
    entries = entries;
    mid = one;
    listed = listed;
    cards = made.cards;
    of = record { kept = ap (λ (m : SlotList). m.is_kept) at_place ∙ kept; letter = ap (λ (m : SlotList). m.letter) at_place ∙ letter; binding = ap (λ (m : SlotList). m.binding) at_place ∙ binding };
    has = ap (λ (m : SlotList). m.entries) at_place ∙ has;
    others = elsewhere;
    found = λ found p is. elim (cases_eq p place) [
      | inl same ↦ subst (λ (n : ℕ). IsFound new n (list_at new n)) (sym same) (subst (IsFound new place) (sym at_place) here_found)
      | inr other ↦
          let equal = elsewhere p other is in
          let there : IsKept old p = sym (ap (λ (m : SlotList). m.is_kept) equal) ∙ is in
          subst (IsFound new p) (sym equal) (other_found p (list_at old p) refl there (found p there))
    ];
  }
