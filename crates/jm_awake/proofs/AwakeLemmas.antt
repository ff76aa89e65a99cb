-- The lists and the rows as they lie in memory.
use Rattle.std.proofs.Common.{◌≡◌, ℕ, zero, suc, ◌<◌, ◌≤◌, ◌+◌, ◌/◌, ◌⊎◌, inl, inr, true, false, List, [], ◌∷◌, ◌++◌, Some, length, map, refl, sym, ap, ◌∙◌, subst, arith}
use Rattle.std.specs.Prelude.{Contains, filter, slice_index, slice_index_or, slice_set, ◌==◌, ◌&&◌}
use Rattle.std.specs.Int.{bit_at}
use Rattle.std.proofs.lemmas.Bool.{cases_eq, cases_lt, eq-eqb, eqb-true, and_from, and_parts, false≢true}
use Rattle.std.proofs.lemmas.List.{get_or_past, get_or-set_same, get_or-set_other, get_or-map, length-map, length-set, get_or_default, map-set, map_push, length-append, get_or_append_left, get_or_push}
use Rattle.std.proofs.lemmas.List.Elements.{Contains-push_cases, Contains-append_left, Contains-push}
use Rattle.std.proofs.lemmas.Option.{same_Some}
use Rattle.jm_model.specs.Bindings.{is_below}
use Rattle.jm_model.specs.declared.binding.Binding.{Binding}
use Rattle.jm_awake.specs.declared.card.Listed.{Listed}
use Rattle.jm_awake.specs.declared.card.Card.{Card}
use Rattle.jm_awake.specs.Awake.{SlotList, Lists, no_list, fresh, list_at, card_at, path_in, number_at, IsOn, entry_of, is_listed, IsKept, AreFound}
use Rattle.jm_awake.specs.Added.{IsAddedTo}
use Rattle.jm_awake.specs.Steps.{HasRoom, IsCovered, IsFewer, Takes, IsWokenAt, IsListedAt, AreListedIn, IsPlaceMade}
use Rattle.jm_awake.proofs.SoundLemmas.{entry_same, kept_within, found_along, taking_number}
use Rattle.jm_awake.proofs.WakeLemmas.{IsTidied}

-- ---- lists with one changed
module _ (items : List SlotList) (rows : List (List ℕ)) (cards : List Card) (letters : ℕ) (masks : List ℕ) (place : ℕ) (was new : SlotList) (low : place < length items) (at : was ≡ slice_index_or items place was) where
  abbrev before : Lists
  before = record { lists = items; rows = rows; cards = cards; letters = letters; masks = masks }

  abbrev after : Lists
  after = record { lists = slice_set items place new; rows = rows; cards = cards; letters = letters; masks = masks }

  pub was_at : was ≡ slice_index_or items place no_list
  was_at = at ∙ get_or_default items place was no_list low

  now_at : slice_index_or (slice_set items place new) place no_list ≡ new
  now_at = get_or-set_same items place new no_list low

  other_at : (p : ℕ) → (p ≡ place → ⊥) → slice_index_or (slice_set items place new) p no_list ≡ slice_index_or items p no_list
  other_at p other = get_or-set_other items place p new no_list other

  pub tidied_at : new ≡ record was { entries = filter (is_listed cards was.letter) was.entries } → IsTidied before after place
  tidied_at is = record {
    rows = refl;
    cards = refl;
    letters = refl;
    masks = refl;
    here = now_at ∙ is ∙ ap (λ (l : SlotList). (let x : SlotList = record l { entries = filter (is_listed cards l.letter) l.entries } in x)) was_at;
    others = other_at;
  }

  pub let_go_at : new.is_kept ≡ false → IsFewer before after
  let_go_at gone = record {
    rows = refl;
    cards = refl;
    letters = refl;
    masks = refl;
    each = λ p kept. elim (cases_eq p place) [
      | inl is ↦
          let here : (slice_index_or (slice_set items place new) place no_list).is_kept ≡ true = sym (ap (λ (n : ℕ). (slice_index_or (slice_set items place new) n no_list).is_kept) is) ∙ kept in
          let own : new.is_kept ≡ true = sym (ap (λ (l : SlotList). l.is_kept) now_at) ∙ here in
          absurd cc
      | inr other ↦ other_at p other
    ];
  }

pub tidied_past : (a : Lists) (place : ℕ) → length a.lists ≤ place → IsTidied a a place
tidied_past a place high =
    let none = get_or_past a.lists place no_list high in
    record {
      rows = refl;
      cards = refl;
      letters = refl;
      masks = refl;
      here = none ∙ sym (ap (λ (l : SlotList). (let x : SlotList = record l { entries = filter (is_listed a.cards l.letter) l.entries } in x)) none);
      others = λ p other. refl;
    }

pub fewer_same : (a : Lists) → IsFewer a a
fewer_same a = record { rows = refl; cards = refl; letters = refl; masks = refl; each = λ p kept. refl }

pub fewer_trans : (a b c : Lists) → IsFewer a b → IsFewer b c → IsFewer a c
fewer_trans a b c one two = record {
  rows = two.rows ∙ one.rows;
  cards = two.cards ∙ one.cards;
  letters = two.letters ∙ one.letters;
  masks = two.masks ∙ one.masks;
  each = λ p kept. two.each p kept ∙ one.each p (sym (ap (λ (l : SlotList). l.is_kept) (two.each p kept)) ∙ kept);
}

-- ---- cards
pub push_fresh : (cards : List Card) (k : ℕ) → slice_index_or (cards ++ fresh ∷ []) k fresh ≡ slice_index_or cards k fresh
push_fresh [] zero = refl
push_fresh [] (suc k) = refl
push_fresh (x ∷ cards) zero = refl
push_fresh (x ∷ cards) (suc k) = push_fresh cards k

-- ---- rows
pub push_none : (row : List ℕ) (p : ℕ) → slice_index (row ++ 0 ∷ []) p ≡ slice_index row p
push_none [] zero = refl
push_none [] (suc p) = refl
push_none (x ∷ row) zero = refl
push_none (x ∷ row) (suc p) = push_none row p

push_default : {X : Type 0} (xs : List X) (p : ℕ) (d : X) → slice_index_or (xs ++ d ∷ []) p d ≡ slice_index_or xs p d
push_default [] zero d = refl
push_default [] (suc p) d = refl
push_default (x ∷ xs) zero d = refl
push_default (x ∷ xs) (suc p) d = push_default xs p d

pub empty_row : (rows more : List (List ℕ)) (e p : ℕ) → more ≡ rows ++ [] ∷ [] → number_at more e p ≡ number_at rows e p
empty_row rows more e p is = ap (λ (l : List (List ℕ)). number_at l e p) is ∙ ap (λ (row : List ℕ). slice_index row p) (push_default rows e [])

pub room_low : (rows : List (List ℕ)) (e path : ℕ) → HasRoom rows e path → e < length rows
room_low rows e path room = elim (cases_lt e (length rows)) [
  | inl low ↦ low
  | inr high ↦ let none = ap (λ (l : List ℕ). length l) (get_or_past rows e [] high) in absurd (omega (arith, room, none))
]

-- one row changes, as it lies in memory
module _ {X : Type 0} (f : X → List ℕ) (rows : List X) (n : ℕ) (was row : X) (low : n < length rows) (is : was ≡ slice_index_or rows n was) where
  pub row_was : slice_index_or (map f rows) n [] ≡ f was
  row_was = get_or-map f rows n was [] low ∙ ap f (sym is)

  low_map : n < length (map f rows)
  low_map = let same = length-map rows f in omega (arith, low, same)

  pub row_now : slice_index_or (map f (slice_set rows n row)) n [] ≡ f row
  row_now = ap (λ (l : List (List ℕ)). slice_index_or l n []) (map-set f rows n row) ∙ get_or-set_same (map f rows) n (f row) [] low_map

  pub row_other : (e : ℕ) → (e ≡ n → ⊥) → slice_index_or (map f (slice_set rows n row)) e [] ≡ slice_index_or (map f rows) e []
  row_other e other = ap (λ (l : List (List ℕ)). slice_index_or l e []) (map-set f rows n row) ∙ get_or-set_other (map f rows) n e (f row) [] other

  pub same_rows : ((q : ℕ) → slice_index (f row) q ≡ slice_index (f was) q) → (e p : ℕ) → number_at (map f (slice_set rows n row)) e p ≡ number_at (map f rows) e p
  same_rows each e p = elim (cases_eq e n) [
    | inl here ↦
        ap (λ (k : ℕ). number_at (map f (slice_set rows n row)) k p) here ∙ ap (λ (r : List ℕ). slice_index r p) row_now ∙ each p ∙ sym (ap (λ (r : List ℕ). slice_index r p) row_was)
        ∙ sym (ap (λ (k : ℕ). number_at (map f rows) k p) here)
    | inr other ↦ ap (λ (r : List ℕ). slice_index r p) (row_other e other)
  ]

  pub written_here : (path number : ℕ) → path < length (f was) → f row ≡ slice_set (f was) path number → number_at (map f (slice_set rows n row)) n path ≡ number
  written_here path number room set = ap (λ (r : List ℕ). slice_index r path) (row_now ∙ set) ∙ get_or-set_same (f was) path number 0 room

  pub written_others : (path number : ℕ) → f row ≡ slice_set (f was) path number → (e p : ℕ) → (e ≡ n → p ≡ path → ⊥) → number_at (map f (slice_set rows n row)) e p ≡ number_at (map f rows) e p
  written_others path number set e p other = elim (cases_eq e n) [
    | inl here ↦
        ap (λ (k : ℕ). number_at (map f (slice_set rows n row)) k p) here ∙ ap (λ (r : List ℕ). slice_index r p) (row_now ∙ set)
        ∙ get_or-set_other (f was) path p number 0 (λ same. other here same) ∙ sym (ap (λ (r : List ℕ). slice_index r p) row_was)
        ∙ sym (ap (λ (k : ℕ). number_at (map f rows) k p) here)
    | inr else' ↦ ap (λ (r : List ℕ). slice_index r p) (row_other e else')
  ]

-- ---- the list that takes an instance
pub never_taken : (a : Lists) (e : ℕ) (t : Binding) (path : ℕ) → path ≡ path_in t (slice_index a.masks e) → ((place : ℕ) → place < length a.lists → number_at a.rows e path ≡ place + 1 → ⊥) → AreFound a → (p : ℕ) → IsKept a p → Takes a e t p → ⊥
never_taken a e t path is none found p kept takes = none p (kept_within a p kept) (ap (number_at a.rows e) is ∙ taking_number a p e t found kept takes)

pub only_taken : (a : Lists) (e : ℕ) (t : Binding) (path place : ℕ) → path ≡ path_in t (slice_index a.masks e) → number_at a.rows e path ≡ place + 1 → AreFound a → (p : ℕ) → IsKept a p → Takes a e t p → place ≡ p
only_taken a e t path place is number found p kept takes =
    let own : number_at a.rows e path ≡ p + 1 = ap (number_at a.rows e) is ∙ taking_number a p e t found kept takes in
    omega (arith, number, own)

pub takes_true : (l : SlotList) (e : ℕ) (t : Binding) → l.is_kept ≡ true → l.letter ≡ e → is_below l.binding t ≡ true → (l.is_kept && ((l.letter == e) && is_below l.binding t)) ≡ true
takes_true l e t kept letter below = and_from l.is_kept ((l.letter == e) && is_below l.binding t) kept (and_from (l.letter == e) (is_below l.binding t) (eq-eqb l.letter e letter) below)

pub takes_at : (l : SlotList) (e : ℕ) (t : Binding) → (l.is_kept && ((l.letter == e) && is_below l.binding t)) ≡ true → (l.letter ≡ e) × (is_below l.binding t ≡ true)
takes_at l e t is =
    let rest = (and_parts l.is_kept ((l.letter == e) && is_below l.binding t) is).1 in
    let parts = and_parts (l.letter == e) (is_below l.binding t) rest in
    (eqb-true l.letter e parts.0, parts.1)

-- ---- a slot that was put into the lists of a letter
module _ (items : List SlotList) (rows : List (List ℕ)) (cards : List Card) (letters : ℕ) (masks : List ℕ) (e slot : ℕ) (t : Binding) (card : Card) (low : slot < length cards) (age : card.age ≡ (slice_index_or cards slot fresh).age)
    (on : IsOn card e) (bits : (other : ℕ) → (other ≡ e → ⊥) → bit_at card.letters other ≡ bit_at (slice_index_or cards slot fresh).letters other) where
  abbrev first : Lists
  first = record { lists = items; rows = rows; cards = cards; letters = letters; masks = masks }

  abbrev mid : Lists
  mid = record { lists = items; rows = rows; cards = slice_set cards slot card; letters = letters; masks = masks }

  card_now : slice_index_or (slice_set cards slot card) slot fresh ≡ card
  card_now = get_or-set_same cards slot card fresh low

  mid_found : AreFound first → AreFound mid
  mid_found found = λ p kept. found_along first mid p (list_at first p) (list_at mid p) refl refl refl refl refl (found p kept)

  mid_takes : (p : ℕ) → Takes first e t p → Takes mid e t p
  mid_takes p takes = record { letter = takes.letter; below = takes.below }

  pub woken_none : (AreFound mid → (p : ℕ) → IsKept mid p → Takes mid e t p → ⊥) → IsWokenAt e slot t first mid
  woken_none none = record {
    rows = refl;
    letters = refl;
    masks = refl;
    size = length-set cards slot card;
    age = ap (λ (c : Card). c.age) card_now ∙ age;
    on = subst (λ (c : Card). IsOn c e) (sym card_now) on;
    bits = λ other differs. ap (λ (c : Card). bit_at c.letters other) card_now ∙ bits other differs;
    others = λ k differs. get_or-set_other cards slot k card fresh differs;
    lists = λ p kept. inl (refl, λ found takes. none (mid_found found) p kept (mid_takes p takes));
  }

  module _ (place : ℕ) (was new : SlotList) (there : place < length items) (at : was ≡ slice_index_or items place was) where
    abbrev last : Lists
    last = record { lists = slice_set items place new; rows = rows; cards = slice_set cards slot card; letters = letters; masks = masks }

    was_here : slice_index_or items place no_list ≡ was
    was_here = sym (at ∙ get_or_default items place was no_list there)

    pub woken_some : Takes mid e t place → (AreFound mid → (p : ℕ) → IsKept mid p → Takes mid e t p → Some place ≡ Some p) → (new.is_kept ≡ true → IsAddedTo (slice_set cards slot card) (entry_of slot card) was new) → IsWokenAt e slot t first last
    woken_some takes only added = record {
      rows = refl;
      letters = refl;
      masks = refl;
      size = length-set cards slot card;
      age = ap (λ (c : Card). c.age) card_now ∙ age;
      on = subst (λ (c : Card). IsOn c e) (sym card_now) on;
      bits = λ other differs. ap (λ (c : Card). bit_at c.letters other) card_now ∙ bits other differs;
      others = λ k differs. get_or-set_other cards slot k card fresh differs;
      lists = each;
    }
      where
        entry : entry_of slot card ≡ entry_of slot (slice_index_or cards slot fresh)
        entry = entry_same slot (slice_index_or cards slot fresh) card (ap (λ (n : ℕ). n / 2) age)

        each : (p : ℕ) → IsKept last p
            → ((list_at last p ≡ list_at first p) × (AreFound first → Takes first e t p → ⊥))
            ⊎ (Takes first e t p × IsAddedTo (slice_set cards slot card) (entry_of slot (slice_index_or cards slot fresh)) (list_at first p) (list_at last p))
        each p kept = elim (cases_eq p place) [
          | inl is ↦
              let now : list_at last p ≡ new = ap (list_at last) is ∙ get_or-set_same items place new no_list there in
              let before : list_at first p ≡ was = ap (list_at first) is ∙ was_here in
              let own : new.is_kept ≡ true = sym (ap (λ (l : SlotList). l.is_kept) now) ∙ kept in
              inr (
                record { letter = subst (λ (n : ℕ). (list_at first n).letter ≡ e) (sym is) takes.letter; below = subst (λ (n : ℕ). is_below (list_at first n).binding t ≡ true) (sym is) takes.below },
                subst (λ (l : SlotList). IsAddedTo (slice_set cards slot card) (entry_of slot (slice_index_or cards slot fresh)) l (list_at last p)) (sym before)
                    (subst (IsAddedTo (slice_set cards slot card) (entry_of slot (slice_index_or cards slot fresh)) was) (sym now)
                    (subst (λ (x : Listed). IsAddedTo (slice_set cards slot card) x was new) entry (added own))),
              )
          | inr other ↦
              let same : list_at last p ≡ list_at first p = get_or-set_other items place p new no_list other in
              inl (same, λ found mine. other (sym (same_Some place p (only (mid_found found) p (sym (ap (λ (l : SlotList). l.is_kept) same) ∙ kept) (mid_takes p mine)))))
        ]

-- ---- a slot that was listed, one after the other
module _ (items : List SlotList) (rows : List (List ℕ)) (cards : List Card) (letters : ℕ) (masks : List ℕ) (e slot : ℕ) (card : Card) (low : slot < length cards) (age : card.age ≡ (slice_index_or cards slot fresh).age) (on : IsOn card e)
    (bits : (other : ℕ) → (other ≡ e → ⊥) → bit_at card.letters other ≡ bit_at (slice_index_or cards slot fresh).letters other) (old : Lists)
    (covered : IsCovered old (record { lists = items; rows = rows; cards = cards; letters = letters; masks = masks })) where
  card_here : slice_index_or (slice_set cards slot card) slot fresh ≡ card
  card_here = get_or-set_same cards slot card fresh low

  -- the card of another slot, and this one's as it was
  card_there : (k : ℕ) → (k ≡ slot → ⊥) → slice_index_or (slice_set cards slot card) k fresh ≡ card_at old k
  card_there k other = get_or-set_other cards slot k card fresh other ∙ covered.same k

  card_was : slice_index_or cards slot fresh ≡ card_at old slot
  card_was = covered.same slot

  pub listed_at : (entry : Listed) → entry ≡ entry_of slot card → IsListedAt e slot entry old (record { lists = items; rows = rows; cards = slice_set cards slot card; letters = letters; masks = masks })
  listed_at entry is = record {
    carded = record {
      lists = covered.carded.lists;
      rows = covered.carded.rows;
      letters = covered.carded.letters;
      masks = covered.carded.masks;
      size = let size = covered.carded.size in let same = length-set cards slot card in omega (arith, size, same);
    };
    has = is ∙ entry_same slot (card_at old slot) card (ap (λ (n : ℕ). n / 2) (age ∙ ap (λ (c : Card). c.age) card_was));
    within = let same = length-set cards slot card in omega (arith, low, same);
    ages = λ k. elim (cases_eq k slot) [
      | inl here ↦ subst (λ (n : ℕ). (slice_index_or (slice_set cards slot card) n fresh).age ≡ (card_at old n).age) (sym here) (ap (λ (c : Card). c.age) card_here ∙ age ∙ ap (λ (c : Card). c.age) card_was)
      | inr other ↦ ap (λ (c : Card). c.age) (card_there k other)
    ];
    here = subst (λ (c : Card). IsOn c e) (sym card_here) on;
    bits = λ k other was. elim (cases_eq k slot) [
      | inl here ↦ subst (λ (n : ℕ). IsOn (slice_index_or (slice_set cards slot card) n fresh) other) (sym here)
          (subst (λ (c : Card). IsOn c other) (sym card_here) (on_now other (subst (λ (c : Card). IsOn c other) (sym card_was) (subst (λ (n : ℕ). IsOn (card_at old n) other) here was))))
      | inr differs ↦ subst (λ (c : Card). IsOn c other) (sym (card_there k differs)) was
    ];
    back = λ k other now. elim (cases_eq k slot) [
      | inl here ↦ elim (cases_eq other e) [
        | inl same ↦ inr (same, here)
        | inr differs ↦ inl (subst (λ (n : ℕ). IsOn (card_at old n) other) (sym here)
            (subst (λ (c : Card). IsOn c other) card_was (sym (bits other differs) ∙ subst (λ (c : Card). IsOn c other) card_here (subst (λ (n : ℕ). IsOn (slice_index_or (slice_set cards slot card) n fresh) other) here now))))
      ]
      | inr differs ↦ inl (subst (λ (c : Card). IsOn c other) (card_there k differs) now)
    ];
  }
    where
      on_now : (other : ℕ) → IsOn (slice_index_or cards slot fresh) other → IsOn card other
      on_now other was = elim (cases_eq other e) [
        | inl same ↦ subst (IsOn card) (sym same) on
        | inr differs ↦ bits other differs ∙ was
      ]

pub none_listed : (e : ℕ) (a : Lists) → AreListedIn e [] [] a a
none_listed e a = record {
  carded = record { lists = refl; rows = refl; letters = refl; masks = refl; size = omega arith };
  has = refl;
  within = λ k (i, low, is). absurd (omega (arith, low));
  ages = λ k. refl;
  here = λ k (i, low, is). absurd (omega (arith, low));
  bits = λ k other on. on;
  back = λ k other on. inl on;
}

pub listed_more : (e slot : ℕ) (slots : List ℕ) (entries : List Listed) (entry : Listed) (old mid new : Lists) → AreListedIn e slots entries old mid → IsListedAt e slot entry mid new → AreListedIn e (slots ++ slot ∷ []) (entries ++ entry ∷ []) old new
listed_more e slot slots entries entry old mid new all one = record {
  carded = record {
    lists = one.carded.lists ∙ all.carded.lists;
    rows = one.carded.rows ∙ all.carded.rows;
    letters = one.carded.letters ∙ all.carded.letters;
    masks = one.carded.masks ∙ all.carded.masks;
    size = let first = all.carded.size in let second = one.carded.size in omega (arith, first, second);
  };
  has = ap (λ (l : List Listed). l ++ entry ∷ []) all.has ∙ ap (λ (x : Listed). map (λ k. entry_of k (card_at old k)) slots ++ x ∷ []) (one.has ∙ entry_same slot (card_at old slot) (card_at mid slot) (ap (λ (n : ℕ). n / 2) (all.ages slot)))
      ∙ sym (map_push (λ k. entry_of k (card_at old k)) slots slot);
  within = λ k has. elim (Contains-push_cases slots slot k has) [
    | inl was ↦ let low = all.within k was in let size = one.carded.size in omega (arith, low, size)
    | inr same ↦ let low = one.within in omega (arith, low, same)
  ];
  ages = λ k. one.ages k ∙ all.ages k;
  here = λ k has. elim (Contains-push_cases slots slot k has) [
    | inl was ↦ one.bits k e (all.here k was)
    | inr same ↦ subst (λ (n : ℕ). IsOn (card_at new n) e) same one.here
  ];
  bits = λ k other on. one.bits k other (all.bits k other on);
  back = λ k other on. elim (one.back k other on) [
    | inl was ↦ elim (all.back k other was) [
      | inl first ↦ inl first
      | inr (same, has) ↦ inr (same, Contains-append_left slots (slot ∷ []) k has)
    ]
    | inr (same, here) ↦ inr (same, subst (Contains (slots ++ slot ∷ [])) (sym here) (Contains-push slots slot))
  ];
}

-- ---- a place that was made
pub place_found : (e path : ℕ) (a : Lists) (place : ℕ) → place < length a.lists → number_at a.rows e path ≡ place + 1 → IsPlaceMade e path a a place
place_found e path a place low number = record {
  within = low;
  number = number;
  cards = refl;
  letters = refl;
  masks = refl;
  lists = λ p kept. refl;
  rows = λ other q p within is. is;
}

pub place_made : (e path : ℕ) (items : List SlotList) (rows more : List (List ℕ)) (cards : List Card) (letters : ℕ) (masks : List ℕ) (l : SlotList) → l.is_kept ≡ false
    → ((place : ℕ) → place < length items → number_at rows e path ≡ place + 1 → ⊥) → number_at more e path ≡ length items + 1 → ((other q : ℕ) → (other ≡ e → q ≡ path → ⊥) → number_at more other q ≡ number_at rows other q)
    → IsPlaceMade e path (record { lists = items; rows = rows; cards = cards; letters = letters; masks = masks }) (record { lists = items ++ l ∷ []; rows = more; cards = cards; letters = letters; masks = masks }) (length items)
place_made e path items rows more cards letters masks l gone none number others = record {
  within = let size = length-append items (l ∷ []) in omega (arith, size);
  number = number;
  cards = refl;
  letters = refl;
  masks = refl;
  lists = λ p kept. elim (cases_lt p (length items)) [
    | inl low ↦ get_or_append_left items (l ∷ []) no_list p low
    | inr high ↦ absurd (false≢true (sym (not_kept p high) ∙ kept))
  ];
  rows = λ other q p low is. others other q (λ same here. none p low (sym (ap (λ (n : ℕ). number_at rows n path) same) ∙ sym (ap (number_at rows other) here) ∙ is)) ∙ is;
}
  where
    not_kept : (p : ℕ) → length items ≤ p → (slice_index_or (items ++ l ∷ []) p no_list).is_kept ≡ false
    not_kept p high = elim (cases_eq p (length items)) [
      | inl is ↦ ap (λ (n : ℕ). (slice_index_or (items ++ l ∷ []) n no_list).is_kept) is ∙ ap (λ (x : SlotList). x.is_kept) (get_or_push items l no_list (length items) refl) ∙ gone
      | inr past ↦ ap (λ (x : SlotList). x.is_kept) (get_or_past (items ++ l ∷ []) p no_list (let size = length-append items (l ∷ []) in omega (arith, high, past, size)))
    ]
