-- One slot's card changes: its monitor is mourned, rests or goes, or another comes.
use Rattle.std.proofs.Common.{◌≡◌, ℕ, ◌≤◌, ◌+◌, ◌*◌, ◌/◌, ◌%◌, ◌⊎◌, inl, inr, Bool, true, cond, Option, Some, None, length, refl, sym, ap, ◌∙◌, subst, arith}
use Rattle.std.specs.Prelude.{Contains, List, slice_index_or, ◌==◌, ◌&&◌, nat_lt}
use Rattle.std.specs.Int.{bit_at}
use Rattle.std.proofs.lemmas.Bool.{cases_eq, eq-eqb, eqb-true, false_from_ne_true}
use Rattle.std.proofs.lemmas.Option.{same_Some, none-some}
use Rattle.std.proofs.lemmas.Nat.Bits.{bit_at-zero}
use Rattle.std.proofs.lemmas.List.{get_or_past}
use Rattle.jm_model.specs.Bindings.{is_below}
use Rattle.jm_awake.specs.declared.card.Listed.{Listed}
use Rattle.jm_awake.specs.declared.card.Card.{Card}
use Rattle.jm_awake.specs.Awake.{Lists, fresh, list_at, card_at, IsOn, IsThere, IsMourned, entry_of, is_there, IsKept, Occupant, Occupants, with_slot, IsOccupied, AreSoundBut}
use Rattle.jm_awake.specs.Steps.{IsCarded, IsAged, IsUnlisted, Takes}
use Rattle.jm_awake.proofs.SoundLemmas.{entry_same, same_place, stepped_sound}

-- ---- another monitor in a slot
pub with_here : (o : Occupants) (slot : ℕ) (x : Option Occupant) → with_slot o slot x slot ≡ x
with_here o slot x = ap (λ (b : Bool). cond b x (o slot)) (eq-eqb slot slot refl)

pub with_other : (o : Occupants) (slot k : ℕ) (x : Option Occupant) → (k ≡ slot → ⊥) → with_slot o slot x k ≡ o k
with_other o slot k x other = ap (λ (b : Bool). cond b x (o k)) (false_from_ne_true (k == slot) (λ is. other (eqb-true k slot is)))

none_or_some : (v : Option Occupant) → (v ≡ None) ⊎ ((x : Occupant) × (v ≡ Some x))
none_or_some None = inl refl
none_or_some (Some x) = inr (x, refl)

-- ---- another monitor came; the age is odd now, or the monitor has no dead object
pub came_sound : (q : Option ℕ) (o : Occupants) (old new : Lists) (slot : ℕ) (y : Occupant) → IsCarded old new → ((k : ℕ) → (k ≡ slot → ⊥) → card_at new k ≡ card_at old k) → IsAged (card_at old slot) (card_at new slot)
    → (y.has_dead ≡ true → IsMourned (card_at new slot)) → ((x : Occupant) → o slot ≡ Some x → x.instance ≡ y.instance) → AreSoundBut q o old → AreSoundBut q (with_slot o slot (Some y)) new
came_sound q o old new slot y carded others aged mourned same sound =
    stepped_sound q o (with_slot o slot (Some y)) old new slot carded (λ k other. (others k other, with_other o slot k (Some y) other))
    (record {
      aged = aged.more;
      listed = λ place x kept at below on. subst (Contains (list_at old place).entries) (sym entry) (in_list place x kept at below on);
      there = λ place x kept has is there. of_list place x kept has is there;
      blank = λ e free on. none-some y (sym free ∙ with_here o slot (Some y));
    })
    sound
  where
    entry : entry_of slot (card_at new slot) ≡ entry_of slot (card_at old slot)
    entry = entry_same slot (card_at old slot) (card_at new slot) aged.half

    on_back : (e : ℕ) → IsOn (card_at new slot) e → IsOn (card_at old slot) e
    on_back e on = sym (ap (λ (n : ℕ). bit_at n e) aged.letters) ∙ on

    in_list : (place : ℕ) (x : Occupant) → IsKept old place → with_slot o slot (Some y) slot ≡ Some x → is_below (list_at old place).binding x.instance ≡ true → IsOn (card_at new slot) (list_at old place).letter
        → Contains (list_at old place).entries (entry_of slot (card_at old slot))
    in_list place x kept at below on = elim (none_or_some (o slot)) [
      | inl free ↦ absurd (sound.blank slot (list_at old place).letter free (on_back (list_at old place).letter on))
      | inr (z, here) ↦
          let is : y ≡ x = same_Some y x (sym (with_here o slot (Some y)) ∙ at) in
          sound.listed place slot z kept here
          (ap (is_below (list_at old place).binding) (same z here ∙ ap (λ (w : Occupant). w.instance) is) ∙ below) (on_back (list_at old place).letter on)
    ]

    old_there : (x : Listed) → x.slot ≡ slot → IsThere (slice_index_or new.cards x.slot fresh) x → IsThere (slice_index_or old.cards x.slot fresh) x
    old_there x is there =
        there ∙ ap (λ (n : ℕ). (slice_index_or new.cards n fresh).age / 2) is ∙ aged.half ∙ sym (ap (λ (n : ℕ). (slice_index_or old.cards n fresh).age / 2) is)

    of_list : (place : ℕ) (x : Listed) → IsKept old place → Contains (list_at old place).entries x → x.slot ≡ slot → IsThere (slice_index_or new.cards x.slot fresh) x
        → IsOccupied (q ≡ Some place) (with_slot o slot (Some y)) new.cards (list_at old place) x
    of_list place x kept has is there =
        let was = sound.each place x kept has in
        let before = was.there (old_there x is there) in
        let even = was.even in
        let own : before.occupant.instance ≡ y.instance = same before.occupant (sym (ap o is) ∙ before.here) in
        record {
          occupant = y;
          here = ap (with_slot o slot (Some y)) is ∙ with_here o slot (Some y);
          below = sym (ap (is_below (list_at old place).binding) own) ∙ before.below;
          whole = λ whole. false_from_ne_true y.has_dead (λ (dead : y.has_dead ≡ true).
              let odd : (card_at new slot).age % 2 ≡ 1 = mourned dead in
              let age : x.age ≡ (card_at new slot).age = whole ∙ ap (λ (n : ℕ). (slice_index_or new.cards n fresh).age) is in
              omega (arith, even, odd, age));
          on = λ tight. subst (λ (n : ℕ). IsOn (slice_index_or new.cards n fresh) (list_at old place).letter) (sym is)
              (ap (λ (n : ℕ). bit_at n (list_at old place).letter) aged.letters
              ∙ subst (λ (n : ℕ). IsOn (slice_index_or old.cards n fresh) (list_at old place).letter) is (before.on tight));
        }

-- the monitor stays, and is mourned or not
pub mourned_sound : (q : Option ℕ) (o : Occupants) (old new : Lists) (slot : ℕ) → IsCarded old new → ((k : ℕ) → (k ≡ slot → ⊥) → card_at new k ≡ card_at old k) → IsAged (card_at old slot) (card_at new slot)
    → IsMourned (card_at new slot) → AreSoundBut q o old → AreSoundBut q o new
mourned_sound q o old new slot carded others aged odd sound =
    stepped_sound q o o old new slot carded (λ k other. (others k other, refl))
    (record {
      aged = aged.more;
      listed = λ place x kept at below on. subst (Contains (list_at old place).entries) (sym (entry_same slot (card_at old slot) (card_at new slot) aged.half))
          (sound.listed place slot x kept at below (sym (ap (λ (n : ℕ). bit_at n (list_at old place).letter) aged.letters) ∙ on));
      there = λ place x kept has is there. of_list place x kept has is there;
      blank = λ e free on. sound.blank slot e free (sym (ap (λ (n : ℕ). bit_at n e) aged.letters) ∙ on);
    })
    sound
  where
    of_list : (place : ℕ) (x : Listed) → IsKept old place → Contains (list_at old place).entries x → x.slot ≡ slot → IsThere (slice_index_or new.cards x.slot fresh) x
        → IsOccupied (q ≡ Some place) o new.cards (list_at old place) x
    of_list place x kept has is there =
        let was = sound.each place x kept has in
        let even = was.even in
        let before = was.there (there ∙ ap (λ (n : ℕ). (slice_index_or new.cards n fresh).age / 2) is ∙ aged.half ∙ sym (ap (λ (n : ℕ). (slice_index_or old.cards n fresh).age / 2) is)) in
        record {
          occupant = before.occupant;
          here = before.here;
          below = before.below;
          whole = λ whole.
              let age : x.age ≡ (card_at new slot).age = whole ∙ ap (λ (n : ℕ). (slice_index_or new.cards n fresh).age) is in
              absurd (omega (arith, even, odd, age));
          on = λ tight. subst (λ (n : ℕ). IsOn (slice_index_or new.cards n fresh) (list_at old place).letter) (sym is)
              (ap (λ (n : ℕ). bit_at n (list_at old place).letter) aged.letters
              ∙ subst (λ (n : ℕ). IsOn (slice_index_or old.cards n fresh) (list_at old place).letter) is (before.on tight));
        }

-- ---- the slot is left
pub left_sound : (q : Option ℕ) (o : Occupants) (old new : Lists) (slot : ℕ) → IsCarded old new → ((k : ℕ) → (k ≡ slot → ⊥) → card_at new k ≡ card_at old k) → (card_at new slot).letters ≡ 0
    → (card_at new slot).age ≡ (card_at old slot).age / 2 * 2 + 2 → AreSoundBut q o old → AreSoundBut q (with_slot o slot None) new
left_sound q o old new slot carded others letters age sound =
    stepped_sound q o (with_slot o slot None) old new slot carded (λ k other. (others k other, with_other o slot k None other))
    (record {
      aged = omega (arith, age);
      listed = λ place x kept at. absurd (none-some x (sym (with_here o slot None) ∙ at));
      there = λ place x kept has is there.
          let old_age = (sound.each place x kept has).aged in
          let here = ap (λ (n : ℕ). (slice_index_or new.cards n fresh).age) is in
          let was = ap (λ (n : ℕ). (slice_index_or old.cards n fresh).age) is in
          absurd (omega (arith, old_age, here, was, age, there));
      blank = λ e free on.
          let zero : bit_at (card_at new slot).letters e ≡ 0 = ap (λ (n : ℕ). bit_at n e) letters ∙ bit_at-zero e in
          omega (arith, zero, on);
    })
    sound

-- ---- the slot is taken out of the lists of a letter
pub unlisted_sound : (o : Occupants) (old new : Lists) (slot e place : ℕ) (y : Occupant) → IsCarded old new → ((k : ℕ) → (k ≡ slot → ⊥) → card_at new k ≡ card_at old k)
    → IsUnlisted e (card_at old slot) (card_at new slot) → IsKept old place → Takes old e y.instance place → o slot ≡ Some y
    → AreSoundBut (Some place) o old → AreSoundBut (Some place) o new
unlisted_sound o old new slot e place y carded others card here takes own sound =
    stepped_sound (Some place) o o old new slot carded (λ k other. (others k other, refl))
    (record {
      aged = omega (arith, card.age);
      listed = λ p x kept at below on. subst (Contains (list_at old p).entries) (sym (entry_same slot (card_at old slot) (card_at new slot) (ap (λ (n : ℕ). n / 2) card.age)))
          (sound.listed p slot x kept at below (card.back (list_at old p).letter on));
      there = λ p x kept has is there. of_list p x kept has is there;
      blank = λ k free on. sound.blank slot k free (card.back k on);
    })
    sound
  where
    of_list : (p : ℕ) (x : Listed) → IsKept old p → Contains (list_at old p).entries x → x.slot ≡ slot → IsThere (slice_index_or new.cards x.slot fresh) x
        → IsOccupied (Some place ≡ Some p) o new.cards (list_at old p) x
    of_list p x kept has is there =
        let was = sound.each p x kept has in
        let ages : (slice_index_or new.cards x.slot fresh).age ≡ (slice_index_or old.cards x.slot fresh).age =
        ap (λ (n : ℕ). (slice_index_or new.cards n fresh).age) is ∙ card.age ∙ sym (ap (λ (n : ℕ). (slice_index_or old.cards n fresh).age) is)
        in
        let before = was.there (there ∙ ap (λ (n : ℕ). n / 2) ages) in
        record {
          occupant = before.occupant;
          here = before.here;
          below = before.below;
          whole = λ whole. before.whole (whole ∙ ages);
          on = λ tight. subst (λ (n : ℕ). IsOn (slice_index_or new.cards n fresh) (list_at old p).letter) (sym is)
              (elim (cases_eq (list_at old p).letter e) [
                | inl letter ↦
                    let same : y ≡ before.occupant = same_Some y before.occupant (sym own ∙ sym (ap o is) ∙ before.here) in
                    let mine : Takes old e y.instance p = record { letter = letter; below = ap (λ (z : Occupant). is_below (list_at old p).binding z.instance) same ∙ before.below } in
                    absurd (tight (ap (λ (n : ℕ). Some n) (same_place old place p e y.instance sound.found here kept takes mine)))
                | inr other ↦
                    card.bits (list_at old p).letter (sound.found p kept).low other
                    ∙ subst (λ (n : ℕ). IsOn (slice_index_or old.cards n fresh) (list_at old p).letter) is (before.on tight)
              ]);
        }

-- a slot that has no card, and so no monitor's entries
pub left_past : (q : Option ℕ) (o : Occupants) (a : Lists) (slot : ℕ) → length a.cards ≤ slot → AreSoundBut q o a → AreSoundBut q (with_slot o slot None) a
left_past q o a slot high sound =
    stepped_sound q o (with_slot o slot None) a a slot (record { lists = refl; rows = refl; letters = refl; masks = refl; size = omega arith }) (λ k other. (refl, with_other o slot k None other))
    (record {
      aged = omega arith;
      listed = λ place x kept at. absurd (none-some x (sym (with_here o slot None) ∙ at));
      there = λ place x kept has is there.
          let low = (sound.each place x kept has).within in
          absurd (omega (arith, low, high, is));
      blank = λ e free on.
          let off = bit_at-zero e in
          let zero : bit_at (card_at a slot).letters e ≡ 0 = ap (λ (c : Card). bit_at c.letters e) (get_or_past a.cards slot fresh high) ∙ off in
          omega (arith, zero, on);
    })
    sound

-- a slot without a monitor gets one that no list has; or it has it already
pub comes_unlisted : (q : Option ℕ) (o : Occupants) (a : Lists) (slot : ℕ) (y : Occupant) → (o slot ≡ None) ⊎ (o slot ≡ Some y) → AreSoundBut q o a → AreSoundBut q (with_slot o slot (Some y)) a
comes_unlisted q o a slot y free sound =
    stepped_sound q o (with_slot o slot (Some y)) a a slot (record { lists = refl; rows = refl; letters = refl; masks = refl; size = omega arith }) (λ k other. (refl, with_other o slot k (Some y) other))
    (record {
      aged = omega arith;
      listed = λ place x kept at below on. elim free [
        | inl none ↦ absurd (sound.blank slot (list_at a place).letter none on)
        | inr some ↦ sound.listed place slot x kept (some ∙ sym (with_here o slot (Some y)) ∙ at) below on
      ];
      there = λ place x kept has is there.
          let was = (sound.each place x kept has).there there in
          elim free [
            | inl none ↦ absurd (none-some was.occupant (sym none ∙ sym (ap o is) ∙ was.here))
            | inr some ↦ record {
              occupant = was.occupant;
              here = ap (with_slot o slot (Some y)) is ∙ with_here o slot (Some y) ∙ sym some ∙ sym (ap o is) ∙ was.here;
              below = was.below;
              whole = was.whole;
              on = was.on;
            }
          ];
      blank = λ e none on. absurd (none-some y (sym none ∙ with_here o slot (Some y)));
    })
    sound

-- cards of the same ages count the same
pub there_same : (old new : List Card) → length new ≡ length old → ((k : ℕ) → (slice_index_or new k fresh).age ≡ (slice_index_or old k fresh).age) → (x : Listed) → is_there new x ≡ is_there old x
there_same old new size ages x =
    ap (λ (n : ℕ). nat_lt x.slot n && ((slice_index_or new x.slot fresh).age / 2 == x.age / 2)) size
    ∙ ap (λ (n : ℕ). nat_lt x.slot (length old) && (n / 2 == x.age / 2)) (ages x.slot)
