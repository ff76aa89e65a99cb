-- The coenable family of several properties is the union of theirs.
use Rattle.std.proofs.Common.{◌≡◌, ◌⊎◌, inl, inr, ℕ, zero, suc, ◌+◌, ◌<◌, ◌≤◌, Bool, true, false, List, [], ◌∷◌, ◌++◌, Option, Some, None, map, length, slice_get, Contains, refl, sym, ◌∙◌, ap, subst, arith}
use Rattle.std.specs.Prelude.{◌↔◌, ◌||◌}
use Rattle.std.specs.List.{AllByRecursion}
use Rattle.std.specs.List.Sorted.{IsStrictlySortedBy}
use Rattle.std.specs.Ordering.{nat_cmp}
use Rattle.std.proofs.lemmas.Bool.{cases_lt, false≢true}
use Rattle.std.proofs.lemmas.Option.{same_Some, none-some, slice_get_within}
use Rattle.jm_semantics.specs.Families.{IsNeeded, IsFamily}
use Rattle.jm_machine.specs.Formulas.{is_grammar}
use Rattle.jm_machine.specs.PropertyMeanings.{PropertyRules, property_meaning}
use Rattle.jm_machine.specs.Meanings.{has_grammar, rules_meaning}
use Rattle.jm_machine.specs.CompiledProperties.{CompiledProperty}
use Rattle.jm_machine.specs.RuleSets.{CompiledRules, IsRuleSet, property_of}
use Rattle.jm_machine.proofs.RuleLemmas.{needed_in}

-- ---- which properties are grammars

-- a property that has a family is no grammar
pub plain_some : {X : Type 0} (grammar : Bool) (family : Option X) (masks : X) → (grammar ≡ true → family ≡ None) → family ≡ Some masks → grammar ≡ false
plain_some false family masks none is = refl
plain_some true family masks none is = absurd (none-some masks (sym (none refl) ∙ is))

both_false : (a b : Bool) → (a || b) ≡ false → (a ≡ false) × (b ≡ false)
both_false false b none = (refl, none)
both_false true b none = absurd (false≢true (sym none))

no_grammar : (parts : List CompiledProperty) → ((j : ℕ) (part : CompiledProperty) → slice_get parts j ≡ Some part → is_grammar part.definition.formula ≡ false) → has_grammar (map property_of parts) ≡ false
no_grammar [] plain = refl
no_grammar (q ∷ parts) plain = rw (plain 0 q refl) (no_grammar parts (λ j part at. plain (suc j) part at))

plain_part : (parts : List CompiledProperty) → has_grammar (map property_of parts) ≡ false → (j : ℕ) (part : CompiledProperty) → slice_get parts j ≡ Some part → is_grammar part.definition.formula ≡ false
plain_part [] none j part at = absurd (none-some part at)
plain_part (q ∷ parts) none zero part at =
    ap (λ (c : CompiledProperty). is_grammar c.definition.formula) (sym (same_Some q part at)) ∙ (both_false (is_grammar q.definition.formula) (has_grammar (map property_of parts)) none).0
plain_part (q ∷ parts) none (suc j) part at = plain_part parts (both_false (is_grammar q.definition.formula) (has_grammar (map property_of parts)) none).1 j part at

module _ (r : CompiledRules) (set : IsRuleSet r) where
  pub letters_same : (j : ℕ) (part : CompiledProperty) → slice_get r.parts j ≡ Some part → length r.definition.masks ≡ length part.definition.masks
  letters_same j part at = ap (λ (d : PropertyRules). length d.masks) (set.about j part at)

  pub letter_in : (j : ℕ) (part : CompiledProperty) → slice_get r.parts j ≡ Some part → (e : ℕ) → e < length r.definition.masks → e < length part.definition.masks
  letter_in j part at e less = subst (λ (n : ℕ). e < n) (letters_same j part at) less

  -- where no property is a grammar, this one is none
  pub plain_in : has_grammar r.definition.properties ≡ false → (j : ℕ) (part : CompiledProperty) → slice_get r.parts j ≡ Some part → is_grammar part.definition.formula ≡ false
  plain_in none j part at = plain_part r.parts (rw set.properties at none) j part at

-- ---- the masks of the first so many properties

module _ (r : CompiledRules) (e : ℕ) where
  -- these are needed of the property after some word that ends in the letter
  abbrev IsNeededIn : CompiledProperty → ℕ → Type 0
  IsNeededIn part mask =
      (w : List ℕ) × AllByRecursion (λ d. d < length part.definition.masks) w × IsNeeded (property_meaning part.definition) (w ++ e ∷ []) mask

  -- none of the first so many properties is a grammar, and these masks are those of their families
  pub record IsJoined (n : ℕ) (masks : List ℕ) : Type 0 where
    pub plain : (j : ℕ) (part : CompiledProperty) → j < n → slice_get r.parts j ≡ Some part → is_grammar part.definition.formula ≡ false
    pub rising : IsStrictlySortedBy nat_cmp masks
    pub few : (mask : ℕ) → Contains masks mask → mask < 256
    pub exact : (mask : ℕ) → Contains masks mask ↔ ((j : ℕ) × (part : CompiledProperty) × (j < n) × (slice_get r.parts j ≡ Some part) × IsNeededIn part mask)

  module _ (n : ℕ) (own : CompiledProperty) (at : slice_get r.parts n ≡ Some own) where
    same_here : (j : ℕ) (part : CompiledProperty) → j ≡ n → slice_get r.parts j ≡ Some part → own ≡ part
    same_here j part same there = same_Some own part (sym at ∙ ap (λ (x : ℕ). slice_get r.parts x) (sym same) ∙ there)

    -- with those of one property more
    pub join_more : (before masks after : List ℕ) → IsJoined n before → is_grammar own.definition.formula ≡ false → IsFamily (property_meaning own.definition) e masks → ((mask : ℕ) → Contains masks mask → mask < 256)
        → IsStrictlySortedBy nat_cmp after → ((mask : ℕ) → Contains after mask → mask < 256) → ((mask : ℕ) → mask < 256 → Contains after mask ↔ (Contains before mask ⊎ Contains masks mask)) → IsJoined (n + 1) after
    join_more before masks after joined plain family bytes rising few exact = record {
      plain = λ j part less there. elim (cases_lt j n) [
        | inl earlier ↦ joined.plain j part earlier there
        | inr late ↦ subst (λ (c : CompiledProperty). is_grammar c.definition.formula ≡ false) (same_here j part (omega (arith, less, late)) there) plain
      ];
      rising = rising;
      few = few;
      exact = λ mask. (
        λ held. elim ((exact mask (few mask held)).0 held) [
          | inl old ↦ let h = (joined.exact mask).0 old in (h.0, h.1, omega (arith, h.2), h.3, h.4)
          | inr new ↦ (n, own, omega arith, at, (family.exact mask).0 new)
        ],
        λ h. elim (cases_lt h.0 n) [
          | inl earlier ↦
              let old = (joined.exact mask).1 (h.0, h.1, earlier, h.3, h.4) in
              (exact mask (joined.few mask old)).1 (inl old)
          | inr late ↦
              let same = same_here h.0 h.1 (omega (arith, h.2, late)) h.3 in
              let new = (family.exact mask).1 (subst (λ (c : CompiledProperty). IsNeededIn c mask) (sym same) h.4) in
              (exact mask (bytes mask new)).1 (inr new)
        ],
      );
    }

  -- those of the first one
  pub join_first : (own : CompiledProperty) (masks : List ℕ) → slice_get r.parts 0 ≡ Some own → is_grammar own.definition.formula ≡ false → IsFamily (property_meaning own.definition) e masks → ((mask : ℕ) → Contains masks mask → mask < 256) → IsJoined 1 masks
  join_first own masks at plain family bytes = record {
    plain = λ j part less there. subst (λ (c : CompiledProperty). is_grammar c.definition.formula ≡ false) (same_here 0 own at j part (omega (arith, less)) there) plain;
    rising = family.rising;
    few = bytes;
    exact = λ mask. (
      λ held. (0, own, omega arith, at, (family.exact mask).0 held),
      λ h.
          let same = same_here 0 own at h.0 h.1 (omega (arith, h.2)) h.3 in
          (family.exact mask).1 (subst (λ (c : CompiledProperty). IsNeededIn c mask) (sym same) h.4),
    );
  }

-- ---- those of all properties

module _ (r : CompiledRules) (set : IsRuleSet r) (e n : ℕ) (masks : List ℕ) (all : length r.parts ≤ n) (joined : IsJoined r e n masks) where
  pub join_all : IsFamily (rules_meaning r.definition) e masks
  join_all = record {
    rising = joined.rising;
    exact = λ mask. (
      λ held.
          let h = (joined.exact mask).0 held in
          let needed = h.4 in (
            needed.0,
            subst (λ (m : ℕ). AllByRecursion (λ d. d < m) needed.0) (sym (letters_same r set h.0 h.1 h.3)) needed.1,
            (needed_in r set (needed.0 ++ e ∷ []) mask).1 (h.0, h.1, h.3, needed.2),
          ),
      λ h.
          let part = (needed_in r set (h.0 ++ e ∷ []) mask).0 h.2 in
          let within = slice_get_within r.parts part.0 part.1 part.2 in
          (joined.exact mask).1 (
            part.0,
            part.1,
            omega (arith, within, all),
            part.2,
            (h.0, subst (λ (m : ℕ). AllByRecursion (λ d. d < m) h.0) (letters_same r set part.0 part.1 part.2) h.1, part.3),
          ),
    );
  }

  -- so no property is a grammar
  pub join_plain : has_grammar r.definition.properties ≡ false
  join_plain =
      let none = no_grammar r.parts (λ j part at. let within = slice_get_within r.parts j part at in joined.plain j part (omega (arith, within, all)) at) in
      ap has_grammar set.properties ∙ none
