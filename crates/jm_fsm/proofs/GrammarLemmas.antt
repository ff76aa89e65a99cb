-- The grammar's rules, as a reader goes by them, spell what the grammar spells.
use Rattle.std.proofs.Common.{◌≡◌, ℕ, ◌<◌, true, false, List, [], ◌∷◌, ◌++◌, length, Option, Some, None, refl, sym, ap, subst, ◌∙◌, inl, inr, arith, append_assoc, append-nil, length-append}
use Rattle.std.specs.Prelude.{codes}
use Rattle.std.specs.List.{list_any}
use Rattle.jm_text.specs.declared.token.Token.{Token}
use Rattle.jm_fsm.specs.declared.formula.TransitionText.{TransitionText}
use Rattle.jm_fsm.specs.declared.formula.TransitionText.TheVariants.{On, Fallback}
use Rattle.jm_fsm.specs.declared.formula.Part.{Part}
use Rattle.jm_fsm.specs.declared.formula.Part.TheVariants.{Declaration, Alias}
use Rattle.jm_reading.specs.Reading.{is_mark_at, is_left, mark_at, name_at, word_at}
use Rattle.jm_reading.specs.Taking.{many_at, parted_at}
use Rattle.jm_fsm.specs.Rules.{fallback_at, listed_at, begins_fallback, transition_at, comma_at, entry_at, is_inside, declaration_at, begins_more_member, alias_at, begins_alias, part_at, with_a_state, formula_at}
use Rattle.jm_reading.specs.Tokens.{IsName, IsMark, IsWord, SpellsEach}
use Rattle.jm_fsm.specs.Spelling.{SpellsTransition, SpellsComma, SpellsEntry, SpellsName, SpellsPart, is_state, Spells}
use Rattle.jm_reading.proofs.TokenLemmas.{name_no_mark, word_no_mark, mark_is, name_is, word_is, if_some, mark_read, name_read, word_read, step_of, one_of, and_true, and_false, not_true, not_false, first_of_two, second_of_two, other_mark}
use Rattle.jm_reading.proofs.ManyLemmas.{IsSoundRule, many_sound, IsCompleteRule, many_complete, parted_sound, parted_complete}

module _ (bytes : List ℕ) where
  -- ---- what a rule reads, its tokens spell

  fallback_sound : (tokens behind : List Token) (t : TransitionText) → fallback_at bytes tokens ≡ Some (t, behind) → (first : List Token) × (tokens ≡ first ++ behind) × SpellsTransition bytes first t
  unfolding fallback_at
  fallback_sound tokens behind t h =
      let a = step_of (word_at bytes (codes "default") tokens) _ _ h in
      let word = word_read bytes (codes "default") tokens a.0.1 a.0.0 a.1 in
      let b = step_of (name_at bytes a.0.1) _ _ a.2 in
      let destination = name_read bytes a.0.1 b.0.1 b.0.0 b.1 in
      let e : ◌≡◌ {A = TransitionText × List Token} (Fallback a.0.0 b.0.0, b.0.1) (t, behind) = cc (b.2) in (
        a.0.0 ∷ b.0.0 ∷ [],
        word.0 ∙ ap (λ (l : List Token). a.0.0 ∷ l) destination.0 ∙ ap (λ (x : TransitionText × List Token). a.0.0 ∷ b.0.0 ∷ x.1) e,
        subst (λ (x : TransitionText). SpellsTransition bytes (a.0.0 ∷ b.0.0 ∷ []) x) (ap (λ (x : TransitionText × List Token). x.0) e) (refl, word.1, destination.1),
      )

  listed_sound : (tokens behind : List Token) (t : TransitionText) → listed_at bytes tokens ≡ Some (t, behind) → (first : List Token) × (tokens ≡ first ++ behind) × SpellsTransition bytes first t
  unfolding listed_at
  listed_sound tokens behind t h =
      let a = step_of (name_at bytes tokens) _ _ h in
      let event = name_read bytes tokens a.0.1 a.0.0 a.1 in
      let b = step_of (mark_at bytes (codes "->") a.0.1) _ _ a.2 in
      let arrow = mark_read bytes (codes "->") a.0.1 b.0 b.1 in
      let d = step_of (name_at bytes b.0) _ _ b.2 in
      let destination = name_read bytes b.0 d.0.1 d.0.0 d.1 in
      let e : ◌≡◌ {A = TransitionText × List Token} (On a.0.0 d.0.0, d.0.1) (t, behind) = cc (d.2) in (
        a.0.0 ∷ arrow.token ∷ d.0.0 ∷ [],
        event.0 ∙ ap (λ (l : List Token). a.0.0 ∷ l) arrow.cut ∙ ap (λ (l : List Token). a.0.0 ∷ arrow.token ∷ l) destination.0 ∙ ap (λ (x : TransitionText × List Token). a.0.0 ∷ arrow.token ∷ d.0.0 ∷ x.1) e,
        subst (λ (x : TransitionText). SpellsTransition bytes (a.0.0 ∷ arrow.token ∷ d.0.0 ∷ []) x) (ap (λ (x : TransitionText × List Token). x.0) e) (arrow.token, refl, event.1, arrow.is, destination.1),
      )

  transition_sound : (tokens behind : List Token) (t : TransitionText) → transition_at bytes tokens ≡ Some (t, behind) → (first : List Token) × (tokens ≡ first ++ behind) × SpellsTransition bytes first t
  unfolding transition_at
  transition_sound tokens behind t h = elim (one_of (begins_fallback bytes tokens) (fallback_at bytes tokens) (listed_at bytes tokens) (t, behind) h) [
    | inl fall ↦ fallback_sound tokens behind t fall.1
    | inr list ↦ listed_sound tokens behind t list.1
  ]

  comma_sound : (tokens behind : List Token) → comma_at bytes tokens ≡ Some behind → (first : List Token) × (tokens ≡ first ++ behind) × SpellsComma bytes first
  unfolding comma_at
  comma_sound tokens behind h = elim (one_of (is_mark_at bytes tokens 0 (codes ",")) (mark_at bytes (codes ",") tokens) (Some tokens) behind h) [
    | inl some ↦ let c = mark_read bytes (codes ",") tokens behind some.1 in (c.token ∷ [], c.cut, inr (c.token, refl, c.is))
    | inr none ↦ ([], cc (none.1), inl refl)
  ]

  entry_sound : (tokens behind : List Token) (t : TransitionText) → entry_at bytes tokens ≡ Some (t, behind) → (first : List Token) × (tokens ≡ first ++ behind) × SpellsEntry bytes first t
  unfolding entry_at
  entry_sound tokens behind t h =
      let a = step_of (transition_at bytes tokens) _ _ h in
      let one = transition_sound tokens a.0.1 a.0.0 a.1 in
      let b = step_of (comma_at bytes a.0.1) _ _ a.2 in
      let c = comma_sound a.0.1 b.0 b.1 in
      let e : ◌≡◌ {A = TransitionText × List Token} (a.0.0, b.0) (t, behind) = cc (b.2) in (
        one.0 ++ c.0,
        one.1 ∙ ap (λ (l : List Token). one.0 ++ l) c.1 ∙ sym (append_assoc one.0 c.0 b.0) ∙ ap (λ (x : TransitionText × List Token). (one.0 ++ c.0) ++ x.1) e,
        subst (λ (x : TransitionText). SpellsEntry bytes (one.0 ++ c.0) x) (ap (λ (x : TransitionText × List Token). x.0) e) (one.0, c.0, refl, one.2, c.2),
      )

  declaration_sound : (tokens behind : List Token) (p : Part) → declaration_at bytes tokens ≡ Some (p, behind) → (first : List Token) × (tokens ≡ first ++ behind) × SpellsPart bytes first p
  unfolding declaration_at
  declaration_sound tokens behind p h =
      let a = step_of (name_at bytes tokens) _ _ h in
      let name = name_read bytes tokens a.0.1 a.0.0 a.1 in
      let b = step_of (mark_at bytes (codes "[") a.0.1) _ _ a.2 in
      let opening = mark_read bytes (codes "[") a.0.1 b.0 b.1 in
      let d = step_of (many_at is_inside entry_at [] bytes b.0) _ _ b.2 in
      let inner = many_sound is_inside entry_at bytes (SpellsEntry bytes) entry_sound [] d.0.0 b.0 d.0.1 d.1 in
      let k = step_of (mark_at bytes (codes "]") d.0.1) _ _ d.2 in
      let closing = mark_read bytes (codes "]") d.0.1 k.0 k.1 in
      let e : ◌≡◌ {A = Part × List Token} (Declaration a.0.0 d.0.0, k.0) (p, behind) = cc (k.2) in
      let f : k.0 ≡ behind = ap (λ (x : Part × List Token). x.1) e in
      let whole = a.0.0 ∷ opening.token ∷ (inner.inner ++ closing.token ∷ []) in (
        whole,
        name.0 ∙ ap (λ (l : List Token). a.0.0 ∷ l) opening.cut ∙ ap (λ (l : List Token). a.0.0 ∷ opening.token ∷ l) (inner.cut ∙ ap (λ (l : List Token). inner.inner ++ l) (closing.cut ∙ ap (λ (l : List Token). closing.token ∷ l) f) ∙ sym (append_assoc inner.inner (closing.token ∷ []) behind)),
        subst (λ (x : Part). SpellsPart bytes whole x) (ap (λ (x : Part × List Token). x.0) e)
            (opening.token, closing.token, inner.inner, refl, name.1, opening.is, subst (λ (l : List TransitionText). SpellsEach (SpellsEntry bytes) inner.inner l) (sym inner.added) inner.spelled, closing.is),
      )

  name_sound : IsSoundRule begins_more_member name_at bytes (SpellsName bytes)
  name_sound tokens behind name h = let read = name_read bytes tokens behind name h in (name ∷ [], read.0, (refl, read.1))

  alias_sound : (tokens behind : List Token) (p : Part) → alias_at bytes tokens ≡ Some (p, behind) → (first : List Token) × (tokens ≡ first ++ behind) × SpellsPart bytes first p
  unfolding alias_at
  alias_sound tokens behind p h =
      let a = step_of (word_at bytes (codes "alias") tokens) _ _ h in
      let word = word_read bytes (codes "alias") tokens a.0.1 a.0.0 a.1 in
      let b = step_of (name_at bytes a.0.1) _ _ a.2 in
      let name = name_read bytes a.0.1 b.0.1 b.0.0 b.1 in
      let d = step_of (mark_at bytes (codes "=") b.0.1) _ _ b.2 in
      let equals = mark_read bytes (codes "=") b.0.1 d.0 d.1 in
      let g = step_of (parted_at (codes ",") name_at begins_more_member bytes d.0) _ _ d.2 in
      let inner = parted_sound (codes ",") begins_more_member name_at bytes (SpellsName bytes) name_sound d.0 g.0.1 g.0.0 g.1 in
      let e : ◌≡◌ {A = Part × List Token} (Alias b.0.0 g.0.0, g.0.1) (p, behind) = cc (g.2) in
      let whole = a.0.0 ∷ b.0.0 ∷ equals.token ∷ inner.0 in (
        whole,
        word.0 ∙ ap (λ (l : List Token). a.0.0 ∷ l) name.0 ∙ ap (λ (l : List Token). a.0.0 ∷ b.0.0 ∷ l) equals.cut ∙ ap (λ (l : List Token). a.0.0 ∷ b.0.0 ∷ equals.token ∷ l) inner.1 ∙ ap (λ (x : Part × List Token). whole ++ x.1) e,
        subst (λ (x : Part). SpellsPart bytes whole x) (ap (λ (x : Part × List Token). x.0) e) (a.0.0, equals.token, inner.0, refl, word.1, name.1, equals.is, inner.2),
      )

  part_sound : (tokens behind : List Token) (p : Part) → part_at bytes tokens ≡ Some (p, behind) → (first : List Token) × (tokens ≡ first ++ behind) × SpellsPart bytes first p
  unfolding part_at
  part_sound tokens behind p h = elim (one_of (begins_alias bytes tokens) (alias_at bytes tokens) (declaration_at bytes tokens) (p, behind) h) [
    | inl alias ↦ alias_sound tokens behind p alias.1
    | inr state ↦ declaration_sound tokens behind p state.1
  ]

  nothing_left : (tokens : List Token) → is_left bytes tokens ≡ false → tokens ≡ []
  nothing_left [] h = refl
  nothing_left (t ∷ ts) h = absurd (cc)

  with_state_read : (parts read : List Part) → with_a_state parts ≡ Some read → (parts ≡ read) × (list_any is_state read ≡ true)
  with_state_read parts read h = let p = if_some (list_any is_state parts) parts read h in (p.1, ap (λ (l : List Part). list_any is_state l) (sym p.1) ∙ p.0)

  -- what is read of a whole formula, its tokens spell
  pub formula_sound : (tokens : List Token) (parts : List Part) → formula_at bytes tokens ≡ Some parts → Spells bytes tokens parts
  unfolding formula_at Spells
  formula_sound tokens parts h =
      let a = step_of (many_at is_left part_at [] bytes tokens) _ _ h in
      let all = many_sound is_left part_at bytes (SpellsPart bytes) part_sound [] a.0.0 tokens a.0.1 a.1 in
      let with_state = with_state_read a.0.0 parts a.2 in
      let cut : tokens ≡ all.inner = all.cut ∙ ap (λ (l : List Token). all.inner ++ l) (nothing_left a.0.1 all.ended) ∙ append-nil all.inner in
      let is : all.more ≡ parts = sym all.added ∙ with_state.0 in
      (subst (λ (l : List Part). SpellsEach (SpellsPart bytes) tokens l) is (subst (λ (l : List Token). SpellsEach (SpellsPart bytes) l all.more) (sym cut) all.spelled), with_state.1)

-- ---- and what the grammar spells, the rules read

module _ (bytes : List ℕ) where
  fallback_is : (word destination : Token) (behind : List Token) → IsWord bytes (codes "default") word → IsName bytes destination → fallback_at bytes (word ∷ destination ∷ behind) ≡ Some (Fallback word destination, behind)
  unfolding fallback_at
  fallback_is word destination behind h k = rw (word_is bytes (codes "default") word (destination ∷ behind) h, name_is bytes destination behind k) refl

  listed_is : (event arrow destination : Token) (behind : List Token) → IsName bytes event → IsMark bytes (codes "->") arrow → IsName bytes destination → listed_at bytes (event ∷ arrow ∷ destination ∷ behind) ≡ Some (On event destination, behind)
  unfolding listed_at
  listed_is event arrow destination behind h a k = rw (name_is bytes event (arrow ∷ destination ∷ behind) h, mark_is bytes (codes "->") arrow (destination ∷ behind) a, name_is bytes destination behind k) refl

  transition_complete : (first behind : List Token) (t : TransitionText) → SpellsTransition bytes first t → transition_at bytes (first ++ behind) ≡ Some (t, behind)
  unfolding transition_at
  transition_complete first behind (On event destination) h =
      subst (λ (l : List Token). transition_at bytes (l ++ behind) ≡ Some (On event destination, behind)) (sym h.1)
      (second_of_two _ _ _ (and_false _ _ (not_true _ h.3)) ∙ listed_is event h.0 destination behind h.2 h.3 h.4)
  transition_complete first behind (Fallback word destination) h =
      subst (λ (l : List Token). transition_at bytes (l ++ behind) ≡ Some (Fallback word destination, behind)) (sym h.0)
      (first_of_two _ _ _ (and_true _ _ h.1 (not_false _ (name_no_mark bytes (codes "->") destination h.2))) ∙ fallback_is word destination behind h.1 h.2)

  -- no comma stands in front
  abbrev NoComma : List Token → Type 0
  NoComma tokens = is_mark_at bytes tokens 0 (codes ",") ≡ false

  comma_complete : (first behind : List Token) → SpellsComma bytes first → NoComma behind → comma_at bytes (first ++ behind) ≡ Some behind
  unfolding comma_at
  comma_complete first behind (inl none) h = subst (λ (l : List Token). comma_at bytes (l ++ behind) ≡ Some behind) (sym none) (second_of_two _ _ _ h)
  comma_complete first behind (inr some) h =
      subst (λ (l : List Token). comma_at bytes (l ++ behind) ≡ Some behind) (sym some.1)
      (first_of_two _ _ _ some.2 ∙ mark_is bytes (codes ",") some.0 behind some.2)

  entry_reads : (tokens rest behind : List Token) (t : TransitionText) → transition_at bytes tokens ≡ Some (t, rest) → comma_at bytes rest ≡ Some behind → entry_at bytes tokens ≡ Some (t, behind)
  unfolding entry_at
  entry_reads tokens rest behind t h k = rw (h, k) refl

  no_mark_first : (first behind : List Token) (t : TransitionText) (mark : List ℕ) → SpellsTransition bytes first t → is_mark_at bytes (first ++ behind) 0 mark ≡ false
  no_mark_first first behind (On event destination) mark h = subst (λ (l : List Token). is_mark_at bytes (l ++ behind) 0 mark ≡ false) (sym h.1) (name_no_mark bytes mark event h.2)
  no_mark_first first behind (Fallback word destination) mark h = subst (λ (l : List Token). is_mark_at bytes (l ++ behind) 0 mark ≡ false) (sym h.0) (word_no_mark bytes (codes "default") mark word h.1)

  some_tokens : (first : List Token) (t : TransitionText) → SpellsTransition bytes first t → 0 < length first
  some_tokens first (On event destination) h = omega (arith, ap (λ (l : List Token). length l) h.1)
  some_tokens first (Fallback word destination) h = omega (arith, ap (λ (l : List Token). length l) h.0)

  no_mark_entry : (first behind : List Token) (t : TransitionText) (mark : List ℕ) → SpellsEntry bytes first t → is_mark_at bytes (first ++ behind) 0 mark ≡ false
  no_mark_entry first behind t mark h =
      let whole : first ++ behind ≡ h.0 ++ (h.1 ++ behind) = ap (λ (l : List Token). l ++ behind) h.2 ∙ append_assoc h.0 h.1 behind in
      subst (λ (l : List Token). is_mark_at bytes l 0 mark ≡ false) (sym whole) (no_mark_first h.0 (h.1 ++ behind) t mark h.3)

  entry_complete : IsCompleteRule is_inside entry_at bytes (SpellsEntry bytes) NoComma
  entry_complete = record {
    reads = λ first behind t h follows.
        let whole : first ++ behind ≡ h.0 ++ (h.1 ++ behind) = ap (λ (l : List Token). l ++ behind) h.2 ∙ append_assoc h.0 h.1 behind in
        subst (λ (l : List Token). entry_at bytes l ≡ Some (t, behind)) (sym whole)
        (entry_reads (h.0 ++ (h.1 ++ behind)) (h.1 ++ behind) behind t (transition_complete h.0 (h.1 ++ behind) t h.3) (comma_complete h.1 behind h.4 follows));
    begins = λ first behind t h. not_false _ (no_mark_entry first behind t (codes "]") h);
    follows = λ first behind t h. no_mark_entry first behind t (codes ",") h;
    some = λ first t h. omega (arith, ap (λ (l : List Token). length l) h.2, length-append h.0 h.1, some_tokens h.0 t h.3);
  }

  declaration_reads : (name opening closing : Token) (tokens behind : List Token) (ts : List TransitionText) → IsName bytes name → IsMark bytes (codes "[") opening → IsMark bytes (codes "]") closing → many_at is_inside entry_at [] bytes tokens ≡ Some (ts, closing ∷ behind) → declaration_at bytes (name ∷ opening ∷ tokens) ≡ Some (Declaration name ts, behind)
  unfolding declaration_at
  declaration_reads name opening closing tokens behind ts n o c e = rw (name_is bytes name (opening ∷ tokens) n, mark_is bytes (codes "[") opening tokens o, e, mark_is bytes (codes "]") closing behind c) refl

  name_reads : (first behind : List Token) (name : Token) → SpellsName bytes first name → Unit {0} → name_at bytes (first ++ behind) ≡ Some (name, behind)
  name_reads first behind name h follows = subst (λ (l : List Token). name_at bytes (l ++ behind) ≡ Some (name, behind)) (sym h.0) (name_is bytes name behind h.1)

  alias_reads : (word name equals : Token) (tokens behind members : List Token) → IsWord bytes (codes "alias") word → IsName bytes name → IsMark bytes (codes "=") equals → parted_at (codes ",") name_at begins_more_member bytes tokens ≡ Some (members, behind) → alias_at bytes (word ∷ name ∷ equals ∷ tokens) ≡ Some (Alias name members, behind)
  unfolding alias_at
  alias_reads word name equals tokens behind members w n e m = rw (word_is bytes (codes "alias") word (name ∷ equals ∷ tokens) w, name_is bytes name (equals ∷ tokens) n, mark_is bytes (codes "=") equals tokens e, m) refl

  part_reads : (first behind : List Token) (p : Part) → SpellsPart bytes first p → NoComma behind → part_at bytes (first ++ behind) ≡ Some (p, behind)
  unfolding part_at
  part_reads first behind (Declaration name ts) h follows =
      let whole : first ++ behind ≡ name ∷ h.0 ∷ (h.2 ++ h.1 ∷ behind) = ap (λ (l : List Token). l ++ behind) h.3 ∙ ap (λ (l : List Token). name ∷ h.0 ∷ l) (append_assoc h.2 (h.1 ∷ []) behind) in
      let entries = many_complete is_inside entry_at bytes (SpellsEntry bytes) NoComma entry_complete [] h.2 (h.1 ∷ behind) ts h.6 (other_mark bytes (codes "]") (codes ",") h.1 h.7 refl) (not_true _ h.7) in
      subst (λ (l : List Token). part_at bytes l ≡ Some (Declaration name ts, behind)) (sym whole)
      (second_of_two _ _ _ (and_false _ _ (not_true _ h.5)) ∙ declaration_reads name h.0 h.1 (h.2 ++ h.1 ∷ behind) behind ts h.4 h.5 h.7 entries)
  part_reads first behind (Alias name members) h follows =
      subst (λ (l : List Token). part_at bytes (l ++ behind) ≡ Some (Alias name members, behind)) (sym h.3)
      (first_of_two _ _ _ (and_true _ _ h.4 (not_false _ (name_no_mark bytes (codes "[") name h.5)))
      ∙ alias_reads h.0 name h.1 (h.2 ++ behind) behind members h.4 h.5 h.6
      (parted_complete (codes ",") begins_more_member name_at bytes (SpellsName bytes) (λ _. Unit {0}) name_reads (λ between ts k. tt) (λ between ts k. k) h.2 behind members h.7 tt follows))

  no_comma_part : (first behind : List Token) (p : Part) → SpellsPart bytes first p → NoComma (first ++ behind)
  no_comma_part first behind (Declaration name ts) h = subst (λ (l : List Token). NoComma (l ++ behind)) (sym h.3) (name_no_mark bytes (codes ",") name h.4)
  no_comma_part first behind (Alias name members) h = subst (λ (l : List Token). NoComma (l ++ behind)) (sym h.3) (word_no_mark bytes (codes "alias") (codes ",") h.0 h.4)

  part_left : (first behind : List Token) (p : Part) → SpellsPart bytes first p → is_left bytes (first ++ behind) ≡ true
  part_left first behind (Declaration name ts) h = subst (λ (l : List Token). is_left bytes (l ++ behind) ≡ true) (sym h.3) refl
  part_left first behind (Alias name members) h = subst (λ (l : List Token). is_left bytes (l ++ behind) ≡ true) (sym h.3) refl

  part_tokens : (first : List Token) (p : Part) → SpellsPart bytes first p → 0 < length first
  part_tokens first (Declaration name ts) h = omega (arith, ap (λ (l : List Token). length l) h.3)
  part_tokens first (Alias name members) h = omega (arith, ap (λ (l : List Token). length l) h.3)

  part_complete : IsCompleteRule is_left part_at bytes (SpellsPart bytes) NoComma
  part_complete = record { reads = part_reads; begins = part_left; follows = no_comma_part; some = part_tokens }

  parts_complete : (tokens : List Token) (parts : List Part) → SpellsEach (SpellsPart bytes) tokens parts → many_at is_left part_at [] bytes tokens ≡ Some (parts, [])
  parts_complete tokens parts h =
      subst (λ (l : List Token). many_at is_left part_at [] bytes l ≡ Some (parts, [])) (append-nil tokens) (many_complete is_left part_at bytes (SpellsPart bytes) NoComma part_complete [] tokens [] parts h refl refl)

  formula_reads : (tokens : List Token) (parts : List Part) → many_at is_left part_at [] bytes tokens ≡ Some (parts, []) → list_any is_state parts ≡ true → formula_at bytes tokens ≡ Some parts
  unfolding formula_at
  formula_reads tokens parts h k = rw (h, k) refl

  -- the formula that the tokens spell is read
  pub formula_complete : (tokens : List Token) (parts : List Part) → Spells bytes tokens parts → formula_at bytes tokens ≡ Some parts
  unfolding Spells
  formula_complete tokens parts h = formula_reads tokens parts (parts_complete tokens parts h.0) h.1

  -- where nothing is read, nothing is spelled
  pub formula_none : (tokens : List Token) (parts : List Part) → formula_at bytes tokens ≡ None → Spells bytes tokens parts → ⊥
  formula_none tokens parts none h = let k = formula_complete tokens parts h in absurd (cc)

  one_read : (read : Option (List Part)) (parts other : List Part) → read ≡ Some parts → read ≡ Some other → parts ≡ other
  one_read read parts other h k = cc

-- no tokens spell two formulas
pub one_formula : (bytes : List ℕ) (tokens : List Token) (parts other : List Part) → Spells bytes tokens parts → Spells bytes tokens other → parts ≡ other
one_formula bytes tokens parts other h k = one_read bytes (formula_at bytes tokens) parts other (formula_complete bytes tokens parts h) (formula_complete bytes tokens other k)
