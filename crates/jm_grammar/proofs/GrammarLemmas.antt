-- The grammar's rules, as a reader goes by them, spell what the grammar spells.
use Rattle.std.proofs.Common.{◌≡◌, ℕ, Bool, true, false, ◌&&◌, List, [], ◌∷◌, ◌++◌, length, Option, Some, None, refl, sym, ap, subst, ◌∙◌, ◌⊎◌, inl, inr, arith, append_assoc, append-nil}
use Rattle.std.specs.Prelude.{codes}
use Rattle.std.specs.Str.{bytes_eq}
use Rattle.std.proofs.lemmas.Slice.Eq.{bytes_eq-Decides}
use Rattle.jm_text.specs.declared.token.Token.{Token}
use Rattle.jm_text.specs.declared.token.TokenKind.{TokenKind}
use Rattle.jm_text.specs.declared.token.TokenKind.TheVariants.{Word, Text, Mark}
use Rattle.jm_text.specs.Spans.{text_of}
use Rattle.jm_text.specs.Texts.{is_name, is_word, is_name_text, is_word_kind, is_mark_kind}
use Rattle.jm_reading.specs.Reading.{is_left, mark_at, name_at}
use Rattle.jm_reading.specs.Taking.{parted_at}
use Rattle.jm_reading.specs.Tokens.{IsName, IsMark, IsWord, SpellsParted}
use Rattle.jm_reading.proofs.TokenLemmas.{mark_is, name_is, mark_read, name_read, step_of, other_mark}
use Rattle.jm_reading.proofs.ManyLemmas.{IsSoundRule, many_sound, IsCompleteRule, many_complete, parted_sound, parted_complete}
use Rattle.jm_grammar.specs.declared.formula.Part.{Part}
use Rattle.jm_grammar.specs.Spelling.{SpellsSymbol, SpellsAlternative, SpellsPart, Spells}
use Rattle.jm_grammar.specs.Rules.{begins_symbol, alternative_at, begins_more_alternative, part_at, formula_at}

-- ---- kinds of tokens

no_name_of : (kind : TokenKind) (a b : Bool) → (is_mark_kind kind && b) ≡ true → (is_word_kind kind && a) ≡ false
no_name_of Mark a b h = refl
no_name_of Word a b h = absurd (cc)
no_name_of Text a b h = absurd (cc)

mark_no_name : (bytes mark : List ℕ) (t : Token) → IsMark bytes mark t → is_name bytes t ≡ false
mark_no_name bytes mark t h = no_name_of t.kind _ _ h

epsilon_name_of : (kind : TokenKind) (text : List ℕ) → (is_word_kind kind && bytes_eq text (codes "epsilon")) ≡ true → (is_word_kind kind && is_name_text text) ≡ true
epsilon_name_of Word text h = ap is_name_text ((bytes_eq-Decides text (codes "epsilon")).0 h)
epsilon_name_of Mark text h = absurd (cc)
epsilon_name_of Text text h = absurd (cc)

epsilon_is_name : (bytes : List ℕ) (t : Token) → IsWord bytes (codes "epsilon") t → IsName bytes t
epsilon_is_name bytes t h = epsilon_name_of t.kind (text_of bytes t) h

module _ (bytes : List ℕ) where
  -- a symbol is a name, be it `epsilon` or another
  abbrev IsSymbol : Token → Type 0
  IsSymbol t = (IsName bytes t × (IsWord bytes (codes "epsilon") t → ⊥)) ⊎ IsWord bytes (codes "epsilon") t

  symbol_of : (t : Token) (b : Bool) → is_word bytes t (codes "epsilon") ≡ b → IsName bytes t → IsSymbol t
  symbol_of t true e h = inr e
  symbol_of t false e h = inl (h, λ k. absurd (cc))

  symbol_name : (t : Token) → IsSymbol t → IsName bytes t
  symbol_name t (inl h) = h.0
  symbol_name t (inr h) = epsilon_is_name bytes t h

  -- ---- what a rule reads, its tokens spell

  symbol_sound : IsSoundRule begins_symbol name_at bytes (SpellsSymbol bytes)
  symbol_sound tokens behind t h = let name = name_read bytes tokens behind t h in (t ∷ [], name.0, (refl, symbol_of t _ refl name.1))

  alternative_sound : IsSoundRule begins_more_alternative alternative_at bytes (SpellsAlternative bytes)
  unfolding alternative_at
  alternative_sound tokens behind symbols h =
      let a = step_of (name_at bytes tokens) _ _ h in
      let first = symbol_sound tokens a.0.1 a.0.0 a.1 in
      let rest = many_sound begins_symbol name_at bytes (SpellsSymbol bytes) symbol_sound (a.0.0 ∷ []) symbols a.0.1 behind a.2 in (
        first.0 ++ rest.inner,
        first.1 ∙ ap (λ (l : List Token). first.0 ++ l) rest.cut ∙ sym (append_assoc first.0 rest.inner behind),
        subst (λ (l : List Token). SpellsAlternative bytes (first.0 ++ rest.inner) l) (sym rest.added) (first.0, rest.inner, refl, first.2, rest.spelled),
      )

  part_sound : IsSoundRule is_left part_at bytes (SpellsPart bytes)
  unfolding part_at
  part_sound tokens behind p h =
      let a = step_of (name_at bytes tokens) _ _ h in
      let left = name_read bytes tokens a.0.1 a.0.0 a.1 in
      let b = step_of (mark_at bytes (codes "->") a.0.1) _ _ a.2 in
      let arrow = mark_read bytes (codes "->") a.0.1 b.0 b.1 in
      let d = step_of (parted_at (codes "|") alternative_at begins_more_alternative bytes b.0) _ _ b.2 in
      let inner = parted_sound (codes "|") begins_more_alternative alternative_at bytes (SpellsAlternative bytes) alternative_sound b.0 d.0.1 d.0.0 d.1 in
      let e : ◌≡◌ {A = Part × List Token} (record { left = a.0.0; alternatives = d.0.0 }, d.0.1) (p, behind) = cc (d.2) in
      let whole = a.0.0 ∷ arrow.token ∷ inner.0 in (
        whole,
        left.0 ∙ ap (λ (l : List Token). a.0.0 ∷ l) arrow.cut ∙ ap (λ (l : List Token). a.0.0 ∷ arrow.token ∷ l) inner.1 ∙ ap (λ (x : Part × List Token). whole ++ x.1) e,
        subst (λ (x : Part). SpellsPart bytes whole x) (ap (λ (x : Part × List Token). x.0) e) (arrow.token, inner.0, refl, left.1, arrow.is, inner.2),
      )

  nothing_left : (tokens : List Token) → is_left bytes tokens ≡ false → tokens ≡ []
  nothing_left [] h = refl
  nothing_left (t ∷ ts) h = absurd (cc)

  -- what is read of a whole formula, its tokens spell
  pub formula_sound : (tokens behind : List Token) (parts : List Part) → formula_at bytes tokens ≡ Some (parts, behind) → Spells bytes tokens parts
  unfolding Spells
  formula_sound tokens behind parts h =
      let all = parted_sound (codes ",") is_left part_at bytes (SpellsPart bytes) part_sound tokens behind parts h in
      let cut : tokens ≡ all.0 = all.1 ∙ ap (λ (l : List Token). all.0 ++ l) (nothing_left behind all.3) ∙ append-nil all.0 in
      subst (λ (l : List Token). SpellsParted bytes (codes ",") (SpellsPart bytes) l parts) (sym cut) all.2

  -- ---- and what the grammar spells, the rules read

  symbol_complete : IsCompleteRule begins_symbol name_at bytes (SpellsSymbol bytes) (λ _. Unit {0})
  symbol_complete = record {
    reads = λ first behind t h follows. subst (λ (l : List Token). name_at bytes (l ++ behind) ≡ Some (t, behind)) (sym h.0) (name_is bytes t behind (symbol_name t h.1));
    begins = λ first behind t h. subst (λ (l : List Token). begins_symbol bytes (l ++ behind) ≡ true) (sym h.0) (symbol_name t h.1);
    follows = λ first behind t h. tt;
    some = λ first t h. omega (arith, ap (λ (l : List Token). length l) h.0);
  }

  -- no symbol stands in front
  abbrev NoSymbol : List Token → Type 0
  NoSymbol tokens = begins_symbol bytes tokens ≡ false

  alternative_complete : (first behind symbols : List Token) → SpellsAlternative bytes first symbols → NoSymbol behind → alternative_at bytes (first ++ behind) ≡ Some (symbols, behind)
  unfolding alternative_at
  alternative_complete first behind [] h follows = absurd h
  alternative_complete first behind (t ∷ ts) h follows =
      let whole : first ++ behind ≡ t ∷ (h.1 ++ behind) = ap (λ (l : List Token). l ++ behind) (h.2 ∙ ap (λ (l : List Token). l ++ h.1) h.3.0) in
      rw (whole, name_is bytes t (h.1 ++ behind) (symbol_name t h.3.1)) (many_complete begins_symbol name_at bytes (SpellsSymbol bytes) (λ _. Unit {0}) symbol_complete (t ∷ []) h.1 behind ts h.4 tt follows)

  part_is : (left arrow : Token) (tokens behind : List Token) (ys : List (List Token)) → IsName bytes left → IsMark bytes (codes "->") arrow → parted_at (codes "|") alternative_at begins_more_alternative bytes tokens ≡ Some (ys, behind) → part_at bytes (left ∷ arrow ∷ tokens) ≡ Some (record { left = left; alternatives = ys }, behind)
  unfolding part_at
  part_is left arrow tokens behind ys n a h = rw (name_is bytes left (arrow ∷ tokens) n, mark_is bytes (codes "->") arrow tokens a, h) refl

  -- neither a symbol nor a further alternative stands in front
  abbrev NoMore : List Token → Type 0
  NoMore tokens = NoSymbol tokens × (begins_more_alternative bytes tokens ≡ false)

  part_complete : (first behind : List Token) (p : Part) → SpellsPart bytes first p → NoMore behind → part_at bytes (first ++ behind) ≡ Some (p, behind)
  part_complete first behind p h follows =
      subst (λ (l : List Token). part_at bytes (l ++ behind) ≡ Some (p, behind)) (sym h.2)
      (part_is p.left h.0 (h.1 ++ behind) behind p.alternatives h.3 h.4
      (parted_complete (codes "|") begins_more_alternative alternative_at bytes (SpellsAlternative bytes) NoSymbol alternative_complete
      (λ between ts k. mark_no_name bytes (codes "|") between k) (λ between ts k. k) h.1 behind p.alternatives h.5 follows.0 follows.1))

  -- the formula that the tokens spell is read
  pub formula_complete : (tokens : List Token) (parts : List Part) → Spells bytes tokens parts → formula_at bytes tokens ≡ Some (parts, [])
  unfolding Spells
  formula_complete tokens parts h =
      subst (λ (l : List Token). formula_at bytes l ≡ Some (parts, [])) (append-nil tokens)
      (parted_complete (codes ",") is_left part_at bytes (SpellsPart bytes) NoMore part_complete
      (λ between ts k. (mark_no_name bytes (codes ",") between k, other_mark bytes (codes ",") (codes "|") between k refl)) (λ between ts k. refl) tokens [] parts h (refl, refl) refl)

  -- where nothing is read, nothing is spelled
  pub formula_none : (tokens : List Token) (parts : List Part) → formula_at bytes tokens ≡ None → Spells bytes tokens parts → ⊥
  formula_none tokens parts none h = let k = formula_complete tokens parts h in absurd (cc)

one_read : (read : Option (List Part × List Token)) (parts other : List Part) → read ≡ Some (parts, []) → read ≡ Some (other, []) → parts ≡ other
one_read read parts other h k =
    let e : ◌≡◌ {A = List Part × List Token} (parts, []) (other, []) = cc in
    ap (λ (x : List Part × List Token). x.0) e

-- no tokens spell two formulas
pub one_formula : (bytes : List ℕ) (tokens : List Token) (parts other : List Part) → Spells bytes tokens parts → Spells bytes tokens other → parts ≡ other
one_formula bytes tokens parts other h k = one_read (formula_at bytes tokens) parts other (formula_complete bytes tokens parts h) (formula_complete bytes tokens other k)
