-- Terms one after the other.
use Rattle.std.proofs.Common.{◌≡◌, ℕ, ◌+◌, ◌<◌, ◌≤◌, ◌==◌, length, get_or, drop, arith, Bool, true, false, List, [], ◌∷◌, ◌++◌, refl, sym, ap, ◌∙◌, subst, append_assoc, append-nil}
use Rattle.std.specs.Prelude.{Some, codes}
use Rattle.std.proofs.lemmas.List.{drop_more, drop_all}
use Rattle.jm_text.specs.declared.token.Token.{Token}
use Rattle.jm_text.specs.declared.token.TokenKind.TheVariants.{Word}
use Rattle.jm_text.specs.Texts.{is_mark}
use Rattle.jm_handler.specs.declared.term.Term.{Term}
use Rattle.jm_handler.specs.Terms.{term_of, AreMoreTerms, AreTerms, AreNoTerms}

abbrev pub default_token : Token
default_token = record { kind = Word; start = 0; end = 0; line = 0 }

-- After some of the tokens were read as terms: what the rest says goes on from there, and it says something if the tokens do.
pub record GoesOn (bytes : List ℕ) (ps : List (List ℕ)) (tokens rest : List Token) (now : List Term) : Type 0 where
  pub sound : (more : List Term) → AreMoreTerms bytes ps rest more → AreTerms bytes ps tokens (now ++ more)
  pub complete : (all : List Term) → AreTerms bytes ps tokens all → (more : List Term) × AreMoreTerms bytes ps rest more

-- ---- the first term
pub some_tokens : (tokens : List Token) (empty : Bool) → empty ≡ (length tokens == 0) → empty ≡ false → 0 < length tokens
some_tokens [] empty is isnt = let yes : empty ≡ true = is in cc
some_tokens (t ∷ ts) empty is isnt = omega arith

pub goes_on-first : (bytes : List ℕ) (ps : List (List ℕ)) (tokens : List Token) (d : Token) (x : Term) (now : List Term) → 0 < length tokens
    → term_of bytes ps (get_or tokens 0 d) ≡ Some x → now ≡ x ∷ [] → GoesOn bytes ps tokens (drop 1 tokens) now
goes_on-first bytes ps [] d x now h is e = absurd (omega arith)
goes_on-first bytes ps (t ∷ ts) d x now h is e = record {
  sound = λ more are. (x, more, ap (λ v. v ++ more) e, is, are);
  complete = λ all (y, more, f, i, are). (more, are);
}

-- ---- a term more
pub goes_on-next : (bytes : List ℕ) (ps : List (List ℕ)) (tokens : List Token) (now next : List Term) (plus t : Token) (ts : List Token) (x : Term)
    → GoesOn bytes ps tokens (plus ∷ t ∷ ts) now → is_mark bytes plus (codes "+") ≡ true → term_of bytes ps t ≡ Some x → next ≡ now ++ x ∷ []
    → GoesOn bytes ps tokens ts next
goes_on-next bytes ps tokens now next plus t ts x h mark is added = record {
  sound =
      λ more are.
      let one : next ++ more ≡ now ++ x ∷ more = ap (λ v. v ++ more) added ∙ append_assoc now (x ∷ []) more in
      subst (λ (v : List Term). AreTerms bytes ps tokens v) (sym one) (h.sound (x ∷ more) (x, more, refl, mark, is, are));
  complete = λ all said. let (whole, (term, more, e, m, i, are)) = h.complete all said in (more, are);
}

-- the rest doesn't begin with a `+`
pub not_marked : (bytes : List ℕ) (ps : List (List ℕ)) (tokens : List Token) (now : List Term) (plus t : Token) (ts : List Token)
    → GoesOn bytes ps tokens (plus ∷ t ∷ ts) now → is_mark bytes plus (codes "+") ≡ false → AreNoTerms bytes ps tokens
not_marked bytes ps tokens now plus t ts h isnt all said = let (whole, (term, more, e, m, i, are)) = h.complete all said in cc

-- ---- the same, at a place of the tokens
at_place : (tokens : List Token) (i : ℕ) (d : Token) → i + 1 < length tokens → drop i tokens ≡ get_or tokens i d ∷ get_or tokens (i + 1) d ∷ drop (i + 2) tokens
at_place tokens i d h =
    let two : i + 1 + 1 ≡ i + 2 = omega arith in
    drop_more tokens i d (omega arith) ∙ ap (λ v. get_or tokens i d ∷ v) (drop_more tokens (i + 1) d h ∙ ap (λ k. get_or tokens (i + 1) d ∷ drop k tokens) two)

module _ (bytes : List ℕ) (ps : List (List ℕ)) (tokens : List Token) (now : List Term) (i : ℕ) (d : Token) (so_far : GoesOn bytes ps tokens (drop i tokens) now) where
  here : i + 1 < length tokens → GoesOn bytes ps tokens (get_or tokens i d ∷ get_or tokens (i + 1) d ∷ drop (i + 2) tokens) now
  here h = subst (λ (v : List Token). GoesOn bytes ps tokens v now) (at_place tokens i d h) so_far

  pub next_at : i + 1 < length tokens → (next : List Term) (x : Term) → is_mark bytes (get_or tokens i d) (codes "+") ≡ true
      → term_of bytes ps (get_or tokens (i + 1) d) ≡ Some x → next ≡ now ++ x ∷ [] → GoesOn bytes ps tokens (drop (i + 2) tokens) next
  next_at h next x mark is added = goes_on-next bytes ps tokens now next _ _ _ x (here h) mark is added

  pub not_marked_at : i + 1 < length tokens → is_mark bytes (get_or tokens i d) (codes "+") ≡ false → AreNoTerms bytes ps tokens
  not_marked_at h isnt = not_marked bytes ps tokens now _ _ _ (here h) isnt

  -- at the end nothing is left, or a token alone
  pub whole_at : length tokens ≤ i → AreTerms bytes ps tokens now
  whole_at h =
      let none : drop i tokens ≡ [] = drop_all i tokens h in
      subst (λ (v : List Term). AreTerms bytes ps tokens v) (append-nil now) (so_far.sound [] (subst (λ (v : List Token). AreMoreTerms bytes ps v []) (sym none) refl))

  pub one_left_at : i < length tokens → length tokens ≤ i + 1 → AreNoTerms bytes ps tokens
  one_left_at h last all said =
      let one : drop i tokens ≡ get_or tokens i d ∷ [] = drop_more tokens i d h ∙ ap (λ v. get_or tokens i d ∷ v) (drop_all (i + 1) tokens last) in
      let (more, are) = so_far.complete all said in
      subst (λ (v : List Token). AreMoreTerms bytes ps v more) one are

-- ---- one list of terms
pub more_terms-same : (bytes : List ℕ) (ps : List (List ℕ)) (tokens : List Token) (a b : List Term) → AreMoreTerms bytes ps tokens a → AreMoreTerms bytes ps tokens b → a ≡ b
more_terms-same bytes ps [] a b h k = h ∙ sym k
more_terms-same bytes ps (plus ∷ []) a b h k = absurd h
more_terms-same bytes ps (plus ∷ t ∷ ts) a b (x, more, e, m, i, h) (y, others, f, n, j, k) =
    let same : x ≡ y = cc in
    let rest = more_terms-same bytes ps ts more others h k in
    e ∙ (λ u. same u ∷ rest u) ∙ sym f

pub terms-same : (bytes : List ℕ) (ps : List (List ℕ)) (tokens : List Token) (a b : List Term) → AreTerms bytes ps tokens a → AreTerms bytes ps tokens b → a ≡ b
terms-same bytes ps [] a b h k = h ∙ sym k
terms-same bytes ps (t ∷ ts) a b (x, more, e, i, h) (y, others, f, j, k) =
    let same : x ≡ y = cc in
    let rest = more_terms-same bytes ps ts more others h k in
    e ∙ (λ u. same u ∷ rest u) ∙ sym f
