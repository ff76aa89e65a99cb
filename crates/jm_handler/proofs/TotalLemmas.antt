-- Each block says something.
use Rattle.std.proofs.Common.{◌≡◌, ℕ, zero, suc, ◌+◌, ◌-◌, ◌<◌, ◌≤◌, ◌==◌, Bool, true, false, List, [], ◌∷◌, length, get_or, take, drop, Option, Some, None, refl, inl, inr, ⊎_elim, arith}
use Rattle.std.specs.Prelude.{◌⊎◌, ◌&&◌, codes, slice_range}
use Rattle.std.proofs.lemmas.List.{length-drop}
use Rattle.jm_text.specs.declared.token.Token.{Token}
use Rattle.jm_text.specs.Texts.{is_mark}
use Rattle.jm_handler.specs.declared.term.Term.{Term}
use Rattle.jm_handler.specs.Statements.{may_end, depth_of, EndsAt, IsStatement}
use Rattle.jm_handler.specs.Terms.{term_of, AreMoreTerms, AreTerms, AreNoTerms, is_call, Prints, PrintsNone}
use Rattle.jm_handler.specs.Blocks.{Says}
use Rattle.jm_handler.proofs.StatementLemmas.{EndsAt-true, EndsAt-false, IsStatement-at, none_before}
use Rattle.jm_handler.proofs.TermLemmas.{default_token}
use Rattle.jm_handler.proofs.BlockLemmas.{statement_first}

-- ---- a first statement
ends_or_not : (bytes : List ℕ) (tokens : List Token) (i : ℕ) → i < length tokens → EndsAt bytes tokens i ⊎ (EndsAt bytes tokens i → ⊥)
ends_or_not bytes tokens i h = go (depth_of bytes (take (i + 1) tokens) == 0 && may_end bytes (get_or tokens i default_token)) refl
  where
    go : (v : Bool) → v ≡ (depth_of bytes (take (i + 1) tokens) == 0 && may_end bytes (get_or tokens i default_token)) → EndsAt bytes tokens i ⊎ (EndsAt bytes tokens i → ⊥)
    go true is = inl (EndsAt-true bytes tokens i (depth_of bytes (take (i + 1) tokens)) default_token true h refl is refl)
    go false is = inr (EndsAt-false bytes tokens i (depth_of bytes (take (i + 1) tokens)) default_token false h refl is refl)

first_statement : (bytes : List ℕ) (tokens : List Token) (left i : ℕ) → 0 < length tokens → i + left ≡ length tokens → ((k : ℕ) → k < i → EndsAt bytes tokens k → ⊥)
    → (n : ℕ) × IsStatement bytes tokens n
first_statement bytes tokens zero i some whole before =
    (length tokens, record { some = some; within = omega arith; first = λ k l. before k (omega arith); ended = inl refl })
first_statement bytes tokens (suc left) i some whole before =
    ⊎_elim (λ here. (i + 1, IsStatement-at bytes tokens i (omega arith) before here))
    (λ isnt. first_statement bytes tokens left (i + 1) some (omega arith) (none_before bytes tokens i before isnt)) (ends_or_not bytes tokens i (omega arith))

-- ---- terms, or none
abbrev AreNoMoreTerms : List ℕ → List (List ℕ) → List Token → Type 0
AreNoMoreTerms bytes ps tokens = (terms : List Term) → AreMoreTerms bytes ps tokens terms → ⊥

more_or_none : (bytes : List ℕ) (ps : List (List ℕ)) (tokens : List Token) → ((terms : List Term) × AreMoreTerms bytes ps tokens terms) ⊎ AreNoMoreTerms bytes ps tokens
more_or_none bytes ps [] = inl ([], refl)
more_or_none bytes ps (plus ∷ []) = inr (λ terms h. h)
more_or_none bytes ps (plus ∷ t ∷ ts) = go (is_mark bytes plus (codes "+")) refl (term_of bytes ps t) refl (more_or_none bytes ps ts)
  where
    go : (v : Bool) → is_mark bytes plus (codes "+") ≡ v → (o : Option Term) → term_of bytes ps t ≡ o
        → ((terms : List Term) × AreMoreTerms bytes ps ts terms) ⊎ AreNoMoreTerms bytes ps ts
        → ((terms : List Term) × AreMoreTerms bytes ps (plus ∷ t ∷ ts) terms) ⊎ AreNoMoreTerms bytes ps (plus ∷ t ∷ ts)
    go true m (Some x) i (inl (more, h)) = inl (x ∷ more, (x, more, refl, m, i, h))
    go true m (Some x) i (inr none) = inr (λ terms (y, more, e, n, j, h). none more h)
    go true m None i rest = inr (λ terms (y, more, e, n, j, h). cc)
    go false m o i rest = inr (λ terms (y, more, e, n, j, h). cc)

terms_or_none : (bytes : List ℕ) (ps : List (List ℕ)) (tokens : List Token) → ((terms : List Term) × AreTerms bytes ps tokens terms) ⊎ AreNoTerms bytes ps tokens
terms_or_none bytes ps [] = inl ([], refl)
terms_or_none bytes ps (t ∷ ts) = go (term_of bytes ps t) refl (more_or_none bytes ps ts)
  where
    go : (o : Option Term) → term_of bytes ps t ≡ o → ((terms : List Term) × AreMoreTerms bytes ps ts terms) ⊎ AreNoMoreTerms bytes ps ts
        → ((terms : List Term) × AreTerms bytes ps (t ∷ ts) terms) ⊎ AreNoTerms bytes ps (t ∷ ts)
    go (Some x) i (inl (more, h)) = inl (x ∷ more, (x, more, refl, i, h))
    go (Some x) i (inr none) = inr (λ terms (y, more, e, j, h). none more h)
    go None i rest = inr (λ terms (y, more, e, j, h). cc)

prints_or_not : (bytes : List ℕ) (ps : List (List ℕ)) (run : List Token) → ((terms : List Term) × Prints bytes ps run terms) ⊎ PrintsNone bytes ps run
prints_or_not bytes ps run = go (is_call bytes run) refl (terms_or_none bytes ps (slice_range run 6 (length run - 2)))
  where
    go : (v : Bool) → is_call bytes run ≡ v
        → ((terms : List Term) × AreTerms bytes ps (slice_range run 6 (length run - 2)) terms) ⊎ AreNoTerms bytes ps (slice_range run 6 (length run - 2))
        → ((terms : List Term) × Prints bytes ps run terms) ⊎ PrintsNone bytes ps run
    go true is (inl (terms, are)) = inl (terms, record { form = is; called = are })
    go true is (inr none) = inr (λ terms prints. none terms prints.called)
    go false is rest = inr (λ terms prints. cc)

-- ---- blocks
pub says_something : (bytes : List ℕ) (ps : List (List ℕ)) (n : ℕ) (tokens : List Token) → length tokens ≤ n → (printed : List (List Term)) × Says bytes ps tokens printed
says_something bytes ps n [] h = ([], record { runs = []; statements = refl; printed_by = refl })
says_something bytes ps zero (t ∷ ts) h = absurd (omega arith)
says_something bytes ps (suc n) (t ∷ ts) h =
    let tokens = t ∷ ts in
    let (k, is) = first_statement bytes tokens (length tokens) 0 (omega arith) (omega arith) (λ k l. absurd (omega arith)) in
    let (more, says) = says_something bytes ps n (drop k tokens) (omega (arith, length-drop k tokens, is.some, is.within)) in
    let are = statement_first bytes tokens k says.runs is says.statements in
    ⊎_elim
    (λ (terms, prints). (terms ∷ more, record { runs = take k tokens ∷ says.runs; statements = are; printed_by = inl (terms, more, refl, prints, says.printed_by) }))
    (λ none. (more, record { runs = take k tokens ∷ says.runs; statements = are; printed_by = inr (none, says.printed_by) }))
    (prints_or_not bytes ps (take k tokens))
