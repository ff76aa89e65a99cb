-- What blocks say.
use Rattle.std.specs.Prelude.{◌⊎◌, Option, Some, None, MatchOption}
use Rattle.std.proofs.Common.{◌≡◌, ℕ, ◌+◌, ◌-◌, ◌≤◌, List, [], ◌∷◌, ◌++◌, length, take, drop, refl, sym, ap, ◌∙◌, subst, inl, inr, ⊎_elim, append_assoc, append-nil, arith}
use Rattle.std.proofs.lemmas.List.{length-take, length-drop, drop-drop, drop_all}
use Rattle.jm_text.specs.declared.token.Token.{Token}
use Rattle.jm_handler.specs.declared.term.Term.{Term}
use Rattle.jm_handler.specs.Statements.{IsStatement, AreStatements}
use Rattle.jm_handler.specs.Terms.{Prints, PrintsNone}
use Rattle.jm_handler.specs.Blocks.{ArePrinted, Says}
use Rattle.jm_handler.proofs.StatementLemmas.{statements-same}
use Rattle.jm_handler.proofs.TermLemmas.{terms-same}

-- the terms of the statement stand after the old ones, if it prints
abbrev pub AddsStatement : List ℕ → List (List ℕ) → List Token → List (List Term) → List (List Term) → Type 0
AddsStatement bytes ps run old new =
    ((terms : List Term) × Prints bytes ps run terms × (new ≡ old ++ terms ∷ []))
    ⊎ (PrintsNone bytes ps run × (new ≡ old))

-- of a call that answered what a statement prints, if it does
pub adds_some : (bytes : List ℕ) (ps : List (List ℕ)) (run : List Token) (old new : List (List Term)) (o : Option (List Term)) (terms : List Term)
    → MatchOption o (PrintsNone bytes ps run) (Prints bytes ps run) → o ≡ Some terms → new ≡ old ++ terms ∷ [] → AddsStatement bytes ps run old new
adds_some bytes ps run old new None terms said is added = cc
adds_some bytes ps run old new (Some x) terms said is added =
    let same : x ≡ terms = cc in
    inl (terms, subst (λ (v : List Term). Prints bytes ps run v) same said, added)

pub adds_none : (bytes : List ℕ) (ps : List (List ℕ)) (run : List Token) (old new : List (List Term)) (o : Option (List Term))
    → MatchOption o (PrintsNone bytes ps run) (Prints bytes ps run) → o ≡ None → new ≡ old → AddsStatement bytes ps run old new
adds_none bytes ps run old new None said is kept = inr (said, kept)
adds_none bytes ps run old new (Some x) said is kept = cc

-- a statement in front of others
pub statement_first : (bytes : List ℕ) (rest : List Token) (n : ℕ) (runs : List (List Token)) → IsStatement bytes rest n → AreStatements bytes (drop n rest) runs
    → AreStatements bytes rest (take n rest ∷ runs)
statement_first bytes rest n runs is are =
    let long : n ≡ length (take n rest) = omega (arith, length-take n rest, is.within) in
    (subst (λ (m : ℕ). IsStatement bytes rest m) long is, ap (λ m. take m rest) long, subst (λ (m : ℕ). AreStatements bytes (drop m rest) runs) long are)

pub Says-statement : (bytes : List ℕ) (ps : List (List ℕ)) (tokens rest : List Token) (n : ℕ) (old new : List (List Term)) → IsStatement bytes rest n
    → AddsStatement bytes ps (take n rest) old new
    → ((more : List (List Term)) → Says bytes ps rest more → Says bytes ps tokens (old ++ more))
    → (more : List (List Term)) → Says bytes ps (drop n rest) more → Says bytes ps tokens (new ++ more)
Says-statement bytes ps tokens rest n old new is adds so_far more says =
    let are = statement_first bytes rest n says.runs is says.statements in
    ⊎_elim
    (λ (terms, prints, added).
    let whole = so_far (terms ∷ more) (record { runs = take n rest ∷ says.runs; statements = are; printed_by = inl (terms, more, refl, prints, says.printed_by) }) in
    subst (λ (v : List (List Term)). Says bytes ps tokens v) (sym (ap (λ v. v ++ more) added ∙ append_assoc old (terms ∷ []) more)) whole)
    (λ (none, kept).
    let whole = so_far more (record { runs = take n rest ∷ says.runs; statements = are; printed_by = inr (none, says.printed_by) }) in
    subst (λ (v : List (List Term)). Says bytes ps tokens (v ++ more)) (sym kept) whole)
    adds

pub Says-all : (bytes : List ℕ) (ps : List (List ℕ)) (tokens rest : List Token) (read : List (List Term)) → rest ≡ []
    → ((more : List (List Term)) → Says bytes ps rest more → Says bytes ps tokens (read ++ more)) → Says bytes ps tokens read
Says-all bytes ps tokens rest read none so_far =
    subst (λ (v : List (List Term)). Says bytes ps tokens v) (append-nil read) (so_far [] (record { runs = []; statements = none; printed_by = refl }))

-- the same, at a place of the tokens
pub Says-at : (bytes : List ℕ) (ps : List (List ℕ)) (tokens rest : List Token) (start n : ℕ) (old new : List (List Term)) → rest ≡ drop start tokens
    → IsStatement bytes rest n → AddsStatement bytes ps (take n rest) old new
    → ((more : List (List Term)) → Says bytes ps (drop start tokens) more → Says bytes ps tokens (old ++ more))
    → (more : List (List Term)) → Says bytes ps (drop (start + n) tokens) more → Says bytes ps tokens (new ++ more)
Says-at bytes ps tokens rest start n old new cut is adds so_far more says =
    let behind : drop (start + n) tokens ≡ drop n rest = sym (drop-drop n start tokens) ∙ ap (drop n) (sym cut) in
    Says-statement bytes ps tokens rest n old new is adds (λ others said. so_far others (subst (λ (v : List Token). Says bytes ps v others) cut said)) more
    (subst (λ (v : List Token). Says bytes ps v more) behind says)

-- a statement lies within the tokens
pub within_all : (bytes : List ℕ) (tokens rest : List Token) (start n : ℕ) → rest ≡ drop start tokens → IsStatement bytes rest n → start ≤ length tokens
    → start + n ≤ length tokens
within_all bytes tokens rest start n cut is low = let long : length rest ≡ length tokens - start = ap length cut ∙ length-drop start tokens in omega (arith, is.within)

pub Says-end : (bytes : List ℕ) (ps : List (List ℕ)) (tokens : List Token) (start : ℕ) (read : List (List Term)) → length tokens ≤ start
    → ((more : List (List Term)) → Says bytes ps (drop start tokens) more → Says bytes ps tokens (read ++ more)) → Says bytes ps tokens read
Says-end bytes ps tokens start read whole so_far = Says-all bytes ps tokens (drop start tokens) read (drop_all start tokens whole) so_far

-- ---- one reading
printed-same : (bytes : List ℕ) (ps : List (List ℕ)) (runs : List (List Token)) (a b : List (List Term)) → ArePrinted bytes ps runs a → ArePrinted bytes ps runs b → a ≡ b
printed-same bytes ps [] a b h k = h ∙ sym k
printed-same bytes ps (run ∷ runs) a b (inl (x, more, e, p, h)) (inl (y, others, f, q, k)) =
    let same : x ≡ y = terms-same bytes ps _ x y p.called q.called in
    let rest = printed-same bytes ps runs more others h k in
    e ∙ (λ u. same u ∷ rest u) ∙ sym f
printed-same bytes ps (run ∷ runs) a b (inl (x, more, e, p, h)) (inr (none, k)) = absurd (none x p)
printed-same bytes ps (run ∷ runs) a b (inr (none, h)) (inl (y, others, f, q, k)) = absurd (none y q)
printed-same bytes ps (run ∷ runs) a b (inr (none, h)) (inr (neither, k)) = printed-same bytes ps runs a b h k

pub says-same : (bytes : List ℕ) (ps : List (List ℕ)) (tokens : List Token) (a b : List (List Term)) → Says bytes ps tokens a → Says bytes ps tokens b → a ≡ b
says-same bytes ps tokens a b h k =
    let runs = statements-same bytes tokens h.runs k.runs h.statements k.statements in
    printed-same bytes ps k.runs a b (subst (λ (v : List (List Token)). ArePrinted bytes ps v a) runs h.printed_by) k.printed_by
