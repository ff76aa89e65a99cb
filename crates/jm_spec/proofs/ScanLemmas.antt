-- The steps of the loops that look for the end of a run.
use Rattle.std.proofs.Common.{◌≡◌, ℕ, ◌+◌, ◌<◌, Bool, true, false, List, [], ◌∷◌, length, get_or, drop, Option, Some, None, cond, ◌++◌, option_map, MatchBool, refl, sym, ap, ◌∙◌, arith}
use Rattle.std.proofs.lemmas.List.{drop_more}
use Rattle.jm_text.specs.declared.token.Token.{Token}
use Rattle.jm_text.specs.declared.token.TokenKind.TheVariants.{Word}
use Rattle.jm_spec.specs.declared.brackets.Bracket.{Bracket}
use Rattle.jm_spec.specs.Brackets.{is_same, closed}
use Rattle.jm_spec.specs.Runs.{plus, one_more, ends_formula, formula_length}

-- two numbers added one after the other
pub plus-plus : (j k : ℕ) (n : Option ℕ) → plus j (plus k n) ≡ plus (j + k) n
plus-plus j k None = refl
plus-plus j k (Some m) = let e : m + k + j ≡ m + (j + k) = omega arith in ap (λ (x : ℕ). Some x) e

-- one token more is passed over
pub further : (i : ℕ) (here behind whole : Option ℕ) → plus i here ≡ whole → here ≡ one_more behind → plus (i + 1) behind ≡ whole
further i here behind whole so_far goes_on = sym (plus-plus i 1 behind) ∙ ap (plus i) (sym goes_on) ∙ so_far

-- a token that stands past the end of every list
nothing : Token
nothing = record { kind = Word; start = 0; end = 0; line = 0 }

formula_step : (bytes : List ℕ) (t : Token) (ts : List Token) → ends_formula bytes (t ∷ ts) ≡ false → formula_length bytes (t ∷ ts) ≡ one_more (formula_length bytes ts)
formula_step bytes t ts h = rw h refl

-- a formula goes on where it doesn't end
pub formula_goes_on : (bytes : List ℕ) (tokens : List Token) (i : ℕ) → i < length tokens → ends_formula bytes (drop i tokens) ≡ false → formula_length bytes (drop i tokens) ≡ one_more (formula_length bytes (drop (i + 1) tokens))
formula_goes_on bytes tokens i lt open_here =
    let e = drop_more tokens i nothing lt in
    ap (formula_length bytes) e ∙ formula_step bytes (get_or tokens i nothing) (drop (i + 1) tokens) (ap (ends_formula bytes) (sym e) ∙ open_here)

kept_front : (x : Bracket) (s : Bool) (xs : List Bracket) → option_map (λ rest. x ∷ rest) (cond s (Some xs) None) ≡ cond s (Some (x ∷ xs)) None
kept_front x true xs = refl
kept_front x false xs = refl

closed-push : (b o : Bracket) (xs : List Bracket) → closed b (xs ++ o ∷ []) ≡ cond (is_same o b) (Some xs) None
closed-push b o [] = refl
closed-push b o (x ∷ []) = kept_front x (is_same o b) []
closed-push b o (x ∷ y ∷ ys) = ap (option_map (λ rest. x ∷ rest)) (closed-push b o (y ∷ ys)) ∙ kept_front x (is_same o b) (y ∷ ys)

cases_of : (r : Bool) (read : Option (List Bracket)) (xs : List Bracket) → read ≡ cond r (Some xs) None → MatchBool r (read ≡ Some xs) (read ≡ None)
cases_of true read xs e = e
cases_of false read xs e = e

-- what closing a bracket leaves
pub closed_as : (b o : Bracket) (old new : List Bracket) (r : Bool) → r ≡ is_same o b → old ≡ new ++ o ∷ [] → MatchBool r (closed b old ≡ Some new) (closed b old ≡ None)
closed_as b o old new r same last = cases_of r _ new (ap (closed b) last ∙ closed-push b o new ∙ ap (λ s. cond s (Some new) None) (sym same))
