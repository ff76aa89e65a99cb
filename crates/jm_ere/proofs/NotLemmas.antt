-- No more `~` wait for their operand than tokens were taken.
use Rattle.std.proofs.Common.{ℕ, suc, ◌≡◌, ◌≤◌, Bool, true, false, cond, List, [], ◌∷◌, Option, Some, IfSome, subst, arith}
use Rattle.jm_ere.specs.declared.parse.Lexeme.{Lexeme}
use Rattle.jm_ere.specs.declared.parse.Lexeme.TheVariants.{Operand, Opening, Closing, Tilde, Asterisk, PlusSign, Bar, Ampersand, Other}
use Rattle.jm_ere.specs.declared.parse.Pending.{Pending}
use Rattle.jm_ere.specs.declared.parse.Parser.{Parser}
use Rattle.jm_ere.specs.Rules.{juxtaposed, closed, before_operand, behind_operand, after_lexeme}

-- of no parenthesis that is open more than n wait
abbrev pub EachFew : ℕ → List Pending → Type 0
EachFew n [] = Unit {0}
EachFew n (f ∷ fs) = (f.nots ≤ n) × EachFew n fs

abbrev pub FewNots : ℕ → Parser → Type 0
FewNots n p = (p.pending.nots ≤ n) × EachFew n p.outer

each_more : (n : ℕ) (fs : List Pending) → EachFew n fs → EachFew (suc n) fs
each_more n [] h = tt
each_more n (f ∷ fs) h = (omega (arith, h.0), each_more n fs h.1)

few_closed : (n : ℕ) (fs : List Pending) (p : Parser) → EachFew n fs → IfSome (closed fs p) (FewNots (suc n))
few_closed n [] p h = tt
few_closed n (f ∷ fs) p h = (omega (arith, h.0), each_more n fs h.1)

few_before : (n : ℕ) (p : Parser) (sign : Lexeme) → FewNots n p → IfSome (before_operand p sign) (FewNots (suc n))
few_before n p (Operand atom) h = (omega (arith, h.0), each_more n p.outer h.1)
few_before n p Opening h = (omega arith, (omega (arith, h.0), each_more n p.outer h.1))
few_before n p Tilde h = (omega (arith, h.0), each_more n p.outer h.1)
few_before n p _ h = tt

few_behind : (n : ℕ) (p : Parser) (sign : Lexeme) → FewNots n p → IfSome (behind_operand p sign) (FewNots (suc n))
few_behind n p Asterisk h = (omega (arith, h.0), each_more n p.outer h.1)
few_behind n p PlusSign h = (omega (arith, h.0), each_more n p.outer h.1)
few_behind n p Ampersand h = (omega arith, each_more n p.outer h.1)
few_behind n p Bar h = (omega arith, each_more n p.outer h.1)
few_behind n p Closing h = few_closed n p.outer p h.1
few_behind n p Other h = tt
few_behind n p (Operand atom) h = few_before n (juxtaposed p) (Operand atom) (omega arith, h.1)
few_behind n p Opening h = few_before n (juxtaposed p) Opening (omega arith, h.1)
few_behind n p Tilde h = few_before n (juxtaposed p) Tilde (omega arith, h.1)

few_by : (n : ℕ) (p : Parser) (sign : Lexeme) (ready : Bool) → FewNots n p → IfSome (cond ready (behind_operand p sign) (before_operand p sign)) (FewNots (suc n))
few_by n p sign true h = few_behind n p sign h
few_by n p sign false h = few_before n p sign h

-- one token more, one `~` more at most
pub few_after : (n : ℕ) (p next : Parser) (sign : Lexeme) → FewNots n p → after_lexeme p sign ≡ Some next → FewNots (suc n) next
few_after n p next sign h is = subst (λ (o : Option Parser). IfSome o (FewNots (suc n))) is (few_by n p sign p.pending.ready h)
