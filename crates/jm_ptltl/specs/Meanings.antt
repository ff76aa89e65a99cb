-- What a past-time formula means: where it is true. Positions of a word are counted from 1.
use Rattle.std.specs.Prelude.{ℕ, ◌≡◌, ◌<◌, ◌≤◌, ◌-◌, ◌⊎◌, ◌↔◌, Some, IsTrue, length, slice_get}
use Rattle.jm_model.specs.Words.{Word}
use Rattle.jm_model.specs.declared.step.Letter.{Letter}
use Rattle.jm_ptltl.specs.declared.formula.Unary.{Unary}
use Rattle.jm_ptltl.specs.declared.formula.Unary.TheVariants.{Not, Historically, Once, Previously}
use Rattle.jm_ptltl.specs.declared.formula.Binary.{Binary}
use Rattle.jm_ptltl.specs.declared.formula.Binary.TheVariants.{Equivalent, Implies, Or, Xor, And, Since}
use Rattle.jm_ptltl.specs.Formulas.{Formula, event, constant, unary, binary}

-- letter n of the word
abbrev pub IsLetterAt : Word → ℕ → ℕ → Type 0
IsLetterAt word n letter = (0 < n) × (slice_get word (n - 1) ≡ Some letter)

-- an operator at position n, where F says at which positions its part is true
abbrev pub HoldsUnary : Unary → (ℕ → Type 0) → ℕ → Type 0
HoldsUnary Not F n = ¬ F n
HoldsUnary Historically F n = (m : ℕ) → 1 ≤ m → m ≤ n → F m
HoldsUnary Once F n = (m : ℕ) × (1 ≤ m) × (m ≤ n) × F m
HoldsUnary Previously F n = (1 < n) × F (n - 1)

-- an operator at position n, where F and G say at which positions its left and its right part are true
abbrev pub HoldsBinary : Binary → (ℕ → Type 0) → (ℕ → Type 0) → ℕ → Type 0
HoldsBinary Equivalent F G n = F n ↔ G n
HoldsBinary Implies F G n = F n → G n
HoldsBinary Or F G n = F n ⊎ G n
HoldsBinary Xor F G n = (F n × (¬ G n)) ⊎ ((¬ F n) × G n)
HoldsBinary And F G n = F n × G n
HoldsBinary Since F G n = (m : ℕ) × (1 ≤ m) × (m ≤ n) × G m × ((k : ℕ) → m < k → k ≤ n → F k)

-- the formula is true at position n of the word
abbrev pub Holds : Formula Letter → Word → ℕ → Type 0
Holds (event letter) word n = IsLetterAt word n letter.0
Holds (constant b) word n = IsTrue b
Holds (unary op f) word n = HoldsUnary op (Holds f word) n
Holds (binary op f g) word n = HoldsBinary op (Holds f word) (Holds g word) n

-- the formula is true at the last position of the word
abbrev pub HoldsLast : Formula Letter → Word → Type 0
HoldsLast f word = Holds f word (length word)
