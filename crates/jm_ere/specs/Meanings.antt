-- The words of a regular expression. A word is a list of letters.
use Rattle.std.specs.Prelude.{ℕ, ◌≡◌, ◌≢◌, ◌<◌, ◌⊎◌, List, [], ◌∷◌, ◌++◌, All}
use Rattle.std.specs.List.{AllByRecursion}
use Rattle.jm_model.specs.Words.{Word}
use Rattle.jm_ere.specs.declared.tree.Operator.TheVariants.{Or, And}
use Rattle.jm_ere.specs.Expressions.{Expression, Symbol, EmptyWord, NoWord, Complement, Star, Plus, Product, Combination}

-- a word of the first language, and one of the second after it
abbrev pub IsSplit : (Word → Type 0) → (Word → Type 0) → Word → Type 0
IsSplit L M word = (front : Word) × (back : Word) × (word ≡ front ++ back) × L front × M back

-- words one after the other
abbrev pub joined : List Word → Word
joined [] = []
joined (word ∷ words) = word ++ joined words

-- any number of words of the language, none of them empty, one after the other
abbrev pub IsChain : (Word → Type 0) → Word → Type 0
IsChain L word = (words : List Word) × AllByRecursion (λ w. (w ≢ []) × L w) words × (word ≡ joined words)

-- The word is in the language of the expression. One word of `r+` may be empty, if `r` has the empty word.
abbrev pub InLanguage : Expression → Word → Type 0
InLanguage (Symbol x) word = word ≡ x ∷ []
InLanguage EmptyWord word = word ≡ []
InLanguage NoWord word = ⊥
InLanguage (Complement r) word = InLanguage r word → ⊥
InLanguage (Star r) word = IsChain (InLanguage r) word
InLanguage (Plus r) word = IsSplit (InLanguage r) (IsChain (InLanguage r)) word
InLanguage (Product r s) word = IsSplit (InLanguage r) (InLanguage s) word
InLanguage (Combination Or r s) word = InLanguage r word ⊎ InLanguage s word
InLanguage (Combination And r s) word = InLanguage r word × InLanguage s word

-- no extension of the word by letters below this number, itself included, is in the language
abbrev pub IsFailed : Expression → ℕ → Word → Type 0
IsFailed e letters word = (more : Word) → All (λ letter. letter < letters) more → InLanguage e (word ++ more) → ⊥
