-- What a rule asks that may begin anywhere: that a word ends in a word of the language, one of a letter or more.
use Rattle.std.specs.Prelude.{◌≡◌, ◌≢◌, [], ◌++◌}
use Rattle.jm_model.specs.Words.{Word}
use Rattle.jm_ere.specs.declared.tree.Operator.TheVariants.{And}
use Rattle.jm_ere.specs.Expressions.{Expression, EmptyWord, NoWord, Complement, Product, Combination}

-- some suffix of the word, not the empty one, is in the language
abbrev pub EndsIn : (Word → Type 0) → Word → Type 0
EndsIn L word = (front : Word) × (back : Word) × (word ≡ front ++ back) × (back ≢ []) × L back

-- `~empty (r & ~epsilon)`
abbrev pub suffixed : Expression → Expression
suffixed r = Product (Complement NoWord) (Combination And r (Complement EmptyWord))
