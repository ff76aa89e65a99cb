-- What a number or a list of numbers stands for, so that a signature tells which of them it takes.
use Rattle.std.specs.Prelude.{ℕ, List}

-- the bytes of a text
abbrev pub Text : Type 0
Text = List ℕ

-- a word: its letters, in order
abbrev pub Word : Type 0
Word = List ℕ

-- a set of parameters: a number whose bit p stands for parameter p
abbrev pub Mask : Type 0
Mask = ℕ
