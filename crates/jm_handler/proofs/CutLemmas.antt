-- What stands from a place of a list on.
use Rattle.std.proofs.Common.{◌≡◌, ℕ, ◌-◌, List, length, take, drop, arith}
use Rattle.std.proofs.lemmas.List.{length-drop, take_all}

pub from_place : {X : Type 0} (xs : List X) (i : ℕ) → take (length xs - i) (drop i xs) ≡ drop i xs
from_place xs i = take_all (length xs - i) (drop i xs) (omega (arith, length-drop i xs))
