-- Tokens that lie in order lie in the bytes.
use Rattle.std.proofs.Common.{ℕ, ◌≤◌, List, [], ◌∷◌, length, arith}
use Rattle.std.specs.List.{AllByRecursion}
use Rattle.std.proofs.lemmas.List.Elements.{All-from_recursion}
use Rattle.jm_text.specs.declared.token.Token.{Token}
use Rattle.jm_text.specs.Spans.{LiesWithin, LieWithin, LieInOrder}

ends_behind : (from : ℕ) (tokens : List Token) (to : ℕ) → LieInOrder from tokens to → from ≤ to
ends_behind from [] to order = order
ends_behind from (token ∷ tokens) to order = omega (arith, order.0, order.1, ends_behind token.end tokens to order.2)

each_within : (bytes : List ℕ) (from : ℕ) (tokens : List Token) (to : ℕ) → LieInOrder from tokens to → to ≤ length bytes → AllByRecursion (LiesWithin bytes) tokens
each_within bytes from [] to order within = tt
each_within bytes from (token ∷ tokens) to order within =
    (record { ordered = omega (arith, order.1); inside = omega (arith, within, ends_behind token.end tokens to order.2) }, each_within bytes token.end tokens to order.2 within)

pub within_from_order : (bytes : List ℕ) (tokens : List Token) (to : ℕ) → LieInOrder 0 tokens to → to ≤ length bytes → LieWithin bytes tokens
within_from_order bytes tokens to order within = All-from_recursion (LiesWithin bytes) tokens (each_within bytes 0 tokens to order within)
