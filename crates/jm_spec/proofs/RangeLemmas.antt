-- Where the formulas of a frame lie.
use Rattle.std.proofs.Common.{ℕ, ◌+◌, ◌≤◌, List, [], ◌∷◌, ◌++◌, length, arith}
use Rattle.std.specs.Prelude.{All}
use Rattle.std.proofs.lemmas.List.Elements.{All-nil, All-cons, All-append}
use lib.ListN.{length-append}
use Rattle.jm_text.specs.declared.token.Token.{Token}
use Rattle.jm_spec.specs.declared.property.Property.{Property}
use Rattle.jm_spec.specs.declared.frame.Frame.{Frame}
use Rattle.jm_spec.specs.Spelling.{Spelled, SpellsProperty, property, SpellsBody, body, Spells, file}
use Rattle.jm_spec.specs.Spelling.Spelled.{nothing, one_more}
use Rattle.jm_spec.specs.Trees.{HasRange}

property_range : (bytes : List ℕ) (at n : ℕ) (tokens : List Token) (ps : List Property) → SpellsProperty bytes at tokens ps → at + length tokens ≤ n → All (HasRange n) ps
property_range bytes at n _ _ (property logic colon formula handling handlers a b c d) le =
    All-cons (HasRange n) _ [] (omega arith, omega arith, omega (arith, length-append formula handling, le)) (All-nil (HasRange n))

spelled_ranges : (bytes : List ℕ) (at n : ℕ) (tokens : List Token) (ps : List Property) → Spelled (SpellsProperty bytes) at tokens ps → at + length tokens ≤ n → All (HasRange n) ps
spelled_ranges bytes at n _ _ (nothing _) le = All-nil (HasRange n)
spelled_ranges bytes at n _ _ (one_more _ front behind xs ys x more) le =
    All-append (HasRange n) xs ys
    (property_range bytes at n front xs x (omega (arith, length-append front behind, le)))
    (spelled_ranges bytes (at + length front) n behind ys more (omega (arith, length-append front behind, le)))

body_ranges : (bytes : List ℕ) (at n : ℕ) (tokens : List Token) (frame : Frame) → SpellsBody bytes at tokens frame.events frame.properties → at + length tokens ≤ n → All (HasRange n) frame.properties
body_ranges bytes at n _ frame (body opening members _ stating _ closing a b c d) le =
    spelled_ranges bytes (at + 1 + length members) n stating frame.properties c (omega (arith, length-append (members ++ stating) (closing ∷ []), length-append members stating, le))

pub formulas_lie_within : (bytes : List ℕ) (tokens : List Token) (frame : Frame) → Spells bytes tokens frame → All (HasRange (length tokens)) frame.properties
formulas_lie_within bytes _ _ (file clauses heading modifiers name params within events properties a b c) =
    body_ranges bytes (length clauses + length heading) _ within (record { modifiers = modifiers; name = name; params = params; events = events; properties = properties }) c (omega (arith, length-append (clauses ++ heading) within, length-append clauses heading))
