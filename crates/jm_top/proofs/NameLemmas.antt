-- Each handler has a name.
use Rattle.std.proofs.Common.{◌≡◌, ℕ, ◌+◌, List, [], ◌∷◌, map, length, refl, arith, length-append}
use Rattle.std.proofs.lemmas.List.{length-map}
use Rattle.jm_machine.specs.Meanings.{PropertyDefinition, RuleDefinition, handler_count}
use Rattle.jm_machine.specs.HandlerNames.{numbered, numbered_from, names_for, names_of}

abbrev categories : List PropertyDefinition → List (List (List ℕ))
categories ps = map (λ (p : PropertyDefinition). p.handlers) ps

count_numbered : (j : ℕ) (ps : List PropertyDefinition) → length (numbered_from j (categories ps)) ≡ handler_count ps
count_numbered j [] = refl
count_numbered j (p ∷ ps) =
    omega (arith, length-append (map (numbered j) p.handlers) (numbered_from (j + 1) (categories ps)), length-map p.handlers (numbered j), count_numbered (j + 1) ps)

count_for : (ps : List PropertyDefinition) → length (names_for (categories ps)) ≡ handler_count ps
count_for [] = refl
count_for (p ∷ []) = omega arith
count_for (p ∷ q ∷ ps) = count_numbered 0 (p ∷ q ∷ ps)

pub count_names : (r : RuleDefinition) → length (names_of r) ≡ handler_count r.properties
count_names r = count_for r.properties
