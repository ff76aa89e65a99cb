use Rattle.std.proofs.Common.{List, ℕ, Bor, ◌≡◌, ◌≢◌, ◌++◌}
use Rattle.std.specs.Prelude.{Option, Some, None, option_map}
use Rattle.std.specs.Option.{MatchOption}
use Rattle.std.proofs.lemmas.Bool.Decides.{Decides-eqb}
use Rattle.std.proofs.lemmas.Slice.Eq.{strip_prefix_is}
use Rattle.jm_audit.specs.Places.{IsLeftBehind}
use Rattle.jm_audit.proofs.compare.left_behind.Goals as goal

left_of : (block rest : List ℕ) (r : Option (Bor (List ℕ))) → MatchOption r ((w : List ℕ) → rest ≢ block ++ w) (λ x. rest ≡ block ++ x.now) → IsLeftBehind block (Some rest) (option_map (λ x. x.now) r)
left_of block rest None h = h
left_of block rest (Some x) h = h

pub returns-in-Some : goal.returns-in-Some
returns-in-Some c =
    rw c.in-Some.is
    (left_of c.args.block.now c.in-Some.rest.now c.strip_prefix.result
    (strip_prefix_is Decides-eqb c.in-Some.rest.now c.args.block.now c.strip_prefix.result c.strip_prefix.ensures.cases))
