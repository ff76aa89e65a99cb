use Rattle.std.proofs.Common.{◌≡◌, drop}
use Rattle.jm_ptltl.specs.Vectors.{vector_from}
use Rattle.jm_ptltl.proofs.vector.next_vector.Given as goal

abbrev pub invariant-loop-place : goal.invariant-loop-place
invariant-loop-place l = vector_from l.last l.letter.0 l.place l.next (drop l.place l.nodes) ≡ vector_from l.last l.letter.0 0 0 l.nodes
