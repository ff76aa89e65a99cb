use Rattle.std.proofs.Common.{◌≡◌, ℕ, subst, refl, length}
use Rattle.std.specs.Prelude.{Some, slice_get}
use Rattle.std.specs.Int.{bit_at}
use Rattle.std.proofs.lemmas.Option.{slice_get_read}
use Rattle.jm_awake.proofs.CardLemmas.{none_left}
use Rattle.jm_store.proofs.walk.end_all.Goals as goal

pub returns-then-letters-eq0 : goal.returns-then-letters-eq0
returns-then-letters-eq0 c = λ yes e one. absurd (none_left e (subst (λ (n : ℕ). bit_at n e ≡ 1) c.if-letters-eq0.true one))

pub returns-in-Some : goal.returns-in-Some
returns-in-Some c = λ yes e one.
    let row = c.args.row.now in
    let found = c.in-Some.ensures.lookup in
    let at : slice_get row c.args.number ≡ Some c.in-Some.own.now = slice_get_read row (length row) c.args.number c.in-Some.own.now refl found.3.0 found.1 in
    (c.in-Some.own.now, at, c.is_within.ensures yes e one)
