-- Two facts of one result.
use Rattle.std.specs.Prelude.{Result, Ok, Err, IfOk}

pub both_ok : {A E : Type 0} (r : Result A E) (P Q R : A → Type 0) → ((x : A) → P x → Q x → R x) → IfOk r P → IfOk r Q → IfOk r R
both_ok (Ok x) P Q R both p q = both x p q
both_ok (Err e) P Q R both p q = p
