use Rattle.std.proofs.Common.{ℕ, ◌≡◌, ◌<◌, ◌≤◌, ◌-◌, Bool, true, false, [], ◌∷◌, ◌++◌, List, length, get_or, drop, refl, sym, ap, ◌∙◌, arith}
use Rattle.std.specs.Prelude.{Some, None, not, ◌||◌, nat_lt}
use Rattle.std.proofs.lemmas.Bool.Decides.{nat_tests}
use Rattle.std.proofs.lemmas.Option.{slice_get-get_or}
use Rattle.std.proofs.lemmas.Result.{err_from_is_err_and}
use Rattle.jm_text.specs.declared.token.Token.{Token}
use Rattle.jm_reading.specs.Reading.{is_name_at}
use Rattle.jm_spec.specs.Rules.{named_at, param_at}
use Rattle.jm_spec.specs.Runs.{parameter_length}
use Rattle.jm_spec.proofs.TakeLemmas.{fails_first, fails_at_none}
use Rattle.jm_spec.proofs.head.param.Goals as goal
use Rattle.jm_spec.proofs.head.param.Goals.{then-n-lt2-via-then-n-lt2, then-n-lt2-via-else-n-lt2+then-not-is_name_at}

less_than_two : (n : ℕ) → n < 2 → nat_lt n 2 ≡ true
less_than_two n h = grind (arith, nat_tests)

two_at_least : (n : ℕ) → 2 ≤ n → nat_lt n 2 ≡ false
two_at_least n h = grind (arith, nat_tests)

or_true : (b : Bool) → b || true ≡ true
or_true true = refl
or_true false = refl

module _ (names : List Token) (bytes : List ℕ) (tokens : List Token) (n : ℕ) where
  -- the type is empty, or what stands last is no name
  unnamed : nat_lt n 2 || not (is_name_at bytes tokens (n - 1)) ≡ true → named_at names bytes tokens n ≡ None
  unnamed h = rw h refl

  named : (d : Token) → 2 ≤ n → n < length tokens → is_name_at bytes tokens (n - 1) ≡ true → named_at names bytes tokens n ≡ Some (names ++ get_or tokens (n - 1) d ∷ [], drop n tokens)
  named d two lt h = rw (two_at_least n two, h, slice_get-get_or tokens (n - 1) d (omega arith)) refl

pub returns-in_err-n : goal.returns-in_err-n
unfolding param_at
returns-in_err-n c =
    let p = err_from_is_err_and c.from_residual.result c.from_residual.ensures.1 in
    let old = c.args.cursor.now in
    rw (p.1, p.2) (fails_first c.in_err-n.field-0.0 (parameter_length old.bytes.now old.rest.now) (named_at c.args.names old.bytes.now old.rest.now) c.in_err-n.ensures.value)

pub returns-then-n-lt2 : goal.returns-then-n-lt2
unfolding param_at
returns-then-n-lt2 c =
    let old = c.args.cursor.now in
    let none : named_at c.args.names old.bytes.now old.rest.now c.in_ok-n.n ≡ None =
    elim c.then-n-lt2.branch [
      | then-n-lt2-via-then-n-lt2 w ↦ unnamed c.args.names old.bytes.now old.rest.now c.in_ok-n.n (ap (λ b. b || not (is_name_at old.bytes.now old.rest.now (c.in_ok-n.n - 1))) (less_than_two c.in_ok-n.n w.if-n-lt2.true))
      | then-n-lt2-via-else-n-lt2+then-not-is_name_at w ↦ unnamed c.args.names old.bytes.now old.rest.now c.in_ok-n.n
          (ap (λ b. nat_lt c.in_ok-n.n 2 || not b) (sym w.is_name_at.ensures ∙ w.if-not-is_name_at.true) ∙ or_true (nat_lt c.in_ok-n.n 2))
    ] in
    fails_at_none c.syntax.result (param_at c.args.names old.bytes.now old.rest.now) c.syntax.ensures.is (rw c.in_ok-n.ensures.value none)

pub returns : goal.returns
unfolding param_at
returns c =
    let old = c.args.cursor.now in (
      c.advance-2.ensures.bytes,
      rw (c.in_ok-n.ensures.value, c.in_ok-push.ensures.ok, c.advance-2.ensures.rest)
          (named c.args.names old.bytes.now old.rest.now c.in_ok-n.n _ c.if-n-lt2.false c.in_ok-n.ensures.fits (sym c.is_name_at.ensures ∙ c.if-not-is_name_at.false)),
    )
