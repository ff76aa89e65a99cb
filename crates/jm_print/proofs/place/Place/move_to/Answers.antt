use Rattle.std.proofs.Common.{ℕ, ◌∙◌, ap, sym, arith, length-set}
use Rattle.jm_print.specs.Shorts.{place_text}
use Rattle.jm_print.proofs.PlaceLemmas.{next_place}
use Rattle.jm_print.proofs.place.Place.move_to.Goals as goal

pub invariant_of-self : goal.invariant_of-self
invariant_of-self c =
    let own = c.self.inside.text in
    let told = c.self.invariant in (
      (told.0.0, length-set own.bytes _ _ ∙ told.0.1),
      next_place c.self.inside.caller c.self.inside.line c.args.line own.len own.bytes
          (omega (arith, c.if-from.true, c.from.ensures, c.from-then-caller-self.ensures, c.ranges.line.fits)) told.0.0 told.0.1 told.1
          (omega (arith, c.if-from.true, c.from.ensures, c.from-then-caller-self.ensures)) c.if-last-lt57.true,
    )

pub returns-then-from : goal.returns-then-from
returns-then-from c =
    let own = c.self.inside.text in
    let told = c.self.invariant in
    next_place c.self.inside.caller c.self.inside.line c.args.line own.len own.bytes
    (omega (arith, c.if-from.true, c.from.ensures, c.from-then-caller-self.ensures, c.ranges.line.fits)) told.0.0 told.0.1 told.1
    (omega (arith, c.if-from.true, c.from.ensures, c.from-then-caller-self.ensures)) c.if-last-lt57.true
    ∙ ap (λ (caller : ℕ). place_text caller c.args.line) (sym c.if-caller-self.true)
