use Rattle.std.proofs.Common.{◌≡◌, ◌<◌, true, sym, ◌∙◌, ap, arith}
use Rattle.std.specs.Prelude.{slice_range}
use Rattle.std.proofs.lemmas.Bool.{false≢true}
use Rattle.std.proofs.lemmas.List.{take_all}
use Rattle.std.proofs.lemmas.Option.{slice_get-get_or}
use Rattle.jm_spec.specs.declared.property.HandlerText.{HandlerText}
use Rattle.jm_machine.specs.Handlers.{has_reset}
use Rattle.jm_machine.proofs.GoalLemmas.{hits_more, hits_same, below_bits}
use Rattle.jm_machine.proofs.PropertyLemmas.{some_within}
use Rattle.jm_machine.proofs.handlers.resets_of.Goals as goal
use Rattle.jm_machine.proofs.handlers.resets_of.Goals.{then-has_reset, else-has_reset}

pub loop-place-preserved : goal.loop-place-preserved
loop-place-preserved c = λ k.
    let place = c.loop-place.place in
    let few : place < 16 = omega (arith, c.loop-place-test.true, c.requires.bounded) in
    let at = slice_get-get_or c.args.handlers.now place _ c.loop-place-test.true in
    let says = c.has_reset.ensures ∙ ap (has_reset c.args.bytes.now) c.range_of.ensures in
    elim c.if-has_reset.branch [
      | then-has_reset w ↦ rw w.resets-is
          (hits_more c.args.handlers.now (λ h. has_reset c.args.bytes.now (slice_range c.args.tokens.now h.first h.last) ≡ true) c.loop-place.resets place _ at few (sym says ∙ w.if-has_reset.true) c.loop-place.invariant k)
      | else-has_reset w ↦ rw w.resets-is
          (hits_same c.args.handlers.now (λ h. has_reset c.args.bytes.now (slice_range c.args.tokens.now h.first h.last) ≡ true) c.loop-place.resets place _ at
          (λ has. false≢true (sym w.if-has_reset.false ∙ says ∙ has)) c.loop-place.invariant k)
    ]

pub returns-clause-below : goal.returns-clause-below
returns-clause-below c =
    let P : HandlerText → Type 0 = λ h. has_reset c.args.bytes.now (slice_range c.args.tokens.now h.first h.last) ≡ true in
    let all = take_all c.loop-place.place c.args.handlers.now (omega (arith, c.loop-place-test.false)) in
    below_bits c.loop-place.resets _ (λ k set. some_within P c.args.handlers.now k (rw all at ((c.loop-place.invariant k).0 set)))
