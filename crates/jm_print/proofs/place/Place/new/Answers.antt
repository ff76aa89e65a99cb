use Rattle.std.proofs.Common.{◌≡◌, ◌-◌, ◌∙◌, arith}
use Rattle.std.proofs.lemmas.List.{length-set}
use Rattle.jm_print.proofs.PlaceLemmas.{ten_digits, place_written}
use Rattle.jm_print.specs.Shorts.{short_text, place_text}
use Rattle.jm_print.proofs.place.Place.new.Goals as goal

told : (c : goal.After-new-text) → short_text c.new-text.result ≡ place_text c.args.caller c.args.line
told c =
    let first = ten_digits c.from.result c.args.line c.from.ensures (omega (arith, c.ranges.line.fits)) in
    let written =
    place_written c.from-2.result c.from.result c.write_digits-behind.result c.write_digits-start.result c.write_digits-behind.new.buf c.write_digits-start.new.buf
    (omega (arith, first, c.write_digits-behind.ensures.start)) (omega (arith, c.write_digits-behind.ensures.start, c.write_digits-behind.auto.buf))
    c.write_digits-start.ensures.start c.write_digits-behind.ensures.start c.write_digits-behind.ensures.written c.write_digits-start.ensures.written in
    c.new-text.ensures.text ∙ written ∙ (λ j. place_text (c.from-2.ensures j) (c.from.ensures j))

pub write_digits-behind-requires : goal.write_digits-behind-requires
write_digits-behind-requires c =
    (omega (arith, ten_digits c.from.result c.args.line c.from.ensures (omega (arith, c.ranges.line.fits))), omega arith)

pub overflow_sub-behind : goal.overflow_sub-behind
overflow_sub-behind c =
    omega (arith, ten_digits c.from.result c.args.line c.from.ensures (omega (arith, c.ranges.line.fits)), c.write_digits-behind.ensures.start)

pub write_digits-start-requires : goal.write_digits-start-requires
write_digits-start-requires c =
    let first = ten_digits c.from.result c.args.line c.from.ensures (omega (arith, c.ranges.line.fits)) in
    let second = ten_digits c.from-2.result c.args.caller c.from-2.ensures (omega (arith, c.ranges.caller.fits)) in
    let colon = c.write_digits-behind.result in (
      omega (arith, first, second, c.write_digits-behind.ensures.start),
      omega (arith, first, c.write_digits-behind.ensures.start, c.write_digits-behind.auto.buf, length-set c.write_digits-behind.new.buf (colon - 1) 58),
    )

pub invariant_of-result : goal.invariant_of-result
invariant_of-result c = (c.new-text.ensures.short, told c)

pub returns : goal.returns
returns c = told c
