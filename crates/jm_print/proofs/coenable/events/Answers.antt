use Rattle.std.proofs.Common.{◌<◌, length, map, arith}
use Rattle.jm_events.specs.Events.{event_names}
use Rattle.jm_print.proofs.ListLemmas.{family_written, read_at}
use Rattle.jm_print.proofs.coenable.events.Goals as goal

pub loop-letter-preserved : goal.loop-letter-preserved
loop-letter-preserved c =
    let t = c.args.table.now in
    let families = c.args.families.now in
    let letter = c.loop-letter.letter in
    let within : letter < length families = omega (arith, c.loop-letter-test.true, c.letters-letter-end.ensures.value, c.requires) in
    let family = read_at (λ f. f.items) families letter c.index-families-letter.result c.as_slice-family.result.now within c.index-families-letter.is c.as_slice-family.ensures.value in
    family_written t.parameters (event_names t) (map (λ f. f.items) families) letter c.event_name.result.now c.as_slice-family.result.now c.args.page.now
    c.loop-letter.page c.event.new.page c.event_name.ensures family c.loop-letter.invariant c.in_ok-event.ensures
