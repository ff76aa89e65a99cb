use Rattle.std.proofs.Common.{drop, length, ◌-◌}
use Rattle.std.proofs.lemmas.List.Elements.{All-take, All-drop}
use Rattle.jm_text.specs.Spans.{LiesWithin}
use Rattle.jm_ptltl.proofs.parse.skip.Goals as goal

pub invariant_of-cursor : goal.invariant_of-cursor
invariant_of-cursor c =
    let bytes = c.args.cursor.now.bytes.now in
    let rest = c.args.cursor.now.rest.now in
    record { within = λ k d lt. All-take (LiesWithin bytes) (length rest - 1) (drop 1 rest) (All-drop (LiesWithin bytes) 1 rest c.args.cursor.now.within) k d lt }
