use Rattle.std.proofs.Common.{refl, sym, ap, ◌∙◌, arith}
use Rattle.jm_events.specs.Names.{number_of, with_name}
use Rattle.jm_events.proofs.NameLemmas.{with_name-known}
use Rattle.jm_lines.proofs.WordLemmas.{object_utf8}
use Rattle.jm_sync.proofs.CutLemmas.{room_for}
use Rattle.jm_sync.proofs.cutting.mention.Goals as goal

pub text-name-requires : goal.text-name-requires
text-name-requires c = object_utf8 _ c.requires.object

pub add-requires : goal.add-requires
add-requires c =
    let none = ap (number_of c.args.names.now) (sym c.text-name.ensures) ∙ sym c.in-None.ensures.value in
    omega (arith, room_for c.args.names.now c.args.name.now 4294967296 none c.requires.bounded)

pub returns-in-Some-clause-ok : goal.returns-in-Some-clause-ok
returns-in-Some-clause-ok c =
    with_name-known c.args.names.now c.text-name.result.now c.in-Some.number ((c.in-Some.ensures.at c.in-Some.number).0 refl) ∙ ap (with_name c.args.names.now) c.text-name.ensures
