use Rattle.jm_lines.proofs.WordLemmas.{object_utf8}
use Rattle.jm_script.proofs.ObjectLemmas.{number_of_mentioned}
use Rattle.jm_script.proofs.objects.mention_one.Goals as goal

pub text-requires : goal.text-requires
text-requires c = object_utf8 _ c.requires.object

pub returns-clause-number : goal.returns-clause-number
returns-clause-number c = rw (← c.text.ensures) (number_of_mentioned c.add.result c.args.names.now c.add.new.self c.text.result.now c.add.ensures.ok c.add.ensures.number c.add.ensures.place)
