use Rattle.std.specs.Prelude.{None}
use Rattle.jm_awake.proofs.StepLemmas.{comes_unlisted}
use Rattle.jm_store.proofs.ListedLemmas.{wakable_none}
use Rattle.jm_store.proofs.waking.wake_listed.Goals as goal

pub returns-then-wants-clause-sound : goal.returns-then-wants-clause-sound
returns-then-wants-clause-sound c = λ o free sound. c.wake.ensures.sound None o (wakable_none o c.args.awake.now c.args.slot c.args.instance.now 0 free) sound

pub returns-else-wants-clause-sound : goal.returns-else-wants-clause-sound
returns-else-wants-clause-sound c = λ o free sound. comes_unlisted None o _ c.args.slot _ free sound
