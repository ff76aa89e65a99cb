use Rattle.jm_audit.proofs.ChoiceLemmas.{choice_free}
use Rattle.jm_audit.proofs.pending.choose.Goals as goal

pub returns-in-None-clause-choice : goal.returns-in-None-clause-choice
returns-in-None-clause-choice c = rw c.in-None.is (choice_free c.args.pending.now c.requires)
