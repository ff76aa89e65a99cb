use Rattle.std.proofs.Common.{◌∙◌}
use Rattle.jm_audit.specs.Allowed.{steps_on}
use Rattle.jm_audit.specs.Sheets.{lexicon}
use Rattle.jm_audit.proofs.ProgressLemmas.{ready_first}
use Rattle.jm_audit.proofs.progress.Progress.new.Goals as goal

pub returns-clause-ready : goal.returns-clause-ready
returns-clause-ready g c =
    ready_first (g.M.Monitor.meaning (g.M.Monitor.definition c.args.sheet.now.rules.now)) (lexicon c.args.objects.now c.args.sheet.now) (steps_on c.args.scripts.now c.args.number) _ c.requires.fit
    c.new-2.ensures.items c.in_ok-pending.ensures c.in_ok-account.ensures.empty (c.in_ok-account.ensures.room ∙ c.len.ensures.value)
