use Rattle.std.proofs.Common.{rules, [], ◌∷◌, ◌++◌, ◌∙◌}
use Rattle.jm_audit.proofs.AccountLemmas.{account_at_start}
use Rattle.jm_audit.proofs.account.Account.new.Goals as goal

pub returns-clause-empty : goal.returns-clause-empty
returns-clause-empty g c =
    account_at_start (g.M.Monitor.meaning (g.M.Monitor.definition c.args.rules.now)) _ c.args.objects c.new.ensures.items
    (c.in_ok-dead.ensures.items_if_clones_equal (λ y e. search rules))
    (c.in_ok-push.ensures.items ∙ (λ j. c.new-instances.ensures.items j ++ c.empty.ensures j ∷ []))
