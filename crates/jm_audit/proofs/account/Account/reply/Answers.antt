use Rattle.std.proofs.Common.{Bool, List, length, ◌∙◌, sym, subst}
use Rattle.jm_model.specs.declared.step.Step.{Step}
use Rattle.jm_model.specs.declared.step.Outcome.TheVariants.{Kept}
use Rattle.jm_audit.specs.Slices.{Sliced, HaveLetters}
use Rattle.jm_audit.specs.Accounts.{IsReplied, HasRoom, AreKept}
use Rattle.jm_audit.proofs.AccountLemmas.{death_replied, pass_replied}
use Rattle.jm_audit.proofs.account.Account.reply.Goals as goal

pub kept-requires : goal.kept-requires
kept-requires g c =
    subst (λ (l : List Sliced). HaveLetters (g.M.Monitor.meaning (g.M.Monitor.definition c.args.rules.now)) l) (sym c.as_slice-in-Pass.ensures.value) c.requires.letters

pub returns-in-Death-clause-replied : goal.returns-in-Death-clause-replied
returns-in-Death-clause-replied g c = λ h is.
    let m = g.M.Monitor.meaning (g.M.Monitor.definition c.args.rules.now) in
    subst (λ (s : Step). IsReplied m h s c.death.result c.death.new.self) (sym c.in-Death.is)
    (death_replied m h c.args.self.now c.death.new.self c.in-Death.object c.death.result (subst (HasRoom (length c.args.self.now.dead.items)) c.in-Death.is c.requires.room) c.death.ensures is)

pub returns-in_ok-kept-in-Pass-clause-replied : goal.returns-in_ok-kept-in-Pass-clause-replied
returns-in_ok-kept-in-Pass-clause-replied g c = λ h is.
    let m = g.M.Monitor.meaning (g.M.Monitor.definition c.args.rules.now) in
    let kept = c.in_ok-kept-in-Pass.kept.items in
    subst (λ (s : Step). IsReplied m h s (Kept c.len.result) c.args.self.now) (sym c.in-Pass.is)
    (pass_replied m h c.args.self.now kept c.len.result is
    (subst (λ (f : List Bool). AreKept m f c.args.self.now.instances.items kept) c.as_slice.ensures.value
    (subst (λ (l : List Sliced). AreKept m c.as_slice.result.now l kept) c.as_slice-in-Pass.ensures.value c.in_ok-kept-in-Pass.ensures))
    (c.len.ensures ∙ c.in_ok-kept-in-Pass.kept.ok.0) c.len.type_inv)
