use Rattle.std.proofs.Common.{◌≡◌, List, ◌∙◌, ap, sym, subst}
use Rattle.std.specs.Prelude.{None, find}
use Rattle.jm_model.specs.Bindings.{objects_of}
use Rattle.jm_audit.specs.Flags.{is_flagged}
use Rattle.jm_audit.specs.Slices.{Sliced, HaveLetters}
use Rattle.jm_audit.specs.Accounts.{IsReport}
use Rattle.jm_audit.proofs.SliceLemmas.{letters_after}
use Rattle.jm_audit.proofs.AccountLemmas.{event_refused, event_fired, none_from}
use Rattle.jm_audit.proofs.account.Account.event.Goals as goal

pub returns-in-Some-clause-replied : goal.returns-in-Some-clause-replied
returns-in-Some-clause-replied g c = λ h is.
    event_refused (g.M.Monitor.meaning (g.M.Monitor.definition c.args.rules.now)) h c.args.self.now c.args.letter c.args.binding.now c.in-Some.object is
    (sym (ap (λ f. find (is_flagged f) (objects_of c.args.binding.now)) c.as_slice.ensures.value) ∙ sym c.in-Some.ensures)

pub report-requires : goal.report-requires
report-requires g c =
    let m = g.M.Monitor.meaning (g.M.Monitor.definition c.args.rules.now) in
    subst (λ (l : List Sliced). HaveLetters m l) (sym (c.as_slice-2.ensures.value ∙ c.in_ok-grow.ensures.instances))
    (letters_after m c.args.letter.0 c.args.binding.now c.args.self.now.seen.items c.args.self.now.instances.items c.requires.own.0 c.requires.letters)

pub returns-clause-replied : goal.returns-clause-replied
returns-clause-replied g c = λ h is.
    let m = g.M.Monitor.meaning (g.M.Monitor.definition c.args.rules.now) in
    let b = c.args.binding.now in
    let live : find (is_flagged c.args.self.now.dead.items) (objects_of b) ≡ None =
    sym (c.first_dead.ensures ∙ ap (λ f. find (is_flagged f) (objects_of b)) c.as_slice.ensures.value) ∙ none_from c.first_dead.result c.in_default.not-Some in
    event_fired m h c.args.self.now c.grow.new.self c.args.letter b c.in_ok-firings.firings is c.requires.own live
    c.in_ok-grow.ensures.seen c.in_ok-grow.ensures.dead c.in_ok-grow.ensures.instances
    (subst (λ (l : List Sliced). IsReport m b l c.in_ok-firings.firings) c.as_slice-2.ensures.value c.in_ok-firings.ensures)
