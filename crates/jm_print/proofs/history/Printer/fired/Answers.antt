use Rattle.std.proofs.Common.{◌≡◌, ℕ, List, ◌++◌, subst, sym, ◌∙◌}
use Rattle.std.specs.Prelude.{OnOk}
use Rattle.jm_print.proofs.RunLemmas.{fired_none, fired_one}
use Rattle.jm_print.proofs.history.Printer.fired.Goals as goal

pub returns-then-len-eq0 : goal.returns-then-len-eq0
returns-then-len-eq0 c =
    subst (λ (t : List ℕ). OnOk c.text.result (c.text.new.self ≡ c.args.page.now ++ t))
    (fired_none c.args.self.now c.args.caller c.args.line c.args.firings.now (sym c.len.ensures ∙ c.if-len-eq0.true)) c.text.ensures

pub returns-then-len-eq1 : goal.returns-then-len-eq1
returns-then-len-eq1 c =
    subst (λ (t : List ℕ). OnOk c.firings.result (c.firings.new.page ≡ t))
    (fired_one c.args.self.now c.args.caller c.args.line c.args.firings.now c.args.page.now c.text-then-len-eq1.new.self
    (sym c.len-2.ensures ∙ c.if-len-eq1.true) c.in_ok-text.ensures) c.firings.ensures
