use Rattle.std.proofs.Common.{◌≡◌, ℕ, List, [], ap, sym, ◌∙◌, subst, arith, append-nil}
use Rattle.std.specs.Prelude.{OnOk}
use Rattle.jm_print.specs.Lexicons.{Lexicon}
use Rattle.jm_print.proofs.RunLemmas.{printed_at, run_text-written}
use Rattle.jm_print.proofs.history.Printer.run.Goals as goal

pub returns-in-Some : goal.returns-in-Some
returns-in-Some c =
    let l = c.args.self.now in
    let f = c.args.firing.now in
    let same = ap (λ (v : Lexicon). v.statements) c.self.view_is in
    let is = rw c.in-Some.is at (c.get.ensures.lookup.4 (omega arith) []) in
    let printed = printed_at l.statements c.self.inside.handlers.now f.handler c.from.result c.in-Some.handler.now same c.from.ensures is in
    subst (λ (t : List ℕ). OnOk c.handler.result (c.handler.new.page ≡ t)) (run_text-written l c.args.caller c.args.line f c.args.page.now c.firing.new.page c.in-Some.handler.now c.in_ok-firing.ensures printed) c.handler.ensures

pub returns-in-None : goal.returns-in-None
returns-in-None c =
    let l = c.args.self.now in
    let f = c.args.firing.now in
    let same = ap (λ (v : Lexicon). v.statements) c.self.view_is in
    let is = rw c.in-None.is at (c.get.ensures.lookup.4 (omega arith) []) in
    let printed = printed_at l.statements c.self.inside.handlers.now f.handler c.from.result [] same c.from.ensures is in
    sym (append-nil c.firing.new.page) ∙ run_text-written l c.args.caller c.args.line f c.args.page.now c.firing.new.page [] c.in_ok-firing.ensures printed
