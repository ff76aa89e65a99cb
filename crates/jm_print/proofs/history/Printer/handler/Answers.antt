use Rattle.std.proofs.Common.{ℕ, List, ap, sym, subst}
use Rattle.jm_handler.specs.Renderings.{AreNamed}
use Rattle.jm_print.specs.Lexicons.{Lexicon}
use Rattle.jm_print.proofs.PairLemmas.{names-bound}
use Rattle.jm_print.proofs.history.Printer.handler.Goals as goal

pub handler-requires : goal.handler-requires
handler-requires c =
    let same = sym (ap (λ (l : Lexicon). l.objects) c.self.view_is) in
    subst (λ (os : List (List ℕ)). AreNamed os c.args.firing.now.instance) same (names-bound c.args.self.now 0 c.args.firing.now.instance c.requires.1)
