use Rattle.std.proofs.Common.{[], ◌∷◌, Some, inl, inr, sym, ap, ◌∙◌}
use Rattle.std.proofs.lemmas.Bool.{false≢true}
use Rattle.std.proofs.lemmas.Option.{slice_get-get_or}
use Rattle.jm_machine.proofs.grammar_liveness.GrammarLiveness.goes_on.Goals as goal

pub returns-else-matches : goal.returns-else-matches
returns-else-matches c =
    let firsts = rw (← c.self.view_is) at c.requires.firsts in
    let less = rw (← c.self.view_is) at c.requires.letter in
    let there = slice_get-get_or c.self.inside.firsts.items c.args.letter.0 c.index-chart.result.now less ∙ ap Some (sym c.index-chart.ensures) in
    let chart = firsts.each c.args.letter.0 c.index-chart.result.now there in
    let alive = c.alive.ensures (c.args.letter.0 ∷ []) chart in
    let matches = c.matches.ensures (c.args.letter.0 ∷ []) chart in
    (λ on. inr (alive.0 on), λ goes. elim goes [ inl word ↦ absurd (false≢true (sym c.if-matches.false ∙ matches.1 word)) | inr more ↦ alive.1 more ])
