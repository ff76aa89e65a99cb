use Rattle.std.proofs.Common.{List, false, ap, ◌∙◌}
use Rattle.std.specs.List.{list_any}
use Rattle.jm_grammar.specs.declared.grammar.Production.{Production}
use Rattle.jm_earley.specs.declared.continuation.Continuation.{Continuation}
use Rattle.jm_earley.specs.Links.{keeps_alive}
use Rattle.jm_earley.proofs.ContinuationLemmas.{future_exact}
use Rattle.jm_earley.proofs.continuation.Question.future.Goals as goal

pub returns : goal.returns
returns c = λ exact word all are.
    let at = c.args.self.now in
    let g = at.grammar.now in
    let earlier = at.earlier.now in
    let items = at.items.now in
    let ends = c.in_ok-ends.ends in
    let more = c.in_ok-more.more in
    let here : Continuation = record { ends = ends; more = more; alive = false } in
    let alive_is = c.is_alive-alive.ensures ∙ ap (λ (l : List Production). list_any (keeps_alive l at.set at.number earlier here) items) c.productions.ensures.value in
    future_exact g c.productions.ensures.small at.set exact word items all at.number earlier are ends more c.is_alive-alive.result c.in_ok-ends.ensures c.in_ok-more.ensures alive_is
