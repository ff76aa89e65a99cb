use Rattle.std.proofs.Common.{◌≡◌, ◌<◌, [], ◌∷◌, ◌++◌, length, map, get_or, sym, ap, ◌∙◌, arith}
use Rattle.std.proofs.lemmas.List.{get_or-map}
use Rattle.jm_earley.proofs.AwaitIndexLemmas.{empty_more, written_here, written_elsewhere}
use Rattle.jm_earley.proofs.await_index.AwaitIndex.add.Goals as goal

pub lists-preserved : goal.lists-preserved
lists-preserved c = λ m.
    ap (λ l. get_or (map (λ b. b.items) l) m []) c.in_ok-push.ensures.items ∙ empty_more (λ b. b.items) c.lists.self-inside.lists.items c.new.result c.new.ensures.items m ∙ c.lists.invariant m

pub returns-clause-at_key : goal.returns-clause-at_key
returns-clause-at_key c =
    let lists = c.lists.self-inside.lists.items in
    let n = c.args.n in
    let lt : n < length lists = omega (arith, c.len.ensures, c.lists-test.false) in
    let old : get_or (map (λ b. b.items) lists) n [] ≡ c.index_mut.result.now.items =
    get_or-map (λ b. b.items) lists n c.index_mut.result.now [] lt ∙ ap (λ b. b.items) (sym c.index_mut.ensures.value) in
    rw (← c.self.view_is)
    (written_here (λ b. b.items) lists n c.push-2.new.self lt ∙ c.in_ok-push-2.ensures.items ∙ ap (λ l. l ++ c.args.item ∷ []) (sym old ∙ c.lists.invariant n))

pub returns-clause-others : goal.returns-clause-others
returns-clause-others c = λ m other. rw (← c.self.view_is) (written_elsewhere (λ b. b.items) c.lists.self-inside.lists.items c.args.n c.push-2.new.self m other ∙ c.lists.invariant m)
