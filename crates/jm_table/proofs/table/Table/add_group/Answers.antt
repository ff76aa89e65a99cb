use Rattle.std.proofs.Common.{ℕ, ◌↔◌, List, [], ◌∷◌, ◌++◌, Contains, ap, subst, ◌∙◌, arith}
use Rattle.std.proofs.lemmas.List.{take_all}
use Rattle.jm_table.specs.Tables.{Transitions}
use Rattle.jm_table.proofs.WordLemmas.{members_more}
use Rattle.jm_table.proofs.table.Table.add_group.Goals as goal

pub loop-state-init : goal.loop-state-init
loop-state-init c = λ s. (λ there. absurd (c.new-members.ensures s there), λ none. absurd (omega (arith, none.1)))

pub insert-requires : goal.insert-requires
insert-requires c =
    omega (arith, c.requires.states c.loop-state.state-index 0 c.loop-state-test.true, c.self.invariant.few_states, ap (λ (t : Transitions). t.states) c.self.view_is)

pub loop-state-preserved : goal.loop-state-preserved
loop-state-preserved c =
    members_more c.args.states.now c.loop-state.state-index c.loop-state.members c.insert.new.self c.loop-state-test.true c.loop-state.invariant c.insert.ensures.member

pub returns-clause-ok : goal.returns-clause-ok
returns-clause-ok c =
    let t = c.self.inside in
    let members = c.loop-state.members in (
      members,
      ap (λ (groups : List (List ℕ)). record { states = t.states; letters = t.letters; next = t.next.items; groups = groups }) c.in_ok-push.ensures.items
          ∙ ap (λ (table : Transitions). record table { groups = table.groups ++ members ∷ [] }) c.self.view_is,
      λ s. subst (λ (l : List ℕ). Contains members s ↔ Contains l s) (take_all c.loop-state.state-index c.args.states.now c.loop-state-test.false) (c.loop-state.invariant s),
    )
