use Rattle.std.proofs.Common.{ℕ, ◌↔◌, List, Contains, subst, rules}
use Rattle.jm_table.proofs.MemberLemmas.{members_are, members_within}
use Rattle.jm_ptltl.specs.Vectors.{Says}
use Rattle.jm_ptltl.proofs.compile.add_group.Goals as goal

pub add_group-requires-clause-states : goal.add_group-requires-clause-states
add_group-requires-clause-states c =
    rw c.as_slice.ensures.value (members_within _ c.args.nodes.now _ _ c.requires.states c.in_ok-members.ensures)

pub returns-clause-group : goal.returns-clause-group
returns-clause-group c =
    let added = c.in_ok-add_group.ensures.ok in record {
      members = added.0;
      added = added.1;
      each = λ state.
          let same = subst (λ (l : List ℕ). Contains added.0 state ↔ Contains l state) c.as_slice.ensures.value (added.2 state) in
          let is = members_are _ c.args.nodes.now (Says c.args.place c.args.truth) c.in_ok-members.members.items (λ x says. search rules) (λ x says. search rules) c.in_ok-members.ensures state in
          (λ h. is.0 (same.0 h), λ h. same.1 (is.1 h));
    }
