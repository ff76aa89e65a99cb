use Rattle.std.proofs.Common.{length, sym, ◌∙◌, ap}
use Rattle.jm_machine.proofs.table_liveness.TableLiveness.new.Goals as goal

pub new-requires : goal.new-requires
new-requires c = c.requires

pub handler_masks-requires : goal.handler_masks-requires
handler_masks-requires c = c.requires.groups

pub idle_masks-requires : goal.idle_masks-requires
idle_masks-requires c = ap length c.as_slice.ensures.value ∙ c.in_ok-hits.ensures.count

pub ending_masks-requires-clause-groups : goal.ending_masks-requires-clause-groups
ending_masks-requires-clause-groups c = c.requires.groups

pub ending_masks-requires-clause-count : goal.ending_masks-requires-clause-count
ending_masks-requires-clause-count c = ap length c.as_slice-2.ensures.value ∙ c.in_ok-hits.ensures.count

pub ending_masks-requires-clause-needs : goal.ending_masks-requires-clause-needs
ending_masks-requires-clause-needs c = c.in_ok-needs.ensures.states

pub first_ending-first_ending-requires-clause-groups : goal.first_ending-first_ending-requires-clause-groups
first_ending-first_ending-requires-clause-groups c = c.requires.groups

pub first_ending-first_ending-requires-clause-count : goal.first_ending-first_ending-requires-clause-count
first_ending-first_ending-requires-clause-count c = ap length c.as_slice-3.ensures.value ∙ c.in_ok-hits.ensures.count

pub first_ending-first_ending-requires-clause-needs : goal.first_ending-first_ending-requires-clause-needs
first_ending-first_ending-requires-clause-needs c = c.in_ok-needs.ensures.states

pub plain_rows-requires-clause-groups : goal.plain_rows-requires-clause-groups
plain_rows-requires-clause-groups c = c.requires.groups

pub plain_rows-requires-clause-count : goal.plain_rows-requires-clause-count
plain_rows-requires-clause-count c = ap length c.as_slice-4.ensures.value ∙ c.in_ok-hits.ensures.count

pub plain_rows-requires-clause-needs : goal.plain_rows-requires-clause-needs
plain_rows-requires-clause-needs c = c.in_ok-needs.ensures.states

pub invariant_of-result : goal.invariant_of-result
invariant_of-result c = c.in_ok-needs.ensures.states ∙ sym (c.in_ok-hits.ensures.count)

pub returns : goal.returns
returns c = record {
  table = c.handler_masks.ensures.table;
  count = c.in_ok-hits.ensures.count;
  hits = c.in_ok-hits.ensures.masks;
  idle = rw c.as_slice.ensures.value at c.in_ok-idle.ensures;
  ending = rw c.as_slice-2.ensures.value at c.in_ok-ending.ensures;
  first_ending = rw c.as_slice-3.ensures.value at c.first_ending-first_ending.ensures;
  needs = c.in_ok-needs.ensures;
  plain = rw c.as_slice-4.ensures.value at c.in_ok-plain.ensures;
}
