use Rattle.std.proofs.Common.{◌≡◌, length}
use Rattle.std.specs.Prelude.{vec_len, vec_capacity}
use Rattle.jm_events.specs.Chains.{hashes_of, befores_of, AreHeads, AreBefores}
use Rattle.jm_events.proofs.chains.enter_all.Given as goal

abbrev pub invariant-loop-number : goal.invariant-loop-number
invariant-loop-number l = record {
  same : hashes_of l.links.items ≡ hashes_of l.fn.links.items;
  lasts : AreHeads (hashes_of l.links.items) (length l.fn.heads.items) l.number l.heads.items;
  befores : AreBefores (hashes_of l.links.items) (length l.fn.heads.items) l.number (befores_of l.links.items);
  links : vec_len l.links ≡ vec_len l.fn.links;
  heads : length l.heads.items ≡ length l.fn.heads.items;
  room : vec_capacity l.links ≡ vec_capacity l.fn.links;
}
