use Rattle.std.specs.Prelude.{string_bytes}
use Rattle.std.proofs.Common.{◌≡◌, drop}
use Rattle.jm_reading.specs.Faults.{with_each}
use Rattle.jm_fsm.specs.Faults.{with_member, alias_said}
use Rattle.jm_fsm.proofs.resolve.Resolver.alias.Given as goal

abbrev pub invariant-loop-member : goal.invariant-loop-member
invariant-loop-member l = with_each (with_member l.self.bytes.now l.self.states.now) (record { name = string_bytes l.alias-inside.name; members = l.alias-inside.members.items }) (drop l.member-index l.members) ≡ alias_said l.self.bytes.now l.self.states.now l.fn.name l.members
