use Rattle.std.proofs.Common.{◌≡◌, ◌<◌, map, take}
use Rattle.jm_table.specs.Tables.{state_after_of}
use Rattle.jm_table.proofs.table.Table.state_after.Given as goal

abbrev pub invariant-loop-letter : goal.invariant-loop-letter
invariant-loop-letter l = record {
  here : l.state ≡ state_after_of l.self (map (λ letter. letter.0) (take l.letter-index l.word));
  within : l.state < l.self.states;
}
