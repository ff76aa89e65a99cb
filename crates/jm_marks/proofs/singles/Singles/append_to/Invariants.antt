use Rattle.std.proofs.Common.{◌≡◌, ◌*◌, ◌++◌, length}
use Rattle.jm_marks.specs.Singles.{singles_before}
use Rattle.jm_marks.proofs.singles.Singles.append_to.Given as goal

abbrev pub invariant-loop-place : goal.invariant-loop-place
invariant-loop-place l = record {
  items : l.list.items ≡ l.initial.list.items ++ singles_before l.self-inside.bytes.items l.place;
  all : l.place-end ≡ 8 * length l.self-inside.bytes.items;
}
