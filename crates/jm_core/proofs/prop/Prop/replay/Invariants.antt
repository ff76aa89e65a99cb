use Rattle.std.proofs.Common.{take}
use Rattle.jm_semantics.specs.Legality.{IsLegal}
use Rattle.jm_core.specs.Cores.{FitsHistory}
use Rattle.jm_core.specs.Replays.{Replayed}
use Rattle.jm_core.proofs.prop.Prop.replay.Given as goal

abbrev pub invariant-loop-line : goal.invariant-loop-line
invariant-loop-line g l = record {
  done : Replayed l.caller (take l.line-index l.steps) l.initial.self l.self;
  legal : IsLegal (g.M.Monitor.meaning l.self.definition) l.self.entries;
  fits : FitsHistory (g.M.Monitor.meaning l.self.definition) l.self.entries l.self.stored l.self.marks;
}
