use Rattle.std.proofs.Common.{◌≡◌, length}
use Rattle.jm_marks.specs.Watch.{AreFlags}
use Rattle.jm_marks.proofs.FlagLemmas.{AreKnown}
use Rattle.jm_marks.proofs.watch.renew.Given as goal

abbrev pub invariant-loop-index : goal.invariant-loop-index
invariant-loop-index l = record {
  flags : AreFlags l.flags.items l.words.items;
  size : length l.flags.items ≡ length l.initial.flags.items;
  count : length l.words.items ≡ l.index-end;
  known : AreKnown l.objects l.words.items l.index;
}
