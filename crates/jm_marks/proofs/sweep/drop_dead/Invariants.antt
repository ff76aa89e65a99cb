use Rattle.std.proofs.Common.{◌≤◌}
use Rattle.std.specs.Prelude.{IsTrue}
use Rattle.std.specs.List.{IsDistinct}
use Rattle.indexmap.specs.IndexSet.{spare}
use Rattle.jm_model.specs.Layout.{binding_eq}
use Rattle.jm_marks.specs.Marks.{has_live}
use Rattle.jm_marks.specs.Layout.{AreWatched}
use Rattle.jm_marks.specs.Watch.{AreFresh}
use Rattle.jm_marks.proofs.SweepLemmas.{IsSweptTo}
use Rattle.jm_marks.proofs.sweep.drop_dead.Given as goal

abbrev pub invariant-loop-place : goal.invariant-loop-place
invariant-loop-place l = record {
  swept : IsSweptTo (has_live l.objects) l.initial.bindings.keys l.bindings.keys l.place;
  watched : AreWatched l.bindings.keys l.watch.spots;
  fresh : IsTrue l.is_fresh → AreFresh l.objects l.watch.flags;
  distinct : IsDistinct binding_eq l.initial.bindings.keys → IsDistinct binding_eq l.bindings.keys;
  room : spare l.initial.bindings ≤ spare l.bindings;
  row : l.initial.watch.spare ≤ l.watch.spare;
}

abbrev pub decreases-loop-place : goal.decreases-loop-place
decreases-loop-place l = l.place
