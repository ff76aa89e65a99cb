-- After a pass the stored monitors are as many as the instances that aren't cut.
use Rattle.std.proofs.Common.{ℕ, Bool, List, sym, subst}
use Rattle.jm_model.specs.Meanings.{Meaning, IsCutWord}
use Rattle.jm_model.specs.declared.binding.Binding.{Binding}
use Rattle.jm_model.specs.declared.step.Entry.{Entry}
use Rattle.jm_semantics.specs.Traces.{slice_of}
use Rattle.jm_semantics.specs.Histories.{trace_of}
use Rattle.jm_semantics.specs.Disposal.{IsCut}
use Rattle.jm_marks.specs.Marks.{dead_mask_of}
use Rattle.jm_monitors.specs.Deaths.{AreFlagsOf}
use Rattle.jm_monitors.specs.Laws.{PassCountsStored}
use Rattle.jm_monitors.proofs.DeathLemmas.{flags_tell_parameters-lem}
use Rattle.jm_monitors.proofs.PassLemmas.{pass_keeps_store-lem}
use Rattle.jm_monitors.proofs.RankLemmas.{ranking_of}

-- what is cut by the flags is cut by the history, and the other way round
pub cut-from_flags : (m : Meaning) (h : List Entry) (dead : List Bool) (t : Binding) → AreFlagsOf h dead → IsCutWord m (slice_of (trace_of h) t) (dead_mask_of dead t) → IsCut m h t
cut-from_flags m h dead t flags cut = subst (IsCutWord m (slice_of (trace_of h) t)) (sym (flags_tell_parameters-lem h dead t flags)) cut

pub cut-by_flags : (m : Meaning) (h : List Entry) (dead : List Bool) (t : Binding) → AreFlagsOf h dead → IsCut m h t → IsCutWord m (slice_of (trace_of h) t) (dead_mask_of dead t)
cut-by_flags m h dead t flags cut = subst (IsCutWord m (slice_of (trace_of h) t)) (flags_tell_parameters-lem h dead t flags) cut

pub pass_counts_stored-lem : (m : Meaning) {S : Type 0} (Stands : S → List ℕ → Type 0) → PassCountsStored m Stands
pass_counts_stored-lem m Stands h dead stored after marks left flags store is =
    let passed = pass_keeps_store-lem m Stands (trace_of h) dead stored after marks left store is in
    let ranked = ranking_of after is.thinned.distinct in
    record {
      kept = ranked.0;
      increasing = ranked.1.increasing;
      exact = λ t. (
        (λ c. let alive = (passed.1 t).0 ((ranked.1.same t).1 c) in (alive.0, λ cut. alive.1 (cut-by_flags m h dead t flags cut))),
        (λ alive. (ranked.1.same t).0 ((passed.1 t).1 (alive.0, λ cut. alive.1 (cut-from_flags m h dead t flags cut)))),
      );
      count = sym ranked.1.count;
    }
