use Rattle.std.proofs.Common.{List, filter, subst}
use Rattle.std.specs.Prelude.{Contains}
use Rattle.std.specs.List.Sorted.{IsPermutation}
use Rattle.std.proofs.lemmas.List.Sorted.{Contains-permutation, IsPermutation-sym}
use Rattle.jm_model.specs.declared.binding.Binding.{Binding}
use Rattle.jm_semantics.proofs.ListLemmas.{Contains-from_filter}
use Rattle.jm_marks.specs.Marks.{has_live}
use Rattle.jm_store.specs.Slots.{monitors_of}
use Rattle.jm_store.proofs.PassLemmas.{kept_swept, single_housed, thinned, alive, live_marks}
use Rattle.jm_store.proofs.FitLemmas.{housed_fits}
use Rattle.jm_store.proofs.SettledLemmas.{left_down}
use Rattle.jm_store.proofs.SparedLemmas.{spared_fewer}
use Rattle.jm_store.proofs.StoreLemmas.{store_after_pass}
use Rattle.jm_store.proofs.store.Store.dispose.Goals as goal

pub invariant_of-self : goal.invariant_of-self
invariant_of-self g c = kept_swept _ _ _ _ _ _ _ c.self.invariant c.drop_dead.ensures.list c.sweep.ensures.spare

pub returns-clause-disposed : goal.returns-clause-disposed
returns-clause-disposed g c =
    let m = g.M.Monitor.meaning (g.M.Monitor.definition c.args.rules.now) in
    let Stands = g.M.Monitor.StandsFor c.args.rules.now in
    let dead = c.args.objects.now in
    let old = c.args.self.now in
    let left = monitors_of c.self.inside.monitors.slots in
    let down = rw (← c.self.view_is) at c.drop_all_cut.ensures.down in
    let all = rw (← c.self.view_is) at c.drop_all_cut.ensures.all in
    let few = thinned m Stands dead old.monitors left down.each (single_housed _ _ c.self.invariant.housed) in
    let living = alive m Stands dead old.monitors left all in
    let marked = live_marks m Stands dead _ _ (subst (λ (l : List Binding). IsPermutation (filter (has_live dead) l) c.sweep.new.self.list) down.marks c.sweep.ensures.list) in
    record {
      thinned = few;
      alive = living;
      slots = left_down m Stands dead old _ down;
      marks = marked;
      ending = down.ending;
      keeps = λ trace holds. store_after_pass m Stands trace dead old _ few (λ spared. living) marked down.ending c.drop_dead.ensures.fits.reached holds;
    }

pub returns-clause-fits : goal.returns-clause-fits
returns-clause-fits g c =
    let m = g.M.Monitor.meaning (g.M.Monitor.definition c.args.rules.now) in
    let Stands = g.M.Monitor.StandsFor c.args.rules.now in
    let dead = c.args.objects.now in
    let down = rw (← c.self.view_is) at c.drop_all_cut.ensures.down in
    record {
      fits = housed_fits _ _ _ c.drop_dead.new.self _ dead (rw c.drop_dead.ensures.list c.self.invariant.housed) c.drop_dead.ensures.fits
          (λ b there.
          let kept = Contains-from_filter (has_live dead) c.self.inside.marks.list b (Contains-permutation _ _ b (IsPermutation-sym _ _ c.sweep.ensures.list) there) in
          c.requires.fits.fits.marks b (subst (λ (l : List Binding). Contains l b) down.marks kept.0));
      spared = spared_fewer m Stands dead _ _ c.drop_dead.ensures.fits.reached (returns-clause-disposed g c).alive;
    }

pub drop_all_cut-requires-clause-spared : goal.drop_all_cut-requires-clause-spared
drop_all_cut-requires-clause-spared g c = c.requires.fits.spared

pub drop_dead-requires : goal.drop_dead-requires
drop_dead-requires g c =
    let down = rw (← c.self.view_is) at c.drop_all_cut.ensures.down in
    down.index c.args.objects.now c.requires.fits.fits.index
