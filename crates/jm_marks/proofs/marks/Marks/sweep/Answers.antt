use Rattle.jm_marks.specs.Marks.{has_live}
use Rattle.jm_marks.specs.Singles.{singles_of}
use Rattle.jm_marks.proofs.SetLemmas.{AreMarks-fewer, AreApart-fewer, fewer_both, swept_both, kept_singles, kept_keys}
use Rattle.jm_marks.proofs.marks.Marks.sweep.Goals as goal

pub invariant_of-self : goal.invariant_of-self
invariant_of-self c =
    let live = has_live c.args.objects.now in
    let singles = kept_singles live (singles_of c.self.inside.singles) (singles_of c.drop_dead.new.self) c.drop_dead.ensures in
    let keys = kept_keys live c.self.inside.bindings.keys c.drop_dead-2.new.bindings.keys c.drop_dead-2.ensures.list in (
      AreMarks-fewer _ _ _ _ c.self.invariant.0 (fewer_both _ _ _ _ singles keys),
      AreApart-fewer _ _ _ _ _ c.self.invariant.1 (c.drop_dead-2.ensures.distinct c.self.invariant.1.distinct) singles keys,
      c.drop_dead-2.ensures.watched,
    )

pub returns-clause-list : goal.returns-clause-list
returns-clause-list c =
    rw (← c.self.view_is)
    (swept_both (has_live c.args.objects.now) (singles_of c.self.inside.singles) _ c.self.inside.bindings.keys _ c.drop_dead.ensures c.drop_dead-2.ensures.list)
