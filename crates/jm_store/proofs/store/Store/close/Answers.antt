use Rattle.std.proofs.Common.{inl, inr, refl}
use Rattle.std.proofs.lemmas.Bool.{false≢true}
use Rattle.jm_store.proofs.CommitLemmas.{marks_added}
use Rattle.jm_store.proofs.FitLemmas.{housed_fits}
use Rattle.jm_store.proofs.store.Store.close.Goals as goal

pub invariant_of-self : goal.invariant_of-self
invariant_of-self g c =
    let settled = rw (← c.self.view_is) at c.requires.settled in
    record {
      housed = c.self.invariant.housed;
      domains = c.self.invariant.domains;
      settled = λ e pair there. let full = settled pair there in (full.0, full.1);
      room = λ e. absurd (false≢true e);
    }

pub returns-then-not-is_marked-clause-marks : goal.returns-then-not-is_marked-clause-marks
returns-then-not-is_marked-clause-marks g c = rw (← c.self.view_is) (marks_added c.self.inside.marks.list _ _ c.add.ensures.known c.add.ensures.unknown)

pub returns-then-not-is_marked-clause-fits : goal.returns-then-not-is_marked-clause-fits
returns-then-not-is_marked-clause-fits g c =
    let added = marks_added c.self.inside.marks.list _ _ c.add.ensures.known c.add.ensures.unknown in
    rw (← c.self.view_is)
    (λ dead fits marks below. housed_fits _ _ _ _ _ dead c.self.invariant.housed fits (λ t there. elim ((added t).0 there) [ inl before ↦ marks t before | inr is ↦ rw is below ]))

pub returns-else-not-is_marked-clause-fits : goal.returns-else-not-is_marked-clause-fits
returns-else-not-is_marked-clause-fits g c = rw (← c.self.view_is) (λ dead fits marks below. housed_fits _ _ _ _ _ dead c.self.invariant.housed fits marks)

pub returns-then-not-is_marked-clause-kept : goal.returns-then-not-is_marked-clause-kept
returns-then-not-is_marked-clause-kept g c = rw (← c.self.view_is) (record { monitors = refl; index = refl; ending = refl })
