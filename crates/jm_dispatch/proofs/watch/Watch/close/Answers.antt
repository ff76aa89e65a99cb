use Rattle.std.proofs.Common.{◌≡◌, All, Any, subst, sym}
use mathlib.Core.List.{IsPrefix}
use Rattle.jm_dispatch.proofs.watch.Watch.close.Goals as goal

pub returns-clause-seen : goal.returns-clause-seen
returns-clause-seen g c =
    subst (λ p. All (λ s. IsPrefix s.seen p.entries) c.args.seats.items) (sym c.into_inner-prop.ensures) c.close-prop.ensures.seen

pub returns-clause-others : goal.returns-clause-others
returns-clause-others g c =
    subst (λ p. All (λ e. Any (λ s. s.number ≡ e.caller) c.args.seats.items) p.entries) (sym c.into_inner-prop.ensures) c.close-prop.ensures.others
