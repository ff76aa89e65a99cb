use Rattle.std.proofs.Common.{ℕ, sym, subst, length, arith, replicate, ◌<◌}
use Rattle.std.proofs.lemmas.List.{length-replicate}
use Rattle.std.specs.Prelude.{List}
use Rattle.jm_index.specs.Index.{AreBelow}
use Rattle.jm_model.specs.declared.binding.Binding.{Binding}
use Rattle.jm_index.proofs.ReadLemmas.{Contains-none}
use Rattle.jm_store.proofs.FitLemmas.{kept_first, below_empty, housed_fits}
use Rattle.jm_store.proofs.EndingLemmas.{first_among}
use Rattle.jm_store.proofs.store.Store.with_first.Goals as goal

pub invariant_of-result : goal.invariant_of-result
invariant_of-result g c =
    rw (c.in_ok-monitors.ensures, c.in_ok-add.ensures.added, c.new-index.ensures.list, c.in_ok-push.ensures.items, c.new-domains.ensures.items)
    (kept_first c.args.monitor c.mask.result c.new.result.spare (sym c.mask.ensures.value))

pub returns-clause-fits : goal.returns-clause-fits
returns-clause-fits g c =
    let kept = kept_first c.args.monitor c.mask.result c.new.result.spare (sym c.mask.ensures.value) in
    λ dead.
    let below : AreBelow (length dead) c.args.monitor.instance = subst (λ (b : Binding). AreBelow (length dead) b) (sym c.requires) (below_empty (length dead)) in
    housed_fits _ _ _ c.add.new.self _ dead (rw (c.in_ok-monitors.ensures, c.in_ok-add.ensures.added, c.new-index.ensures.list) kept.housed)
    (c.in_ok-add.ensures.fits dead (c.new-index.ensures.fits dead) below) (λ b there. absurd (Contains-none b (rw c.new.ensures at there)))

pub returns-clause-ending : goal.returns-clause-ending
returns-clause-ending g c =
    let all : List ℕ = replicate 256 4294967295 in
    let low : 0 < length all = omega (arith, length-replicate {A = ℕ} 256 4294967295) in
    λ e ends. first_among all c.args.letters e low ends
