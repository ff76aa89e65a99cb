use Rattle.std.proofs.Common.{◌≡◌, ℕ, sym, ◌∙◌, subst}
use Rattle.jm_model.specs.Bindings.{mask_of, restriction}
use Rattle.jm_index.proofs.BindingLemmas.{restriction-whole}
use Rattle.std.specs.List.{filter_map}
use Rattle.jm_index.specs.Index.{IsFitting, asked_slots}
use Rattle.jm_index.specs.Layout.{Rises, posting_at, slot_at}
use Rattle.jm_index.proofs.AskLemmas.{path_slots}
use Rattle.jm_index.proofs.IndexLemmas.{list_distinct, seen}
use Rattle.jm_index.proofs.index.Index.compatible_into.Goals as goal

pub returns-clause-slots : goal.returns-clause-slots
returns-clause-slots c =
    let fits : IsFitting (seen c.self.inside.entries.items c.self.inside.trees c.self.inside.dropped) c.args.objects.now = rw c.self.view_is c.requires.fits in
    let rising : Rises 0 (posting_at c.self.inside.trees c.args.domain c.shortest-path.result) = c.add_slots.ensures.rising in
    let is : filter_map (slot_at c.as_slice.result.now c.args.domain c.args.binding.now) (posting_at c.self.inside.trees c.args.domain c.shortest-path.result) ≡ asked_slots c.args.domain c.args.binding.now c.args.self.now.list =
    rw (c.as_slice.ensures.value, ← c.self.view_is)
    (path_slots _ _ _ (seen c.self.inside.entries.items c.self.inside.trees c.self.inside.dropped) _ _ _ _ _ c.self.invariant fits c.requires.live c.restrict-common.ensures c.shortest-path.ensures rising)
    in
    let added = rw c.clear.ensures.items at c.add_slots.ensures.slots in
    rw (← is) added

pub returns-clause-distinct : goal.returns-clause-distinct
returns-clause-distinct c = rw (← c.self.view_is) (list_distinct _ _ _ _ c.self.invariant)

pub add_exact-requires : goal.add_exact-requires
add_exact-requires c =
    let b = c.args.binding.now in
    let all : mask_of b ≡ c.args.domain = sym c.mask.ensures.value ∙ c.if-mask-domain.true in
    record { common = sym (subst (λ (m : ℕ). restriction b m ≡ b) all (restriction-whole b)); all = all; none = c.clear.ensures.items }
