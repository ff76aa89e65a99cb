use Rattle.std.proofs.Common.{◌<◌, ◌^◌, length, sym, ◌∙◌, subst, inl, inr}
use Rattle.std.specs.Prelude.{bit_and}
use Rattle.std.proofs.lemmas.Bool.{cases_Bool, ne_eqb}
use Rattle.jm_model.specs.Bindings.{is_below, is_compatible}
use Rattle.jm_model.specs.Layout.{options_of}
use Rattle.jm_model.proofs.LayoutLemmas.{is_below-masks, is_below-compatible}
use Rattle.jm_model.proofs.binding.Binding.le.Goals as goal

pub returns-then-self-other : goal.returns-then-self-other
returns-then-self-other c =
    let m = c.self.inside.mask in
    let a = c.self.inside.objects in
    let n = c.other.inside.mask in
    let b = c.other.inside.objects in
    c.compatible.ensures
    ∙ (λ j. is_compatible (sym c.self.view_is j) (sym c.other.view_is j))
    ∙ sym (is_below-compatible m n a b c.if-self-other.true)
    ∙ (λ j. is_below (c.self.view_is j) (c.other.view_is j))

pub returns-else-self-other : goal.returns-else-self-other
returns-else-self-other c =
    let m = c.self.inside.mask in
    let a = c.self.inside.objects in
    let n = c.other.inside.mask in
    let b = c.other.inside.objects in
    let fits : m < 2 ^ length a = subst (λ k. m < 2 ^ k) (sym c.self.told) c.self.invariant.mask_fits in
    elim (cases_Bool (is_below (options_of m a) (options_of n b))) [
      | inl below ↦ absurd (c.if-self-other.false (is_below-masks m n a b fits below))
      | inr apart ↦ ne_eqb (bit_and m n) m c.if-self-other.false ∙ sym apart ∙ (λ j. is_below (c.self.view_is j) (c.other.view_is j))
    ]
