use Rattle.std.proofs.Common.{◌∙◌, sym}
use Rattle.std.proofs.lemmas.Bool.{false≢true}
use Rattle.std.proofs.lemmas.Bool.Decides.{Decides-eqb}
use Rattle.std.proofs.lemmas.Slice.Eq.{starts_is}
use Rattle.jm_audit.proofs.ChoiceLemmas.{marked_by, digits_first, colon_there}
use Rattle.jm_audit.proofs.pending.has_mark.Goals as goal

pub returns-then-not-starts_with : goal.returns-then-not-starts_with
returns-then-not-starts_with c =
    let digits = c.args.digits.now in
    let text = c.args.text.now in
    let starts = starts_is Decides-eqb text digits c.starts_with.result c.starts_with.ensures.value in (
      λ h. absurd (false≢true h),
      λ m. absurd (false≢true (sym c.if-not-starts_with.true ∙ starts.1 _ (digits_first digits text m))),
    )

pub returns : goal.returns
returns c =
    let digits = c.args.digits.now in
    let text = c.args.text.now in
    let starts = starts_is Decides-eqb text digits c.starts_with.result c.starts_with.ensures.value in (
      λ h. marked_by digits text (starts.0 c.if-not-starts_with.false) (c.is_at.ensures.0 h),
      λ m. c.is_at.ensures.1 (colon_there digits text m),
    )
