use Rattle.std.proofs.Common.{◌≡◌, ◌∙◌, length, slice_get, sym, ap, subst}
use Rattle.jm_runner.specs.Notes.{AreNotesUnder, HearBelow}
use Rattle.jm_runner.proofs.NoteLemmas.{hear_see, heard_above}
use Rattle.jm_runner.proofs.notices.Notices.wait.Goals as goal

pub hear_all-requires-clause-count : goal.hear_all-requires-clause-count
hear_all-requires-clause-count g c = c.into_notes.result.ok.0 ∙ c.into_notes.ensures.count ∙ ap length c.requires.watches

pub hear_all-requires-clause-notes : goal.hear_all-requires-clause-notes
hear_all-requires-clause-notes g c = λ s watch note wat nat. c.into_notes.ensures.each s watch note (ap (λ l. slice_get l s) c.requires.watches ∙ wat) nat

pub returns-in-Ok-clause-more : goal.returns-in-Ok-clause-more
returns-in-Ok-clause-more g c =
    let notes = c.into_notes.result in
    let before = c.args.seats.now.items in
    let after = c.hear_all.new.seats.items in
    let size : length notes.items ≡ length before = c.into_notes.ensures.count ∙ ap length c.requires.watches ∙ sym c.requires.seats.count in
    hear_see notes.items before after size (subst (λ n. HearBelow n notes.items before after) notes.ok.0 c.hear_all.ensures)

pub returns-in-Ok-clause-told : goal.returns-in-Ok-clause-told
returns-in-Ok-clause-told g c =
    let js = g.J.Naming.scripts in
    let jc = g.J.Naming.cuts in
    let jw = g.J.Naming.watches in
    let notes = c.into_notes.result in
    let before = c.args.seats.now.items in
    let after = c.hear_all.new.seats.items in
    let size : length notes.items ≡ length before = c.into_notes.ensures.count ∙ ap length c.requires.watches ∙ sym c.requires.seats.count in
    let under = subst (λ n. AreNotesUnder js jc jw n notes.items) c.in-Ok.ensures c.into_notes.ensures in
    heard_above js jc jw c.args.watches.now c.args.name notes.items before after size under (subst (λ n. HearBelow n notes.items before after) notes.ok.0 c.hear_all.ensures)
