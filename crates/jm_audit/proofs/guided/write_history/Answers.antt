use Rattle.std.proofs.Common.{◌≡◌, ◌++◌, ◌+◌, ℕ, List, length, refl, ◌∙◌, ap, subst}
use Rattle.std.specs.Prelude.{option_map}
use Rattle.std.proofs.lemmas.Option.{slice_get_read}
use Rattle.jm_audit.specs.Places.{before, end_text, IsWritten, IsLeftBehind}
use Rattle.jm_audit.specs.Sheets.{lexicon}
use Rattle.jm_audit.proofs.ProgressLemmas.{if_ok, head_written, end_written}
use Rattle.jm_audit.proofs.guided.write_history.Goals as goal

pub returns : goal.returns
returns g c =
    let words = lexicon c.args.objects.now in
    let scripts = c.args.scripts.now in
    let sheets = c.args.sheets.now in
    let n = c.args.number in
    let sheet = c.index-sheets-number.result in
    let at = slice_get_read sheets (length sheets) n sheet refl c.requires.in_range c.index-sheets-number.is in
    let told = c.in_ok-entries.ensures in
    let head = c.as_slice.ensures.value ∙ c.in_ok-head.ensures in
    let end = c.as_slice-2.ensures.value ∙ c.in_ok-end.ensures ∙ ap end_text told.1 in
    let rest = option_map (λ r. r.now) c.args.rest in
    let after_head = option_map (λ r. r.now) c.in_ok-rest.rest in
    let after_entries = option_map (λ r. r.now) c.in_ok-entries.rest in
    if_ok c.write_block-2.result (c.write_block-2.new.written.items ≡ c.write_entries.new.written.items ++ c.as_slice-2.result.now)
    (λ left. IsLeftBehind c.as_slice-2.result.now after_entries (option_map (λ r. r.now) left))
    (λ left. (text : List ℕ) → IsWritten (λ s. g.M.Monitor.meaning (g.M.Monitor.definition s.rules.now)) words scripts sheets text c.args.written.now.items rest (before n) → IsWritten (λ s. g.M.Monitor.meaning (g.M.Monitor.definition s.rules.now)) words scripts sheets text c.write_block-2.new.written.items (option_map (λ r. r.now) left) (before (n + 1)))
    c.write_block-2.ensures.written c.write_block-2.ensures.left
    (λ left is behind text so.
    end_written (λ s. g.M.Monitor.meaning (g.M.Monitor.definition s.rules.now)) words scripts sheets text n sheet at told.0 c.write_entries.new.written.items c.write_block-2.new.written.items after_entries (option_map (λ r. r.now) left) told.2
    (is ∙ ap (λ (t : List ℕ). c.write_entries.new.written.items ++ t) end) (subst (λ (t : List ℕ). IsLeftBehind t after_entries (option_map (λ r. r.now) left)) end behind)
    (told.3 text
    (head_written (λ s. g.M.Monitor.meaning (g.M.Monitor.definition s.rules.now)) words scripts sheets text n sheet at c.args.written.now.items c.write_block.new.written.items rest after_head
    (c.in_ok-rest.ensures.written ∙ ap (λ (t : List ℕ). c.args.written.now.items ++ t) head) (subst (λ (t : List ℕ). IsLeftBehind t rest after_head) head c.in_ok-rest.ensures.left) so)))
