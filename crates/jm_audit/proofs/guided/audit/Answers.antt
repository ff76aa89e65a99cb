use Rattle.std.proofs.Common.{◌+◌, ℕ, List, ◌∙◌, ap, sym, subst, arith}
use Rattle.std.specs.Prelude.{Some, option_map}
use Rattle.std.proofs.lemmas.Bool.{false≢true}
use Rattle.std.proofs.lemmas.Bool.Decides.{Decides-eqb}
use Rattle.std.proofs.lemmas.Option.{slice_get_past}
use Rattle.std.proofs.lemmas.Slice.Eq.{slice_eq-Decides}
use Rattle.jm_audit.specs.Fronts.{agreeing}
use Rattle.jm_audit.specs.Places.{before, IsWritten}
use Rattle.jm_audit.specs.Sheets.{lexicon}
use Rattle.jm_audit.proofs.AuditLemmas.{unwritten, verdict_same, verdict_other}
use Rattle.jm_audit.proofs.guided.audit.Goals as goal

pub loop-number-init : goal.loop-number-init
loop-number-init g c =
    subst
    (λ (w : List ℕ). IsWritten (λ s. g.M.Monitor.meaning (g.M.Monitor.definition s.rules.now)) (lexicon c.args.objects.now) c.args.scripts.now c.args.sheets.now c.args.text.now w (Some c.args.text.now) (before 0))
    (sym c.new-written.ensures.items) (unwritten (λ s. g.M.Monitor.meaning (g.M.Monitor.definition s.rules.now)) (lexicon c.args.objects.now) c.args.scripts.now c.args.sheets.now c.args.text.now)

pub loop-number-preserved : goal.loop-number-preserved
loop-number-preserved g c = c.in_ok-rest.ensures c.args.text.now c.loop-number.invariant

pub returns-then-eq : goal.returns-then-eq
returns-then-eq g c =
    let same = (slice_eq-Decides Decides-eqb _ _ _ c.eq.ensures).0 c.if-eq.true in
    verdict_same (λ s. g.M.Monitor.meaning (g.M.Monitor.definition s.rules.now)) (lexicon c.args.objects.now) c.args.scripts.now c.args.sheets.now c.args.text.now c.loop-number.written.items (option_map (λ r. r.now) c.loop-number.rest) c.loop-number.number
    (slice_get_past c.args.sheets.now c.loop-number.number (omega (arith, c.loop-number-test.false))) c.loop-number.invariant (sym same ∙ c.as_slice.ensures.value)

pub returns : goal.returns
returns g c =
    let eq = slice_eq-Decides Decides-eqb _ _ _ c.eq.ensures in
    verdict_other (λ s. g.M.Monitor.meaning (g.M.Monitor.definition s.rules.now)) (lexicon c.args.objects.now) c.args.scripts.now c.args.sheets.now c.args.text.now c.loop-number.written.items (option_map (λ r. r.now) c.loop-number.rest) c.loop-number.number
    (slice_get_past c.args.sheets.now c.loop-number.number (omega (arith, c.loop-number-test.false))) c.loop-number.invariant
    _ (λ same. absurd (false≢true (sym c.if-eq.false ∙ eq.1 (c.as_slice.ensures.value ∙ sym same))))
    (ap (λ n. n + 1) (c.agreeing_lines-lines.ensures.value ∙ ap (λ t. agreeing t c.args.text.now) c.as_slice-2.ensures.value))
