use Rattle.std.proofs.Common.{◌≡◌, ◌+◌, ◌-◌, ◌≤◌, true, false, length, drop, sym, ap, ◌∙◌, arith, length-drop}
use Rattle.std.proofs.lemmas.List.{take_all}
use Rattle.jm_lines.specs.Lines.{is_line_feed, first_line}
use Rattle.std.specs.List.{position_or_len}
use Rattle.jm_lines.proofs.LineLemmas.{place_fits}
use Rattle.jm_sweep.specs.Recordings.{is_parting}
use Rattle.jm_sweep.proofs.PartLemmas.{nothing_cut, last_part, last_few, parted_last, parted_few, one_line, one_part}
use Rattle.jm_sweep.proofs.recording.parts.Goals.{then-line+in_ok-push+else-end-bytes, else-line+else-end-bytes-2}
use Rattle.jm_sweep.proofs.recording.parts.Goals as goal

pub loop-words-init : goal.loop-words-init
loop-words-init c = rw c.new-spans.ensures.items (nothing_cut c.args.bytes.now)

pub returns-then-end-bytes-clause-value : goal.returns-then-end-bytes-clause-value
returns-then-end-bytes-clause-value c =
    let bytes = c.args.bytes.now in
    let at = c.loop-words.at in
    let whole = take_all (length bytes - at) (drop at bytes) (omega (arith, length-drop at bytes)) in
    let found = c.in_ok-line.ensures.len ∙ ap (λ t. position_or_len is_line_feed t) whole in
    let parting : is_parting (first_line (drop at bytes)) ≡ true = ap (λ t. is_parting (first_line t)) (sym whole) ∙ sym c.in_ok-line.ensures.parting ∙ c.if-line.true in
    rw (c.in_ok-push-2.ensures.items, c.in_ok-push.ensures.items, c.span.ensures, c.span-then-end-bytes.ensures, c.max.ensures, c.saturating_sub.ensures)
    (parted_last bytes c.loop-words.spans.items c.loop-words.begin at c.loop-words.invariant c.in_ok-line.line.len found parting c.if-end-bytes.true)

pub returns-then-end-bytes-2-clause-value : goal.returns-then-end-bytes-2-clause-value
returns-then-end-bytes-2-clause-value c =
    let bytes = c.args.bytes.now in
    let at = c.loop-words.at in
    let whole = take_all (length bytes - at) (drop at bytes) (omega (arith, length-drop at bytes)) in
    let found = c.in_ok-line.ensures.len ∙ ap (λ t. position_or_len is_line_feed t) whole in
    let plain : is_parting (first_line (drop at bytes)) ≡ false = ap (λ t. is_parting (first_line t)) (sym whole) ∙ sym c.in_ok-line.ensures.parting ∙ c.if-line.false in
    rw (c.in_ok-push-3.ensures.items, c.span-then-end-bytes-2.ensures) (last_part bytes c.loop-words.spans.items c.loop-words.begin at c.loop-words.invariant c.in_ok-line.line.len found c.if-end-bytes-2.true plain)

pub returns-then-end-bytes-clause-bounded : goal.returns-then-end-bytes-clause-bounded
returns-then-end-bytes-clause-bounded c =
    let bytes = c.args.bytes.now in
    let at = c.loop-words.at in
    let whole = take_all (length bytes - at) (drop at bytes) (omega (arith, length-drop at bytes)) in
    let found = c.in_ok-line.ensures.len ∙ ap (λ t. position_or_len is_line_feed t) whole in
    let parting : is_parting (first_line (drop at bytes)) ≡ true = ap (λ t. is_parting (first_line t)) (sym whole) ∙ sym c.in_ok-line.ensures.parting ∙ c.if-line.true in
    rw (c.in_ok-push-2.ensures.items, c.in_ok-push.ensures.items)
    (parted_few bytes c.loop-words.spans.items c.loop-words.begin at c.loop-words.invariant c.in_ok-line.line.len found parting c.span.result c.span-then-end-bytes.result c.if-end-bytes.true)

pub returns-then-end-bytes-2-clause-bounded : goal.returns-then-end-bytes-2-clause-bounded
returns-then-end-bytes-2-clause-bounded c =
    let bytes = c.args.bytes.now in
    let at = c.loop-words.at in
    let whole = take_all (length bytes - at) (drop at bytes) (omega (arith, length-drop at bytes)) in
    let found = c.in_ok-line.ensures.len ∙ ap (λ t. position_or_len is_line_feed t) whole in
    rw c.in_ok-push-3.ensures.items (last_few bytes c.loop-words.spans.items c.loop-words.begin at c.loop-words.invariant c.in_ok-line.line.len found c.if-end-bytes-2.true c.span-then-end-bytes-2.result)

pub loop-words-preserved : goal.loop-words-preserved
loop-words-preserved c =
    let bytes = c.args.bytes.now in
    let at = c.loop-words.at in
    let whole = take_all (length bytes - at) (drop at bytes) (omega (arith, length-drop at bytes)) in
    let found = c.in_ok-line.ensures.len ∙ ap (λ t. position_or_len is_line_feed t) whole in
    let within : c.in_ok-line.line.len + at ≤ length bytes = omega (arith, found, place_fits is_line_feed (drop at bytes), length-drop at bytes, c.loop-words.invariant.bounded) in
    elim c.if-line.branch [
      | then-line+in_ok-push+else-end-bytes w ↦
          let parting : is_parting (first_line (drop at bytes)) ≡ true = ap (λ t. is_parting (first_line t)) (sym whole) ∙ sym c.in_ok-line.ensures.parting ∙ w.if-line.true in
          rw (w.spans-is, w.begin-is, w.in_ok-push.ensures.items, w.span.ensures, w.max.ensures, w.saturating_sub.ensures)
          (one_part bytes c.loop-words.spans.items c.loop-words.begin at c.loop-words.invariant c.in_ok-line.line.len found (omega (arith, within, w.if-end-bytes.false)) parting)
      | else-line+else-end-bytes-2 w ↦
          let plain : is_parting (first_line (drop at bytes)) ≡ false = ap (λ t. is_parting (first_line t)) (sym whole) ∙ sym c.in_ok-line.ensures.parting ∙ w.if-line.false in
          rw (w.spans-is, w.begin-is) (one_line bytes c.loop-words.spans.items c.loop-words.begin at c.loop-words.invariant c.in_ok-line.line.len found (omega (arith, within, w.if-end-bytes-2.false)) plain)
    ]
