use Rattle.std.proofs.Common.{◌++◌, ◌∙◌, ap}
use Rattle.jm_print.proofs.HeadLemmas.{head_written}
use Rattle.jm_print.proofs.head.head_at.Goals as goal

pub returns-then-len-gt-MOST : goal.returns-then-len-gt-MOST
returns-then-len-gt-MOST c = λ l named. c.no_head.ensures l c.args.letter.0

pub returns : goal.returns
returns c = λ l named some.
    let text = head_written l c.args.table.now c.args.letter.0 c.args.p _ _ _ _ _ _ named c.event_name.ensures c.param_name.ensures
    (c.in_ok-text.ensures ∙ ap (λ t. t ++ c.event_name.result.now) c.new-page.ensures) c.in_ok-byte.ensures c.in_ok-text-2.ensures c.in_ok-byte-2.ensures in
    (c.args.p, c.requires.mask.0, c.requires.mask.1, c.new.ensures.short, c.new.ensures.text ∙ c.as_slice.ensures.value ∙ c.into_bytes-bytes.ensures ∙ text)
