use Rattle.std.proofs.Common.{◌+◌, ◌-◌, ◌∷◌, length, drop, sym, ap, ◌∙◌, arith, length-drop}
use Rattle.std.proofs.lemmas.List.{take_all}
use Rattle.jm_lines.specs.Lines.{is_line_feed, first_line, lines_of}
use Rattle.jm_lines.proofs.LineLemmas.{place_fits, lines_end, lines_more}
use Rattle.jm_lines.proofs.words.behind_line.Goals as goal

pub returns-then-end-text-clause-lines : goal.returns-then-end-text-clause-lines
returns-then-end-text-clause-lines c = lines_end c.args.text.now (omega (arith, c.requires, place_fits is_line_feed c.args.text.now))

pub returns-clause-lines : goal.returns-clause-lines
returns-clause-lines c =
    let whole = take_all (length c.args.text.now - (c.args.end + 1)) (drop (c.args.end + 1) c.args.text.now) (omega (arith, length-drop (c.args.end + 1) c.args.text.now)) in
    lines_more c.args.text.now c.args.end c.requires c.if-end-text.false ∙ ap (λ l. first_line c.args.text.now ∷ lines_of l) (sym whole)
