use Rattle.std.proofs.Common.{[], length, None, Ok, refl, sym, ◌∙◌, arith}
use Rattle.jm_script.proofs.ObjectLemmas.{texts_split, texts_none}
use Rattle.jm_script.proofs.MeaningLemmas.{read_by_words, read_by_first}
use Rattle.jm_script.proofs.line.read_line.Goals as goal

pub returns-in_default-clause-read : goal.returns-in_default-clause-read
returns-in_default-clause-read c = λ line e.
    read_by_words c.args.reader.now.catalog.now c.args.reader.now.position.count c.args.reader.now.position.line line [] c.args.names.now c.args.names.now (Ok None)
    (texts_none c.args.words.now (omega arith) ∙ e)
    refl

pub returns-then-is_word-clause-fits : goal.returns-then-is_word-clause-fits
returns-then-is_word-clause-fits c = c.death_line.ensures.fits c.args.reader.now.catalog.now

pub returns-then-is_word-clause-read : goal.returns-then-is_word-clause-read
returns-then-is_word-clause-read c = λ line e.
    read_by_first _ _ _ line _ _ _ _ _ _ (texts_split c.args.words.now (record { ref_ptr = (0, 0); now = [] }) (omega arith)) e
    (rw (sym c.is_word.ensures ∙ c.if-is_word.true) (c.death_line.ensures.read c.args.reader.now.catalog.now))

pub returns-then-is_word-2-clause-fits : goal.returns-then-is_word-2-clause-fits
returns-then-is_word-2-clause-fits c = c.pass_line.ensures.fits (length c.args.names.now) c.args.scratch.now.numbers

pub returns-then-is_word-2-clause-read : goal.returns-then-is_word-2-clause-read
returns-then-is_word-2-clause-read c = λ line e.
    read_by_first _ _ _ line _ _ _ _ _ _ (texts_split c.args.words.now (record { ref_ptr = (0, 0); now = [] }) (omega arith)) e
    (rw (sym c.is_word.ensures ∙ c.if-is_word.false, sym c.is_word-else-is_word.ensures ∙ c.if-is_word-2.true) (c.pass_line.ensures.read c.args.names.now c.args.scratch.now.numbers))

pub returns-else-is_word-2-clause-read : goal.returns-else-is_word-2-clause-read
returns-else-is_word-2-clause-read c = λ line e.
    read_by_first _ _ _ line _ _ _ _ _ _ (texts_split c.args.words.now (record { ref_ptr = (0, 0); now = [] }) (omega arith)) e
    (rw (sym c.is_word.ensures ∙ c.if-is_word.false, sym c.is_word-else-is_word.ensures ∙ c.if-is_word-2.false) c.event_line.ensures.read)
