use Rattle.jm_reading.proofs.TokenLemmas.{accepted_word}
use Rattle.jm_reading.proofs.cursor.Cursor.word.Goals as goal

pub returns-clause-reads : goal.returns-clause-reads
returns-clause-reads c =
    rw (accepted_word c.args.self.now.bytes.now c.args.word.now c.args.self.now.rest.now _ c.is_word_at.ensures) c.accept.ensures.reads
