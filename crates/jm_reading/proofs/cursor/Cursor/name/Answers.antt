use Rattle.jm_reading.proofs.TokenLemmas.{accepted_name}
use Rattle.jm_reading.proofs.cursor.Cursor.name.Goals as goal

pub returns-clause-reads : goal.returns-clause-reads
returns-clause-reads c =
    rw (accepted_name c.args.self.now.bytes.now c.args.self.now.rest.now _ c.is_name_at.ensures) c.accept.ensures.reads
