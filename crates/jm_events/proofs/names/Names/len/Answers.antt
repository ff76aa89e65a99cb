use Rattle.std.proofs.Common.{◌≡◌, length, sym, ◌∙◌, arith}
use Rattle.jm_events.proofs.TextLemmas.{length-texts_from}
use Rattle.jm_events.proofs.names.Names.len.Goals as goal

pub returns-clause-value : goal.returns-clause-value
returns-clause-value c =
    let n : c.len.result ≡ length c.self.inside.ends.items = omega arith in
    rw (← c.self.view_is) (n ∙ sym (length-texts_from 0 c.self.inside.bytes.items c.self.inside.ends.items))
