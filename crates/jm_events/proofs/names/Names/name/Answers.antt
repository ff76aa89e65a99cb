use Rattle.std.proofs.Common.{arith}
use Rattle.std.specs.Prelude.{IsUtf8}
use Rattle.jm_events.specs.Texts.{texts_from}
use Rattle.jm_events.proofs.TextLemmas.{length-texts_from, at_number}
use Rattle.jm_events.proofs.names.Names.name.Goals as goal

pub text_at-text-requires-clause-within : goal.text_at-text-requires-clause-within
text_at-text-requires-clause-within c =
    let within = rw (← c.self.view_is) at c.requires in
    rw (c.as_slice-2.ensures.value)
    (omega (arith, within, length-texts_from 0 c.self.inside.bytes.items c.self.inside.ends.items))

pub from_utf8_unchecked-requires : goal.from_utf8_unchecked-requires
from_utf8_unchecked-requires c =
    let at = rw (c.as_slice.ensures.value, c.as_slice-2.ensures.value) at c.text_at-text.ensures in
    at_number IsUtf8 (texts_from 0 c.self.inside.bytes.items c.self.inside.ends.items) c.args.number c.text_at-text.result.now c.self.invariant.utf8 at
