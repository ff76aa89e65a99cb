use Rattle.std.proofs.Common.{arith}
use Rattle.jm_awake.proofs.WakeLemmas.{tidied_sound}
use Rattle.jm_awake.proofs.AwakeLemmas.{tidied_at, tidied_past}
use Rattle.jm_awake.proofs.awake.Awake.tidy.Goals as goal

pub returns-then-place-len-clause-sound : goal.returns-then-place-len-clause-sound
returns-then-place-len-clause-sound c = rw (← c.self.view_is) (λ q o loose sound.
    tidied_sound q o _ _ c.args.place
    (tidied_at _ _ _ _ _ c.args.place c.index_mut.result.now c.retain_listed.new.self (omega (arith, c.len.ensures, c.if-place-len.true)) c.index_mut.ensures.value (rw c.as_slice.ensures.value at c.retain_listed.ensures))
    loose sound)

pub returns-else-place-len-clause-sound : goal.returns-else-place-len-clause-sound
returns-else-place-len-clause-sound c = rw (← c.self.view_is) (λ q o loose sound.
    tidied_sound q o _ _ c.args.place (tidied_past _ c.args.place (omega (arith, c.len.ensures, c.if-place-len.false))) loose sound)
