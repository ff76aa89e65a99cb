use Rattle.jm_objects.proofs.FlagLemmas.{length-flags_of, slice_get-flags_of, below_len}
use Rattle.jm_objects.proofs.objects.Objects.words.Goals as goal

pub returns-clause-room : goal.returns-clause-room
returns-clause-room c = rw (c.as_slice.ensures.value, ← c.self.view_is, length-flags_of) c.self.invariant.room

pub returns-clause-flags : goal.returns-clause-flags
returns-clause-flags c = λ k h.
    let below = below_len _ _ k _ c.self.view_is h in
    rw (c.as_slice.ensures.value, ← c.self.view_is) (slice_get-flags_of _ _ k below)
