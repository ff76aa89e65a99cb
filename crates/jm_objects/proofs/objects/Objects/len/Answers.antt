use Rattle.std.proofs.Common.{sym}
use Rattle.jm_objects.proofs.FlagLemmas.{length-flags_of}
use Rattle.jm_objects.proofs.objects.Objects.len.Goals as goal

pub returns : goal.returns
returns c = rw (← c.self.view_is) (sym (length-flags_of _ _))
