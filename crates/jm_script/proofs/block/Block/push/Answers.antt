use Rattle.std.proofs.Common.{refl, sym}
use Rattle.jm_script.proofs.BlockLemmas.{pushed}
use Rattle.jm_script.proofs.block.Block.push.Goals as goal

pub returns-clause-ok : goal.returns-clause-ok
returns-clause-ok c =
    pushed c.self.inside.lines.items c.self.inside.objects.items c.reserve.new.self.items c.reserve-2.new.self.items _ _ _ _ _ _ _ (sym c.self.view_is) c.self.invariant c.reserve.ensures.items c.reserve-2.ensures.items c.shortened-brief.ensures.grown c.push_reserved.ensures.items refl refl c.shortened-brief.ensures.target
