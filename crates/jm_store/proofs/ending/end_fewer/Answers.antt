use Rattle.std.proofs.Common.{◌<◌, length, sym, arith}
use Rattle.std.proofs.lemmas.Grind.{common_steps, get_or_default_zero}
use Rattle.jm_store.proofs.EndingLemmas.{kept_fewer, kept_among}
use Rattle.jm_store.proofs.ending.end_fewer.Goals as goal

pub returns-clause-fewer : goal.returns-clause-fewer
returns-clause-fewer c =
    let low : c.args.domain < length c.args.ending.now = grind (arith, common_steps) in
    kept_fewer _ _ _ _ low (sym (get_or_default_zero _ _ _ low))

pub returns-clause-among : goal.returns-clause-among
returns-clause-among c =
    let low : c.args.domain < length c.args.ending.now = grind (arith, common_steps) in
    λ e. kept_among _ _ _ _ e low
