use Rattle.std.proofs.Common.{◌/◌, ap, sym, ◌∙◌, arith}
use Rattle.jm_events.specs.Hash.{mix, hash_of}
use Rattle.jm_events.proofs.HashLemmas.{hash_eight, hash_few}
use Rattle.jm_events.proofs.hash.hash_of.Goals as goal

pub loop-rest-preserved : goal.loop-rest-preserved
loop-rest-preserved c =
    hash_eight c.loop-rest.hash c.from_le_bytes.result c.mix-hash.result c.loop-rest.rest.now c.in-len8-up.len_at_least c.from_le_bytes.ensures c.mix-hash.ensures ∙ c.loop-rest.invariant

pub returns : goal.returns
unfolding hash_of
returns c =
    let hash = c.loop-rest.hash in
    ap (λ h. h / 4294967296) (c.mix.ensures ∙ ap (mix hash) c.few_bytes.ensures ∙ sym (hash_few hash c.loop-rest.rest.now (omega arith)) ∙ c.loop-rest.invariant)
