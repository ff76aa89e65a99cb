use Rattle.std.proofs.Common.{ltb, arith, w8}
use lib.Lanes.{chunk}
use Rattle.std.proofs.lemmas.Simd.{length-chunk, bitmask_splat}
use Rattle.jm_lines.proofs.words.low_bytes.Goals as goal

pub returns : goal.returns
returns c =
    bitmask_splat w8 ltb (chunk c.args.at 32 c.args.text.now) 32 36 (length-chunk c.args.at 32 c.args.text.now c.requires) (omega arith)
