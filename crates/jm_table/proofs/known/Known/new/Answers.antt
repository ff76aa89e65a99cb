use Rattle.std.proofs.Common.{◌%◌}
use Rattle.jm_table.proofs.BucketLemmas.{empty_buckets}
use Rattle.jm_table.proofs.known.Known.new.Goals as goal

pub returns : goal.returns
returns c = λ key. empty_buckets (λ bucket. bucket.items) c.loop-made.buckets.items c.loop-made.invariant.1 (key % 1024)
