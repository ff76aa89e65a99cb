use Rattle.std.proofs.Common.{◌≡◌, take}
use Rattle.std.specs.Prelude.{nat_eq}
use Rattle.std.specs.List.{IsDistinct}
use Rattle.jm_sync.specs.Checks.{all_lines, posts_of, sync_of}
use Rattle.jm_sync.proofs.checking.check_posts.Given as goal

abbrev pub invariant-loop-k : goal.invariant-loop-k
invariant-loop-k l = record {
  posts : l.posted ≡ posts_of (all_lines (take l.k (sync_of l.scripts)));
  distinct : IsDistinct nat_eq l.posted;
}
