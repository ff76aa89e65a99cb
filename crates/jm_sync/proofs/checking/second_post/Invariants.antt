use Rattle.std.proofs.Common.{take}
use Rattle.jm_sync.specs.Walks.{PostsNew}
use Rattle.jm_sync.proofs.checking.second_post.Given as goal

abbrev pub invariant-loop-line : goal.invariant-loop-line
invariant-loop-line l = PostsNew l.fn.posted (take l.line-index l.lines) l.posted
