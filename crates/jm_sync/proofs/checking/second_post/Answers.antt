use Rattle.std.proofs.Common.{refl, sym, ◌∙◌, arith}
use Rattle.std.proofs.lemmas.Option.{slice_get-get_or}
use Rattle.jm_sync.specs.declared.line.SyncKind.TheVariants.{Post}
use Rattle.jm_sync.proofs.CheckLemmas.{post_more, post_again}
use Rattle.jm_sync.proofs.checking.second_post.Goals as goal

pub returns-then-contains : goal.returns-then-contains
returns-then-contains c =
    let here = slice_get-get_or c.args.lines.now c.loop-line.line-index (record { line = 0; kind = Post; name = 0 }) (omega arith) in
    post_again _ _ _ _ _ _ here c.loop-line.invariant c.in-Post.is (sym c.contains.ensures.value ∙ c.if-contains.true) refl

pub loop-line-preserved : goal.loop-line-preserved
loop-line-preserved c =
    let here = slice_get-get_or c.args.lines.now c.loop-line.line-index (record { line = 0; kind = Post; name = 0 }) (omega arith) in
    post_more _ _ _ _ _ _ here c.loop-line.invariant c.in-Post.is (sym c.contains.ensures.value ∙ c.if-contains.false) c.in_ok-add.ensures
