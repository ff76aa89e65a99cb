use Rattle.jm_runner.proofs.NoteLemmas.{post_passes, wait_passes}
use Rattle.jm_runner.proofs.WorkLemmas.{on_both, on_ok}
use Rattle.jm_runner.proofs.notices.Notices.pass.Goals as goal

pub returns-in-Post : goal.returns-in-Post
returns-in-Post g c = on_ok c.post.result (post_passes g.J.Naming.scripts g.J.Naming.cuts c.args.line.kind c.args.line.name c.args.seats.now.items c.post.new.seats.items c.in-Post.is) c.post.ensures

pub returns-in-Wait : goal.returns-in-Wait
returns-in-Wait g c = on_both c.wait.result (wait_passes g.J.Naming.scripts g.J.Naming.cuts c.args.line.kind c.args.line.name c.args.seats.now.items c.wait.new.seats.items) c.wait.ensures.more c.wait.ensures.told

pub post-requires-clause-know : goal.post-requires-clause-know
post-requires-clause-know g c = c.requires.know c.in-Post.is
