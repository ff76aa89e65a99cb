use Rattle.jm_store.proofs.CommitLemmas.{marks_added}
use Rattle.jm_store.proofs.store.commit.add_mark.Goals as goal

pub returns-then-not-is_marked : goal.returns-then-not-is_marked
returns-then-not-is_marked c = marks_added _ _ c.args.binding c.add.ensures.known c.add.ensures.unknown
