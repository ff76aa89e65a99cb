use Rattle.std.proofs.Common.{sym, ◌∙◌, ap}
use Rattle.std.specs.Prelude.{slice_index}
use Rattle.testkit_monitor.proofs.TableLemmas.{hits_moved}
use Rattle.testkit_monitor.proofs.table.TableMonitor.hits.Goals as goal

pub returns : goal.returns
returns c = λ w stands k.
    hits_moved c.args.self.now w c.hits_of.result k (sym stands.1 ∙ c.if-not-state.false) (c.hits_of.ensures ∙ ap (slice_index c.args.self.now.hits) stands.0) c.hits_of.type_inv
