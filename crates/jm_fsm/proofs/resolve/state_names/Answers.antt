use Rattle.jm_fsm.proofs.MadeLemmas.{with_state, without_state}
use Rattle.jm_fsm.proofs.resolve.state_names.Goals.{in-Declaration+in_ok-add_name-in-Declaration, in-Alias}
use Rattle.jm_fsm.proofs.resolve.state_names.Goals as goal

pub loop-part-preserved : goal.loop-part-preserved
loop-part-preserved c =
    let bytes = c.args.bytes.now in
    elim c.match-part.branch [
      | in-Declaration+in_ok-add_name-in-Declaration w ↦
          rw (w.names-is, w.in_ok-add_name-in-Declaration.ensures.ok, w.name_of.ensures)
          (with_state bytes c.loop-part.names c.args.parts.now c.loop-part.part-index c.part-item.result c.loop-part-test.true c.part-item.is c.loop-part.invariant w.in-Declaration.name w.in-Declaration.transitions w.in-Declaration.is c.requires)
      | in-Alias w ↦
          rw w.names-is
          (without_state bytes c.loop-part.names c.args.parts.now c.loop-part.part-index c.part-item.result c.loop-part-test.true c.part-item.is c.loop-part.invariant w.in-Alias.name w.in-Alias.members w.in-Alias.is)
    ]
