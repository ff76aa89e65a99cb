use Rattle.jm_top.proofs.histories.history_text.Goals as goal

pub render_history-requires : goal.render_history-requires
render_history-requires c = rw (c.handlers.ensures, c.as_slice.ensures.value) c.requires
