use Rattle.std.proofs.Common.{sym, ◌∙◌, refl}
use Rattle.std.proofs.lemmas.Result.{on_ok_weaker}
use Rattle.jm_events.proofs.NameLemmas.{with_name-known, with_name-new, number_at_end}
use Rattle.jm_events.proofs.names.Names.add.Goals as goal

pub returns-in-Some-clause-ok : goal.returns-in-Some-clause-ok
returns-in-Some-clause-ok c = with_name-known c.args.self.now c.args.name.now c.in-Some.number ((c.in-Some.ensures.at c.in-Some.number).0 refl)

pub returns-in-None-clause-ok : goal.returns-in-None-clause-ok
returns-in-None-clause-ok c =
    on_ok_weaker c.append_hashed.result (λ e. e ∙ sym (with_name-new c.args.self.now c.args.name.now (sym c.in-None.ensures.value))) c.append_hashed.ensures.ok

pub returns-in-None-clause-number : goal.returns-in-None-clause-number
returns-in-None-clause-number c = number_at_end _ _ _ _ c.append_hashed.ensures.ok c.append_hashed.ensures.number
