use Rattle.std.proofs.Common.{sym, ◌∙◌}
use Rattle.jm_model.proofs.EqLemmas.{binding_eq-Decides}
use Rattle.jm_model.proofs.binding.Binding.is_same.Goals as goal

pub returns : goal.returns
returns c =
    let decided = binding_eq-Decides c.args.self.now c.args.other.now in
    (λ t. decided.0 (sym c.eq.ensures ∙ t), λ same. c.eq.ensures ∙ decided.1 same)
