use Rattle.std.proofs.Common.{sym, ◌∙◌, ap, arith}
use Rattle.jm_model.specs.Bindings.{object_at}
use Rattle.jm_model.proofs.LayoutLemmas.{object_at-options_of, option_at-set, option_at-clear}
use Rattle.jm_model.proofs.binding.Binding.get.Goals as goal

pub returns-then-self-p-eq1 : goal.returns-then-self-p-eq1
returns-then-self-p-eq1 c =
    sym (option_at-set c.self.inside.mask c.args.p c.self.inside.objects c.if-self-p-eq1.true)
    ∙ sym (object_at-options_of c.self.inside.mask c.args.p c.self.inside.objects (omega (arith, c.self.told)))
    ∙ ap (λ b. object_at b c.args.p) c.self.view_is

pub returns-else-self-p-eq1 : goal.returns-else-self-p-eq1
returns-else-self-p-eq1 c =
    sym (option_at-clear c.self.inside.mask c.args.p c.self.inside.objects c.if-self-p-eq1.false)
    ∙ sym (object_at-options_of c.self.inside.mask c.args.p c.self.inside.objects (omega (arith, c.self.told)))
    ∙ ap (λ b. object_at b c.args.p) c.self.view_is
