use Rattle.std.proofs.Common.{ℕ, ◌-◌, ◌<◌, ◌^◌, sym, subst, arith}
use Rattle.jm_model.specs.Bindings.{mask_of}
use Rattle.jm_store.specs.Walks.{AreAliveBut}
use Rattle.jm_marks.proofs.DeadLemmas.{alive_of}
use Rattle.jm_store.proofs.WalkLemmas.{others_free}
use Rattle.jm_store.proofs.walk.Walk.free_params.Goals as goal

pub returns-then-any_dead : goal.returns-then-any_dead
returns-then-any_dead g c =
    let b = c.args.self.now.event.now.binding.now in
    let dead = c.args.self.now.event.now.objects.now in
    let fits : mask_of b < 2 ^ 8 = omega (arith, c.mask.ensures.value, c.mask.type_inv) in
    subst (λ (n : ℕ). AreAliveBut dead b (2 ^ 8 - 1 - n)) (sym c.mask.ensures.value) (others_free dead b fits c.requires)

pub returns-else-any_dead : goal.returns-else-any_dead
returns-else-any_dead g c = λ t p o low below at off. alive_of c.args.self.now.event.now.objects.now o (c.any_dead.ensures c.if-any_dead.false o)
