-- Which objects of an instance have names.
use Rattle.std.proofs.Common.{◌≡◌, ℕ, ◌<◌, ◌≤◌, List, length, sym, ◌∙◌, ⊎_elim, arith}
use Rattle.std.specs.Prelude.{Option, Some, None, ◌⊎◌}
use Rattle.std.proofs.lemmas.Bool.{cases_lt}
use Rattle.jm_model.specs.declared.binding.Binding.{Binding}
use Rattle.jm_model.specs.Bindings.{object_at, mask_of}
use Rattle.jm_handler.specs.Renderings.{AreNamed}
use Rattle.jm_handler.proofs.RenderLemmas.{unbound_at, past_the_end}

not_both : (x : Option ℕ) (o : ℕ) → x ≡ None → x ≡ Some o → ⊥
not_both x o n s = cc

pub named_none : (objects : List (List ℕ)) (b : Binding) → mask_of b ≡ 0 → AreNamed objects b
named_none objects b none = λ p o is. absurd (not_both (object_at b p) o (unbound_at b p none) is)

pub named_all : (objects : List (List ℕ)) (b : Binding) (n : ℕ) → length b ≡ 8 → 8 ≤ n → ((q o : ℕ) → q < n → object_at b q ≡ Some o → o < length objects) → AreNamed objects b
named_all objects b n eight whole each =
    λ p o is. ⊎_elim (λ low. each p o low is) (λ high. absurd (not_both (object_at b p) o (past_the_end b p (omega arith)) is)) (cases_lt p n)
