-- What calls answer that make a form of parts.
use Rattle.std.proofs.Common.{◌≡◌, Ok, Err, IfOk, IfErr, refl, sym, ap}
use Rattle.std.specs.Prelude.{Result}
use Rattle.jm_model.specs.declared.fault.SpecError.{SpecError}
use Rattle.jm_model.specs.declared.fault.SpecError.TheVariants.{Bad, NoMemory}
use Rattle.jm_table.specs.Graphs.{Answers}
use Rattle.jm_ere.specs.declared.tree.Tree.{Tree}
use Rattle.jm_ere.specs.Trees.{expression_of}
use Rattle.jm_ere.specs.Expressions.{Expression}
use Rattle.jm_ere.specs.NormalForms.{Formed, ◌>>=◌}

-- a call that fails out of memory alone answers the expression
pub made : (e : Expression) (r : Result Tree SpecError) → IfOk r (λ t. expression_of t ≡ e) → IfErr r (λ error. error ≡ NoMemory) → Answers expression_of (Ok e) r
made e (Ok t) is only = ap Ok (sym is)
made e (Err NoMemory) is only = tt
made e (Err (Bad fault)) is only = absurd cc

-- where a part has a fault, or there is no memory for it, so it is of the whole
pub failed : (n : Formed) (f : Expression → Formed) (error : SpecError) → Answers expression_of n (Err error) → Answers expression_of (n >>= f) (Err error)
failed n f (Bad fault) is = rw is refl
failed n f NoMemory is = tt
