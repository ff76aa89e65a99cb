use Rattle.std.proofs.Common.{ℕ, ◌≡◌, nat_le, Bool, true, false, inl, inr, ◌⊎◌, List, [], ◌∷◌, Ok, Err, refl, subst, if◌then◌else◌, fold}
use Rattle.jm_model.specs.declared.fault.Counted.TheVariants.{Term}
use Rattle.jm_model.specs.declared.fault.SpecFault.{SpecFault}
use Rattle.jm_model.specs.declared.fault.SpecFault.TheVariants.{TooMany, TooManyStates}
use Rattle.jm_table.specs.Graphs.{step_from}
use Rattle.jm_model.specs.declared.fault.SpecError.{SpecError}
use Rattle.jm_model.specs.declared.fault.SpecError.TheVariants.{Bad, NoMemory}
use Rattle.jm_table.specs.Explorations.{IfBad, IsMet, IsCrowded}
use Rattle.jm_ere.specs.declared.tree.Operator.TheVariants.{Or}
use Rattle.jm_ere.specs.Expressions.{Expression, Symbol, EmptyWord, NoWord, Complement, Star, Plus, Product, Combination}
use Rattle.jm_ere.specs.NormalForms.{is_product, is_run, complement_of, star_of, product_of, combined, size_of, Formed, fitting, part, ◌>>=◌, normal_run, normal_form, is_nullable, derivative_run, forms_of}
use Rattle.jm_ere.specs.Refusals.{IsCause}

-- no fault but that of a form that is too large
abbrev pub OnlyTerm : Formed → Type 0
OnlyTerm (Ok d) = Unit {0}
OnlyTerm (Err fault) = fault ≡ TooMany Term

only_choice : (b : Bool) (d : Expression) → OnlyTerm (if b then Ok d else Err (TooMany Term))
only_choice true d = tt
only_choice false d = refl

only_fitting : (d : Expression) → OnlyTerm (fitting d)
only_fitting d = only_choice (nat_le (size_of d) 4096) d

only_part : (inside : Bool) (F : Formed) → OnlyTerm F → OnlyTerm (part inside F)
only_part inside (Err fault) h = h
only_part true (Ok d) h = tt
only_part false (Ok d) h = only_fitting d

only_then : (F : Formed) (k : Expression → Formed) → OnlyTerm F → ((d : Expression) → OnlyTerm (k d)) → OnlyTerm (F >>= k)
only_then (Err fault) k h more = h
only_then (Ok d) k h more = more d

only_both : (F G : Formed) (f : Expression → Expression → Expression) → OnlyTerm F → OnlyTerm G → OnlyTerm (F >>= λ d. G >>= λ e. Ok (f d e))
only_both F G f h k = only_then F (λ d. G >>= λ e. Ok (f d e)) h (λ d. only_then G (λ e. Ok (f d e)) k (λ e. tt))

only_normal : (r : Expression) → OnlyTerm (normal_run r)
only_normal (Complement r) = only_then (part false (normal_run r)) (λ n. Ok (complement_of n)) (only_part false (normal_run r) (only_normal r)) (λ n. tt)
only_normal (Star r) = only_then (part false (normal_run r)) (λ n. Ok (star_of n)) (only_part false (normal_run r) (only_normal r)) (λ n. tt)
only_normal (Plus r) = only_then (part false (normal_run r)) (λ n. fitting (star_of n) >>= λ s. Ok (product_of n s)) (only_part false (normal_run r) (only_normal r))
    (λ n. only_then (fitting (star_of n)) (λ s. Ok (product_of n s)) (only_fitting (star_of n)) (λ s. tt))
only_normal (Product r s) = only_both (part (is_product r) (normal_run r)) (part (is_product s) (normal_run s)) product_of (only_part (is_product r) (normal_run r) (only_normal r)) (only_part (is_product s) (normal_run s) (only_normal s))
only_normal (Combination op r s) = only_both (part (is_run op r) (normal_run r)) (part (is_run op s) (normal_run s)) (combined op) (only_part (is_run op r) (normal_run r) (only_normal r)) (only_part (is_run op s) (normal_run s) (only_normal s))
only_normal (Symbol x) = tt
only_normal EmptyWord = tt
only_normal NoWord = tt

only_product : (b : Bool) (F G : Formed) → OnlyTerm F → OnlyTerm G → OnlyTerm (if b then (part false F >>= λ d. G >>= λ e. Ok (combined Or d e)) else F)
only_product true F G h k = only_both (part false F) G (combined Or) (only_part false F h) k
only_product false F G h k = h

only_derivative : (x : ℕ) (r : Expression) → OnlyTerm (derivative_run x r)
only_derivative x (Symbol y) = tt
only_derivative x EmptyWord = tt
only_derivative x NoWord = tt
only_derivative x (Complement r) = only_then (part false (derivative_run x r)) (λ d. Ok (complement_of d)) (only_part false (derivative_run x r) (only_derivative x r)) (λ d. tt)
only_derivative x (Star r) = only_then (part false (derivative_run x r)) (λ d. Ok (product_of d (Star r))) (only_part false (derivative_run x r) (only_derivative x r)) (λ d. tt)
only_derivative x (Plus r) = only_then (part false (derivative_run x r)) (λ d. Ok (product_of d (star_of r))) (only_part false (derivative_run x r) (only_derivative x r)) (λ d. tt)
only_derivative x (Product r s) =
    only_product (is_nullable r) (part false (derivative_run x r) >>= λ d. Ok (product_of d s)) (part false (derivative_run x s))
    (only_then (part false (derivative_run x r)) (λ d. Ok (product_of d s)) (only_part false (derivative_run x r) (only_derivative x r)) (λ d. tt)) (only_part false (derivative_run x s) (only_derivative x s))
only_derivative x (Combination op r s) = only_both (part false (derivative_run x r)) (part (is_run op s) (derivative_run x s)) (combined op) (only_part false (derivative_run x r) (only_derivative x r)) (only_part (is_run op s) (derivative_run x s) (only_derivative x s))

only_step : (e : Expression) (x : ℕ) (F : Formed) → OnlyTerm F → OnlyTerm (step_from (forms_of e) F x)
only_step e x (Err fault) h = h
only_step e x (Ok d) h = only_part false (derivative_run x d) (only_derivative x d)

only_path : (e : Expression) (word : List ℕ) (F : Formed) → OnlyTerm F → OnlyTerm (fold (step_from (forms_of e)) F word)
only_path e [] F h = h
only_path e (x ∷ word) F h = only_path e word (step_from (forms_of e) F x) (only_step e x F h)

met_is_term : (e : Expression) (letters : ℕ) (fault : SpecFault) → IsMet (forms_of e) letters fault → fault ≡ TooMany Term
met_is_term e letters fault met = subst (λ (F : Formed). OnlyTerm F) met.meets (only_path e met.word (normal_form e) (only_part false (normal_run e) (only_normal e)))

-- a fault of the work has one of the two causes
pub cause_is : (e : Expression) (letters : ℕ) (fault : SpecFault) → (IsMet (forms_of e) letters fault) ⊎ ((fault ≡ TooManyStates) × IsCrowded (forms_of e) letters) → IsCause e letters fault
cause_is e letters fault = elim [ inl met ↦ inl (met_is_term e letters fault met, met) | inr many ↦ inr many ]

pub causes : (e : Expression) (letters : ℕ) (error : SpecError) → IfBad error (λ fault. (IsMet (forms_of e) letters fault) ⊎ ((fault ≡ TooManyStates) × IsCrowded (forms_of e) letters)) → IfBad error (IsCause e letters)
causes e letters (Bad fault) h = cause_is e letters fault h
causes e letters NoMemory h = tt
