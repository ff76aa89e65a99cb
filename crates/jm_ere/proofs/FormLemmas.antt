use Rattle.std.proofs.Common.{ℕ, nat_le, Bool, true, false, List, [], ◌∷◌, ◌++◌, Ok, Err, if◌then◌else◌, fold}
use Rattle.jm_model.specs.declared.fault.SpecFault.{SpecFault}
use Rattle.jm_table.specs.Graphs.{step_from, reached_by}
use Rattle.jm_ere.specs.declared.tree.Operator.{Operator}
use Rattle.jm_ere.specs.declared.tree.Operator.TheVariants.{Or}
use Rattle.jm_ere.specs.Expressions.{Expression, Symbol, EmptyWord, NoWord, Complement, Star, Plus, Product, Combination}
use Rattle.jm_ere.specs.Meanings.{InLanguage, IsSplit}
use Rattle.jm_ere.specs.NormalForms.{is_product, is_run, complement_of, star_of, product_of, combined, size_of, Formed, fitting, part, ◌>>=◌, normal_run, normal_form, is_nullable, derivative_run, forms_of}
use Rattle.jm_ere.proofs.LanguageLemmas.{Same, itself, through, split_map, chain_map, plain, plain_tells}
use Rattle.jm_ere.proofs.NormalLemmas.{complement_keeps, star_keeps, product_keeps, combination_keeps, combined_keeps}

-- what is formed has these words, unless it is a fault
abbrev pub Gives : Formed → (List ℕ → Type 0) → Type 0
Gives (Ok d) L = Same (InLanguage d) L
Gives (Err fault) L = Unit {0}

gives_choice : (b : Bool) (d : Expression) (fault : SpecFault) (L : List ℕ → Type 0) → Same (InLanguage d) L → Gives (if b then Ok d else Err fault) L
gives_choice true d fault L same = same
gives_choice false d fault L same = tt

gives_fitting : (d : Expression) (L : List ℕ → Type 0) → Same (InLanguage d) L → Gives (fitting d) L
gives_fitting d L same = gives_choice (nat_le (size_of d) 4096) d _ L same

gives_part : (inside : Bool) (F : Formed) (L : List ℕ → Type 0) → Gives F L → Gives (part inside F) L
gives_part inside (Err fault) L gives = tt
gives_part true (Ok d) L gives = gives
gives_part false (Ok d) L gives = gives_fitting d L gives

gives_then : (F : Formed) (L : List ℕ → Type 0) (k : Expression → Formed) (M : List ℕ → Type 0) → Gives F L → ((d : Expression) → Same (InLanguage d) L → Gives (k d) M) → Gives (F >>= k) M
gives_then (Err fault) L k M gives more = tt
gives_then (Ok d) L k M gives more = more d gives

-- two parts, and what is made of both
gives_both : (F G : Formed) (f : Expression → Expression → Expression) (L M N : List ℕ → Type 0) → Gives F L → Gives G M
    → ((d e : Expression) → Same (InLanguage d) L → Same (InLanguage e) M → Same (InLanguage (f d e)) N) → Gives (F >>= λ d. G >>= λ e. Ok (f d e)) N
gives_both F G f L M N first rest more = gives_then F L (λ d. G >>= λ e. Ok (f d e)) N first (λ d same. gives_then G M (λ e. Ok (f d e)) N rest (λ e also. more d e same also))

-- ---- operators over forms that have the words of parts

complement_gives : (d : Expression) (r : Expression) → Same (InLanguage d) (InLanguage r) → Same (InLanguage (complement_of d)) (InLanguage (Complement r))
complement_gives d r same = through (InLanguage (complement_of d)) (InLanguage (Complement d)) (InLanguage (Complement r)) (complement_keeps d) (λ w. (λ h k. h ((same w).1 k), λ h k. h ((same w).0 k)))

star_gives : (d : Expression) (r : Expression) → Same (InLanguage d) (InLanguage r) → Same (InLanguage (star_of d)) (InLanguage (Star r))
star_gives d r same = through (InLanguage (star_of d)) (InLanguage (Star d)) (InLanguage (Star r)) (star_keeps d)
    (λ w. (chain_map (InLanguage d) (InLanguage r) (λ u. (same u).0) w, chain_map (InLanguage r) (InLanguage d) (λ u. (same u).1) w))

product_gives : (L M : List ℕ → Type 0) (d e : Expression) → Same (InLanguage d) L → Same (InLanguage e) M → Same (InLanguage (product_of d e)) (IsSplit L M)
product_gives L M d e f g = through (InLanguage (product_of d e)) (InLanguage (Product d e)) (IsSplit L M) (product_keeps d e)
    (λ w. (split_map (InLanguage d) (InLanguage e) L M (λ u. (f u).0) (λ u. (g u).0) w, split_map L M (InLanguage d) (InLanguage e) (λ u. (f u).1) (λ u. (g u).1) w))

combined_gives : (op : Operator) (r s d e : Expression) → Same (InLanguage d) (InLanguage r) → Same (InLanguage e) (InLanguage s) → Same (InLanguage (combined op d e)) (InLanguage (Combination op r s))
combined_gives op r s d e f g = through (InLanguage (combined op d e)) (InLanguage (Combination op d e)) (InLanguage (Combination op r s)) (combined_keeps op d e) (combination_keeps op d e r s f g)

-- ---- normal forms keep the language

pub normal_gives : (r : Expression) → Gives (normal_run r) (InLanguage r)
normal_gives (Complement r) = gives_then (part false (normal_run r)) (InLanguage r) (λ n. Ok (complement_of n)) (InLanguage (Complement r)) (gives_part false (normal_run r) (InLanguage r) (normal_gives r)) (λ n same. complement_gives n r same)
normal_gives (Star r) = gives_then (part false (normal_run r)) (InLanguage r) (λ n. Ok (star_of n)) (InLanguage (Star r)) (gives_part false (normal_run r) (InLanguage r) (normal_gives r)) (λ n same. star_gives n r same)
normal_gives (Plus r) =
    gives_then (part false (normal_run r)) (InLanguage r) (λ n. fitting (star_of n) >>= λ s. Ok (product_of n s)) (InLanguage (Plus r)) (gives_part false (normal_run r) (InLanguage r) (normal_gives r))
    (λ n same. gives_then (fitting (star_of n)) (InLanguage (Star r)) (λ s. Ok (product_of n s)) (InLanguage (Plus r)) (gives_fitting (star_of n) (InLanguage (Star r)) (star_gives n r same))
    (λ s more. product_gives (InLanguage r) (InLanguage (Star r)) n s same more))
normal_gives (Product r s) =
    gives_both (part (is_product r) (normal_run r)) (part (is_product s) (normal_run s)) product_of (InLanguage r) (InLanguage s) (InLanguage (Product r s)) (gives_part (is_product r) (normal_run r) (InLanguage r) (normal_gives r)) (gives_part (is_product s) (normal_run s) (InLanguage s) (normal_gives s))
    (product_gives (InLanguage r) (InLanguage s))
normal_gives (Combination op r s) =
    gives_both (part (is_run op r) (normal_run r)) (part (is_run op s) (normal_run s)) (combined op) (InLanguage r) (InLanguage s) (InLanguage (Combination op r s)) (gives_part (is_run op r) (normal_run r) (InLanguage r) (normal_gives r)) (gives_part (is_run op s) (normal_run s) (InLanguage s) (normal_gives s))
    (combined_gives op r s)
normal_gives (Symbol x) = itself (InLanguage (Symbol x))
normal_gives EmptyWord = itself (InLanguage EmptyWord)
normal_gives NoWord = itself (InLanguage NoWord)

-- ---- derivatives of normal forms have the words that may follow

front_gives : (F : Formed) (L : List ℕ → Type 0) (s : Expression) → Gives F L → Gives (F >>= λ d. Ok (product_of d s)) (IsSplit L (InLanguage s))
front_gives F L s gives = gives_then F L (λ d. Ok (product_of d s)) (IsSplit L (InLanguage s)) gives (λ d same. product_gives L (InLanguage s) d s same (itself (InLanguage s)))

product_derived : (b : Bool) (F G : Formed) (p q : Expression) → Gives F (InLanguage p) → Gives G (InLanguage q)
    → Gives (if b then (part false F >>= λ d. G >>= λ e. Ok (combined Or d e)) else F) (InLanguage (if b then Combination Or p q else p))
product_derived true F G p q front second = gives_both (part false F) G (combined Or) (InLanguage p) (InLanguage q) (InLanguage (Combination Or p q)) (gives_part false F (InLanguage p) front) second (combined_gives Or p q)
product_derived false F G p q front second = front

pub derivative_gives : (x : ℕ) (r : Expression) → Gives (derivative_run x r) (InLanguage (plain x r))
derivative_gives x (Symbol y) = itself (InLanguage (plain x (Symbol y)))
derivative_gives x EmptyWord = itself (InLanguage NoWord)
derivative_gives x NoWord = itself (InLanguage NoWord)
derivative_gives x (Complement r) =
    gives_then (part false (derivative_run x r)) (InLanguage (plain x r)) (λ d. Ok (complement_of d)) (InLanguage (Complement (plain x r))) (gives_part false (derivative_run x r) (InLanguage (plain x r)) (derivative_gives x r)) (λ d same. complement_gives d (plain x r) same)
derivative_gives x (Star r) = front_gives (part false (derivative_run x r)) (InLanguage (plain x r)) (Star r) (gives_part false (derivative_run x r) (InLanguage (plain x r)) (derivative_gives x r))
derivative_gives x (Plus r) =
    gives_then (part false (derivative_run x r)) (InLanguage (plain x r)) (λ d. Ok (product_of d (star_of r))) (InLanguage (Product (plain x r) (Star r))) (gives_part false (derivative_run x r) (InLanguage (plain x r)) (derivative_gives x r))
    (λ d same. product_gives (InLanguage (plain x r)) (InLanguage (Star r)) d (star_of r) same (star_keeps r))
derivative_gives x (Product r s) =
    product_derived (is_nullable r) (part false (derivative_run x r) >>= λ d. Ok (product_of d s)) (part false (derivative_run x s)) (Product (plain x r) s) (plain x s)
    (front_gives (part false (derivative_run x r)) (InLanguage (plain x r)) s (gives_part false (derivative_run x r) (InLanguage (plain x r)) (derivative_gives x r)))
    (gives_part false (derivative_run x s) (InLanguage (plain x s)) (derivative_gives x s))
derivative_gives x (Combination op r s) =
    gives_both (part false (derivative_run x r)) (part (is_run op s) (derivative_run x s)) (combined op) (InLanguage (plain x r)) (InLanguage (plain x s)) (InLanguage (Combination op (plain x r) (plain x s))) (gives_part false (derivative_run x r) (InLanguage (plain x r)) (derivative_gives x r)) (gives_part (is_run op s) (derivative_run x s) (InLanguage (plain x s)) (derivative_gives x s))
    (combined_gives op (plain x r) (plain x s))

-- ---- along a word

gives_along : (F : Formed) (L M : List ℕ → Type 0) → Gives F L → Same L M → Gives F M
gives_along (Err fault) L M gives same = tt
gives_along (Ok d) L M gives same = through (InLanguage d) L M gives same

step_gives : (e : Expression) (x : ℕ) (F : Formed) (L : List ℕ → Type 0) → Gives F L → Gives (step_from (forms_of e) F x) (λ w. L (x ∷ w))
step_gives e x (Err fault) L gives = tt
step_gives e x (Ok d) L gives =
    gives_part false (derivative_run x d) (λ w. L (x ∷ w)) (gives_along (derivative_run x d) (InLanguage (plain x d)) (λ w. L (x ∷ w)) (derivative_gives x d)
    (through (InLanguage (plain x d)) (λ w. InLanguage d (x ∷ w)) (λ w. L (x ∷ w)) (λ w. let t = plain_tells x d w in (t.1, t.0)) (λ w. gives (x ∷ w))))

path_gives : (e : Expression) (word : List ℕ) (F : Formed) (L : List ℕ → Type 0) → Gives F L → Gives (fold (step_from (forms_of e)) F word) (λ w. L (word ++ w))
path_gives e [] F L gives = gives
path_gives e (x ∷ word) F L gives = path_gives e word (step_from (forms_of e) F x) (λ w. L (x ∷ w)) (step_gives e x F L gives)

-- what is reached by a word has the words that may follow it
pub reached_gives : (e : Expression) (word : List ℕ) → Gives (reached_by (forms_of e) word) (λ w. InLanguage e (word ++ w))
reached_gives e word = path_gives e word (normal_form e) (InLanguage e) (gives_part false (normal_run e) (InLanguage e) (normal_gives e))
