use Rattle.std.proofs.Common.{ℕ, ◌≡◌, ◌==◌, ◌||◌, nat_le, Bool, true, false, List, [], ◌∷◌, Ok, Err, refl, ap, subst, ◌∙◌, if◌then◌else◌, fold}
use Rattle.std.specs.Ordering.{ordering_reverse}
use Rattle.std.specs.declared.cmp.Ordering.{Ordering}
use Rattle.std.specs.declared.cmp.Ordering.TheVariants.{Less, Equal, Greater}
use Rattle.jm_model.specs.declared.fault.SpecFault.{SpecFault}
use Rattle.jm_table.specs.Graphs.{step_from, reached_by}
use Rattle.jm_ere.specs.declared.tree.Operator.{Operator}
use Rattle.jm_ere.specs.declared.tree.Operator.TheVariants.{Or, And}
use Rattle.jm_ere.specs.Expressions.{Expression, Symbol, EmptyWord, NoWord, Complement, Star, Plus, Product, Combination}
use Rattle.jm_ere.specs.NormalForms.{order, by_order, is_nothing, is_epsilon, is_product, is_run, is_unit, is_zero, complement_of, star_of, before, product_of, placed, put, join, combined, size_of, Formed, fitting, part, ◌>>=◌, normal_run, normal_form, is_nullable, derivative_run, forms_of}
use Rattle.jm_ere.specs.Normality.{IsProper, IsFactor, first_of, Rises, IsNormal}
use Rattle.jm_ere.proofs.OrderLaws.{order_total}

-- ---- operators of one part

complement_normal : (r : Expression) → IsNormal r → IsNormal (complement_of r)
complement_normal (Complement r) h = h.0
complement_normal r h = (h, refl)

star_normal : (r : Expression) → IsNormal r → IsNormal (star_of r)
star_normal NoWord h = tt
star_normal EmptyWord h = tt
star_normal (Star r) h = h
star_normal r h = (h, (refl, refl), refl)

-- ---- juxtapositions

record Before (r s : Expression) : Type 0 where
  normal : IsNormal (before r s)
  something : is_nothing r ≡ false → is_nothing (before r s) ≡ false
  longer : is_epsilon (before r s) ≡ false

before_normal : (r s : Expression) → IsNormal r → IsNormal s → IsFactor s → Before r s
before_normal NoWord s h k f = record { normal = tt; something = λ e. e; longer = refl }
before_normal EmptyWord s h k f = record { normal = k; something = λ e. f.0; longer = f.1 }
before_normal (Product p q) s h k f =
    let rest = before_normal q s h.1 k f in
    record { normal = (h.0, rest.normal, h.2, (rest.something h.3.0, rest.longer), h.4); something = λ e. refl; longer = refl }
before_normal r s h k f = record { normal = (h, k, (refl, refl), f, refl); something = λ e. refl; longer = refl }

product_choice : (r s : Expression) (nothing epsilon : Bool) → is_nothing s ≡ nothing → is_epsilon s ≡ epsilon → IsNormal r → IsNormal s → IsNormal (if nothing then NoWord else (if epsilon then r else before r s))
product_choice r s true epsilon a b h k = tt
product_choice r s false true a b h k = h
product_choice r s false false a b h k = (before_normal r s h k (a, b)).normal

product_normal : (r s : Expression) → IsNormal r → IsNormal s → IsNormal (product_of r s)
product_normal r s h k = product_choice r s (is_nothing s) (is_epsilon s) refl refl h k

-- ---- runs

greater_less : (r s : Expression) → order r s ≡ Greater → order s r ≡ Less
greater_less r s e = order_total.antisymm s r ∙ ap ordering_reverse e

-- a member, which isn't a run itself
record IsMember (op : Operator) (t : Expression) : Type 0 where
  normal : IsNormal t
  proper : IsProper t
  single : is_run op t ≡ false

record IsRun (run : Expression) : Type 0 where
  normal : IsNormal run
  proper : IsProper run

-- a run, of which the first member is after whatever both are after
record IsPut (op : Operator) (t run put : Expression) : Type 0 where
  run_of : IsRun put
  behind : (c : Expression) → order c t ≡ Less → order c (first_of op run) ≡ Less → order c (first_of op put) ≡ Less

single_first : (op : Operator) (t : Expression) → is_run op t ≡ false → first_of op t ≡ t
single_first Or (Combination Or r s) e = cc
single_first And (Combination And r s) e = cc
single_first op t e = refl

combination_first : (op : Operator) (r s : Expression) → first_of op (Combination op r s) ≡ r
combination_first Or r s = refl
combination_first And r s = refl

combination_run : (op : Operator) (r s : Expression) → IsMember op r → IsRun s → order r (first_of op s) ≡ Less → IsRun (Combination op r s)
combination_run Or r s m k e = record { normal = (m.normal, k.normal, (m.proper, k.proper, m.single, e)); proper = (refl, refl) }
combination_run And r s m k e = record { normal = (m.normal, k.normal, (m.proper, k.proper, m.single, e)); proper = (refl, refl) }

placed_normal : (op : Operator) (o : Ordering) (t r run rest : Expression) → order t r ≡ o → first_of op run ≡ r → IsMember op t → IsMember op r → IsRun run → IsRun rest
    → (order r t ≡ Less → order r (first_of op rest) ≡ Less) → IsPut op t run (by_order o (Combination op t run) run (Combination op r rest))
placed_normal op Less t r run rest e first m n k more rises = record {
  run_of = combination_run op t run m k (rw first e);
  behind = λ c before_t before_r. rw (combination_first op t run) before_t;
}
placed_normal op Equal t r run rest e first m n k more rises = record { run_of = k; behind = λ c before_t before_r. before_r }
placed_normal op Greater t r run rest e first m n k more rises = record {
  run_of = combination_run op r rest n more (rises (greater_less t r e));
  behind = λ c before_t before_r. rw (combination_first op r rest) (rw first at before_r);
}

put_before : (op : Operator) (t r s run rest : Expression) → first_of op run ≡ r → IsMember op t → IsRun run → IsNormal r × IsNormal s × Rises op r s → IsPut op t s rest → IsPut op t run (placed op t r run rest)
put_before op t r s run rest first m k n more =
    placed_normal op (order t r) t r run rest refl first m (record { normal = n.0; proper = n.2.0; single = n.2.2 }) k more.run_of (λ e. more.behind r e n.2.3)

put_normal : (op : Operator) (t run : Expression) → IsMember op t → IsRun run → IsPut op t run (put op t run)
put_normal Or t (Combination Or r s) m k = put_before Or t r s (Combination Or r s) (put Or t s) refl m k k.normal (put_normal Or t s m (record { normal = k.normal.1; proper = k.normal.2.1 }))
put_normal And t (Combination And r s) m k = put_before And t r s (Combination And r s) (put And t s) refl m k k.normal (put_normal And t s m (record { normal = k.normal.1; proper = k.normal.2.1 }))
put_normal op t r m k =
    placed_normal op (order t r) t r r t refl (single_first op r refl) m (record { normal = k.normal; proper = k.proper; single = refl }) k (record { normal = m.normal; proper = m.proper })
    (λ e. rw (single_first op t m.single) e)

-- the tests of a member and of a run, and what they choose
or_false : (a b : Bool) → (a || b) ≡ false → (a ≡ false) × (b ≡ false)
or_false true b e = cc
or_false false b e = (refl, e)

neither_proper : (op : Operator) (r : Expression) → is_unit op r ≡ false → is_zero op r ≡ false → IsProper r
neither_proper Or r unit zero = (unit, zero)
neither_proper And r unit zero = (zero, unit)

join_choice : (op : Operator) (t run : Expression) (a b : Bool) → (is_unit op t || is_zero op run) ≡ a → (is_zero op t || is_unit op run) ≡ b → IsNormal t → is_run op t ≡ false → IsNormal run → IsNormal (if a then run else (if b then t else put op t run))
join_choice op t run true b ea eb h one k = k
join_choice op t run false true ea eb h one k = h
join_choice op t run false false ea eb h one k =
    let p = or_false (is_unit op t) (is_zero op run) ea in
    let q = or_false (is_zero op t) (is_unit op run) eb in
    (put_normal op t run (record { normal = h; proper = neither_proper op t p.0 q.0; single = one }) (record { normal = k; proper = neither_proper op run q.1 p.1 })).run_of.normal

join_normal : (op : Operator) (t run : Expression) → IsNormal t → is_run op t ≡ false → IsNormal run → IsNormal (join op t run)
join_normal op t run h one k = join_choice op t run (is_unit op t || is_zero op run) (is_zero op t || is_unit op run) refl refl h one k

combined_normal : (op : Operator) (r run : Expression) → IsNormal r → IsNormal run → IsNormal (combined op r run)
combined_normal Or (Combination Or p q) run h k = combined_normal Or q (combined Or p run) h.1 (combined_normal Or p run h.0 k)
combined_normal And (Combination And p q) run h k = combined_normal And q (combined And p run) h.1 (combined_normal And p run h.0 k)
combined_normal op r run h k = join_normal op r run h refl k

-- ---- what is formed

abbrev pub AreNormal : Formed → Type 0
AreNormal (Ok d) = IsNormal d
AreNormal (Err fault) = Unit {0}

choice_normal : (b : Bool) (d : Expression) (fault : SpecFault) → IsNormal d → AreNormal (if b then Ok d else Err fault)
choice_normal true d fault h = h
choice_normal false d fault h = tt

fitting_normal : (d : Expression) → IsNormal d → AreNormal (fitting d)
fitting_normal d h = choice_normal (nat_le (size_of d) 4096) d _ h

part_normal : (inside : Bool) (F : Formed) → AreNormal F → AreNormal (part inside F)
part_normal inside (Err fault) h = tt
part_normal true (Ok d) h = h
part_normal false (Ok d) h = fitting_normal d h

then_normal : (F : Formed) (k : Expression → Formed) → AreNormal F → ((d : Expression) → IsNormal d → AreNormal (k d)) → AreNormal (F >>= k)
then_normal (Err fault) k h more = tt
then_normal (Ok d) k h more = more d h

both_normal : (F G : Formed) (f : Expression → Expression → Expression) → AreNormal F → AreNormal G → ((d e : Expression) → IsNormal d → IsNormal e → IsNormal (f d e)) → AreNormal (F >>= λ d. G >>= λ e. Ok (f d e))
both_normal F G f h k keeps = then_normal F (λ d. G >>= λ e. Ok (f d e)) h (λ d m. then_normal G (λ e. Ok (f d e)) k (λ e n. keeps d e m n))

written_normal : (r : Expression) → AreNormal (normal_run r)
written_normal (Complement r) = then_normal (part false (normal_run r)) (λ n. Ok (complement_of n)) (part_normal false (normal_run r) (written_normal r)) complement_normal
written_normal (Star r) = then_normal (part false (normal_run r)) (λ n. Ok (star_of n)) (part_normal false (normal_run r) (written_normal r)) star_normal
written_normal (Plus r) = then_normal (part false (normal_run r)) (λ n. fitting (star_of n) >>= λ s. Ok (product_of n s)) (part_normal false (normal_run r) (written_normal r))
    (λ n h. then_normal (fitting (star_of n)) (λ s. Ok (product_of n s)) (fitting_normal (star_of n) (star_normal n h)) (λ s k. product_normal n s h k))
written_normal (Product r s) = both_normal (part (is_product r) (normal_run r)) (part (is_product s) (normal_run s)) product_of (part_normal (is_product r) (normal_run r) (written_normal r)) (part_normal (is_product s) (normal_run s) (written_normal s)) product_normal
written_normal (Combination op r s) = both_normal (part (is_run op r) (normal_run r)) (part (is_run op s) (normal_run s)) (combined op) (part_normal (is_run op r) (normal_run r) (written_normal r)) (part_normal (is_run op s) (normal_run s) (written_normal s)) (combined_normal op)
written_normal (Symbol x) = tt
written_normal EmptyWord = tt
written_normal NoWord = tt

letter_normal : (b : Bool) → IsNormal (if b then EmptyWord else NoWord)
letter_normal true = tt
letter_normal false = tt

product_derived : (b : Bool) (F G : Formed) → AreNormal F → AreNormal G → AreNormal (if b then (part false F >>= λ d. G >>= λ e. Ok (combined Or d e)) else F)
product_derived true F G h k = both_normal (part false F) G (combined Or) (part_normal false F h) k (combined_normal Or)
product_derived false F G h k = h

derived_normal : (x : ℕ) (r : Expression) → IsNormal r → AreNormal (derivative_run x r)
derived_normal x (Symbol y) n = letter_normal (x == y)
derived_normal x EmptyWord n = tt
derived_normal x NoWord n = tt
derived_normal x (Complement r) n = then_normal (part false (derivative_run x r)) (λ d. Ok (complement_of d)) (part_normal false (derivative_run x r) (derived_normal x r n.0)) complement_normal
derived_normal x (Star r) n = then_normal (part false (derivative_run x r)) (λ d. Ok (product_of d (Star r))) (part_normal false (derivative_run x r) (derived_normal x r n.0)) (λ d h. product_normal d (Star r) h n)
derived_normal x (Plus r) n = absurd n
derived_normal x (Product r s) n =
    product_derived (is_nullable r) (part false (derivative_run x r) >>= λ d. Ok (product_of d s)) (part false (derivative_run x s))
    (then_normal (part false (derivative_run x r)) (λ d. Ok (product_of d s)) (part_normal false (derivative_run x r) (derived_normal x r n.0)) (λ d h. product_normal d s h n.1))
    (part_normal false (derivative_run x s) (derived_normal x s n.1))
derived_normal x (Combination op r s) n = both_normal (part false (derivative_run x r)) (part (is_run op s) (derivative_run x s)) (combined op) (part_normal false (derivative_run x r) (derived_normal x r n.0)) (part_normal (is_run op s) (derivative_run x s) (derived_normal x s n.1)) (combined_normal op)

step_normal : (e : Expression) (x : ℕ) (F : Formed) → AreNormal F → AreNormal (step_from (forms_of e) F x)
step_normal e x (Err fault) h = tt
step_normal e x (Ok d) h = part_normal false (derivative_run x d) (derived_normal x d h)

path_normal : (e : Expression) (word : List ℕ) (F : Formed) → AreNormal F → AreNormal (fold (step_from (forms_of e)) F word)
path_normal e [] F h = h
path_normal e (x ∷ word) F h = path_normal e word (step_from (forms_of e) F x) (step_normal e x F h)

-- what is reached is normal
pub reached_normal : (e d : Expression) (word : List ℕ) → reached_by (forms_of e) word ≡ Ok d → IsNormal d
reached_normal e d word is = subst (λ (F : Formed). AreNormal F) is (path_normal e word (normal_form e) (part_normal false (normal_run e) (written_normal e)))
