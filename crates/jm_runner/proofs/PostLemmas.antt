-- A name that isn't posted twice is posted in one script, at one line.
use Rattle.std.proofs.Common.{◌≡◌, ◌⊎◌, inl, inr, ⊎_elim, ℕ, zero, suc, ◌<◌, false, List, [], ◌∷◌, ◌++◌, length, get_or, Some, slice_get, refl, sym, ap, subst, ◌∙◌, arith}
use Rattle.std.specs.Prelude.{All, Contains, nat_eq}
use Rattle.std.specs.List.{IsDistinct}
use Rattle.std.proofs.lemmas.Bool.Decides.{nat_tests}
use Rattle.std.proofs.lemmas.List.Concat.{flat_map-append}
use Rattle.std.proofs.lemmas.List.Elements.{All-from_recursion, All-contains, All-head, All-map, All-nil, All-tail, All-weaker, Contains-append_left, Contains-append_right}
use Rattle.std.proofs.lemmas.Map.Keys.{IsDistinct-head, IsDistinct-tail}
use Rattle.std.proofs.lemmas.Option.{none-some, same_Some}
use Rattle.jm_sync.specs.declared.line.SyncKind.{SyncKind}
use Rattle.jm_sync.specs.declared.line.SyncKind.TheVariants.{Post, Wait}
use Rattle.jm_sync.specs.declared.line.SyncLine.{SyncLine}
use Rattle.jm_sync.specs.declared.line.Cut.{Cut}
use Rattle.jm_sync.specs.Checks.{all_lines, line_at, posted_by, posts_of, sync_of, ArePostedOnce, AreSound}
use Rattle.jm_sync.specs.Cuts.{RisesFrom}
use Rattle.jm_runner.specs.Orders.{post_at}

in_cons : {A : Type 0} (x y : A) (xs : List A) (k : ℕ) → k < length (x ∷ xs) → get_or (x ∷ xs) k y ≡ y → (x ≡ y) ⊎ Contains xs y
in_cons x y xs zero less e = inl e
in_cons x y xs (suc k) less e = inr (k, omega arith, e)

head_or_tail : {A : Type 0} (x y : A) (xs : List A) → Contains (x ∷ xs) y → (x ≡ y) ⊎ Contains xs y
head_or_tail x y xs c = in_cons x y xs c.0 c.1 c.2

-- ---- the names that are posted
post_name : (a : List SyncLine) (p n : ℕ) → Contains a (post_at p n) → Contains (posts_of a) n
post_name [] p n c = absurd (omega (arith, c.1))
post_name (x ∷ a) p n c =
    ⊎_elim
    (λ (e : x ≡ post_at p n). subst (λ (l : SyncLine). Contains (posted_by l.kind l.name ++ posts_of a) n) (sym e) (0, omega arith, refl))
    (λ (t : Contains a (post_at p n)). Contains-append_right (posted_by x.kind x.name) (posts_of a) n (post_name a p n t))
    (head_or_tail x (post_at p n) a c)

rest_distinct : (kind : SyncKind) (name : ℕ) (rest : List ℕ) → IsDistinct nat_eq (posted_by kind name ++ rest) → IsDistinct nat_eq rest
rest_distinct Post name rest d = IsDistinct-tail nat_eq name rest d
rest_distinct Wait name rest d = d

not_itself : (n : ℕ) → nat_eq n n ≡ false → ⊥
not_itself n e = grind (arith, nat_tests)

fresh : (n : ℕ) (rest : List ℕ) → IsDistinct nat_eq (n ∷ rest) → Contains rest n → ⊥
fresh n rest d c = not_itself n (All-contains (λ y. nat_eq n y ≡ false) rest n (All-from_recursion (λ y. nat_eq n y ≡ false) rest (IsDistinct-head nat_eq n rest d)) c)

-- a line that posts a name is the only one
post_fresh : (x : SyncLine) (p n : ℕ) (rest : List ℕ) → x ≡ post_at p n → IsDistinct nat_eq (posted_by x.kind x.name ++ rest) → Contains rest n → ⊥
post_fresh x p n rest e d c = fresh n rest (subst (λ (l : SyncLine). IsDistinct nat_eq (posted_by l.kind l.name ++ rest)) e d) c

one_line : (a : List SyncLine) (p q n : ℕ) → IsDistinct nat_eq (posts_of a) → Contains a (post_at p n) → Contains a (post_at q n) → p ≡ q
one_line [] p q n d c e = absurd (omega (arith, c.1))
one_line (x ∷ a) p q n d c e =
    ⊎_elim
    (λ (first : x ≡ post_at p n). ⊎_elim
    (λ (second : x ≡ post_at q n). ap (λ (l : SyncLine). l.line) (sym first ∙ second))
    (λ (later : Contains a (post_at q n)). absurd (post_fresh x p n (posts_of a) first d (post_name a q n later)))
    (head_or_tail x (post_at q n) a e))
    (λ (later : Contains a (post_at p n)). ⊎_elim
    (λ (second : x ≡ post_at q n). absurd (post_fresh x q n (posts_of a) second d (post_name a p n later)))
    (λ (both : Contains a (post_at q n)). one_line a p q n (rest_distinct x.kind x.name (posts_of a) d) later both)
    (head_or_tail x (post_at q n) a e))
    (head_or_tail x (post_at p n) a c)

posts_of-append : (a b : List SyncLine) → posts_of (a ++ b) ≡ posts_of a ++ posts_of b
posts_of-append a b = flat_map-append (λ (l : SyncLine). posted_by l.kind l.name) a b

apart : (a b : List SyncLine) (p n : ℕ) → IsDistinct nat_eq (posts_of (a ++ b)) → Contains a (post_at p n) → Contains (posts_of b) n → ⊥
apart [] b p n d c e = omega (arith, c.1)
apart (x ∷ a) b p n d c e =
    ⊎_elim
    (λ (first : x ≡ post_at p n). post_fresh x p n (posts_of (a ++ b)) first d (subst (λ (l : List ℕ). Contains l n) (sym (posts_of-append a b)) (Contains-append_right (posts_of a) (posts_of b) n e)))
    (λ (later : Contains a (post_at p n)). apart a b p n (rest_distinct x.kind x.name (posts_of (a ++ b)) d) later e)
    (head_or_tail x (post_at p n) a c)

right_distinct : (a b : List SyncLine) → IsDistinct nat_eq (posts_of (a ++ b)) → IsDistinct nat_eq (posts_of b)
right_distinct [] b d = d
right_distinct (x ∷ a) b d = right_distinct a b (rest_distinct x.kind x.name (posts_of (a ++ b)) d)

-- ---- script after script
in_all : (cuts : List (List SyncLine)) (k : ℕ) (a : List SyncLine) (x : SyncLine) → slice_get cuts k ≡ Some a → Contains a x → Contains (all_lines cuts) x
in_all [] k a x at c = absurd (none-some a at)
in_all (b ∷ cuts) zero a x at c = Contains-append_left b (all_lines cuts) x (subst (λ (l : List SyncLine). Contains l x) (sym (same_Some b a at)) c)
in_all (b ∷ cuts) (suc k) a x at c = Contains-append_right b (all_lines cuts) x (in_all cuts k a x at c)

one_script : (cuts : List (List SyncLine)) (k j p q n : ℕ) (a b : List SyncLine) → ArePostedOnce cuts → slice_get cuts k ≡ Some a → slice_get cuts j ≡ Some b → Contains a (post_at p n) → Contains b (post_at q n) → k ≡ j
one_script [] k j p q n a b once aat bat c d = absurd (none-some a aat)
one_script (x ∷ cuts) zero zero p q n a b once aat bat c d = refl
one_script (x ∷ cuts) zero (suc j) p q n a b once aat bat c d =
    absurd (apart x (all_lines cuts) p n once (subst (λ (l : List SyncLine). Contains l (post_at p n)) (sym (same_Some x a aat)) c) (post_name (all_lines cuts) q n (in_all cuts j b (post_at q n) bat d)))
one_script (x ∷ cuts) (suc k) zero p q n a b once aat bat c d =
    absurd (apart x (all_lines cuts) q n once (subst (λ (l : List SyncLine). Contains l (post_at q n)) (sym (same_Some x b bat)) d) (post_name (all_lines cuts) p n (in_all cuts k a (post_at p n) aat c)))
one_script (x ∷ cuts) (suc k) (suc j) p q n a b once aat bat c d = ap suc (one_script cuts k j p q n a b (right_distinct x (all_lines cuts) once) aat bat c d)

pub posted_once : (cuts : List (List SyncLine)) (k j p q n : ℕ) (a b : List SyncLine) → ArePostedOnce cuts → slice_get cuts k ≡ Some a → slice_get cuts j ≡ Some b → Contains a (post_at p n) → Contains b (post_at q n)
    → (k ≡ j) × (p ≡ q)
posted_once cuts k j p q n a b once aat bat c d = (
  one_script cuts k j p q n a b once aat bat c d,
  one_line (all_lines cuts) p q n once (in_all cuts k a (post_at p n) aat c) (in_all cuts j b (post_at q n) bat d),
)

-- ---- where nobody asks for anything, nothing is wrong
none_asked : (cuts : List (List SyncLine)) → All (λ (lines : List SyncLine). lines ≡ []) cuts → all_lines cuts ≡ []
none_asked [] none = refl
none_asked (x ∷ cuts) none = ap (λ l. l ++ all_lines cuts) (All-head (λ (lines : List SyncLine). lines ≡ []) x cuts none) ∙ none_asked cuts (All-tail (λ (lines : List SyncLine). lines ≡ []) x cuts none)

no_line : (cuts : List (List SyncLine)) (k i : ℕ) (l : SyncLine) → All (λ (lines : List SyncLine). lines ≡ []) cuts → line_at cuts k i ≡ Some l → ⊥
no_line [] k i l none at = none-some l at
no_line (x ∷ cuts) zero i l none at = none-some l (subst (λ (lines : List SyncLine). slice_get lines i ≡ Some l) (All-head (λ (lines : List SyncLine). lines ≡ []) x cuts none) at)
no_line (x ∷ cuts) (suc k) i l none at = no_line cuts k i l (All-tail (λ (lines : List SyncLine). lines ≡ []) x cuts none) at

once_none : (lines : List SyncLine) → lines ≡ [] → IsDistinct nat_eq (posts_of lines)
unfolding IsDistinct
once_none lines none = subst (λ (l : List SyncLine). IsDistinct nat_eq (posts_of l)) (sym none) tt

module _ (cuts : List Cut) (none : All (λ (cut : Cut). cut.lines.items ≡ []) cuts) where
  empty_lines : All (λ (lines : List SyncLine). lines ≡ []) (sync_of cuts)
  empty_lines = All-map (λ (lines : List SyncLine). lines ≡ []) (λ (cut : Cut). cut.lines.items) cuts none

  pub none_sound : AreSound (sync_of cuts)
  none_sound =
      let empty = none_asked (sync_of cuts) empty_lines in
      record {
        few = let size : length (all_lines (sync_of cuts)) ≡ 0 = ap length empty in omega (arith, size);
        once = once_none (all_lines (sync_of cuts)) empty;
        reachable = λ k i l at. absurd (no_line (sync_of cuts) k i l empty_lines at);
      }

  pub none_rising : All (λ (cut : Cut). RisesFrom 1 cut.lines.items) cuts
  none_rising = All-weaker (λ (cut : Cut). cut.lines.items ≡ []) (λ (cut : Cut). RisesFrom 1 cut.lines.items) (λ cut e. subst (λ (l : List SyncLine). RisesFrom 1 l) (sym e) tt) cuts none

  pub none_named : (n : ℕ) → All (λ (cut : Cut). All (λ l. l.name < n) cut.lines.items) cuts
  none_named n = All-weaker (λ (cut : Cut). cut.lines.items ≡ []) (λ (cut : Cut). All (λ l. l.name < n) cut.lines.items) (λ cut e. subst (λ (ls : List SyncLine). All (λ (l : SyncLine). l.name < n) ls) (sym e) (All-nil (λ (l : SyncLine). l.name < n))) cuts none
