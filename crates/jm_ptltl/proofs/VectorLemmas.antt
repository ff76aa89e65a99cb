-- The next vector has the truth of all subformulas at the next position.
use Rattle.std.proofs.Common.{ℕ, suc, ◌≡◌, ◌==◌, ◌<◌, ◌≤◌, ◌+◌, ◌-◌, Bool, true, false, Decides, List, [], ◌∷◌, ◌++◌, Option, Some, None, length, slice_get, refl, sym, ap, subst, ◌∙◌, arith, length-append, append_assoc}
use Rattle.std.proofs.lemmas.Bool.Decides.{Decides-not, Decides-and, Decides-or, Decides-eqb, Decides-like}
use Rattle.jm_model.specs.declared.step.Letter.{Letter}
use Rattle.jm_ptltl.specs.declared.formula.Unary.{Unary}
use Rattle.jm_ptltl.specs.declared.formula.Unary.TheVariants.{Not, Historically, Once, Previously}
use Rattle.jm_ptltl.specs.declared.formula.Binary.{Binary}
use Rattle.jm_ptltl.specs.declared.formula.Binary.TheVariants.{Equivalent, Implies, Or, Xor, And, Since}
use Rattle.jm_ptltl.specs.declared.formula.Node.{Node}
use Rattle.jm_ptltl.specs.declared.formula.Node.TheVariants.{Prefix, Infix}
use Rattle.jm_ptltl.specs.Formulas.{Formula, event, constant, unary, binary, postfix}
use Rattle.jm_ptltl.specs.Meanings.{HoldsUnary, HoldsBinary, Holds}
use Rattle.jm_ptltl.specs.Vectors.{has_bit, with_bit, unary_truth, binary_truth, node_truth, vector_from}
use Rattle.jm_ptltl.proofs.BitLemmas.{same_bit, other_bit}
use Rattle.jm_ptltl.proofs.MeaningLemmas.{equivalent_decides, implies_decides, xor_decides, historically_zero, historically_more, once_zero, once_more, previously_first, previously_more, since_zero, since_more}

abbrev only : Node Letter → List (Node Letter)
only x = x ∷ []

-- how many nodes a formula has
abbrev pub size : Formula Letter → ℕ
size f = length (postfix f)

-- from this place on the bits of the vector say which subformulas are true at position n
abbrev pub Shows : List ℕ → ℕ → ℕ → ℕ → Formula Letter → Type 0
Shows word n v i (event e) = Decides (has_bit v i) (Holds (event e) word n)
Shows word n v i (constant b) = Decides (has_bit v i) (Holds (constant b) word n)
Shows word n v i (unary op f) = Shows word n v i f × Decides (has_bit v (i + size f)) (Holds (unary op f) word n)
Shows word n v i (binary op f g) = Shows word n v i f × Shows word n v (i + size f) g × Decides (has_bit v (i + size f + size g)) (Holds (binary op f g) word n)

-- the bit of the last place is that of the whole formula
pub shows_root : (word : List ℕ) (n v i : ℕ) (f : Formula Letter) (place : ℕ) → place + 1 ≡ i + size f → Shows word n v i f → Decides (has_bit v place) (Holds f word n)
shows_root word n v i (event e) place at h = let e' : i ≡ place = omega (arith, at) in subst (λ k. Decides (has_bit v k) (Holds (event e) word n)) e' h
shows_root word n v i (constant b) place at h = let e' : i ≡ place = omega (arith, at) in subst (λ k. Decides (has_bit v k) (Holds (constant b) word n)) e' h
shows_root word n v i (unary op f) place at h =
    let e : i + size f ≡ place = omega (arith, at, length-append (postfix f) (only (Prefix op))) in
    subst (λ k. Decides (has_bit v k) (Holds (unary op f) word n)) e h.1
shows_root word n v i (binary op f g) place at h =
    let e : i + size f + size g ≡ place = omega (arith, at, length-append (postfix f) (postfix g ++ only (Infix op (size g))), length-append (postfix g) (only (Infix op (size g)))) in
    subst (λ k. Decides (has_bit v k) (Holds (binary op f g) word n)) e h.2

-- the bits of other places say nothing of the formula
pub shows_same : (word : List ℕ) (n a b i : ℕ) (f : Formula Letter) → ((k : ℕ) → i ≤ k → k < i + size f → has_bit a k ≡ has_bit b k) → Shows word n a i f → Shows word n b i f
shows_same word n a b i (event e) same h = subst (λ x. Decides x (Holds (event e) word n)) (same i (omega arith) (omega arith)) h
shows_same word n a b i (constant c) same h = subst (λ x. Decides x (Holds (constant c) word n)) (same i (omega arith) (omega arith)) h
shows_same word n a b i (unary op f) same h =
    let len = length-append (postfix f) (only (Prefix op)) in (
      shows_same word n a b i f (λ k low high. same k low (omega (arith, high, len))) h.0,
      subst (λ x. Decides x (Holds (unary op f) word n)) (same (i + size f) (omega arith) (omega (arith, len))) h.1,
    )
shows_same word n a b i (binary op f g) same h =
    let len = length-append (postfix f) (postfix g ++ only (Infix op (size g))) in
    let more = length-append (postfix g) (only (Infix op (size g))) in (
      shows_same word n a b i f (λ k low high. same k low (omega (arith, high, len))) h.0,
      shows_same word n a b (i + size f) g (λ k low high. same k (omega (arith, low)) (omega (arith, high, len, more))) h.1,
      subst (λ x. Decides x (Holds (binary op f g) word n)) (same (i + size f + size g) (omega arith) (omega (arith, len, more))) h.2,
    )

-- a formula has a node
pub some_nodes : (f : Formula Letter) → 0 < size f
some_nodes (event e) = omega arith
some_nodes (constant b) = omega arith
some_nodes (unary op f) = omega (arith, length-append (postfix f) (only (Prefix op)))
some_nodes (binary op f g) = omega (arith, length-append (postfix f) (postfix g ++ only (Infix op (size g))), length-append (postfix g) (only (Infix op (size g))))

-- no bit is set from this place on
abbrev pub NoneFrom : ℕ → ℕ → Type 0
NoneFrom v i = (k : ℕ) → i ≤ k → has_bit v k ≡ false

-- the last vector, after n positions: none at the start, and else it shows the formula
abbrev pub Before : List ℕ → ℕ → Option ℕ → ℕ → Formula Letter → Type 0
Before word n None i f = n ≡ 0
Before word n (Some v) i f = (0 < n) × Shows word n v i f

module _ (word : List ℕ) (n : ℕ) where
  before_unary : (last : Option ℕ) (i : ℕ) (op : Unary) (f : Formula Letter) → Before word n last i (unary op f) → Before word n last i f
  before_unary None i op f h = h
  before_unary (Some v) i op f h = (h.0, h.1.0)

  before_left : (last : Option ℕ) (i : ℕ) (op : Binary) (f g : Formula Letter) → Before word n last i (binary op f g) → Before word n last i f
  before_left None i op f g h = h
  before_left (Some v) i op f g h = (h.0, h.1.0)

  before_right : (last : Option ℕ) (i : ℕ) (op : Binary) (f g : Formula Letter) → Before word n last i (binary op f g) → Before word n last (i + size f) g
  before_right None i op f g h = h
  before_right (Some v) i op f g h = (h.0, h.1.1)

  at_zero : (P : ℕ → Type 0) (b : Bool) → n ≡ 0 → Decides b (P 0) → Decides b (P n)
  at_zero P b e h = subst (λ k. Decides b (P k)) (sym e) h

  -- an operator is as its part is now, and as the last vector says
  unary_decides : (last : Option ℕ) (i : ℕ) (op : Unary) (f : Formula Letter) (place : ℕ) (part : Bool) → place ≡ i + size f → Before word n last i (unary op f) → Decides part (Holds f word (suc n)) → Decides (unary_truth op last place part) (Holds (unary op f) word (suc n))
  unary_decides last i Not f place part at h now = Decides-not part now
  unary_decides None i Historically f place part at h now = historically_more (Holds f word) (Holds f word) n part true now (at_zero (HoldsUnary Historically (Holds f word)) true h (historically_zero (Holds f word) (Holds f word)))
  unary_decides (Some v) i Historically f place part at h now = historically_more (Holds f word) (Holds f word) n part (has_bit v place) now (subst (λ k. Decides (has_bit v k) (Holds (unary Historically f) word n)) (sym at) h.1.1)
  unary_decides None i Once f place part at h now = once_more (Holds f word) (Holds f word) n part false now (at_zero (HoldsUnary Once (Holds f word)) false h (once_zero (Holds f word) (Holds f word)))
  unary_decides (Some v) i Once f place part at h now = once_more (Holds f word) (Holds f word) n part (has_bit v place) now (subst (λ k. Decides (has_bit v k) (Holds (unary Once f) word n)) (sym at) h.1.1)
  unary_decides None i Previously f place part at h now = subst (λ k. Decides false (HoldsUnary Previously (Holds f word) (suc k))) (sym h) (previously_first (Holds f word) (Holds f word))
  unary_decides (Some v) i Previously f place part at h now = previously_more (Holds f word) (Holds f word) n (has_bit v (place - 1)) h.0 (shows_root word n v i f (place - 1) (omega (arith, at, some_nodes f)) h.1.0)

  binary_decides : (last : Option ℕ) (i : ℕ) (op : Binary) (f g : Formula Letter) (place : ℕ) (left right : Bool) → place ≡ i + size f + size g → Before word n last i (binary op f g) → Decides left (Holds f word (suc n)) → Decides right (Holds g word (suc n))
      → Decides (binary_truth op last place left right) (Holds (binary op f g) word (suc n))
  binary_decides last i Equivalent f g place left right at h l r = equivalent_decides _ _ left right l r
  binary_decides last i Implies f g place left right at h l r = implies_decides _ _ left right l r
  binary_decides last i Or f g place left right at h l r = Decides-or left right l r
  binary_decides last i Xor f g place left right at h l r = xor_decides _ _ left right l r
  binary_decides last i And f g place left right at h l r = Decides-and left right l r
  binary_decides None i Since f g place left right at h l r = since_more (Holds f word) (Holds g word) n left right false l r (at_zero (HoldsBinary Since (Holds f word) (Holds g word)) false h (since_zero (Holds f word) (Holds g word)))
  binary_decides (Some v) i Since f g place left right at h l r = since_more (Holds f word) (Holds g word) n left right (has_bit v place) l r (subst (λ k. Decides (has_bit v k) (Holds (binary Since f g) word n)) (sym at) h.1.2)

  -- what the nodes of a formula add to a vector
  pub record Stepped (last : Option ℕ) (letter : ℕ) (rest : List (Node Letter)) (f : Formula Letter) (i v : ℕ) : Type 0 where
    pub next : ℕ
    pub leads : vector_from last letter i v (postfix f ++ rest) ≡ vector_from last letter (i + size f) next rest
    pub kept : (k : ℕ) → k < i → has_bit next k ≡ has_bit v k
    pub none : NoneFrom next (i + size f)
    pub shows : Shows word (suc n) next i f

  none_more : (v place : ℕ) (b : Bool) → place < 64 → NoneFrom v place → NoneFrom (with_bit v place b) (place + 1)
  none_more v place b lt none k le = other_bit v place b k lt (λ e. omega (arith, e, le)) ∙ none k (omega (arith, le))

  -- one node more after the parts of an operator
  ends : (last : Option ℕ) (letter place v : ℕ) (x : Node Letter) (rest : List (Node Letter)) → vector_from last letter place v (x ∷ rest) ≡ vector_from last letter (place + 1) (with_bit v place (node_truth last letter place v x)) rest
  ends last letter place v x rest = refl

  letter_decides : (e : Letter) (letter : ℕ) → slice_get word n ≡ Some letter → Decides (e.0 == letter) (Holds (event e) word (suc n))
  letter_decides e letter at =
      let here : slice_get word (suc n - 1) ≡ Some letter = ap (λ k. slice_get word k) (omega arith) ∙ at in
      Decides-like (e.0 == letter)
      (λ same. (omega arith, here ∙ ap (λ x. Some x) (sym same)))
      (λ h. let two : ◌≡◌ {A = Option ℕ} (Some letter) (Some e.0) = sym here ∙ h.1 in cc)
      (Decides-eqb e.0 letter)

  pub step : (last : Option ℕ) (letter : ℕ) → slice_get word n ≡ Some letter → (rest : List (Node Letter)) (f : Formula Letter) (i v : ℕ) → i + size f ≤ 64 → NoneFrom v i → Before word n last i f → Stepped last letter rest f i v
  step last letter at rest (event e) i v room none before =
      let b = e.0 == letter in record {
        next = with_bit v i b;
        leads = refl;
        kept = λ k lt. other_bit v i b k (omega (arith, room)) (λ e. omega (arith, e, lt));
        none = none_more v i b (omega (arith, room)) none;
        shows = subst (λ x. Decides x (Holds (event e) word (suc n))) (sym (same_bit v i b (omega (arith, room)) (none i (omega arith)))) (letter_decides e letter at);
      }
  step last letter at rest (constant b) i v room none before = record {
    next = with_bit v i b;
    leads = refl;
    kept = λ k lt. other_bit v i b k (omega (arith, room)) (λ e. omega (arith, e, lt));
    none = none_more v i b (omega (arith, room)) none;
    shows = subst (λ x. Decides x (Holds (constant b) word (suc n))) (sym (same_bit v i b (omega (arith, room)) (none i (omega arith)))) (λ h. h, λ h. h);
  }
  step last letter at rest (unary op f) i v room none before =
      let len = length-append (postfix f) (only (Prefix op)) in
      let one = step last letter at (Prefix op ∷ rest) f i v (omega (arith, room, len)) none (before_unary last i op f before) in
      let place = i + size f in
      let part = has_bit one.next (place - 1) in
      let b = unary_truth op last place part in
      let lt : place < 64 = omega (arith, room, len) in
      let now = shows_root word (suc n) one.next i f (place - 1) (omega (arith, some_nodes f)) one.shows in
      let kept : (k : ℕ) → k < place → has_bit (with_bit one.next place b) k ≡ has_bit one.next k = λ k less. other_bit one.next place b k lt (λ e. omega (arith, e, less)) in
      record {
        next = with_bit one.next place b;
        leads = ap (λ l. vector_from last letter i v l) (append_assoc (postfix f) (Prefix op ∷ []) rest) ∙ one.leads ∙ ap (λ k. vector_from last letter k (with_bit one.next place b) rest) (omega (arith, len));
        kept = λ k less. kept k (omega (arith, less)) ∙ one.kept k less;
        none = λ k le. none_more one.next place b lt one.none k (omega (arith, le, len));
        shows = (
          shows_same word (suc n) one.next (with_bit one.next place b) i f (λ k low high. sym (kept k high)) one.shows,
          subst (λ x. Decides x (Holds (unary op f) word (suc n))) (sym (same_bit one.next place b lt (one.none place (omega arith)))) (unary_decides last i op f place part refl before now),
        );
      }
  step last letter at rest (binary op f g) i v room none before =
      let node : Node Letter = Infix op (size g) in
      let len = length-append (postfix f) (postfix g ++ node ∷ []) in
      let more = length-append (postfix g) (node ∷ []) in
      let one = step last letter at (postfix g ++ node ∷ rest) f i v (omega (arith, room, len)) none (before_left last i op f g before) in
      let two = step last letter at (node ∷ rest) g (i + size f) one.next (omega (arith, room, len, more)) one.none (before_right last i op f g before) in
      let place = i + size f + size g in
      let left = has_bit two.next (place - 1 - size g) in
      let right = has_bit two.next (place - 1) in
      let b = binary_truth op last place left right in
      let lt : place < 64 = omega (arith, room, len, more) in
      let first = shows_same word (suc n) one.next two.next i f (λ k low high. sym (two.kept k high)) one.shows in
      let l = shows_root word (suc n) two.next i f (place - 1 - size g) (omega (arith, some_nodes f, some_nodes g)) first in
      let r = shows_root word (suc n) two.next (i + size f) g (place - 1) (omega (arith, some_nodes g)) two.shows in
      let kept : (k : ℕ) → k < place → has_bit (with_bit two.next place b) k ≡ has_bit two.next k = λ k less. other_bit two.next place b k lt (λ e. omega (arith, e, less)) in
      record {
        next = with_bit two.next place b;
        leads = ap (λ l. vector_from last letter i v l) (append_assoc (postfix f) (postfix g ++ node ∷ []) rest ∙ ap (λ l. postfix f ++ l) (append_assoc (postfix g) (node ∷ []) rest)) ∙ one.leads ∙ two.leads ∙ ap (λ k. vector_from last letter k (with_bit two.next place b) rest) (omega (arith, len, more));
        kept = λ k less. let inner : has_bit two.next k ≡ has_bit v k = two.kept k (omega (arith, less)) ∙ one.kept k less in kept k (omega (arith, less)) ∙ inner;
        none = λ k le. none_more two.next place b lt two.none k (omega (arith, le, len, more));
        shows = (
          shows_same word (suc n) two.next (with_bit two.next place b) i f (λ k low high. sym (kept k (omega (arith, high)))) first,
          shows_same word (suc n) two.next (with_bit two.next place b) (i + size f) g (λ k low high. sym (kept k high)) two.shows,
          subst (λ x. Decides x (Holds (binary op f g) word (suc n))) (sym (same_bit two.next place b lt (two.none place (omega arith)))) (binary_decides last i op f g place left right refl before l r),
        );
      }
