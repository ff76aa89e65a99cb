-- After each word the state of the table shows the truth of all subformulas at the last position.
use Rattle.std.proofs.Common.{ℕ, zero, suc, ◌≡◌, ◌<◌, ◌≤◌, ◌+◌, ◌↔◌, ◌⊎◌, inl, inr, Bool, true, false, Decides, List, [], ◌∷◌, ◌++◌, Option, Some, None, Result, Ok, IsSomeAnd, All, Contains, fold, map, length, slice_get, drop, refl, sym, ap, subst, ◌∙◌, arith, length-append, append-nil}
use Rattle.std.specs.Prelude.{IsBitSet}
use Rattle.std.proofs.lemmas.Bool.{cases_Bool}
use Rattle.std.proofs.lemmas.Bool.Decides.{not_from_Decides}
use Rattle.std.proofs.lemmas.Option.{slice_get_cases}
use Rattle.jm_model.specs.declared.step.Letter.{Letter}
use Rattle.jm_model.specs.declared.fault.SpecFault.{SpecFault}
use Rattle.jm_table.specs.Graphs.{step_from, reached_by}
use Rattle.jm_table.specs.Tables.{Transitions, IsInGroup, IsWord, state_after_of, Follows}
use Rattle.jm_ptltl.specs.declared.formula.Node.TheVariants.{Prefix, Infix}
use Rattle.jm_ptltl.specs.Formulas.{Formula, event, constant, unary, binary, postfix, subformulas}
use Rattle.jm_ptltl.specs.Meanings.{Holds, HoldsLast}
use Rattle.jm_ptltl.specs.Vectors.{has_bit, vector_from, next_vector, graph_of, Says, HasGroup}
use Rattle.jm_ptltl.specs.Tables.{IsCompiled, IsVector}
use Rattle.jm_ptltl.proofs.BitLemmas.{no_bit, bit_decides}
use Rattle.jm_ptltl.proofs.VectorLemmas.{size, Shows, shows_root, NoneFrom, Before, step}

-- ---- places of a list

module _ {X : Type 0} where
  head_of : (xs : List X) (n : ℕ) (x : X) (rest : List X) → drop n xs ≡ x ∷ rest → slice_get xs n ≡ Some x
  head_of [] zero x rest h = absurd (cc)
  head_of [] (suc n) x rest h = absurd (cc)
  head_of (y ∷ ys) zero x rest h = cc
  head_of (y ∷ ys) (suc n) x rest h = head_of ys n x rest h

  tail_of : (xs : List X) (n : ℕ) (x : X) (rest : List X) → drop n xs ≡ x ∷ rest → drop (suc n) xs ≡ rest
  tail_of [] zero x rest h = absurd (cc)
  tail_of [] (suc n) x rest h = absurd (cc)
  tail_of (y ∷ ys) zero x rest h = cc
  tail_of (y ∷ ys) (suc n) x rest h = tail_of ys n x rest h

  -- an element of two lists is one of the first or of the second
  at_cases : (xs ys : List X) (k : ℕ) (x : X) → slice_get (xs ++ ys) k ≡ Some x
      → ((k < length xs) × (slice_get xs k ≡ Some x)) ⊎ ((j : ℕ) × (k ≡ length xs + j) × (slice_get ys j ≡ Some x))
  at_cases [] ys k x h = inr (k, omega arith, h)
  at_cases (y ∷ xs) ys zero x h = inl (omega arith, h)
  at_cases (y ∷ xs) ys (suc k) x h = elim (at_cases xs ys k x h) [ inl first ↦ inl (omega (arith, first.0), first.1) | inr second ↦ inr (second.0, omega (arith, second.1), second.2) ]

  only_one : (y x : X) (j : ℕ) → slice_get (y ∷ []) j ≡ Some x → (j ≡ 0) × (y ≡ x)
  only_one y x zero h = (refl, cc)
  only_one y x (suc j) h = absurd (cc)

  pub holds_at : (P : X → Type 0) (o : Option X) (x : X) → o ≡ Some x → IsSomeAnd o P ↔ P x
  holds_at P o x e = (λ h. rw e at h, λ h. rw e h)

  holds_nowhere : (P : X → Type 0) (o : Option X) → o ≡ None → IsSomeAnd o P → ⊥
  holds_nowhere P o e h = rw e at h

-- ---- the vector after a word

-- the last vector, after n positions: none at the start, and else it has the truth of all subformulas and no other bit
abbrev Stands : Formula Letter → List ℕ → ℕ → Option ℕ → Type 0
Stands f word n None = n ≡ 0
Stands f word n (Some v) = (0 < n) × Shows word n v 0 f × NoneFrom v (size f)

module _ (f : Formula Letter) (few : size f ≤ 64) (word : List ℕ) where
  before_of : (n : ℕ) (last : Option ℕ) → Stands f word n last → Before word n last 0 f
  before_of n None h = h
  before_of n (Some v) h = (h.0, h.1)

  next_stands : (n : ℕ) (last : Option ℕ) (letter : ℕ) → slice_get word n ≡ Some letter → Stands f word n last → Stands f word (suc n) (Some (next_vector f last letter))
  next_stands n last letter at h =
      let s = step word n last letter at [] f 0 0 (omega (arith, few)) (λ k le. no_bit k) (before_of n last h) in
      let same : next_vector f last letter ≡ s.next = ap (λ l. vector_from last letter 0 0 l) (sym (append-nil (postfix f))) ∙ s.leads in
      subst (λ v. Stands f word (suc n) (Some v)) (sym same) (omega arith, s.shows, λ k le. s.none k (omega (arith, le)))

  path_stands : (rest : List ℕ) (n : ℕ) (last : Option ℕ) → drop n word ≡ rest → Stands f word n last → (end : Option ℕ) × (fold (step_from (graph_of f)) (Ok last) rest ≡ Ok end) × Stands f word (n + length rest) end
  path_stands [] n last at h = (last, refl, subst (λ k. Stands f word k last) (omega arith) h)
  path_stands (x ∷ rest) n last at h =
      let more = path_stands rest (suc n) (Some (next_vector f last x)) (tail_of word n x rest at) (next_stands n last x (head_of word n x rest at) h) in
      (more.0, more.1, subst (λ k. Stands f word k more.0) (omega arith) more.2)

  reached_stands : (end : Option ℕ) × (reached_by (graph_of f) word ≡ Ok end) × Stands f word (length word) end
  reached_stands = let p = path_stands word 0 None refl refl in (p.0, p.1, subst (λ k. Stands f word k p.0) (omega arith) p.2)

  -- the vector that the word reaches, if it isn't empty
  pub record Reached (v : ℕ) : Type 0 where
    pub is : reached_by (graph_of f) word ≡ Ok (Some v)
    pub shows : Shows word (length word) v 0 f
    pub none : NoneFrom v (size f)

  from_stands : (end : Option ℕ) → 0 < length word → reached_by (graph_of f) word ≡ Ok end → Stands f word (length word) end → (v : ℕ) × Reached v
  from_stands None some is h = absurd (omega (arith, h))
  from_stands (Some v) some is h = (v, record { is = is; shows = h.1; none = h.2 })

  pub vector_after : 0 < length word → (v : ℕ) × Reached v
  vector_after some = from_stands reached_stands.0 some reached_stands.1 reached_stands.2

-- ---- all subformulas

pub subformulas_size : (f : Formula Letter) → length (subformulas f) ≡ size f
subformulas_size (event e) = refl
subformulas_size (constant b) = refl
subformulas_size (unary op f) = length-append (subformulas f) (unary op f ∷ []) ∙ omega (arith, subformulas_size f) ∙ sym (length-append (postfix f) (Prefix op ∷ []))
subformulas_size (binary op f g) =
    length-append (subformulas f) (subformulas g ++ binary op f g ∷ [])
    ∙ omega (arith, subformulas_size f, subformulas_size g, length-append (subformulas g) (binary op f g ∷ []), length-append (postfix g) (Infix op (size g) ∷ []))
    ∙ sym (length-append (postfix f) (postfix g ++ Infix op (size g) ∷ []))

each_shown : (word : List ℕ) (n v i : ℕ) (f : Formula Letter) (k : ℕ) (g : Formula Letter) → Shows word n v i f → slice_get (subformulas f) k ≡ Some g → Decides (has_bit v (i + k)) (Holds g word n)
each_shown word n v i (event e) k g h at = let p = only_one (event e) g k at in subst (λ x. Decides (has_bit v (i + k)) (Holds x word n)) p.1 (subst (λ j. Decides (has_bit v j) (Holds (event e) word n)) (omega (arith, p.0)) h)
each_shown word n v i (constant b) k g h at = let p = only_one (constant b) g k at in subst (λ x. Decides (has_bit v (i + k)) (Holds x word n)) p.1 (subst (λ j. Decides (has_bit v j) (Holds (constant b) word n)) (omega (arith, p.0)) h)
each_shown word n v i (unary op f) k g h at = elim (at_cases (subformulas f) (unary op f ∷ []) k g at) [
  | inl first ↦ each_shown word n v i f k g h.0 first.1
  | inr second ↦ let p = only_one (unary op f) g second.0 second.2 in
      subst (λ x. Decides (has_bit v (i + k)) (Holds x word n)) p.1 (subst (λ j. Decides (has_bit v j) (Holds (unary op f) word n)) (omega (arith, p.0, second.1, subformulas_size f)) h.1)
]
each_shown word n v i (binary op f g') k g h at = elim (at_cases (subformulas f) (subformulas g' ++ binary op f g' ∷ []) k g at) [
  | inl first ↦ each_shown word n v i f k g h.0 first.1
  | inr second ↦ elim (at_cases (subformulas g') (binary op f g' ∷ []) second.0 g second.2) [
    | inl inside ↦ subst (λ j. Decides (has_bit v j) (Holds g word n)) (omega (arith, second.1, subformulas_size f)) (each_shown word n v (i + size f) g' second.0 g h.1 inside.1)
    | inr last ↦ let p = only_one (binary op f g') g last.0 last.2 in
        subst (λ x. Decides (has_bit v (i + k)) (Holds x word n)) p.1 (subst (λ j. Decides (has_bit v j) (Holds (binary op f g') word n)) (omega (arith, p.0, second.1, last.1, subformulas_size f, subformulas_size g')) h.2)
  ]
]

set_where : (v k : ℕ) (P : Type 0) → Decides (has_bit v k) P → IsBitSet v k ↔ P
set_where v k P d = let b = bit_decides v k in (λ h. d.0 (b.1 h), λ h. b.0 (d.1 h))

-- the vector that a word reaches has the truth of all subformulas
pub is_vector : (f : Formula Letter) (few : size f ≤ 64) (word : List ℕ) (v : ℕ) → Reached f few word v → IsVector f word v
is_vector f few word v r k = elim (slice_get_cases (subformulas f) k).1 [
  | inl here ↦
      let at = holds_at (λ g. HoldsLast g word) (slice_get (subformulas f) k) here.0 here.2 in
      let shown : Decides (has_bit v (0 + k)) (HoldsLast here.0 word) = each_shown word (length word) v 0 f k here.0 r.shows here.2 in
      let is = set_where v k (HoldsLast here.0 word) (subst (λ j. Decides (has_bit v j) (HoldsLast here.0 word)) (omega arith) shown) in
      (λ h. at.1 (is.0 h), λ h. is.1 (at.0 h))
  | inr past ↦ (
    λ h. let set = (bit_decides v k).1 h in let none = r.none k (omega (arith, past.0, subformulas_size f)) in absurd (cc),
    λ h. absurd (holds_nowhere (λ g. HoldsLast g word) (slice_get (subformulas f) k) past.1 h),
  )
]

-- ---- the groups

module _ (f : Formula Letter) (few : size f ≤ 64) (root : ℕ) (last : root + 1 ≡ size f) (nodes : List (Option ℕ)) (before mid after : Transitions) (follows : Follows (graph_of f) before nodes) (none : before.groups ≡ []) (valid : HasGroup root true nodes before mid) (invalid : HasGroup root false nodes mid after) where
  groups_are : after.groups ≡ valid.members ∷ invalid.members ∷ []
  groups_are =
      ap (λ (t : Transitions). t.groups) invalid.added ∙ ap (λ (t : Transitions). t.groups ++ invalid.members ∷ []) valid.added ∙ ap (λ (l : List (List ℕ)). (l ++ valid.members ∷ []) ++ invalid.members ∷ []) none

  next_are : after.next ≡ before.next
  next_are = ap (λ (t : Transitions). t.next) invalid.added ∙ ap (λ (t : Transitions). t.next) valid.added

  letters_are : after.letters ≡ before.letters
  letters_are = ap (λ (t : Transitions). t.letters) invalid.added ∙ ap (λ (t : Transitions). t.letters) valid.added

  same_state : (word : List ℕ) → state_after_of after word ≡ state_after_of before word
  same_state word = rw (letters_are, next_are) refl

  at_state : (word : List ℕ) (d : Option ℕ) → IsWord after word → reached_by (graph_of f) word ≡ Ok d → slice_get nodes (state_after_of after word) ≡ Some d
  at_state word d below is =
      let s = follows.stands word (subst (λ n. All (λ letter. letter < n) word) letters_are below) in
      let e : ◌≡◌ {A = Result (Option ℕ) SpecFault} (Ok s.0) (Ok d) = sym s.1 ∙ is in
      let end : s.0 ≡ d = cc in
      ap (λ k. slice_get nodes k) (same_state word) ∙ s.2 ∙ ap (λ x. Some x) end

  in_first : (state : ℕ) → IsInGroup after state 0 ↔ IsSomeAnd (slice_get nodes state) (Says root true)
  in_first state = subst (λ (l : List (List ℕ)). IsSomeAnd (slice_get l 0) (λ states. Contains states state) ↔ IsSomeAnd (slice_get nodes state) (Says root true)) (sym groups_are) (valid.each state)

  in_second : (state : ℕ) → IsInGroup after state 1 ↔ IsSomeAnd (slice_get nodes state) (Says root false)
  in_second state = subst (λ (l : List (List ℕ)). IsSomeAnd (slice_get l 1) (λ states. Contains states state) ↔ IsSomeAnd (slice_get nodes state) (Says root false)) (sym groups_are) (invalid.each state)

  false_where : (b : Bool) (P : Type 0) → Decides b P → (b ≡ false) ↔ (¬ P)
  false_where b P d = (λ h. not_from_Decides b d h, λ h. elim (cases_Bool b) [ inl t ↦ absurd (h (d.0 t)) | inr e ↦ e ])

  no_group : (group : ℕ) → slice_get nodes 0 ≡ Some None → IsInGroup after 0 group → ⊥
  no_group zero at h = (holds_at (Says root true) (slice_get nodes 0) None at).0 ((in_first 0).0 h)
  no_group (suc zero) at h = (holds_at (Says root false) (slice_get nodes 0) None at).0 ((in_second 0).0 h)
  no_group (suc (suc group)) at h = holds_nowhere (λ states. Contains states 0) (slice_get after.groups (suc (suc group))) (ap (λ (l : List (List ℕ)). slice_get l (suc (suc group))) groups_are) h

  pub is_compiled : IsCompiled f after
  is_compiled = record {
    validation = λ word below some.
        let v = vector_after f few word some in
        let at = holds_at (Says root true) (slice_get nodes (state_after_of after word)) (Some v.0) (at_state word (Some v.0) below v.1.is) in
        let d = shows_root word (length word) v.0 0 f root (omega (arith, last)) v.1.shows in
        let group = in_first (state_after_of after word) in
        (λ h. d.0 (at.0 (group.0 h)), λ h. group.1 (at.1 (d.1 h)));
    violation = λ word below some.
        let v = vector_after f few word some in
        let at = holds_at (Says root false) (slice_get nodes (state_after_of after word)) (Some v.0) (at_state word (Some v.0) below v.1.is) in
        let d = false_where (has_bit v.0 root) (HoldsLast f word) (shows_root word (length word) v.0 0 f root (omega (arith, last)) v.1.shows) in
        let group = in_second (state_after_of after word) in
        (λ h. d.0 (at.0 (group.0 h)), λ h. group.1 (at.1 (d.1 h)));
    start = λ group h. no_group group (at_state [] None (λ k d lt. absurd (omega (arith, lt))) refl) h;
  }

pub map_same : {X : Type 0} (xs : List X) → map (λ x. x) xs ≡ xs
map_same [] = refl
map_same (x ∷ xs) = ap (λ l. x ∷ l) (map_same xs)
