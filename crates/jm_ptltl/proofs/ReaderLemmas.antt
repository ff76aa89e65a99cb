-- What the reader's functions add to the nodes of a formula.
use Rattle.std.proofs.Common.{ℕ, zero, suc, ◌≡◌, ◌<◌, ◌≤◌, ◌+◌, ◌-◌, inl, inr, Bool, true, false, cond, eqb, List, [], ◌∷◌, ◌++◌, Option, Some, None, Result, Ok, Err, OnOk, IfErr, length, get_or, drop, refl, sym, ap, subst, ◌∙◌, arith, append_assoc, length-append}
use Rattle.std.proofs.lemmas.Bool.Decides.{eqb_tells}
use Rattle.jm_model.specs.declared.fault.SpecError.{SpecError}
use Rattle.jm_model.specs.declared.fault.SpecError.TheVariants.{Bad, NoMemory}
use Rattle.jm_model.specs.declared.fault.SpecFault.TheVariants.{Syntax}
use Rattle.jm_text.specs.declared.token.Token.{Token}
use Rattle.jm_reading.specs.Reading.{◌>>=◌}
use Rattle.jm_reading.specs.Answers.{FailsAt, IsSyntax}
use Rattle.jm_reading.proofs.LoopLemmas.{ItemsLeft, items_begin, items_more, items_end, items_fail, fails_too}
use Rattle.jm_ptltl.specs.declared.formula.Unary.{Unary}
use Rattle.jm_ptltl.specs.declared.formula.Node.{Node}
use Rattle.jm_ptltl.specs.declared.formula.Node.TheVariants as node
use Rattle.jm_ptltl.specs.declared.lexicon.Class.{Class}
use Rattle.jm_ptltl.specs.declared.lexicon.Class.TheVariants.{Prefix, Infix, Constant, Name, Open, Close, Other}
use Rattle.jm_ptltl.specs.Formulas.{Formula, event, constant, postfix}
use Rattle.jm_ptltl.specs.Lexicon.{class_of}
use Rattle.jm_ptltl.specs.Answers.{AddsNodes, Adds, AddsBy}
use Rattle.jm_ptltl.specs.Rules.{Read, Chain, class_at, begins, closed_at, atom_by, atom_at, over, operand_by, operand_at, join_at, more_at, grouped, skip_at, imply_at, group, implied_at, part_at, inside_at, formula_from, at_end, formula_at}
use Rattle.jm_ptltl.proofs.NodeLemmas.{behind_all, closing, postfix_all, ends_of, unary_all, postfix-unary_all, postfix-grouped, postfix_all-push, ends_of-push}

-- ---- operators of one part

abbrev pub is_prefix : Class → Bool
is_prefix (Prefix op) = true
is_prefix _ = false

-- operators over what was read
abbrev pub over_all : List Unary → Option Read → Option Read
over_all [] read = read
over_all (op ∷ ops) read = over op (over_all ops read)

pub prefix_more : (bytes : List ℕ) (rest : List Token) (op : Unary) (inner : List Token → Option Read) → class_at bytes rest ≡ Prefix op → operand_at bytes inner rest ≡ over op (operand_at bytes inner (drop 1 rest))
prefix_more bytes [] op inner h = absurd (cc)
prefix_more bytes (t ∷ ts) op inner h = rw h refl

pub over_all-push : (ops : List Unary) (op : Unary) (read : Option Read) → over_all (ops ++ op ∷ []) read ≡ over_all ops (over op read)
over_all-push [] op read = refl
over_all-push (o ∷ ops) op read = ap (λ r. over o r) (over_all-push ops op read)

pub drop_within : (rest : List Token) → length (drop 1 rest) ≤ length rest
drop_within [] = omega arith
drop_within (t ∷ ts) = omega arith

over_all_some : (ops : List Unary) (f : Formula Token) (left : List Token) → over_all ops (Some (f, left)) ≡ Some (unary_all ops f, left)
over_all_some [] f left = refl
over_all_some (op ∷ ops) f left = ap (λ r. over op r) (over_all_some ops f left)

over_all_none : (ops : List Unary) → over_all ops None ≡ None
over_all_none [] = refl
over_all_none (op ∷ ops) = ap (λ r. over op r) (over_all_none ops)

pub other_than_prefix : (c : Class) → ((op : Unary) → c ≡ Prefix op → ⊥) → is_prefix c ≡ false
other_than_prefix (Prefix op) h = absurd (h op refl)
other_than_prefix (Infix op) h = refl
other_than_prefix (Constant b) h = refl
other_than_prefix Name h = refl
other_than_prefix Open h = refl
other_than_prefix Close h = refl
other_than_prefix Other h = refl

-- where no operator of one part stands, an atom is read
no_prefix : (c : Class) (behind here : Option Read) → is_prefix c ≡ false → operand_by c behind here ≡ here
no_prefix (Prefix op) behind here h = absurd (cc)
no_prefix (Infix op) behind here h = refl
no_prefix (Constant b) behind here h = refl
no_prefix Name behind here h = refl
no_prefix Open behind here h = refl
no_prefix Close behind here h = refl
no_prefix Other behind here h = refl

atom_here : (bytes : List ℕ) (inner : List Token → Option Read) (rest : List Token) → is_prefix (class_at bytes rest) ≡ false → operand_at bytes inner rest ≡ atom_at bytes inner rest
unfolding atom_at
atom_here bytes inner [] h = refl
atom_here bytes inner (t ∷ ts) h = no_prefix (class_of bytes t) _ _ h

-- operators, and the atom after them
module _ (bytes : List ℕ) (inner : List Token → Option Read) (start rest : List Token) (ops : List Unary) (reads : operand_at bytes inner start ≡ over_all ops (operand_at bytes inner rest)) (end : is_prefix (class_at bytes rest) ≡ false) where
  pub operand_adds : (before nodes after : List (Node Token)) (left : List Token) → AddsNodes before nodes left (atom_at bytes inner rest) → after ≡ nodes ++ behind_all ops → AddsNodes before after left (operand_at bytes inner start)
  operand_adds before nodes after left h e = (
    unary_all ops h.0,
    reads ∙ ap (λ r. over_all ops r) (atom_here bytes inner rest end ∙ h.1) ∙ over_all_some ops h.0 left,
    e ∙ ap (λ l. l ++ behind_all ops) h.2 ∙ append_assoc before (postfix h.0) (behind_all ops) ∙ ap (λ l. before ++ l) (sym (postfix-unary_all ops h.0)),
  )

  pub operand_fails : (e : SpecError) → FailsAt e (atom_at bytes inner rest) → FailsAt e (operand_at bytes inner start)
  operand_fails e h = fails_too e _ _ h (λ none. reads ∙ ap (λ r. over_all ops r) (atom_here bytes inner rest end ∙ none) ∙ over_all_none ops)

-- ---- atoms

module _ (bytes : List ℕ) (t : Token) (ts : List Token) where
  pub atom_named : (inner : List Token → Option Read) (nodes : List (Node Token)) → class_of bytes t ≡ Name → AddsNodes nodes (nodes ++ node.Event t ∷ []) ts (atom_at bytes inner (t ∷ ts))
  unfolding atom_at
  atom_named inner nodes h = (event t, rw h refl, refl)

  pub atom_truth : (inner : List Token → Option Read) (nodes : List (Node Token)) (b : Bool) → class_of bytes t ≡ Constant b → AddsNodes nodes (nodes ++ node.Constant b ∷ []) ts (atom_at bytes inner (t ∷ ts))
  unfolding atom_at
  atom_truth inner nodes b h = (constant b, rw h refl, refl)

  atom_open : (n : ℕ) → class_of bytes t ≡ Open → atom_at bytes (formula_from bytes (suc n)) (t ∷ ts) ≡ inside_at bytes (formula_from bytes n) ts
  unfolding atom_at formula_from
  atom_open n h = rw h refl

  pub atom_nested : {X : Type 0} (r : Result X SpecError) (before after : List (Node Token)) (left : List Token) → class_of bytes t ≡ Open → AddsBy bytes (λ inner. inside_at bytes inner) r before after ts left → AddsBy bytes (λ inner. atom_at bytes inner) r before after (t ∷ ts) left
  atom_nested r before after left h inside zero few = absurd (omega (arith, few))
  atom_nested r before after left h inside (suc n) few = subst (λ read. Adds r before after left read) (sym (atom_open n h)) (inside n (omega (arith, few)))

  other_class : (c : Class) (inside : Option Read) → (c ≡ Name → ⊥) → ((b : Bool) → c ≡ Constant b → ⊥) → (c ≡ Open → ⊥) → atom_by c t inside ts ≡ None
  other_class (Prefix op) inside name truth opens = refl
  other_class (Infix op) inside name truth opens = refl
  other_class (Constant b) inside name truth opens = absurd (truth b refl)
  other_class Name inside name truth opens = absurd (name refl)
  other_class Open inside name truth opens = absurd (opens refl)
  other_class Close inside name truth opens = refl
  other_class Other inside name truth opens = refl

  pub atom_none : (inner : List Token → Option Read) → (class_of bytes t ≡ Name → ⊥) → ((b : Bool) → class_of bytes t ≡ Constant b → ⊥) → (class_of bytes t ≡ Open → ⊥) → atom_at bytes inner (t ∷ ts) ≡ None
  unfolding atom_at
  atom_none inner name truth opens = other_class (class_of bytes t) _ name truth opens

pub atom_end : (bytes : List ℕ) (inner : List Token → Option Read) → atom_at bytes inner [] ≡ None
unfolding atom_at
atom_end bytes inner = refl

pub fails_at_syntax : {X : Type 0} (e : SpecError) (read : Option X) → IsSyntax e → read ≡ None → FailsAt e read
fails_at_syntax NoMemory read is none = absurd is
fails_at_syntax (Bad (Syntax line)) read is none = none
fails_at_syntax (Bad _) read is none = absurd is

-- ---- a formula in parentheses

closed_is : (bytes : List ℕ) (rest : List Token) (f : Formula Token) → class_at bytes rest ≡ Close → closed_at bytes f rest ≡ Some (f, drop 1 rest)
closed_is bytes [] f h = absurd (cc)
closed_is bytes (t ∷ ts) f h = rw h refl

module _ (bytes : List ℕ) (inner : List Token → Option Read) (start rest : List Token) where
  pub inside_adds : (before after : List (Node Token)) → AddsNodes before after rest (part_at bytes inner 6 start) → class_at bytes rest ≡ Close → AddsNodes before after (drop 1 rest) (inside_at bytes inner start)
  inside_adds before after h close = (h.0, ap (λ r. r >>= λ x. closed_at bytes x.0 x.1) h.1 ∙ closed_is bytes rest h.0 close, h.2)

-- ---- operators of a rank, to the left

-- the formula so far, after these nodes
pub record JoinsLeft (bytes : List ℕ) (n k : ℕ) (start : List Token) (before : List (Node Token)) (rest : List Token) (nodes : List (Node Token)) : Type 0 where
  pub first : Formula Token
  pub behind : List Token
  pub read : part_at bytes (formula_from bytes n) k start ≡ Some (first, behind)
  pub so_far : Formula Token
  pub left : ItemsLeft (begins bytes (suc k)) (join_at bytes (part_at bytes (formula_from bytes n) k)) first behind so_far rest
  pub nodes_are : nodes ≡ before ++ postfix so_far

module _ (bytes : List ℕ) (n k : ℕ) (start : List Token) (before : List (Node Token)) where
  pub joins_begin : (rest : List Token) (nodes : List (Node Token)) → AddsNodes before nodes rest (part_at bytes (formula_from bytes n) k start) → JoinsLeft bytes n k start before rest nodes
  joins_begin rest nodes h = record { first = h.0; behind = rest; read = h.1; so_far = h.0; left = items_begin h.0 rest; nodes_are = h.2 }

  pub joins_more : (rest left : List Token) (nodes after : List (Node Token)) (s : JoinsLeft bytes n k start before rest nodes) → begins bytes (suc k) rest ≡ true → AddsNodes before after left (join_at bytes (part_at bytes (formula_from bytes n) k) s.so_far rest) → length left < length rest
      → JoinsLeft bytes n k start before left after
  joins_more rest left nodes after s goes h less = record {
    first = s.first;
    behind = s.behind;
    read = s.read;
    so_far = h.0;
    left = items_more s.first s.behind s.so_far h.0 rest left s.left goes h.1 less;
    nodes_are = h.2;
  }

  whole_is : (first : Formula Token) (behind : List Token) (b : Bool) → b ≡ false → part_at bytes (formula_from bytes n) k start ≡ Some (first, behind)
      → (part_at bytes (formula_from bytes n) k start >>= λ r. cond b (implied_at bytes (part_at bytes (formula_from bytes n) k) r.0 r.1) (more_at bytes (part_at bytes (formula_from bytes n) k) (suc k) r.0 r.1)) ≡ more_at bytes (part_at bytes (formula_from bytes n) k) (suc k) first behind
  whole_is first behind b other read = rw (read, other) refl

  pub joins_end : (rest : List Token) (nodes : List (Node Token)) → eqb k 4 ≡ false → JoinsLeft bytes n k start before rest nodes → begins bytes (suc k) rest ≡ false → AddsNodes before nodes rest (part_at bytes (formula_from bytes n) (suc k) start)
  joins_end rest nodes other s stops = (s.so_far, whole_is s.first s.behind (eqb k 4) other s.read ∙ items_end s.first s.behind s.so_far rest s.left stops, s.nodes_are)

  pub joins_fail : (rest : List Token) (nodes : List (Node Token)) (e : SpecError) → eqb k 4 ≡ false → (s : JoinsLeft bytes n k start before rest nodes) → begins bytes (suc k) rest ≡ true → FailsAt e (join_at bytes (part_at bytes (formula_from bytes n) k) s.so_far rest)
      → FailsAt e (part_at bytes (formula_from bytes n) (suc k) start)
  joins_fail rest nodes e other s goes h = fails_too e _ _ h (λ none. whole_is s.first s.behind (eqb k 4) other s.read ∙ items_fail s.first s.behind s.so_far rest s.left goes none)

-- ---- `=>`, to the right

-- the formulas so far, after these nodes
pub record ChainLeft (bytes : List ℕ) (n : ℕ) (start : List Token) (before : List (Node Token)) (rest : List Token) (nodes : List (Node Token)) (starts : List ℕ) : Type 0 where
  pub first : Formula Token
  pub behind : List Token
  pub read : part_at bytes (formula_from bytes n) 4 start ≡ Some (first, behind)
  pub chain : Chain
  pub left : ItemsLeft (begins bytes 5) (imply_at (part_at bytes (formula_from bytes n) 4)) ([], first) behind chain rest
  pub nodes_are : nodes ≡ before ++ (postfix_all chain.0 ++ postfix chain.1)
  pub starts_are : starts ≡ ends_of (length before) chain.0

module _ (bytes : List ℕ) (n : ℕ) (start : List Token) (before : List (Node Token)) where
  pub chain_begin : (rest : List Token) (nodes : List (Node Token)) (starts : List ℕ) → starts ≡ [] → AddsNodes before nodes rest (part_at bytes (formula_from bytes n) 4 start) → ChainLeft bytes n start before rest nodes starts
  chain_begin rest nodes starts none h = record { first = h.0; behind = rest; read = h.1; chain = ([], h.0); left = items_begin ([], h.0) rest; nodes_are = h.2; starts_are = none }

  pub chain_more : (rest left : List Token) (nodes after : List (Node Token)) (starts more : List ℕ) (s : ChainLeft bytes n start before rest nodes starts) → begins bytes 5 rest ≡ true → AddsNodes nodes after left (skip_at (part_at bytes (formula_from bytes n) 4) rest) → length left < length rest
      → more ≡ starts ++ length nodes ∷ [] → ChainLeft bytes n start before left after more
  chain_more rest left nodes after starts more s goes h less e =
      let fs = s.chain.0 in
      let f = s.chain.1 in
      let g = h.0 in
      let imply : imply_at (part_at bytes (formula_from bytes n) 4) s.chain rest ≡ Some ((fs ++ f ∷ [], g), left) = ap (λ r. r >>= λ x. Some ((fs ++ f ∷ [], x.0), x.1)) h.1 in
      let size : length nodes ≡ length before + length (postfix_all fs) + length (postfix f) = omega (arith, ap (λ l. length l) s.nodes_are, length-append before (postfix_all fs ++ postfix f), length-append (postfix_all fs) (postfix f)) in
      record {
        first = s.first;
        behind = s.behind;
        read = s.read;
        chain = (fs ++ f ∷ [], g);
        left = items_more ([], s.first) s.behind s.chain (fs ++ f ∷ [], g) rest left s.left goes imply less;
        nodes_are = h.2 ∙ ap (λ l. l ++ postfix g) s.nodes_are ∙ append_assoc before (postfix_all fs ++ postfix f) (postfix g) ∙ ap (λ l. before ++ (l ++ postfix g)) (sym (postfix_all-push fs f));
        starts_are = e ∙ ap (λ l. l ++ length nodes ∷ []) s.starts_are ∙ ap (λ j. ends_of (length before) fs ++ j ∷ []) size ∙ sym (ends_of-push (length before) fs f);
      }

  pub chain_end : (rest : List Token) (nodes after : List (Node Token)) (starts : List ℕ) → (s : ChainLeft bytes n start before rest nodes starts) → begins bytes 5 rest ≡ false → after ≡ nodes ++ closing starts (length nodes) → AddsNodes before after rest (part_at bytes (formula_from bytes n) 5 start)
  chain_end rest nodes after starts s stops e =
      let fs = s.chain.0 in
      let f = s.chain.1 in
      let all = postfix_all fs ++ postfix f in
      let size : length nodes ≡ length before + length (postfix_all fs) + length (postfix f) = omega (arith, ap (λ l. length l) s.nodes_are, length-append before all, length-append (postfix_all fs) (postfix f)) in (
        grouped fs f,
        ap (λ r. r >>= λ x. implied_at bytes (part_at bytes (formula_from bytes n) 4) x.0 x.1) s.read ∙ ap group (items_end ([], s.first) s.behind s.chain rest s.left stops),
        e
            ∙ ap (λ l. l ++ closing starts (length nodes)) s.nodes_are
            ∙ append_assoc before all (closing starts (length nodes))
            ∙ ap (λ l. before ++ (all ++ closing l (length nodes))) s.starts_are
            ∙ ap (λ l. before ++ l) (sym (postfix-grouped fs f (length before) (length nodes) size)),
      )

  pub chain_fail : (rest : List Token) (nodes : List (Node Token)) (starts : List ℕ) (e : SpecError) → (s : ChainLeft bytes n start before rest nodes starts) → begins bytes 5 rest ≡ true → FailsAt e (skip_at (part_at bytes (formula_from bytes n) 4) rest) → FailsAt e (part_at bytes (formula_from bytes n) 5 start)
  chain_fail rest nodes starts e s goes h =
      fails_too e _ _ h (λ none. let imply : imply_at (part_at bytes (formula_from bytes n) 4) s.chain rest ≡ None = ap (λ r. r >>= λ x. Some ((s.chain.0 ++ s.chain.1 ∷ [], x.0), x.1)) none in
      ap (λ r. r >>= λ x. implied_at bytes (part_at bytes (formula_from bytes n) 4) x.0 x.1) s.read ∙ ap group (items_fail ([], s.first) s.behind s.chain rest s.left goes imply))

-- ---- all tokens

pub gives_all : (bytes : List ℕ) (tokens rest : List Token) (nodes after : List (Node Token)) → nodes ≡ [] → length rest < 1 → AddsNodes nodes after rest (part_at bytes (formula_from bytes (length tokens)) 6 tokens) → (f : Formula Token) × (formula_at bytes tokens ≡ Some f) × (after ≡ postfix f)
gives_all bytes tokens [] nodes after none end h = (h.0, ap (λ r. r >>= at_end) h.1, h.2 ∙ ap (λ l. l ++ postfix h.0) none)
gives_all bytes tokens (t ∷ ts) nodes after none end h = absurd (omega (arith, end))

-- ---- calls

-- a call that adds nodes after those of a formula, or lacks memory
pub adds_more : {X : Type 0} (r : Result X SpecError) (before after target : List (Node Token)) (left here : List Token) (read : Option Read) → OnOk r (after ≡ target) → IfErr r (λ e. e ≡ NoMemory) → AddsNodes before target left read → here ≡ left → Adds r before after here read
adds_more (Ok x) before after target left here read ok err h e = (h.0, h.1 ∙ ap (λ l. Some (h.0, l)) (sym e), ok ∙ h.2)
adds_more (Err e) before after target left here read ok err h same = subst (λ x. FailsAt x read) (sym err) tt

-- the same bytes all along
module _ (rule : List ℕ → (List Token → Option Read) → List Token → Option Read) (here bytes : List ℕ) (same : here ≡ bytes) where
  pub nodes_at : (before after : List (Node Token)) (tokens left : List Token) → ((n : ℕ) → length tokens ≤ n → AddsNodes before after left (rule here (formula_from here n) tokens)) → (n : ℕ) → length tokens ≤ n → AddsNodes before after left (rule bytes (formula_from bytes n) tokens)
  nodes_at before after tokens left h = subst (λ b. (n : ℕ) → length tokens ≤ n → AddsNodes before after left (rule b (formula_from b n) tokens)) same h

  pub fail_at : (e : SpecError) (tokens : List Token) → ((n : ℕ) → length tokens ≤ n → FailsAt e (rule here (formula_from here n) tokens)) → (n : ℕ) → length tokens ≤ n → FailsAt e (rule bytes (formula_from bytes n) tokens)
  fail_at e tokens h = subst (λ b. (n : ℕ) → length tokens ≤ n → FailsAt e (rule b (formula_from b n) tokens)) same h

  pub by_at : {X : Type 0} (r : Result X SpecError) (before after : List (Node Token)) (tokens left : List Token) → AddsBy here (rule here) r before after tokens left → AddsBy bytes (rule bytes) r before after tokens left
  by_at r before after tokens left h = subst (λ b. AddsBy b (rule b) r before after tokens left) same h

-- no formula begins at the end
part_end : (bytes : List ℕ) (inner : List Token → Option Read) (k : ℕ) → part_at bytes inner k [] ≡ None
part_end bytes inner zero = refl
part_end bytes inner (suc k) = rw (part_end bytes inner k) refl

pub skip_adds : (bytes : List ℕ) (k : ℕ) {X : Type 0} (r : Result X SpecError) (before after : List (Node Token)) (tokens left : List Token) → AddsBy bytes (λ inner. part_at bytes inner k) r before after (drop 1 tokens) left → AddsBy bytes (λ inner. skip_at (part_at bytes inner k)) r before after tokens left
skip_adds bytes k r before after [] left h n few = subst (λ read. Adds r before after left read) (part_end bytes (formula_from bytes n) k) (h n few)
skip_adds bytes k r before after (t ∷ ts) left h n few = h n (omega (arith, few))

-- a formula after a token that is skipped
pub after_skip : (bytes here : List ℕ) (k : ℕ) (same : here ≡ bytes) {X : Type 0} (r : Result X SpecError) (before after : List (Node Token)) (tokens skipped left : List Token) → skipped ≡ drop 1 tokens → AddsBy here (λ inner. part_at here inner k) r before after skipped left → AddsBy bytes (λ inner. skip_at (part_at bytes inner k)) r before after tokens left
after_skip bytes here k same r before after tokens skipped left cut h =
    skip_adds bytes k r before after tokens left
    (subst (λ (l : List Token). AddsBy bytes (λ inner. part_at bytes inner k) r before after l left) cut (by_at (λ b inner. part_at b inner k) here bytes same r before after skipped left h))

pub not_four : (rank : ℕ) → (rank ≡ 5 → ⊥) → 0 < rank → eqb (rank - 1) 4 ≡ false
not_four rank other some = elim (eqb_tells (rank - 1) 4) [ inl same ↦ absurd (other (omega (arith, same.1, some))) | inr differs ↦ differs.0 ]

-- an atom, whose token is at the front
pub named_at : (bytes : List ℕ) (rest : List Token) (d : Token) (inner : List Token → Option Read) (nodes : List (Node Token)) → 1 ≤ length rest → class_of bytes (get_or rest 0 d) ≡ Name → AddsNodes nodes (nodes ++ node.Event (get_or rest 0 d) ∷ []) (drop 1 rest) (atom_at bytes inner rest)
named_at bytes [] d inner nodes some h = absurd (omega (arith, some))
named_at bytes (t ∷ ts) d inner nodes some h = atom_named bytes t ts inner nodes h

pub truth_at : (bytes : List ℕ) (rest : List Token) (d : Token) (inner : List Token → Option Read) (nodes : List (Node Token)) (b : Bool) → 1 ≤ length rest → class_of bytes (get_or rest 0 d) ≡ Constant b → AddsNodes nodes (nodes ++ node.Constant b ∷ []) (drop 1 rest) (atom_at bytes inner rest)
truth_at bytes [] d inner nodes b some h = absurd (omega (arith, some))
truth_at bytes (t ∷ ts) d inner nodes b some h = atom_truth bytes t ts inner nodes b h

pub open_at : (bytes : List ℕ) (rest : List Token) (d : Token) {X : Type 0} (r : Result X SpecError) (before after : List (Node Token)) (left : List Token) → 1 ≤ length rest → class_of bytes (get_or rest 0 d) ≡ Open → AddsBy bytes (λ inner. inside_at bytes inner) r before after (drop 1 rest) left → AddsBy bytes (λ inner. atom_at bytes inner) r before after rest left
open_at bytes [] d r before after left some h inside = absurd (omega (arith, some))
open_at bytes (t ∷ ts) d r before after left some h inside = atom_nested bytes t ts r before after left h inside

pub none_at : (bytes : List ℕ) (rest : List Token) (d : Token) (inner : List Token → Option Read) → (class_of bytes (get_or rest 0 d) ≡ Name → ⊥) → ((b : Bool) → class_of bytes (get_or rest 0 d) ≡ Constant b → ⊥) → (class_of bytes (get_or rest 0 d) ≡ Open → ⊥) → atom_at bytes inner rest ≡ None
none_at bytes [] d inner name truth opens = atom_end bytes inner
none_at bytes (t ∷ ts) d inner name truth opens = atom_none bytes t ts inner name truth opens

pub end_at : (bytes : List ℕ) (rest : List Token) (inner : List Token → Option Read) → length rest < 1 → atom_at bytes inner rest ≡ None
end_at bytes [] inner h = atom_end bytes inner
end_at bytes (t ∷ ts) inner h = absurd (omega (arith, h))
