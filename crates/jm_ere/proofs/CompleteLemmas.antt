-- What the grammar spells, the reader reads.
use Rattle.std.proofs.Common.{◌≡◌, ℕ, zero, suc, Bool, true, false, List, [], ◌∷◌, ◌++◌, Some, None, refl, sym, ap, ◌∙◌, append_assoc, append-nil}
use Rattle.std.specs.Prelude.{option_and_then}
use Rattle.jm_text.specs.declared.token.Token.{Token}
use Rattle.jm_ere.specs.declared.formula.Atom.{Atom}
use Rattle.jm_ere.specs.declared.formula.Atom.TheVariants.{Name, Epsilon, Empty}
use Rattle.jm_ere.specs.declared.formula.Unary.TheVariants.{Not, Any, Many}
use Rattle.jm_ere.specs.declared.formula.Binary.TheVariants.{Then, Either, Both}
use Rattle.jm_ere.specs.declared.formula.Node.{Node}
use Rattle.jm_ere.specs.declared.formula.Node.TheVariants.{Push, Wrap, Join}
use Rattle.jm_ere.specs.declared.parse.Lexeme.{Lexeme}
use Rattle.jm_ere.specs.declared.parse.Lexeme.TheVariants.{Operand, Opening, Closing, Tilde, Asterisk, PlusSign, Bar, Ampersand, Other}
use Rattle.jm_ere.specs.declared.parse.Pending.{Pending}
use Rattle.jm_ere.specs.declared.parse.Parser.{Parser}
use Rattle.jm_ere.specs.Formulas.{Formula, Leaf, Over, Between}
use Rattle.jm_ere.specs.Spelling.{Rule, AltRule, AndRule, SeqRule, NotRule, RepRule, AtomRule, SpellsBy, name, epsilon, empty, inside, one_atom, any, many, one_rep, complement, one_not, sequence, one_seq, both, one_and, either, Spells}
use Rattle.jm_ere.specs.Rules.{lexeme_of, postfix, flag, complements, juxtaposed, after_lexeme, after_all, finished, parsed}
use Rattle.jm_ere.proofs.SignLemmas.{epsilon_sign, empty_sign, name_sign, opening_sign, closing_sign, tilde_sign, star_sign, plus_sign, bar_sign, ampersand_sign}

-- a reader's state by its parts
abbrev pub at : List Node → Bool → Bool → Bool → ℕ → Bool → List Pending → Parser
at nodes e b t n ready outer = record {
  nodes = nodes;
  pending = record { has_either = e; has_both = b; has_then = t; nots = n; ready = ready };
  outer = outer;
}

-- ---- one token, and several

module _ (bytes : List ℕ) where
  pub follow : (p q : Parser) (t : Token) (ts : List Token) (s : Lexeme) → lexeme_of bytes t ≡ s → after_lexeme p s ≡ Some q → after_all bytes p (t ∷ ts) ≡ after_all bytes q ts
  follow p q t ts s h k = ap (λ (x : Lexeme). option_and_then (λ next. after_all bytes next ts) (after_lexeme p x)) h ∙ ap (option_and_then (λ next. after_all bytes next ts)) k

  pub after_append : (front behind : List Token) (p : Parser) → after_all bytes p (front ++ behind) ≡ option_and_then (λ q. after_all bytes q behind) (after_all bytes p front)
  after_append [] behind p = refl
  after_append (t ∷ ts) behind p =
      elim (after_lexeme p (lexeme_of bytes t)) as (λ o. option_and_then (λ q. after_all bytes q (ts ++ behind)) o ≡ option_and_then (λ r. after_all bytes r behind) (option_and_then (λ q. after_all bytes q ts) o)) [
        | None ↦ refl
        | Some q ↦ after_append ts behind q
      ]

  pub went : (front behind : List Token) (p q : Parser) → after_all bytes p front ≡ Some q → after_all bytes p (front ++ behind) ≡ after_all bytes q behind
  went front behind p q h = after_append front behind p ∙ ap (option_and_then (λ q. after_all bytes q behind)) h

-- ---- what begins a formula of the inner rules

abbrev Starts : Lexeme → Type 0
Starts (Operand atom) = Unit {0}
Starts Opening = Unit {0}
Starts Tilde = Unit {0}
Starts _ = ⊥

module _ (bytes : List ℕ) where
  record Begins (tokens : List Token) : Type 0 where
    token : Token
    rest : List Token
    sign : Lexeme
    cut : tokens ≡ token ∷ rest
    means : lexeme_of bytes token ≡ sign
    starts : Starts sign

  begins_with : (t : Token) (rest : List Token) (s : Lexeme) → lexeme_of bytes t ≡ s → Starts s → Begins (t ∷ rest)
  begins_with t rest s h k = record { token = t; rest = rest; sign = s; cut = refl; means = h; starts = k }

  begins_longer : (tokens more : List Token) → Begins tokens → Begins (tokens ++ more)
  begins_longer tokens more b = record { token = b.token; rest = b.rest ++ more; sign = b.sign; cut = ap (λ (l : List Token). l ++ more) b.cut; means = b.means; starts = b.starts }

  begins : (r : Rule) (tokens : List Token) (f : Formula) → SpellsBy bytes r tokens f → Begins tokens
  begins _ _ _ (name t n a b) = begins_with t [] (Operand (Name t)) (name_sign bytes t n a b) tt
  begins _ _ _ (epsilon t h) = begins_with t [] (Operand Epsilon) (epsilon_sign bytes t h) tt
  begins _ _ _ (empty t h) = begins_with t [] (Operand Empty) (empty_sign bytes t h) tt
  begins _ _ _ (inside opening tokens closing f h d k) = begins_with opening (tokens ++ closing ∷ []) Opening (opening_sign bytes opening h) tt
  begins _ _ _ (one_atom tokens f d) = begins _ tokens f d
  begins _ _ _ (any tokens star f d h) = begins_longer tokens (star ∷ []) (begins _ tokens f d)
  begins _ _ _ (many tokens plus f d h) = begins_longer tokens (plus ∷ []) (begins _ tokens f d)
  begins _ _ _ (one_rep tokens f d) = begins _ tokens f d
  begins _ _ _ (complement tilde tokens f h d) = begins_with tilde tokens Tilde (tilde_sign bytes tilde h) tt
  begins _ _ _ (one_not tokens f d) = begins _ tokens f d
  begins _ _ _ (sequence front behind f g d k) = begins_longer front behind (begins _ front f d)
  begins _ _ _ (one_seq tokens f d) = begins _ tokens f d
  begins _ _ _ (both front mark behind f g d h k) = begins_longer front (mark ∷ behind) (begins _ front f d)
  begins _ _ _ (one_and tokens f d) = begins _ tokens f d
  begins _ _ _ (either front mark behind f g d h k) = begins_longer front (mark ∷ behind) (begins _ front f d)

  -- where such tokens follow an operand, they are read as after a juxtaposition
  starts_next : (os : List Node) (e b t : Bool) (n : ℕ) (outer : List Pending) (s : Lexeme) → Starts s → after_lexeme (at os e b t n true outer) s ≡ after_lexeme (juxtaposed (at os e b t n true outer)) s
  starts_next os e b t n outer (Operand atom) h = refl
  starts_next os e b t n outer Opening h = refl
  starts_next os e b t n outer Tilde h = refl
  starts_next os e b t n outer Closing h = absurd h
  starts_next os e b t n outer Asterisk h = absurd h
  starts_next os e b t n outer PlusSign h = absurd h
  starts_next os e b t n outer Bar h = absurd h
  starts_next os e b t n outer Ampersand h = absurd h
  starts_next os e b t n outer Other h = absurd h

  next_operand : (os : List Node) (e b t : Bool) (n : ℕ) (outer : List Pending) (tokens : List Token) → Begins tokens → after_all bytes (at os e b t n true outer) tokens ≡ after_all bytes (juxtaposed (at os e b t n true outer)) tokens
  next_operand os e b t n outer tokens h =
      let p = at os e b t n true outer in
      let one : after_lexeme p (lexeme_of bytes h.token) ≡ after_lexeme (juxtaposed p) (lexeme_of bytes h.token) = ap (λ (x : Lexeme). after_lexeme p x) h.means ∙ starts_next os e b t n outer h.sign h.starts ∙ sym (ap (λ (x : Lexeme). after_lexeme (juxtaposed p) x) h.means) in
      ap (λ (l : List Token). after_all bytes p l) h.cut ∙ ap (option_and_then (λ next. after_all bytes next h.rest)) one ∙ sym (ap (λ (l : List Token). after_all bytes (juxtaposed p) l) h.cut)

-- ---- nodes one after the other

pub complements_turn : (n : ℕ) → complements n ++ Wrap Not ∷ [] ≡ Wrap Not ∷ complements n
complements_turn zero = refl
complements_turn (suc n) = ap (λ (l : List Node). l ++ Wrap Not ∷ []) (complements_turn n)

-- `~` and then what follows
turned : (os here : List Node) (n : ℕ) → (os ++ here) ++ (complements n ++ Wrap Not ∷ []) ≡ (os ++ (here ++ Wrap Not ∷ [])) ++ complements n
turned os here n =
    ap (λ (l : List Node). (os ++ here) ++ l) (complements_turn n)
    ∙ sym (append_assoc (os ++ here) (Wrap Not ∷ []) (complements n))
    ∙ ap (λ (l : List Node). l ++ complements n) (append_assoc os here (Wrap Not ∷ []))

joins : (os first front second behind last more : List Node) → first ≡ os ++ front → second ++ more ≡ first ++ behind → second ++ (more ++ last) ≡ os ++ ((front ++ behind) ++ last)
joins os first front second behind last more h k =
    sym (append_assoc second more last)
    ∙ ap (λ (l : List Node). l ++ last) (k ∙ ap (λ (l : List Node). l ++ behind) h ∙ append_assoc os front behind)
    ∙ append_assoc os (front ++ behind) last

no_more : (os here there : List Node) → os ++ here ≡ there → os ++ (here ++ []) ≡ there
no_more os here there h = ap (λ (l : List Node). os ++ l) (append-nil here) ∙ h

-- ---- what each rule spells, is read

module _ (bytes : List ℕ) where
  -- an operand is there
  abbrev ReadsOperand : List Token → Formula → Type 0
  ReadsOperand tokens f =
      (os : List Node) (e b t : Bool) (n : ℕ) (outer : List Pending) → after_all bytes (at os e b t n false outer) tokens ≡ Some (at (os ++ postfix f) e b t n true outer)

  abbrev ReadsNot : List Token → Formula → Type 0
  ReadsNot tokens f =
      (os : List Node) (e b t : Bool) (n : ℕ) (outer : List Pending) → (m : ℕ) × (out : List Node) × (after_all bytes (at os e b t n false outer) tokens ≡ Some (at out e b t m true outer)) × (out ++ complements m ≡ (os ++ postfix f) ++ complements n)

  abbrev ReadsSeq : List Token → Formula → Type 0
  ReadsSeq tokens f =
      (os : List Node) (e b : Bool) (outer : List Pending) → (t : Bool) × (m : ℕ) × (out : List Node) × (after_all bytes (at os e b false 0 false outer) tokens ≡ Some (at out e b t m true outer)) × (out ++ (complements m ++ flag t Then) ≡ os ++ postfix f)

  abbrev ReadsAnd : List Token → Formula → Type 0
  ReadsAnd tokens f =
      (os : List Node) (e : Bool) (outer : List Pending) → (b t : Bool) × (m : ℕ) × (out : List Node) × (after_all bytes (at os e false false 0 false outer) tokens ≡ Some (at out e b t m true outer)) × (out ++ ((complements m ++ flag t Then) ++ flag b Both) ≡ os ++ postfix f)

  abbrev ReadsAlt : List Token → Formula → Type 0
  ReadsAlt tokens f =
      (os : List Node) (outer : List Pending) → (e b t : Bool) × (m : ℕ) × (out : List Node) × (after_all bytes (at os false false false 0 false outer) tokens ≡ Some (at out e b t m true outer)) × (out ++ (((complements m ++ flag t Then) ++ flag b Both) ++ flag e Either) ≡ os ++ postfix f)

  abbrev ReadsBy : Rule → List Token → Formula → Type 0
  ReadsBy AtomRule = ReadsOperand
  ReadsBy RepRule = ReadsOperand
  ReadsBy NotRule = ReadsNot
  ReadsBy SeqRule = ReadsSeq
  ReadsBy AndRule = ReadsAnd
  ReadsBy AltRule = ReadsAlt

  atom_read : (t : Token) (atom : Atom) → lexeme_of bytes t ≡ Operand atom → ReadsOperand (t ∷ []) (Leaf atom)
  atom_read t atom h = λ os e b u n outer. follow bytes (at os e b u n false outer) (at (os ++ Push atom ∷ []) e b u n true outer) t [] (Operand atom) h refl

  inside_read : (opening : Token) (tokens : List Token) (closing : Token) (f : Formula) → lexeme_of bytes opening ≡ Opening → ReadsAlt tokens f → lexeme_of bytes closing ≡ Closing → ReadsOperand (opening ∷ tokens ++ closing ∷ []) f
  inside_read opening tokens closing f h reads k = λ os e b t n outer.
      let held : Pending = record { has_either = e; has_both = b; has_then = t; nots = n; ready = false } in
      let alt = reads os (held ∷ outer) in
      let last : Parser = at alt.4 alt.0 alt.1 alt.2 alt.3 true (held ∷ outer) in
      let end : List Node = alt.4 ++ (((complements alt.3 ++ flag alt.2 Then) ++ flag alt.1 Both) ++ flag alt.0 Either) in
      follow bytes (at os e b t n false outer) (at os false false false 0 false (held ∷ outer)) opening (tokens ++ closing ∷ []) Opening h refl
      ∙ went bytes tokens (closing ∷ []) (at os false false false 0 false (held ∷ outer)) last alt.5
      ∙ follow bytes last (at end e b t n true outer) closing [] Closing k refl
      ∙ ap (λ (l : List Node). Some (at l e b t n true outer)) alt.6

  suffix_read : (tokens : List Token) (mark : Token) (f g : Formula) (s : Lexeme) (node : Node) → ReadsOperand tokens f → lexeme_of bytes mark ≡ s → postfix g ≡ postfix f ++ node ∷ []
      → ((os : List Node) (e b t : Bool) (n : ℕ) (outer : List Pending) → after_lexeme (at os e b t n true outer) s ≡ Some (at (os ++ node ∷ []) e b t n true outer)) → ReadsOperand (tokens ++ mark ∷ []) g
  suffix_read tokens mark f g s node reads h is moves = λ os e b t n outer.
      went bytes tokens (mark ∷ []) (at os e b t n false outer) (at (os ++ postfix f) e b t n true outer) (reads os e b t n outer)
      ∙ follow bytes (at (os ++ postfix f) e b t n true outer) (at ((os ++ postfix f) ++ node ∷ []) e b t n true outer) mark [] s h (moves (os ++ postfix f) e b t n outer)
      ∙ ap (λ (l : List Node). Some (at l e b t n true outer)) (append_assoc os (postfix f) (node ∷ []) ∙ ap (λ (l : List Node). os ++ l) (sym is))

  tilde_read : (tilde : Token) (tokens : List Token) (f : Formula) → lexeme_of bytes tilde ≡ Tilde → ReadsNot tokens f → ReadsNot (tilde ∷ tokens) (Over Not f)
  tilde_read tilde tokens f h reads = λ os e b t n outer.
      let inner = reads os e b t (suc n) outer in (
        inner.0,
        inner.1,
        follow bytes (at os e b t n false outer) (at os e b t (suc n) false outer) tilde tokens Tilde h refl ∙ inner.2,
        inner.3 ∙ turned os (postfix f) n,
      )

  sequence_read : (front behind : List Token) (f g : Formula) → ReadsSeq front f → Begins bytes behind → ReadsNot behind g → ReadsSeq (front ++ behind) (Between Then f g)
  sequence_read front behind f g reads begin more = λ os e b outer.
      let first = reads os e b outer in
      let here : List Node = first.2 ++ (complements first.1 ++ flag first.0 Then) in
      let second = more here e b true 0 outer in (
        true,
        second.0,
        second.1,
        went bytes front behind (at os e b false 0 false outer) (at first.2 e b first.0 first.1 true outer) first.3
            ∙ next_operand bytes first.2 e b first.0 first.1 outer behind begin
            ∙ second.2,
        joins os here (postfix f) second.1 (postfix g) (Join Then ∷ []) (complements second.0) first.4 (second.3 ∙ append-nil (here ++ postfix g)),
      )

  both_read : (front : List Token) (mark : Token) (behind : List Token) (f g : Formula) → ReadsAnd front f → lexeme_of bytes mark ≡ Ampersand → ReadsSeq behind g → ReadsAnd (front ++ mark ∷ behind) (Between Both f g)
  both_read front mark behind f g reads h more = λ os e outer.
      let first = reads os e outer in
      let here : List Node = first.3 ++ ((complements first.2 ++ flag first.1 Then) ++ flag first.0 Both) in
      let second = more here e true outer in (
        true,
        second.0,
        second.1,
        second.2,
        went bytes front (mark ∷ behind) (at os e false false 0 false outer) (at first.3 e first.0 first.1 first.2 true outer) first.4
            ∙ follow bytes (at first.3 e first.0 first.1 first.2 true outer) (at here e true false 0 false outer) mark behind Ampersand h refl
            ∙ second.3,
        joins os here (postfix f) second.2 (postfix g) (Join Both ∷ []) (complements second.1 ++ flag second.0 Then) first.5 second.4,
      )

  either_read : (front : List Token) (mark : Token) (behind : List Token) (f g : Formula) → ReadsAlt front f → lexeme_of bytes mark ≡ Bar → ReadsAnd behind g → ReadsAlt (front ++ mark ∷ behind) (Between Either f g)
  either_read front mark behind f g reads h more = λ os outer.
      let first = reads os outer in
      let here : List Node = first.4 ++ (((complements first.3 ++ flag first.2 Then) ++ flag first.1 Both) ++ flag first.0 Either) in
      let second = more here true outer in (
        true,
        second.0,
        second.1,
        second.2,
        second.3,
        went bytes front (mark ∷ behind) (at os false false false 0 false outer) (at first.4 first.0 first.1 first.2 first.3 true outer) first.5
            ∙ follow bytes (at first.4 first.0 first.1 first.2 first.3 true outer) (at here true false false 0 false outer) mark behind Bar h refl
            ∙ second.4,
        joins os here (postfix f) second.3 (postfix g) (Join Either ∷ []) ((complements second.2 ++ flag second.1 Then) ++ flag second.0 Both) first.6 second.5,
      )

  not_read : (tokens : List Token) (f : Formula) → ReadsOperand tokens f → ReadsNot tokens f
  not_read tokens f reads = λ os e b t n outer. (n, os ++ postfix f, reads os e b t n outer, refl)

  seq_read : (tokens : List Token) (f : Formula) → ReadsNot tokens f → ReadsSeq tokens f
  seq_read tokens f reads = λ os e b outer.
      let inner = reads os e b false 0 outer in
      (false, inner.0, inner.1, inner.2, no_more inner.1 (complements inner.0) (os ++ postfix f) (inner.3 ∙ append-nil (os ++ postfix f)))

  and_read : (tokens : List Token) (f : Formula) → ReadsSeq tokens f → ReadsAnd tokens f
  and_read tokens f reads = λ os e outer.
      let inner = reads os e false outer in
      (false, inner.0, inner.1, inner.2, inner.3, no_more inner.2 (complements inner.1 ++ flag inner.0 Then) (os ++ postfix f) inner.4)

  alt_read : (tokens : List Token) (f : Formula) → ReadsAnd tokens f → ReadsAlt tokens f
  alt_read tokens f reads = λ os outer.
      let inner = reads os false outer in
      (false, inner.0, inner.1, inner.2, inner.3, inner.4, no_more inner.3 ((complements inner.2 ++ flag inner.1 Then) ++ flag inner.0 Both) (os ++ postfix f) inner.5)

  read_by : (r : Rule) (tokens : List Token) (f : Formula) → SpellsBy bytes r tokens f → ReadsBy r tokens f
  read_by _ _ _ (name t n a b) = atom_read t (Name t) (name_sign bytes t n a b)
  read_by _ _ _ (epsilon t h) = atom_read t Epsilon (epsilon_sign bytes t h)
  read_by _ _ _ (empty t h) = atom_read t Empty (empty_sign bytes t h)
  read_by _ _ _ (inside opening tokens closing f h d k) = inside_read opening tokens closing f (opening_sign bytes opening h) (read_by _ tokens f d) (closing_sign bytes closing k)
  read_by _ _ _ (one_atom tokens f d) = read_by _ tokens f d
  read_by _ _ _ (any tokens star f d h) = suffix_read tokens star f (Over Any f) Asterisk (Wrap Any) (read_by _ tokens f d) (star_sign bytes star h) refl (λ os e b t n outer. refl)
  read_by _ _ _ (many tokens plus f d h) = suffix_read tokens plus f (Over Many f) PlusSign (Wrap Many) (read_by _ tokens f d) (plus_sign bytes plus h) refl (λ os e b t n outer. refl)
  read_by _ _ _ (one_rep tokens f d) = not_read tokens f (read_by _ tokens f d)
  read_by _ _ _ (complement tilde tokens f h d) = tilde_read tilde tokens f (tilde_sign bytes tilde h) (read_by _ tokens f d)
  read_by _ _ _ (one_not tokens f d) = seq_read tokens f (read_by _ tokens f d)
  read_by _ _ _ (sequence front behind f g d k) = sequence_read front behind f g (read_by _ front f d) (begins bytes _ behind g k) (read_by _ behind g k)
  read_by _ _ _ (one_seq tokens f d) = and_read tokens f (read_by _ tokens f d)
  read_by _ _ _ (both front mark behind f g d h k) = both_read front mark behind f g (read_by _ front f d) (ampersand_sign bytes mark h) (read_by _ behind g k)
  read_by _ _ _ (one_and tokens f d) = alt_read tokens f (read_by _ tokens f d)
  read_by _ _ _ (either front mark behind f g d h k) = either_read front mark behind f g (read_by _ front f d) (bar_sign bytes mark h) (read_by _ behind g k)

  -- the nodes of the formula that the tokens spell are read
  pub spelled_is_parsed : (tokens : List Token) (f : Formula) → Spells bytes tokens f → parsed bytes tokens ≡ Some (postfix f)
  unfolding parsed
  spelled_is_parsed tokens f h =
      let alt = read_by AltRule tokens f h [] [] in
      ap (option_and_then (λ (p : Parser). finished p.outer p.pending.ready p)) alt.5 ∙ ap (λ (l : List Node). Some l) alt.6
