-- What the reader reads, the grammar spells.
use Rattle.std.proofs.Common.{◌≡◌, ℕ, zero, suc, Bool, true, false, List, [], ◌∷◌, ◌++◌, Some, None, refl, sym, ap, subst, ◌∙◌, append_assoc, append-nil}
use Rattle.std.specs.Prelude.{codes}
use Rattle.jm_text.specs.declared.token.Token.{Token}
use Rattle.jm_reading.specs.Tokens.{IsMark}
use Rattle.jm_reading.proofs.TokenLemmas.{step_of}
use Rattle.jm_ere.specs.declared.formula.Atom.{Atom}
use Rattle.jm_ere.specs.declared.formula.Atom.TheVariants.{Name, Epsilon, Empty}
use Rattle.jm_ere.specs.declared.formula.Unary.{Unary}
use Rattle.jm_ere.specs.declared.formula.Unary.TheVariants.{Not, Any, Many}
use Rattle.jm_ere.specs.declared.formula.Binary.TheVariants.{Then, Either, Both}
use Rattle.jm_ere.specs.declared.formula.Node.{Node}
use Rattle.jm_ere.specs.declared.formula.Node.TheVariants.{Push, Wrap, Join}
use Rattle.jm_ere.specs.declared.parse.Lexeme.{Lexeme}
use Rattle.jm_ere.specs.declared.parse.Lexeme.TheVariants.{Operand, Opening, Closing, Tilde, Asterisk, PlusSign, Bar, Ampersand, Other}
use Rattle.jm_ere.specs.declared.parse.Pending.{Pending}
use Rattle.jm_ere.specs.declared.parse.Parser.{Parser}
use Rattle.jm_ere.specs.Formulas.{Formula, Leaf, Over, Between}
use Rattle.jm_ere.specs.Spelling.{Rule, AltRule, AndRule, SeqRule, NotRule, RepRule, SpellsBy, name, epsilon, empty, inside, one_atom, any, many, one_rep, complement, one_not, sequence, one_seq, both, one_and, either, Spells}
use Rattle.jm_ere.specs.Rules.{lexeme_of, postfix, flag, complements, fresh, beginning, juxtaposed, before_operand, behind_operand, after_lexeme, after_all, finished, parsed}
use Rattle.jm_ere.proofs.SignLemmas.{Says, sign_says}
use Rattle.jm_ere.proofs.CompleteLemmas.{at, complements_turn}

-- ---- lists one after the other

module _ {X : Type 0} where
  -- more after the last of five
  behind_five : (a b c d e all more : List X) → all ≡ a ++ (b ++ (c ++ (d ++ e))) → all ++ more ≡ a ++ (b ++ (c ++ (d ++ (e ++ more))))
  behind_five a b c d e all more h =
      ap (λ l. l ++ more) h
      ∙ append_assoc a (b ++ (c ++ (d ++ e))) more
      ∙ ap (λ l. a ++ l) (append_assoc b (c ++ (d ++ e)) more
      ∙ ap (λ l. b ++ l) (append_assoc c (d ++ e) more
      ∙ ap (λ l. c ++ l) (append_assoc d e more)))

  behind_four : (a b c d all more : List X) → all ≡ a ++ (b ++ (c ++ d)) → all ++ more ≡ a ++ (b ++ (c ++ (d ++ more)))
  behind_four a b c d all more h =
      ap (λ l. l ++ more) h
      ∙ append_assoc a (b ++ (c ++ d)) more
      ∙ ap (λ l. a ++ l) (append_assoc b (c ++ d) more
      ∙ ap (λ l. b ++ l) (append_assoc c d more))

  -- the last three parts have become one
  after_then : (a b c d m n all : List X) → all ≡ a ++ (b ++ (c ++ d)) → all ++ (m ++ n) ≡ a ++ (b ++ (((c ++ (d ++ m)) ++ n) ++ []))
  after_then a b c d m n all h =
      behind_four a b c d all (m ++ n) h
      ∙ ap (λ l. a ++ (b ++ l)) (ap (λ l. c ++ l) (sym (append_assoc d m n)) ∙ sym (append_assoc c (d ++ m) n) ∙ sym (append-nil ((c ++ (d ++ m)) ++ n)))

  after_both : (a b c d m n o all : List X) → all ≡ a ++ (b ++ (c ++ d)) → all ++ ((m ++ n) ++ o) ≡ a ++ (((b ++ ((c ++ (d ++ m)) ++ n)) ++ o) ++ [])
  after_both a b c d m n o all h =
      sym (append_assoc all (m ++ n) o)
      ∙ ap (λ l. l ++ o) (after_then a b c d m n all h ∙ ap (λ l. a ++ (b ++ l)) (append-nil ((c ++ (d ++ m)) ++ n)))
      ∙ append_assoc a (b ++ ((c ++ (d ++ m)) ++ n)) o
      ∙ ap (λ l. a ++ l) (sym (append-nil ((b ++ ((c ++ (d ++ m)) ++ n)) ++ o)))

  after_either : (a b c d m n o p all : List X) → all ≡ a ++ (b ++ (c ++ d)) → all ++ (((m ++ n) ++ o) ++ p) ≡ (a ++ ((b ++ ((c ++ (d ++ m)) ++ n)) ++ o)) ++ p
  after_either a b c d m n o p all h =
      sym (append_assoc all ((m ++ n) ++ o) p)
      ∙ ap (λ l. l ++ p) (after_both a b c d m n o all h ∙ ap (λ l. a ++ l) (append-nil ((b ++ ((c ++ (d ++ m)) ++ n)) ++ o)))

module _ (bytes : List ℕ) where
  -- ---- what waits for its last operand

  -- what stands before a `|` or a `&`, and the mark
  abbrev HeldBy : Rule → List ℕ → Bool → List Token → List Node → Type 0
  HeldBy r mark false ts os = (ts ≡ []) × (os ≡ [])
  HeldBy r mark true ts os = (front : List Token) × (m : Token) × (f : Formula) × (ts ≡ front ++ m ∷ []) × IsMark bytes mark m × SpellsBy bytes r front f × (os ≡ postfix f)

  -- the operands of a juxtaposition
  abbrev HeldThen : Bool → List Token → List Node → Type 0
  HeldThen false ts os = (ts ≡ []) × (os ≡ [])
  HeldThen true ts os = (f : Formula) × SpellsBy bytes SeqRule ts f × (os ≡ postfix f)

  -- so many `~`
  abbrev AreTildes : ℕ → List Token → Type 0
  AreTildes zero ts = ts ≡ []
  AreTildes (suc n) ts = (front : List Token) × (m : Token) × (ts ≡ front ++ m ∷ []) × AreTildes n front × IsMark bytes (codes "~") m

  -- the last operand
  abbrev LastOperand : Bool → List Token → List Node → Type 0
  LastOperand false ts os = (ts ≡ []) × (os ≡ [])
  LastOperand true ts os = (f : Formula) × SpellsBy bytes RepRule ts f × (os ≡ postfix f)

  -- what was read since the innermost open parenthesis
  record PendingHolds (f : Pending) (tokens : List Token) (nodes : List Node) : Type 0 where
    te : List Token
    tb : List Token
    tt' : List Token
    tn : List Token
    tl : List Token
    oe : List Node
    ob : List Node
    ot : List Node
    ol : List Node
    held_either : HeldBy AltRule (codes "|") f.has_either te oe
    held_both : HeldBy AndRule (codes "&") f.has_both tb ob
    held_then : HeldThen f.has_then tt' ot
    tildes : AreTildes f.nots tn
    last : LastOperand f.ready tl ol
    cut : tokens ≡ te ++ (tb ++ (tt' ++ (tn ++ tl)))
    out : nodes ≡ oe ++ (ob ++ (ot ++ ol))

  -- what was read before each open parenthesis, the innermost first
  abbrev OuterHold : List Pending → List Token → List Node → Type 0
  OuterHold [] ts os = (ts ≡ []) × (os ≡ [])
  OuterHold (f ∷ fs) ts os =
      (t0 t1 : List Token) × (m : Token) × (o0 o1 : List Node) × (ts ≡ t0 ++ (t1 ++ m ∷ [])) × (os ≡ o0 ++ o1) × (f.ready ≡ false) × IsMark bytes (codes "(") m × PendingHolds f t1 o1 × OuterHold fs t0 o0

  -- what a reader's state stands for
  record Holds (p : Parser) (tokens : List Token) : Type 0 where
    t0 : List Token
    t1 : List Token
    o0 : List Node
    o1 : List Node
    cut : tokens ≡ t0 ++ t1
    out : p.nodes ≡ o0 ++ o1
    outer : OuterHold p.outer t0 o0
    inner : PendingHolds p.pending t1 o1

  -- ---- what is spelled where it ends

  with_tildes : (n : ℕ) (ts us : List Token) (f : Formula) → AreTildes n ts → SpellsBy bytes NotRule us f → (g : Formula) × SpellsBy bytes NotRule (ts ++ us) g × (postfix g ≡ postfix f ++ complements n)
  with_tildes zero ts us f h d = (f, subst (λ (l : List Token). SpellsBy bytes NotRule (l ++ us) f) (sym h) d, sym (append-nil (postfix f)))
  with_tildes (suc n) ts us f h d =
      let inner = with_tildes n h.0 (h.1 ∷ us) (Over Not f) h.3 (complement h.1 us f h.4 d) in (
        inner.0,
        subst (λ (l : List Token). SpellsBy bytes NotRule l inner.0) (sym (ap (λ (l : List Token). l ++ us) h.2 ∙ append_assoc h.0 (h.1 ∷ []) us)) inner.1,
        inner.2 ∙ append_assoc (postfix f) (Wrap Not ∷ []) (complements n) ∙ ap (λ (l : List Node). postfix f ++ l) (sym (complements_turn n)),
      )

  with_sequence : (t : Bool) (ts us : List Token) (os : List Node) (f : Formula) → HeldThen t ts os → SpellsBy bytes NotRule us f → (g : Formula) × SpellsBy bytes SeqRule (ts ++ us) g × (postfix g ≡ (os ++ postfix f) ++ flag t Then)
  with_sequence false ts us os f h d = (
    f,
    subst (λ (l : List Token). SpellsBy bytes SeqRule (l ++ us) f) (sym h.0) (one_not us f d),
    ap (λ (l : List Node). l ++ postfix f) (sym h.1) ∙ sym (append-nil (os ++ postfix f)),
  )
  with_sequence true ts us os f h d = (
    Between Then h.0 f,
    sequence ts us h.0 f h.1 d,
    ap (λ (l : List Node). (l ++ postfix f) ++ Join Then ∷ []) (sym h.2),
  )

  with_both : (b : Bool) (ts us : List Token) (os : List Node) (f : Formula) → HeldBy AndRule (codes "&") b ts os → SpellsBy bytes SeqRule us f → (g : Formula) × SpellsBy bytes AndRule (ts ++ us) g × (postfix g ≡ (os ++ postfix f) ++ flag b Both)
  with_both false ts us os f h d = (
    f,
    subst (λ (l : List Token). SpellsBy bytes AndRule (l ++ us) f) (sym h.0) (one_seq us f d),
    ap (λ (l : List Node). l ++ postfix f) (sym h.1) ∙ sym (append-nil (os ++ postfix f)),
  )
  with_both true ts us os f h d = (
    Between Both h.2 f,
    subst (λ (l : List Token). SpellsBy bytes AndRule l (Between Both h.2 f)) (sym (ap (λ (l : List Token). l ++ us) h.3 ∙ append_assoc h.0 (h.1 ∷ []) us)) (both h.0 h.1 us h.2 f h.5 h.4 d),
    ap (λ (l : List Node). (l ++ postfix f) ++ Join Both ∷ []) (sym h.6),
  )

  with_either : (e : Bool) (ts us : List Token) (os : List Node) (f : Formula) → HeldBy AltRule (codes "|") e ts os → SpellsBy bytes AndRule us f → (g : Formula) × SpellsBy bytes AltRule (ts ++ us) g × (postfix g ≡ (os ++ postfix f) ++ flag e Either)
  with_either false ts us os f h d = (
    f,
    subst (λ (l : List Token). SpellsBy bytes AltRule (l ++ us) f) (sym h.0) (one_and us f d),
    ap (λ (l : List Node). l ++ postfix f) (sym h.1) ∙ sym (append-nil (os ++ postfix f)),
  )
  with_either true ts us os f h d = (
    Between Either h.2 f,
    subst (λ (l : List Token). SpellsBy bytes AltRule l (Between Either h.2 f)) (sym (ap (λ (l : List Token). l ++ us) h.3 ∙ append_assoc h.0 (h.1 ∷ []) us)) (either h.0 h.1 us h.2 f h.5 h.4 d),
    ap (λ (l : List Node). (l ++ postfix f) ++ Join Either ∷ []) (sym h.6),
  )

  -- a pending whose last operand is there
  module _ (e b t : Bool) (n : ℕ) (ts : List Token) (os : List Node) where
    abbrev Ready : Type 0
    Ready = PendingHolds (record { has_either = e; has_both = b; has_then = t; nots = n; ready = true }) ts os

    abbrev Waits : Bool → Bool → Bool → ℕ → List Token → List Node → Type 0
    Waits e b t n ts os = PendingHolds (record { has_either = e; has_both = b; has_then = t; nots = n; ready = false }) ts os

    module _ (h : Ready) where
      sequence_ended : (g : Formula) × SpellsBy bytes SeqRule (h.tt' ++ (h.tn ++ h.tl)) g × (postfix g ≡ (h.ot ++ (h.ol ++ complements n)) ++ flag t Then)
      sequence_ended =
          let inner = with_tildes n h.tn h.tl h.last.0 h.tildes (one_rep h.tl h.last.0 h.last.1) in
          let whole = with_sequence t h.tt' (h.tn ++ h.tl) h.ot inner.0 h.held_then inner.1 in
          (whole.0, whole.1, whole.2 ∙ ap (λ (l : List Node). (h.ot ++ l) ++ flag t Then) (inner.2 ∙ ap (λ (l : List Node). l ++ complements n) (sym h.last.2)))

      both_ended : (g : Formula) × SpellsBy bytes AndRule (h.tb ++ (h.tt' ++ (h.tn ++ h.tl))) g × (postfix g ≡ (h.ob ++ ((h.ot ++ (h.ol ++ complements n)) ++ flag t Then)) ++ flag b Both)
      both_ended =
          let whole = with_both b h.tb (h.tt' ++ (h.tn ++ h.tl)) h.ob sequence_ended.0 h.held_both sequence_ended.1 in
          (whole.0, whole.1, whole.2 ∙ ap (λ (l : List Node). (h.ob ++ l) ++ flag b Both) sequence_ended.2)

      either_ended : (g : Formula) × SpellsBy bytes AltRule ts g × (os ++ (((complements n ++ flag t Then) ++ flag b Both) ++ flag e Either) ≡ postfix g)
      either_ended =
          let whole = with_either e h.te (h.tb ++ (h.tt' ++ (h.tn ++ h.tl))) h.oe both_ended.0 h.held_either both_ended.1 in (
            whole.0,
            subst (λ (l : List Token). SpellsBy bytes AltRule l whole.0) (sym h.cut) whole.1,
            after_either h.oe h.ob h.ot h.ol (complements n) (flag t Then) (flag b Both) (flag e Either) os h.out
                ∙ sym (whole.2 ∙ ap (λ (l : List Node). (h.oe ++ l) ++ flag e Either) both_ended.2),
          )

      -- ---- the tokens after it

      juxtaposes : Waits e b true 0 ts (os ++ (complements n ++ flag t Then))
      juxtaposes = record {
        te = h.te;
        tb = h.tb;
        tt' = h.tt' ++ (h.tn ++ h.tl);
        tn = [];
        tl = [];
        oe = h.oe;
        ob = h.ob;
        ot = (h.ot ++ (h.ol ++ complements n)) ++ flag t Then;
        ol = [];
        held_either = h.held_either;
        held_both = h.held_both;
        held_then = (sequence_ended.0, sequence_ended.1, sym sequence_ended.2);
        tildes = refl;
        last = (refl, refl);
        cut = h.cut ∙ ap (λ (l : List Token). h.te ++ (h.tb ++ l)) (sym (append-nil (h.tt' ++ (h.tn ++ h.tl))));
        out = after_then h.oe h.ob h.ot h.ol (complements n) (flag t Then) os h.out;
      }

      intersects : (m : Token) → IsMark bytes (codes "&") m → Waits e true false 0 (ts ++ m ∷ []) (os ++ ((complements n ++ flag t Then) ++ flag b Both))
      intersects m is =
          let front = h.tb ++ (h.tt' ++ (h.tn ++ h.tl)) in record {
            te = h.te;
            tb = front ++ m ∷ [];
            tt' = [];
            tn = [];
            tl = [];
            oe = h.oe;
            ob = (h.ob ++ ((h.ot ++ (h.ol ++ complements n)) ++ flag t Then)) ++ flag b Both;
            ot = [];
            ol = [];
            held_either = h.held_either;
            held_both = (front, m, both_ended.0, refl, is, both_ended.1, sym both_ended.2);
            held_then = (refl, refl);
            tildes = refl;
            last = (refl, refl);
            cut = ap (λ (l : List Token). l ++ m ∷ []) h.cut ∙ append_assoc h.te front (m ∷ []) ∙ ap (λ (l : List Token). h.te ++ l) (sym (append-nil (front ++ m ∷ [])));
            out = after_both h.oe h.ob h.ot h.ol (complements n) (flag t Then) (flag b Both) os h.out;
          }

      unites : (m : Token) → IsMark bytes (codes "|") m → Waits true false false 0 (ts ++ m ∷ []) (os ++ (((complements n ++ flag t Then) ++ flag b Both) ++ flag e Either))
      unites m is = record {
        te = ts ++ m ∷ [];
        tb = [];
        tt' = [];
        tn = [];
        tl = [];
        oe = os ++ (((complements n ++ flag t Then) ++ flag b Both) ++ flag e Either);
        ob = [];
        ot = [];
        ol = [];
        held_either = (ts, m, either_ended.0, refl, is, either_ended.1, either_ended.2);
        held_both = (refl, refl);
        held_then = (refl, refl);
        tildes = refl;
        last = (refl, refl);
        cut = sym (append-nil (ts ++ m ∷ []));
        out = sym (append-nil (os ++ (((complements n ++ flag t Then) ++ flag b Both) ++ flag e Either)));
      }

      suffixes : (m : Token) (operator : Unary) → SpellsBy bytes RepRule (h.tl ++ m ∷ []) (Over operator h.last.0) → PendingHolds (record { has_either = e; has_both = b; has_then = t; nots = n; ready = true }) (ts ++ m ∷ []) (os ++ Wrap operator ∷ [])
      suffixes m operator d = record {
        te = h.te;
        tb = h.tb;
        tt' = h.tt';
        tn = h.tn;
        tl = h.tl ++ m ∷ [];
        oe = h.oe;
        ob = h.ob;
        ot = h.ot;
        ol = h.ol ++ Wrap operator ∷ [];
        held_either = h.held_either;
        held_both = h.held_both;
        held_then = h.held_then;
        tildes = h.tildes;
        last = (Over operator h.last.0, d, ap (λ (l : List Node). l ++ Wrap operator ∷ []) h.last.2);
        cut = behind_five h.te h.tb h.tt' h.tn h.tl ts (m ∷ []) h.cut;
        out = behind_four h.oe h.ob h.ot h.ol os (Wrap operator ∷ []) h.out;
      }

  -- a pending whose last operand is to come
  module _ (e b t : Bool) (n : ℕ) (ts : List Token) (os : List Node) (h : PendingHolds (record { has_either = e; has_both = b; has_then = t; nots = n; ready = false }) ts os) where
    takes_operand : (us : List Token) (f : Formula) → SpellsBy bytes RepRule us f → PendingHolds (record { has_either = e; has_both = b; has_then = t; nots = n; ready = true }) (ts ++ us) (os ++ postfix f)
    takes_operand us f d = record {
      te = h.te;
      tb = h.tb;
      tt' = h.tt';
      tn = h.tn;
      tl = us;
      oe = h.oe;
      ob = h.ob;
      ot = h.ot;
      ol = postfix f;
      held_either = h.held_either;
      held_both = h.held_both;
      held_then = h.held_then;
      tildes = h.tildes;
      last = (f, d, refl);
      cut = behind_five h.te h.tb h.tt' h.tn h.tl ts us h.cut ∙ ap (λ (l : List Token). h.te ++ (h.tb ++ (h.tt' ++ (h.tn ++ (l ++ us))))) h.last.0;
      out = behind_four h.oe h.ob h.ot h.ol os (postfix f) h.out ∙ ap (λ (l : List Node). h.oe ++ (h.ob ++ (h.ot ++ (l ++ postfix f)))) h.last.1;
    }

    takes_tilde : (m : Token) → IsMark bytes (codes "~") m → PendingHolds (record { has_either = e; has_both = b; has_then = t; nots = suc n; ready = false }) (ts ++ m ∷ []) (os ++ [])
    takes_tilde m is = record {
      te = h.te;
      tb = h.tb;
      tt' = h.tt';
      tn = h.tn ++ m ∷ [];
      tl = [];
      oe = h.oe;
      ob = h.ob;
      ot = h.ot;
      ol = [];
      held_either = h.held_either;
      held_both = h.held_both;
      held_then = h.held_then;
      tildes = (h.tn, m, refl, h.tildes, is);
      last = (refl, refl);
      cut = behind_five h.te h.tb h.tt' h.tn h.tl ts (m ∷ []) h.cut ∙ ap (λ (l : List Token). h.te ++ (h.tb ++ (h.tt' ++ (h.tn ++ (l ++ m ∷ []))))) h.last.0 ∙ ap (λ (l : List Token). h.te ++ (h.tb ++ (h.tt' ++ l))) (sym (append-nil (h.tn ++ m ∷ [])));
      out = append-nil os ∙ h.out ∙ ap (λ (l : List Node). h.oe ++ (h.ob ++ (h.ot ++ l))) h.last.1;
    }

  nothing_held : PendingHolds fresh [] []
  nothing_held = record {
    te = [];
    tb = [];
    tt' = [];
    tn = [];
    tl = [];
    oe = [];
    ob = [];
    ot = [];
    ol = [];
    held_either = (refl, refl);
    held_both = (refl, refl);
    held_then = (refl, refl);
    tildes = refl;
    last = (refl, refl);
    cut = refl;
    out = refl;
  }

  -- ---- one token more

  moved : (p : Parser) (pending : Pending) (nodes more : List Node) (ts us : List Token) (h : Holds p ts) → nodes ≡ p.nodes ++ more → PendingHolds pending (h.t1 ++ us) (h.o1 ++ more) → Holds (record { nodes = nodes; pending = pending; outer = p.outer }) (ts ++ us)
  moved p pending nodes more ts us h is inner = record {
    t0 = h.t0;
    t1 = h.t1 ++ us;
    o0 = h.o0;
    o1 = h.o1 ++ more;
    cut = ap (λ (l : List Token). l ++ us) h.cut ∙ append_assoc h.t0 h.t1 us;
    out = is ∙ ap (λ (l : List Node). l ++ more) h.out ∙ append_assoc h.o0 h.o1 more;
    outer = h.outer;
    inner = inner;
  }

  atom_spelled : (t : Token) (atom : Atom) → Says bytes t (Operand atom) → SpellsBy bytes RepRule (t ∷ []) (Leaf atom)
  atom_spelled t (Name u) h = subst (λ (x : Token). SpellsBy bytes RepRule (t ∷ []) (Leaf (Name x))) h.0 (one_atom (t ∷ []) (Leaf (Name t)) (name t h.1 h.2 h.3))
  atom_spelled t Epsilon h = one_atom (t ∷ []) (Leaf Epsilon) (epsilon t h)
  atom_spelled t Empty h = one_atom (t ∷ []) (Leaf Empty) (empty t h)

  same_some : (p q : Parser) → Some p ≡ Some q → p ≡ q
  same_some p q h = cc

  never_some : (q : Parser) → None ≡ Some q → ⊥
  never_some q h = cc

  opened : (os : List Node) (e b t : Bool) (n : ℕ) (outer : List Pending) (ts : List Token) (m : Token) → IsMark bytes (codes "(") m → Holds (at os e b t n false outer) ts
      → Holds (at os false false false 0 false (record { has_either = e; has_both = b; has_then = t; nots = n; ready = false } ∷ outer)) (ts ++ m ∷ [])
  opened os e b t n outer ts m is h = record {
    t0 = ts ++ m ∷ [];
    t1 = [];
    o0 = os;
    o1 = [];
    cut = sym (append-nil (ts ++ m ∷ []));
    out = sym (append-nil os);
    outer = (h.t0, h.t1, m, h.o0, h.o1, ap (λ (l : List Token). l ++ m ∷ []) h.cut ∙ append_assoc h.t0 h.t1 (m ∷ []), h.out, refl, is, h.inner, h.outer);
    inner = nothing_held;
  }

  before_step : (os : List Node) (e b t : Bool) (n : ℕ) (outer : List Pending) (ts : List Token) (m : Token) (s : Lexeme) (q : Parser) → Says bytes m s → Holds (at os e b t n false outer) ts → before_operand (at os e b t n false outer) s ≡ Some q → Holds q (ts ++ m ∷ [])
  before_step os e b t n outer ts m (Operand atom) q is h moves =
      subst (λ (x : Parser). Holds x (ts ++ m ∷ [])) (same_some _ q moves)
      (moved (at os e b t n false outer) (record { has_either = e; has_both = b; has_then = t; nots = n; ready = true }) (os ++ Push atom ∷ []) (Push atom ∷ []) ts (m ∷ []) h refl
      (takes_operand e b t n h.t1 h.o1 h.inner (m ∷ []) (Leaf atom) (atom_spelled m atom is)))
  before_step os e b t n outer ts m Opening q is h moves = subst (λ (x : Parser). Holds x (ts ++ m ∷ [])) (same_some _ q moves) (opened os e b t n outer ts m is h)
  before_step os e b t n outer ts m Tilde q is h moves =
      subst (λ (x : Parser). Holds x (ts ++ m ∷ [])) (same_some _ q moves)
      (moved (at os e b t n false outer) (record { has_either = e; has_both = b; has_then = t; nots = suc n; ready = false }) os [] ts (m ∷ []) h (sym (append-nil os)) (takes_tilde e b t n h.t1 h.o1 h.inner m is))
  before_step os e b t n outer ts m Closing q is h moves = absurd (never_some q moves)
  before_step os e b t n outer ts m Asterisk q is h moves = absurd (never_some q moves)
  before_step os e b t n outer ts m PlusSign q is h moves = absurd (never_some q moves)
  before_step os e b t n outer ts m Bar q is h moves = absurd (never_some q moves)
  before_step os e b t n outer ts m Ampersand q is h moves = absurd (never_some q moves)
  before_step os e b t n outer ts m Other q is h moves = absurd (never_some q moves)

  juxtaposed_holds : (os : List Node) (e b t : Bool) (n : ℕ) (outer : List Pending) (ts : List Token) → Holds (at os e b t n true outer) ts → Holds (juxtaposed (at os e b t n true outer)) ts
  juxtaposed_holds os e b t n outer ts h =
      subst (λ (l : List Token). Holds (juxtaposed (at os e b t n true outer)) l) (append-nil ts)
      (moved (at os e b t n true outer) (record { has_either = e; has_both = b; has_then = true; nots = 0; ready = false }) (os ++ (complements n ++ flag t Then)) (complements n ++ flag t Then) ts [] h refl
      (subst (λ (l : List Token). PendingHolds (record { has_either = e; has_both = b; has_then = true; nots = 0; ready = false }) l (h.o1 ++ (complements n ++ flag t Then))) (sym (append-nil h.t1)) (juxtaposes e b t n h.t1 h.o1 h.inner)))

  closed_step : (os : List Node) (e b t : Bool) (n : ℕ) (f : Pending) (fs : List Pending) (ts : List Token) (m : Token) → IsMark bytes (codes ")") m → Holds (at os e b t n true (f ∷ fs)) ts
      → Holds (record { nodes = os ++ (((complements n ++ flag t Then) ++ flag b Both) ++ flag e Either); pending = record f { ready = true }; outer = fs }) (ts ++ m ∷ [])
  closed_step os e b t n f fs ts m is h =
      let end : List Node = ((complements n ++ flag t Then) ++ flag b Both) ++ flag e Either in
      let whole = either_ended e b t n h.t1 h.o1 h.inner in
      let out = h.outer in
      let us : List Token = out.2 ∷ h.t1 ++ m ∷ [] in
      let waits = subst (λ (r : Bool). PendingHolds (record f { ready = r }) out.1 out.4) out.7 out.9 in record {
        t0 = out.0;
        t1 = out.1 ++ us;
        o0 = out.3;
        o1 = out.4 ++ postfix whole.0;
        cut = ap (λ (l : List Token). l ++ m ∷ []) (h.cut ∙ ap (λ (l : List Token). l ++ h.t1) out.5)
            ∙ append_assoc (out.0 ++ (out.1 ++ out.2 ∷ [])) h.t1 (m ∷ [])
            ∙ append_assoc out.0 (out.1 ++ out.2 ∷ []) (h.t1 ++ m ∷ [])
            ∙ ap (λ (l : List Token). out.0 ++ l) (append_assoc out.1 (out.2 ∷ []) (h.t1 ++ m ∷ []));
        out = ap (λ (l : List Node). l ++ end) h.out
            ∙ append_assoc h.o0 h.o1 end
            ∙ ap (λ (l : List Node). h.o0 ++ l) whole.2
            ∙ ap (λ (l : List Node). l ++ postfix whole.0) out.6
            ∙ append_assoc out.3 out.4 (postfix whole.0);
        outer = out.10;
        inner = takes_operand f.has_either f.has_both f.has_then f.nots out.1 out.4 waits us whole.0 (one_atom us whole.0 (inside out.2 h.t1 m whole.0 out.8 whole.1 is));
      }

  behind_step : (os : List Node) (e b t : Bool) (n : ℕ) (outer : List Pending) (ts : List Token) (m : Token) (s : Lexeme) (q : Parser) → Says bytes m s → Holds (at os e b t n true outer) ts → behind_operand (at os e b t n true outer) s ≡ Some q → Holds q (ts ++ m ∷ [])
  behind_step os e b t n outer ts m Asterisk q is h moves =
      subst (λ (x : Parser). Holds x (ts ++ m ∷ [])) (same_some _ q moves)
      (moved (at os e b t n true outer) (record { has_either = e; has_both = b; has_then = t; nots = n; ready = true }) (os ++ Wrap Any ∷ []) (Wrap Any ∷ []) ts (m ∷ []) h refl
      (suffixes e b t n h.t1 h.o1 h.inner m Any (any h.inner.tl m h.inner.last.0 h.inner.last.1 is)))
  behind_step os e b t n outer ts m PlusSign q is h moves =
      subst (λ (x : Parser). Holds x (ts ++ m ∷ [])) (same_some _ q moves)
      (moved (at os e b t n true outer) (record { has_either = e; has_both = b; has_then = t; nots = n; ready = true }) (os ++ Wrap Many ∷ []) (Wrap Many ∷ []) ts (m ∷ []) h refl
      (suffixes e b t n h.t1 h.o1 h.inner m Many (many h.inner.tl m h.inner.last.0 h.inner.last.1 is)))
  behind_step os e b t n outer ts m Ampersand q is h moves =
      subst (λ (x : Parser). Holds x (ts ++ m ∷ [])) (same_some _ q moves)
      (moved (at os e b t n true outer) (record { has_either = e; has_both = true; has_then = false; nots = 0; ready = false }) (os ++ ((complements n ++ flag t Then) ++ flag b Both)) ((complements n ++ flag t Then) ++ flag b Both) ts (m ∷ []) h refl
      (intersects e b t n h.t1 h.o1 h.inner m is))
  behind_step os e b t n outer ts m Bar q is h moves =
      subst (λ (x : Parser). Holds x (ts ++ m ∷ [])) (same_some _ q moves)
      (moved (at os e b t n true outer) (record { has_either = true; has_both = false; has_then = false; nots = 0; ready = false }) (os ++ (((complements n ++ flag t Then) ++ flag b Both) ++ flag e Either)) (((complements n ++ flag t Then) ++ flag b Both) ++ flag e Either) ts (m ∷ []) h refl
      (unites e b t n h.t1 h.o1 h.inner m is))
  behind_step os e b t n [] ts m Closing q is h moves = absurd (never_some q moves)
  behind_step os e b t n (f ∷ fs) ts m Closing q is h moves = subst (λ (x : Parser). Holds x (ts ++ m ∷ [])) (same_some _ q moves) (closed_step os e b t n f fs ts m is h)
  behind_step os e b t n outer ts m Other q is h moves = absurd (never_some q moves)
  behind_step os e b t n outer ts m (Operand atom) q is h moves = before_step (os ++ (complements n ++ flag t Then)) e b true 0 outer ts m (Operand atom) q is (juxtaposed_holds os e b t n outer ts h) moves
  behind_step os e b t n outer ts m Opening q is h moves = before_step (os ++ (complements n ++ flag t Then)) e b true 0 outer ts m Opening q is (juxtaposed_holds os e b t n outer ts h) moves
  behind_step os e b t n outer ts m Tilde q is h moves = before_step (os ++ (complements n ++ flag t Then)) e b true 0 outer ts m Tilde q is (juxtaposed_holds os e b t n outer ts h) moves

  one_step : (os : List Node) (e b t : Bool) (n : ℕ) (ready : Bool) (outer : List Pending) (ts : List Token) (m : Token) (q : Parser) → Holds (at os e b t n ready outer) ts → after_lexeme (at os e b t n ready outer) (lexeme_of bytes m) ≡ Some q → Holds q (ts ++ m ∷ [])
  one_step os e b t n true outer ts m q h moves = behind_step os e b t n outer ts m (lexeme_of bytes m) q (sign_says bytes m) h moves
  one_step os e b t n false outer ts m q h moves = before_step os e b t n outer ts m (lexeme_of bytes m) q (sign_says bytes m) h moves

  all_steps : (ts us : List Token) (p q : Parser) → Holds p ts → after_all bytes p us ≡ Some q → Holds q (ts ++ us)
  all_steps ts [] p q h goes = subst (λ (x : Parser). Holds x (ts ++ [])) (same_some p q goes) (subst (λ (l : List Token). Holds p l) (sym (append-nil ts)) h)
  all_steps ts (u ∷ us) p q h goes =
      let step = step_of (after_lexeme p (lexeme_of bytes u)) (λ (next : Parser). after_all bytes next us) q goes in
      let next = one_step p.nodes p.pending.has_either p.pending.has_both p.pending.has_then p.pending.nots p.pending.ready p.outer ts u step.0 h step.1 in
      subst (λ (l : List Token). Holds q l) (append_assoc ts (u ∷ []) us) (all_steps (ts ++ u ∷ []) us step.0 q next step.2)

  -- ---- the end

  Result : List Token → List Node → Type 0
  Result tokens nodes = (f : Formula) × Spells bytes tokens f × (nodes ≡ postfix f)

  some_nodes : (a b : List Node) → Some a ≡ Some b → a ≡ b
  some_nodes a b h = cc

  no_nodes : (a : List Node) → None ≡ Some a → ⊥
  no_nodes a h = cc

  at_end : (os : List Node) (e b t : Bool) (n : ℕ) (ready : Bool) (outer : List Pending) (tokens : List Token) (nodes : List Node) → Holds (at os e b t n ready outer) tokens → finished outer ready (at os e b t n ready outer) ≡ Some nodes → Result tokens nodes
  unfolding Result
  at_end os e b t n true [] tokens nodes h goes =
      let whole = either_ended e b t n h.t1 h.o1 h.inner in
      let end : List Node = ((complements n ++ flag t Then) ++ flag b Both) ++ flag e Either in
      let all : tokens ≡ h.t1 = h.cut ∙ ap (λ (l : List Token). l ++ h.t1) h.outer.0 in
      let out : os ≡ h.o1 = h.out ∙ ap (λ (l : List Node). l ++ h.o1) h.outer.1 in (
        whole.0,
        subst (λ (l : List Token). Spells bytes l whole.0) (sym all) whole.1,
        sym (some_nodes _ nodes goes) ∙ ap (λ (l : List Node). l ++ end) out ∙ whole.2,
      )
  at_end os e b t n true (f ∷ fs) tokens nodes h goes = absurd (no_nodes nodes goes)
  at_end os e b t n false [] tokens nodes h goes = absurd (no_nodes nodes goes)
  at_end os e b t n false (f ∷ fs) tokens nodes h goes = absurd (no_nodes nodes goes)

  begun : Holds beginning []
  begun = record { t0 = []; t1 = []; o0 = []; o1 = []; cut = refl; out = refl; outer = (refl, refl); inner = nothing_held }

  -- what is read, the tokens spell
  pub parsed_is_spelled : (tokens : List Token) (nodes : List Node) → parsed bytes tokens ≡ Some nodes → (f : Formula) × Spells bytes tokens f × (nodes ≡ postfix f)
  unfolding parsed Result
  parsed_is_spelled tokens nodes h =
      let all = step_of (after_all bytes beginning tokens) (λ (p : Parser). finished p.outer p.pending.ready p) nodes h in
      let p = all.0 in
      at_end p.nodes p.pending.has_either p.pending.has_both p.pending.has_then p.pending.nots p.pending.ready p.outer tokens nodes (all_steps [] tokens beginning p begun all.1) all.2
