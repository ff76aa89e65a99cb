-- The grammar's rules, as a reader goes by them, spell what the grammar spells.
use Rattle.std.proofs.Common.{ℕ, zero, suc, ◌≡◌, ◌≤◌, ◌⊎◌, inl, inr, Bool, true, false, cond, eqb, List, [], ◌∷◌, ◌++◌, Option, Some, None, length, refl, sym, ap, subst, ◌∙◌, arith, append_assoc, append-nil, length-append}
use Rattle.std.proofs.lemmas.Bool.{eqb-true, cases_Bool}
use Rattle.std.proofs.lemmas.Bool.Decides.{eqb_tells}
use Rattle.jm_text.specs.declared.token.Token.{Token}
use Rattle.jm_reading.specs.Reading.{◌>>=◌, at_most}
use Rattle.jm_reading.proofs.TokenLemmas.{step_of, one_of}
use Rattle.jm_ptltl.specs.declared.formula.Unary.{Unary}
use Rattle.jm_ptltl.specs.declared.formula.Binary.{Binary}
use Rattle.jm_ptltl.specs.declared.formula.Binary.TheVariants.{Equivalent, Implies, Or, Xor, And, Since}
use Rattle.jm_ptltl.specs.declared.lexicon.Class.{Class}
use Rattle.jm_ptltl.specs.declared.lexicon.Class.TheVariants.{Prefix, Infix, Constant, Name, Open, Close, Other}
use Rattle.jm_ptltl.specs.Formulas.{Formula, event, constant, unary, binary}
use Rattle.jm_ptltl.specs.Lexicon.{class_of, rank_of}
use Rattle.jm_ptltl.specs.Spelling.{SpellsAt, alone, joined, implied, prefixed, named, truth, nested, Spells}
use Rattle.jm_ptltl.specs.Rules.{Read, Chain, is_infix, begins, closed_by, closed_at, nested_at, atom_by, atom_at, over, operand_by, operand_at, join_by, join_at, more_at, grouped, imply_at, group, implied_at, part_at, formula_from, at_end, formula_at}

grouped-push : (fs : List (Formula Token)) (f g : Formula Token) → grouped (fs ++ f ∷ []) g ≡ grouped fs (binary Implies f g)
grouped-push [] f g = refl
grouped-push (x ∷ fs) f g = ap (λ y. binary Implies x y) (grouped-push fs f g)

-- ---- what a rule reads, its tokens spell

-- these tokens at the front spell it, and the others are after
abbrev Cut : List ℕ → ℕ → List Token → List Token → Formula Token → Type 0
Cut bytes k tokens behind f = (first : List Token) × (tokens ≡ first ++ behind) × SpellsAt bytes k first f

-- what is read is spelled
abbrev IsSound : List ℕ → ℕ → (List Token → Option Read) → Type 0
IsSound bytes k reads = (tokens behind : List Token) (f : Formula Token) → reads tokens ≡ Some (f, behind) → Cut bytes k tokens behind f

module _ {A B : Type 0} where
  pair_same : (a c : A) (b d : B) → ◌≡◌ {A = Option (A × B)} (Some (a, b)) (Some (c, d)) → (a ≡ c) × (b ≡ d)
  pair_same a c b d h = let e : ◌≡◌ {A = A × B} (a, b) (c, d) = cc in (ap (λ (x : A × B). x.0) e, ap (λ (x : A × B). x.1) e)

module _ (bytes : List ℕ) where
  closed_read : (c : Class) (f g : Formula Token) (ts behind : List Token) → closed_by c f ts ≡ Some (g, behind) → (c ≡ Close) × (f ≡ g) × (ts ≡ behind)
  closed_read (Prefix op) f g ts behind h = absurd (cc)
  closed_read (Infix op) f g ts behind h = absurd (cc)
  closed_read (Constant b) f g ts behind h = absurd (cc)
  closed_read Name f g ts behind h = absurd (cc)
  closed_read Open f g ts behind h = absurd (cc)
  closed_read Close f g ts behind h = let p = pair_same f g ts behind h in (refl, p.0, p.1)
  closed_read Other f g ts behind h = absurd (cc)

  -- a formula and the ")" after it
  closed_sound : (opening : Token) → class_of bytes opening ≡ Open → (ts rest behind : List Token) (f g : Formula Token) → Cut bytes 6 ts rest g → closed_at bytes g rest ≡ Some (f, behind) → Cut bytes zero (opening ∷ ts) behind f
  closed_sound opening is ts [] behind f g cut h = absurd (cc)
  closed_sound opening is ts (t ∷ rest) behind f g cut h =
      let p = closed_read (class_of bytes t) g f rest behind h in (
        opening ∷ (cut.0 ++ t ∷ []),
        ap (λ l. opening ∷ l) (cut.1 ∙ ap (λ l. cut.0 ++ t ∷ l) p.2 ∙ sym (append_assoc cut.0 (t ∷ []) behind)),
        nested opening t cut.0 is p.0 refl (subst (λ x. SpellsAt bytes 6 cut.0 x) p.1 cut.2),
      )

  atom_sound : (inner : List Token → Option Read) → IsSound bytes 6 inner → (t : Token) (c : Class) (ts behind : List Token) (f : Formula Token) → class_of bytes t ≡ c → atom_by c t (nested_at bytes inner ts) ts ≡ Some (f, behind) → Cut bytes zero (t ∷ ts) behind f
  atom_sound inner sound t (Prefix op) ts behind f is h = absurd (cc (h))
  atom_sound inner sound t (Infix op) ts behind f is h = absurd (cc (h))
  atom_sound inner sound t (Constant b) ts behind f is h =
      let p = pair_same (constant b) f ts behind h in (t ∷ [], ap (λ l. t ∷ l) p.1, subst (λ x. SpellsAt bytes zero (t ∷ []) x) p.0 (truth t is refl))
  atom_sound inner sound t Name ts behind f is h =
      let p = pair_same (event t) f ts behind h in (t ∷ [], ap (λ l. t ∷ l) p.1, subst (λ x. SpellsAt bytes zero (t ∷ []) x) p.0 (named is refl))
  atom_sound inner sound t Open ts behind f is h =
      let a = step_of (inner ts) (λ r. closed_at bytes r.0 r.1) (f, behind) h in
      closed_sound t is ts a.0.1 behind f a.0.0 (sound ts a.0.1 a.0.0 a.1) a.2
  atom_sound inner sound t Close ts behind f is h = absurd (cc (h))
  atom_sound inner sound t Other ts behind f is h = absurd (cc (h))

  prefixed_sound : (t : Token) (op : Unary) (ts behind : List Token) (f : Formula Token) (read : Option Read) → class_of bytes t ≡ Prefix op → ((rest : List Token) (g : Formula Token) → read ≡ Some (g, rest) → Cut bytes zero ts rest g) → over op read ≡ Some (f, behind) → Cut bytes zero (t ∷ ts) behind f
  prefixed_sound t op ts behind f read is sound h =
      let a = step_of read (λ r. Some (unary op r.0, r.1)) (f, behind) h in
      let p = pair_same (unary op a.0.0) f a.0.1 behind a.2 in
      let cut = sound a.0.1 a.0.0 a.1 in
      (t ∷ cut.0, ap (λ l. t ∷ l) (cut.1 ∙ ap (λ l. cut.0 ++ l) p.1), subst (λ x. SpellsAt bytes zero (t ∷ cut.0) x) p.0 (prefixed t cut.0 is refl cut.2))

  operand_by_sound : (inner : List Token → Option Read) → IsSound bytes 6 inner → (t : Token) (c : Class) (ts behind : List Token) (f : Formula Token) → class_of bytes t ≡ c → ((rest : List Token) (g : Formula Token) → operand_at bytes inner ts ≡ Some (g, rest) → Cut bytes zero ts rest g)
      → operand_by c (operand_at bytes inner ts) (atom_by c t (nested_at bytes inner ts) ts) ≡ Some (f, behind) → Cut bytes zero (t ∷ ts) behind f
  operand_by_sound inner sound t (Prefix op) ts behind f is more h = prefixed_sound t op ts behind f (operand_at bytes inner ts) is more h
  operand_by_sound inner sound t (Infix op) ts behind f is more h = atom_sound inner sound t (Infix op) ts behind f is h
  operand_by_sound inner sound t (Constant b) ts behind f is more h = atom_sound inner sound t (Constant b) ts behind f is h
  operand_by_sound inner sound t Name ts behind f is more h = atom_sound inner sound t Name ts behind f is h
  operand_by_sound inner sound t Open ts behind f is more h = atom_sound inner sound t Open ts behind f is h
  operand_by_sound inner sound t Close ts behind f is more h = atom_sound inner sound t Close ts behind f is h
  operand_by_sound inner sound t Other ts behind f is more h = atom_sound inner sound t Other ts behind f is h

  operand_sound : (inner : List Token → Option Read) → IsSound bytes 6 inner → (tokens behind : List Token) (f : Formula Token) → operand_at bytes inner tokens ≡ Some (f, behind) → Cut bytes zero tokens behind f
  unfolding atom_at
  operand_sound inner sound [] behind f h = absurd (cc)
  operand_sound inner sound (t ∷ ts) behind f h = operand_by_sound inner sound t (class_of bytes t) ts behind f refl (λ rest g e. operand_sound inner sound ts rest g e) h

  -- an operator of this rank is at the front
  infix_read : (c : Class) (rank : ℕ) → is_infix rank c ≡ true → (op : Binary) × (c ≡ Infix op) × (rank_of op ≡ rank)
  infix_read (Prefix op) rank h = absurd (cc)
  infix_read (Infix op) rank h = (op, refl, eqb-true _ _ h)
  infix_read (Constant b) rank h = absurd (cc)
  infix_read Name rank h = absurd (cc)
  infix_read Open rank h = absurd (cc)
  infix_read Close rank h = absurd (cc)
  infix_read Other rank h = absurd (cc)

  five_implies : (op : Binary) → rank_of op ≡ 5 → op ≡ Implies
  five_implies Equivalent h = absurd (omega (arith, h))
  five_implies Implies h = refl
  five_implies Or h = absurd (omega (arith, h))
  five_implies Xor h = absurd (omega (arith, h))
  five_implies And h = absurd (omega (arith, h))
  five_implies Since h = absurd (omega (arith, h))

  implies_five : (op : Binary) (k : ℕ) → rank_of op ≡ suc k → eqb k 4 ≡ false → op ≡ Implies → ⊥
  implies_five op k is other e = let four : 5 ≡ suc k = ap rank_of (sym e) ∙ is in elim (eqb_tells k 4) [ inl same ↦ absurd (let x = same.0 in cc (x, other)) | inr differs ↦ differs.1 (omega (arith, four)) ]

  -- what stands left of the operators was read before, by these tokens
  module _ (part : List Token → Option Read) (k : ℕ) (sound : IsSound bytes k part) where
    stop_or : {X : Type 0} (b : Bool) (x y : X) (tokens behind : List Token) (o : Option (X × List Token)) → cond b o (Some (x, tokens)) ≡ Some (y, behind) → ((b ≡ true) × (o ≡ Some (y, behind))) ⊎ ((b ≡ false) × (x ≡ y) × (tokens ≡ behind))
    stop_or true x y tokens behind o h = inl (refl, h)
    stop_or false x y tokens behind o h = let p = pair_same x y tokens behind h in inr (refl, p.0, p.1)

    join_sound : (before : List Token) (f g : Formula Token) (tokens rest : List Token) → eqb k 4 ≡ false → SpellsAt bytes (suc k) before f → begins bytes (suc k) tokens ≡ true → join_at bytes part f tokens ≡ Some (g, rest)
        → (first : List Token) × (tokens ≡ first ++ rest) × SpellsAt bytes (suc k) (before ++ first) g
    join_sound before f g [] rest other left goes h = absurd (cc (h))
    join_sound before f g (t ∷ ts) rest other left goes h =
        let q = infix_read (class_of bytes t) (suc k) goes in
        let joins : (part ts >>= λ r. Some (binary q.0 f r.0, r.1)) ≡ Some (g, rest) = ap (λ c. join_by c f (part ts)) (sym q.1) ∙ h in
        let a = step_of (part ts) (λ r. Some (binary q.0 f r.0, r.1)) (g, rest) joins in
        let p = pair_same (binary q.0 f a.0.0) g a.0.1 rest a.2 in
        let cut = sound ts a.0.1 a.0.0 a.1 in (
          t ∷ cut.0,
          ap (λ l. t ∷ l) (cut.1 ∙ ap (λ l. cut.0 ++ l) p.1),
          subst (λ x. SpellsAt bytes (suc k) (before ++ t ∷ cut.0) x) p.0 (joined t before cut.0 q.2 (implies_five q.0 k q.2 other) q.1 refl left cut.2),
        )

    more_sound : (n : ℕ) (before : List Token) (f g : Formula Token) (tokens behind : List Token) → eqb k 4 ≡ false → SpellsAt bytes (suc k) before f → at_most (begins bytes (suc k)) (join_at bytes part) n f tokens ≡ Some (g, behind)
        → (first : List Token) × (tokens ≡ first ++ behind) × SpellsAt bytes (suc k) (before ++ first) g
    more_sound zero before f g tokens behind other left h = elim (stop_or (begins bytes (suc k) tokens) f g tokens behind None h) [
      | inl more ↦ absurd (cc (more.1))
      | inr end ↦ ([], end.2, subst (λ l. SpellsAt bytes (suc k) l g) (sym (append-nil before)) (subst (λ x. SpellsAt bytes (suc k) before x) end.1 left))
    ]
    more_sound (suc n) before f g tokens behind other left h = elim (stop_or (begins bytes (suc k) tokens) f g tokens behind (join_at bytes part f tokens >>= λ x. at_most (begins bytes (suc k)) (join_at bytes part) n x.0 x.1) h) [
      | inl more ↦
          let a = step_of (join_at bytes part f tokens) (λ x. at_most (begins bytes (suc k)) (join_at bytes part) n x.0 x.1) (g, behind) more.1 in
          let one = join_sound before f a.0.0 tokens a.0.1 other left more.0 a.1 in
          let rest = more_sound n (before ++ one.0) a.0.0 g a.0.1 behind other one.2 a.2 in
          (one.0 ++ rest.0, one.1 ∙ ap (λ l. one.0 ++ l) rest.1 ∙ sym (append_assoc one.0 rest.0 behind), subst (λ l. SpellsAt bytes (suc k) l g) (append_assoc before one.0 rest.0) rest.2)
      | inr end ↦ ([], end.2, subst (λ l. SpellsAt bytes (suc k) l g) (sym (append-nil before)) (subst (λ x. SpellsAt bytes (suc k) before x) end.1 left))
    ]

    -- formulas with `=>` between them, and these tokens: a formula after them groups with them to the right
    abbrev Leads : List Token → List (Formula Token) → Type 0
    Leads before fs = (rest : List Token) (g : Formula Token) → SpellsAt bytes (suc k) rest g → SpellsAt bytes (suc k) (before ++ rest) (grouped fs g)

    leads_more : (before last : List Token) (t : Token) (fs : List (Formula Token)) (f : Formula Token) → rank_of Implies ≡ suc k → class_of bytes t ≡ Infix Implies → Leads before fs → SpellsAt bytes k last f → Leads (before ++ (last ++ t ∷ [])) (fs ++ f ∷ [])
    leads_more before last t fs f rank is leads spelled rest g h =
        let whole : (before ++ (last ++ t ∷ [])) ++ rest ≡ before ++ (last ++ t ∷ rest) = append_assoc before (last ++ t ∷ []) rest ∙ ap (λ l. before ++ l) (append_assoc last (t ∷ []) rest) in
        let one = leads (last ++ t ∷ rest) (binary Implies f g) (implied t last rest rank is refl spelled h) in
        subst (λ l. SpellsAt bytes (suc k) l (grouped (fs ++ f ∷ []) g)) (sym whole) (subst (λ x. SpellsAt bytes (suc k) (before ++ (last ++ t ∷ rest)) x) (sym (grouped-push fs f g)) one)

    imply_sound : (fs : List (Formula Token)) (f : Formula Token) (y : Chain) (tokens rest : List Token) → suc k ≡ 5 → begins bytes 5 tokens ≡ true → imply_at part (fs, f) tokens ≡ Some (y, rest)
        → (t : Token) × (last : List Token) × (tokens ≡ t ∷ (last ++ rest)) × (class_of bytes t ≡ Infix Implies) × (y.0 ≡ fs ++ f ∷ []) × SpellsAt bytes k last y.1
    imply_sound fs f y [] rest five goes h = absurd (cc (h))
    imply_sound fs f y (t ∷ ts) rest five goes h =
        let q = infix_read (class_of bytes t) 5 goes in
        let a = step_of (part ts) (λ r. Some ((fs ++ f ∷ [], r.0), r.1)) (y, rest) h in
        let p = pair_same (fs ++ f ∷ [], a.0.0) y a.0.1 rest a.2 in
        let cut = sound ts a.0.1 a.0.0 a.1 in
        (t, cut.0, ap (λ l. t ∷ l) (cut.1 ∙ ap (λ l. cut.0 ++ l) p.1), q.1 ∙ ap (λ o. Infix o) (five_implies q.0 q.2), sym (ap (λ (x : Chain). x.0) p.0), subst (λ x. SpellsAt bytes k cut.0 x) (ap (λ (x : Chain). x.1) p.0) cut.2)

    chain_sound : (n : ℕ) (before last : List Token) (x y : Chain) (tokens behind : List Token) → suc k ≡ 5 → Leads before x.0 → SpellsAt bytes k last x.1 → at_most (begins bytes 5) (imply_at part) n x tokens ≡ Some (y, behind)
        → (first : List Token) × (tokens ≡ first ++ behind) × SpellsAt bytes (suc k) (before ++ (last ++ first)) (grouped y.0 y.1)
    chain_sound zero before last x y tokens behind five leads spelled h = elim (stop_or (begins bytes 5 tokens) x y tokens behind None h) [
      | inl more ↦ absurd (cc (more.1))
      | inr end ↦ ([], end.2, subst (λ (z : Chain). SpellsAt bytes (suc k) (before ++ (last ++ [])) (grouped z.0 z.1)) end.1 (leads (last ++ []) x.1 (alone (subst (λ l. SpellsAt bytes k l x.1) (sym (append-nil last)) spelled))))
    ]
    chain_sound (suc n) before last x y tokens behind five leads spelled h = elim (stop_or (begins bytes 5 tokens) x y tokens behind (imply_at part x tokens >>= λ z. at_most (begins bytes 5) (imply_at part) n z.0 z.1) h) [
      | inl more ↦
          let a = step_of (imply_at part x tokens) (λ z. at_most (begins bytes 5) (imply_at part) n z.0 z.1) (y, behind) more.1 in
          let one = imply_sound x.0 x.1 a.0.0 tokens a.0.1 five more.0 a.1 in
          let t = one.0 in
          let ahead : Leads (before ++ (last ++ t ∷ [])) a.0.0.0 = subst (λ fs. Leads (before ++ (last ++ t ∷ [])) fs) (sym one.4) (leads_more before last t x.0 x.1 (sym five) one.3 leads spelled) in
          let rest = chain_sound n (before ++ (last ++ t ∷ [])) one.1 a.0.0 y a.0.1 behind five ahead one.5 a.2 in
          let whole : (before ++ (last ++ t ∷ [])) ++ (one.1 ++ rest.0) ≡ before ++ (last ++ t ∷ (one.1 ++ rest.0)) = append_assoc before (last ++ t ∷ []) (one.1 ++ rest.0) ∙ ap (λ l. before ++ l) (append_assoc last (t ∷ []) (one.1 ++ rest.0)) in
          (t ∷ (one.1 ++ rest.0), one.2 ∙ ap (λ l. t ∷ (one.1 ++ l)) rest.1 ∙ ap (λ l. t ∷ l) (sym (append_assoc one.1 rest.0 behind)), subst (λ l. SpellsAt bytes (suc k) l (grouped y.0 y.1)) whole rest.2)
      | inr end ↦ ([], end.2, subst (λ (z : Chain). SpellsAt bytes (suc k) (before ++ (last ++ [])) (grouped z.0 z.1)) end.1 (leads (last ++ []) x.1 (alone (subst (λ l. SpellsAt bytes k l x.1) (sym (append-nil last)) spelled))))
    ]

    -- a part and what stands after it
    whole_sound : (tokens rest behind : List Token) (f g : Formula Token) → Cut bytes k tokens rest f → cond (eqb k 4) (implied_at bytes part f rest) (more_at bytes part (suc k) f rest) ≡ Some (g, behind) → Cut bytes (suc k) tokens behind g
    whole_sound tokens rest behind f g cut h = elim (one_of (eqb k 4) (implied_at bytes part f rest) (more_at bytes part (suc k) f rest) (g, behind) h) [
      | inl implies ↦
          let a = step_of (at_most (begins bytes 5) (imply_at part) (length rest) ([], f) rest) (λ r. Some (grouped r.0.0 r.0.1, r.1)) (g, behind) implies.1 in
          let p = pair_same (grouped a.0.0.0 a.0.0.1) g a.0.1 behind a.2 in
          let chain = chain_sound (length rest) [] cut.0 ([], f) a.0.0 rest a.0.1 (let four = eqb-true k 4 implies.0 in omega (arith, four)) (λ l x spelled. spelled) cut.2 a.1 in
          (cut.0 ++ chain.0, cut.1 ∙ ap (λ l. cut.0 ++ l) chain.1 ∙ sym (append_assoc cut.0 chain.0 a.0.1) ∙ ap (λ l. (cut.0 ++ chain.0) ++ l) p.1, subst (λ x. SpellsAt bytes (suc k) (cut.0 ++ chain.0) x) p.0 chain.2)
      | inr others ↦
          let more = more_sound (length rest) cut.0 f g rest behind others.0 (alone cut.2) others.1 in
          (cut.0 ++ more.0, cut.1 ∙ ap (λ l. cut.0 ++ l) more.1 ∙ sym (append_assoc cut.0 more.0 behind), more.2)
    ]

  part_sound : (inner : List Token → Option Read) → IsSound bytes 6 inner → (k : ℕ) → IsSound bytes k (part_at bytes inner k)
  part_sound inner sound zero tokens behind f h = operand_sound inner sound tokens behind f h
  part_sound inner sound (suc k) tokens behind f h =
      let a = step_of (part_at bytes inner k tokens) (λ r. cond (eqb k 4) (implied_at bytes (part_at bytes inner k) r.0 r.1) (more_at bytes (part_at bytes inner k) (suc k) r.0 r.1)) (f, behind) h in
      whole_sound (part_at bytes inner k) k (part_sound inner sound k) tokens a.0.1 behind a.0.0 f (part_sound inner sound k tokens a.0.1 a.0.0 a.1) a.2

  from_sound : (n : ℕ) → IsSound bytes 6 (formula_from bytes n)
  unfolding formula_from
  from_sound zero tokens behind f h = absurd (cc)
  from_sound (suc n) tokens behind f h = part_sound (formula_from bytes n) (from_sound n) 6 tokens behind f h

  end_read : (f g : Formula Token) (rest : List Token) → at_end (f, rest) ≡ Some g → (f ≡ g) × (rest ≡ [])
  end_read f g [] h = (cc, refl)
  end_read f g (t ∷ ts) h = absurd (cc)

  pub formula_sound : (tokens : List Token) (f : Formula Token) → formula_at bytes tokens ≡ Some f → Spells bytes tokens f
  unfolding Spells
  formula_sound tokens f h =
      let a = step_of (part_at bytes (formula_from bytes (length tokens)) 6 tokens) at_end f h in
      let p = end_read a.0.0 f a.0.1 a.2 in
      let cut = part_sound (formula_from bytes (length tokens)) (from_sound (length tokens)) 6 tokens a.0.1 a.0.0 a.1 in
      let whole : cut.0 ≡ tokens = sym (append-nil cut.0) ∙ ap (λ l. cut.0 ++ l) (sym p.1) ∙ sym cut.1 in
      subst (λ x. SpellsAt bytes 6 tokens x) p.0 (subst (λ l. SpellsAt bytes 6 l a.0.0) whole cut.2)

  -- ---- what the tokens spell is read

  -- what stands after is no operator of a rank up to this one
  abbrev Ends : ℕ → List Token → Type 0
  Ends k behind = (rank : ℕ) → rank ≤ k → begins bytes rank behind ≡ false

  ends_less : (j k : ℕ) (behind : List Token) → j ≤ k → Ends k behind → Ends j behind
  ends_less j k behind le ends rank low = ends rank (omega (arith, low, le))

  -- after an operator of a rank
  ends_at : (t : Token) (ts : List Token) (op : Binary) (j : ℕ) → class_of bytes t ≡ Infix op → rank_of op ≡ suc j → Ends j (t ∷ ts)
  ends_at t ts op j is rank r low = ap (λ c. is_infix r c) is ∙ (elim (eqb_tells (rank_of op) r) [ inl same ↦ absurd (omega (arith, same.1, rank, low)) | inr differs ↦ differs.0 ])

  begins_at : (t : Token) (ts : List Token) (op : Binary) (j : ℕ) → class_of bytes t ≡ Infix op → rank_of op ≡ suc j → begins bytes (suc j) (t ∷ ts) ≡ true
  begins_at t ts op j is rank = ap (λ c. is_infix (suc j) c) is ∙ (elim (eqb_tells (rank_of op) (suc j)) [ inl same ↦ same.0 | inr differs ↦ absurd (differs.1 rank) ])

  -- after a ")"
  ends_closed : (t : Token) (ts : List Token) (k : ℕ) → class_of bytes t ≡ Close → Ends k (t ∷ ts)
  ends_closed t ts k is r low = ap (λ c. is_infix r c) is

  module _ {X : Type 0} (goes_on : List Token → Bool) (item : X → List Token → Option (X × List Token)) where
    stops : (n : ℕ) (x : X) (tokens : List Token) → goes_on tokens ≡ false → at_most goes_on item n x tokens ≡ Some (x, tokens)
    stops zero x tokens h = rw h refl
    stops (suc n) x tokens h = rw h refl

    goes : (n : ℕ) (x y : X) (tokens behind : List Token) → goes_on tokens ≡ true → item x tokens ≡ Some (y, behind) → at_most goes_on item (suc n) x tokens ≡ at_most goes_on item n y behind
    goes n x y tokens behind h some = rw (h, some) refl

  -- the formula is read, and what stands after it is left
  abbrev Reads : ℕ → List Token → Formula Token → Type 0
  Reads k first f = (n : ℕ) (behind : List Token) → Ends k behind → length (first ++ behind) ≤ n → part_at bytes (formula_from bytes n) k (first ++ behind) ≡ Some (f, behind)

  -- the operators of a rank go on from the formula
  record GoesOn (part : List Token → Option Read) (k : ℕ) (tokens behind : List Token) (f : Formula Token) : Type 0 where
    first : Formula Token
    rest : List Token
    read : part tokens ≡ Some (first, rest)
    left : ℕ
    enough : length behind ≤ left
    whole : at_most (begins bytes (suc k)) (join_at bytes part) (length rest) first rest ≡ at_most (begins bytes (suc k)) (join_at bytes part) left f behind

  abbrev Loops : ℕ → List Token → Formula Token → Type 0
  Loops k first f = (n : ℕ) (behind : List Token) → Ends k behind → length (first ++ behind) ≤ n → GoesOn (part_at bytes (formula_from bytes n) k) k (first ++ behind) behind f

  -- the formula is the last of those with `=>` between them
  record Closes (part : List Token → Option Read) (tokens behind : List Token) (f : Formula Token) : Type 0 where
    first : Formula Token
    rest : List Token
    read : part tokens ≡ Some (first, rest)
    whole : (fs : List (Formula Token)) (left : ℕ) → length rest ≤ left → group (at_most (begins bytes 5) (imply_at part) left (fs, first) rest) ≡ Some (grouped fs f, behind)

  abbrev Chains : ℕ → List Token → Formula Token → Type 0
  Chains k first f = (n : ℕ) (behind : List Token) → Ends (suc k) behind → length (first ++ behind) ≤ n → Closes (part_at bytes (formula_from bytes n) k) (first ++ behind) behind f

  record Complete (rank : ℕ) (first : List Token) (f : Formula Token) : Type 0 where
    reads : Reads rank first f
    loops : (k : ℕ) → rank ≡ suc k → eqb k 4 ≡ false → Loops k first f
    chains : (k : ℕ) → rank ≡ suc k → eqb k 4 ≡ true → Chains k first f

  -- the rules of a rank, from its loop or its chain
  reads_loop : (k : ℕ) (first : List Token) (f : Formula Token) → eqb k 4 ≡ false → Loops k first f → Reads (suc k) first f
  reads_loop k first f other loops n behind ends few =
      let s = loops n behind (ends_less k (suc k) behind (omega arith) ends) few in
      rw (s.read, other) (s.whole ∙ stops (begins bytes (suc k)) (join_at bytes (part_at bytes (formula_from bytes n) k)) s.left f behind (ends (suc k) (omega arith)))

  reads_chain : (k : ℕ) (first : List Token) (f : Formula Token) → eqb k 4 ≡ true → Chains k first f → Reads (suc k) first f
  reads_chain k first f four chains n behind ends few =
      let s = chains n behind ends few in
      rw (s.read, four) (s.whole [] (length s.rest) (omega arith))

  by_rank : (k : ℕ) (first : List Token) (f : Formula Token) → (eqb k 4 ≡ false → Loops k first f) → (eqb k 4 ≡ true → Chains k first f) → Complete (suc k) first f
  by_rank k first f loops chains = record {
    reads = elim (cases_Bool (eqb k 4)) [ inl four ↦ reads_chain k first f four (chains four) | inr other ↦ reads_loop k first f other (loops other) ];
    loops = λ j e other. let same : k ≡ j = omega (arith, e) in subst (λ i. Loops i first f) same (loops (ap (λ i. eqb i 4) same ∙ other));
    chains = λ j e four. let same : k ≡ j = omega (arith, e) in subst (λ i. Chains i first f) same (chains (ap (λ i. eqb i 4) same ∙ four));
  }

  -- one part alone
  alone_loops : (k : ℕ) (first : List Token) (f : Formula Token) → Reads k first f → Loops k first f
  alone_loops k first f reads n behind ends few = record { first = f; rest = behind; read = reads n behind ends few; left = length behind; enough = omega arith; whole = refl }

  alone_chains : (k : ℕ) (first : List Token) (f : Formula Token) → eqb k 4 ≡ true → Reads k first f → Chains k first f
  alone_chains k first f four reads n behind ends few =
      let part = part_at bytes (formula_from bytes n) k in
      let five : 5 ≤ suc k = omega (arith, eqb-true k 4 four) in
      record {
        first = f;
        rest = behind;
        read = reads n behind (ends_less k (suc k) behind (omega arith) ends) few;
        whole = λ fs left le. ap group (stops (begins bytes 5) (imply_at part) left (fs, f) behind (ends 5 five));
      }

  -- an operator and its right part
  join_front : (part : List Token → Option Read) (t : Token) (ts behind : List Token) (op : Binary) (f g : Formula Token) → class_of bytes t ≡ Infix op → part ts ≡ Some (g, behind) → join_at bytes part f (t ∷ ts) ≡ Some (binary op f g, behind)
  join_front part t ts behind op f g is right = rw (is, right) refl

  loop_more : (part : List Token → Option Read) (k : ℕ) (t : Token) (ts behind : List Token) (op : Binary) (f g : Formula Token) (left : ℕ) → class_of bytes t ≡ Infix op → rank_of op ≡ suc k → part ts ≡ Some (g, behind) → length (t ∷ ts) ≤ left → length behind ≤ length ts
      → (more : ℕ) × (length behind ≤ more) × (at_most (begins bytes (suc k)) (join_at bytes part) left f (t ∷ ts) ≡ at_most (begins bytes (suc k)) (join_at bytes part) more (binary op f g) behind)
  loop_more part k t ts behind op f g zero is rank right enough fewer = absurd (omega (arith, enough))
  loop_more part k t ts behind op f g (suc left) is rank right enough fewer = (left, omega (arith, enough, fewer), goes (begins bytes (suc k)) (join_at bytes part) left f (binary op f g) (t ∷ ts) behind (begins_at t ts op k is rank) (join_front part t ts behind op f g is right))

  joined_loops : (k : ℕ) (t : Token) (left right tokens : List Token) (op : Binary) (f g : Formula Token) → class_of bytes t ≡ Infix op → rank_of op ≡ suc k → tokens ≡ left ++ t ∷ right → Loops k left f → Reads k right g → Loops k tokens (binary op f g)
  joined_loops k t left right tokens op f g is rank cut first second n behind ends few =
      let part = part_at bytes (formula_from bytes n) k in
      let whole : tokens ++ behind ≡ left ++ t ∷ (right ++ behind) = ap (λ l. l ++ behind) cut ∙ append_assoc left (t ∷ right) behind in
      let count : length (left ++ t ∷ (right ++ behind)) ≤ n = omega (arith, few, ap (λ (l : List Token). length l) whole) in
      let s = first n (t ∷ (right ++ behind)) (ends_at t (right ++ behind) op k is rank) count in
      let read : part (right ++ behind) ≡ Some (g, behind) = second n behind ends (omega (arith, count, length-append left (t ∷ (right ++ behind)))) in
      let more = loop_more part k t (right ++ behind) behind op f g s.left is rank read s.enough (omega (arith, length-append right behind)) in
      record { first = s.first; rest = s.rest; read = ap part whole ∙ s.read; left = more.0; enough = more.1; whole = s.whole ∙ more.2 }

  -- `=>` and its right part
  chain_more : (part : List Token → Option Read) (t : Token) (ts behind rest : List Token) (fs : List (Formula Token)) (f g first : Formula Token) (left : ℕ) → class_of bytes t ≡ Infix Implies → part ts ≡ Some (first, rest) → length (t ∷ ts) ≤ left → length rest ≤ length ts
      → ((more : ℕ) → length rest ≤ more → group (at_most (begins bytes 5) (imply_at part) more (fs ++ f ∷ [], first) rest) ≡ Some (grouped (fs ++ f ∷ []) g, behind))
      → group (at_most (begins bytes 5) (imply_at part) left (fs, f) (t ∷ ts)) ≡ Some (grouped fs (binary Implies f g), behind)
  chain_more part t ts behind rest fs f g first zero is right enough fewer whole = absurd (omega (arith, enough))
  chain_more part t ts behind rest fs f g first (suc left) is right enough fewer whole =
      let imply : imply_at part (fs, f) (t ∷ ts) ≡ Some ((fs ++ f ∷ [], first), rest) = rw right refl in
      ap group (goes (begins bytes 5) (imply_at part) left (fs, f) (fs ++ f ∷ [], first) (t ∷ ts) rest (begins_at t ts Implies 4 is refl) imply)
      ∙ whole left (omega (arith, enough, fewer)) ∙ ap (λ x. Some (x, behind)) (grouped-push fs f g)

  -- what a part leaves is no more than what it was given
  cut_fewer : (k : ℕ) (tokens behind : List Token) (f : Formula Token) → Cut bytes k tokens behind f → length behind ≤ length tokens
  cut_fewer k tokens behind f cut = omega (arith, ap (λ (l : List Token). length l) cut.1, length-append cut.0 behind)

  implied_chains : (k : ℕ) (t : Token) (left right tokens : List Token) (f g : Formula Token) → eqb k 4 ≡ true → class_of bytes t ≡ Infix Implies → rank_of Implies ≡ suc k → tokens ≡ left ++ t ∷ right → Reads k left f → Chains k right g → Chains k tokens (binary Implies f g)
  implied_chains k t left right tokens f g four is rank cut first second n behind ends few =
      let inner = formula_from bytes n in
      let part = part_at bytes inner k in
      let whole : tokens ++ behind ≡ left ++ t ∷ (right ++ behind) = ap (λ l. l ++ behind) cut ∙ append_assoc left (t ∷ right) behind in
      let count : length (left ++ t ∷ (right ++ behind)) ≤ n = omega (arith, few, ap (λ (l : List Token). length l) whole) in
      let s = second n behind ends (omega (arith, count, length-append left (t ∷ (right ++ behind)))) in
      let fewer = cut_fewer k (right ++ behind) s.rest s.first (part_sound inner (from_sound n) k (right ++ behind) s.rest s.first s.read) in
      record {
        first = f;
        rest = t ∷ (right ++ behind);
        read = ap part whole ∙ first n (t ∷ (right ++ behind)) (ends_at t (right ++ behind) Implies k is rank) count;
        whole = λ fs more enough. chain_more part t (right ++ behind) behind s.rest fs f g s.first more is s.read enough fewer (λ m le. s.whole (fs ++ f ∷ []) m le);
      }

  -- operators of one part, and atoms
  prefixed_reads : (t : Token) (rest tokens : List Token) (op : Unary) (f : Formula Token) → class_of bytes t ≡ Prefix op → tokens ≡ t ∷ rest → Reads zero rest f → Reads zero tokens (unary op f)
  prefixed_reads t rest tokens op f is cut reads n behind ends few =
      let inner = formula_from bytes n in
      let whole : tokens ++ behind ≡ t ∷ (rest ++ behind) = ap (λ l. l ++ behind) cut in
      let part = reads n behind ends (omega (arith, few, ap (λ (l : List Token). length l) whole)) in
      ap (λ l. operand_at bytes inner l) whole ∙ ap (λ c. operand_by c (operand_at bytes inner (rest ++ behind)) (atom_at bytes inner (t ∷ (rest ++ behind)))) is ∙ ap (λ r. over op r) part

  named_reads : (t : Token) (tokens : List Token) → class_of bytes t ≡ Name → tokens ≡ t ∷ [] → Reads zero tokens (event t)
  unfolding atom_at
  named_reads t tokens is cut n behind ends few = ap (λ l. operand_at bytes (formula_from bytes n) (l ++ behind)) cut ∙ rw is refl

  truth_reads : (t : Token) (tokens : List Token) (b : Bool) → class_of bytes t ≡ Constant b → tokens ≡ t ∷ [] → Reads zero tokens (constant b)
  unfolding atom_at
  truth_reads t tokens b is cut n behind ends few = ap (λ l. operand_at bytes (formula_from bytes n) (l ++ behind)) cut ∙ rw is refl

  nested_front : (opening closing : Token) (inner behind : List Token) (f : Formula Token) (n : ℕ) → class_of bytes opening ≡ Open → class_of bytes closing ≡ Close → part_at bytes (formula_from bytes n) 6 (inner ++ closing ∷ behind) ≡ Some (f, closing ∷ behind)
      → operand_at bytes (formula_from bytes (suc n)) (opening ∷ (inner ++ closing ∷ behind)) ≡ Some (f, behind)
  unfolding atom_at formula_from
  nested_front opening closing inner behind f n is close read = rw (is, read, close) refl

  nested_reads : (opening closing : Token) (inner tokens : List Token) (f : Formula Token) → class_of bytes opening ≡ Open → class_of bytes closing ≡ Close → tokens ≡ opening ∷ (inner ++ closing ∷ []) → Reads 6 inner f → Reads zero tokens f
  nested_reads opening closing inner tokens f is close cut reads zero behind ends few = absurd (omega (arith, few, ap (λ (l : List Token). length (l ++ behind)) cut))
  nested_reads opening closing inner tokens f is close cut reads (suc n) behind ends few =
      let whole : tokens ++ behind ≡ opening ∷ (inner ++ closing ∷ behind) = ap (λ l. l ++ behind) cut ∙ ap (λ l. opening ∷ l) (append_assoc inner (closing ∷ []) behind) in
      let count : length (inner ++ closing ∷ behind) ≤ n = omega (arith, few, ap (λ (l : List Token). length l) whole) in
      ap (λ l. operand_at bytes (formula_from bytes (suc n)) l) whole ∙ nested_front opening closing inner behind f n is close (reads n (closing ∷ behind) (ends_closed closing behind 6 close) count)

  -- rank 0 has neither a loop nor a chain
  lowest : (first : List Token) (f : Formula Token) → Reads zero first f → Complete zero first f
  lowest first f reads = record { reads = reads; loops = λ k e. absurd (omega (arith, e)); chains = λ k e. absurd (omega (arith, e)) }

  four_implies : (op : Binary) (k : ℕ) → rank_of op ≡ suc k → (op ≡ Implies → ⊥) → eqb k 4 ≡ true → ⊥
  four_implies op k rank other four = other (five_implies op (rank ∙ omega (arith, eqb-true k 4 four)))

  implies_four : (k : ℕ) → rank_of Implies ≡ suc k → eqb k 4 ≡ false → ⊥
  implies_four k rank other = elim (eqb_tells k 4) [ inl same ↦ absurd (let x = same.0 in cc (x, other)) | inr differs ↦ differs.1 (omega (arith, rank)) ]

  complete : {k : ℕ} {tokens : List Token} {f : Formula Token} → SpellsAt bytes k tokens f → Complete k tokens f
  complete (alone {k} {tokens} {f} h) = let part = complete h in by_rank k tokens f (λ other. alone_loops k tokens f part.reads) (λ four. alone_chains k tokens f four part.reads)
  complete (joined {k} {tokens} {f} {g} {op} t left right rank other is cut first second) =
      by_rank k tokens (binary op f g) (λ apart. joined_loops k t left right tokens op f g is rank cut ((complete first).loops k refl apart) (complete second).reads) (λ four. absurd (four_implies op k rank other four))
  complete (implied {k} {tokens} {f} {g} t left right rank is cut first second) =
      by_rank k tokens (binary Implies f g) (λ apart. absurd (implies_four k rank apart)) (λ four. implied_chains k t left right tokens f g four is rank cut (complete first).reads ((complete second).chains k refl four))
  complete (prefixed {tokens} {f} {op} t rest is cut h) = lowest tokens (unary op f) (prefixed_reads t rest tokens op f is cut (complete h).reads)
  complete (named {tokens} {t} is cut) = lowest tokens (event t) (named_reads t tokens is cut)
  complete (truth {tokens} {b} t is cut) = lowest tokens (constant b) (truth_reads t tokens b is cut)
  complete (nested {tokens} {f} opening closing inner is close cut h) = lowest tokens f (nested_reads opening closing inner tokens f is close cut (complete h).reads)

  -- the formula that the tokens spell is read
  pub formula_complete : (tokens : List Token) (f : Formula Token) → Spells bytes tokens f → formula_at bytes tokens ≡ Some f
  unfolding Spells
  formula_complete tokens f h =
      let read = (complete h).reads (length tokens) [] (λ rank low. refl) (omega (arith, length-append tokens [])) in
      ap (λ l. part_at bytes (formula_from bytes (length tokens)) 6 l >>= at_end) (sym (append-nil tokens)) ∙ ap (λ r. r >>= at_end) read

  -- where nothing is read, nothing is spelled
  pub formula_none : (tokens : List Token) (f : Formula Token) → formula_at bytes tokens ≡ None → Spells bytes tokens f → ⊥
  formula_none tokens f none h = let some = formula_complete tokens f h in absurd (cc)

one_read : (read : Option (Formula Token)) (f g : Formula Token) → read ≡ Some f → read ≡ Some g → f ≡ g
one_read read f g h k = cc

-- no tokens spell two formulas
pub one_formula : (bytes : List ℕ) (tokens : List Token) (f g : Formula Token) → Spells bytes tokens f → Spells bytes tokens g → f ≡ g
one_formula bytes tokens f g h k = one_read (formula_at bytes tokens) f g (formula_complete bytes tokens f h) (formula_complete bytes tokens g k)
