-- Items of a rule one after the other, and what they spell.
use Rattle.std.proofs.Common.{◌≡◌, ℕ, zero, suc, ◌<◌, ◌≤◌, Bool, true, false, List, [], ◌∷◌, ◌++◌, length, Some, None, refl, sym, ap, subst, ◌∙◌, inl, inr, arith, append_assoc, append-nil, length-append}
use Rattle.jm_text.specs.declared.token.Token.{Token}
use Rattle.jm_reading.specs.Reading.{mark_at, at_most}
use Rattle.jm_reading.specs.Taking.{Rule, folded_at, with_item, many_at, more_at, parted_at}
use Rattle.jm_reading.specs.Tokens.{IsMark, SpellsEach, SpellsMore, SpellsParted}
use Rattle.jm_reading.proofs.TokenLemmas.{mark_is, mark_read, step_of, one_of}
use Rattle.jm_reading.proofs.LoopLemmas.{items_stop, items_go}

module _ {X : Type 0} (goes : List ℕ → List Token → Bool) (rule : Rule X) (bytes : List ℕ) (SpellsOne : List Token → X → Type 0) where
  -- the tokens that are taken spell what is read
  abbrev pub IsSoundRule : Type 0
  IsSoundRule = (tokens behind : List Token) (x : X) → rule bytes tokens ≡ Some (x, behind) → (first : List Token) × (tokens ≡ first ++ behind) × SpellsOne first x

  -- what is read after other items, and the tokens after it
  pub record Spelled (xs ys : List X) (tokens behind : List Token) : Type 0 where
    pub inner : List Token
    pub more : List X
    pub cut : tokens ≡ inner ++ behind
    pub added : ys ≡ xs ++ more
    pub spelled : SpellsEach SpellsOne inner more
    pub ended : goes bytes behind ≡ false

  none_more : (xs ys : List X) (tokens behind : List Token) → goes bytes tokens ≡ false → ◌≡◌ {A = List X × List Token} (xs, tokens) (ys, behind) → Spelled xs ys tokens behind
  none_more xs ys tokens behind h e = record {
    inner = [];
    more = [];
    cut = ap (λ (x : List X × List Token). x.1) e;
    added = sym (ap (λ (x : List X × List Token). x.0) e) ∙ sym (append-nil xs);
    spelled = refl;
    ended = subst (λ (x : List X × List Token). goes bytes x.1 ≡ false) e h;
  }

  one_more : (xs zs ys : List X) (tokens rest behind first : List Token) (x : X) → tokens ≡ first ++ rest → zs ≡ xs ++ x ∷ [] → SpellsOne first x → Spelled zs ys rest behind → Spelled xs ys tokens behind
  one_more xs zs ys tokens rest behind first x cut is spelled more = record {
    inner = first ++ more.inner;
    more = x ∷ more.more;
    cut = cut ∙ ap (λ (l : List Token). first ++ l) more.cut ∙ sym (append_assoc first more.inner behind);
    added = more.added ∙ ap (λ (l : List X). l ++ more.more) is ∙ append_assoc xs (x ∷ []) more.more;
    spelled = (first, more.inner, refl, spelled, more.spelled);
    ended = more.ended;
  }

  each_read : IsSoundRule → (n : ℕ) (xs ys : List X) (tokens behind : List Token) → at_most (goes bytes) (λ xs. with_item rule xs bytes) n xs tokens ≡ Some (ys, behind) → Spelled xs ys tokens behind
  each_read sound zero xs ys tokens behind h = elim (one_of (goes bytes tokens) None (Some (xs, tokens)) (ys, behind) h) [
    | inl more ↦ absurd (cc (more.1))
    | inr end ↦ none_more xs ys tokens behind end.0 (cc (end.1))
  ]
  each_read sound (suc n) xs ys tokens behind h = elim (one_of (goes bytes tokens) _ (Some (xs, tokens)) (ys, behind) h) [
    | inl more ↦
        let step = step_of (with_item rule xs bytes tokens) _ (ys, behind) more.1 in
        let item = step_of (rule bytes tokens) _ step.0 step.1 in
        let one = sound tokens item.0.1 item.0.0 item.1 in
        let e : ◌≡◌ {A = List X × List Token} (xs ++ item.0.0 ∷ [], item.0.1) step.0 = cc (item.2) in
        one_more xs step.0.0 ys tokens step.0.1 behind one.0 item.0.0 (one.1 ∙ ap (λ (x : List X × List Token). one.0 ++ x.1) e) (sym (ap (λ (x : List X × List Token). x.0) e)) one.2
        (each_read sound n step.0.0 ys step.0.1 behind step.2)
    | inr end ↦ none_more xs ys tokens behind end.0 (cc (end.1))
  ]

  pub many_sound : IsSoundRule → (xs ys : List X) (tokens behind : List Token) → many_at goes rule xs bytes tokens ≡ Some (ys, behind) → Spelled xs ys tokens behind
  unfolding folded_at
  many_sound sound xs ys tokens behind h = each_read sound (length tokens) xs ys tokens behind h

  -- the tokens that spell an item are taken, where what follows begins as it must
  pub record IsCompleteRule (Follows : List Token → Type 0) : Type 0 where
    pub reads : (first behind : List Token) (x : X) → SpellsOne first x → Follows behind → rule bytes (first ++ behind) ≡ Some (x, behind)
    pub begins : (first behind : List Token) (x : X) → SpellsOne first x → goes bytes (first ++ behind) ≡ true
    pub follows : (first behind : List Token) (x : X) → SpellsOne first x → Follows (first ++ behind)
    pub some : (first : List Token) (x : X) → SpellsOne first x → 0 < length first

  module _ (Follows : List Token → Type 0) (complete : IsCompleteRule Follows) where
    pub after_many : (inner behind : List Token) (xs : List X) → SpellsEach SpellsOne inner xs → Follows behind → Follows (inner ++ behind)
    after_many inner behind [] h f = subst (λ (l : List Token). Follows (l ++ behind)) (sym h) f
    after_many inner behind (x ∷ xs) h f =
        let whole : inner ++ behind ≡ h.0 ++ (h.1 ++ behind) = ap (λ (l : List Token). l ++ behind) h.2 ∙ append_assoc h.0 h.1 behind in
        subst Follows (sym whole) (complete.follows h.0 (h.1 ++ behind) x h.3)

    read_each : (n : ℕ) (ys : List X) (inner behind : List Token) (xs : List X) → SpellsEach SpellsOne inner xs → Follows behind → goes bytes behind ≡ false → length (inner ++ behind) ≤ n → at_most (goes bytes) (λ xs. with_item rule xs bytes) n ys (inner ++ behind) ≡ Some (ys ++ xs, behind)
    read_each n ys inner behind [] h f end few =
        subst (λ (l : List Token). at_most (goes bytes) (λ xs. with_item rule xs bytes) n ys (l ++ behind) ≡ Some (ys ++ [], behind)) (sym h)
        (items_stop (goes bytes) (λ xs. with_item rule xs bytes) n ys behind end ∙ ap (λ (l : List X). Some (l, behind)) (sym (append-nil ys)))
    read_each zero ys inner behind (x ∷ xs) h f end few = absurd (omega (arith, few, length-append inner behind, ap (λ (l : List Token). length l) h.2, length-append h.0 h.1, complete.some h.0 x h.3))
    read_each (suc n) ys inner behind (x ∷ xs) h f end few =
        let whole : inner ++ behind ≡ h.0 ++ (h.1 ++ behind) = ap (λ (l : List Token). l ++ behind) h.2 ∙ append_assoc h.0 h.1 behind in
        let fewer : length (h.1 ++ behind) ≤ n = omega (arith, few, ap (λ (l : List Token). length l) whole, length-append h.0 (h.1 ++ behind), complete.some h.0 x h.3) in
        subst (λ (l : List Token). at_most (goes bytes) (λ xs. with_item rule xs bytes) (suc n) ys l ≡ Some (ys ++ x ∷ xs, behind)) (sym whole)
        (items_go (goes bytes) (λ xs. with_item rule xs bytes) n ys (ys ++ x ∷ []) (h.0 ++ (h.1 ++ behind)) (h.1 ++ behind) (complete.begins h.0 (h.1 ++ behind) x h.3) (rw (complete.reads h.0 (h.1 ++ behind) x h.3 (after_many h.1 behind xs h.4 f)) refl)
        ∙ read_each n (ys ++ x ∷ []) h.1 behind xs h.4 f end fewer
        ∙ ap (λ (l : List X). Some (l, behind)) (append_assoc ys (x ∷ []) xs))

    pub many_complete : (ys : List X) (inner behind : List Token) (xs : List X) → SpellsEach SpellsOne inner xs → Follows behind → goes bytes behind ≡ false → many_at goes rule ys bytes (inner ++ behind) ≡ Some (ys ++ xs, behind)
    unfolding folded_at
    many_complete ys inner behind xs h f end = read_each (length (inner ++ behind)) ys inner behind xs h f end (omega arith)

-- ---- the same of items with a mark between each two

module _ {X : Type 0} (mark : List ℕ) (goes : List ℕ → List Token → Bool) (rule : Rule X) (bytes : List ℕ) (SpellsOne : List Token → X → Type 0) where
  module _ (sound : IsSoundRule goes rule bytes SpellsOne) where
    more_sound : IsSoundRule goes (more_at mark rule) bytes (SpellsMore bytes mark SpellsOne)
    more_sound tokens behind x h =
        let a = step_of (mark_at bytes mark tokens) _ _ h in
        let between = mark_read bytes mark tokens a.0 a.1 in
        let item = sound a.0 behind x a.2 in
        (between.token ∷ item.0, between.cut ∙ ap (λ (l : List Token). between.token ∷ l) item.1, (between.token, item.0, refl, between.is, item.2))

    pub parted_sound : (tokens behind : List Token) (ys : List X) → parted_at mark rule goes bytes tokens ≡ Some (ys, behind) → (inner : List Token) × (tokens ≡ inner ++ behind) × SpellsParted bytes mark SpellsOne inner ys × (goes bytes behind ≡ false)
    unfolding parted_at
    parted_sound tokens behind ys h =
        let a = step_of (rule bytes tokens) _ _ h in
        let item = sound tokens a.0.1 a.0.0 a.1 in
        let rest = many_sound goes (more_at mark rule) bytes (SpellsMore bytes mark SpellsOne) more_sound (a.0.0 ∷ []) ys a.0.1 behind a.2 in (
          item.0 ++ rest.inner,
          item.1 ∙ ap (λ (l : List Token). item.0 ++ l) rest.cut ∙ sym (append_assoc item.0 rest.inner behind),
          subst (λ (l : List X). SpellsParted bytes mark SpellsOne (item.0 ++ rest.inner) l) (sym rest.added) (item.0, rest.inner, refl, item.2, rest.spelled),
          rest.ended,
        )

  module _ (Follows : List Token → Type 0) (reads : (first behind : List Token) (x : X) → SpellsOne first x → Follows behind → rule bytes (first ++ behind) ≡ Some (x, behind))
      (marked : (between : Token) (ts : List Token) → IsMark bytes mark between → Follows (between ∷ ts)) (begins : (between : Token) (ts : List Token) → IsMark bytes mark between → goes bytes (between ∷ ts) ≡ true) where
    more_complete : IsCompleteRule goes (more_at mark rule) bytes (SpellsMore bytes mark SpellsOne) Follows
    more_complete = record {
      reads = λ first behind x h follows. subst (λ (l : List Token). more_at mark rule bytes (l ++ behind) ≡ Some (x, behind)) (sym h.2) (rw (mark_is bytes mark h.0 (h.1 ++ behind) h.3) (reads h.1 behind x h.4 follows));
      begins = λ first behind x h. subst (λ (l : List Token). goes bytes (l ++ behind) ≡ true) (sym h.2) (begins h.0 (h.1 ++ behind) h.3);
      follows = λ first behind x h. subst (λ (l : List Token). Follows (l ++ behind)) (sym h.2) (marked h.0 (h.1 ++ behind) h.3);
      some = λ first x h. omega (arith, ap (λ (l : List Token). length l) h.2);
    }

    pub parted_complete : (inner behind : List Token) (ys : List X) → SpellsParted bytes mark SpellsOne inner ys → Follows behind → goes bytes behind ≡ false → parted_at mark rule goes bytes (inner ++ behind) ≡ Some (ys, behind)
    unfolding parted_at
    parted_complete inner behind [] h follows end = absurd h
    parted_complete inner behind (x ∷ xs) h follows end =
        let whole : inner ++ behind ≡ h.0 ++ (h.1 ++ behind) = ap (λ (l : List Token). l ++ behind) h.2 ∙ append_assoc h.0 h.1 behind in
        let one = reads h.0 (h.1 ++ behind) x h.3 (after_many goes (more_at mark rule) bytes (SpellsMore bytes mark SpellsOne) Follows more_complete h.1 behind xs h.4 follows) in
        rw (whole, one) (many_complete goes (more_at mark rule) bytes (SpellsMore bytes mark SpellsOne) Follows more_complete (x ∷ []) h.1 behind xs h.4 follows end)
