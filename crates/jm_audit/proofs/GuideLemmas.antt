use Rattle.std.proofs.Common.{◌≡◌, ◌≢◌, ℕ, [], ◌∷◌, ◌++◌, refl, sym, ap, ◌∙◌, subst, inl, inr, ◌≤◌, true, arith, eq-eqb}
use Rattle.std.specs.Prelude.{◌⊎◌, ◌==◌}
use Rattle.std.proofs.lemmas.List.{append_assoc}
use mathlib.Core.List.{IsPrefix}
use Rattle.jm_model.specs.Words.{Text}
use Rattle.jm_audit.specs.Guides.{EndsLine, IsOneLine, said, Says, stop, go, Picks, Guided, stopped, follows, leaves, AreDetermined}
use Rattle.jm_audit.specs.Fronts.{feeds, agreeing}

-- a prefix of two texts one after the other is one of the first, or goes on in the second
cut : (p a v : Text) → IsPrefix p (a ++ v) → IsPrefix p a ⊎ ((q : Text) × (p ≡ a ++ q) × IsPrefix q v)
cut p [] v h = inr (p, refl, h)
cut [] (x ∷ a) v h = inl (x ∷ a, refl)
cut (c ∷ p) (x ∷ a) v h =
    let e = h.1 in
    let hd : c ≡ x = cc (e) in
    let tl : p ++ h.0 ≡ a ++ v = cc (e) in
    elim (cut p a v (h.0, tl)) [
      | inl within ↦ inl (within.0, cc (hd, within.1))
      | inr beyond ↦ inr (beyond.0, cc (hd, beyond.1), beyond.2)
    ]

-- whole lines after a text are whole lines
lines_behind : (a q : Text) → EndsLine (a ++ q) → EndsLine q
lines_behind [] q h = h
lines_behind (x ∷ []) [] h = tt
lines_behind (x ∷ []) (c ∷ q) h = h
lines_behind (x ∷ y ∷ a) q h = lines_behind (y ∷ a) q h

-- whole lines that begin as a line does have that line
has_line : (line w p : Text) → IsOneLine line → EndsLine p → p ≢ [] → IsPrefix p (line ++ 10 ∷ w) → IsPrefix (line ++ 10 ∷ []) p
has_line line w [] one ends some h = absurd (some refl)
has_line [] w (c ∷ p) one ends some h =
    let e = h.1 in
    let hd : c ≡ 10 = cc (e) in
    (p, cc (hd))
has_line (l ∷ line) w (c ∷ []) one ends some h =
    let e = h.1 in
    let hd : c ≡ l = cc (e) in
    absurd (one.0 (sym hd ∙ ends))
has_line (l ∷ line) w (c ∷ d ∷ p) one ends some h =
    let e = h.1 in
    let hd : c ≡ l = cc (e) in
    let tl : (d ∷ p) ++ h.0 ≡ line ++ 10 ∷ w = cc (e) in
    let none : d ∷ p ≢ [] = λ (z : d ∷ p ≡ []). absurd (cc (z)) in
    let rest = has_line line w (d ∷ p) one.1 ends none (h.0, tl) in
    (rest.0, cc (hd, rest.1))

-- a prefix of a prefix
through : (p q t : Text) → IsPrefix p q → IsPrefix q t → IsPrefix p t
through p q t h g = (h.0 ++ g.0, sym (append_assoc p h.0 g.0) ∙ ap (λ l. l ++ g.0) h.1 ∙ g.1)

-- the same text in front
in_front : (a p u : Text) → IsPrefix p u → IsPrefix (a ++ p) (a ++ u)
in_front a p u h = (h.0, append_assoc a p h.0 ∙ ap (λ l. a ++ l) h.1)

-- a prefix after the same text
behind : (a q r : Text) → IsPrefix (a ++ q) (a ++ r) → IsPrefix q r
behind [] q r h = h
behind (x ∷ a) q r h =
    let e = h.1 in
    let tl : (a ++ q) ++ h.0 ≡ a ++ r = cc (e) in
    behind a q r (h.0, tl)

none_or_some : (p : Text) → (p ≡ []) ⊎ (p ≢ [])
none_or_some [] = inl refl
none_or_some (b ∷ p) = inr (λ (z : b ∷ p ≡ []). absurd (cc (z)))

-- some whole lines of what is said have its first line
first_line : (line more w p : Text) → IsOneLine line → EndsLine p → p ≢ [] → IsPrefix p (((line ++ 10 ∷ []) ++ more) ++ w) → IsPrefix (line ++ 10 ∷ []) p
first_line line more w p one ends some h =
    let same : line ++ 10 ∷ (more ++ w) ≡ ((line ++ 10 ∷ []) ++ more) ++ w = sym (append_assoc (line ++ 10 ∷ []) more w ∙ append_assoc line (10 ∷ []) (more ++ w)) in
    has_line line (more ++ w) p one ends some (h.0, h.1 ∙ sym same)

module _ {S : Type 0} (Goes : S → ℕ → Text → Text → S → Type 0) (Ends : S → Text → Type 0) (det : AreDetermined Goes Ends) where
  abbrev T : Text → Text → Text
  T = said Goes Ends

  abbrev G : S → Text → Text → Type 0
  G = Guided Goes Ends

  abbrev Y : S → Text → Type 0
  Y = Says Goes Ends

  -- who says some whole lines of the text is the caller that the text picks, and says and leaves the same
  same_step : (s : S) (k : ℕ) (line more : Text) (n : S) (j : ℕ) (line' more' : Text) (n' : S) (t w p : Text) → Goes s k line more n → Picks Goes Ends s k t → Goes s j line' more' n'
      → EndsLine p → p ≢ [] → IsPrefix p t → IsPrefix p (T line' more' ++ w) → (line' ≡ line) × (more' ≡ more) × (n' ≡ n)
  same_step s k line more n j line' more' n' t w p goes picks goes' ends some pt pv =
      let who : j ≡ k = picks j line' more' n' goes' (through (line' ++ 10 ∷ []) p t (first_line line' more' w p (det.one_line s j line' more' n' goes') ends some pv) pt) in
      det.one_way s k line' more' n' line more n (subst (λ i. Goes s i line' more' n') who goes') goes

  some_best : {s : S} {t u v : Text} (p : Text) → G s t u → Y s v → EndsLine p → IsPrefix p t → IsPrefix p v → p ≢ [] → IsPrefix p u
  some_best {s} {t} {u} {v} p (stopped e) (stop e2) ends pt pv some = (pv.0, pv.1 ∙ det.one_end s v u e2 e)
  some_best {s} {t} {u} {v} p (stopped e) (go j line more w n goes is2 h) ends pt pv some = absurd (det.apart s u j line more n e goes)
  some_best {s} {t} {u} {v} p (follows k line more r w n goes picks ist is g) (stop e) ends pt pv some = absurd (det.apart s v k line more n e goes)
  some_best {s} {t} {u} {v} p (follows k line more r w n goes picks ist is g) (go j line' more' x n' goes' is2 h) ends pt pv some =
      let pv' : IsPrefix p (T line' more' ++ x) = (pv.0, pv.1 ∙ is2) in
      let one = same_step s k line more n j line' more' n' t x p goes picks goes' ends some pt pv' in
      let there : IsPrefix p (T line more ++ x) = subst (λ l. IsPrefix p (T l more ++ x)) one.0 (subst (λ l. IsPrefix p (T line' l ++ x)) one.1 pv') in
      let later : Y n x = subst (λ m. Y m x) one.2 h in
      elim (cut p (T line more) x there) [
        | inl within ↦ let all = through p (T line more) (T line more ++ w) within (w, refl) in (all.0, all.1 ∙ sym is)
        | inr beyond ↦
            let q = beyond.0 in
            let pq : p ≡ T line more ++ q = beyond.1 in
            let qr : IsPrefix q r = behind (T line more) q r (subst (λ l. IsPrefix l (T line more ++ r)) pq (pt.0, pt.1 ∙ ist)) in
            let qw : IsPrefix q w = elim (none_or_some q) [
              | inl none ↦ (w, ap (λ l. l ++ w) none)
              | inr someq ↦ some_best q g later (lines_behind (T line more) q (subst EndsLine pq ends)) qr beyond.2 someq
            ] in
            let all = in_front (T line more) q w qw in
            (all.0, ap (λ l. l ++ all.0) pq ∙ all.1 ∙ sym is)
      ]
  some_best {s} {t} {u} {v} p (leaves k line more w n goes picks off is g) (stop e) ends pt pv some = absurd (det.apart s v k line more n e goes)
  some_best {s} {t} {u} {v} p (leaves k line more w n goes picks off is g) (go j line' more' x n' goes' is2 h) ends pt pv some =
      let pv' : IsPrefix p (T line' more' ++ x) = (pv.0, pv.1 ∙ is2) in
      let one = same_step s k line more n j line' more' n' t x p goes picks goes' ends some pt pv' in
      let there : IsPrefix p (T line more ++ x) = subst (λ l. IsPrefix p (T l more ++ x)) one.0 (subst (λ l. IsPrefix p (T line' l ++ x)) one.1 pv') in
      elim (cut p (T line more) x there) [
        | inl within ↦ let all = through p (T line more) (T line more ++ w) within (w, refl) in (all.0, all.1 ∙ sym is)
        | inr beyond ↦ absurd (off (through (T line more) p t (beyond.0, sym beyond.1) pt))
      ]

  -- no text that may be said has more whole lines of the text than what is said under its guidance
  pub best : {s : S} {t u v : Text} (p : Text) → G s t u → Y s v → EndsLine p → IsPrefix p t → IsPrefix p v → IsPrefix p u
  best {s} {t} {u} {v} p g h ends pt pv = elim (none_or_some p) [
    | inl none ↦ (u, ap (λ l. l ++ u) none)
    | inr some ↦ some_best p g h ends pt pv some
  ]

  -- and it may be said itself
  pub guided_says : {s : S} {t u : Text} → G s t u → Y s u
  guided_says (stopped e) = stop e
  guided_says (follows k line more r w n goes picks ist is g) = go k line more w n goes is (guided_says g)
  guided_says (leaves k line more w n goes picks off is g) = go k line more w n goes is g

-- ---- how many lines

-- a front of both has no more line feeds than both begin with alike
pub feeds_agree : (p a b : Text) → IsPrefix p a → IsPrefix p b → feeds p ≤ agreeing a b
feeds_agree [] a b h g = omega arith
feeds_agree (c ∷ p) [] b h g = absurd (cc (h.1))
feeds_agree (c ∷ p) (x ∷ a) [] h g = absurd (cc (g.1))
feeds_agree (c ∷ p) (x ∷ a) (y ∷ b) h g =
    let eh = h.1 in
    let eg = g.1 in
    let cx : c ≡ x = cc (eh) in
    let cy : c ≡ y = cc (eg) in
    let ta : p ++ h.0 ≡ a = cc (eh) in
    let tb : p ++ g.0 ≡ b = cc (eg) in
    let ih : feeds p ≤ agreeing a b = feeds_agree p a b (h.0, ta) (g.0, tb) in
    let same : (x == y) ≡ true = eq-eqb x y (sym cx ∙ cy) in
    rw (same, sym cx) (omega (arith, ih))
