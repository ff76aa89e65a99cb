-- A rule that is read as often as it goes on reads what its repetition spells, and nothing else.
use Rattle.std.proofs.Common.{◌≡◌, ℕ, zero, suc, ◌+◌, ◌<◌, ◌≤◌, Bool, true, false, cond, List, [], ◌++◌, length, Option, Some, None, refl, sym, ap, ◌∙◌, subst, arith, append_assoc, append-nil, length-append}
use Rattle.jm_text.specs.declared.token.Token.{Token}
use Rattle.jm_reading.proofs.TokenLemmas.{step_of}
use Rattle.jm_reading.specs.Reading.{◌>>=◌, at_most}
use Rattle.jm_spec.specs.Spelling.{Repeats, nothing, one_more, Spelled}

pub never_some : {A : Type 0} {x : A} → None ≡ Some x → ⊥
never_some h = cc

pub same_some : {A : Type 0} {x y : A} → Some x ≡ Some y → x ≡ y
same_some h = cc

pub both_give : {A B : Type 0} (o : Option A) (f : A → Option B) (x : A) (y : Option B) → o ≡ Some x → f x ≡ y → o >>= f ≡ y
both_give o f x y h k = ap (λ p. p >>= f) h ∙ k

-- a rule spells a front of the tokens, up to the rest
pub record Fronts (X : List Token → Type 0) (tokens rest : List Token) : Type 0 where
  pub front : List Token
  pub split : tokens ≡ front ++ rest
  pub said : X front

-- and adds what it spells to what was there
pub record Adds {V : Type 0} (X : List Token → List V → Type 0) (tokens : List Token) (before out : List V) (rest : List Token) : Type 0 where
  pub front : List Token
  pub values : List V
  pub split : tokens ≡ front ++ rest
  pub all : out ≡ before ++ values
  pub said : X front values

-- a rule of which nothing is kept
abbrev once : (List Token → Option (List Token)) → Unit {0} → List Token → Option (Unit {0} × List Token)
once step u tokens = step tokens >>= λ rest. Some (u, rest)

module _ (X : List Token → Type 0) (goes_on : List Token → Bool) (step : List Token → Option (List Token)) (sound : (tokens rest : List Token) → goes_on tokens ≡ true → step tokens ≡ Some rest → Fronts X tokens rest) where
  stays : (g : Bool) (tokens rest : List Token) (u v : Unit {0}) → goes_on tokens ≡ g → cond {A = Option (Unit {0} × List Token)} g None (Some (u, tokens)) ≡ Some (v, rest) → Fronts (Repeats X) tokens rest × (goes_on rest ≡ false)
  stays true tokens rest u v g h = absurd (never_some h)
  stays false tokens rest u v g h =
      let e = same_some h in
      (record { front = []; split = ap (λ p. p.1) e; said = nothing }, ap (λ p. goes_on p.1) (sym e) ∙ g)

  joined : (tokens mid rest : List Token) → Fronts X tokens mid → Fronts (Repeats X) mid rest → Fronts (Repeats X) tokens rest
  joined tokens mid rest a b = record {
    front = a.front ++ b.front;
    split = a.split ∙ ap (λ r. a.front ++ r) b.split ∙ sym (append_assoc a.front b.front rest);
    said = one_more a.front b.front a.said b.said;
  }

  goes : (n : ℕ) (g : Bool) (tokens rest : List Token) (u v : Unit {0}) → ((w : Unit {0}) (mid : List Token) → at_most goes_on (once step) n w mid ≡ Some (v, rest) → Fronts (Repeats X) mid rest × (goes_on rest ≡ false)) → goes_on tokens ≡ g → cond {A = Option (Unit {0} × List Token)} g (once step u tokens >>= λ x. at_most goes_on (once step) n x.0 x.1) (Some (u, tokens)) ≡ Some (v, rest) → Fronts (Repeats X) tokens rest × (goes_on rest ≡ false)
  goes n false tokens rest u v more g h = stays false tokens rest u v g h
  goes n true tokens rest u v more g h =
      let p = step_of (once step u tokens) (λ x. at_most goes_on (once step) n x.0 x.1) (v, rest) h in
      let q = step_of (step tokens) (λ rest. Some (u, rest)) p.0 p.1 in
      let here = sound tokens p.0.1 g (q.1 ∙ ap (λ x. Some x.1) (same_some q.2)) in
      let r = more p.0.0 p.0.1 p.2 in
      (joined tokens p.0.1 rest here r.0, r.1)

  pub steps_sound : (n : ℕ) (tokens rest : List Token) (u v : Unit {0}) → at_most goes_on (once step) n u tokens ≡ Some (v, rest) → Fronts (Repeats X) tokens rest × (goes_on rest ≡ false)
  steps_sound zero tokens rest u v h = stays (goes_on tokens) tokens rest u v refl h
  steps_sound (suc n) tokens rest u v h = goes n (goes_on tokens) tokens rest u v (λ w mid. steps_sound n mid rest w v) refl h

module _ {V : Type 0} (total : ℕ) (X : ℕ → List Token → List V → Type 0) (goes_on : List Token → Bool) (item : List V → List Token → Option (List V × List Token)) (sound : (at : ℕ) (xs : List V) (tokens : List Token) (out : List V) (rest : List Token) → at + length tokens ≡ total → goes_on tokens ≡ true → item xs tokens ≡ Some (out, rest) → Adds (X at) tokens xs out rest) where
  item_stays : (at : ℕ) (g : Bool) (xs : List V) (tokens : List Token) (out : List V) (rest : List Token) → goes_on tokens ≡ g → cond {A = Option (List V × List Token)} g None (Some (xs, tokens)) ≡ Some (out, rest) → Adds (Spelled X at) tokens xs out rest × (goes_on rest ≡ false)
  item_stays at true xs tokens out rest g h = absurd (never_some h)
  item_stays at false xs tokens out rest g h =
      let e = same_some h in
      (record { front = []; values = []; split = ap (λ p. p.1) e; all = sym (ap (λ p. p.0) e) ∙ sym (append-nil xs); said = nothing at }, ap (λ p. goes_on p.1) (sym e) ∙ g)

  item_joined : (at : ℕ) (xs : List V) (tokens : List Token) (between : List V) (mid : List Token) (out : List V) (rest : List Token) (a : Adds (X at) tokens xs between mid) → Adds (Spelled X (at + length a.front)) mid between out rest → Adds (Spelled X at) tokens xs out rest
  item_joined at xs tokens between mid out rest a b = record {
    front = a.front ++ b.front;
    values = a.values ++ b.values;
    split = a.split ∙ ap (λ r. a.front ++ r) b.split ∙ sym (append_assoc a.front b.front rest);
    all = b.all ∙ ap (λ r. r ++ b.values) a.all ∙ append_assoc xs a.values b.values;
    said = one_more at a.front b.front a.values b.values a.said b.said;
  }

  moved : (at : ℕ) (tokens front mid : List Token) → at + length tokens ≡ total → tokens ≡ front ++ mid → at + length front + length mid ≡ total
  moved at tokens front mid same split = omega (arith, ap length split, length-append front mid)

  item_goes : (n at : ℕ) (g : Bool) (xs : List V) (tokens : List Token) (out : List V) (rest : List Token) → at + length tokens ≡ total → ((there : ℕ) (ys : List V) (mid : List Token) → there + length mid ≡ total → at_most goes_on item n ys mid ≡ Some (out, rest) → Adds (Spelled X there) mid ys out rest × (goes_on rest ≡ false)) → goes_on tokens ≡ g → cond {A = Option (List V × List Token)} g (item xs tokens >>= λ x. at_most goes_on item n x.0 x.1) (Some (xs, tokens)) ≡ Some (out, rest) → Adds (Spelled X at) tokens xs out rest × (goes_on rest ≡ false)
  item_goes n at false xs tokens out rest same more g h = item_stays at false xs tokens out rest g h
  item_goes n at true xs tokens out rest same more g h =
      let p = step_of (item xs tokens) (λ x. at_most goes_on item n x.0 x.1) (out, rest) h in
      let a = sound at xs tokens p.0.0 p.0.1 same g p.1 in
      let r = more (at + length a.front) p.0.0 p.0.1 (moved at tokens a.front p.0.1 same a.split) p.2 in
      (item_joined at xs tokens p.0.0 p.0.1 out rest a r.0, r.1)

  pub items_sound : (n at : ℕ) (xs : List V) (tokens : List Token) (out : List V) (rest : List Token) → at + length tokens ≡ total → at_most goes_on item n xs tokens ≡ Some (out, rest) → Adds (Spelled X at) tokens xs out rest × (goes_on rest ≡ false)
  items_sound zero at xs tokens out rest same h = item_stays at (goes_on tokens) xs tokens out rest refl h
  items_sound (suc n) at xs tokens out rest same h = item_goes n at (goes_on tokens) xs tokens out rest same (λ there ys mid. items_sound n there ys mid out rest) refl h

-- The other way. What stands after the last item meets `next`, and so does what stands before it; each item is read there.
module _ (X : List Token → Type 0) (goes_on : List Token → Bool) (step : List Token → Option (List Token)) (next : List Token → Type 0) (filled : (front : List Token) → X front → 0 < length front) (each : (front behind : List Token) → X front → next behind → (goes_on (front ++ behind) ≡ true) × (step (front ++ behind) ≡ Some behind) × next (front ++ behind)) where
  steps_stop : (n : ℕ) (u : Unit {0}) (rest : List Token) → goes_on rest ≡ false → at_most goes_on (once step) n u rest ≡ Some (u, rest)
  steps_stop zero u rest h = rw h refl
  steps_stop (suc n) u rest h = rw h refl

  steps_go : (n : ℕ) (u : Unit {0}) (front behind rest : List Token) → X front → next behind → at_most goes_on (once step) n u behind ≡ Some (u, rest) → (at_most goes_on (once step) (suc n) u (front ++ behind) ≡ Some (u, rest)) × next (front ++ behind)
  steps_go n u front behind rest x p more =
      let e = each front behind x p in
      (rw (e.0, e.1) more, e.2)

  pub steps_complete : (n : ℕ) (u : Unit {0}) (tokens rest : List Token) → Repeats X tokens → next rest → goes_on rest ≡ false → length (tokens ++ rest) ≤ n → (at_most goes_on (once step) n u (tokens ++ rest) ≡ Some (u, rest)) × next (tokens ++ rest)
  steps_complete n u tokens rest nothing p stop enough = (steps_stop n u rest stop, p)
  steps_complete zero u tokens rest (one_more front behind x more) p stop enough =
      let f = filled front x in
      absurd (omega (arith, length-append (front ++ behind) rest, length-append front behind))
  steps_complete (suc n) u tokens rest (one_more front behind x more) p stop enough =
      let f = filled front x in
      let shorter : length (behind ++ rest) ≤ n = omega (arith, length-append (front ++ behind) rest, length-append front behind, length-append behind rest) in
      let r = steps_complete n u behind rest more p stop shorter in
      let e = append_assoc front behind rest in
      subst (λ ts. (at_most goes_on (once step) (suc n) u ts ≡ Some (u, rest)) × next ts) (sym e) (steps_go n u front (behind ++ rest) rest x r.1 r.0)

module _ {V : Type 0} (total : ℕ) (X : ℕ → List Token → List V → Type 0) (goes_on : List Token → Bool) (item : List V → List Token → Option (List V × List Token)) (next : List Token → Type 0) (filled : (at : ℕ) (front : List Token) (xs : List V) → X at front xs → 0 < length front) (each : (at : ℕ) (front : List Token) (xs before : List V) (behind : List Token) → X at front xs → next behind → at + length (front ++ behind) ≡ total → (goes_on (front ++ behind) ≡ true) × (item before (front ++ behind) ≡ Some (before ++ xs, behind)) × next (front ++ behind)) where
  items_stop : (n : ℕ) (before : List V) (rest : List Token) → goes_on rest ≡ false → at_most goes_on item n before rest ≡ Some (before ++ [], rest)
  items_stop zero before rest h = rw (h, append-nil before) refl
  items_stop (suc n) before rest h = rw (h, append-nil before) refl

  items_go : (n at : ℕ) (front : List Token) (xs ys before : List V) (behind rest : List Token) → X at front xs → next behind → at + length (front ++ behind) ≡ total → at_most goes_on item n (before ++ xs) behind ≡ Some ((before ++ xs) ++ ys, rest) → (at_most goes_on item (suc n) before (front ++ behind) ≡ Some (before ++ (xs ++ ys), rest)) × next (front ++ behind)
  items_go n at front xs ys before behind rest x p same more =
      let e = each at front xs before behind x p same in
      (rw (e.0, e.1) (more ∙ ap (λ zs. Some (zs, rest)) (append_assoc before xs ys)), e.2)

  pub items_complete : (n at : ℕ) (tokens : List Token) (xs before : List V) (rest : List Token) → Spelled X at tokens xs → next rest → goes_on rest ≡ false → at + length (tokens ++ rest) ≡ total → length (tokens ++ rest) ≤ n → (at_most goes_on item n before (tokens ++ rest) ≡ Some (before ++ xs, rest)) × next (tokens ++ rest)
  items_complete n at tokens xs before rest (nothing here) p stop same enough = (items_stop n before rest stop, p)
  items_complete zero at tokens xs before rest (one_more here front behind zs ys x more) p stop same enough =
      let f = filled here front zs x in
      absurd (omega (arith, length-append (front ++ behind) rest, length-append front behind))
  items_complete (suc n) at tokens xs before rest (one_more here front behind zs ys x more) p stop same enough =
      let f = filled here front zs x in
      let shorter : length (behind ++ rest) ≤ n = omega (arith, length-append (front ++ behind) rest, length-append front behind, length-append behind rest) in
      let there : here + length front + length (behind ++ rest) ≡ total = omega (arith, length-append (front ++ behind) rest, length-append front behind, length-append behind rest) in
      let e = append_assoc front behind rest in
      let here_still : here + length (front ++ (behind ++ rest)) ≡ total = ap (λ ts. here + length ts) (sym e) ∙ same in
      let r = items_complete n (here + length front) behind ys (before ++ zs) rest more p stop there shorter in
      subst (λ ts. (at_most goes_on item (suc n) before ts ≡ Some (before ++ (zs ++ ys), rest)) × next ts) (sym e) (items_go n here front zs ys before (behind ++ rest) rest x r.1 here_still r.0)
