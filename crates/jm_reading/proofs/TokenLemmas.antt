-- What tokens are, and what is read at the front of some.
use Rattle.std.proofs.Common.{◌≡◌, ℕ, Bool, true, false, not, ◌&&◌, List, [], ◌∷◌, Option, Some, None, refl, sym, ap, ◌∙◌, subst, inl, inr, ◌⊎◌, cond}
use Rattle.std.specs.Prelude.{option_map}
use Rattle.std.specs.Str.{bytes_eq}
use Rattle.std.proofs.lemmas.Slice.Eq.{bytes_eq-Decides}
use Rattle.jm_text.specs.declared.token.Token.{Token}
use Rattle.jm_text.specs.declared.token.TokenKind.{TokenKind}
use Rattle.jm_text.specs.declared.token.TokenKind.TheVariants.{Word, Text, Mark}
use Rattle.jm_text.specs.Texts.{is_name, is_word, is_mark, is_word_kind, is_mark_kind}
use Rattle.jm_reading.specs.Tokens.{IsName, IsMark, IsWord}
use Rattle.jm_reading.specs.Reading.{◌>>=◌, is_mark_at, is_word_at, is_name_at, mark_at, name_at, word_at, accepted}

-- ---- a token is of one kind

pub no_mark_of : (kind : TokenKind) (a b : Bool) → (is_word_kind kind && a) ≡ true → (is_mark_kind kind && b) ≡ false
no_mark_of Word a b h = refl
no_mark_of Text a b h = absurd (cc)
no_mark_of Mark a b h = absurd (cc)

pub name_no_mark : (bytes mark : List ℕ) (t : Token) → IsName bytes t → is_mark bytes t mark ≡ false
name_no_mark bytes mark t h = no_mark_of t.kind _ _ h

pub word_no_mark : (bytes word mark : List ℕ) (t : Token) → IsWord bytes word t → is_mark bytes t mark ≡ false
word_no_mark bytes word mark t h = no_mark_of t.kind _ _ h

-- ---- what the small rules read

module _ (bytes : List ℕ) where
  pub mark_is : (mark : List ℕ) (t : Token) (ts : List Token) → IsMark bytes mark t → mark_at bytes mark (t ∷ ts) ≡ Some ts
  unfolding mark_at
  mark_is mark t ts h = rw h refl

  pub name_is : (t : Token) (ts : List Token) → IsName bytes t → name_at bytes (t ∷ ts) ≡ Some (t, ts)
  unfolding name_at
  name_is t ts h = rw h refl

  pub word_is : (word : List ℕ) (t : Token) (ts : List Token) → IsWord bytes word t → word_at bytes word (t ∷ ts) ≡ Some (t, ts)
  unfolding word_at
  word_is word t ts h = rw h refl

-- what was read, if something was
module _ {X : Type 0} where
  pub if_some : (b : Bool) (x y : X) → cond b (Some x) None ≡ Some y → (b ≡ true) × (x ≡ y)
  if_some true x y h = (refl, cc)
  if_some false x y h = absurd (cc)

-- the token at the front, and those after it
pub record Front (P : Token → Type 0) (tokens : List Token) (behind : List Token) : Type 0 where
  pub token : Token
  pub is : P token
  pub cut : tokens ≡ token ∷ behind

module _ (bytes : List ℕ) where
  pub mark_read : (mark : List ℕ) (tokens behind : List Token) → mark_at bytes mark tokens ≡ Some behind → Front (IsMark bytes mark) tokens behind
  unfolding mark_at
  mark_read mark [] behind h = absurd (cc)
  mark_read mark (t ∷ ts) behind h = let p = if_some (is_mark bytes t mark) ts behind h in record { token = t; is = p.0; cut = ap (λ (l : List Token). t ∷ l) p.1 }

  pub name_read : (tokens behind : List Token) (name : Token) → name_at bytes tokens ≡ Some (name, behind) → (tokens ≡ name ∷ behind) × IsName bytes name
  unfolding name_at
  name_read [] behind name h = absurd (cc)
  name_read (t ∷ ts) behind name h = let p = if_some (is_name bytes t) (t, ts) (name, behind) h in
      let e : t ≡ name = ap (λ (x : Token × List Token). x.0) p.1 in
      let f : ts ≡ behind = ap (λ (x : Token × List Token). x.1) p.1 in
      (cc, subst (λ (x : Token). IsName bytes x) e p.0)

  pub word_read : (word : List ℕ) (tokens behind : List Token) (t : Token) → word_at bytes word tokens ≡ Some (t, behind) → (tokens ≡ t ∷ behind) × IsWord bytes word t
  unfolding word_at
  word_read word [] behind name h = absurd (cc)
  word_read word (t ∷ ts) behind name h = let p = if_some (is_word bytes t word) (t, ts) (name, behind) h in
      let e : t ≡ name = ap (λ (x : Token × List Token). x.0) p.1 in
      let f : ts ≡ behind = ap (λ (x : Token × List Token). x.1) p.1 in
      (cc, subst (λ (x : Token). IsWord bytes word x) e p.0)

-- ---- the next token, where it is known whether it is wanted

module _ (bytes : List ℕ) where
  wanted_name : (tokens : List Token) → name_at bytes tokens ≡ accepted (is_name_at bytes tokens 0) tokens
  unfolding name_at
  wanted_name [] = refl
  wanted_name (t ∷ ts) = refl

  pub accepted_name : (tokens : List Token) (b : Bool) → b ≡ is_name_at bytes tokens 0 → name_at bytes tokens ≡ accepted b tokens
  accepted_name tokens b is = wanted_name tokens ∙ ap (λ b. accepted b tokens) (sym is)

  wanted_word : (word : List ℕ) (tokens : List Token) → word_at bytes word tokens ≡ accepted (is_word_at bytes tokens 0 word) tokens
  unfolding word_at
  wanted_word word [] = refl
  wanted_word word (t ∷ ts) = refl

  pub accepted_word : (word : List ℕ) (tokens : List Token) (b : Bool) → b ≡ is_word_at bytes tokens 0 word → word_at bytes word tokens ≡ accepted b tokens
  accepted_word word tokens b is = wanted_word word tokens ∙ ap (λ b. accepted b tokens) (sym is)

  wanted_mark : (mark : List ℕ) (tokens : List Token) → mark_at bytes mark tokens ≡ option_map (λ (x : Token × List Token). x.1) (accepted (is_mark_at bytes tokens 0 mark) tokens)
  unfolding mark_at
  wanted_mark mark [] = refl
  wanted_mark mark (t ∷ ts) = behind (is_mark bytes t mark)
    where
      behind : (b : Bool) → cond b (Some ts) None ≡ option_map (λ (x : Token × List Token). x.1) (cond b (Some (t, ts)) None)
      behind true = refl
      behind false = refl

  pub accepted_mark : (mark : List ℕ) (tokens : List Token) (b : Bool) (read : Option (Token × List Token)) → b ≡ is_mark_at bytes tokens 0 mark → accepted b tokens ≡ read → mark_at bytes mark tokens ≡ option_map (λ (x : Token × List Token). x.1) read
  accepted_mark mark tokens b read is h = wanted_mark mark tokens ∙ ap (option_map (λ (x : Token × List Token). x.1)) (ap (λ b. accepted b tokens) (sym is) ∙ h)

-- ---- steps of a rule

module _ {B : Type 0} where
  pub step_of : {A : Type 0} (o : Option A) (f : A → Option B) (b : B) → (o >>= f) ≡ Some b → (a : A) × (o ≡ Some a) × (f a ≡ Some b)
  step_of None f b h = absurd (cc)
  step_of (Some a) f b h = (a, refl, h)

  pub one_of : (b : Bool) (x y : Option B) (z : B) → cond b x y ≡ Some z → ((b ≡ true) × (x ≡ Some z)) ⊎ ((b ≡ false) × (y ≡ Some z))
  one_of true x y z h = inl (refl, h)
  one_of false x y z h = inr (refl, h)

-- ---- choices

pub and_true : (a b : Bool) → a ≡ true → b ≡ true → (a && b) ≡ true
and_true true b h k = k
and_true false b h k = absurd (cc)

pub and_false : (a b : Bool) → b ≡ false → (a && b) ≡ false
and_false true b h = h
and_false false b h = refl

pub not_true : (b : Bool) → b ≡ true → not b ≡ false
not_true b h = rw h refl

pub not_false : (b : Bool) → b ≡ false → not b ≡ true
not_false b h = rw h refl

pub first_of_two : {X : Type 0} (b : Bool) (x y : X) → b ≡ true → cond b x y ≡ x
first_of_two b x y h = rw h refl

pub second_of_two : {X : Type 0} (b : Bool) (x y : X) → b ≡ false → cond b x y ≡ y
second_of_two b x y h = rw h refl

pub other_text : (kind : TokenKind) (text a b : List ℕ) → (is_mark_kind kind && bytes_eq text a) ≡ true → bytes_eq a b ≡ false → (is_mark_kind kind && bytes_eq text b) ≡ false
other_text Mark text a b h k = subst (λ (l : List ℕ). bytes_eq l b ≡ false) (sym ((bytes_eq-Decides text a).0 h)) k
other_text Word text a b h k = refl
other_text Text text a b h k = refl

pub other_mark : (bytes a b : List ℕ) (t : Token) → IsMark bytes a t → bytes_eq a b ≡ false → is_mark bytes t b ≡ false
other_mark bytes a b t h k = other_text t.kind _ a b h k
