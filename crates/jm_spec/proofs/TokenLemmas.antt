-- What one token can be.
use Rattle.std.proofs.Common.{◌≡◌, ℕ, Bool, true, false, cond, List, [], ◌∷◌, refl, ap, ◌∙◌}
use Rattle.std.specs.Prelude.{◌&&◌, ◌==◌, codes}
use Rattle.std.specs.Str.{bytes_eq}
use Rattle.std.proofs.lemmas.Slice.Eq.{bytes_eq-Decides}
use Rattle.jm_text.specs.declared.token.Token.{Token}
use Rattle.jm_text.specs.declared.token.TokenKind.{TokenKind}
use Rattle.jm_text.specs.declared.token.TokenKind.TheVariants.{Word, Mark}
use Rattle.jm_text.specs.Spans.{text_of}
use Rattle.jm_text.specs.Texts.{is_word_kind, is_mark_kind, is_word, is_mark, is_name}
use Rattle.jm_spec.specs.declared.brackets.Bracket.TheVariants.{Curly}
use Rattle.jm_spec.specs.declared.brackets.Sign.{Sign}
use Rattle.jm_spec.specs.declared.brackets.Sign.TheVariants.{Close, Plain}
use Rattle.jm_spec.specs.Brackets.{sign_of_byte, sign_of_text, sign_of}

pub never_both : (b : Bool) → b ≡ true → b ≡ false → ⊥
never_both b h k = cc

pub and_left : (a b : Bool) → a && b ≡ true → a ≡ true
and_left true b h = refl
and_left false b h = h

pub and_right : (a b : Bool) → a && b ≡ true → b ≡ true
and_right true b h = h
and_right false b h = absurd (never_both false h refl)

pub and_both : (a b : Bool) → a ≡ true → b ≡ true → a && b ≡ true
and_both a b h k = rw (h, k) refl

pub and_false : (a b : Bool) → b ≡ false → a && b ≡ false
and_false true b h = h
and_false false b h = refl

no_mark_kind : (k : TokenKind) → is_word_kind k ≡ true → is_mark_kind k ≡ false
no_mark_kind Mark h = absurd (never_both false h refl)
no_mark_kind _ h = refl

no_word_kind : (k : TokenKind) → is_mark_kind k ≡ true → is_word_kind k ≡ false
no_word_kind Word h = absurd (never_both false h refl)
no_word_kind _ h = refl

pub said_word : (bytes : List ℕ) (t : Token) (w : List ℕ) → is_word bytes t w ≡ true → text_of bytes t ≡ w
said_word bytes t w h = (bytes_eq-Decides (text_of bytes t) w).0 (and_right (is_word_kind t.kind) _ h)

pub said_mark : (bytes : List ℕ) (t : Token) (m : List ℕ) → is_mark bytes t m ≡ true → text_of bytes t ≡ m
said_mark bytes t m h = (bytes_eq-Decides (text_of bytes t) m).0 (and_right (is_mark_kind t.kind) _ h)

-- a token is one word or one mark
pub no_other_word : (bytes : List ℕ) (t : Token) (w v : List ℕ) → is_word bytes t w ≡ true → bytes_eq w v ≡ false → is_word bytes t v ≡ false
no_other_word bytes t w v h apart = and_false (is_word_kind t.kind) _ (ap (λ x. bytes_eq x v) (said_word bytes t w h) ∙ apart)

pub no_other_mark : (bytes : List ℕ) (t : Token) (m n : List ℕ) → is_mark bytes t m ≡ true → bytes_eq m n ≡ false → is_mark bytes t n ≡ false
no_other_mark bytes t m n h apart = and_false (is_mark_kind t.kind) _ (ap (λ x. bytes_eq x n) (said_mark bytes t m h) ∙ apart)

pub word_kind : (bytes : List ℕ) (t : Token) (w : List ℕ) → is_word bytes t w ≡ true → is_word_kind t.kind ≡ true
word_kind bytes t w h = and_left (is_word_kind t.kind) _ h

pub name_kind : (bytes : List ℕ) (t : Token) → is_name bytes t ≡ true → is_word_kind t.kind ≡ true
name_kind bytes t h = and_left (is_word_kind t.kind) _ h

-- no word is a mark, and no mark a word or a name
pub no_mark : (bytes : List ℕ) (t : Token) (m : List ℕ) → is_word_kind t.kind ≡ true → is_mark bytes t m ≡ false
no_mark bytes t m h = ap (λ k. k && bytes_eq (text_of bytes t) m) (no_mark_kind t.kind h)

pub no_word : (bytes : List ℕ) (t : Token) (m w : List ℕ) → is_mark bytes t m ≡ true → is_word bytes t w ≡ false
no_word bytes t m w h = ap (λ k. k && bytes_eq (text_of bytes t) w) (no_word_kind t.kind (and_left (is_mark_kind t.kind) _ h))

-- what tokens mean to the runs
pub word_sign : (bytes : List ℕ) (t : Token) → is_word_kind t.kind ≡ true → sign_of bytes t ≡ Plain
unfolding sign_of
word_sign bytes t h = ap (λ k. cond k (sign_of_text (text_of bytes t)) Plain) (no_mark_kind t.kind h)

pub mark_sign : (bytes : List ℕ) (t : Token) (b : ℕ) → is_mark bytes t (b ∷ []) ≡ true → sign_of bytes t ≡ sign_of_byte b
unfolding sign_of
mark_sign bytes t b h =
    ap (λ k. cond k (sign_of_text (text_of bytes t)) Plain) (and_left (is_mark_kind t.kind) _ h) ∙ ap sign_of_text (said_mark bytes t (b ∷ []) h)

else_of : (b : Bool) (x y r : Sign) → cond b x y ≡ r → (x ≡ r → ⊥) → y ≡ r
else_of true x y r h apart = absurd (apart h)
else_of false x y r h apart = h

curly_last : (b : Bool) (y : Sign) → cond b (Close Curly) y ≡ Close Curly → (y ≡ Close Curly → ⊥) → b ≡ true
curly_last true y h apart = refl
curly_last false y h apart = absurd (apart h)

curly_byte : (b : ℕ) → sign_of_byte b ≡ Close Curly → (b == 125) ≡ true
curly_byte b h =
    curly_last (b == 125) _
    (else_of (b == 93) _ _ _ (else_of (b == 41) _ _ _ (else_of (b == 60) _ _ _ (else_of (b == 123) _ _ _ (else_of (b == 91) _ _ _ (else_of (b == 40) _ _ _ h (λ e. cc)) (λ e. cc)) (λ e. cc)) (λ e. cc)) (λ e. cc)) (λ e. cc))
    (λ k. let e : Plain ≡ Close Curly = else_of (b == 59) _ _ _ (else_of (b == 44) _ _ _ (else_of (b == 62) _ _ _ k (λ e. cc)) (λ e. cc)) (λ e. cc) in cc)

curly_of : (k : Bool) (text : List ℕ) → cond k (sign_of_text text) Plain ≡ Close Curly → k && bytes_eq text (codes "}") ≡ true
curly_of false text h = absurd (let e : Plain ≡ Close Curly = h in cc)
curly_of true [] h = absurd (let e : Plain ≡ Close Curly = h in cc)
curly_of true (b ∷ []) h = and_both (b == 125) true (curly_byte b h) refl
curly_of true (b ∷ c ∷ bs) h = absurd (let e : Plain ≡ Close Curly = h in cc)

-- what closes a curly bracket is the mark `}`
pub curly_mark : (bytes : List ℕ) (t : Token) → sign_of bytes t ≡ Close Curly → is_mark bytes t (codes "}") ≡ true
unfolding sign_of
curly_mark bytes t h = curly_of (is_mark_kind t.kind) (text_of bytes t) h
