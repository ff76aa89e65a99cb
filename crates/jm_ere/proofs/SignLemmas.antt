-- What a token means says what it is, and the other way round.
use Rattle.std.proofs.Common.{◌≡◌, ℕ, Bool, true, false, ◌&&◌, cond, List, refl, subst, sym}
use Rattle.std.specs.Prelude.{codes}
use Rattle.std.specs.Str.{bytes_eq}
use Rattle.std.proofs.lemmas.Slice.Eq.{bytes_eq-Decides}
use Rattle.jm_text.specs.declared.token.Token.{Token}
use Rattle.jm_text.specs.declared.token.TokenKind.{TokenKind}
use Rattle.jm_text.specs.declared.token.TokenKind.TheVariants.{Word, Text, Mark}
use Rattle.jm_text.specs.Texts.{is_name, is_word, is_mark, is_word_kind, is_mark_kind}
use Rattle.jm_reading.specs.Tokens.{IsName, IsWord, IsMark}
use Rattle.jm_reading.proofs.TokenLemmas.{other_mark}
use Rattle.jm_ere.specs.declared.formula.Atom.TheVariants.{Name, Epsilon, Empty}
use Rattle.jm_ere.specs.declared.parse.Lexeme.{Lexeme}
use Rattle.jm_ere.specs.declared.parse.Lexeme.TheVariants.{Operand, Opening, Closing, Tilde, Asterisk, PlusSign, Bar, Ampersand, Other}
use Rattle.jm_ere.specs.Rules.{lexeme_of}

-- what the token is
abbrev pub Says : List ℕ → Token → Lexeme → Type 0
Says bytes t (Operand (Name u)) = (t ≡ u) × IsName bytes t × (is_word bytes t (codes "epsilon") ≡ false) × (is_word bytes t (codes "empty") ≡ false)
Says bytes t (Operand Epsilon) = IsWord bytes (codes "epsilon") t
Says bytes t (Operand Empty) = IsWord bytes (codes "empty") t
Says bytes t Opening = IsMark bytes (codes "(") t
Says bytes t Closing = IsMark bytes (codes ")") t
Says bytes t Tilde = IsMark bytes (codes "~") t
Says bytes t Asterisk = IsMark bytes (codes "*") t
Says bytes t PlusSign = IsMark bytes (codes "+") t
Says bytes t Bar = IsMark bytes (codes "|") t
Says bytes t Ampersand = IsMark bytes (codes "&") t
Says bytes t Other = Unit {0}

by_if : (P : Lexeme → Type 0) (b : Bool) (x y : Lexeme) → (b ≡ true → P x) → (b ≡ false → P y) → P (cond b x y)
by_if P true x y h k = h refl
by_if P false x y h k = k refl

module _ (P : Lexeme → Type 0) (t : Token) where
  marks_if : (b1 b2 b3 b4 b5 b6 b7 : Bool) → (b1 ≡ true → P Opening) → (b2 ≡ true → P Closing) → (b3 ≡ true → P Tilde) → (b4 ≡ true → P Asterisk) → (b5 ≡ true → P PlusSign) → (b6 ≡ true → P Bar) → (b7 ≡ true → P Ampersand) → P Other
      → P (cond b1 Opening (cond b2 Closing (cond b3 Tilde (cond b4 Asterisk (cond b5 PlusSign (cond b6 Bar (cond b7 Ampersand Other)))))))
  marks_if b1 b2 b3 b4 b5 b6 b7 h1 h2 h3 h4 h5 h6 h7 h =
      by_if P b1 _ _ h1 (λ e1. by_if P b2 _ _ h2 (λ e2. by_if P b3 _ _ h3 (λ e3. by_if P b4 _ _ h4 (λ e4. by_if P b5 _ _ h5 (λ e5. by_if P b6 _ _ h6 (λ e6. by_if P b7 _ _ h7 (λ e7. h)))))))

  words_if : (b1 b2 b3 : Bool) (mark : Lexeme) → (b1 ≡ true → P (Operand Epsilon)) → (b2 ≡ true → P (Operand Empty)) → (b1 ≡ false → b2 ≡ false → b3 ≡ true → P (Operand (Name t))) → P mark
      → P (cond b1 (Operand Epsilon) (cond b2 (Operand Empty) (cond b3 (Operand (Name t)) mark)))
  words_if b1 b2 b3 mark h1 h2 h3 h = by_if P b1 _ _ h1 (λ e1. by_if P b2 _ _ h2 (λ e2. by_if P b3 _ _ (h3 e1 e2) (λ e3. h)))

pub sign_says : (bytes : List ℕ) (t : Token) → Says bytes t (lexeme_of bytes t)
unfolding lexeme_of
sign_says bytes t =
    words_if (Says bytes t) t (is_word bytes t (codes "epsilon")) (is_word bytes t (codes "empty")) (is_name bytes t)
    (cond (is_mark bytes t (codes "(")) Opening (cond (is_mark bytes t (codes ")")) Closing (cond (is_mark bytes t (codes "~")) Tilde (cond (is_mark bytes t (codes "*")) Asterisk (cond (is_mark bytes t (codes "+")) PlusSign (cond (is_mark bytes t (codes "|")) Bar (cond (is_mark bytes t (codes "&")) Ampersand Other)))))))
    (λ h. h) (λ h. h) (λ a b n. (refl, n, a, b))
    (marks_if (Says bytes t) t (is_mark bytes t (codes "(")) (is_mark bytes t (codes ")")) (is_mark bytes t (codes "~")) (is_mark bytes t (codes "*")) (is_mark bytes t (codes "+")) (is_mark bytes t (codes "|")) (is_mark bytes t (codes "&"))
    (λ h. h) (λ h. h) (λ h. h) (λ h. h) (λ h. h) (λ h. h) (λ h. h) tt)

-- ---- a mark is no word, and one word isn't another

no_word_of : (kind : TokenKind) (a b : Bool) → (is_mark_kind kind && a) ≡ true → (is_word_kind kind && b) ≡ false
no_word_of Word a b h = absurd (cc)
no_word_of Text a b h = absurd (cc)
no_word_of Mark a b h = refl

other_word_of : (kind : TokenKind) (text a b : List ℕ) → (is_word_kind kind && bytes_eq text a) ≡ true → bytes_eq a b ≡ false → (is_word_kind kind && bytes_eq text b) ≡ false
other_word_of Word text a b h k = subst (λ (l : List ℕ). bytes_eq l b ≡ false) (sym ((bytes_eq-Decides text a).0 h)) k
other_word_of Mark text a b h k = refl
other_word_of Text text a b h k = refl

module _ (bytes : List ℕ) (t : Token) where
  no_word : (mark word : List ℕ) → IsMark bytes mark t → is_word bytes t word ≡ false
  no_word mark word h = no_word_of t.kind _ _ h

  no_name : (mark : List ℕ) → IsMark bytes mark t → is_name bytes t ≡ false
  no_name mark h = no_word_of t.kind _ _ h

  pub epsilon_sign : IsWord bytes (codes "epsilon") t → lexeme_of bytes t ≡ Operand Epsilon
  unfolding lexeme_of
  epsilon_sign h = rw h refl

  pub empty_sign : IsWord bytes (codes "empty") t → lexeme_of bytes t ≡ Operand Empty
  unfolding lexeme_of
  empty_sign h = rw (other_word_of t.kind _ (codes "empty") (codes "epsilon") h refl, h) refl

  pub name_sign : IsName bytes t → is_word bytes t (codes "epsilon") ≡ false → is_word bytes t (codes "empty") ≡ false → lexeme_of bytes t ≡ Operand (Name t)
  unfolding lexeme_of
  name_sign h a b = rw (a, b, h) refl

  pub opening_sign : IsMark bytes (codes "(") t → lexeme_of bytes t ≡ Opening
  unfolding lexeme_of
  opening_sign h = rw (no_word _ (codes "epsilon") h, no_word _ (codes "empty") h, no_name _ h, h) refl

  pub closing_sign : IsMark bytes (codes ")") t → lexeme_of bytes t ≡ Closing
  unfolding lexeme_of
  closing_sign h = rw (no_word _ (codes "epsilon") h, no_word _ (codes "empty") h, no_name _ h, other_mark bytes _ (codes "(") t h refl, h) refl

  pub tilde_sign : IsMark bytes (codes "~") t → lexeme_of bytes t ≡ Tilde
  unfolding lexeme_of
  tilde_sign h = rw (no_word _ (codes "epsilon") h, no_word _ (codes "empty") h, no_name _ h, other_mark bytes _ (codes "(") t h refl, other_mark bytes _ (codes ")") t h refl, h) refl

  pub star_sign : IsMark bytes (codes "*") t → lexeme_of bytes t ≡ Asterisk
  unfolding lexeme_of
  star_sign h = rw (no_word _ (codes "epsilon") h, no_word _ (codes "empty") h, no_name _ h, other_mark bytes _ (codes "(") t h refl, other_mark bytes _ (codes ")") t h refl, other_mark bytes _ (codes "~") t h refl, h) refl

  pub plus_sign : IsMark bytes (codes "+") t → lexeme_of bytes t ≡ PlusSign
  unfolding lexeme_of
  plus_sign h = rw (no_word _ (codes "epsilon") h, no_word _ (codes "empty") h, no_name _ h, other_mark bytes _ (codes "(") t h refl, other_mark bytes _ (codes ")") t h refl, other_mark bytes _ (codes "~") t h refl, other_mark bytes _ (codes "*") t h refl, h) refl

  pub bar_sign : IsMark bytes (codes "|") t → lexeme_of bytes t ≡ Bar
  unfolding lexeme_of
  bar_sign h = rw (no_word _ (codes "epsilon") h, no_word _ (codes "empty") h, no_name _ h, other_mark bytes _ (codes "(") t h refl, other_mark bytes _ (codes ")") t h refl, other_mark bytes _ (codes "~") t h refl, other_mark bytes _ (codes "*") t h refl, other_mark bytes _ (codes "+") t h refl, h) refl

  pub ampersand_sign : IsMark bytes (codes "&") t → lexeme_of bytes t ≡ Ampersand
  unfolding lexeme_of
  ampersand_sign h = rw (no_word _ (codes "epsilon") h, no_word _ (codes "empty") h, no_name _ h, other_mark bytes _ (codes "(") t h refl, other_mark bytes _ (codes ")") t h refl, other_mark bytes _ (codes "~") t h refl, other_mark bytes _ (codes "*") t h refl, other_mark bytes _ (codes "+") t h refl, other_mark bytes _ (codes "|") t h refl, h) refl
