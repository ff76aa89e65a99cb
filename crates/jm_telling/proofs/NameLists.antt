-- Lists of distinct names, one name after the other, and the bytes of names.
use Rattle.std.proofs.Common.{◌≡◌, ℕ, zero, suc, Bool, true, false, cond, ◌⊎◌, inl, inr, List, [], ◌∷◌, ◌++◌, Some, length, slice_get, refl, sym, ap, subst, ◌∙◌}
use Rattle.std.specs.Prelude.{◌&&◌, nat_le}
use Rattle.std.specs.List.{list_all, list_any}
use Rattle.std.specs.Str.{bytes_eq}
use Rattle.std.proofs.lemmas.Bool.{false≢true}
use Rattle.std.proofs.lemmas.Option.{none-some, same_Some}
use Rattle.jm_text.specs.declared.token.Token.{Token}
use Rattle.jm_text.specs.Spans.{text_of}
use Rattle.jm_text.specs.Texts.{is_word_kind, is_name_byte, is_name_text, is_name}
use Rattle.jm_events.specs.Names.{with_name}
use Rattle.jm_events.proofs.NameLemmas.{list_any-place}
use Rattle.jm_reading.specs.Tokens.{name_of}
use Rattle.jm_print.specs.Told.{IsName, AreNames}
use Rattle.jm_lines.proofs.WordLemmas.{both_left, both_right}

-- ---- lists

pub no_names : AreNames []
no_names = record { each = λ k name at. absurd (none-some name at); distinct = λ j k name at there. absurd (none-some name at) }

-- what stands in a list with one name more
push_at : (names : List (List ℕ)) (new : List ℕ) (k : ℕ) (name : List ℕ) → slice_get (names ++ new ∷ []) k ≡ Some name → (slice_get names k ≡ Some name) ⊎ ((k ≡ length names) × (name ≡ new))
push_at [] new zero name at = inr (refl, sym (same_Some new name at))
push_at [] new (suc k) name at = absurd (none-some name at)
push_at (x ∷ names) new zero name at = inl at
push_at (x ∷ names) new (suc k) name at = elim (push_at names new k name at) [ inl there ↦ inl there | inr last ↦ inr (ap suc last.0, last.1) ]

-- a name that is there isn't a new one
module _ (names : List (List ℕ)) (new : List ℕ) (other : list_any (bytes_eq new) names ≡ false) where
  not_there : (k : ℕ) (name : List ℕ) → slice_get names k ≡ Some name → name ≡ new → ⊥
  not_there k name at same = false≢true (sym (subst (λ (n : List ℕ). list_any (bytes_eq n) names ≡ false) (sym same) other) ∙ list_any-place names name k at)

  -- a new name
  pub name_more : AreNames names → IsName new → AreNames (names ++ new ∷ [])
  name_more before plain = record { each = each; distinct = distinct }
    where
      each : (k : ℕ) (name : List ℕ) → slice_get (names ++ new ∷ []) k ≡ Some name → IsName name
      each k name at = elim (push_at names new k name at) [ inl there ↦ before.each k name there | inr last ↦ subst IsName (sym last.1) plain ]

      distinct : (j k : ℕ) (name : List ℕ) → slice_get (names ++ new ∷ []) j ≡ Some name → slice_get (names ++ new ∷ []) k ≡ Some name → j ≡ k
      distinct j k name at there = elim (push_at names new j name at) [
        | inl a ↦ elim (push_at names new k name there) [ inl b ↦ before.distinct j k name a b | inr b ↦ absurd (not_there j name a b.1) ]
        | inr a ↦ elim (push_at names new k name there) [ inl b ↦ absurd (not_there k name b a.1) | inr b ↦ a.0 ∙ sym b.0 ]
      ]

-- a mention of a name
pub name_mentioned : (names : List (List ℕ)) (name : List ℕ) → AreNames names → IsName name → AreNames (with_name names name)
name_mentioned names name before plain = by_case (list_any (bytes_eq name) names) refl
  where
    by_case : (b : Bool) → list_any (bytes_eq name) names ≡ b → AreNames (cond b names (names ++ name ∷ []))
    by_case true known = before
    by_case false new = name_more names name new before plain

-- ---- bytes

-- bytes of which none is one of the four
pub plain_bytes : (test : ℕ → Bool) → test 10 ≡ false → test 32 ≡ false → test 44 ≡ false → test 61 ≡ false → (bytes : List ℕ) → list_all test bytes ≡ true → IsName bytes
plain_bytes test feed space comma equals [] h = tt
plain_bytes test feed space comma equals (b ∷ bytes) h =
    let here : test b ≡ true = both_left _ _ h in
    let is : (c : ℕ) → test c ≡ false → b ≡ c → ⊥ = λ c no same. false≢true (sym no ∙ (ap test (sym same) ∙ here)) in
    ((is 10 feed, is 32 space, is 44 comma, is 61 equals), plain_bytes test feed space comma equals bytes (both_right (test b) _ h))

-- the text of a name
pub plain_text : (bytes : List ℕ) → is_name_text bytes ≡ true → IsName bytes
plain_text [] h = tt
plain_text (b ∷ bytes) h = plain_bytes is_name_byte refl refl refl refl (b ∷ bytes) (both_right _ _ h)

pub plain_token : (bytes : List ℕ) (t : Token) → is_name bytes t ≡ true → IsName (text_of bytes t)
plain_token bytes t h = plain_text (text_of bytes t) (both_right (is_word_kind t.kind) _ h)

-- the name that a token says
pub plain_name : (bytes : List ℕ) (t : Token) → IsName (name_of bytes t)
unfolding name_of
plain_name bytes t = by_case (nat_le t.start t.end && nat_le t.end (length bytes) && is_name bytes t) refl
  where
    by_case : (b : Bool) → (nat_le t.start t.end && nat_le t.end (length bytes) && is_name bytes t) ≡ b → IsName (cond b (text_of bytes t) [])
    by_case true named = plain_token bytes t (both_right (nat_le t.start t.end && nat_le t.end (length bytes)) _ named)
    by_case false named = tt
