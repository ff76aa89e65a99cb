use Rattle.std.proofs.Common.{ℕ, ◌≡◌, ◌<◌, ◌+◌, inl, inr, ◌⊎◌, suc, zero, Bool, true, false, List, [], ◌∷◌, Some, length, slice_get, slice_set, refl, sym, ap, subst, ◌∙◌, arith}
use Rattle.std.proofs.lemmas.List.Elements.{All-append, All-push, All-nil}
use Rattle.jm_table.specs.Tables.{Transitions, IsWord, next_of}
use Rattle.jm_ere.specs.Expressions.{Expression}
use Rattle.jm_ere.specs.Groups.{AreLive, LeadsToMatch, LeadsToLive}

-- how many flags aren't set
abbrev pub dead_count : List Bool → ℕ
dead_count [] = 0
dead_count (true ∷ flags) = dead_count flags
dead_count (false ∷ flags) = 1 + dead_count flags

pub dead_less : (flags : List Bool) (k : ℕ) → slice_get flags k ≡ Some false → dead_count (slice_set flags k true) < dead_count flags
dead_less [] k e = cc
dead_less (true ∷ flags) zero e = cc
dead_less (false ∷ flags) zero e = omega arith
dead_less (true ∷ flags) (suc k) e = dead_less flags k e
dead_less (false ∷ flags) (suc k) e = let h = dead_less flags k e in omega arith

pub length_set_flag : (flags : List Bool) (k : ℕ) → length (slice_set flags k true) ≡ length flags
length_set_flag [] k = refl
length_set_flag (b ∷ flags) zero = refl
length_set_flag (b ∷ flags) (suc k) = ap suc (length_set_flag flags k)

-- a flag that is set stays set
set_stays : (flags : List Bool) (k j : ℕ) → slice_get flags j ≡ Some true → slice_get (slice_set flags k true) j ≡ Some true
set_stays [] k j e = e
set_stays (b ∷ flags) zero zero e = refl
set_stays (b ∷ flags) zero (suc j) e = e
set_stays (b ∷ flags) (suc k) zero e = e
set_stays (b ∷ flags) (suc k) (suc j) e = set_stays flags k j e

-- a flag that is set is the one that was put, or was set
set_cases : (flags : List Bool) (k j : ℕ) → slice_get (slice_set flags k true) j ≡ Some true → (j ≡ k) ⊎ (slice_get flags j ≡ Some true)
set_cases [] k j e = inr e
set_cases (b ∷ flags) zero zero e = inl refl
set_cases (b ∷ flags) zero (suc j) e = inr e
set_cases (b ∷ flags) (suc k) zero e = inr e
set_cases (b ∷ flags) (suc k) (suc j) e = elim (set_cases flags k j e) [ inl same ↦ inl (ap suc same) | inr old ↦ inr old ]

module _ (t : Transitions) (forms : List Expression) where
  -- one letter more in front
  leads_before : (state letter : ℕ) → letter < t.letters → LeadsToMatch t forms (next_of t state letter) → LeadsToMatch t forms state
  leads_before state letter lt h = (letter ∷ h.0, word_before letter h.0 lt h.1, h.2)
    where
      word_before : (x : ℕ) (w : List ℕ) → x < t.letters → IsWord t w → IsWord t (x ∷ w)
      word_before x w lt all = All-append (λ l. l < t.letters) (x ∷ []) w (All-push (λ l. l < t.letters) [] x (All-nil (λ l. l < t.letters)) lt) all

  pub live_more : (live : List Bool) (state : ℕ) → AreLive t forms live → LeadsToLive t live state → AreLive t forms (slice_set live state true)
  live_more live state sound leads = record {
    many = length_set_flag live state ∙ sound.many;
    all = λ k matching. set_stays live state k (sound.all k matching);
    only = λ k set. elim (set_cases live state k set) [
      | inl same ↦ subst (LeadsToMatch t forms) (sym same) (leads_before state leads.0 leads.1 (sound.only (next_of t state leads.0) leads.2))
      | inr old ↦ sound.only k old
    ];
  }
