-- The set of the nonterminals that spell the empty word, and sets of nonterminals as bits.
use Rattle.std.proofs.Common.{ℕ, ◌≡◌, ◌==◌, ◌<◌, ◌*◌, ◌%◌, ◌^◌, ◌↔◌, ◌⊎◌, inl, inr, true, IsTrue, All, List, [], ◌∷◌, bit_or, Contains, get_or, refl, subst, arith}
use Rattle.std.specs.Prelude.{IsBitSet}
use Rattle.std.specs.Int.{w64}
use Rattle.std.proofs.lemmas.Bool.Decides.{eqb_tells}
use Rattle.std.proofs.lemmas.Bool.{eqb-true}
use Rattle.std.proofs.lemmas.Nat.Bits.{bit_at_set_other, bit_at-zero}
use Rattle.std.proofs.lemmas.List.Elements.{All-nil, All-head, All-contains, Contains-get_or}
use Rattle.jm_earley.specs.Charts.{IsBelow, AreBelow}
use Rattle.jm_grammar.specs.declared.grammar.Production.{Production}
use Rattle.jm_grammar.specs.Meanings.{Derives, DerivesOf}
use Rattle.jm_grammar.specs.Rounds.{has_bit}
use Rattle.jm_grammar.proofs.RoundLemmas.{bit_of, of_bit}

-- a word of no letters is empty
no_letters : (word : List ℕ) → All (IsBitSet 0) word → word ≡ []
no_letters [] h = refl
no_letters (a ∷ word) h = absurd (omega (arith, eqb-true _ _ (bit_of 0 a (All-head (IsBitSet 0) a word h)), bit_at-zero a))

pub bit_of_nullable : (ps : List Production) (nullable : ℕ) → ((n : ℕ) → IsBitSet nullable n ↔ DerivesOf ps 0 n) → (n : ℕ) → IsTrue (has_bit nullable n) ↔ Derives ps n []
bit_of_nullable ps nullable empty n = (
  λ h. let d = (empty n).0 (of_bit nullable n h) in subst (λ (word : List ℕ). Derives ps n word) (no_letters d.0 d.1) d.2,
  λ h. bit_of nullable n ((empty n).1 ([], All-nil (IsBitSet 0), h)),
)

-- one nonterminal more
pub bits_with : (bits n m : ℕ) → n < 64 → IsBitSet (bit_or bits (1 * 2 ^ n % 2 ^ 64)) m → IsBitSet bits m ⊎ (m ≡ n)
bits_with bits n m small h = elim (eqb_tells m n) [
  | inl same ↦ inr same.1
  | inr differs ↦ inl (of_bit bits m (subst (λ (b : ℕ). (b == 1) ≡ true) (bit_at_set_other w64 bits n small m differs.1) (bit_of _ m h)))
]

pub no_bits : (n : ℕ) → IsBitSet 0 n → ⊥
no_bits n h = omega (arith, eqb-true _ _ (bit_of 0 n h), bit_at-zero n)

-- productions that are among others have no other letters
pub still_below : (ps kept : List Production) (letters : ℕ) → ((p : Production) → Contains kept p → Contains ps p) → AreBelow ps letters → AreBelow kept letters
still_below ps kept letters among below k d lt =
    All-contains (λ (p : Production). All (IsBelow letters) p.symbols) ps (get_or kept k d) below (among (get_or kept k d) (Contains-get_or kept k d lt))
