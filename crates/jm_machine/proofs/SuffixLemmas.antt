-- What runs a grammar whose rule may begin anywhere: it is reduced, and then changed.
use Rattle.std.proofs.Common.{◌≡◌, ℕ, ◌<◌, List, sym, subst}
use Rattle.std.specs.Prelude.{◌↔◌, All, Contains}
use Rattle.std.proofs.lemmas.List.Elements.{All-weaker, All-contains, All-contains_itself}
use Rattle.jm_ere.specs.Suffixes.{EndsIn}
use Rattle.jm_grammar.specs.declared.grammar.Production.{Production}
use Rattle.jm_grammar.specs.Grammars.{GrammarDefinition, IsBelow, AreBelow, IsProductionWithin, IsWithin}
use Rattle.jm_grammar.specs.Meanings.{IsWord}

-- what holds of each member
all_of : {X : Type 0} (P : X → Type 0) (xs : List X) → ((x : X) → Contains xs x → P x) → All P xs
all_of P xs each = All-weaker (Contains xs) P each xs (All-contains_itself xs)

module _ (g r : GrammarDefinition) (kept : (p : Production) → Contains r.productions p → Contains g.productions p) where
  pub kept_within : (n : ℕ) → r.start ≡ g.start → IsWithin n g → IsWithin n r
  kept_within n same h = record {
    start = subst (λ (s : ℕ). s < n) (sym same) h.start;
    productions = all_of (IsProductionWithin n) r.productions (λ p has. All-contains (IsProductionWithin n) g.productions p h.productions (kept p has));
  }

  pub kept_below : (n : ℕ) → AreBelow g.productions n → AreBelow r.productions n
  kept_below n h = all_of (λ (p : Production). All (IsBelow n) p.symbols) r.productions (λ p has. All-contains (λ (q : Production). All (IsBelow n) q.symbols) g.productions p h (kept p has))

-- the charts c of a grammar d that was made of r, which was made of g
pub suffix_words : (g r d c : GrammarDefinition) (n : ℕ) → ((w : List ℕ) → IsWord r w ↔ IsWord g w) → ((w : List ℕ) → IsWord d w ↔ (All (λ letter. letter < n) w × EndsIn (IsWord r) w))
    → ((w : List ℕ) → IsWord c w ↔ IsWord d w) → (w : List ℕ) → IsWord c w ↔ (All (λ letter. letter < n) w × EndsIn (IsWord g) w)
suffix_words g r d c n reduced changed charted w = (
  λ h. let m = (changed w).0 ((charted w).0 h) in let e = m.1 in (m.0, (e.0, e.1, e.2, e.3, (reduced e.1).0 e.4)),
  λ h. let e = h.1 in (charted w).1 ((changed w).1 (h.0, (e.0, e.1, e.2, e.3, (reduced e.1).1 e.4))),
)
