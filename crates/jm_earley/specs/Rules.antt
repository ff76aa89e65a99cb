-- Rules that add nonterminals to a set, and what they add in all.
use Rattle.std.specs.Prelude.{ℕ, ◌≡◌, ◌*◌, ◌%◌, ◌^◌, ◌&&◌, ◌||◌, ◌==◌, nat_lt, not, Bool, true, false, List, Contains, IsBitSet, bit_and, bit_or, fold, if◌then◌else◌}
use Rattle.jm_grammar.specs.Rounds.{has_bit}
use Rattle.jm_earley.specs.declared.rule.Rule.{Rule}

-- the set of one nonterminal, which is below 64
abbrev pub only : ℕ → ℕ
only n = if nat_lt n 64 then 1 * 2 ^ n % 2 ^ 64 else 0

-- the nonterminal is in the set
abbrev pub has : ℕ → ℕ → Bool
has known n = nat_lt n 64 && has_bit known n

-- a rule that adds nothing
abbrev pub no_rule : Rule
no_rule = record { gives = 0; any = 0; always = false }

-- What the rules add in all: a rule adds what it gives where it always does, or where one of its conditions was added.
pub data IsGained (rules : List Rule) : ℕ → Type 0 where
  at_once : (r : Rule) (n : ℕ) → Contains rules r → r.always ≡ true → IsBitSet r.gives n → IsGained rules n
  later : (r : Rule) (m n : ℕ) → Contains rules r → IsBitSet r.any m → IsGained rules m → IsBitSet r.gives n
      → IsGained rules n

-- two sets have a nonterminal in common
abbrev pub meets : ℕ → ℕ → Bool
meets a b = not (bit_and a b == 0)

abbrev pub is_met : ℕ → Rule → Bool
is_met known r = r.always || meets r.any known

abbrev pub with_rule : ℕ → Rule → ℕ
with_rule known r = if is_met known r then bit_or known r.gives else known

abbrev pub with_rules : List Rule → ℕ → ℕ
with_rules rules known = fold with_rule known rules
