use Rattle.std.specs.Prelude.{ℕ, ◌≡◌, List, ◌++◌, Option, Bool, option_map, if◌then◌else◌}
use mathlib.Core.List.{IsPrefix}
use Rattle.jm_port.specs.Faults.{next_count}

-- what a sink tells after a piece was appended: one that tells nothing goes on telling nothing
abbrev pub appended : Option (List ℕ) → List ℕ → Option (List ℕ)
appended written piece = option_map (λ text. text ++ piece) written

-- a prefix of the text was appended
pub record AppendsPrefix (before after : Option (List ℕ)) (text : List ℕ) : Type 0 where
  pub piece : List ℕ
  pub is_prefix : IsPrefix piece text
  pub written : after ≡ appended before piece

-- text in memory, how many bytes a put takes at most, the numbers of the puts that fail, how many puts there were,
-- and how many of them failed
pub record MemoryText : Type 0 where
  pub text : List ℕ
  pub step : ℕ
  pub fail : List ℕ
  pub calls : ℕ
  pub faults : ℕ

-- the text after one more put, which failed or not, and wrote a piece
abbrev pub after_put : MemoryText → Bool → List ℕ → MemoryText
after_put t failed piece = record t {
  text = t.text ++ piece;
  calls = next_count t.calls;
  faults = if failed then next_count t.faults else t.faults;
}
