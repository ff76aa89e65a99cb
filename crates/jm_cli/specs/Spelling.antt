-- What words spell each command, as a table.
use Rattle.std.specs.Prelude.{◌≡◌, ◌≤◌, true, List, [], ◌∷◌, ◌++◌, length, codes, decimal}
use Rattle.std.specs.List.{list_all}
use Rattle.jm_model.specs.Words.{Text}
use Rattle.jm_cli.specs.Words.{CommandWords, is_name, most_names}
use Rattle.jm_cli.specs.Words.CommandWords.{Replay, Run, Check, Coenable, Gen, Sweep, Audit}

-- 1 to 16 words, each of which may name a file
pub record AreNames (words : List Text) : Type 0 where
  pub some : 1 ≤ length words
  pub few : length words ≤ most_names
  pub each : list_all is_name words ≡ true

abbrev pub Spells : List Text → CommandWords → Type 0
Spells words (Replay spec script) =
    (words ≡ codes "replay" ∷ spec ∷ script ∷ []) × (is_name spec ≡ true) × (is_name script ≡ true)
Spells words (Run specs scripts) =
    (words ≡ codes "run" ∷ (specs ++ codes "--" ∷ scripts)) × AreNames specs × AreNames scripts
Spells words (Check specs) = (words ≡ codes "check" ∷ specs) × AreNames specs
Spells words (Coenable specs) = (words ≡ codes "coenable" ∷ specs) × AreNames specs
Spells words (Gen n) = (words ≡ codes "gen" ∷ decimal n ∷ []) × (1 ≤ n) × (n ≤ 8000)
Spells words (Sweep spec recording) =
    (words ≡ codes "sweep" ∷ spec ∷ recording ∷ []) × (is_name spec ≡ true) × (is_name recording ≡ true)
Spells words (Audit history specs scripts) =
    (words ≡ codes "audit" ∷ history ∷ (specs ++ codes "--" ∷ scripts)) × (is_name history ≡ true) × AreNames specs
    × AreNames scripts
