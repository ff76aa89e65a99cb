-- What was written, and then more.
use Rattle.std.proofs.Common.{◌≡◌, ℕ, List, ◌++◌, ◌∙◌, ap, append_assoc}

pub then_written : (s a b : List ℕ) {t u : List ℕ} → t ≡ s ++ a → u ≡ t ++ b → u ≡ s ++ (a ++ b)
then_written s a b first more = more ∙ ap (λ x. x ++ b) first ∙ append_assoc s a b
