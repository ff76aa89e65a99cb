-- A list whose last item is the topmost of a stack.
use Rattle.std.proofs.Common.{◌≡◌, List, [], ◌∷◌, ◌++◌, Option, Some, None, ap, ◌∙◌, append-nil}
use Rattle.std.specs.Prelude.{reverse, MatchOption}
use Rattle.std.specs.Option.{option_to_list}
use Rattle.std.proofs.lemmas.List.{reverse-append}

pub pushed : {X : Type 0} → (xs : List X) (x : X) → reverse (xs ++ x ∷ []) ≡ x ∷ reverse xs
pushed xs x = reverse-append xs (x ∷ [])

pub popped : {X : Type 0} → (before after : List X) (o : Option X) → before ≡ after ++ option_to_list o → MatchOption o (reverse before ≡ reverse after) (λ x. reverse before ≡ x ∷ reverse after)
popped before after None h = ap reverse (h ∙ append-nil after)
popped before after (Some x) h = ap reverse h ∙ pushed after x
