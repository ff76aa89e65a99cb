-- A push that may have failed.
use Rattle.std.proofs.Common.{◌≡◌, Bool, true, false, cond, List, [], ◌∷◌, ◌++◌, All}
use Rattle.std.proofs.lemmas.List.Elements.{All-push, All-same}

pub all_pushed : {A : Type 0} (P : A → Type 0) (xs ys : List A) (x : A) (b : Bool) → ys ≡ cond b (xs ++ x ∷ []) xs → All P xs → P x → All P ys
all_pushed P xs ys x true is each last = All-same P ys (xs ++ x ∷ []) is (All-push P xs x each last)
all_pushed P xs ys x false is each last = All-same P ys xs is each
