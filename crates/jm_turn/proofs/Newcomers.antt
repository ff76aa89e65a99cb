-- Seats are made one after another.
use Rattle.std.proofs.Common.{◌≡◌, ℕ, List, [], ◌∷◌, ◌++◌, length, Some, slice_get, sym, ap, ◌∙◌, ⊎_elim, arith}
use Rattle.jm_turn.specs.Seats.{LockModel, SeatModel, newcomer, AreNewcomers}
use Rattle.jm_turn.proofs.Elements.{get_snoc}

module _ {E F : Type 0} where
  pub newcomers_more : (lock : LockModel F) (seats : List (SeatModel E F)) (seat : SeatModel E F) (n : ℕ) → length seats ≡ n → AreNewcomers lock seats → seat ≡ newcomer lock n → AreNewcomers lock (seats ++ seat ∷ [])
  newcomers_more lock seats seat n long all last k s at =
      ⊎_elim (λ (h : slice_get seats k ≡ Some s). all k s h)
      (λ (h : (k ≡ length seats) × (seat ≡ s)). let q = h.0 in let here : n ≡ k = omega arith in sym h.1 ∙ (last ∙ ap (newcomer lock) here)) (get_snoc seats seat s k at)
