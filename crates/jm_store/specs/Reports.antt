-- The firings of monitors.
use Rattle.std.specs.Prelude.{ℕ, zero, suc, ◌≡◌, ◌≢◌, ◌<◌, ◌==◌, AllPairs, Contains, List, [], ◌∷◌, ◌++◌, cond, map, length, slice_index_or}
use Rattle.std.specs.Int.{bit_at}
use Rattle.jm_model.specs.Words.{Word}
use Rattle.jm_model.specs.Meanings.{Meaning, IsHit}
use Rattle.jm_model.specs.declared.binding.Binding.{Binding}
use Rattle.jm_model.specs.declared.firings.Firing.{Firing}
use Rattle.jm_monitors.specs.declared.stored.Stored.{Stored}
use Rattle.jm_monitors.specs.Steps.{IsFull, IsReported}

-- the firings of instance t, in order, for the handlers below n whose bits are set
unfoldable pub firings_below : Binding → ℕ → ℕ → List Firing
firings_below t hits zero = []
firings_below t hits (suc n) =
    firings_below t hits n ++ cond (bit_at hits n == 1) (record { instance = t; handler = n } ∷ []) []

-- the instances of monitors
abbrev pub instances_of : {S : Type 0} → List (Stored S) → List Binding
instances_of monitors = map (λ s. s.instance) monitors

-- distinct firings of the monitors, among them each one
pub record AreHitsOf (m : Meaning) {S : Type 0} (Stands : S → Word → Type 0) (monitors : List (Stored S))
    (firings : List Firing) : Type 0 where
  pub distinct : AllPairs (λ f g. f ≢ g) firings
  pub each : (f : Firing) → Contains firings f → IsReported m Stands monitors f
  pub all : (s : Stored S) (w : Word) (k : ℕ) → Contains monitors s → IsFull m s.instance → Stands s.state w
      → IsHit m w k → Contains firings (record { instance = s.instance; handler = k })

-- x is at place k
abbrev pub IsAt : {X : Type 0} → List X → ℕ → X → Type 0
IsAt xs k x = (k < length xs) × (slice_index_or xs k x ≡ x)
