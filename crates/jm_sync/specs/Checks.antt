-- What is wrong with lines of scripts that ask for order.
use Rattle.std.specs.Prelude.{ℕ, ◌≡◌, ◌<◌, ◌≤◌, ◌++◌, List, [], ◌∷◌, map, length, take, Option, Some, Contains, nat_eq, option_and_then, slice_get}
use Rattle.std.specs.List.{flat_map, IsDistinct}
use Rattle.jm_model.specs.declared.fault.ScriptFault.{ScriptFault}
use Rattle.jm_model.specs.declared.fault.ScriptFault.TheVariants.{TooManyNotes, DuplicatePost, Stuck}
use Rattle.jm_sync.specs.declared.line.SyncKind.{SyncKind}
use Rattle.jm_sync.specs.declared.line.SyncKind.TheVariants.{Post, Wait}
use Rattle.jm_sync.specs.declared.line.SyncLine.{SyncLine}
use Rattle.jm_sync.specs.declared.line.Cut.{Cut}
use Rattle.jm_sync.specs.declared.error.SyncError.{SyncError}
use Rattle.jm_sync.specs.declared.error.SyncError.TheVariants.{Bad, NoMemory}

-- what the lines of each script ask for
abbrev pub sync_of : List Cut → List (List SyncLine)
sync_of cuts = map (λ c. c.lines.items) cuts

-- all of it, in the order of scripts and lines
abbrev pub all_lines : List (List SyncLine) → List SyncLine
all_lines scripts = flat_map (λ lines. lines) scripts

-- the name that a line posts, if it posts one
abbrev pub posted_by : SyncKind → ℕ → List ℕ
posted_by Post name = name ∷ []
posted_by Wait name = []

-- the names that lines post, in order
abbrev pub posts_of : List SyncLine → List ℕ
posts_of lines = flat_map (λ l. posted_by l.kind l.name) lines

-- the line of a script at a place
abbrev pub line_at : List (List SyncLine) → ℕ → ℕ → Option SyncLine
line_at scripts k i = option_and_then (λ lines. slice_get lines i) (slice_get scripts k)

-- a line that can be come to: all lines above it in its script can be, and where it waits, so can some post of its name
pub data Reachable (scripts : List (List SyncLine)) : ℕ → ℕ → Type 0 where
  at_post : (k i : ℕ) (l : SyncLine) → line_at scripts k i ≡ Some l → l.kind ≡ Post
      → ((j : ℕ) → j < i → Reachable scripts k j) → Reachable scripts k i
  at_wait : (k i : ℕ) (l : SyncLine) → line_at scripts k i ≡ Some l → l.kind ≡ Wait
      → ((j : ℕ) → j < i → Reachable scripts k j)
      → (m n : ℕ) (post : SyncLine) → line_at scripts m n ≡ Some post → post.kind ≡ Post → post.name ≡ l.name
      → Reachable scripts m n → Reachable scripts k i

-- there are at most 65,536 of these lines
abbrev pub AreFew : List (List SyncLine) → Type 0
AreFew scripts = length (all_lines scripts) ≤ 65536

-- no name is posted twice
abbrev pub ArePostedOnce : List (List SyncLine) → Type 0
ArePostedOnce scripts = IsDistinct nat_eq (posts_of (all_lines scripts))

-- each line can be come to
abbrev pub AreReachable : List (List SyncLine) → Type 0
AreReachable scripts = (k i : ℕ) (l : SyncLine) → line_at scripts k i ≡ Some l → Reachable scripts k i

-- nothing is wrong
pub record AreSound (scripts : List (List SyncLine)) : Type 0 where
  pub few : AreFew scripts
  pub once : ArePostedOnce scripts
  pub reachable : AreReachable scripts

-- a line of script k, and all lines that stand before it, in the order of scripts and lines
pub record StandsBehind (scripts : List (List SyncLine)) (k : ℕ) (before : List SyncLine) (l : SyncLine) : Type 0 where
  pub above : List SyncLine
  pub below : List SyncLine
  pub there : slice_get scripts k ≡ Some (above ++ l ∷ below)
  pub earlier : before ≡ all_lines (take k scripts) ++ above

-- this is the number of the 65,537th line, which is one of script k
pub record IsOneTooMany (scripts : List (List SyncLine)) (k number : ℕ) : Type 0 where
  pub before : List SyncLine
  pub line : SyncLine
  pub stands : StandsBehind scripts k before line
  pub full : length before ≡ 65536
  pub numbered : number ≡ line.line

-- this is the number of the first line that posts a name a second time, which is one of script k
pub record IsSecondPost (scripts : List (List SyncLine)) (k number : ℕ) : Type 0 where
  pub before : List SyncLine
  pub line : SyncLine
  pub stands : StandsBehind scripts k before line
  pub posts : line.kind ≡ Post
  pub again : Contains (posts_of before) line.name
  pub first : IsDistinct nat_eq (posts_of before)
  pub numbered : number ≡ line.line

-- this is the number of the first line that can't be come to, in the first script that has one, which is script k
pub record IsFirstStuck (scripts : List (List SyncLine)) (k number : ℕ) : Type 0 where
  pub place : ℕ
  pub line : SyncLine
  pub there : line_at scripts k place ≡ Some line
  pub stuck : Reachable scripts k place → ⊥
  pub above : (i : ℕ) → i < place → Reachable scripts k i
  pub earlier : (j i : ℕ) (l : SyncLine) → j < k → line_at scripts j i ≡ Some l → Reachable scripts j i
  pub numbered : number ≡ line.line

-- this is wrong, in script k; what comes first in this order isn't
abbrev pub IsWrong : List (List SyncLine) → ℕ → ScriptFault → Type 0
IsWrong scripts k (TooManyNotes number) = IsOneTooMany scripts k number
IsWrong scripts k (DuplicatePost number) = AreFew scripts × IsSecondPost scripts k number
IsWrong scripts k (Stuck number) = AreFew scripts × ArePostedOnce scripts × IsFirstStuck scripts k number
IsWrong scripts k _ = ⊥

-- what holds of a fault, if there is one
abbrev pub IfBad : SyncError → (ℕ → ScriptFault → Type 0) → Type 0
IfBad (Bad k fault) P = P k fault
IfBad NoMemory P = Unit {0}

-- why scripts were refused
abbrev pub AreRefused : List (List SyncLine) → SyncError → Type 0
AreRefused scripts error = IfBad error (IsWrong scripts)
