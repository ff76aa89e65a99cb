-- How the lines of scripts that ask for order are gone over.
use Rattle.std.specs.Prelude.{ℕ, ◌≡◌, ◌<◌, ◌≤◌, ◌++◌, List, ◌∷◌, length, Option, Some, None, Contains, IsTrue, nat_eq, slice_get, slice_index}
use Rattle.std.specs.List.{IsDistinct}
use Rattle.jm_model.specs.declared.fault.ScriptFault.TheVariants.{TooManyNotes, DuplicatePost, Stuck}
use Rattle.jm_sync.specs.declared.line.SyncKind.{SyncKind}
use Rattle.jm_sync.specs.declared.line.SyncKind.TheVariants.{Post, Wait}
use Rattle.jm_sync.specs.declared.line.SyncLine.{SyncLine}
use Rattle.jm_sync.specs.declared.error.SyncError.{SyncError}
use Rattle.jm_sync.specs.Names.{is_among, with_number}
use Rattle.jm_sync.specs.Checks.{posts_of, line_at, Reachable, IsOneTooMany, IsSecondPost, IsFirstStuck, IfBad}

-- ---- the count, and the posts

-- there are too many lines
abbrev pub IsCountError : List (List SyncLine) → SyncError → Type 0
IsCountError scripts error =
    IfBad error (λ k fault. (number : ℕ) × (fault ≡ TooManyNotes number) × IsOneTooMany scripts k number)

-- a name is posted a second time
abbrev pub IsPostError : List (List SyncLine) → SyncError → Type 0
IsPostError scripts error =
    IfBad error (λ k fault. (number : ℕ) × (fault ≡ DuplicatePost number) × IsSecondPost scripts k number)

-- of these lines, this is the number of the first that posts a name which is posted already
pub record IsSecondAmong (posted : List ℕ) (lines : List SyncLine) (number : ℕ) : Type 0 where
  pub above : List SyncLine
  pub line : SyncLine
  pub below : List SyncLine
  pub there : lines ≡ above ++ line ∷ below
  pub posts : line.kind ≡ Post
  pub again : Contains (posted ++ posts_of above) line.name
  pub first : IsDistinct nat_eq posted → IsDistinct nat_eq (posted ++ posts_of above)
  pub numbered : number ≡ line.line

-- none of these lines posts a name which is posted already, and these are posted then
pub record PostsNew (posted : List ℕ) (lines : List SyncLine) (new : List ℕ) : Type 0 where
  pub posts : new ≡ posted ++ posts_of lines
  pub distinct : IsDistinct nat_eq posted → IsDistinct nat_eq new

-- lines are gone over, up to the first that posts a name which is posted already
abbrev pub GoesOver : List ℕ → List SyncLine → Option ℕ → List ℕ → Type 0
GoesOver posted lines None new = PostsNew posted lines new
GoesOver posted lines (Some number) new = IsSecondAmong posted lines number

-- ---- fronts

-- the names that are posted once a line is passed
abbrev pub posted_past : List ℕ → SyncKind → ℕ → List ℕ
posted_past posted Post name = with_number posted name
posted_past posted Wait name = posted

-- a line can be passed: it doesn't wait, or its name is posted
pub record IsOpen (lines : List SyncLine) (front : ℕ) (posted : List ℕ) : Type 0 where
  pub line : SyncLine
  pub there : slice_get lines front ≡ Some line
  pub named : line.kind ≡ Wait → IsTrue (is_among posted line.name)

-- the front of script k can pass its line
pub record CanPass (scripts : List (List SyncLine)) (fronts posted : List ℕ) (k : ℕ) : Type 0 where
  pub lines : List SyncLine
  pub here : slice_get scripts k ≡ Some lines
  pub passes : IsOpen lines (slice_index fronts k) posted

-- a post of this name that can be come to
pub record IsPosted (scripts : List (List SyncLine)) (name : ℕ) : Type 0 where
  pub script : ℕ
  pub place : ℕ
  pub line : SyncLine
  pub there : line_at scripts script place ≡ Some line
  pub posts : line.kind ≡ Post
  pub named : line.name ≡ name
  pub reached : Reachable scripts script place

-- all lines above the fronts can be come to, and these names are those that they post
pub record HasReached (scripts : List (List SyncLine)) (fronts posted : List ℕ) : Type 0 where
  pub counted : length fronts ≡ length scripts
  pub reached : (k i : ℕ) → i < slice_index fronts k → Reachable scripts k i
  pub sound : (name : ℕ) → IsTrue (is_among posted name) → IsPosted scripts name
  pub complete : (k i : ℕ) (l : SyncLine) → i < slice_index fronts k → line_at scripts k i ≡ Some l → l.kind ≡ Post
      → IsTrue (is_among posted l.name)

-- a front has come to the end of its script
abbrev pub IsAtEnd : List (List SyncLine) → List ℕ → ℕ → Type 0
IsAtEnd scripts fronts k = (lines : List SyncLine) → slice_get scripts k ≡ Some lines
    → length lines ≤ slice_index fronts k

-- the first front that hasn't come to the end of its script, and the number of its line
pub record IsFirstFront (scripts : List (List SyncLine)) (fronts : List ℕ) (k number : ℕ) : Type 0 where
  pub line : SyncLine
  pub there : line_at scripts k (slice_index fronts k) ≡ Some line
  pub earlier : (j : ℕ) → j < k → IsAtEnd scripts fronts j
  pub numbered : number ≡ line.line

-- a front hasn't come to the end of its script
abbrev pub IsFrontError : List (List SyncLine) → List ℕ → SyncError → Type 0
IsFrontError scripts fronts error =
    IfBad error (λ k fault. (number : ℕ) × (fault ≡ Stuck number) × IsFirstFront scripts fronts k number)

-- some line can't be come to
abbrev pub IsReachError : List (List SyncLine) → SyncError → Type 0
IsReachError scripts error =
    IfBad error (λ k fault. (number : ℕ) × (fault ≡ Stuck number) × IsFirstStuck scripts k number)
