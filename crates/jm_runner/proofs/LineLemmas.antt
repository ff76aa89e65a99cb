-- Lines whose numbers rise.
use Rattle.std.proofs.Common.{◌≡◌, ℕ, zero, suc, ◌+◌, ◌<◌, ◌≤◌, List, [], ◌∷◌, ◌++◌, length, get_or, take, Some, slice_get, refl, ap, ◌∙◌, subst, arith}
use Rattle.std.specs.Prelude.{All}
use Rattle.std.proofs.lemmas.Option.{none-some, same_Some, slice_get_read}
use Rattle.std.proofs.lemmas.List.{map-append}
use Rattle.std.proofs.lemmas.List.Elements.{All-weaker, All-push, All-same}
use Rattle.jm_sync.specs.declared.line.SyncLine.{SyncLine}
use Rattle.jm_sync.specs.Cuts.{RisesFrom as SyncRisesFrom}
use Rattle.jm_sync.specs.declared.line.Cut.{Cut}
use Rattle.jm_sync.specs.Checks.{sync_of}
use Rattle.jm_sync.proofs.CheckLemmas.{script_at}
use Rattle.jm_turn.proofs.Elements.{place_from_all}
use Rattle.jm_runner.specs.Notes.{HaveNamesBelow}
use Rattle.jm_runner.proofs.PlaceLemmas.{take_place}

-- ---- lines that ask for order
sync_from : (n : ℕ) (lines : List SyncLine) (place : ℕ) (l : SyncLine) → SyncRisesFrom n lines → slice_get lines place ≡ Some l → n ≤ l.line
sync_from n [] place l rising at = absurd (none-some l at)
sync_from n (x ∷ lines) zero l rising at = subst (λ (y : SyncLine). n ≤ y.line) (same_Some x l at) rising.0
sync_from n (x ∷ lines) (suc place) l rising at =
    let later : x.line + 1 ≤ l.line = sync_from (x.line + 1) lines place l rising.1 at in
    let first : n ≤ x.line = rising.0 in
    omega arith

pub sync_rises : (n : ℕ) (lines : List SyncLine) (i m : ℕ) (a b : SyncLine) → SyncRisesFrom n lines → slice_get lines i ≡ Some a → slice_get lines m ≡ Some b → i < m → a.line < b.line
sync_rises n [] i m a b rising aat bat less = absurd (none-some a aat)
sync_rises n (x ∷ lines) i zero a b rising aat bat less = absurd (omega arith)
sync_rises n (x ∷ lines) zero (suc m) a b rising aat bat less =
    let later : x.line + 1 ≤ b.line = sync_from (x.line + 1) lines m b rising.1 bat in
    let is : x.line ≡ a.line = ap (λ (y : SyncLine). y.line) (same_Some x a aat) in
    omega arith
sync_rises n (x ∷ lines) (suc i) (suc m) a b rising aat bat less = sync_rises (x.line + 1) lines i m a b rising.1 aat bat (omega arith)

-- ---- names

-- the names of one line more are below a number
pub names_more : (lines : List SyncLine) (i : ℕ) (line : SyncLine) (most more : ℕ) → slice_get lines i ≡ Some line → most ≤ more → line.name < more → All (λ (x : SyncLine). x.name < most) (take i lines) → All (λ (x : SyncLine). x.name < more) (take (i + 1) lines)
names_more lines i line most more at grown low above =
    All-same (λ (x : SyncLine). x.name < more) (take (i + 1) lines) (take i lines ++ line ∷ []) (take_place lines i line at)
    (All-push (λ (x : SyncLine). x.name < more) (take i lines) line (All-weaker (λ (x : SyncLine). x.name < most) (λ (x : SyncLine). x.name < more) (λ x less. omega arith) (take i lines) above) low)

-- what holds of the lines of each script holds of those at a place
pub cut_at : (P : List SyncLine → Type 0) (cuts : List Cut) (i : ℕ) (cut : Cut) → All P (sync_of cuts) → i < length cuts → cut ≡ get_or cuts i cut → P cut.lines.items
cut_at P cuts i cut all less is = place_from_all P (sync_of cuts) i cut.lines.items all (script_at cuts i cut less is)

-- the names of one script more are below a number
pub cuts_more : (cuts : List Cut) (i : ℕ) (cut : Cut) (most more : ℕ) → i < length cuts → cut ≡ get_or cuts i cut → most ≤ more → HaveNamesBelow most (sync_of (take i cuts)) → All (λ (x : SyncLine). x.name < more) cut.lines.items → HaveNamesBelow more (sync_of (take (i + 1) cuts))
cuts_more cuts i cut most more less is grown before low =
    let whole : take (i + 1) cuts ≡ take i cuts ++ cut ∷ [] = take_place cuts i cut (slice_get_read cuts (length cuts) i cut refl less is) in
    let all : sync_of (take (i + 1) cuts) ≡ sync_of (take i cuts) ++ cut.lines.items ∷ [] = ap sync_of whole ∙ map-append (λ (c : Cut). c.lines.items) (take i cuts) (cut ∷ []) in
    All-same (λ (ls : List SyncLine). All (λ (x : SyncLine). x.name < more) ls) (sync_of (take (i + 1) cuts)) (sync_of (take i cuts) ++ cut.lines.items ∷ []) all
    (All-push (λ (ls : List SyncLine). All (λ (x : SyncLine). x.name < more) ls) (sync_of (take i cuts)) cut.lines.items
    (All-weaker (λ (ls : List SyncLine). All (λ (x : SyncLine). x.name < most) ls) (λ (ls : List SyncLine). All (λ (x : SyncLine). x.name < more) ls)
    (λ ls below. All-weaker (λ (x : SyncLine). x.name < most) (λ (x : SyncLine). x.name < more) (λ x few. omega arith) ls below) (sync_of (take i cuts)) before) low)
