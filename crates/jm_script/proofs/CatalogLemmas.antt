-- A catalog as the list of its specifications.
use Rattle.std.proofs.Common.{ℕ, zero, suc, ◌≡◌, ◌<◌, ◌≤◌, List, [], ◌∷◌, ◌++◌, length, get_or, slice_get, Some, option_map, refl, ap, arith}
use Rattle.std.proofs.lemmas.List.{length_push}
use Rattle.std.proofs.lemmas.Option.{none-some}
use Rattle.jm_events.specs.Events.{EventDefinitions}
use Rattle.jm_script.specs.Catalogs.{spec_names, entries_of}

-- the names of the specifications are the names
pub names-entries_of : (names : List (List ℕ)) (tables : List EventDefinitions) → length tables ≡ length names → spec_names (entries_of names tables) ≡ names
names-entries_of [] tables e = refl
names-entries_of (name ∷ names) [] e = absurd (omega arith)
names-entries_of (name ∷ names) (table ∷ tables) e = ap (λ rest. name ∷ rest) (names-entries_of names tables (omega arith))

pub length-entries_of : (names : List (List ℕ)) (tables : List EventDefinitions) → length tables ≡ length names → length (entries_of names tables) ≡ length names
length-entries_of [] tables e = refl
length-entries_of (name ∷ names) [] e = absurd (omega arith)
length-entries_of (name ∷ names) (table ∷ tables) e = ap suc (length-entries_of names tables (omega arith))

-- one specification more
pub entries_of-push : (names : List (List ℕ)) (tables : List EventDefinitions) (name : List ℕ) (table : EventDefinitions) → length tables ≡ length names → entries_of (names ++ name ∷ []) (tables ++ table ∷ []) ≡ entries_of names tables ++ record { name = name; table = table } ∷ []
entries_of-push [] [] name table e = refl
entries_of-push [] (t ∷ tables) name table e = absurd (omega arith)
entries_of-push (n ∷ names) [] name table e = absurd (omega arith)
entries_of-push (n ∷ names) (t ∷ tables) name table e = ap (λ rest. record { name = n; table = t } ∷ rest) (entries_of-push names tables name table (omega arith))

-- the table at a place
pub table-entries_of : (names : List (List ℕ)) (tables : List EventDefinitions) (k : ℕ) (d : EventDefinitions) → length tables ≡ length names → k < length names → option_map (λ e. e.table) (slice_get (entries_of names tables) k) ≡ Some (get_or tables k d)
table-entries_of [] tables k d e lt = absurd (omega arith)
table-entries_of (name ∷ names) [] k d e lt = absurd (omega arith)
table-entries_of (name ∷ names) (table ∷ tables) zero d e lt = refl
table-entries_of (name ∷ names) (table ∷ tables) (suc k) d e lt = table-entries_of names tables k d (omega arith) (omega arith)

-- the name at a place
pub name-entries_of : (names : List (List ℕ)) (tables : List EventDefinitions) (k : ℕ) (name : List ℕ) → length tables ≡ length names → slice_get names k ≡ Some name → option_map (λ e. e.name) (slice_get (entries_of names tables) k) ≡ Some name
name-entries_of [] tables k name e at = absurd (none-some name at)
name-entries_of (n ∷ names) [] k name e at = absurd (omega arith)
name-entries_of (n ∷ names) (table ∷ tables) zero name e at = at
name-entries_of (n ∷ names) (table ∷ tables) (suc k) name e at = name-entries_of names tables k name (omega arith) at

-- one specification more has room
pub room_more : (names : List (List ℕ)) (tables : List EventDefinitions) (name : List ℕ) (table : EventDefinitions) → length tables ≡ length names → length (entries_of names tables) < 16 → (length (tables ++ table ∷ []) ≡ length (names ++ name ∷ [])) × (length (names ++ name ∷ []) ≤ 16)
room_more names tables name table e room =
    let here = length-entries_of names tables e in
    (omega (arith, length_push tables table, length_push names name), omega (arith, length_push names name))
