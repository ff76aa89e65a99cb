use Rattle.std.proofs.Common.{ℕ, ◌≡◌, ◌<◌, ◌+◌, List, ◌∷◌, Some, true, false, cond, map, length, get_or, drop, find, option_map, refl, sym, ◌∙◌}
use Rattle.std.specs.Str.{bytes_eq}
use Rattle.std.proofs.lemmas.List.{at_drop_more, length-map, get_or-map}
use Rattle.jm_port.specs.Files.{MemoryFile, held_by}

-- the first file of a name among a file and others
held_by-cons : (file : MemoryFile) (files : List MemoryFile) (name : List ℕ) → held_by (file ∷ files) name ≡ cond (bytes_eq file.name name) (Some file.bytes) (held_by files name)
held_by-cons file files name =
    elim (bytes_eq file.name name) as (λ b. option_map (λ f. f.bytes) (cond b (Some file) (find (λ f. bytes_eq f.name name) files)) ≡ cond b (Some file.bytes) (held_by files name)) [ true ↦ refl | false ↦ refl ]

-- the first file of a name, from place k on: the file there, or the first after it
pub held_by-drop : {X : Type 0} (file_of : X → MemoryFile) (xs : List X) (files : List MemoryFile) (k : ℕ) (x : X) (name : List ℕ) → map file_of xs ≡ files → k < length xs → x ≡ get_or xs k x → held_by (drop k files) name ≡ cond (bytes_eq (file_of x).name name) (Some (file_of x).bytes) (held_by (drop (k + 1) files) name)
held_by-drop file_of xs files k x name e lt at =
    let in_map : k < length (map file_of xs) = rw length-map lt in
    rw (← e, at_drop_more (λ fs. held_by fs name) (map file_of xs) k (file_of x) in_map, get_or-map file_of xs k x (file_of x) lt, ← at)
    (held_by-cons (file_of x) _ name)

-- the first file of a name, where none before place k has it, and the file there does
pub held_at : {X : Type 0} (file_of : X → MemoryFile) (xs : List X) (files : List MemoryFile) (k : ℕ) (x : X) (name : List ℕ) → map file_of xs ≡ files → k < length xs → x ≡ get_or xs k x → bytes_eq (file_of x).name name ≡ true → held_by (drop k files) name ≡ held_by files name → held_by files name ≡ Some (file_of x).bytes
held_at file_of xs files k x name e lt at is_name so_far =
    let step = held_by-drop file_of xs files k x name e lt at in
    sym so_far ∙ rw is_name at step
