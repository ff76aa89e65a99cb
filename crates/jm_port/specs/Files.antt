use Rattle.std.specs.Prelude.{ℕ, List, Option, Bool, find, option_map, if◌then◌else◌}
use Rattle.std.specs.Str.{bytes_eq}
use Rattle.jm_port.specs.Faults.{next_count}

-- a file in memory: its name and its bytes
pub record MemoryFile : Type 0 where
  pub name : List ℕ
  pub bytes : List ℕ

-- the bytes of the first file of a name, if there is one
abbrev pub held_by : List MemoryFile → List ℕ → Option (List ℕ)
held_by files name = option_map (λ file. file.bytes) (find (λ file. bytes_eq file.name name) files)

-- files in memory, the numbers of the loads that fail, how many loads there were, and how many of them failed
pub record MemoryFiles : Type 0 where
  pub files : List MemoryFile
  pub fail : List ℕ
  pub calls : ℕ
  pub faults : ℕ

-- the files after one more load, which failed or not
abbrev pub after_load : MemoryFiles → Bool → MemoryFiles
after_load f failed = record f { calls = next_count f.calls; faults = if failed then next_count f.faults else f.faults }
