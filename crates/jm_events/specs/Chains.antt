use Rattle.std.specs.Prelude.{ℕ, ◌≡◌, ◌≢◌, ◌<◌, ◌≤◌, ◌-◌, ◌*◌, ◌/◌, ◌^◌, List, map, length, slice_index}
use Rattle.jm_events.specs.declared.chains.Link.{Link}

-- what is seen of chains: the hashes, how many chains there are, and for how many hashes there is room
pub record Hashes : Type 0 where
  pub hashes : List ℕ
  pub chains : ℕ
  pub room : ℕ

-- the hashes of links, and the numbers that stand before them
abbrev pub hashes_of : List Link → List ℕ
hashes_of links = map (λ link. link.hash) links

abbrev pub befores_of : List Link → List ℕ
befores_of links = map (λ link. link.before) links

-- the chain of a hash, of so many
unfoldable pub chain_of : ℕ → ℕ → ℕ
chain_of chains hash = (hash * chains) / 2 ^ 32

-- one more than the last of the first n numbers in a chain, or 0 where there is none
pub record IsLast (hashes : List ℕ) (chains chain n at : ℕ) : Type 0 where
  pub within : at ≤ n
  pub inside : 0 < at → chain_of chains (slice_index hashes (at - 1)) ≡ chain
  pub beyond : (k : ℕ) → at ≤ k → k < n → chain_of chains (slice_index hashes k) ≢ chain

-- the last of the first n numbers in each chain
abbrev pub AreHeads : List ℕ → ℕ → ℕ → List ℕ → Type 0
AreHeads hashes chains n heads = (c : ℕ) → c < chains → IsLast hashes chains c n (slice_index heads c)

-- what stands before each of the first n numbers in its chain
abbrev pub AreBefores : List ℕ → ℕ → ℕ → List ℕ → Type 0
AreBefores hashes chains n befores =
    (k : ℕ) → k < n → IsLast hashes chains (chain_of chains (slice_index hashes k)) k (slice_index befores k)

-- each number is in the chain of its hash
pub record AreChains (links : List Link) (heads : List ℕ) : Type 0 where
  pub few : length heads < 2 ^ 32
  pub enough : length links ≤ length heads
  pub lasts : AreHeads (hashes_of links) (length heads) (length links) heads
  pub befores : AreBefores (hashes_of links) (length heads) (length links) (befores_of links)
