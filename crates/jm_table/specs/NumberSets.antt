-- A set of numbers as bits of words of 64: number k is bit k % 64 of word k / 64.
use Rattle.std.specs.Prelude.{ℕ, ◌==◌, ◌*◌, ◌/◌, ◌%◌, Bool, List, filter, length, slice_index}
use Rattle.std.specs.List.{range_with_len}
use Rattle.std.specs.Int.{bit_at}

-- the number's bit is set
abbrev pub has_number : List ℕ → ℕ → Bool
has_number words number = bit_at (slice_index words (number / 64)) (number % 64) == 1

-- the numbers whose bits are set
unfoldable pub numbers_of : List ℕ → List ℕ
numbers_of words = filter (has_number words) (range_with_len 0 (64 * length words))
