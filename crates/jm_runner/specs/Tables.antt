-- Rows and columns.
use Rattle.std.specs.Prelude.{◌≡◌, ℕ, List, [], ◌∷◌, ◌++◌, All, length, Some, slice_get, slice_set}

-- each of the first columns has one element more at its end
abbrev pub lengthened : {A : Type 0} → List (List A) → List A → List (List A)
lengthened cs [] = cs
lengthened [] (x ∷ xs) = []
lengthened (c ∷ cs) (x ∷ xs) = (c ++ x ∷ []) ∷ lengthened cs xs

-- column k has this element more at its end
pub record IsPushedAt {A : Type 0} (k : ℕ) (x : A) (before after : List (List A)) : Type 0 where
  pub column : List A
  pub there : slice_get before k ≡ Some column
  pub changed : after ≡ slice_set before k (column ++ x ∷ [])

-- each column has its element of the row more at its end
pub record AreLengthened {A : Type 0} (row : List A) (before after : List (List A)) : Type 0 where
  pub width : length row ≡ length before
  pub changed : after ≡ lengthened before row

-- the row has this element in column k
pub record IsInRow {A : Type 0} (rows : List (List A)) (s k : ℕ) (x : A) : Type 0 where
  pub row : List A
  pub there : slice_get rows s ≡ Some row
  pub here : slice_get row k ≡ Some x

-- the columns of these rows: each has one element of each row
pub record AreColumns {A : Type 0} (rows columns : List (List A)) : Type 0 where
  pub long : All (λ c. length c ≡ length rows) columns
  pub same : (k s : ℕ) (column : List A) (x : A) → slice_get columns k ≡ Some column → slice_get column s ≡ Some x
      → IsInRow rows s k x
