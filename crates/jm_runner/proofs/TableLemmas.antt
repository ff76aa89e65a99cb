-- Columns, and one row more.
use Rattle.std.proofs.Common.{◌≡◌, ℕ, zero, suc, List, [], ◌∷◌, ◌++◌, map, length, Some, slice_get, slice_set, refl, sym, ap, ◌∙◌, subst, arith, inl, inr, length-append}
use Rattle.std.specs.Prelude.{All}
use Rattle.std.proofs.lemmas.Option.{same_Some, slice_get-map}
use Rattle.std.proofs.lemmas.List.{map-set, length-map}
use Rattle.std.specs.Option.{option_map}
use Rattle.std.proofs.lemmas.List.Elements.{All-nil, All-cons, All-head, All-tail}
use Rattle.jm_runner.specs.Tables.{lengthened, IsInRow, AreColumns, AreLengthened, IsPushedAt}
use Rattle.jm_turn.proofs.Elements.{get_last, get_longer, get_snoc, place_from_all}

-- one element more at the end of column k, the first that wasn't lengthened yet
pub lengthened-more : {A : Type 0} (cs : List (List A)) (ys : List A) (x : A) (k : ℕ) (c : List A) → length ys ≡ k → slice_get (lengthened cs ys) k ≡ Some c
    → lengthened cs (ys ++ x ∷ []) ≡ slice_set (lengthened cs ys) k (c ++ x ∷ [])
lengthened-more [] [] x k c e at = absurd (cc (at))
lengthened-more [] (y ∷ ys) x k c e at = absurd (cc (at))
lengthened-more (d ∷ cs) [] x zero c e at = ap (λ l. (l ++ x ∷ []) ∷ cs) (same_Some d c at)
lengthened-more (d ∷ cs) [] x (suc k) c e at = absurd (omega arith)
lengthened-more (d ∷ cs) (y ∷ ys) x zero c e at = absurd (omega arith)
lengthened-more (d ∷ cs) (y ∷ ys) x (suc k) c e at = ap (λ l. (d ++ y ∷ []) ∷ l) (lengthened-more cs ys x k c (omega arith) at)

-- the same by what a push does
pub lengthened-pushed : {A : Type 0} (cs : List (List A)) (ys : List A) (x : A) (k : ℕ) (before after : List (List A)) → before ≡ lengthened cs ys → k ≡ length ys → IsPushedAt k x before after
    → after ≡ lengthened cs (ys ++ x ∷ [])
lengthened-pushed cs ys x k before after are place h =
    let here : slice_get (lengthened cs ys) k ≡ Some h.column = ap (λ l. slice_get l k) (sym are) ∙ h.there in
    h.changed ∙ ap (λ l. slice_set l k (h.column ++ x ∷ [])) are ∙ sym (lengthened-more cs ys x k h.column (sym place) here)

-- an element more in one of several columns that have more to them than their elements
pub pushed_at : {A V : Type 0} (elements : V → List A) (columns : List V) (k : ℕ) (x : A) (old new : V) → slice_get columns k ≡ Some old → elements new ≡ elements old ++ x ∷ []
    → IsPushedAt k x (map elements columns) (map elements (slice_set columns k new))
pushed_at elements columns k x old new at is = record {
  column = elements old;
  there = slice_get-map elements columns k ∙ ap (λ o. option_map elements o) at;
  changed = map-set elements columns k new ∙ ap (λ c. slice_set (map elements columns) k c) is;
}

pub length-lengthened : {A : Type 0} (cs : List (List A)) (ys : List A) → length (lengthened cs ys) ≡ length cs
length-lengthened cs [] = refl
length-lengthened [] (y ∷ ys) = refl
length-lengthened (c ∷ cs) (y ∷ ys) = ap suc (length-lengthened cs ys)

-- there are as many columns as before
pub same_lengths : {A V : Type 0} (after before : List V) (elements : V → List A) (row : List A) → AreLengthened row (map elements before) (map elements after) → length after ≡ length before
same_lengths after before elements row h = sym (length-map after elements) ∙ ap length h.changed ∙ length-lengthened (map elements before) row ∙ length-map before elements

all_longer : {A : Type 0} (n : ℕ) (cs : List (List A)) (ys : List A) → length ys ≡ length cs → All (λ c. length c ≡ n) cs → All (λ c. length c ≡ suc n) (lengthened cs ys)
all_longer n [] [] e h = All-nil (λ c. length c ≡ suc n)
all_longer n (c ∷ cs) [] e h = absurd (omega arith)
all_longer n [] (y ∷ ys) e h = absurd (omega arith)
all_longer n (c ∷ cs) (y ∷ ys) e h =
    let first : length c ≡ n = All-head (λ c. length c ≡ n) c cs h in
    All-cons (λ c. length c ≡ suc n) (c ++ y ∷ []) (lengthened cs ys) (omega (arith, length-append c (y ∷ []), first)) (all_longer n cs ys (omega arith) (All-tail (λ c. length c ≡ n) c cs h))

-- a lengthened column: the column that it was, and the element of the row
record IsLonger {A : Type 0} (cs : List (List A)) (ys : List A) (k : ℕ) (column : List A) : Type 0 where
  pub before : List A
  pub element : A
  pub was : slice_get cs k ≡ Some before
  pub new : slice_get ys k ≡ Some element
  pub is : column ≡ before ++ element ∷ []

get-lengthened : {A : Type 0} (cs : List (List A)) (ys : List A) (k : ℕ) (column : List A) → length ys ≡ length cs → slice_get (lengthened cs ys) k ≡ Some column → IsLonger cs ys k column
get-lengthened [] [] k column e at = absurd (cc (at))
get-lengthened (c ∷ cs) [] k column e at = absurd (omega arith)
get-lengthened [] (y ∷ ys) k column e at = absurd (omega arith)
get-lengthened (c ∷ cs) (y ∷ ys) zero column e at = record { before = c; element = y; was = refl; new = refl; is = sym (same_Some (c ++ y ∷ []) column at) }
get-lengthened (c ∷ cs) (y ∷ ys) (suc k) column e at =
    let h = get-lengthened cs ys k column (omega arith) at in
    record { before = h.before; element = h.element; was = h.was; new = h.new; is = h.is }

module _ {A : Type 0} (rows columns : List (List A)) (row : List A) (width : length row ≡ length columns) (h : AreColumns rows columns) where
  in_old_row : (k s : ℕ) (x : A) → IsInRow rows s k x → IsInRow (rows ++ row ∷ []) s k x
  in_old_row k s x r = record { row = r.row; there = get_longer rows row r.row s r.there; here = r.here }

  in_some_row : (k s : ℕ) (column : List A) (x : A) → slice_get (lengthened columns row) k ≡ Some column → slice_get column s ≡ Some x → IsInRow (rows ++ row ∷ []) s k x
  in_some_row k s column x at here =
      let l = get-lengthened columns row k column width at in
      let long : length l.before ≡ length rows = place_from_all (λ c. length c ≡ length rows) columns k l.before h.long l.was in
      elim (get_snoc l.before l.element x s (subst (λ (c : List A). slice_get c s ≡ Some x) l.is here)) [
        | inl old ↦ in_old_row k s x (h.same k s l.before x l.was old)
        | inr last ↦ record {
          row = row;
          there = subst (λ (n : ℕ). slice_get (rows ++ row ∷ []) n ≡ Some row) (sym (last.0 ∙ long)) (get_last rows row);
          here = subst (λ (y : A). slice_get row k ≡ Some y) last.1 l.new;
        }
      ]

  -- the columns of one row more
  columns_longer : AreColumns (rows ++ row ∷ []) (lengthened columns row)
  columns_longer = record {
    long = subst (λ (n : ℕ). All (λ c. length c ≡ n) (lengthened columns row)) (omega (arith, length-append rows (row ∷ []))) (all_longer (length rows) columns row width h.long);
    same = in_some_row;
  }

pub columns_more : {A : Type 0} (rows before after : List (List A)) (row : List A) → AreLengthened row before after → AreColumns rows before → AreColumns (rows ++ row ∷ []) after
columns_more {A} rows before after row h are = subst (λ (cs : List (List A)). AreColumns (rows ++ row ∷ []) cs) (sym h.changed) (columns_longer rows before row h.width are)
