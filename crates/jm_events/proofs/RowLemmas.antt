use Rattle.std.proofs.Common.{ℕ, ◌≡◌, ◌<◌, suc, zero, Bool, ◌||◌, List, [], ◌∷◌, ◌++◌, Option, Some, map, length, get_or, set, slice_get, option_map, All, refl, sym, ap, subst, ◌∙◌, ◌^◌, arith, length-append}
use Rattle.std.proofs.lemmas.Option.{none-some, same_Some, slice_get_within, slice_get-map}
use Rattle.std.proofs.lemmas.List.Elements.{All-get_or, All-push}
use Rattle.jm_events.specs.declared.table.Row.{Row}
use Rattle.jm_events.specs.Events.{EventDefinition, EventDefinitions}
use Rattle.jm_events.specs.Rows.{event_of, events_of, IsTable}

-- two lengths that are equal one element later
suc_same : (a b : ℕ) → suc a ≡ suc b → a ≡ b
suc_same a b e = omega arith

-- the events have the names
pub names-events_of : (names : List (List ℕ)) (rows : List Row) → length rows ≡ length names → map (λ e. e.name) (events_of names rows) ≡ names
names-events_of [] [] e = refl
names-events_of [] (row ∷ rows) e = refl
names-events_of (name ∷ names) [] e = absurd (omega arith)
names-events_of (name ∷ names) (row ∷ rows) e = ap (λ ns. name ∷ ns) (names-events_of names rows (suc_same _ _ e))

-- there are as many events as names
pub length-events_of : (names : List (List ℕ)) (rows : List Row) → length rows ≡ length names → length (events_of names rows) ≡ length names
length-events_of [] [] e = refl
length-events_of [] (row ∷ rows) e = refl
length-events_of (name ∷ names) [] e = absurd (omega arith)
length-events_of (name ∷ names) (row ∷ rows) e = ap suc (length-events_of names rows (suc_same _ _ e))

-- what the events say, of what their rows say
pub fields-events_of : {Y : Type 0} (f : EventDefinition → Y) (g : Row → Y) (names : List (List ℕ)) (rows : List Row) → ((name : List ℕ) (row : Row) → f (event_of name row) ≡ g row) → length rows ≡ length names → map f (events_of names rows) ≡ map g rows
fields-events_of f g [] [] same e = refl
fields-events_of f g [] (row ∷ rows) same e = absurd (omega arith)
fields-events_of f g (name ∷ names) [] same e = refl
fields-events_of f g (name ∷ names) (row ∷ rows) same e = λ j. same name row j ∷ fields-events_of f g names rows same (suc_same _ _ e) j

-- the event at a place
pub slice_get-events_of : (names : List (List ℕ)) (rows : List Row) (k : ℕ) (name : List ℕ) (row : Row) → slice_get names k ≡ Some name → slice_get rows k ≡ Some row → slice_get (events_of names rows) k ≡ Some (event_of name row)
slice_get-events_of [] rows k name row at here = absurd (none-some name at)
slice_get-events_of (n ∷ names) [] k name row at here = absurd (none-some row here)
slice_get-events_of (n ∷ names) (r ∷ rows) zero name row at here = rw (same_Some n name at, same_Some r row here) refl
slice_get-events_of (n ∷ names) (r ∷ rows) (suc k) name row at here = slice_get-events_of names rows k name row at here

-- one event more
pub events_of-push : (names : List (List ℕ)) (rows : List Row) (name : List ℕ) (row : Row) → length rows ≡ length names → events_of (names ++ name ∷ []) (rows ++ row ∷ []) ≡ events_of names rows ++ event_of name row ∷ []
events_of-push [] [] name row e = refl
events_of-push [] (r ∷ rows) name row e = absurd (omega arith)
events_of-push (n ∷ names) [] name row e = absurd (omega arith)
events_of-push (n ∷ names) (r ∷ rows) name row e = ap (λ es. event_of n r ∷ es) (events_of-push names rows name row (suc_same _ _ e))

-- another row at a place
pub events_of-set : (names : List (List ℕ)) (rows : List Row) (k : ℕ) (name : List ℕ) (row : Row) → slice_get names k ≡ Some name → events_of names (set rows k row) ≡ set (events_of names rows) k (event_of name row)
events_of-set [] rows k name row at = absurd (none-some name at)
events_of-set (n ∷ names) [] k name row at = refl
events_of-set (n ∷ names) (r ∷ rows) zero name row at = rw (same_Some n name at) refl
events_of-set (n ∷ names) (r ∷ rows) (suc k) name row at = ap (λ es. event_of n r ∷ es) (events_of-set names rows k name row at)

-- there is an element at each place within
slice_get_here : {X : Type 0} (xs : List X) (k : ℕ) → k < length xs → (x : X) × (slice_get xs k ≡ Some x)
slice_get_here [] k lt = absurd (omega arith)
slice_get_here (x ∷ xs) zero lt = (x, refl)
slice_get_here (x ∷ xs) (suc k) lt = slice_get_here xs k (omega arith)

-- the event at a place, where there is a row
pub event_at : (names : List (List ℕ)) (rows : List Row) (k : ℕ) (row : Row) → length rows ≡ length names → slice_get rows k ≡ Some row → (name : List ℕ) × (slice_get names k ≡ Some name) × (slice_get (events_of names rows) k ≡ Some (event_of name row))
event_at names rows k row each here =
    let lt : k < length names = rw (← each) (slice_get_within rows k row here) in
    let at = slice_get_here names k lt in
    (at.0, at.1, slice_get-events_of names rows k at.0 row at.1 here)

-- what the event at a place says, of what its row says
pub field_at : {Y : Type 0} (f : EventDefinition → Y) (g : Row → Y) (names : List (List ℕ)) (rows : List Row) (k : ℕ) (row : Row) → ((name : List ℕ) → f (event_of name row) ≡ g row) → length rows ≡ length names → slice_get rows k ≡ Some row → option_map f (slice_get (events_of names rows) k) ≡ Some (g row)
field_at f g names rows k row same each here =
    let e = event_at names rows k row each here in
    rw (e.2) (ap Some (same e.0))

-- a letter that is there has a row
pub within_rows : (names : List (List ℕ)) (rows : List Row) (k : ℕ) → length rows ≡ length names → k < length (events_of names rows) → k < length rows
within_rows names rows k each lt = rw each (rw (length-events_of names rows each) at lt)

-- the parameters of an event are there
pub mask_at : (n : ℕ) (rows : List Row) (k : ℕ) (row : Row) → All (λ r. r.mask < n) rows → k < length rows → row ≡ get_or rows k row → row.mask < n
mask_at n rows k row all lt e = subst (λ (r : Row). r.mask < n) (sym e) (All-get_or (λ r. r.mask < n) rows k row lt all)

-- the image of a value that is there
pub option_map-at : {X Y : Type 0} (f : X → Y) (o : Option X) (x : X) (y : Y) → o ≡ Some x → option_map f o ≡ Some y → f x ≡ y
option_map-at f o x y e m = same_Some (f x) y (rw e at m)

-- the name at a place is that of the event there
name_at : (names : List (List ℕ)) (rows : List Row) (k : ℕ) (known : EventDefinition) → length rows ≡ length names → slice_get (events_of names rows) k ≡ Some known → slice_get names k ≡ Some known.name
name_at names rows k known each at =
    rw (← names-events_of names rows each, slice_get-map, at) refl

-- the event at a place after another mention of it
pub mention_at : (names : List (List ℕ)) (rows : List Row) (k : ℕ) (known : EventDefinition) (row : Row) (creation : Bool) → length rows ≡ length names → slice_get (events_of names rows) k ≡ Some known → known.mask ≡ row.mask → known.creation ≡ row.creation → known.line ≡ row.line
    → events_of names (set rows k (record row { creation = row.creation || creation })) ≡ set (events_of names rows) k (record known { creation = known.creation || creation })
mention_at names rows k known row creation each at mask was line =
    let changed : Row = record row { creation = row.creation || creation } in
    events_of-set names rows k known.name changed (name_at names rows k known each at) ∙ rw (mask, was, line) refl

-- tables with the same parameters, whose events are equal
pub same_events : (parameters : List (List ℕ)) (xs ys : List EventDefinition) → xs ≡ ys → ◌≡◌ {A = EventDefinitions} (record { parameters = parameters; events = xs }) (record { parameters = parameters; events = ys })
same_events parameters xs ys e = rw e refl

-- a table with one event more
pub IsTable-push : (parameters names : List (List ℕ)) (rows : List Row) (name : List ℕ) (row : Row) → IsTable parameters names rows → length names < 32 → row.mask < 2 ^ length parameters → IsTable parameters (names ++ name ∷ []) (rows ++ row ∷ [])
IsTable-push parameters names rows name row t room bits = record {
  row_each = omega (arith, length-append rows (row ∷ []), length-append names (name ∷ []), t.row_each);
  few_parameters = t.few_parameters;
  few_events = omega (arith, length-append names (name ∷ []));
  masks = All-push (λ r. r.mask < 2 ^ length parameters) rows row t.masks bits;
}
