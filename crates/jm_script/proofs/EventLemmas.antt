-- The event that a line names, and a binding of objects to its parameters.
use Rattle.std.proofs.Common.{◌≡◌, ◌≢◌, ℕ, suc, ◌<◌, ◌+◌, ◌*◌, ◌/◌, ◌%◌, true, false, List, [], ◌∷◌, length, Option, Some, None, Ok, Err, option_map, slice_get, refl, sym, ap, ◌∙◌, arith}
use Rattle.std.specs.Prelude.{◌==◌, count_ones}
use Rattle.std.specs.Option.{option_map_or}
use Rattle.std.proofs.lemmas.Bool.Decides.{nat_tests}
use Rattle.jm_model.specs.Bindings.{mask_of, objects_of}
use Rattle.jm_model.specs.declared.fault.ScriptFault.TheVariants.{UnknownSpec, UnknownEvent, WrongCount}
use Rattle.jm_events.specs.Names.{number_of}
use Rattle.jm_events.specs.Events.{EventDefinitions, event_names}
use Rattle.jm_script.specs.Catalogs.{CatalogEntry, spec_names, table_of}
use Rattle.jm_script.specs.Events.{mask_at, counted, event_in, named_event, spread}
use Rattle.jm_script.specs.Fitting.{HasEvent}

-- an option that is there, read with a default
pub read_there : {X Y : Type 0} (f : X → Y) (o : Option X) (d y : Y) → option_map f o ≡ Some y → option_map_or f o d ≡ y
read_there f None d y e = cc
read_there f (Some x) d y e = cc

pub unknown_spec : (catalog : List CatalogEntry) (line : ℕ) (spec event : List ℕ) (count : ℕ) → number_of (spec_names catalog) spec ≡ None → Err (UnknownSpec line) ≡ named_event catalog line spec event count
unfolding named_event
unknown_spec catalog line spec event count e = rw e refl

module _ (catalog : List CatalogEntry) (line : ℕ) (spec event : List ℕ) (count : ℕ) (s : ℕ) (table : EventDefinitions) (found : number_of (spec_names catalog) spec ≡ Some s) (there : option_map (λ e. e.table) (slice_get catalog s) ≡ Some table) where
  table_is : table_of catalog s ≡ table
  table_is = read_there (λ e. e.table) (slice_get catalog s) (record { parameters = []; events = [] }) table there

  in_table : named_event catalog line spec event count ≡ event_in line count s table (number_of (event_names table) event)
  unfolding named_event
  in_table = rw (found, table_is) refl

  pub unknown_event : number_of (event_names table) event ≡ None → Err (UnknownEvent line) ≡ named_event catalog line spec event count
  unknown_event none = sym (in_table ∙ rw none refl)

  module _ (letter mask : ℕ) (known : number_of (event_names table) event ≡ Some letter) (masked : option_map (λ e. e.mask) (slice_get table.events letter) ≡ Some mask) where
    mask_is : mask_at table letter ≡ mask
    mask_is = read_there (λ e. e.mask) (slice_get table.events letter) 0 mask masked

    is_counted : named_event catalog line spec event count ≡ counted line count (record { spec = s; letter = record { 0 = letter }; mask = mask })
    is_counted = in_table ∙ rw (known, mask_is) refl

    pub has_event : s < length catalog → letter < length table.events → HasEvent catalog s letter mask
    has_event inside below = record { specification = inside; event = rw table_is below; parameters = rw table_is (sym mask_is) }

    pub wrong_count : (count_ones mask == count) ≡ false → Err (WrongCount line) ≡ named_event catalog line spec event count
    wrong_count differ = sym (is_counted ∙ rw differ refl)

    pub event_found : (count_ones mask == count) ≡ true → Ok (record { spec = s; letter = record { 0 = letter }; mask = mask }) ≡ named_event catalog line spec event count
    event_found same = sym (is_counted ∙ rw same refl)

-- a binding is its objects, spread over its parameters
spread_of : (b : List (Option ℕ)) → spread (length b) (mask_of b) (objects_of b) ≡ b
spread_of [] = refl
spread_of (None ∷ b) = unbound (mask_of b) (objects_of b) b (spread_of b)
  where
    unbound : (mask : ℕ) (os : List ℕ) (b : List (Option ℕ)) → spread (length b) mask os ≡ b → spread (suc (length b)) (2 * mask) os ≡ None ∷ b
    unbound mask [] b ih =
        let half : 2 * mask / 2 ≡ mask = omega arith in
        ap (λ l. None ∷ l) (ap (λ m. spread (length b) m []) half ∙ ih)
    unbound mask (o ∷ os) b ih =
        let half : 2 * mask / 2 ≡ mask = omega arith in
        let even : (2 * mask % 2 == 1) ≡ false = grind (arith, nat_tests) in
        rw (even, half) (ap (λ l. None ∷ l) ih)
spread_of (Some o ∷ b) = bound (mask_of b) (objects_of b) b (spread_of b)
  where
    bound : (mask : ℕ) (os : List ℕ) (b : List (Option ℕ)) → spread (length b) mask os ≡ b → spread (suc (length b)) (1 + 2 * mask) (o ∷ os) ≡ Some o ∷ b
    bound mask os b ih =
        let half : (1 + 2 * mask) / 2 ≡ mask = omega arith in
        let odd : ((1 + 2 * mask) % 2 == 1) ≡ true = grind (arith, nat_tests) in
        rw (odd, half) (ap (λ l. Some o ∷ l) ih)

-- the binding of these objects to a set of parameters
pub spread_is : (b : List (Option ℕ)) (mask : ℕ) (objects : List ℕ) → length b ≡ 8 → mask_of b ≡ mask → objects_of b ≡ objects → b ≡ spread 8 mask objects
spread_is b mask objects eight masked bound = sym (rw (← eight, ← masked, ← bound) (spread_of b))

pub differs : (a b : ℕ) → a ≢ b → (a == b) ≡ false
differs a b ne = grind (arith, nat_tests)
