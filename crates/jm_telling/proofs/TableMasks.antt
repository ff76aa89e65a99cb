-- The sets of parameters of a table's events hold parameters of the table alone.
use Rattle.std.proofs.Common.{◌≡◌, ℕ, zero, suc, ◌<◌, ◌+◌, ◌^◌, Bool, true, false, cond, List, [], ◌∷◌, ◌++◌, Option, Some, None, map, length, refl, sym, subst, arith}
use Rattle.std.specs.Prelude.{◌||◌, unwrap_or, slice_get}
use Rattle.std.specs.List.{AllByRecursion, list_any}
use Rattle.std.specs.Str.{bytes_eq}
use Rattle.std.proofs.Math.Pow.{pow-lt}
use Rattle.std.proofs.lemmas.Nat.{or_lt, pow_pos}
use Rattle.std.proofs.lemmas.List.{length_push}
use Rattle.std.proofs.lemmas.Option.{none-some}
use Rattle.jm_text.specs.declared.token.Token.{Token}
use Rattle.jm_events.specs.Events.{EventDefinition, EventDefinitions, event_names, with_parameter, after_mention, with_event}
use Rattle.jm_script.proofs.NameLemmas.{number_of-below}
use Rattle.jm_spec.specs.Faults.{name_of, with_bit, number_said, with_names}

-- each event's set holds only parameters of the table
abbrev pub HasMasks : EventDefinitions → Type 0
HasMasks t = AllByRecursion (λ e. e.mask < 2 ^ length t.parameters) t.events

-- ---- the names of an event's lists

bit_below : (n mask : ℕ) (o : Option ℕ) → ((p : ℕ) → o ≡ Some p → p < n) → mask < 2 ^ n → with_bit mask o < 2 ^ n
bit_below n mask None each small = small
bit_below n mask (Some p) each small =
    let bit : 2 ^ p < 2 ^ n = pow-lt (each p refl) in
    or_lt n mask (2 ^ p) small bit

number_below : (t : EventDefinitions) (said : Option (List ℕ)) (p : ℕ) → number_said t said ≡ Some p → p < length t.parameters
number_below t None p e = absurd (none-some p e)
number_below t (Some name) p e = number_of-below t.parameters name p e

names_below : (bytes : List ℕ) (t : EventDefinitions) (ns : List Token) (mask : ℕ) → mask < 2 ^ length t.parameters → with_names bytes t mask ns < 2 ^ length t.parameters
names_below bytes t [] mask small = small
names_below bytes t (n ∷ ns) mask small =
    let number = number_said t (name_of bytes n) in
    names_below bytes t ns (with_bit mask number) (bit_below (length t.parameters) mask number (number_below t (name_of bytes n)) small)

pub mask_said : (bytes : List ℕ) (t : EventDefinitions) (ns : List Token) → with_names bytes t 0 ns < 2 ^ length t.parameters
mask_said bytes t ns = names_below bytes t ns 0 (pow_pos (length t.parameters))

-- ---- one parameter or one mention more

all_push : {X : Type 0} (P : X → Type 0) (xs : List X) (x : X) → AllByRecursion P xs → P x → AllByRecursion P (xs ++ x ∷ [])
all_push P [] x all here = (here, tt)
all_push P (y ∷ xs) x all here = (all.0, all_push P xs x all.1 here)

more_room : (n k : ℕ) (events : List EventDefinition) → k ≡ n + 1 → AllByRecursion (λ e. e.mask < 2 ^ n) events → AllByRecursion (λ e. e.mask < 2 ^ k) events
more_room n k [] more all = tt
more_room n k (e ∷ events) more all =
    let wider : 2 ^ n < 2 ^ k = pow-lt (omega (arith, more)) in
    (omega (arith, wider, all.0), more_room n k events more all.1)

pub parameter_masks : (t : EventDefinitions) (name : List ℕ) → HasMasks t → HasMasks (with_parameter t name)
parameter_masks t name all = more_room (length t.parameters) (length (t.parameters ++ name ∷ [])) t.events (length_push t.parameters name) all

-- what a mention leaves as it was: all but whether the event is a creation event
pub same_after : {Y : Type 0} (f : EventDefinition → Y) → ((x : EventDefinition) (c : Bool) → f (record x { creation = c }) ≡ f x) → (e known : EventDefinition) → f (after_mention e known) ≡ f known
same_after f same e known = by_case (bytes_eq e.name known.name)
  where
    by_case : (b : Bool) → f (cond b (record known { creation = known.creation || e.creation }) known) ≡ f known
    by_case true = same known (known.creation || e.creation)
    by_case false = refl

mentioned_masks : (bound : ℕ) (e : EventDefinition) (events : List EventDefinition) → AllByRecursion (λ x. x.mask < bound) events → AllByRecursion (λ x. x.mask < bound) (map (after_mention e) events)
mentioned_masks bound e [] all = tt
mentioned_masks bound e (x ∷ events) all = (subst (λ (m : ℕ). m < bound) (sym (same_after (λ (d : EventDefinition). d.mask) (λ d c. refl) e x)) all.0, mentioned_masks bound e events all.1)

pub event_masks : (t : EventDefinitions) (e : EventDefinition) → HasMasks t → e.mask < 2 ^ length t.parameters → HasMasks (with_event t e)
event_masks t e all here = by_case (list_any (bytes_eq e.name) (event_names t))
  where
    by_case : (b : Bool) → AllByRecursion (λ x. x.mask < 2 ^ length t.parameters) (cond b (map (after_mention e) t.events) (t.events ++ e ∷ []))
    by_case true = mentioned_masks (2 ^ length t.parameters) e t.events all
    by_case false = all_push (λ x. x.mask < 2 ^ length t.parameters) t.events e all here

-- the set of an event's parameters, by its letter
pub mask_within : (bound : ℕ) (events : List EventDefinition) (letter : ℕ) → letter < length events → AllByRecursion (λ e. e.mask < bound) events → unwrap_or (slice_get (map (λ (e : EventDefinition). e.mask) events) letter) 0 < bound
mask_within bound [] letter below all = absurd (omega (arith, below))
mask_within bound (e ∷ events) zero below all = all.0
mask_within bound (e ∷ events) (suc letter) below all = mask_within bound events letter (omega (arith, below)) all.1
