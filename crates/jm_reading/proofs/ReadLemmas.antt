-- What a formula says is made step by step, and its faults are neither those of the grammar nor those of parentheses.
use Rattle.std.proofs.Common.{ℕ, ◌≡◌, Bool, true, false, cond, List, [], ◌∷◌, Option, Some, None, Result, Ok, Err, refl, subst}
use Rattle.std.specs.Option.{ok_or}
use Rattle.jm_model.specs.declared.fault.Counted.TheVariants.{Nesting}
use Rattle.jm_model.specs.declared.fault.SpecFault.{SpecFault}
use Rattle.jm_model.specs.declared.fault.SpecFault.TheVariants.{Syntax, TooMany, UnknownName}
use Rattle.jm_events.specs.Events.{EventDefinition}
use Rattle.jm_reading.specs.Events.{reserved_event_fault}
use Rattle.jm_reading.specs.Faults.{or_else, ◌>>>◌, with_each, fault_of}

pub then_then : {A B C : Type 0} (r : Result A SpecFault) (f : A → Result B SpecFault) (g : B → Result C SpecFault) → (r >>> f) >>> g ≡ r >>> (λ a. f a >>> g)
then_then (Ok a) f g = refl
then_then (Err fault) f g = refl

pub then_same : {A B : Type 0} (r : Result A SpecFault) (f g : A → Result B SpecFault) → ((a : A) → r ≡ Ok a → f a ≡ g a) → r >>> f ≡ r >>> g
then_same (Ok a) f g h = h a refl
then_same (Err fault) f g h = refl

pub then_ok : {A B : Type 0} (r : Result A SpecFault) (f : A → Result B SpecFault) (b : B) → (r >>> f) ≡ Ok b → (a : A) × (r ≡ Ok a) × (f a ≡ Ok b)
then_ok (Ok a) f b h = (a, refl, h)
then_ok (Err e) f b h = absurd (cc)

-- what is there is said
pub said_is : {X : Type 0} (o : Option X) (fault : SpecFault) (x : X) → ok_or o fault ≡ Ok x → o ≡ Some x
said_is None fault x h = absurd (cc)
said_is (Some y) fault x h = cc

-- no fault, or another than those
abbrev pub IsOther : Option SpecFault → Type 0
IsOther (Some (Syntax line)) = ⊥
IsOther (Some (TooMany Nesting)) = ⊥
IsOther _ = Unit {0}

abbrev pub FailsOther : {X : Type 0} → Result X SpecFault → Type 0
FailsOther (Ok x) = Unit {0}
FailsOther (Err fault) = IsOther (Some fault)

pub other_or : (a b : Option SpecFault) → IsOther a → IsOther b → IsOther (or_else a b)
other_or None b h k = k
other_or (Some fault) b h k = h

pub other_if : (b : Bool) (fault : SpecFault) (o : Option SpecFault) → IsOther (Some fault) → IsOther o → IsOther (cond b (Some fault) o)
other_if true fault o h k = h
other_if false fault o h k = k

pub other_event : (is_word : List ℕ → Bool) (es : List EventDefinition) → IsOther (reserved_event_fault is_word es)
other_event is_word [] = tt
other_event is_word (e ∷ es) = other_if _ _ _ tt (other_event is_word es)

pub other_then : {A B : Type 0} (r : Result A SpecFault) (f : A → Result B SpecFault) → FailsOther r → ((a : A) → FailsOther (f a)) → FailsOther (r >>> f)
other_then (Ok a) f h k = k a
other_then (Err e) f h k = h

pub other_name : {X : Type 0} (o : Option X) (line : ℕ) → FailsOther (ok_or o (UnknownName line))
other_name None line = tt
other_name (Some x) line = tt

pub other_of : {X : Type 0} (r : Result X SpecFault) → FailsOther r → IsOther (fault_of r)
other_of (Ok x) h = tt
other_of (Err e) h = h

-- what is added one after the other
module _ {A B : Type 0} (with_one : B → A → Result B SpecFault) where
  pub other_each : ((b : B) (x : A) → FailsOther (with_one b x)) → (b : B) (xs : List A) → FailsOther (with_each with_one b xs)
  other_each other b [] = tt
  other_each other b (x ∷ xs) = other_then (with_one b x) _ (other b x) (λ more. other_each other more xs)

  -- what holds at first, and still holds after each, holds at the end
  pub kept_by_each : (P : B → Type 0) → ((b made : B) (x : A) → with_one b x ≡ Ok made → P b → P made) → (b made : B) (xs : List A) → with_each with_one b xs ≡ Ok made → P b → P made
  kept_by_each P keeps b made [] h is = let e : b ≡ made = cc in subst P e is
  kept_by_each P keeps b made (x ∷ xs) h is = let a = then_ok (with_one b x) _ made h in kept_by_each P keeps a.0 made xs a.2 (keeps b a.0 x a.1 is)
