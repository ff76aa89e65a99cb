-- The account of a history so far, and the reply to its next step.
use Rattle.std.specs.Prelude.{ℕ, ◌≡◌, ◌≢◌, ◌<◌, ◌↔◌, ◌⊎◌, Bool, true, false, List, [], ◌∷◌, ◌++◌, Contains, bit_and, slice_set}
use Rattle.std.specs.Int.{bit_at}
use Rattle.std.specs.List.Sorted.{IsStrictlySortedBy}
use Rattle.jm_model.specs.Bindings.{binding_cmp, is_below, mask_of, mask_where}
use Rattle.jm_model.specs.Meanings.{Meaning, IsHit, IsCutWord}
use Rattle.jm_model.specs.declared.binding.Binding.{Binding}
use Rattle.jm_model.specs.declared.firings.Firing.{Firing}
use Rattle.jm_model.specs.declared.step.Entry.{Entry}
use Rattle.jm_model.specs.declared.step.Step.{Step}
use Rattle.jm_model.specs.declared.step.Step.TheVariants.{Death}
use Rattle.jm_model.specs.declared.step.Outcome.{Outcome}
use Rattle.jm_model.specs.declared.step.Outcome.TheVariants.{Refused, Done, NoMemory}
use Rattle.jm_semantics.specs.Answers.{firing_cmp}
use Rattle.jm_semantics.specs.Histories.{trace_of, is_dead}
use Rattle.jm_semantics.specs.Traces.{seen_of}
use Rattle.jm_semantics.specs.Legality.{IsReply}
use Rattle.jm_audit.specs.Flags.{is_flagged}
use Rattle.jm_audit.specs.Slices.{Sliced, AreInstancesOf}
use Rattle.jm_audit.specs.declared.account.Account.{Account}

-- the account is that of the history
pub record IsAccountOf (m : Meaning) (h : List Entry) (account : Account) : Type 0 where
  pub seen : account.seen.items ≡ seen_of (trace_of h)
  pub dead : (o : ℕ) → is_flagged account.dead.items o ≡ is_dead h o
  pub instances : AreInstancesOf m (trace_of h) account.instances.items

-- the outcome is the reply to the step in the history, and the account that of the history with it
pub record IsReplied (m : Meaning) (h : List Entry) (s : Step) (o : Outcome) (account : Account) : Type 0 where
  pub reply : IsReply m h s o
  pub done : o ≢ NoMemory
  pub next : (x : Entry) → x.step ≡ s → x.outcome ≡ o → IsAccountOf m (h ++ x ∷ []) account

-- so many objects have flags that the step finds those that it sets
abbrev pub HasRoom : ℕ → Step → Type 0
HasRoom flags (Death o) = o < flags
HasRoom flags _ = Unit {0}

-- the death of an object: it is refused where the object is dead, and else sets its flag
abbrev pub IsDeath : ℕ → Account → Outcome → Account → Type 0
IsDeath o account (Refused q) after = (is_flagged account.dead.items o ≡ true) × (q ≡ o) × (after ≡ account)
IsDeath o account Done after =
    (is_flagged account.dead.items o ≡ false) × (after.dead.items ≡ slice_set account.dead.items o true)
    × (after.seen ≡ account.seen) × (after.instances ≡ account.instances)
IsDeath o account _ after = ⊥

-- ---- what handlers run
-- the firing is of an instance among these that lies above the binding and binds what a reported instance has to bind
pub record IsHitAmong (m : Meaning) (b : Binding) (instances : List Sliced) (f : Firing) : Type 0 where
  pub instance : Sliced
  pub among : Contains instances instance
  pub same : instance.binding ≡ f.instance
  pub above : is_below b f.instance ≡ true
  pub full : bit_and m.must_bind (mask_of f.instance) ≡ m.must_bind
  pub hit : IsHit m instance.word f.handler

-- these are exactly the firings of the instances
pub record AreHits (m : Meaning) (b : Binding) (instances : List Sliced) (firings : List Firing) : Type 0 where
  pub each : (f : Firing) → Contains firings f → IsHitAmong m b instances f
  pub all : (f : Firing) → IsHitAmong m b instances f → Contains firings f

-- Firings of an instance were added, one for each handler below n whose bit is set.
pub record IsPushed (t : Binding) (hits n : ℕ) (old new : List Firing) : Type 0 where
  pub each : (f : Firing) → Contains new f
      → Contains old f ⊎ ((f.instance ≡ t) × (f.handler < n) × (bit_at hits f.handler ≡ 1))
  pub kept : (f : Firing) → Contains old f → Contains new f
  pub all : (k : ℕ) → k < n → bit_at hits k ≡ 1 → Contains new (record { instance = t; handler = k })

-- both lists have the same firings
abbrev pub AreSame : List Firing → List Firing → Type 0
AreSame firings others = (f : Firing) → Contains firings f ↔ Contains others f

-- and in their order
pub record IsReport (m : Meaning) (b : Binding) (instances : List Sliced) (firings : List Firing) : Type 0 where
  pub increasing : IsStrictlySortedBy firing_cmp firings
  pub hits : AreHits m b instances firings

-- ---- which instances a pass keeps
-- the instance is cut, by the flags of the objects
abbrev pub IsCutBy : Meaning → List Bool → Sliced → Type 0
IsCutBy m flags i = IsCutWord m i.word (mask_where (is_flagged flags) i.binding)

-- these are exactly the instances that aren't cut
pub record AreAlive (m : Meaning) (flags : List Bool) (instances : List Sliced) (alive : List Binding) : Type 0 where
  pub each : (t : Binding) → Contains alive t
      → (i : Sliced) × Contains instances i × (i.binding ≡ t) × (IsCutBy m flags i → ⊥)
  pub all : (i : Sliced) → Contains instances i → (IsCutBy m flags i → ⊥) → Contains alive i.binding

-- and in their order
pub record AreKept (m : Meaning) (flags : List Bool) (instances : List Sliced) (kept : List Binding) : Type 0 where
  pub increasing : IsStrictlySortedBy binding_cmp kept
  pub alive : AreAlive m flags instances kept
