use Rattle.std.proofs.Common.{◌≡◌, ℕ, zero, suc, Bool, true, false, List, [], ◌∷◌, ◌++◌, refl, arith, lit<}
use Rattle.std.specs.Prelude.{◌&&◌, None, Some}
use Rattle.std.proofs.lemmas.Bool.{false≢true, and_parts, and_from}
use Rattle.jm_model.specs.Meanings.{IsAvailable}
use Rattle.jm_model.specs.declared.firings.Firing.{Firing}
use Rattle.jm_semantics.specs.Legality.{IsLegal}
use Rattle.jm_semantics.specs.ExampleEntries.{pass}
use Rattle.jm_semantics.specs.UnsafeIterExamples.{unsafe_iter, unsafe_iter_params, is_unsafe_use, after_create, after_update, next, unsafe_use, two_iterators, before_second_use, early_use, before_last_pass, use_after_death, before_cut, cut_by_death, refusals, forgotten, misfit}
use Rattle.jm_semantics.proofs.ReplyLemmas.{outcome_is_pinned-lem}
use Rattle.jm_semantics.proofs.DecidingAnswers.{Tests}
use Rattle.jm_semantics.proofs.DecidingHistories.{CutTests, legal-tested}
use Rattle.jm_semantics.proofs.ExampleLemmas.{is_free, free-apart, apart-free, one_handler_tests, one_handler_cuts, AreAvailable}

-- ---- when an instance is cut
-- whether an available word leads from w to the end of `update* next`, of `next* update+ next`, of the whole
abbrev alive_after_update : List ℕ → ℕ → Bool
alive_after_update [] dead = is_free 2 dead
alive_after_update (suc zero ∷ w) dead = alive_after_update w dead
alive_after_update _ dead = false

abbrev alive_after_create : List ℕ → ℕ → Bool
alive_after_create [] dead = is_free 1 dead && is_free 2 dead
alive_after_create (suc (suc zero) ∷ w) dead = alive_after_create w dead
alive_after_create (suc zero ∷ w) dead = alive_after_update w dead
alive_after_create _ dead = false

abbrev is_alive : List ℕ → ℕ → Bool
is_alive [] dead = is_free 3 dead && (is_free 1 dead && is_free 2 dead)
is_alive (zero ∷ w) dead = alive_after_create w dead
is_alive _ dead = false

module _ (dead : ℕ) where
  abbrev AllFree : List ℕ → Type 0
  AllFree u = AreAvailable 3 unsafe_iter_params is_unsafe_use dead u

  update-needs : (u : List ℕ) → AllFree u → after_update u ≡ true → is_free 2 dead ≡ true
  update-needs [] a h = absurd (false≢true h)
  update-needs (zero ∷ u) a h = absurd (false≢true h)
  update-needs (suc zero ∷ u) a h = update-needs u a.1 h
  update-needs (suc (suc zero) ∷ []) a h = apart-free 2 dead a.0.1
  update-needs (suc (suc zero) ∷ x ∷ u) a h = absurd (false≢true h)
  update-needs (suc (suc (suc x)) ∷ u) a h = absurd (false≢true h)

  create-needs : (u : List ℕ) → AllFree u → after_create u ≡ true → (is_free 1 dead && is_free 2 dead) ≡ true
  create-needs [] a h = absurd (false≢true h)
  create-needs (zero ∷ u) a h = absurd (false≢true h)
  create-needs (suc zero ∷ u) a h = and_from (is_free 1 dead) (is_free 2 dead) (apart-free 1 dead a.0.1) (update-needs u a.1 h)
  create-needs (suc (suc zero) ∷ u) a h = create-needs u a.1 h
  create-needs (suc (suc (suc x)) ∷ u) a h = absurd (false≢true h)

  all-needs : (u : List ℕ) → AllFree u → is_unsafe_use u ≡ true → is_alive [] dead ≡ true
  all-needs [] a h = absurd (false≢true h)
  all-needs (zero ∷ u) a h = and_from (is_free 3 dead) (is_free 1 dead && is_free 2 dead) (apart-free 3 dead a.0.1) (create-needs u a.1 h)
  all-needs (suc x ∷ u) a h = absurd (false≢true h)

  update-can : (w : List ℕ) (e : ℕ) (u : List ℕ) → AllFree (e ∷ u) → after_update (w ++ e ∷ u) ≡ true → alive_after_update w dead ≡ true
  update-can [] e u a h = update-needs (e ∷ u) a h
  update-can (zero ∷ w) e u a h = absurd (false≢true h)
  update-can (suc zero ∷ w) e u a h = update-can w e u a h
  update-can (suc (suc zero) ∷ []) e u a h = absurd (false≢true h)
  update-can (suc (suc zero) ∷ x ∷ w) e u a h = absurd (false≢true h)
  update-can (suc (suc (suc x)) ∷ w) e u a h = absurd (false≢true h)

  create-can : (w : List ℕ) (e : ℕ) (u : List ℕ) → AllFree (e ∷ u) → after_create (w ++ e ∷ u) ≡ true → alive_after_create w dead ≡ true
  create-can [] e u a h = create-needs (e ∷ u) a h
  create-can (zero ∷ w) e u a h = absurd (false≢true h)
  create-can (suc zero ∷ w) e u a h = update-can w e u a h
  create-can (suc (suc zero) ∷ w) e u a h = create-can w e u a h
  create-can (suc (suc (suc x)) ∷ w) e u a h = absurd (false≢true h)

  -- a word of available letters that leads there
  abbrev LeadsInto : (List ℕ → Bool) → List ℕ → Type 0
  LeadsInto language w = (e : ℕ) × (u : List ℕ) × AllFree (e ∷ u) × (language (w ++ e ∷ u) ≡ true)

  next-free : is_free 2 dead ≡ true → IsAvailable unsafe_iter dead 2
  next-free h = (lit< tt, free-apart 2 dead h)

  update-free : is_free 1 dead ≡ true → IsAvailable unsafe_iter dead 1
  update-free h = (lit< tt, free-apart 1 dead h)

  update-leads : (w : List ℕ) → alive_after_update w dead ≡ true → LeadsInto after_update w
  update-leads [] h = (2, [], (next-free h, tt), refl)
  update-leads (zero ∷ w) h = absurd (false≢true h)
  update-leads (suc zero ∷ w) h = update-leads w h
  update-leads (suc (suc x) ∷ w) h = absurd (false≢true h)

  create-leads : (w : List ℕ) → alive_after_create w dead ≡ true → LeadsInto after_create w
  create-leads [] h =
      let hs = and_parts (is_free 1 dead) (is_free 2 dead) h in
      (1, 2 ∷ [], (update-free hs.0, (next-free hs.1, tt)), refl)
  create-leads (zero ∷ w) h = absurd (false≢true h)
  create-leads (suc zero ∷ w) h = update-leads w h
  create-leads (suc (suc zero) ∷ w) h = create-leads w h
  create-leads (suc (suc (suc x)) ∷ w) h = absurd (false≢true h)

can : (w : List ℕ) (dead e : ℕ) (u : List ℕ) → AllFree dead (e ∷ u) → is_unsafe_use (w ++ e ∷ u) ≡ true → is_alive w dead ≡ true
can [] dead e u a h = all-needs dead (e ∷ u) a h
can (zero ∷ w) dead e u a h = create-can dead w e u a h
can (suc x ∷ w) dead e u a h = absurd (false≢true h)

leads : (w : List ℕ) (dead : ℕ) → is_alive w dead ≡ true → LeadsInto dead is_unsafe_use w
leads [] dead h =
    let hs = and_parts (is_free 3 dead) (is_free 1 dead && is_free 2 dead) h in
    let ks = and_parts (is_free 1 dead) (is_free 2 dead) hs.1 in
    (0, 1 ∷ 2 ∷ [], ((lit< tt, free-apart 3 dead hs.0), (update-free dead ks.0, (next-free dead ks.1, tt))), refl)
leads (zero ∷ w) dead h = create-leads dead w h
leads (suc x ∷ w) dead h = absurd (false≢true h)

abbrev unsafe_iter_tests : Tests unsafe_iter
unsafe_iter_tests = one_handler_tests 3 unsafe_iter_params is_unsafe_use

abbrev unsafe_iter_cuts : CutTests unsafe_iter
unsafe_iter_cuts = one_handler_cuts 3 unsafe_iter_params is_unsafe_use is_alive can leads

-- ---- the histories
pub unsafe_use-legal : IsLegal unsafe_iter unsafe_use
unsafe_use-legal = legal-tested unsafe_iter unsafe_iter_tests None unsafe_use refl

pub two_iterators-legal : IsLegal unsafe_iter two_iterators
two_iterators-legal = legal-tested unsafe_iter unsafe_iter_tests None two_iterators refl

pub early_use-legal : IsLegal unsafe_iter (early_use [])
early_use-legal = legal-tested unsafe_iter unsafe_iter_tests None (early_use []) refl

pub early_use-only : (answer : List Firing) → IsLegal unsafe_iter (early_use answer) → answer ≡ []
early_use-only answer l =
    let same = outcome_is_pinned-lem unsafe_iter before_second_use (next 4 1 answer) (next 4 1 []) [] [] l early_use-legal refl (λ e. cc) (λ e. cc) in
    cc

pub use_after_death-legal : IsLegal unsafe_iter (use_after_death 1)
use_after_death-legal = legal-tested unsafe_iter unsafe_iter_tests (Some unsafe_iter_cuts) (use_after_death 1) refl

pub use_after_death-only : (kept : ℕ) → IsLegal unsafe_iter (use_after_death kept) → kept ≡ 1
use_after_death-only kept l =
    let same = outcome_is_pinned-lem unsafe_iter before_last_pass (pass 6 kept) (pass 6 1) [] [] l use_after_death-legal refl (λ e. cc) (λ e. cc) in
    cc

pub cut_by_death-legal : IsLegal unsafe_iter (cut_by_death 1)
cut_by_death-legal = legal-tested unsafe_iter unsafe_iter_tests (Some unsafe_iter_cuts) (cut_by_death 1) refl

pub cut_by_death-only : (kept : ℕ) → IsLegal unsafe_iter (cut_by_death kept) → kept ≡ 1
cut_by_death-only kept l =
    let same = outcome_is_pinned-lem unsafe_iter before_cut (pass 4 kept) (pass 4 1) [] [] l cut_by_death-legal refl (λ e. cc) (λ e. cc) in
    cc

pub refusals-legal : IsLegal unsafe_iter refusals
refusals-legal = legal-tested unsafe_iter unsafe_iter_tests None refusals refl

pub forgotten-legal : IsLegal unsafe_iter forgotten
forgotten-legal = legal-tested unsafe_iter unsafe_iter_tests None forgotten refl

pub misfit-not : IsLegal unsafe_iter misfit → ⊥
misfit-not l = let mask : 3 ≡ 1 = l.0.2 in omega (arith, mask)
