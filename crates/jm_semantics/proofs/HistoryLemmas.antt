use Rattle.std.proofs.Common.{◌≡◌, ℕ, zero, suc, Bool, true, false, cond, List, [], ◌∷◌, ◌++◌, refl, sym, ◌∙◌, ap}
use Rattle.std.specs.Prelude.{Option, Some, None, filter, filter_map, find, map, ◌==◌, ◌||◌}
use Rattle.std.specs.List.{list_any}
use Rattle.std.proofs.lemmas.Bool.{or_left}
use Rattle.std.proofs.lemmas.Option.{none-some, same_Some}
use Rattle.std.proofs.lemmas.List.{append-nil, map-append}
use Rattle.std.proofs.lemmas.List.Elements.{filter-append, filter_map-append}
use Rattle.std.proofs.lemmas.List.Folds.{list_any-append}
use Rattle.jm_model.specs.Bindings.{is_below, object_at}
use Rattle.jm_model.specs.declared.binding.Binding.{Binding}
use Rattle.jm_model.specs.declared.step.Entry.{Entry}
use Rattle.jm_semantics.specs.Traces.{ParametricEvent, seen_of, slice_of}
use Rattle.jm_semantics.specs.Histories.{accepted_event, trace_of, accepted_death, dead_of, is_dead, first_dead}

-- ---- longer histories
pub trace_of-append : (h g : List Entry) → trace_of (h ++ g) ≡ trace_of h ++ trace_of g
trace_of-append h g = filter_map-append (λ x. accepted_event x.step x.outcome) h g

pub dead_of-append : (h g : List Entry) → dead_of (h ++ g) ≡ dead_of h ++ dead_of g
dead_of-append h g = filter_map-append (λ x. accepted_death x.step x.outcome) h g

-- ---- one entry more
-- what a list of one gives
filter_map-one : {X Y : Type 0} (f : X → Option Y) (x : X) (r : Option Y) → f x ≡ r → filter_map f (x ∷ []) ≡ filter_map (λ y. y) (r ∷ [])
filter_map-one f x r e = ap (λ v. filter_map (λ y. y) (v ∷ [])) e

-- an accepted event ends the trace
pub trace_of-accepted : (h : List Entry) (x : Entry) (a : ParametricEvent) → accepted_event x.step x.outcome ≡ Some a → trace_of (h ++ x ∷ []) ≡ trace_of h ++ a ∷ []
trace_of-accepted h x a e =
    trace_of-append h (x ∷ []) ∙ ap (λ g. trace_of h ++ g) (filter_map-one (λ (y : Entry). accepted_event y.step y.outcome) x (Some a) e)

-- any other entry leaves the trace as it was
pub trace_of-other : (h : List Entry) (x : Entry) → accepted_event x.step x.outcome ≡ None → trace_of (h ++ x ∷ []) ≡ trace_of h
trace_of-other h x e =
    trace_of-append h (x ∷ []) ∙ ap (λ g. trace_of h ++ g) (filter_map-one (λ (y : Entry). accepted_event y.step y.outcome) x None e)
    ∙ append-nil (trace_of h)

-- an accepted death ends the dead objects
pub dead_of-accepted : (h : List Entry) (x : Entry) (o : ℕ) → accepted_death x.step x.outcome ≡ Some o → dead_of (h ++ x ∷ []) ≡ dead_of h ++ o ∷ []
dead_of-accepted h x o e =
    dead_of-append h (x ∷ []) ∙ ap (λ g. dead_of h ++ g) (filter_map-one (λ (y : Entry). accepted_death y.step y.outcome) x (Some o) e)

-- any other entry leaves them as they were
pub dead_of-other : (h : List Entry) (x : Entry) → accepted_death x.step x.outcome ≡ None → dead_of (h ++ x ∷ []) ≡ dead_of h
dead_of-other h x e =
    dead_of-append h (x ∷ []) ∙ ap (λ g. dead_of h ++ g) (filter_map-one (λ (y : Entry). accepted_death y.step y.outcome) x None e)
    ∙ append-nil (dead_of h)

-- ---- dead objects of a binding
live_first : (test : ℕ → Bool) (q : ℕ) (rest : Option ℕ) → cond (test q) (Some q) rest ≡ None → (test q ≡ false) × (rest ≡ None)
live_first test q rest n =
    elim (test q) as (λ v. cond v (Some q) rest ≡ None → (v ≡ false) × (rest ≡ None)) [
      | true ↦ λ e. absurd (none-some q (sym e))
      | false ↦ λ e. (refl, e)
    ] n

-- where no object that b binds passes the test, none that it gives to a parameter does
find-None : (test : ℕ → Bool) (b : Binding) (p o : ℕ) → find test (filter_map (λ x. x) b) ≡ None → object_at b p ≡ Some o → test o ≡ false
find-None test [] p o n e = absurd (none-some o e)
find-None test (None ∷ b) zero o n e = absurd (none-some o e)
find-None test (None ∷ b) (suc p) o n e = find-None test b p o n e
find-None test (Some q ∷ b) zero o n e =
    ap test (sym (same_Some q o e)) ∙ (live_first test q (find test (filter_map (λ x. x) b)) n).0
find-None test (Some q ∷ b) (suc p) o n e = find-None test b p o (live_first test q (find test (filter_map (λ x. x) b)) n).1 e

-- an event that names no dead object binds live ones alone
pub live-object : (h : List Entry) (b : Binding) (p o : ℕ) → first_dead h b ≡ None → object_at b p ≡ Some o → is_dead h o ≡ false
live-object h b p o n e = find-None (is_dead h) b p o n e

find-from_None : (test : ℕ → Bool) (b : Binding) → ((p o : ℕ) → object_at b p ≡ Some o → test o ≡ false) → find test (filter_map (λ x. x) b) ≡ None
find-from_None test [] live = refl
find-from_None test (None ∷ b) live = find-from_None test b (λ p. live (suc p))
find-from_None test (Some q ∷ b) live =
    let rest : find test (filter_map (λ x. x) b) ≡ None = find-from_None test b (λ p. live (suc p)) in
    ap (λ v. cond v (Some q) (find test (filter_map (λ x. x) b))) (live 0 q refl) ∙ rest

-- and one that binds live objects alone names no dead one
pub first_dead-None : (h : List Entry) (b : Binding) → ((p o : ℕ) → object_at b p ≡ Some o → is_dead h o ≡ false) → first_dead h b ≡ None
first_dead-None h b live = find-from_None (is_dead h) b live

-- what is dead after more entries
pub is_dead-append : (h g : List Entry) (o : ℕ) → is_dead (h ++ g) o ≡ (is_dead h o || is_dead g o)
is_dead-append h g o = ap (list_any (λ q. q == o)) (dead_of-append h g) ∙ list_any-append (λ q. q == o) (dead_of h) (dead_of g)

-- a dead object stays dead
pub dead-stays : (h g : List Entry) (o : ℕ) → is_dead h o ≡ true → is_dead (h ++ g) o ≡ true
dead-stays h g o d = is_dead-append h g o ∙ or_left (is_dead h o) (is_dead g o) d

-- ---- longer traces
pub seen_of-push : (trace : List ParametricEvent) (a : ParametricEvent) → seen_of (trace ++ a ∷ []) ≡ seen_of trace ++ a.binding ∷ []
seen_of-push trace a = map-append (λ (x : ParametricEvent). x.binding) trace (a ∷ [])

pub slice_of-append : (xs ys : List ParametricEvent) (t : Binding) → slice_of (xs ++ ys) t ≡ slice_of xs t ++ slice_of ys t
slice_of-append xs ys t =
    ap (map (λ (a : ParametricEvent). a.letter)) (filter-append (λ a. is_below a.binding t) xs ys)
    ∙ map-append (λ (a : ParametricEvent). a.letter) (filter (λ a. is_below a.binding t) xs) (filter (λ a. is_below a.binding t) ys)

-- the letter of an event below t ends its slice
pub slice_of-above : (trace : List ParametricEvent) (a : ParametricEvent) (t : Binding) → is_below a.binding t ≡ true → slice_of (trace ++ a ∷ []) t ≡ slice_of trace t ++ a.letter ∷ []
slice_of-above trace a t above =
    slice_of-append trace (a ∷ []) t
    ∙ ap (λ v. slice_of trace t ++ map (λ (x : ParametricEvent). x.letter) (cond v (a ∷ []) [])) above

-- any other event leaves the slice as it was
pub slice_of-apart : (trace : List ParametricEvent) (a : ParametricEvent) (t : Binding) → is_below a.binding t ≡ false → slice_of (trace ++ a ∷ []) t ≡ slice_of trace t
slice_of-apart trace a t apart =
    slice_of-append trace (a ∷ []) t
    ∙ ap (λ v. slice_of trace t ++ map (λ (x : ParametricEvent). x.letter) (cond v (a ∷ []) [])) apart ∙ append-nil (slice_of trace t)
