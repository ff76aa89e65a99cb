-- The first hit after a word comes before any further reset, so it is found by what is left of the word alone: for a
-- grammar, of which it isn't decided whether a word hits that goes on after a reset.
use Rattle.std.proofs.Common.{inr, ℕ, List, [], ◌∷◌, ◌++◌, refl, sym, subst}
use Rattle.std.specs.Prelude.{◌↔◌}
use Rattle.std.specs.List.{AllByRecursion}
use Rattle.std.proofs.lemmas.List.{append_assoc}
use Rattle.jm_model.specs.Meanings.{Meaning, IsAvailable, IsCreated, CanHit}
use Rattle.jm_machine.specs.Rests.{IsRest, IsAsked}
use Rattle.jm_machine.specs.PropertyMeanings.{PropertyRules, IsNamedCategory, IsInCategory, Resets, property_meaning}
use Rattle.jm_machine.proofs.RestLemmas.{asked_at, asked_is, left_more}
use Rattle.jm_machine.proofs.PropertyLemmas.{some_within}
use Rattle.jm_machine.proofs.CutLemmas.{word_there}

-- A letter that may come, the words that reset, and those that hit. What resets hits.
module _ (May : ℕ → Type 0) (Reset Hits : List ℕ → Type 0) (by : (x : List ℕ) → Reset x → Hits x) where
  -- no word hits that goes on with the letter and letters that may come: so far as resets are seen, and where they aren't
  abbrev pub IsQuiet : List ℕ → ℕ → Type 0
  IsQuiet w e = (u : List ℕ) → AllByRecursion May u → (x : List ℕ) → IsAsked Reset (w ++ e ∷ u) x → Hits x → ⊥

  abbrev pub IsPlainlyQuiet : List ℕ → ℕ → Type 0
  IsPlainlyQuiet rest e = (u : List ℕ) → AllByRecursion May u → Hits (rest ++ e ∷ u) → ⊥

  left_quietly : (w rest : List ℕ) (e : ℕ) → IsRest Reset w rest → (Hits (rest ++ e ∷ []) → ⊥) → IsRest Reset (w ++ e ∷ []) (rest ++ e ∷ [])
  left_quietly w rest e left never = left_more Reset w [] rest (rest ++ e ∷ []) e left (inr (λ reset. never (by (rest ++ e ∷ []) reset), refl))

  plainly : (u w rest : List ℕ) (e : ℕ) → IsRest Reset w rest → AllByRecursion May u → IsQuiet w e → Hits (rest ++ e ∷ u) → ⊥
  plainly [] w rest e left may quiet hits = quiet [] tt (rest ++ e ∷ []) (asked_at Reset w rest e left) hits
  plainly (d ∷ u) w rest e left may quiet hits =
      let here : Hits (rest ++ e ∷ []) → ⊥ = quiet [] tt (rest ++ e ∷ []) (asked_at Reset w rest e left) in
      plainly u (w ++ e ∷ []) (rest ++ e ∷ []) d (left_quietly w rest e left here) may.1
      (λ v later x asked. quiet (d ∷ v) (may.0, later) x (subst (λ all. IsAsked Reset all x) (append_assoc w (e ∷ []) (d ∷ v)) asked))
      (subst Hits (sym (append_assoc rest (e ∷ []) (d ∷ u))) hits)

  with_resets : (u w rest : List ℕ) (e : ℕ) → IsRest Reset w rest → AllByRecursion May u → IsPlainlyQuiet rest e → (x : List ℕ) → IsAsked Reset (w ++ e ∷ u) x → Hits x → ⊥
  with_resets [] w rest e left may plain x asked hits = plain [] tt (subst Hits (asked_is Reset w rest x e left asked) hits)
  with_resets (d ∷ u) w rest e left may plain x asked hits =
      let here : Hits (rest ++ e ∷ []) → ⊥ = plain [] tt in
      with_resets u (w ++ e ∷ []) (rest ++ e ∷ []) d (left_quietly w rest e left here) may.1
      (λ v later held. plain (d ∷ v) (may.0, later) (subst Hits (append_assoc rest (e ∷ []) (d ∷ v)) held))
      x (subst (λ all. IsAsked Reset all x) (sym (append_assoc w (e ∷ []) (d ∷ u))) asked) hits

  pub quiet_is : (w rest : List ℕ) (e : ℕ) → IsRest Reset w rest → IsQuiet w e ↔ IsPlainlyQuiet rest e
  quiet_is w rest e left = (
    λ quiet u may. plainly u w rest e left may quiet,
    λ plain u may. with_resets u w rest e left may plain,
  )

module _ (d : PropertyRules) where
  abbrev m : Meaning
  m = property_meaning d

  -- the category of some handler holds of the word
  abbrev pub Hits : List ℕ → Type 0
  Hits x = (k : ℕ) × IsInCategory d x k

  pub reset_hits : (x : List ℕ) → Resets d x → Hits x
  reset_hits x reset = (reset.0, reset.2)

  abbrev pub IsPlain : ℕ → List ℕ → ℕ → Type 0
  IsPlain dead rest e = IsPlainlyQuiet (IsAvailable m dead) (Resets d) Hits reset_hits rest e

  -- A word can't be hit again exactly where, of what is left of it, no available word is in a handled category, that may
  -- begin as the whole does.
  pub never_plainly : (w rest : List ℕ) (dead : ℕ) → IsRest (Resets d) w rest → (CanHit m w dead 0 → ⊥) ↔ ((e : ℕ) → IsAvailable m dead e → IsCreated m (w ++ e ∷ []) → IsPlain dead rest e)
  never_plainly w rest dead left = (
    λ never e may created.
        (quiet_is (IsAvailable m dead) (Resets d) Hits reset_hits w rest e left).0
        (λ u later x asked hits.
        never (record {
          next = e;
          rest = u;
          handler = hits.0;
          available = (may, later);
          hit = (word_there w e u, (first_alike w e u).0 created, some_within (IsNamedCategory d x) d.handlers hits.0 hits.1, (x, asked, hits.1));
          owner = refl;
        })),
    λ plain can.
        (quiet_is (IsAvailable m dead) (Resets d) Hits reset_hits w rest can.next left).1 (plain can.next can.available.0 ((first_alike w can.next can.rest).1 can.hit.1))
        can.rest can.available.1 can.hit.3.0 can.hit.3.1 (can.handler, can.hit.3.2),
  )
    where
      -- how a word begins is told by it and one letter more
      first_alike : (w : List ℕ) (e : ℕ) (u : List ℕ) → IsCreated m (w ++ e ∷ []) ↔ IsCreated m (w ++ e ∷ u)
      first_alike [] e u = (λ h. h, λ h. h)
      first_alike (x ∷ w) e u = (λ h. h, λ h. h)
