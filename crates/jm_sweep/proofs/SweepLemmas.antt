-- What is collected of parts, in some of which memory may have been short.
use Rattle.std.proofs.Common.{◌≡◌, ◌≢◌, ◌++◌, ◌∙◌, ℕ, List, [], ◌∷◌, map, subst, sym, ap}
use Rattle.std.specs.Prelude.{Ok, Err, Result, IfOk, MatchResult}
use Rattle.std.specs.Global.{Vec}
use Rattle.std.specs.List.{All, AllZip, Contains}
use Rattle.jm_model.specs.Meanings.{Meaning}
use Rattle.jm_model.specs.declared.step.Step.{Step}
use Rattle.jm_model.specs.declared.step.Outcome.TheVariants.{NoMemory}
use Rattle.jm_model.specs.declared.step.Entry.{Entry}
use Rattle.jm_semantics.specs.Legality.{IsLegal}
use Rattle.jm_core.specs.Cores.{Core}
use Rattle.jm_core.specs.Replays.{Replayed, AreEntriesOf}
use Rattle.jm_sweep.specs.Sweeps.{IsReplayOfPart}

module _ {X Y : Type 0} (E : Type 0) (P : X → Y → Type 0) where
  -- the fact of an item and of what was made of it, where that isn't an Err
  abbrev pub Made : X → Result Y E → Type 0
  Made x r = IfOk r (P x)

  -- where each of them is an Ok, each has the fact of its item
  all_ok : (xs : List X) (ys : List Y) → AllZip Made xs (map Ok ys) → AllZip P xs ys
  all_ok [] [] h = tt
  all_ok [] (y ∷ ys) h = absurd h
  all_ok (x ∷ xs) [] h = absurd h
  all_ok (x ∷ xs) (y ∷ ys) h = (h.0, all_ok xs ys h.1)

  -- and so have they all where they were collected
  pub collected : (xs : List X) (rs : List (Result Y E)) (v : Result (Vec Y) E) → AllZip Made xs rs
      → MatchResult v (λ c. (ys : List Y) × (rs ≡ map Ok ys) × (c.items ≡ ys)) (λ e. Contains rs (Err e))
      → IfOk v (λ c. AllZip P xs c.items)
  collected xs rs (Ok c) each made =
      subst (λ (l : List Y). AllZip P xs l) (sym made.2)
      (all_ok xs made.0 (subst (λ (l : List (Result Y E)). AllZip Made xs l) made.1 each))
  collected xs rs (Err e) each made = tt

-- a core without history to which entries were added for the steps has a history of just these
pub replay_of_part : {D : Type 0} (meaning : D → Meaning) (d : D) (steps : List (ℕ × Step)) (before after : Core D) (h : List Entry)
    → before.definition ≡ d → before.entries ≡ [] → Replayed 0 steps before after → IsLegal (meaning after.definition) after.entries → h ≡ after.entries
    → IsReplayOfPart (meaning d) steps h
replay_of_part meaning d steps before after h defined fresh r legal is =
    let all : h ≡ r.added = is ∙ r.grown.entries ∙ ap (λ l. l ++ r.added) fresh in
    record {
      legal = subst (λ l. IsLegal (meaning d) l) (sym is) (subst (λ x. IsLegal (meaning x) after.entries) (r.grown.definition ∙ defined) legal);
      each = subst (λ l. AreEntriesOf 0 steps l) (sym all) r.each;
      done = subst (λ l. All (λ x. x.outcome ≢ NoMemory) l) (sym all) r.done;
    }
