-- A replay after one step more.
use Rattle.std.proofs.Common.{◌≡◌, ◌≢◌, ℕ, ◌+◌, ◌<◌, List, [], ◌∷◌, ◌++◌, take, drop, length, get_or, refl, sym, ◌∙◌, ap, inl, inr, subst, append_assoc, append-nil}
use Rattle.std.proofs.lemmas.List.{take_more, map-append, take-append-drop}
use Rattle.std.proofs.lemmas.List.Elements.{All-push, All-nil}
use mathlib.Core.List.{IsPrefix}
use Rattle.jm_model.specs.declared.step.Step.{Step}
use Rattle.jm_model.specs.declared.step.Outcome.{Outcome}
use Rattle.jm_model.specs.declared.step.Outcome.TheVariants.{NoMemory}
use Rattle.jm_model.specs.declared.step.Entry.{Entry}
use Rattle.jm_history.specs.Nodes.{Unanswered, answered}
use Rattle.jm_core.specs.Cores.{Core, IsExtended}
use Rattle.jm_core.specs.Replays.{line_and_step, AreEntriesOf, Replayed, ReplayedInPart}

one_more : (caller : ℕ) (steps : List (ℕ × Step)) (added : List Entry) (u : Unanswered) (o : Outcome) → u.caller ≡ caller → AreEntriesOf caller steps added → AreEntriesOf caller (steps ++ (u.line, u.step) ∷ []) (added ++ answered u o ∷ [])
one_more caller steps added u o mine each = record {
  by_caller = All-push (λ x. x.caller ≡ caller) added (answered u o) each.by_caller mine;
  in_order = map-append line_and_step added (answered u o ∷ []) ∙ ap (λ l. l ++ (u.line, u.step) ∷ []) each.in_order;
}

module _ {D : Type 0} where
  -- ---- cores with more entries
  extended_none : (core : Core D) → IsExtended core core []
  extended_none core = record { definition = refl; objects = refl; entries = sym (append-nil core.entries) }

  extended_both : (before middle after : Core D) (first more : List Entry) → IsExtended before middle first → IsExtended middle after more → IsExtended before after (first ++ more)
  extended_both before middle after first more a b = record {
    definition = b.definition ∙ a.definition;
    objects = b.objects ∙ a.objects;
    entries = b.entries ∙ ap (λ l. l ++ more) a.entries ∙ append_assoc before.entries first more;
  }

  extended_last : (before after : Core D) (added : List Entry) → IsExtended before after added → IsExtended before after (added ++ [])
  extended_last before after added a = record { definition = a.definition; objects = a.objects; entries = a.entries ∙ ap (λ l. before.entries ++ l) (sym (append-nil added)) }

  -- ---- replays
  pub replayed_none : (caller : ℕ) (core : Core D) → Replayed caller [] core core
  replayed_none caller core = record {
    added = [];
    grown = extended_none core;
    each = record { by_caller = All-nil (λ x. x.caller ≡ caller); in_order = refl };
    done = All-nil (λ x. x.outcome ≢ NoMemory);
  }

  pub replayed_more : (caller : ℕ) (steps : List (ℕ × Step)) (before middle after : Core D) (u : Unanswered) (o : Outcome) → u.caller ≡ caller → o ≢ NoMemory → Replayed caller steps before middle
      → IsExtended middle after (answered u o ∷ []) → Replayed caller (steps ++ (u.line, u.step) ∷ []) before after
  replayed_more caller steps before middle after u o mine fine h step = record {
    added = h.added ++ answered u o ∷ [];
    grown = extended_both before middle after h.added (answered u o ∷ []) h.grown step;
    each = one_more caller steps h.added u o mine h.each;
    done = All-push (λ x. x.outcome ≢ NoMemory) h.added (answered u o) h.done fine;
  }

  pub stopped_before : (caller : ℕ) (first steps : List (ℕ × Step)) (before after : Core D) → IsPrefix first steps → Replayed caller first before after → ReplayedInPart caller steps before after
  stopped_before caller first steps before after within h = record {
    first = first;
    is_prefix = within;
    added = h.added;
    last = [];
    few = inl refl;
    grown = extended_last before after h.added h.grown;
    each = subst (λ (l : List Entry). AreEntriesOf caller first l) (sym (append-nil h.added)) h.each;
    done = h.done;
  }

  pub stopped_after : (caller : ℕ) (first steps : List (ℕ × Step)) (before middle after : Core D) (u : Unanswered) → u.caller ≡ caller → IsPrefix (first ++ (u.line, u.step) ∷ []) steps
      → Replayed caller first before middle → IsExtended middle after (answered u NoMemory ∷ []) → ReplayedInPart caller steps before after
  stopped_after caller first steps before middle after u mine within h step = record {
    first = first ++ (u.line, u.step) ∷ [];
    is_prefix = within;
    added = h.added;
    last = answered u NoMemory ∷ [];
    few = inr (answered u NoMemory, refl, refl);
    grown = extended_both before middle after h.added (answered u NoMemory ∷ []) h.grown step;
    each = one_more caller first h.added u NoMemory mine h.each;
    done = h.done;
  }

-- the first i + 1 items are the first i and the item at i, and no more than all
pub take_with_item : {X : Type 0} (xs : List X) (i : ℕ) (x : X) → i < length xs → x ≡ get_or xs i x → take (i + 1) xs ≡ take i xs ++ x ∷ []
take_with_item xs i x h is = take_more xs i x h ∙ ap (λ y. take i xs ++ y ∷ []) (sym is)

pub take_is_prefix : {X : Type 0} (i : ℕ) (xs : List X) → IsPrefix (take i xs) xs
take_is_prefix i xs = (drop i xs, take-append-drop i xs)
