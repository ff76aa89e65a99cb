-- An event that moves the monitor of a slot by the number of its state.
use Rattle.std.proofs.Common.{◌≡◌, ℕ, inl, inr, Bool, true, List, [], ◌∷◌, ◌++◌, sym, ◌∙◌, subst}
use Rattle.std.specs.Prelude.{Some, slice_get, slice_set, IsBitSet}
use Rattle.std.proofs.lemmas.Option.{same_Some}
use Rattle.jm_model.specs.Bindings.{mask_of}
use Rattle.jm_model.specs.Meanings.{Meaning, IsHit, IsCutWord}
use Rattle.jm_model.specs.Numbers.{AreEnds}
use Rattle.jm_semantics.specs.Answers.{firing_cmp}
use Rattle.jm_semantics.proofs.ListLemmas.{Contains-cons_cases}
use Rattle.jm_index.proofs.ReadLemmas.{Contains-none}
use Rattle.jm_marks.specs.Marks.{dead_mask_of}
use Rattle.jm_monitors.specs.declared.stored.Stored.{Stored}
use Rattle.jm_monitors.specs.Steps.{IsReport}
use Rattle.jm_store.specs.declared.store.advance.Done.{Done}
use Rattle.jm_store.specs.Slots.{monitor_at}
use Rattle.jm_store.specs.Moves.{EndsFewer, IsEnding, ends_all}
use Rattle.jm_store.specs.Contents.{Contents, IsSlotAdvanced}
use Rattle.jm_store.specs.Plans.{IsSlotDone}
use Rattle.jm_store.proofs.EndingLemmas.{ending_one}
use Rattle.jm_store.proofs.ListLemmas.{sorted-nil}

module _ (m : Meaning) {S : Type 0} (Stands : S → List ℕ → Type 0) where
  -- the report of one monitor whose words hit nothing
  report_quiet : (s : Stored S) → ((w : List ℕ) → Stands s.state w → (k : ℕ) → IsHit m w k → ⊥) → IsReport m Stands (s ∷ []) []
  report_quiet s quiet = record {
    increasing = sorted-nil firing_cmp;
    each = λ f none. absurd (Contains-none f none);
    all = λ t w k among full stands hit. elim (Contains-cons_cases s [] t among) [
      | inl same ↦ absurd (quiet w (subst (λ (x : Stored S). Stands x.state w) (sym same) stands) k hit)
      | inr none ↦ absurd (Contains-none t none)
    ];
  }

  -- the monitor of a slot, of which nothing is dead, was moved to a state whose words hit nothing
  pub slot_done : (letter : ℕ) (dead : List Bool) (k : ℕ) (base : Stored S) (state : S) (old new : Contents S) (done : Done)
      → monitor_at old.monitors k ≡ Some base → dead_mask_of dead base.instance ≡ 0
      → ((w : List ℕ) → Stands base.state w → Stands state (w ++ letter ∷ []))
      → ((w : List ℕ) → Stands state w → (j : ℕ) → IsHit m w j → ⊥) → ((w : List ℕ) → Stands state w → IsCutWord m w 0 → ⊥)
      → new.monitors ≡ slice_set old.monitors k (Some (record { instance = base.instance; state = state }))
      → new.marks ≡ old.marks → EndsFewer old.ending new.ending → IsEnding m Stands new.ending (record { instance = base.instance; state = state })
      → new.index.dropped ≡ old.index.dropped → done.answer ≡ [] → done.copy ≡ [] → IsSlotDone m Stands letter dead k old new done
  slot_done letter dead k base state old new done at whole leads quiet goes_on monitors marks fewer ended dropped answer copy = record {
    twice = copy ∙ sym answer;
    moved = λ other there.
        let same : base ≡ other = same_Some base other (sym at ∙ there) in
        subst (λ (x : Stored S). IsSlotAdvanced m Stands letter dead k x old new done.answer) same (record {
          state = state;
          stays = true;
          next = record {
            next = leads;
            alive = λ yes w stands cut. goes_on w stands (subst (λ (d : ℕ). IsCutWord m w d) whole cut);
            cut = λ no. cc;
          };
          report = rw answer (report_quiet (record { instance = base.instance; state = state }) quiet);
          monitors = monitors;
          marks = marks;
          fewer = fewer;
          ended = ended;
          dropped = dropped;
        });
  }

  -- the letters that a row has at the number of a monitor's state end it
  pub ended_by : (HasNumber : S → ℕ → Type 0) (row : List ℕ) (number letters domain : ℕ) (ending : List ℕ) (s : Stored S)
      → ((e : ℕ) → IsBitSet letters e → slice_get row number ≡ Some letters)
      → ((k mask : ℕ) → slice_get row k ≡ Some mask → (state : S) → HasNumber state k → AreEnds S m Stands mask state)
      → HasNumber s.state number → domain ≡ mask_of s.instance → ((e : ℕ) → ends_all ending e domain ≡ true → IsBitSet letters e) → IsEnding m Stands ending s
  ended_by HasNumber row number letters domain ending s at ends has is among =
      ending_one m Stands ending s domain letters is among
      (λ w stands e k bit. (ends number letters (at e bit) s.state has).quiet w stands e k bit)
      (λ w stands e bit. (ends number letters (at e bit) s.state has).cut w stands e bit)
