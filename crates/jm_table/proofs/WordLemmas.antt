use Rattle.std.proofs.Common.{ℕ, ◌≡◌, ◌<◌, ◌+◌, ◌↔◌, ◌⊎◌, inl, inr, List, [], ◌∷◌, ◌++◌, map, take, length, get_or, Contains, sym, ap, subst, ◌∙◌}
use Rattle.std.proofs.lemmas.List.{map_more, take_more}
use Rattle.std.proofs.lemmas.List.Elements.{Contains-push, Contains-push_cases, Contains-append_left}
use Rattle.jm_model.specs.declared.step.Letter.{Letter}
use Rattle.jm_table.specs.Tables.{Transitions, next_of, state_after_of}
use Rattle.jm_table.proofs.PlaceLemmas.{fold_push}

-- the state after one letter more
pub word_more : (t : Transitions) (word : List Letter) (i : ℕ) (d : Letter) (before after : ℕ) → i < length word → before ≡ state_after_of t (map (λ (letter : Letter). letter.0) (take i word))
    → after ≡ next_of t before (get_or word i d).0 → after ≡ state_after_of t (map (λ (letter : Letter). letter.0) (take (i + 1) word))
word_more t word i d before after lt so_far step =
    step ∙ ap (λ state. next_of t state (get_or word i d).0) so_far
    ∙ sym (fold_push (next_of t) 0 (map (λ (letter : Letter). letter.0) (take i word)) (get_or word i d).0)
    ∙ ap (λ letters. state_after_of t letters) (sym (map_more (λ (letter : Letter). letter.0) word i d lt))

-- the members of a set after one state more
pub members_more : (states : List ℕ) (i : ℕ) (before after : List ℕ) → i < length states → ((s : ℕ) → Contains before s ↔ Contains (take i states) s)
    → ((s : ℕ) → Contains after s ↔ (Contains before s ⊎ (s ≡ get_or states i 0))) → (s : ℕ) → Contains after s ↔ Contains (take (i + 1) states) s
members_more states i before after lt so_far step s =
    rw (take_more states i 0 lt) (
      λ h. elim ((step s).0 h) [
        | inl old ↦ Contains-append_left (take i states) (get_or states i 0 ∷ []) s ((so_far s).0 old)
        | inr new ↦ subst (λ x. Contains (take i states ++ get_or states i 0 ∷ []) x) (sym new) (Contains-push (take i states) (get_or states i 0))
      ],
      λ h. elim (Contains-push_cases (take i states) (get_or states i 0) s h) [ inl old ↦ (step s).1 (inl ((so_far s).1 old)) | inr new ↦ (step s).1 (inr (sym new)) ],
    )
