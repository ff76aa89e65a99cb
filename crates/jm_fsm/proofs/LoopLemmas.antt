-- What a loop over a list adds, item by item.
use Rattle.std.proofs.Common.{◌≡◌, ℕ, ◌+◌, ◌<◌, ◌≤◌, List, ◌∷◌, length, drop, get_or, Ok, Err, refl, sym, ap, subst, ◌∙◌}
use Rattle.std.specs.Prelude.{Result}
use Rattle.std.proofs.lemmas.List.{drop_more, at_drop_all}
use Rattle.jm_model.specs.declared.fault.SpecError.{SpecError}
use Rattle.jm_model.specs.declared.fault.SpecError.TheVariants.{Bad, NoMemory}
use Rattle.jm_model.specs.declared.fault.SpecFault.{SpecFault}
use Rattle.jm_reading.specs.Faults.{◌>>>◌, with_each, Answers}

module _ {A B : Type 0} (with_one : B → A → Result B SpecFault) (b : B) (xs : List A) (i : ℕ) (whole : Result B SpecFault) (so_far : with_each with_one b (drop i xs) ≡ whole) where
  -- all items were added
  pub each_ends : length xs ≤ i → whole ≡ Ok b
  each_ends le = sym so_far ∙ at_drop_all (with_each with_one b) xs i le

  module _ (d x : A) (lt : i < length xs) (read : get_or xs i d ≡ x) where
    here : with_each with_one b (x ∷ drop (i + 1) xs) ≡ whole
    here = ap (λ (y : A). with_each with_one b (y ∷ drop (i + 1) xs)) (sym read) ∙ ap (λ (l : List A). with_each with_one b l) (sym (drop_more xs i d lt)) ∙ so_far

    -- one more was added
    pub each_goes_on : (after : B) → with_one b x ≡ Ok after → with_each with_one after (drop (i + 1) xs) ≡ whole
    each_goes_on after h =
        let step : with_each with_one b (x ∷ drop (i + 1) xs) ≡ with_each with_one after (drop (i + 1) xs) = rw h refl in
        sym step ∙ here

    -- one was refused
    pub each_refuses : (e : SpecError) → Answers {Y = B} (Err e) (with_one b x) → Answers {Y = B} (Err e) whole
    each_refuses NoMemory h = tt
    each_refuses (Bad f) h =
        let step : with_each with_one b (x ∷ drop (i + 1) xs) ≡ Err f = rw h refl in
        sym here ∙ step

-- where a value is refused, so is what is made of it
module _ {A B : Type 0} (made : Result A SpecFault) (next : A → Result B SpecFault) where
  pub first_refused : (e : SpecError) → Answers {Y = A} (Err e) made → Answers {Y = B} (Err e) (made >>> next)
  first_refused NoMemory h = tt
  first_refused (Bad f) h = rw h refl

  pub next_refused : (e : SpecError) (x : A) → made ≡ Ok x → Answers {Y = B} (Err e) (next x) → Answers {Y = B} (Err e) (made >>> next)
  next_refused e x is h = subst (λ (r : Result A SpecFault). Answers {Y = B} (Err e) (r >>> next)) (sym is) h
