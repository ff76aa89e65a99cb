use Rattle.std.proofs.Common.{ℕ, ◌≡◌, ◌≢◌, ◌<◌, ◌≤◌, ◌+◌, ◌-◌, ◌*◌, ◌/◌, ◌%◌, ◌⊎◌, inl, inr, suc, zero, List, [], ◌∷◌, ◌++◌, Option, Some, None, Result, Ok, Err, MatchOption, All, Contains, length, slice_get, slice_index, refl, sym, ap, subst, ◌∙◌, arith, length-append}
use Rattle.jm_model.specs.declared.fault.SpecError.{SpecError}
use Rattle.jm_model.specs.declared.fault.SpecError.TheVariants.{Bad, NoMemory}
use Rattle.jm_model.specs.declared.fault.SpecFault.{SpecFault}
use Rattle.jm_model.specs.declared.fault.SpecFault.TheVariants.{TooManyStates}
use Rattle.std.proofs.lemmas.Bool.Decides.{eqb_tells}
use Rattle.std.proofs.lemmas.Bool.{cases_lt}
use Rattle.std.proofs.Math.Nat.{le_refl}
use Rattle.std.proofs.lemmas.Nat.{le-div, mod_below, mul-le, div-mul-add, mod-mul-add, mul-add-lt}
use Rattle.std.proofs.lemmas.List.{get_or_append_left, get_or_push}
use Rattle.std.proofs.lemmas.List.Elements.{All-push, All-nil, All-contains}
use Rattle.std.proofs.lemmas.Option.{slice_get_past, slice_get_within}
use Rattle.jm_table.proofs.PlaceLemmas.{fold_push, slice_get-append, slice_get-push_cases, Contains-place}
use Rattle.jm_table.specs.Graphs.{GraphMeaning, step_from, IsReached}
use Rattle.jm_table.specs.Explorations.{IsWithoutRepeats, Finds, Works, first_found, IsFoundIn, IsExplored, LeadsTo, IsInWork, IfBad, IsMet, IsCrowded}

ok-err : {T : Type 0} (a : T) (f : SpecFault) → ◌≡◌ {A = Result T SpecFault} (Ok a) (Err f) → ⊥
ok-err a f e = cc

same_Err : {T : Type 0} (a b : SpecFault) → ◌≡◌ {A = Result T SpecFault} (Err a) (Err b) → a ≡ b
same_Err a b e = cc

same_Ok : {T : Type 0} (a b : T) → ◌≡◌ {A = Result T SpecFault} (Ok a) (Ok b) → a ≡ b
same_Ok a b e = cc

module _ {D : Type 0} where
  -- ---- the order of work has one outcome

  finds_one : (found : List D) (r : Result D SpecFault) (a b : Result (List D) SpecFault) → Finds found r a → Finds found r b → a ≡ b
  finds_one found (Err f) a b ha hb = ha ∙ sym hb
  finds_one found (Ok d) a b (inl ha) (inl hb) = ha.1 ∙ sym hb.1
  finds_one found (Ok d) a b (inl ha) (inr hb) = absurd (hb.0 ha.0)
  finds_one found (Ok d) a b (inr ha) (inl hb) = absurd (ha.0 hb.0)
  finds_one found (Ok d) a b (inr ha) (inr hb) = ha.1 ∙ sym hb.1

  works_at : (o : Option D) (found : List D) (F : D → Result (List D) SpecFault → Type 0) (a b : Result (List D) SpecFault) → ((d : D) → F d a → F d b → a ≡ b)
      → MatchOption o (a ≡ Ok found) (λ d. F d a) → MatchOption o (b ≡ Ok found) (λ d. F d b) → a ≡ b
  works_at None found F a b one ha hb = ha ∙ sym hb
  works_at (Some d) found F a b one ha hb = one d ha hb

  module _ (g : GraphMeaning D) (letters : ℕ) where
    works_one : (n : ℕ) (before a b : Result (List D) SpecFault) → Works g letters n before a → Works g letters n before b → a ≡ b
    works_one n (Err f) a b ha hb = ha ∙ sym hb
    works_one n (Ok found) a b ha hb =
        works_at (slice_get found (n / letters)) found (λ d. Finds found (g.step d (n % letters))) a b (λ d. finds_one found (g.step d (n % letters)) a b) ha hb

    found_one : (n : ℕ) (a b : Result (List D) SpecFault) → IsFoundIn g letters n a → IsFoundIn g letters n b → a ≡ b
    unfolding IsFoundIn
    found_one zero a b ha hb = ha ∙ sym hb
    found_one (suc n) a b ha hb =
        works_one n ha.0 a b ha.2 (subst (λ before. Works g letters n before b) (found_one n hb.0 ha.0 hb.1 ha.1) hb.2)

    -- what is found when all work is done is one
    pub explored_one : (a b : Result (List D) SpecFault) → IsExplored g letters a → IsExplored g letters b → a ≡ b
    explored_one a b = found_one (1024 * letters) a b

    -- ---- steps that change nothing

    error_stays : (n k m : ℕ) (f : SpecFault) → m ≡ n + k → IsFoundIn g letters n (Err f) → IsFoundIn g letters m (Err f)
    unfolding IsFoundIn
    error_stays n zero m f e h = subst (λ i. IsFoundIn g letters i (Err f)) (omega arith) h
    error_stays n (suc k) zero f e h = absurd (omega arith)
    error_stays n (suc k) (suc m) f e h = (Err f, error_stays n k m f (omega arith) h, refl)

    idle : (o : Option D) (found : List D) (F : D → Type 0) → o ≡ None → MatchOption o (◌≡◌ {A = Result (List D) SpecFault} (Ok found) (Ok found)) F
    idle o found F e = rw e refl

    done_stays : (found : List D) (n k m : ℕ) → 0 < letters → length found * letters ≤ n → m ≡ n + k → IsFoundIn g letters n (Ok found) → IsFoundIn g letters m (Ok found)
    unfolding IsFoundIn
    done_stays found n zero m pos le e h = subst (λ i. IsFoundIn g letters i (Ok found)) (omega arith) h
    done_stays found n (suc k) zero pos le e h = absurd (omega arith)
    done_stays found n (suc k) (suc m) pos le e h = (
      Ok found,
      done_stays found n k m pos le (omega arith) h,
      idle (slice_get found (m / letters)) found (λ d. Finds found (g.step d (m % letters)) (Ok found))
          (slice_get_past found (m / letters) (le-div (length found) m letters pos (omega arith))),
    )

    pub explored_fault : (n : ℕ) (f : SpecFault) → n ≤ 1024 * letters → IsFoundIn g letters n (Err f) → IsExplored g letters (Err f)
    explored_fault n f le h = error_stays n (1024 * letters - n) (1024 * letters) f (omega arith) h

    pub explored_all : (found : List D) → length found ≤ 1024 → IsFoundIn g letters (length found * letters) (Ok found) → IsExplored g letters (Ok found)
    explored_all found few h =
        elim (cases_lt 0 letters) [
          | inl pos ↦ done_stays found (length found * letters) (1024 * letters - length found * letters) (1024 * letters) pos (omega arith) (omega (arith, mul-le (length found) letters 1024 letters few (le_refl letters))) h
          | inr none ↦ let e : letters ≡ 0 = omega arith in subst (λ i. IsFoundIn g letters i (Ok found)) (rw e (omega arith)) h
        ]

    -- ---- what a step finds

    -- a step found nothing new, or data that is new and fits
    abbrev FindsOk : List D → List D → Result D SpecFault → Type 0
    FindsOk old found r = (found ≡ old) ⊎ ((e : D) × (r ≡ Ok e) × (Contains old e → ⊥) × (length old ≢ 1024) × (found ≡ old ++ e ∷ []))

    finds_ok : (old found : List D) (r : Result D SpecFault) → Finds old r (Ok found) → FindsOk old found r
    finds_ok old found (Err f) h = absurd (ok-err found f h)
    finds_ok old found (Ok e) (inl known) = inl (same_Ok found old known.1)
    finds_ok old found (Ok e) (inr fresh) =
        elim (eqb_tells (length old) 1024) [
          | inl full ↦ absurd (ok-err found TooManyStates (rw (full.0) at fresh.1))
          | inr room ↦ inr (e, refl, fresh.0, room.1, same_Ok found (old ++ e ∷ []) (rw (room.0) at fresh.1))
        ]

    -- ---- what is true of what is found

    -- the start comes first, all is reached, nothing comes twice, and it fits into a table
    pub record IsSound (found : List D) : Type 0 where
      pub first : (d : D) × (g.start ≡ Ok d) × (slice_get found 0 ≡ Some d)
      pub each : All (IsReached g letters) found
      pub distinct : IsWithoutRepeats found
      pub few : length found ≤ 1024

    -- a letter more reaches what its step leads to
    reached_more : (d e : D) (letter : ℕ) → letter < letters → g.step d letter ≡ Ok e → IsReached g letters d → IsReached g letters e
    reached_more d e letter lt leads h = (
      h.0 ++ letter ∷ [],
      All-push (λ a. a < letters) h.0 letter h.1 lt,
      fold_push (step_from g) g.start h.0 letter ∙ ap (λ r. step_from g r letter) h.2 ∙ leads,
    )

    distinct_push : (found : List D) (e : D) → IsWithoutRepeats found → (Contains found e → ⊥) → IsWithoutRepeats (found ++ e ∷ [])
    distinct_push found e distinct fresh j k d hj hk =
        elim (slice_get-push_cases found e j d hj) [
          | inl inside ↦ elim (slice_get-push_cases found e k d hk) [
            | inl also ↦ distinct j k d inside also
            | inr last ↦ absurd (fresh (Contains-place found j e (inside ∙ ap (λ x. Some x) (sym last.1))))
          ]
          | inr last ↦ elim (slice_get-push_cases found e k d hk) [
            | inl inside ↦ absurd (fresh (Contains-place found k e (inside ∙ ap (λ x. Some x) (sym last.1))))
            | inr also ↦ last.0 ∙ sym also.0
          ]
        ]

    sound_first : (s : Result D SpecFault) (found : List D) → Ok found ≡ first_found s → (d : D) × (s ≡ Ok d) × (found ≡ d ∷ [])
    sound_first (Ok d) found h = (d, refl, same_Ok found (d ∷ []) h)
    sound_first (Err f) found h = absurd (ok-err found f h)

    only_place : (d : D) → IsWithoutRepeats (d ∷ [])
    only_place d j k e hj hk = let lj = slice_get_within (d ∷ []) j e hj in let lk = slice_get_within (d ∷ []) k e hk in omega arith

    sound_start : (found : List D) → Ok found ≡ first_found g.start → IsSound found
    sound_start found h =
        let start = sound_first g.start found h in
        subst IsSound (sym start.2) (record {
          first = (start.0, start.1, refl);
          each = All-push (IsReached g letters) [] start.0 (All-nil (IsReached g letters)) ([], All-nil (λ a. a < letters), start.1);
          distinct = only_place start.0;
          few = omega arith;
        })

    sound_more : (n : ℕ) (old found : List D) (d : D) → 0 < letters → slice_get old (n / letters) ≡ Some d → IsSound old → Finds old (g.step d (n % letters)) (Ok found) → IsSound found
    sound_more n old found d pos at sound h =
        elim (finds_ok old found (g.step d (n % letters)) h) [
          | inl same ↦ subst IsSound (sym same) sound
          | inr fresh ↦ subst IsSound (sym fresh.4) (record {
            first = (sound.first.0, sound.first.1, slice_get-append old (fresh.0 ∷ []) 0 sound.first.0 sound.first.2);
            each = All-push (IsReached g letters) old fresh.0 sound.each
                (reached_more d fresh.0 (n % letters) (mod_below n letters pos) fresh.1 (All-contains (IsReached g letters) old d sound.each (Contains-place old (n / letters) d at)));
            distinct = distinct_push old fresh.0 sound.distinct fresh.2;
            few = omega (arith, sound.few, fresh.3, length-append old (fresh.0 ∷ []));
          })
        ]

    -- a step from what is found: either nothing was done, or a state's letter was taken
    works_ok : (o : Option D) (old found : List D) (F : D → Type 0) → MatchOption o (◌≡◌ {A = Result (List D) SpecFault} (Ok found) (Ok old)) F → (found ≡ old) ⊎ ((d : D) × (o ≡ Some d) × F d)
    works_ok None old found F h = inl (same_Ok found old h)
    works_ok (Some d) old found F h = inr (d, refl, h)

    sound_step : (n : ℕ) (before : Result (List D) SpecFault) (found : List D) → 0 < letters → ((old : List D) → before ≡ Ok old → IsSound old) → Works g letters n before (Ok found) → IsSound found
    sound_step n (Err f) found pos sound h = absurd (ok-err found f h)
    sound_step n (Ok old) found pos sound h =
        elim (works_ok (slice_get old (n / letters)) old found (λ d. Finds old (g.step d (n % letters)) (Ok found)) h) [
          | inl same ↦ subst IsSound (sym same) (sound old refl)
          | inr taken ↦ sound_more n old found taken.0 pos taken.1 (sound old refl) taken.2
        ]

    pub found_is_sound : (n : ℕ) (found : List D) → n ≤ 1024 * letters → IsFoundIn g letters n (Ok found) → IsSound found
    unfolding IsFoundIn
    found_is_sound zero found le h = sound_start found h
    found_is_sound (suc n) found le h =
        sound_step n h.0 found (omega arith) (λ old e. found_is_sound n old (omega arith) (subst (λ r. IsFoundIn g letters n r) e h.1)) h.2

    -- ---- the work, a step at a time

    few_start : (s : Result D SpecFault) (found : List D) → Ok found ≡ first_found s → length found ≤ 1024
    few_start s found h = let start = sound_first s found h in omega (arith, ap length start.2)

    pub in_work_start : (found : List D) (next : List ℕ) → first_found g.start ≡ Ok found → next ≡ [] → IsInWork g letters 0 found next
    unfolding IsFoundIn
    in_work_start found next h none = record {
      steps = sym h;
      few = few_start g.start found (sym h);
      count = ap length none;
      each = λ m lt. absurd (omega arith);
    }

    kept_place : (old found : List D) (r : Result D SpecFault) (k : ℕ) (x : D) → Finds old r (Ok found) → slice_get old k ≡ Some x → slice_get found k ≡ Some x
    kept_place old found r k x h at =
        elim (finds_ok old found r h)
        [ inl same ↦ rw same at | inr fresh ↦ subst (λ (l : List D). slice_get l k ≡ Some x) (sym fresh.4) (slice_get-append old (fresh.0 ∷ []) k x at) ]

    still_few : (old found : List D) (r : Result D SpecFault) → Finds old r (Ok found) → length old ≤ 1024 → length found ≤ 1024
    still_few old found r h few =
        elim (finds_ok old found r h)
        [ inl same ↦ rw same few | inr fresh ↦ omega (arith, few, fresh.3, length-append old (fresh.0 ∷ []), ap length fresh.4) ]

    pub still_more : (old found : List D) (r : Result D SpecFault) → Finds old r (Ok found) → length old ≤ length found
    still_more old found r h =
        elim (finds_ok old found r h)
        [ inl same ↦ omega (arith, ap length same) | inr fresh ↦ omega (arith, length-append old (fresh.0 ∷ []), ap length fresh.4) ]

    at_state : (o : Option D) (d : D) (P : Type 0) (Q : D → Type 0) → o ≡ Some d → Q d → MatchOption o P Q
    at_state o d P Q e h = rw e h

    pub in_work_more : (n : ℕ) (old found : List D) (next : List ℕ) (d e : D) (target : ℕ) → IsInWork g letters n old next → slice_get old (n / letters) ≡ Some d
        → Finds old (g.step d (n % letters)) (Ok found) → g.step d (n % letters) ≡ Ok e → slice_get found target ≡ Some e → IsInWork g letters (suc n) found (next ++ target ∷ [])
    unfolding IsFoundIn
    in_work_more n old found next d e target work at finds leads there = record {
      steps = (Ok old, work.steps, at_state (slice_get old (n / letters)) d (Ok found ≡ Ok old) (λ x. Finds old (g.step x (n % letters)) (Ok found)) at finds);
      few = still_few old found (g.step d (n % letters)) finds work.few;
      count = omega (arith, length-append next (target ∷ []), work.count);
      each = λ m lt. elim (cases_lt m n) [
        | inl before ↦ let old_step = work.each m before in
            let same : slice_index (next ++ target ∷ []) m ≡ slice_index next m = get_or_append_left next (target ∷ []) 0 m (omega (arith, work.count)) in (
              old_step.0,
              old_step.1,
              kept_place old found (g.step d (n % letters)) (m / letters) old_step.0 finds old_step.2,
              old_step.3,
              subst (λ (t : ℕ). slice_get found t ≡ Some old_step.1) (sym same) (kept_place old found (g.step d (n % letters)) (slice_index next m) old_step.1 finds old_step.4),
            )
        | inr last ↦ let here : m ≡ n = omega arith in
            let same : slice_index (next ++ target ∷ []) n ≡ target = get_or_push next target 0 n work.count in
            subst (λ (i : ℕ). LeadsTo g letters found i (slice_index (next ++ target ∷ []) i)) (sym here)
            (d, e, kept_place old found (g.step d (n % letters)) (n / letters) d finds at, leads, subst (λ (t : ℕ). slice_get found t ≡ Some e) (sym same) there)
      ];
    }

    -- a fault of a step
    pub work_fault : (n : ℕ) (old : List D) (next : List ℕ) (d : D) (f : SpecFault) → IsInWork g letters n old next → slice_get old (n / letters) ≡ Some d → n < 1024 * letters
        → Finds old (g.step d (n % letters)) (Err f) → IsExplored g letters (Err f)
    unfolding IsFoundIn
    work_fault n old next d f work at lt finds =
        explored_fault (suc n) f (omega arith)
        (Ok old, work.steps, at_state (slice_get old (n / letters)) d (Err f ≡ Ok old) (λ x. Finds old (g.step x (n % letters)) (Err f)) at finds)

    -- a fault of the start
    pub start_fault : (f : SpecFault) → g.start ≡ Err f → IsExplored g letters (Err f)
    unfolding IsFoundIn
    start_fault f e = explored_fault 0 f (omega arith) (sym (ap (λ (s : Result D SpecFault). first_found s) e))

    -- ---- the work by states and letters

    module _ (state letter : ℕ) where
      abbrev place : ℕ
      place = state * letters + letter

      pub step_taken : (old found : List D) (next : List ℕ) (d e : D) (target : ℕ) → letter < letters → IsInWork g letters (state * letters + letter) old next → slice_get old state ≡ Some d
          → Finds old (g.step d letter) (Ok found) → g.step d letter ≡ Ok e → slice_get found target ≡ Some e → IsInWork g letters (state * letters + (letter + 1)) found (next ++ target ∷ [])
      step_taken old found next d e target lt work at finds leads there =
          let row : place / letters ≡ state = div-mul-add state letters letter lt in
          let column : place % letters ≡ letter = mod-mul-add state letters letter lt in
          subst (λ (n : ℕ). IsInWork g letters n found (next ++ target ∷ [])) (omega arith)
          (in_work_more place old found next d e target work (ap (λ k. slice_get old k) row ∙ at)
          (subst (λ (a : ℕ). Finds old (g.step d a) (Ok found)) (sym column) finds) (ap (λ a. g.step d a) column ∙ leads) there)

      pub step_failed : (old : List D) (next : List ℕ) (d : D) (error : SpecError) → letter < letters → IsInWork g letters (state * letters + letter) old next → slice_get old state ≡ Some d
          → IfBad error (λ f. Finds old (g.step d letter) (Err f)) → IfBad error (λ f. IsExplored g letters (Err f))
      step_failed old next d NoMemory lt work at finds = tt
      step_failed old next d (Bad f) lt work at finds =
          let row : place / letters ≡ state = div-mul-add state letters letter lt in
          let column : place % letters ≡ letter = mod-mul-add state letters letter lt in
          let below : state < length old = slice_get_within old state d at in
          let lower : place < letters * length old = mul-add-lt state letters letter (length old) below lt in
          let upper : letters * length old ≤ letters * 1024 = mul-le letters (length old) letters 1024 (le_refl letters) work.few in
          work_fault place old next d f work (ap (λ k. slice_get old k) row ∙ at) (omega (arith, lower, upper))
          (subst (λ (a : ℕ). Finds old (g.step d a) (Err f)) (sym column) finds)

    -- ---- what an error of the work says

    pub bad_start : (error : SpecError) → IfBad error (λ f. g.start ≡ Err f) → IfBad error (λ f. IsExplored g letters (Err f))
    bad_start NoMemory h = tt
    bad_start (Bad f) h = start_fault f h

    pub refused_by : (error : SpecError) → IfBad error (λ f. IsExplored g letters (Err f)) → (fault : SpecFault) → IsExplored g letters (Err fault) → (error ≡ Bad fault) ⊎ (error ≡ NoMemory)
    refused_by NoMemory h fault also = inr refl
    refused_by (Bad f) h fault also = inl (ap (λ x. Bad x) (same_Err {T = List D} f fault (explored_one (Err f) (Err fault) h also)))

    pub accepted_by : (error : SpecError) → IfBad error (λ f. IsExplored g letters (Err f)) → (found : List D) → IsExplored g letters (Ok found) → error ≡ NoMemory
    accepted_by NoMemory h found also = refl
    accepted_by (Bad f) h found also = absurd (ok-err found f (explored_one (Ok found) (Err f) also h))

    -- ---- what causes a fault

    -- a fault that words meet, or too many data that they reach
    abbrev pub IsCaused : SpecFault → Type 0
    IsCaused f = IsMet g letters f ⊎ ((f ≡ TooManyStates) × IsCrowded g letters)

    finds_err : (old : List D) (r : Result D SpecFault) (f : SpecFault) → Finds old r (Err f) → (r ≡ Err f) ⊎ ((e : D) × (r ≡ Ok e) × (Contains old e → ⊥) × (length old ≡ 1024) × (f ≡ TooManyStates))
    finds_err old (Err h) f finds = inl (ap (λ x. Err x) (sym (same_Err {T = List D} f h finds)))
    finds_err old (Ok e) f (inl known) = absurd (ok-err old f (sym known.1))
    finds_err old (Ok e) f (inr fresh) =
        elim (eqb_tells (length old) 1024) [
          | inl full ↦ inr (e, refl, fresh.0, full.1, same_Err {T = List D} f TooManyStates (rw (full.0) at fresh.1))
          | inr room ↦ absurd (ok-err (old ++ e ∷ []) f (sym (rw (room.0) at fresh.1)))
        ]

    met_start : (s : Result D SpecFault) (f : SpecFault) → Err f ≡ first_found s → s ≡ Err f
    met_start (Ok d) f h = absurd (ok-err (d ∷ []) f (sym h))
    met_start (Err e) f h = ap (λ x. Err x) (sym (same_Err {T = List D} f e h))

    met_more : (d : D) (letter : ℕ) (f : SpecFault) → letter < letters → g.step d letter ≡ Err f → IsReached g letters d → IsMet g letters f
    met_more d letter f lt leads h = record {
      word = h.0 ++ letter ∷ [];
      below = All-push (λ a. a < letters) h.0 letter h.1 lt;
      meets = fold_push (step_from g) g.start h.0 letter ∙ ap (λ r. step_from g r letter) h.2 ∙ leads;
    }

    caused_at : (n : ℕ) (old : List D) (d : D) (f : SpecFault) → 0 < letters → slice_get old (n / letters) ≡ Some d → IsSound old → Finds old (g.step d (n % letters)) (Err f) → IsCaused f
    caused_at n old d f pos at sound finds =
        let lt = mod_below n letters pos in
        let way = All-contains (IsReached g letters) old d sound.each (Contains-place old (n / letters) d at) in
        elim (finds_err old (g.step d (n % letters)) f finds) [
          | inl leads ↦ inl (met_more d (n % letters) f lt leads way)
          | inr fresh ↦ inr (
            fresh.4,
            record {
              found = old ++ fresh.0 ∷ [];
              many = omega (arith, length-append old (fresh.0 ∷ []), fresh.3);
              each = All-push (IsReached g letters) old fresh.0 sound.each (reached_more d fresh.0 (n % letters) lt fresh.1 way);
              distinct = distinct_push old fresh.0 sound.distinct fresh.2;
            },
          )
        ]

    works_err : (o : Option D) (old : List D) (f : SpecFault) (F : D → Type 0) → MatchOption o (Err f ≡ Ok old) F → (d : D) × (o ≡ Some d) × F d
    works_err None old f F h = absurd (ok-err old f (sym h))
    works_err (Some d) old f F h = (d, refl, h)

    caused_step : (n : ℕ) (before : Result (List D) SpecFault) (f : SpecFault) → 0 < letters → ((old : List D) → before ≡ Ok old → IsSound old) → ((e : SpecFault) → before ≡ Err e → IsCaused e)
        → Works g letters n before (Err f) → IsCaused f
    caused_step n (Err e) f pos sound caused h = subst IsCaused (sym (same_Err {T = List D} f e h)) (caused e refl)
    caused_step n (Ok old) f pos sound caused h =
        let taken = works_err (slice_get old (n / letters)) old f (λ d. Finds old (g.step d (n % letters)) (Err f)) h in
        caused_at n old taken.0 f pos taken.1 (sound old refl) taken.2

    caused_in : (n : ℕ) (f : SpecFault) → n ≤ 1024 * letters → IsFoundIn g letters n (Err f) → IsCaused f
    unfolding IsFoundIn
    caused_in zero f le h = inl (record { word = []; below = All-nil (λ a. a < letters); meets = met_start g.start f h })
    caused_in (suc n) f le h =
        caused_step n h.0 f (omega arith) (λ old e. found_is_sound n old (omega arith) (subst (λ r. IsFoundIn g letters n r) e h.1))
        (λ e same. caused_in n e (omega arith) (subst (λ r. IsFoundIn g letters n r) same h.1)) h.2

    pub caused_by : (error : SpecError) → IfBad error (λ f. IsExplored g letters (Err f)) → IfBad error IsCaused
    caused_by NoMemory h = tt
    caused_by (Bad f) h = caused_in (1024 * letters) f (le_refl (1024 * letters)) h

    pub not_both : (found : List D) (f : SpecFault) → IsExplored g letters (Ok found) → IsExplored g letters (Err f) → ⊥
    not_both found f done refused = ok-err found f (explored_one (Ok found) (Err f) done refused)
