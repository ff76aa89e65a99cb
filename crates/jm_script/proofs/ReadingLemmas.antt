-- A script, line after line.
use Rattle.std.proofs.Common.{◌≡◌, ℕ, ◌+◌, ◌≤◌, List, [], ◌∷◌, ◌++◌, length, Option, Some, None, Result, Ok, Err, refl, sym, ap, ◌∙◌, append_assoc, subst, arith}
use Rattle.std.proofs.lemmas.List.{length_push}
use Rattle.jm_model.specs.declared.fault.ScriptFault.{ScriptFault}
use Rattle.jm_lines.specs.Lines.{lines_of}
use Rattle.jm_script.specs.Objects.{IsExtension}
use Rattle.jm_script.specs.Catalogs.{CatalogEntry}
use Rattle.jm_script.specs.Meanings.{LineMeaning, ScriptMeaning, line_meaning, with_line, steps_of, led_by, lines_meaning, script_meaning, RisesFrom}
use Rattle.jm_model.specs.declared.fault.ScriptError.{ScriptError}
use Rattle.jm_model.specs.declared.fault.ScriptError.TheVariants.{Bad, NoMemory}
use Rattle.jm_script.specs.Answers.{IsStoppedBy, IsReadWhole, IsLeft, count_left}
use Rattle.jm_script.proofs.ObjectLemmas.{IsExtension-trans, length-IsExtension}
use Rattle.jm_script.proofs.MeaningLemmas.{line_keeps}
use Rattle.jm_script.specs.declared.script.Target.{Target}
use Rattle.jm_script.specs.declared.script.ScriptLine.{ScriptLine}

-- what is meant by lines that stand after these steps
abbrev pub behind : List ScriptLine → ScriptMeaning → ScriptMeaning
behind steps m = record { lines = steps ++ m.lines; names = m.names; fault = m.fault }

-- what was read: these steps, names and lines, of the script that has this meaning; these lines are left
pub record HasRead (catalog : List CatalogEntry) (meaning : ScriptMeaning) (count : ℕ) (old : List (List ℕ)) (steps : List ScriptLine) (names : List (List ℕ)) (n : ℕ) (lines : List (List ℕ)) : Type 0 where
  pub few_names : length names ≤ 65536
  pub few_steps : count + length steps ≤ 200000
  pub extended : IsExtension old names
  pub left : behind steps (lines_meaning catalog (count + length steps) (n + 1) names lines) ≡ meaning

append_none : {A : Type 0} (xs : List A) → xs ++ [] ≡ xs
append_none [] = refl
append_none (x ∷ xs) = ap (λ rest. x ∷ rest) (append_none xs)

-- no line is read yet
pub read_nothing : (catalog : List CatalogEntry) (bytes : List ℕ) (count : ℕ) (names : List (List ℕ)) → length names ≤ 65536 → count ≤ 200000 → IsExtension names names → HasRead catalog (script_meaning catalog count bytes names) count names [] names 0 (lines_of bytes)
unfolding script_meaning
read_nothing catalog bytes count names few room extended =
    let none : count + 0 ≡ count = omega arith in
    record { few_names = few; few_steps = omega arith; extended = extended; left = rw none refl }

module _ (catalog : List CatalogEntry) (meaning : ScriptMeaning) (count : ℕ) (old : List (List ℕ)) (steps : List ScriptLine) (names : List (List ℕ)) (n : ℕ) (lines : List (List ℕ)) (before : HasRead catalog meaning count old steps names n lines) where
  module _ (line : List ℕ) (rest : List (List ℕ)) (here : lines ≡ line ∷ rest) where
    there : behind steps (led_by (n + 1) (count + length steps) names (line_meaning catalog (count + length steps) (n + 1) line names) (λ c o. lines_meaning catalog c (n + 1 + 1) o rest)) ≡ meaning
    there = ap (λ ls. behind steps (lines_meaning catalog (count + length steps) (n + 1) names ls)) (sym here) ∙ before.left

    -- a line leaves the names that are there
    pub more_names : (target : Option Target) (new : List (List ℕ)) → line_meaning catalog (count + length steps) (n + 1) line names ≡ Ok (record { target = target; names = new }) → length names ≤ length new
    more_names target new e =
        let kept = line_keeps catalog (count + length steps) (n + 1) line names (record { target = target; names = new }) before.few_names before.few_steps e in
        length-IsExtension names new kept.extended

    -- a line that is no step
    pub no_step : (new : List (List ℕ)) → line_meaning catalog (count + length steps) (n + 1) line names ≡ Ok (record { target = None; names = new }) → HasRead catalog meaning count old steps new (n + 1) rest
    no_step new e =
        let kept = line_keeps catalog (count + length steps) (n + 1) line names (record { target = None; names = new }) before.few_names before.few_steps e in
        let none : count + length steps + 0 ≡ count + length steps = omega arith in
        record { few_names = kept.few; few_steps = before.few_steps; extended = IsExtension-trans old names new before.extended kept.extended; left = rw none at (rw e at there) }

    -- a line that is a step
    pub one_step : (target : Target) (new : List (List ℕ)) → line_meaning catalog (count + length steps) (n + 1) line names ≡ Ok (record { target = Some target; names = new }) → HasRead catalog meaning count old (steps ++ record { line = n + 1; target = target } ∷ []) new (n + 1) rest
    one_step target new e =
        let kept = line_keeps catalog (count + length steps) (n + 1) line names (record { target = Some target; names = new }) before.few_names before.few_steps e in
        let more : count + length (steps ++ record { line = n + 1; target = target } ∷ []) ≡ count + length steps + 1 = omega (arith, length_push steps (record { line = n + 1; target = target })) in
        let after = lines_meaning catalog (count + length steps + 1) (n + 1 + 1) new rest in
        record {
          few_names = kept.few;
          few_steps = omega (arith, kept.room);
          extended = IsExtension-trans old names new before.extended kept.extended;
          left = rw more (ap (λ ls. record { lines = ls; names = after.names; fault = after.fault }) (append_assoc steps (record { line = n + 1; target = target } ∷ []) after.lines) ∙ (rw e at there));
        }

    -- a step that has no room
    pub abandoned : (target : Option Target) (new : List (List ℕ)) → line_meaning catalog (count + length steps) (n + 1) line names ≡ Ok (record { target = target; names = new }) → IsExtension old new
    abandoned target new e =
        let kept = line_keeps catalog (count + length steps) (n + 1) line names (record { target = target; names = new }) before.few_names before.few_steps e in
        IsExtension-trans old names new before.extended kept.extended

    -- a line with a fault
    faulty : (fault : ScriptFault) → line_meaning catalog (count + length steps) (n + 1) line names ≡ Err fault → record { lines = steps; names = names; fault = Some fault } ≡ meaning
    faulty fault e = ap (λ ls. record { lines = ls; names = names; fault = Some fault }) (sym (append_none steps)) ∙ (rw e at there)

    -- a line that isn't read ends the script
    pub ended : (error : ScriptError) (new : List (List ℕ)) → IsStoppedBy (line_meaning catalog (count + length steps) (n + 1) line names) names error new → IsLeft meaning count old error new (count_left error (count + length steps) count)
    ended (Bad fault) new h =
        let whole = faulty fault h.0 in
        record { first = sym (ap (λ m. m.fault) whole); named = h.1 ∙ ap (λ m. m.names) whole; counted = ap (λ m. count + length m.lines) whole }
    ended NoMemory new h = record { extended = IsExtension-trans old names new before.extended h; counted = refl }

  -- all lines are read
  pub all_read : lines ≡ [] → IsReadWhole meaning count steps names (count + length steps)
  all_read none =
      let whole : record { lines = steps; names = names; fault = None } ≡ meaning =
      ap (λ ls. record { lines = ls; names = names; fault = None }) (sym (append_none steps)) ∙ (rw none at before.left) in
      record { sound = sym (ap (λ m. m.fault) whole); lines = ap (λ m. m.lines) whole; named = ap (λ m. m.names) whole; counted = refl }

-- ---- the lines rise

rises_before : (n : ℕ) (ls : List ScriptLine) → RisesFrom (n + 1) ls → RisesFrom n ls
rises_before n [] h = tt
rises_before n (l ∷ ls) h = let le : n ≤ l.line = omega (arith, h.0) in (le, h.1)

rises_behind : (line count : ℕ) (names : List (List ℕ)) (r : Result LineMeaning ScriptFault) (rest : ℕ → List (List ℕ) → ScriptMeaning) → ((c : ℕ) (o : List (List ℕ)) → RisesFrom (line + 1) (rest c o).lines) → RisesFrom line (led_by line count names r rest).lines
rises_behind line count names (Err fault) rest h = tt
rises_behind line count names (Ok m) rest h = by_target m.target
  where
    by_target : (t : Option Target) → RisesFrom line (with_line line t (rest (count + steps_of m.target) m.names)).lines
    by_target None = rises_before line _ (h (count + steps_of m.target) m.names)
    by_target (Some target) = (omega arith, h (count + steps_of m.target) m.names)

lines_rise : (catalog : List CatalogEntry) (count line : ℕ) (names lines : List (List ℕ)) → RisesFrom line (lines_meaning catalog count line names lines).lines
lines_rise catalog count line names [] = tt
lines_rise catalog count line names (bytes ∷ lines) =
    rises_behind line count names (line_meaning catalog count line bytes names) (λ c o. lines_meaning catalog c (line + 1) o lines) (λ c o. lines_rise catalog c (line + 1) o lines)

pub script_rises : (catalog : List CatalogEntry) (count : ℕ) (bytes : List ℕ) (names : List (List ℕ)) → RisesFrom 1 (script_meaning catalog count bytes names).lines
unfolding script_meaning
script_rises catalog count bytes names = lines_rise catalog count 1 names (lines_of bytes)

-- and so do those that were read
rises_front : (n : ℕ) (xs ys : List ScriptLine) → RisesFrom n (xs ++ ys) → RisesFrom n xs
rises_front n [] ys h = tt
rises_front n (x ∷ xs) ys h = (h.0, rises_front (x.line + 1) xs ys h.1)

pub read_rises : (catalog : List CatalogEntry) (bytes : List ℕ) (count : ℕ) (old : List (List ℕ)) (steps : List ScriptLine) (names : List (List ℕ)) (n : ℕ) (lines : List (List ℕ)) → HasRead catalog (script_meaning catalog count bytes old) count old steps names n lines → RisesFrom 1 steps
read_rises catalog bytes count old steps names n lines before =
    rises_front 1 steps (lines_meaning catalog (count + length steps) (n + 1) names lines).lines (subst (λ m. RisesFrom 1 m.lines) (sym before.left) (script_rises catalog count bytes old))
