-- The names of objects after a script that was refused: those from before stand in front.
use Rattle.std.proofs.Common.{◌≡◌, ℕ, ◌+◌, ◌<◌, ◌≤◌, List, [], ◌∷◌, length, take, Option, Some, None, Result, Ok, Err, slice_get, refl, sym, ap, subst, ◌∙◌, arith}
use Rattle.std.specs.List.{IsDistinct}
use Rattle.std.specs.Str.{bytes_eq}
use Rattle.std.proofs.Math.Seq.{take-append_seam, take-take}
use Rattle.jm_model.specs.declared.fault.ScriptFault.{ScriptFault}
use Rattle.jm_events.specs.Names.{number_of, with_name}
use Rattle.jm_events.proofs.NameLemmas.{slice_get-take, number_of-take, take-name, with_name-new}
use Rattle.jm_lines.specs.Lines.{lines_of}
use Rattle.jm_script.specs.Catalogs.{CatalogEntry}
use Rattle.jm_script.specs.Objects.{IsExtension}
use Rattle.jm_script.specs.declared.script.Target.{Target}
use Rattle.jm_script.specs.Meanings.{LineMeaning, ScriptMeaning, line_meaning, with_line, steps_of, led_by, lines_meaning, script_meaning}
use Rattle.jm_script.proofs.ObjectLemmas.{IsExtension-none, IsExtension-trans}
use Rattle.jm_script.proofs.MeaningLemmas.{line_keeps}

with_line_names : (line : ℕ) (target : Option Target) (m : ScriptMeaning) → (with_line line target m).names ≡ m.names
with_line_names line None m = refl
with_line_names line (Some target) m = refl

module _ (catalog : List CatalogEntry) where
  names_kept : (count n : ℕ) (names lines : List (List ℕ)) → length names ≤ 65536 → count ≤ 200000 → IsExtension names (lines_meaning catalog count n names lines).names
  names_kept count n names [] few room = IsExtension-none names
  names_kept count n names (bytes ∷ lines) few room = by_line (λ c o less more. names_kept c (n + 1) o lines less more) (line_meaning catalog count n bytes names) refl
    where
      by_line : ((c : ℕ) (o : List (List ℕ)) → length o ≤ 65536 → c ≤ 200000 → IsExtension o (lines_meaning catalog c (n + 1) o lines).names)
          → (r : Result LineMeaning ScriptFault) → line_meaning catalog count n bytes names ≡ r → IsExtension names (led_by n count names r (λ c o. lines_meaning catalog c (n + 1) o lines)).names
      by_line behind (Err fault) e = IsExtension-none names
      by_line behind (Ok m) e =
          let keeps = line_keeps catalog count n bytes names m few room e in
          let more = lines_meaning catalog (count + steps_of m.target) (n + 1) m.names lines in
          subst (IsExtension names) (sym (with_line_names n m.target more)) (IsExtension-trans names m.names more.names keeps.extended (behind (count + steps_of m.target) m.names keeps.few keeps.room))

  pub script_names_kept : (count : ℕ) (bytes : List ℕ) (names : List (List ℕ)) → length names ≤ 65536 → count ≤ 200000 → IsExtension names (script_meaning catalog count bytes names).names
  unfolding script_meaning
  script_names_kept count bytes names few room = names_kept count 1 names (lines_of bytes) few room

-- the first of them are those from before
pub first_kept : (old new : List (List ℕ)) → IsExtension old new → take (length old) new ≡ old
first_kept old new more = ap (take (length old)) more.at_end ∙ take-append_seam old more.added

-- the first of distinct names, and the one after them
pub one_name_more : (names : List (List ℕ)) (name : List ℕ) (count n : ℕ) → IsDistinct bytes_eq (take count names) → n < count → slice_get names n ≡ Some name → with_name (take n names) name ≡ take (n + 1) names
one_name_more names name count n distinct less at =
    let there : slice_get (take count names) n ≡ Some name = slice_get-take count n names less ∙ at in
    let shorter : take n (take count names) ≡ take n names = take-take n count names (omega arith) in
    with_name-new (take n names) name (subst (λ v. number_of v name ≡ None) shorter (number_of-take (take count names) name n distinct there)) ∙ sym (take-name names name n at)
