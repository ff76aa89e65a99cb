-- What is refused first of files, one after the other, is one; and so is what they say.
use Rattle.std.proofs.Common.{◌≡◌, ℕ, ◌+◌, inl, Bool, List, [], ◌∷◌, ◌++◌, length, Option, refl, sym, ap, subst, ◌∙◌, arith, append_assoc, append-nil}
use Rattle.jm_model.specs.declared.fault.SpecFault.{SpecFault}
use Rattle.jm_model.specs.declared.fault.ScriptFault.{ScriptFault}
use Rattle.jm_script.specs.declared.script.ScriptLine.{ScriptLine}
use Rattle.jm_sweep.specs.Recordings.{parts_of}
use Rattle.jm_inputs.specs.Sources.{Source, Gives, AllTold}
use Rattle.jm_inputs.specs.Specifications.{Specification, IsSpecification}
use Rattle.jm_inputs.specs.Scripts.{IsScript, IsScriptFault, IsScriptFile, IsScriptFileFault, file_too_long, in_file}
use Rattle.jm_inputs.specs.Inputs.{refusal_of, IsAdmitted, IsRefusal, faulty, refused, SaySpecifications, AreReadUpTo, step_count, SayScripts, AreScriptsUpTo}
use Rattle.jm_inputs.specs.Recordings.{RecordedPart, steps_of_parts, SayParts, IsRecording, IsRecordingFault, too_long, in_part}
use Rattle.jm_inputs.proofs.OneReadingLemmas.{one_specification, specification_has_no_fault, same_some, never_some}
use Rattle.jm_inputs.proofs.InputLemmas.{one_given, script_has_no_fault}
use Rattle.jm_telling.specs.FirstFaults.{IsSameFault}
use Rattle.jm_telling.proofs.FaultLemmas.{one_script_fault, one_spec_fault}

pub same_head : {X : Type 0} {x y : X} {xs ys : List X} → x ∷ xs ≡ y ∷ ys → x ≡ y
same_head e = cc

pub same_tail : {X : Type 0} {x y : X} {xs ys : List X} → x ∷ xs ≡ y ∷ ys → xs ≡ ys
same_tail e = cc

-- ---- specifications

module _ (families : Bool) (before : List Specification) (bytes : List ℕ) where
  -- bytes are refused for one thing
  one_reason : (fault other : SpecFault) → IsRefusal families before bytes fault → IsRefusal families before bytes other → IsSameFault fault other
  one_reason fault other (faulty a) (faulty b) = one_spec_fault bytes fault other a b
  one_reason fault other (faulty a) (refused t says also) = absurd (specification_has_no_fault bytes t fault says a)
  one_reason fault other (refused s said some) (faulty b) = absurd (specification_has_no_fault bytes s other said b)
  one_reason fault other (refused s said some) (refused t says also) =
      inl (same_some (sym some ∙ ap (refusal_of families before) (one_specification bytes s t said says) ∙ also))

  -- and if they are admitted, for nothing
  admitted_or_refused : (s : Specification) (fault : SpecFault) → IsAdmitted families before bytes s → IsRefusal families before bytes fault → ⊥
  admitted_or_refused s fault is (faulty has) = specification_has_no_fault bytes s fault is.said has
  admitted_or_refused s fault is (refused t said some) =
      never_some (sym is.sound ∙ ap (refusal_of families before) (one_specification bytes s t is.said said) ∙ some)

module _ (contents : List ℕ → Option (List ℕ)) (families : Bool) where
  -- after no other specifications
  refused_first : (before specs : List Specification) (bytes held : List ℕ) (fault : SpecFault) → specs ≡ [] → bytes ≡ held → IsRefusal families (before ++ specs) bytes fault → IsRefusal families before held fault
  refused_first before specs bytes held fault none same is =
      subst (λ v. IsRefusal families v held fault) (ap (λ v. before ++ v) none ∙ append-nil before) (subst (λ v. IsRefusal families (before ++ specs) v fault) same is)

  -- of sources one is refused first
  one_refused_spec : (before : List Specification) (first others rest tail : List Source) (source x : Source) (specs some : List Specification) (bytes held : List ℕ) (fault other : SpecFault)
      → AllTold contents (first ++ source ∷ rest) → first ++ source ∷ rest ≡ others ++ x ∷ tail
      → SaySpecifications contents families before first specs → SaySpecifications contents families before others some
      → Gives contents source bytes → Gives contents x held
      → IsRefusal families (before ++ specs) bytes fault → IsRefusal families (before ++ some) held other
      → (length first ≡ length others) × IsSameFault fault other
  one_refused_spec before [] [] rest tail source x specs some bytes held fault other told split none nothing given gives is too =
      let one = one_given contents source bytes held told.0 given (subst (λ v. Gives contents v held) (sym (same_head split)) gives) in
      (refl, one_reason families before held fault other (refused_first before specs bytes held fault none one is) (refused_first before some held held other nothing refl too))
  one_refused_spec before [] (y ∷ others) rest tail source x specs some bytes held fault other told split none (byte, s, more, e, g, admitted, later) given gives is too =
      let one = one_given contents source bytes byte told.0 given (subst (λ v. Gives contents v byte) (sym (same_head split)) g) in
      absurd (admitted_or_refused families before byte s fault admitted (refused_first before specs bytes byte fault none one is))
  one_refused_spec before (y ∷ first) [] rest tail source x specs some bytes held fault other told split (byte, s, more, e, g, admitted, later) nothing given gives is too =
      let one = one_given contents y held byte told.0 (subst (λ v. Gives contents v held) (sym (same_head split)) gives) g in
      absurd (admitted_or_refused families before byte s other admitted (refused_first before some held byte other nothing one too))
  one_refused_spec before (y ∷ first) (z ∷ others) rest tail source x specs some bytes held fault other told split (byte, s, more, e, g, admitted, later) (bite, t, behind, f, h, approved, most) given gives is too =
      let one = one_given contents y byte bite told.0 g (subst (λ v. Gives contents v bite) (sym (same_head split)) h) in
      let spec = one_specification bite s t (subst (λ v. IsSpecification v s) one admitted.said) approved.said in
      let rests = one_refused_spec (before ++ t ∷ []) first others rest tail source x more behind bytes held fault other told.1 (same_tail split)
      (subst (λ v. SaySpecifications contents families (before ++ v ∷ []) first more) spec later) most given gives
      (subst (λ v. IsRefusal families v bytes fault) (ap (λ v. before ++ v) e ∙ ap (λ v. before ++ v ∷ more) spec ∙ sym (append_assoc before (t ∷ []) more)) is)
      (subst (λ v. IsRefusal families v held other) (ap (λ v. before ++ v) f ∙ sym (append_assoc before (t ∷ []) behind)) too) in
      let place : length (y ∷ first) ≡ length (z ∷ others) = omega (arith, rests.0) in
      (place, rests.1)

  pub one_bad_spec : (sources : List Source) (number n : ℕ) (source x : Source) (before some : List Specification) (bytes held : List ℕ) (fault other : SpecFault)
      → AllTold contents sources
      → AreReadUpTo contents families sources number source before → AreReadUpTo contents families sources n x some
      → Gives contents source bytes → Gives contents x held
      → IsRefusal families before bytes fault → IsRefusal families some held other
      → (number ≡ n) × IsSameFault fault other
  one_bad_spec sources number n source x before some bytes held fault other told a b given gives is too =
      let rests = one_refused_spec [] a.first b.first a.rest b.rest source x before some bytes held fault other (subst (AllTold contents) a.split told) (sym a.split ∙ b.split) a.read b.read given gives is too in
      (a.numbered ∙ rests.0 ∙ sym b.numbered, rests.1)

-- ---- scripts

module _ (ordered : Bool) (specs : List Specification) (count : ℕ) (names : List (List ℕ)) (bytes : List ℕ) where
  one_file_fault : (fault other : ScriptFault) → IsScriptFileFault ordered specs count names bytes fault → IsScriptFileFault ordered specs count names bytes other → fault ≡ other
  one_file_fault _ _ (file_too_long more) (file_too_long less) = refl
  one_file_fault _ _ (file_too_long more) (in_file other small has) = absurd (omega (arith, more, small))
  one_file_fault _ _ (in_file fault small has) (file_too_long more) = absurd (omega (arith, more, small))
  one_file_fault _ _ (in_file fault small has) (in_file other less also) = same_some (sym has ∙ also)

  file_or_fault : (script : List ScriptLine) (objects : List (List ℕ)) (fault : ScriptFault) → IsScriptFile ordered specs count names bytes script objects → IsScriptFileFault ordered specs count names bytes fault → ⊥
  file_or_fault script objects _ h (file_too_long more) = omega (arith, more, h.small)
  file_or_fault script objects _ h (in_file fault small some) = never_some (sym h.said.sound ∙ some)

module _ (contents : List ℕ → Option (List ℕ)) (ordered : Bool) (specs : List Specification) where
  -- after no other scripts
  faulty_first : (count : ℕ) (names objects : List (List ℕ)) (scripts : List (List ScriptLine)) (bytes held : List ℕ) (fault : ScriptFault) → scripts ≡ [] → objects ≡ names → bytes ≡ held
      → IsScriptFileFault ordered specs (count + step_count scripts) objects bytes fault → IsScriptFileFault ordered specs count names held fault
  faulty_first count names objects scripts bytes held fault none same one is =
      let zero : count + step_count scripts ≡ count = ap (λ v. count + step_count v) none ∙ omega arith in
      subst (λ v. IsScriptFileFault ordered specs count names v fault) one (subst (λ v. IsScriptFileFault ordered specs count v bytes fault) same (subst (λ n. IsScriptFileFault ordered specs n objects bytes fault) zero is))

  -- after one more
  faulty_behind : (count : ℕ) (objects : List (List ℕ)) (scripts more : List (List ScriptLine)) (script lines : List ScriptLine) (bytes : List ℕ) (fault : ScriptFault) → scripts ≡ script ∷ more → script ≡ lines
      → IsScriptFileFault ordered specs (count + step_count scripts) objects bytes fault → IsScriptFileFault ordered specs ((count + length lines) + step_count more) objects bytes fault
  faulty_behind count objects scripts more script lines bytes fault e same is =
      let counts : count + step_count scripts ≡ (count + length lines) + step_count more = ap (λ v. count + step_count v) e ∙ ap (λ (v : List ScriptLine). count + (length v + step_count more)) same ∙ omega arith in
      subst (λ n. IsScriptFileFault ordered specs n objects bytes fault) counts is

  -- what a source says is one script, with its names
  one_script : (count : ℕ) (names : List (List ℕ)) (source : Source) (bytes held : List ℕ) (script lines : List ScriptLine) (later then_names : List (List ℕ)) → bytes ≡ held
      → IsScriptFile ordered specs count names bytes script later → IsScriptFile ordered specs count names held lines then_names → (script ≡ lines) × (later ≡ then_names)
  one_script count names source bytes held script lines later then_names one said tells =
      let here = (subst (λ v. IsScriptFile ordered specs count names v script later) one said).said in
      (here.lines ∙ sym tells.said.lines, here.named ∙ sym tells.said.named)

  one_refused_script : (count : ℕ) (names : List (List ℕ)) (first others rest tail : List Source) (source x : Source) (scripts some : List (List ScriptLine)) (objects middle texts fronts : List (List ℕ)) (bytes held : List ℕ) (fault other : ScriptFault)
      → AllTold contents (first ++ source ∷ rest) → first ++ source ∷ rest ≡ others ++ x ∷ tail
      → SayScripts contents ordered specs count names first scripts objects texts → SayScripts contents ordered specs count names others some middle fronts
      → Gives contents source bytes → Gives contents x held
      → IsScriptFileFault ordered specs (count + step_count scripts) objects bytes fault → IsScriptFileFault ordered specs (count + step_count some) middle held other
      → (length first ≡ length others) × (fault ≡ other)
  one_refused_script count names [] [] rest tail source x scripts some objects middle texts fronts bytes held fault other told split (none, same, silent) (nothing, too, still) given gives is also =
      let one = one_given contents source bytes held told.0 given (subst (λ v. Gives contents v held) (sym (same_head split)) gives) in
      (refl, one_file_fault ordered specs count names held fault other (faulty_first count names objects scripts bytes held fault none same one is) (faulty_first count names middle some held held other nothing too refl also))
  one_refused_script count names [] (y ∷ others) rest tail source x scripts some objects middle texts fronts bytes held fault other told split (none, same, silent) (byte, script, more, later, front, e, t, g, said, behind) given gives is also =
      let one = one_given contents source bytes byte told.0 given (subst (λ v. Gives contents v byte) (sym (same_head split)) g) in
      absurd (file_or_fault ordered specs count names byte script later fault said (faulty_first count names objects scripts bytes byte fault none same one is))
  one_refused_script count names (y ∷ first) [] rest tail source x scripts some objects middle texts fronts bytes held fault other told split (byte, script, more, later, front, e, t, g, said, behind) (nothing, too, still) given gives is also =
      let one = one_given contents y held byte told.0 (subst (λ v. Gives contents v held) (sym (same_head split)) gives) g in
      absurd (file_or_fault ordered specs count names byte script later other said (faulty_first count names middle some held byte other nothing too one also))
  one_refused_script count names (y ∷ first) (z ∷ others) rest tail source x scripts some objects middle texts fronts bytes held fault other told split (byte, script, more, later, front, e, t, g, said, behind) (bite, lines, most, then_names, end, f, u, h, tells, farther) given gives is also =
      let one = one_given contents y byte bite told.0 g (subst (λ v. Gives contents v bite) (sym (same_head split)) h) in
      let same = one_script count names y byte bite script lines later then_names one said tells in
      let rests = one_refused_script (count + length lines) then_names first others rest tail source x more most objects middle front end bytes held fault other told.1 (same_tail split)
      (subst (λ v. SayScripts contents ordered specs (count + length lines) v first more objects front) same.1 (subst (λ (v : List ScriptLine). SayScripts contents ordered specs (count + length v) later first more objects front) same.0 behind)) farther given gives
      (faulty_behind count objects scripts more script lines bytes fault e same.0 is) (faulty_behind count middle some most lines lines held other f refl also) in
      let place : length (y ∷ first) ≡ length (z ∷ others) = omega (arith, rests.0) in
      (place, rests.1)

  pub one_bad_script : (count : ℕ) (sources : List Source) (number n : ℕ) (source x : Source) (scripts some : List (List ScriptLine)) (objects middle : List (List ℕ)) (bytes held : List ℕ) (fault other : ScriptFault)
      → AllTold contents sources
      → AreScriptsUpTo contents ordered specs count sources number source scripts objects → AreScriptsUpTo contents ordered specs count sources n x some middle
      → Gives contents source bytes → Gives contents x held
      → IsScriptFileFault ordered specs (count + step_count scripts) objects bytes fault → IsScriptFileFault ordered specs (count + step_count some) middle held other
      → (number ≡ n) × (fault ≡ other)
  one_bad_script count sources number n source x scripts some objects middle bytes held fault other told a b given gives is also =
      let rests = one_refused_script count [] a.first b.first a.rest b.rest source x scripts some objects middle a.texts b.texts bytes held fault other (subst (AllTold contents) a.split told) (sym a.split ∙ b.split) a.read b.read given gives is also in
      (a.numbered ∙ rests.0 ∙ sym b.numbered, rests.1)

  -- what sources say is one list of scripts
  pub scripts_one : (count : ℕ) (names : List (List ℕ)) (sources : List Source) (scripts some : List (List ScriptLine)) (objects middle texts fronts : List (List ℕ)) → AllTold contents sources
      → SayScripts contents ordered specs count names sources scripts objects texts → SayScripts contents ordered specs count names sources some middle fronts
      → (scripts ≡ some) × (objects ≡ middle) × (texts ≡ fronts)
  scripts_one count names [] scripts some objects middle texts fronts told (none, same, silent) (nothing, too, still) = (none ∙ sym nothing, same ∙ sym too, silent ∙ sym still)
  scripts_one count names (x ∷ sources) scripts some objects middle texts fronts told (byte, script, more, later, front, e, t, g, said, behind) (bite, lines, most, then_names, end, f, u, h, tells, farther) =
      let one = one_given contents x byte bite told.0 g h in
      let same = one_script count names x byte bite script lines later then_names one said tells in
      let lines_same : script ≡ lines = same.0 in
      let rests = scripts_one (count + length lines) then_names sources more most objects middle front end told.1
      (subst (λ v. SayScripts contents ordered specs (count + length lines) v sources more objects front) same.1 (subst (λ (v : List ScriptLine). SayScripts contents ordered specs (count + length v) later sources more objects front) same.0 behind)) farther in
      (e ∙ (λ i. lines_same i ∷ rests.0 i) ∙ sym f, rests.1, t ∙ (λ i. one i ∷ rests.2 i) ∙ sym u)

-- ---- parts of a recording

module _ (specs : List Specification) where
  -- after no other part, and after one more
  part_first : (count : ℕ) (parts : List RecordedPart) (text other : List ℕ) (fault : ScriptFault) → parts ≡ [] → text ≡ other → IsScriptFault specs (count + steps_of_parts parts) [] text fault → IsScriptFault specs count [] other fault
  part_first count parts text other fault none same is =
      let zero : count + steps_of_parts parts ≡ count = ap (λ v. count + steps_of_parts v) none ∙ omega arith in
      subst (λ v. IsScriptFault specs count [] v fault) same (subst (λ n. IsScriptFault specs n [] text fault) zero is)

  part_behind : (count : ℕ) (parts more : List RecordedPart) (part : RecordedPart) (lines : List ScriptLine) (text : List ℕ) (fault : ScriptFault) → parts ≡ part ∷ more → part.script ≡ lines
      → IsScriptFault specs (count + steps_of_parts parts) [] text fault → IsScriptFault specs ((count + length lines) + steps_of_parts more) [] text fault
  part_behind count parts more part lines text fault e same is =
      let counts : count + steps_of_parts parts ≡ (count + length lines) + steps_of_parts more = ap (λ v. count + steps_of_parts v) e ∙ ap (λ (v : List ScriptLine). count + (length v + steps_of_parts more)) same ∙ omega arith in
      subst (λ n. IsScriptFault specs n [] text fault) counts is

  -- what a text says is one part
  one_part : (count : ℕ) (text other : List ℕ) (part one : RecordedPart) → text ≡ other → IsScript specs count [] text part.script part.objects → IsScript specs count [] other one.script one.objects → part ≡ one
  one_part count text other part one same said tells =
      let here = subst (λ v. IsScript specs count [] v part.script part.objects) same said in
      let lines : part.script ≡ one.script = here.lines ∙ sym tells.lines in
      let names : part.objects ≡ one.objects = here.named ∙ sym tells.named in
      λ i. record { script = lines i; objects = names i }

  one_refused_part : (count : ℕ) (first others rest tail : List (List ℕ)) (text x : List ℕ) (parts some : List RecordedPart) (fault other : ScriptFault)
      → first ++ text ∷ rest ≡ others ++ x ∷ tail
      → SayParts specs count first parts → SayParts specs count others some
      → IsScriptFault specs (count + steps_of_parts parts) [] text fault → IsScriptFault specs (count + steps_of_parts some) [] x other
      → (length first ≡ length others) × (fault ≡ other)
  one_refused_part count [] [] rest tail text x parts some fault other split none nothing is also =
      (refl, one_script_fault specs count [] x fault other (part_first count parts text x fault none (same_head split) is) (part_first count some x x other nothing refl also))
  one_refused_part count [] (y ∷ others) rest tail text x parts some fault other split none (part, more, e, said, behind) is also =
      absurd (script_has_no_fault specs count [] y part.script part.objects fault said (part_first count parts text y fault none (same_head split) is))
  one_refused_part count (y ∷ first) [] rest tail text x parts some fault other split (part, more, e, said, behind) nothing is also =
      absurd (script_has_no_fault specs count [] y part.script part.objects other said (part_first count some x y other nothing (sym (same_head split)) also))
  one_refused_part count (y ∷ first) (z ∷ others) rest tail text x parts some fault other split (part, more, e, said, behind) (one, most, f, tells, farther) is also =
      let same : part.script ≡ one.script = ap (λ (p : RecordedPart). p.script) (one_part count y z part one (same_head split) said tells) in
      let rests = one_refused_part (count + length one.script) first others rest tail text x more most fault other (same_tail split)
      (subst (λ (v : List ScriptLine). SayParts specs (count + length v) first more) same behind) farther
      (part_behind count parts more part one.script text fault e same is) (part_behind count some most one one.script x other f refl also) in
      let place : length (y ∷ first) ≡ length (z ∷ others) = omega (arith, rests.0) in
      (place, rests.1)

  pub one_bad_part : (bytes : List ℕ) (number n : ℕ) (fault other : ScriptFault) → IsRecordingFault specs bytes number fault → IsRecordingFault specs bytes n other → (number ≡ n) × (fault ≡ other)
  one_bad_part bytes _ _ _ _ (too_long more) (too_long less) = (refl, refl)
  one_bad_part bytes _ _ _ _ (too_long more) (in_part n others tail x some other small division counted says also) = absurd (omega (arith, more, small))
  one_bad_part bytes _ _ _ _ (in_part number first rest text before fault small split numbered said is) (too_long more) = absurd (omega (arith, more, small))
  one_bad_part bytes _ _ _ _ (in_part number first rest text before fault small split numbered said is) (in_part n others tail x some other less division counted says also) =
      let rests = one_refused_part 0 first others rest tail text x before some fault other (sym split ∙ division) said says (at_zero before text fault is) (at_zero some x other also) in
      (numbered ∙ rests.0 ∙ sym counted, rests.1)
    where
      at_zero : (parts : List RecordedPart) (part : List ℕ) (wrong : ScriptFault) → IsScriptFault specs (steps_of_parts parts) [] part wrong → IsScriptFault specs (0 + steps_of_parts parts) [] part wrong
      at_zero parts part wrong h =
          let none : steps_of_parts parts ≡ 0 + steps_of_parts parts = omega arith in
          subst (λ n. IsScriptFault specs n [] part wrong) none h

  parts_one : (count : ℕ) (texts : List (List ℕ)) (parts some : List RecordedPart) → SayParts specs count texts parts → SayParts specs count texts some → parts ≡ some
  parts_one count [] parts some none nothing = none ∙ sym nothing
  parts_one count (text ∷ texts) parts some (part, more, e, said, behind) (one, most, f, tells, farther) =
      let same = one_part count text text part one refl said tells in
      let rests = parts_one (count + length one.script) texts more most (subst (λ (p : RecordedPart). SayParts specs (count + length p.script) texts more) same behind) farther in
      e ∙ (λ i. same i ∷ rests i) ∙ sym f

  pub one_recording : (bytes : List ℕ) (parts some : List RecordedPart) → IsRecording specs bytes parts → IsRecording specs bytes some → parts ≡ some
  one_recording bytes parts some h k = parts_one 0 (parts_of bytes) parts some h.said k.said
