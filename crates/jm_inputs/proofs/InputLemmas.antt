-- What files say, one after the other.
use Rattle.std.proofs.Common.{◌≡◌, ℕ, ◌+◌, ◌<◌, Bool, List, [], ◌∷◌, ◌++◌, length, get_or, take, drop, Option, Some, None, refl, sym, ap, subst, ◌∙◌, arith, append_assoc, append-nil}
use Rattle.std.specs.Prelude.{map, IfSome, IsSome, option_map}
use Rattle.std.proofs.lemmas.List.{take-append-drop, take_more, drop_more, map-append, length-map}
use Rattle.jm_model.specs.declared.fault.SpecFault.{SpecFault}
use Rattle.jm_model.specs.declared.fault.SpecFault.TheVariants.{DuplicateSpec}
use Rattle.jm_model.specs.declared.fault.ScriptFault.{ScriptFault}
use Rattle.jm_events.specs.Names.{number_of}
use Rattle.jm_script.specs.Catalogs.{spec_names}
use Rattle.jm_script.specs.declared.script.ScriptLine.{ScriptLine}
use Rattle.jm_inputs.specs.Sources.{Source, Named, Given, Gives, IsSourceTold, AllTold}
use Rattle.jm_inputs.specs.Specifications.{Specification, IsSpecification}
use Rattle.jm_inputs.specs.Scripts.{catalog_of, IsScript, IsScriptFault, too_long, in_line, IsScriptFile, IsScriptFileFault, file_too_long, in_file}
use Rattle.jm_inputs.specs.Inputs.{grammar_fault, refusal_of, IsAdmitted, IsRefusal, faulty, refused, SaySpecifications, AreReadUpTo, step_count, SayScripts, AreScriptsUpTo, lines_in, names_in, asked_behind, names_behind_all}
use Rattle.jm_inputs.proofs.OneReadingLemmas.{one_specification, specification_has_no_fault, never_some}

-- ---- lists

-- the sources before one and those after it
pub split_sources : {S : Type 0} (make : List ℕ → Source) (g : S → List ℕ) (xs : List S) (i : ℕ) (x : S) → i < length xs → x ≡ get_or xs i x
    → map make (map g xs) ≡ map make (map g (take i xs)) ++ make (g x) ∷ map make (map g (drop (i + 1) xs))
split_sources {S} make g xs i x lt here =
    let whole : xs ≡ take i xs ++ x ∷ drop (i + 1) xs = sym (take-append-drop i xs) ∙ ap (λ v. take i xs ++ v) (drop_more xs i x lt ∙ ap (λ v. v ∷ drop (i + 1) xs) (sym here)) in
    ap (λ v. map make (map g v)) whole ∙ ap (map make) (map-append g (take i xs) (x ∷ drop (i + 1) xs)) ∙ map-append make (map g (take i xs)) (g x ∷ map g (drop (i + 1) xs))

-- one source more
pub more_sources : {S : Type 0} (make : List ℕ → Source) (g : S → List ℕ) (xs : List S) (i : ℕ) (x : S) → i < length xs → x ≡ get_or xs i x
    → map make (map g (take (i + 1) xs)) ≡ map make (map g (take i xs)) ++ make (g x) ∷ []
more_sources {S} make g xs i x lt here =
    let whole : take (i + 1) xs ≡ take i xs ++ x ∷ [] = take_more xs i x lt ∙ ap (λ v. take i xs ++ v ∷ []) (sym here) in
    ap (λ v. map make (map g v)) whole ∙ ap (map make) (map-append g (take i xs) (x ∷ [])) ∙ map-append make (map g (take i xs)) (g x ∷ [])

pub length-sources : {S : Type 0} (make : List ℕ → Source) (g : S → List ℕ) (xs : List S) → length (map make (map g xs)) ≡ length xs
length-sources {S} make g xs = length-map (map g xs) make ∙ length-map xs g

-- ---- specifications

pub not_refused_of : (families : Bool) (before : List Specification) (s : Specification) → grammar_fault families s.grammar_line ≡ None → number_of (spec_names (catalog_of before)) s.name ≡ None → refusal_of families before s ≡ None
not_refused_of families before s known new = rw (known, new) refl

some_mapped : (o : Option ℕ) → IsSome o → option_map (λ earlier. DuplicateSpec) o ≡ Some DuplicateSpec
some_mapped None h = absurd cc
some_mapped (Some k) h = refl

pub refused_twice : (families : Bool) (before : List Specification) (s : Specification) → grammar_fault families s.grammar_line ≡ None → IsSome (number_of (spec_names (catalog_of before)) s.name) → refusal_of families before s ≡ Some DuplicateSpec
refused_twice families before s known twice = rw known (some_mapped (number_of (spec_names (catalog_of before)) s.name) twice)

module _ (contents : List ℕ → Option (List ℕ)) (families : Bool) where
  -- as many specifications as sources
  pub length-said : (before : List Specification) (sources : List Source) (specs : List Specification) → SaySpecifications contents families before sources specs → length specs ≡ length sources
  length-said before [] specs none = ap (λ v. length v) none
  length-said before (x ∷ sources) specs (bytes, s, more, e, given, is, rest) =
      let same : length specs ≡ length (s ∷ more) = ap (λ v. length v) e in
      let others : length more ≡ length sources = length-said (before ++ s ∷ []) sources more rest in
      omega (arith, same, others)

  -- one more
  pub say_more : (before : List Specification) (sources : List Source) (specs : List Specification) (source : Source) (bytes : List ℕ) (s : Specification) → SaySpecifications contents families before sources specs
      → Gives contents source bytes → IsAdmitted families (before ++ specs) bytes s → SaySpecifications contents families before (sources ++ source ∷ []) (specs ++ s ∷ [])
  say_more before [] specs source bytes s none given is =
      (bytes, s, [], ap (λ v. v ++ s ∷ []) none, given, subst (λ v. IsAdmitted families v bytes s) (ap (λ v. before ++ v) none ∙ append-nil before) is, refl)
  say_more before (x ∷ sources) specs source bytes s (held, t, more, e, gives, admitted, rest) given is = (
    held,
    t,
    more ++ s ∷ [],
    ap (λ v. v ++ s ∷ []) e,
    gives,
    admitted,
    say_more (before ++ t ∷ []) sources more source bytes s rest given (subst (λ v. IsAdmitted families v bytes s) (ap (λ v. before ++ v) e ∙ sym (append_assoc before (t ∷ []) more)) is),
  )

-- what a source gives is one thing, where it is told
told_one : (o : Option (List ℕ)) (a b : List ℕ) → IsSome o → IfSome o (λ held. a ≡ held) → IfSome o (λ held. b ≡ held) → a ≡ b
told_one None a b told ha hb = absurd cc
told_one (Some held) a b told ha hb = ha ∙ sym hb

pub one_given : (contents : List ℕ → Option (List ℕ)) (source : Source) (a b : List ℕ) → IsSourceTold contents source → Gives contents source a → Gives contents source b → a ≡ b
one_given contents (Named name) a b told ha hb = told_one (contents name) a b told ha hb
one_given contents (Given given) a b told ha hb = ha ∙ sym hb

-- a specification that isn't refused is refused for nothing
admitted_or_refused : (families : Bool) (before : List Specification) (bytes : List ℕ) (s : Specification) (fault : SpecFault) → IsAdmitted families before bytes s → IsRefusal families before bytes fault → ⊥
admitted_or_refused families before bytes s fault is (faulty has) = specification_has_no_fault bytes s fault is.said has
admitted_or_refused families before bytes s fault is (refused t said some) =
    let same = one_specification bytes s t is.said said in
    never_some (sym is.sound ∙ ap (refusal_of families before) same ∙ some)

module _ (contents : List ℕ → Option (List ℕ)) (families : Bool) where
  -- what sources say is one list
  pub say_one : (before : List Specification) (sources : List Source) (specs others : List Specification) → AllTold contents sources → SaySpecifications contents families before sources specs → SaySpecifications contents families before sources others → specs ≡ others
  say_one before [] specs others told none other = none ∙ sym other
  say_one before (x ∷ sources) specs others told (held, t, more, e, gives, admitted, rest) (bytes, s, behind, f, given, is, later) =
      let same = one_given contents x held bytes told.0 gives given in
      let spec = one_specification bytes t s (subst (λ v. IsSpecification v t) same admitted.said) is.said in
      let rests = say_one (before ++ s ∷ []) sources more behind told.1 (subst (λ v. SaySpecifications contents families (before ++ v ∷ []) sources more) spec rest) later in
      e ∙ (λ i. spec i ∷ rests i) ∙ sym f

  -- sources of which one is refused don't say specifications
  said_or_refused : (before : List Specification) (first rest : List Source) (source : Source) (specs some : List Specification) (bytes : List ℕ) (fault : SpecFault) → AllTold contents (first ++ source ∷ rest)
      → SaySpecifications contents families before (first ++ source ∷ rest) specs → SaySpecifications contents families before first some → Gives contents source bytes → IsRefusal families (before ++ some) bytes fault → ⊥
  said_or_refused before [] rest source specs some bytes fault told (held, t, more, e, gives, admitted, later) none given is =
      let same = one_given contents source held bytes told.0 gives given in
      let here = subst (λ v. IsRefusal families v bytes fault) (ap (λ v. before ++ v) none ∙ append-nil before) is in
      admitted_or_refused families before bytes t fault (subst (λ v. IsAdmitted families before v t) same admitted) here
  said_or_refused before (x ∷ first) rest source specs some bytes fault told (held, t, more, e, gives, admitted, later) (byte, s, behind, f, g, a, most) given is =
      let same = one_given contents x held byte told.0 gives g in
      let spec = one_specification byte t s (subst (λ v. IsSpecification v t) same admitted.said) a.said in
      said_or_refused (before ++ s ∷ []) first rest source more behind bytes fault told.1 (subst (λ v. SaySpecifications contents families (before ++ v ∷ []) (first ++ source ∷ rest) more) spec later) most given
      (subst (λ v. IsRefusal families v bytes fault) (ap (λ v. before ++ v) f ∙ sym (append_assoc before (s ∷ []) behind)) is)

  pub specs_not_refused : (sources : List Source) (number : ℕ) (source : Source) (specs before : List Specification) (bytes : List ℕ) (fault : SpecFault) → AllTold contents sources → SaySpecifications contents families [] sources specs
      → AreReadUpTo contents families sources number source before → Gives contents source bytes → IsRefusal families before bytes fault → ⊥
  specs_not_refused sources number source specs before bytes fault told said reached given is =
      said_or_refused [] reached.first reached.rest source specs before bytes fault (subst (AllTold contents) reached.split told) (subst (λ v. SaySpecifications contents families [] v specs) reached.split said) reached.read given is

-- ---- scripts

pub step_count-more : (scripts : List (List ScriptLine)) (script : List ScriptLine) → step_count (scripts ++ script ∷ []) ≡ step_count scripts + length script
step_count-more [] script = omega arith
step_count-more (x ∷ scripts) script = omega (arith, step_count-more scripts script)

module _ (contents : List ℕ → Option (List ℕ)) (ordered : Bool) (specs : List Specification) where
  pub length-scripts : (count : ℕ) (names : List (List ℕ)) (sources : List Source) (scripts : List (List ScriptLine)) (objects texts : List (List ℕ)) → SayScripts contents ordered specs count names sources scripts objects texts → length scripts ≡ length sources
  length-scripts count names [] scripts objects texts (none, same, silent) = ap (λ v. length v) none
  length-scripts count names (x ∷ sources) scripts objects texts (bytes, script, more, later, others, e, t, given, is, rest) =
      let same : length scripts ≡ length (script ∷ more) = ap (λ v. length v) e in
      let behind : length more ≡ length sources = length-scripts (count + length script) later sources more objects others rest in
      omega (arith, same, behind)

  -- one more
  pub scripts_more : (count : ℕ) (names : List (List ℕ)) (sources : List Source) (scripts : List (List ScriptLine)) (middle texts : List (List ℕ)) (source : Source) (bytes : List ℕ) (script : List ScriptLine) (objects : List (List ℕ))
      → SayScripts contents ordered specs count names sources scripts middle texts → Gives contents source bytes → IsScriptFile ordered specs (count + step_count scripts) middle bytes script objects
      → SayScripts contents ordered specs count names (sources ++ source ∷ []) (scripts ++ script ∷ []) objects (texts ++ bytes ∷ [])
  scripts_more count names [] scripts middle texts source bytes script objects (none, same, silent) given is =
      let zero : count + step_count scripts ≡ count = ap (λ v. count + step_count v) none ∙ omega arith in (
        bytes,
        script,
        [],
        objects,
        [],
        ap (λ v. v ++ script ∷ []) none,
        ap (λ v. v ++ bytes ∷ []) silent,
        given,
        subst (λ v. IsScriptFile ordered specs count v bytes script objects) same (subst (λ n. IsScriptFile ordered specs n middle bytes script objects) zero is),
        (refl, refl, refl),
      )
  scripts_more count names (x ∷ sources) scripts middle texts source bytes script objects (held, first, more, later, others, e, t, gives, said, rest) given is =
      let counts : count + step_count scripts ≡ (count + length first) + step_count more = ap (λ v. count + step_count v) e ∙ omega arith in (
        held,
        first,
        more ++ script ∷ [],
        later,
        others ++ bytes ∷ [],
        ap (λ v. v ++ script ∷ []) e,
        ap (λ v. v ++ bytes ∷ []) t,
        gives,
        said,
        scripts_more (count + length first) later sources more middle others source bytes script objects rest given (subst (λ n. IsScriptFile ordered specs n middle bytes script objects) counts is),
      )

-- what the texts ask for with one text more, and the names then
module _ (ordered : Bool) where
  pub asked_more : (names texts : List (List ℕ)) (text : List ℕ) → asked_behind ordered names (texts ++ text ∷ []) ≡ asked_behind ordered names texts ++ lines_in ordered (names_behind_all ordered names texts) text ∷ []
  asked_more names [] text = refl
  asked_more names (x ∷ texts) text = ap (λ v. lines_in ordered names x ∷ v) (asked_more (names_in ordered names x) texts text)

  pub names_more : (names texts : List (List ℕ)) (text : List ℕ) → names_behind_all ordered names (texts ++ text ∷ []) ≡ names_in ordered (names_behind_all ordered names texts) text
  names_more names [] text = refl
  names_more names (x ∷ texts) text = names_more (names_in ordered names x) texts text

pub script_has_no_fault : (specs : List Specification) (count : ℕ) (names : List (List ℕ)) (bytes : List ℕ) (script : List ScriptLine) (objects : List (List ℕ)) (fault : ScriptFault) → IsScript specs count names bytes script objects → IsScriptFault specs count names bytes fault → ⊥
script_has_no_fault specs count names bytes script objects _ h (too_long more) = omega (arith, more, h.small)
script_has_no_fault specs count names bytes script objects _ h (in_line fault small some) = never_some (sym h.sound ∙ some)

file_has_no_fault : (ordered : Bool) (specs : List Specification) (count : ℕ) (names : List (List ℕ)) (bytes : List ℕ) (script : List ScriptLine) (objects : List (List ℕ)) (fault : ScriptFault) → IsScriptFile ordered specs count names bytes script objects → IsScriptFileFault ordered specs count names bytes fault → ⊥
file_has_no_fault ordered specs count names bytes script objects _ h (file_too_long more) = omega (arith, more, h.small)
file_has_no_fault ordered specs count names bytes script objects _ h (in_file fault small some) = never_some (sym h.said.sound ∙ some)

module _ (contents : List ℕ → Option (List ℕ)) (ordered : Bool) (specs : List Specification) where
  script_or_fault : (count : ℕ) (names : List (List ℕ)) (first rest : List Source) (source : Source) (scripts some : List (List ScriptLine)) (objects texts middle fronts : List (List ℕ)) (bytes : List ℕ) (fault : ScriptFault) → AllTold contents (first ++ source ∷ rest)
      → SayScripts contents ordered specs count names (first ++ source ∷ rest) scripts objects texts → SayScripts contents ordered specs count names first some middle fronts → Gives contents source bytes → IsScriptFileFault ordered specs (count + step_count some) middle bytes fault → ⊥
  script_or_fault count names [] rest source scripts some objects texts middle fronts bytes fault told (held, script, more, later, behind_texts, e, t, gives, said, others) (none, same, silent) given is =
      let zero : count + step_count some ≡ count = ap (λ v. count + step_count v) none ∙ omega arith in
      let one = one_given contents source held bytes told.0 gives given in
      file_has_no_fault ordered specs count names bytes script later fault (subst (λ v. IsScriptFile ordered specs count names v script later) one said) (subst (λ v. IsScriptFileFault ordered specs count v bytes fault) same (subst (λ n. IsScriptFileFault ordered specs n middle bytes fault) zero is))
  script_or_fault count names (x ∷ first) rest source scripts some objects texts middle fronts bytes fault told (held, script, more, later, behind_texts, e, t, gives, said, others) (byte, lines, behind, then_names, front_texts, f, u, g, tells, most) given is =
      let one = one_given contents x held byte told.0 gives g in
      let counts : count + step_count some ≡ (count + length lines) + step_count behind = ap (λ v. count + step_count v) f ∙ omega arith in
      let here = (subst (λ v. IsScriptFile ordered specs count names v script later) one said).said in
      let same_lines : script ≡ lines = here.lines ∙ sym tells.said.lines in
      let same_names : later ≡ then_names = here.named ∙ sym tells.said.named in
      script_or_fault (count + length lines) then_names first rest source more behind objects behind_texts middle front_texts bytes fault told.1
      (subst (λ v. SayScripts contents ordered specs (count + length lines) v (first ++ source ∷ rest) more objects behind_texts) same_names (subst (λ v. SayScripts contents ordered specs (count + length v) later (first ++ source ∷ rest) more objects behind_texts) same_lines others)) most given
      (subst (λ n. IsScriptFileFault ordered specs n middle bytes fault) counts is)

  pub scripts_not_refused : (count : ℕ) (sources : List Source) (number : ℕ) (source : Source) (scripts before : List (List ScriptLine)) (objects texts names : List (List ℕ)) (bytes : List ℕ) (fault : ScriptFault) → AllTold contents sources
      → SayScripts contents ordered specs count [] sources scripts objects texts → AreScriptsUpTo contents ordered specs count sources number source before names → Gives contents source bytes → IsScriptFileFault ordered specs (count + step_count before) names bytes fault → ⊥
  scripts_not_refused count sources number source scripts before objects texts names bytes fault told said reached given is =
      script_or_fault count [] reached.first reached.rest source scripts before objects texts names reached.texts bytes fault (subst (AllTold contents) reached.split told) (subst (λ v. SayScripts contents ordered specs count [] v scripts objects texts) reached.split said) reached.read given is

-- sources that are told give their bytes alone
pub texts_one : (contents : List ℕ → Option (List ℕ)) (ordered : Bool) (specs some_specs : List Specification) (count some_count : ℕ) (names some_names : List (List ℕ)) (sources : List Source) (scripts some : List (List ScriptLine)) (objects texts middle others : List (List ℕ)) → AllTold contents sources
    → SayScripts contents ordered specs count names sources scripts objects texts → SayScripts contents ordered some_specs some_count some_names sources some middle others → texts ≡ others
texts_one contents ordered specs some_specs count some_count names some_names [] scripts some objects texts middle others told (none, same, silent) (none_too, same_too, silent_too) = silent ∙ sym silent_too
texts_one contents ordered specs some_specs count some_count names some_names (x ∷ sources) scripts some objects texts middle others told (held, script, more, later, rest, e, t, gives, said, behind) (byte, lines, front, then_names, tail, f, u, g, tells, most) =
    let one = one_given contents x held byte told.0 gives g in
    let rests = texts_one contents ordered specs some_specs (count + length script) (some_count + length lines) later then_names sources more front objects rest middle tail told.1 behind most in
    t ∙ (λ i. one i ∷ rests i) ∙ sym u
