-- No bytes say two specifications, or a specification and a fault; and no command has two jobs.
use Rattle.std.proofs.Common.{◌≡◌, ℕ, List, [], ◌∷◌, length, Option, Some, None, Result, Ok, Err, refl, sym, ap, subst, ◌∙◌, arith}
use Rattle.jm_model.specs.declared.fault.SpecFault.{SpecFault}
use Rattle.jm_model.specs.declared.fault.SpecFault.TheVariants.{NotUtf8, OpenText}
use Rattle.jm_model.specs.declared.fault.SpecError.TheVariants.{Bad}
use Rattle.jm_text.specs.declared.token.Token.{Token}
use Rattle.jm_text.specs.Tokens.{AreTokensOf, IsFaultOf}
use Rattle.jm_reading.specs.Tokens.{name_of}
use Rattle.jm_reading.proofs.FormulaLemmas.{never_refused}
use Rattle.jm_events.specs.Events.{EventDefinitions}
use Rattle.std.specs.Prelude.{slice_range, is_some}
use Rattle.jm_handler.specs.declared.term.Term.{Term}
use Rattle.jm_handler.proofs.BlockLemmas.{says-same}
use Rattle.jm_spec.specs.declared.property.HandlerText.{HandlerText}
use Rattle.jm_spec.specs.declared.property.Property.{Property}
use Rattle.jm_spec.specs.declared.frame.Frame.{Frame}
use Rattle.jm_spec.specs.declared.tree.SpecTree.{SpecTree}
use Rattle.jm_spec.specs.Faults.{frame_fault}
use Rattle.jm_spec.specs.Spelling.{Spells}
use Rattle.jm_spec.specs.Trees.{PropertyFacts, properties_of, IsTreeOf, IsTreeOfTokens, IsFaultOfTokens, TellsProperty, TellsProperties}
use Rattle.jm_spec.proofs.CompleteLemmas.{spelled_is_frame}
use Rattle.jm_machine.specs.declared.formula.Formula.{Formula}
use Rattle.jm_machine.specs.Formulas.{IsTableFault}
use Rattle.jm_machine.specs.Handlers.{handlers_fault, suffix_fault}
use Rattle.jm_machine.specs.Meanings.{RuleDefinition, rules_of}
use Rattle.jm_machine.specs.Compiling.{AreFormulas, properties_said, IsCompiledFrom}
use Rattle.jm_machine.proofs.ReadingLemmas.{one_rules, rules_or_fault}
use Rattle.jm_inputs.specs.Specifications.{Specification, logics_of, grammar_line_of, all_handlers, IsTreeOfBytes, IsSpecification, BlocksSay, IsSpecFault, too_long, no_tokens, in_frame, in_tree}

pub same_ok : {X E : Type 0} {x y : X} → ◌≡◌ {A = Result X E} (Ok x) (Ok y) → x ≡ y
same_ok e = cc

pub same_some : {X : Type 0} {x y : X} → Some x ≡ Some y → x ≡ y
same_some e = cc

pub never_some : {X : Type 0} {x : X} → None ≡ Some x → ⊥
never_some e = cc

never_ok : {X E : Type 0} {x : X} {e : E} → ◌≡◌ {A = Result X E} (Ok x) (Err e) → ⊥
never_ok e = cc

pub same_err : {X E : Type 0} {x y : E} → ◌≡◌ {A = Result X E} (Err x) (Err y) → x ≡ y
same_err e = cc

pub one_list : (bytes : List ℕ) (tokens other : List Token) → AreTokensOf bytes tokens → AreTokensOf bytes other → tokens ≡ other
one_list bytes tokens other a b = same_ok (sym a.cut ∙ b.cut)

pub one_frame : (bytes : List ℕ) (tokens other : List Token) (frame f : Frame) → tokens ≡ other → Spells bytes tokens frame → Spells bytes other f → frame ≡ f
one_frame bytes tokens other frame f same a b =
    same_some (sym (spelled_is_frame bytes tokens frame a) ∙ spelled_is_frame bytes tokens f (subst (λ ts. Spells bytes ts f) (sym same) b))

-- ---- trees

-- what two trees of one frame share
pub record IsSameTree (a b : SpecTree) : Type 0 where
  pub name : a.name ≡ b.name
  pub full : a.full_binding ≡ b.full_binding
  pub suffix : a.suffix ≡ b.suffix
  pub table : a.table ≡ b.table
  pub properties : properties_of a ≡ properties_of b

same_facts : (bytes : List ℕ) (p : Property) (a b : PropertyFacts) → TellsProperty bytes p a → TellsProperty bytes p b → a ≡ b
same_facts bytes p a b ha hb =
    let logic = same_some (sym ha.logic ∙ hb.logic) in
    let line = ha.logic_line ∙ sym hb.logic_line in
    let first = ha.first ∙ sym hb.first in
    let last = ha.last ∙ sym hb.last in
    let handlers = ha.handlers ∙ sym hb.handlers in
    λ i. record { logic = logic i; logic_line = line i; first = first i; last = last i; handlers = handlers i }

same_properties : (bytes : List ℕ) (ps : List Property) (xs ys : List PropertyFacts) → TellsProperties bytes ps xs → TellsProperties bytes ps ys → xs ≡ ys
same_properties bytes [] [] [] ha hb = refl
same_properties bytes [] [] (b ∷ ys) ha hb = absurd hb
same_properties bytes [] (a ∷ xs) ys ha hb = absurd ha
same_properties bytes (p ∷ ps) [] ys ha hb = absurd ha
same_properties bytes (p ∷ ps) (a ∷ xs) [] ha hb = absurd hb
same_properties bytes (p ∷ ps) (a ∷ xs) (b ∷ ys) ha hb =
    let here = same_facts bytes p a b ha.0 hb.0 in
    let rest = same_properties bytes ps xs ys ha.1 hb.1 in
    λ i. here i ∷ rest i

same_tree_of : (bytes : List ℕ) (frame : Frame) (a b : SpecTree) → IsTreeOf bytes frame a → IsTreeOf bytes frame b → IsSameTree a b
same_tree_of bytes frame a b ha hb = record {
  name = ha.name ∙ sym hb.name;
  full = ha.full_binding ∙ sym hb.full_binding;
  suffix = ha.suffix ∙ sym hb.suffix;
  table = same_ok (sym ha.table ∙ hb.table);
  properties = same_properties bytes frame.properties (properties_of a) (properties_of b) ha.properties hb.properties;
}

-- bytes have one list of tokens and one tree
pub record IsSameTold (ts us : List Token) (a b : SpecTree) : Type 0 where
  pub tokens : ts ≡ us
  pub tree : IsSameTree a b

pub one_told : (bytes : List ℕ) (ts us : List Token) (a b : SpecTree) → IsTreeOfBytes bytes ts a → IsTreeOfBytes bytes us b → IsSameTold ts us a b
one_told bytes ts us a b ha hb =
    let tokens = one_list bytes ts us ha.cut hb.cut in
    let frame = one_frame bytes ts us ha.told.0 hb.told.0 tokens ha.told.1 hb.told.1 in
    record { tokens = tokens; tree = same_tree_of bytes hb.told.0 a b (subst (λ f. IsTreeOf bytes f a) frame ha.told.3) hb.told.3 }

-- what one tree of the same tokens says, the other says
module _ (bytes : List ℕ) (ts us : List Token) (a b : SpecTree) (same : IsSameTold ts us a b) where
  pub read_moved : (fs : List Formula) → AreFormulas bytes ts a.table (is_some a.suffix) (properties_of a) fs → AreFormulas bytes us b.table (is_some b.suffix) (properties_of b) fs
  read_moved fs h =
      subst (λ (ps : List PropertyFacts). AreFormulas bytes us b.table (is_some b.suffix) ps fs) same.tree.properties
      (subst (λ (line : Option ℕ). AreFormulas bytes us b.table (is_some line) (properties_of a) fs) same.tree.suffix
      (subst (λ (t : EventDefinitions). AreFormulas bytes us t (is_some a.suffix) (properties_of a) fs) same.tree.table
      (subst (λ (v : List Token). AreFormulas bytes v a.table (is_some a.suffix) (properties_of a) fs) same.tokens h)))

  pub handled_moved : (fs : List Formula) → handlers_fault bytes a.full_binding ts (properties_of a) fs ≡ handlers_fault bytes b.full_binding us (properties_of b) fs
  handled_moved fs = λ i. handlers_fault bytes (same.tree.full i) (same.tokens i) (same.tree.properties i) fs

  pub suffix_moved : suffix_fault bytes a.suffix (properties_of a) ≡ suffix_fault bytes b.suffix (properties_of b)
  suffix_moved = λ i. suffix_fault bytes (same.tree.suffix i) (same.tree.properties i)

  pub letters_moved : length a.table.events ≡ length b.table.events
  letters_moved = ap (λ (t : EventDefinitions). length t.events) same.tree.table

  rules_moved : (fs : List Formula) → rules_of a.table a.full_binding (properties_said bytes ts (properties_of a) fs) ≡ rules_of b.table b.full_binding (properties_said bytes us (properties_of b) fs)
  rules_moved fs = λ i. rules_of (same.tree.table i) (same.tree.full i) (properties_said bytes (same.tokens i) (same.tree.properties i) fs)

  pub compiled_moved : (r : RuleDefinition) → IsCompiledFrom bytes ts a r → IsCompiledFrom bytes us b r
  compiled_moved r h = record {
    formulas = h.formulas;
    read = read_moved h.formulas h.read;
    handled = sym (handled_moved h.formulas) ∙ h.handled;
    suffixed = sym suffix_moved ∙ h.suffixed;
    settled = λ k f fault at is. h.settled k f fault at (subst (λ n. IsTableFault f n fault) (sym letters_moved) is);
    rules = h.rules ∙ rules_moved h.formulas;
  }

pub tree_has_no_fault : (bytes : List ℕ) (tokens : List Token) (tree : SpecTree) (fault : SpecFault) → IsTreeOfTokens bytes tokens tree → IsFaultOfTokens bytes tokens (Bad fault) → ⊥
tree_has_no_fault bytes tokens tree fault h k = never_refused (Spells bytes tokens) (frame_fault bytes) (λ f g. one_frame bytes tokens tokens f g refl) h.0 h.1 h.2 fault k

pub cut_has_no_fault : (bytes : List ℕ) (tokens : List Token) (fault : SpecFault) → AreTokensOf bytes tokens → IsFaultOf bytes (Bad fault) → ⊥
cut_has_no_fault bytes tokens NotUtf8 cut h = h cut.utf8
cut_has_no_fault bytes tokens (OpenText line) cut h = never_ok (sym cut.cut ∙ h.cut)
cut_has_no_fault bytes tokens _ cut h = h

-- ---- specifications

-- no blocks say two things
blocks-same : (bytes : List ℕ) (tokens : List Token) (ps : List (List ℕ)) (hs : List HandlerText) (a b : List (List (List Term))) → BlocksSay bytes tokens ps hs a → BlocksSay bytes tokens ps hs b → a ≡ b
blocks-same bytes tokens ps [] a b h k = h ∙ sym k
blocks-same bytes tokens ps (x ∷ hs) a b (text, more, e, says, h) (other, others, f, tells, k) =
    let same = says-same bytes ps (slice_range tokens x.first x.last) text other says tells in
    let rest = blocks-same bytes tokens ps hs more others h k in
    e ∙ (λ i. same i ∷ rest i) ∙ sym f

-- no bytes say two specifications
pub one_specification : (bytes : List ℕ) (s t : Specification) → IsSpecification bytes s → IsSpecification bytes t → s ≡ t
one_specification bytes s t h k =
    let told = one_told bytes h.tokens k.tokens h.tree k.tree h.told k.told in
    let rules = one_rules bytes k.tokens k.tree s.rules (compiled_moved bytes h.tokens k.tokens h.tree k.tree told s.rules h.rules) t.rules k.rules in
    let name = h.name ∙ ap (name_of bytes) told.tree.name ∙ sym k.name in
    let table = h.table ∙ told.tree.table ∙ sym k.table in
    let tree = told.tree in
    let hs = all_handlers (properties_of k.tree) in
    let moved : BlocksSay bytes k.tokens k.tree.table.parameters hs s.texts = rw (sym told.tokens, sym tree.table, sym tree.properties) h.texts in
    let texts = blocks-same bytes k.tokens k.tree.table.parameters hs s.texts t.texts moved k.texts in
    let logics = h.logics ∙ ap logics_of tree.properties ∙ sym k.logics in
    let line = h.grammar_line ∙ ap grammar_line_of tree.properties ∙ sym k.grammar_line in
    let full = h.full_binding ∙ tree.full ∙ sym k.full_binding in
    let suffix = h.suffix ∙ ap is_some tree.suffix ∙ sym k.suffix in
    λ i. record { name = name i; table = table i; logics = logics i; grammar_line = line i; full_binding = full i; suffix = suffix i; rules = rules i; texts = texts i }

-- no bytes say a specification and a fault
pub specification_has_no_fault : (bytes : List ℕ) (s : Specification) (fault : SpecFault) → IsSpecification bytes s → IsSpecFault bytes fault → ⊥
specification_has_no_fault bytes s _ h (too_long more) = omega (arith, more, h.told.small)
specification_has_no_fault bytes s _ h (no_tokens fault small none) = cut_has_no_fault bytes h.tokens fault h.told.cut none
specification_has_no_fault bytes s _ h (in_frame tokens fault small cut faulty) =
    tree_has_no_fault bytes tokens h.tree fault (subst (λ ts. IsTreeOfTokens bytes ts h.tree) (one_list bytes h.tokens tokens h.told.cut cut) h.told.told) faulty
specification_has_no_fault bytes s _ h (in_tree tokens tree fault told faulty) =
    let same = one_told bytes h.tokens tokens h.tree tree h.told told in
    rules_or_fault bytes tokens tree s.rules (compiled_moved bytes h.tokens tokens h.tree tree same s.rules h.rules) fault faulty
