-- The steps over the handlers, one handler more.
use Rattle.std.proofs.Common.{◌≡◌, ℕ, ◌+◌, ◌<◌, Bool, true, false, Option, Some, None, List, [], ◌∷◌, ◌++◌, map, take, drop, get_or, length, refl, sym, ◌∙◌, ap, subst, add-one, drop-cons}
use Rattle.std.specs.Prelude.{is_some, slice_get, if◌then◌else◌}
use Rattle.std.specs.List.{list_any}
use Rattle.std.specs.Str.{bytes_eq}
use Rattle.std.proofs.lemmas.Bool.{false≢true}
use Rattle.std.proofs.lemmas.List.{map_more, map-append}
use Rattle.std.proofs.lemmas.List.Elements.{All-nil, All-cons, All-get_or}
use Rattle.std.proofs.lemmas.Option.{slice_get_within, get_or_from_slice_get}
use Rattle.jm_model.specs.declared.fault.SpecFault.{SpecFault}
use Rattle.jm_model.specs.declared.fault.SpecFault.TheVariants.{DuplicateHandler, UnknownCategory}
use Rattle.jm_reading.specs.Tokens.{name_of}
use Rattle.jm_events.specs.Names.{number_of, with_name}
use Rattle.jm_events.proofs.NameLemmas.{list_any-number_of, list_any-no_number, with_name-new}
use Rattle.jm_spec.specs.declared.property.HandlerText.{HandlerText}
use Rattle.jm_spec.specs.declared.tree.PropertyTree.{PropertyTree}
use Rattle.jm_spec.specs.Trees.{PropertyFacts, facts_of}
use Rattle.jm_model.specs.declared.fault.SpecError.{SpecError}
use Rattle.jm_model.specs.declared.fault.SpecError.TheVariants.{Bad, NoMemory}
use Rattle.jm_reading.specs.Faults.{or_else, Refuses}
use Rattle.jm_machine.specs.Handlers.{handler_names, AreCategories, handlers_in, first_fault, duplicate_fault, category_fault}
use Rattle.jm_machine.proofs.OptionLemmas.{none_of_not_some}

module _ (bytes : List ℕ) (names : List (List ℕ)) (hs : List HandlerText) (i : ℕ) (d : HandlerText) (name : List ℕ) (found : Option ℕ) (less : i < length hs) (named : name ≡ name_of bytes (get_or hs i d).category) (lookup : found ≡ number_of names name) where
  -- the test of the handler's name
  test : list_any (bytes_eq (name_of bytes (get_or hs i d).category)) names ≡ is_some found
  test = ap (λ n. list_any (bytes_eq n) names) (sym named) ∙ list_any-number_of names name ∙ ap is_some (sym lookup)

  pub unknown_here : is_some found ≡ false → category_fault bytes names (drop i hs) ≡ Some (UnknownCategory (get_or hs i d).category.line)
  unknown_here none =
      let no : list_any (bytes_eq (name_of bytes (get_or hs i d).category)) names ≡ false = test ∙ none in
      rw (drop-cons hs i d less, no) refl

  pub known_here : is_some found ≡ true → category_fault bytes names (drop (i + 1) hs) ≡ category_fault bytes names (drop i hs)
  known_here some =
      let yes : list_any (bytes_eq (name_of bytes (get_or hs i d).category)) names ≡ true = test ∙ some in
      rw (add-one, drop-cons hs i d less, yes) refl

  pub duplicate_here : is_some found ≡ true → duplicate_fault bytes names (drop i hs) ≡ Some (DuplicateHandler (get_or hs i d).category.line)
  duplicate_here some =
      let yes : list_any (bytes_eq (name_of bytes (get_or hs i d).category)) names ≡ true = test ∙ some in
      rw (drop-cons hs i d less, yes) refl

  pub new_name : is_some found ≡ false → with_name names name ≡ names ++ name ∷ []
  new_name none = with_name-new names name (sym lookup ∙ none_of_not_some found none)

  pub new_here : is_some found ≡ false → duplicate_fault bytes (with_name names name) (drop (i + 1) hs) ≡ duplicate_fault bytes names (drop i hs)
  new_here none =
      let no : list_any (bytes_eq (name_of bytes (get_or hs i d).category)) names ≡ false = test ∙ none in
      rw (new_name none, named, add-one, drop-cons hs i d less, no) refl

  pub names_more : is_some found ≡ false → names ≡ handler_names bytes (take i hs) → with_name names name ≡ handler_names bytes (take (i + 1) hs)
  names_more none filled =
      new_name none ∙ ap (λ ns. ns ++ name ∷ []) filled ∙ ap (λ n. handler_names bytes (take i hs) ++ n ∷ []) named ∙ sym (map_more (λ (h : HandlerText). name_of bytes h.category) hs i d less)

-- one group more
pub groups_more : (names handlers : List (List ℕ)) (i : ℕ) (groups : List ℕ) (name : List ℕ) (group : ℕ) → map {A = ℕ} {B = Option ℕ} Some groups ≡ map (number_of names) (take i handlers) → slice_get handlers i ≡ Some name → Some group ≡ number_of names name
    → map {A = ℕ} {B = Option ℕ} Some (groups ++ group ∷ []) ≡ map (number_of names) (take (i + 1) handlers)
groups_more names handlers i groups name group filled at found =
    map-append Some groups (group ∷ []) ∙ ap (λ os. os ++ Some group ∷ []) filled
    ∙ ap (λ o. map (number_of names) (take i handlers) ++ o ∷ []) (found ∙ ap (number_of names) (sym (get_or_from_slice_get handlers i name name at)))
    ∙ sym (map_more (number_of names) handlers i name (slice_get_within handlers i name at))

no_fault_left : (known : Bool) (later : Option SpecFault) (fault : SpecFault) → (if known then later else Some fault) ≡ None → (known ≡ true) × (later ≡ None)
no_fault_left true later fault none = (refl, none)
no_fault_left false later fault none = absurd cc

-- where no handler is for an unknown category, the names of all are categories
pub all_known : (bytes : List ℕ) (categories : List (List ℕ)) (hs : List HandlerText) → category_fault bytes categories hs ≡ None → AreCategories categories (handler_names bytes hs)
all_known bytes categories [] none = All-nil (λ name. list_any (bytes_eq name) categories ≡ true)
all_known bytes categories (h ∷ hs) none =
    let name = name_of bytes h.category in
    let left = no_fault_left (list_any (bytes_eq name) categories) (category_fault bytes categories hs) (UnknownCategory h.category.line) none in
    All-cons (λ n. list_any (bytes_eq n) categories ≡ true) name (handler_names bytes hs) left.0 (all_known bytes categories hs left.1)

-- so each has a number among them
pub has_number : (categories names : List (List ℕ)) (k : ℕ) (name : List ℕ) → AreCategories categories names → slice_get names k ≡ Some name → number_of categories name ≡ None → ⊥
has_number categories names k name known at none =
    let is : list_any (bytes_eq name) categories ≡ true =
    subst (λ n. list_any (bytes_eq n) categories ≡ true) (get_or_from_slice_get names k name name at)
    (All-get_or (λ n. list_any (bytes_eq n) categories ≡ true) names k name (slice_get_within names k name at) known) in
    false≢true (sym (list_any-no_number categories name none) ∙ is)

-- ---- properties

-- the properties from one on
pub facts_here : (ps : List PropertyTree) (i : ℕ) (d : PropertyTree) → i < length ps → map facts_of (drop i ps) ≡ facts_of (get_or ps i d) ∷ map facts_of (drop (i + 1) ps)
facts_here ps i d less = rw (add-one, drop-cons ps i d less) refl

pub first_later : (f : PropertyFacts → Option SpecFault) (ps : List PropertyTree) (i : ℕ) (d : PropertyTree) → i < length ps → f (facts_of (get_or ps i d)) ≡ None → first_fault f (map facts_of (drop (i + 1) ps)) ≡ first_fault f (map facts_of (drop i ps))
first_later f ps i d less none =
    sym (ap (first_fault f) (facts_here ps i d less) ∙ ap (λ (o : Option SpecFault). or_else o (first_fault f (map facts_of (drop (i + 1) ps)))) none)

pub first_here : (f : PropertyFacts → Option SpecFault) (ps : List PropertyTree) (i : ℕ) (d : PropertyTree) (e : SpecError) → i < length ps → Refuses (f (facts_of (get_or ps i d))) e → Refuses (first_fault f (map facts_of (drop i ps))) e
first_here f ps i d NoMemory less h = tt
first_here f ps i d (Bad fault) less h =
    ap (first_fault f) (facts_here ps i d less) ∙ ap (λ (o : Option SpecFault). or_else o (first_fault f (map facts_of (drop (i + 1) ps)))) h

pub handlers_here : (ps : List PropertyTree) (i : ℕ) (d : PropertyTree) → i < length ps → handlers_in (map facts_of (drop i ps)) ≡ length (get_or ps i d).handlers.items + handlers_in (map facts_of (drop (i + 1) ps))
handlers_here ps i d less = ap handlers_in (facts_here ps i d less)
