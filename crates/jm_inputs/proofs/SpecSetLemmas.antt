-- A spec set that grows.
use Rattle.std.proofs.Common.{◌≡◌, ℕ, ◌+◌, ◌<◌, ◌≤◌, Bool, List, [], ◌∷◌, ◌++◌, length, get_or, take, drop, Option, Some, None, Result, Ok, Err, refl, sym, ap, subst, ◌∙◌, arith}
use Rattle.std.specs.Prelude.{map, All, IsSome, OnOk}
use Rattle.std.proofs.lemmas.List.{map-append, length-map, length_push, length-take-le, take_all}
use Rattle.std.proofs.lemmas.List.Elements.{All-push}
use Rattle.jm_events.specs.Names.{number_of}
use Rattle.jm_model.specs.declared.fault.SpecFault.{SpecFault}
use Rattle.jm_model.specs.declared.fault.SpecFault.TheVariants.{DuplicateSpec}
use Rattle.jm_model.specs.declared.fault.SpecError.{SpecError}
use Rattle.jm_model.specs.declared.fault.SpecError.TheVariants.{Bad, NoMemory}
use Rattle.jm_script.specs.Catalogs.{CatalogEntry, spec_names}
use Rattle.jm_inputs.specs.declared.specification.CompiledSpec.{CompiledSpec}
use Rattle.jm_inputs.specs.declared.specification.NamedSpec.{NamedSpec}
use Rattle.jm_inputs.specs.declared.spec_set.SpecSet.{SpecSet}
use Rattle.jm_inputs.specs.declared.status.Status.{Status}
use Rattle.jm_inputs.specs.Sources.{Source}
use Rattle.jm_inputs.specs.Scripts.{catalog_of}
use Rattle.jm_inputs.specs.Inputs.{grammar_fault, IsRefusal, refused, SaySpecifications}
use Rattle.jm_inputs.specs.Causes.{IsNoSpec, StopsSpecs}
use Rattle.jm_inputs.specs.Reading.{listing, listed, listing_of, listed_in, specification_of, FitsEntry, IsRead, specs_in, IsCatalogued, HasNext, HasNextFrom, IsSpecSetOf}
use Rattle.jm_inputs.proofs.OneReadingLemmas.{same_err}
use Rattle.jm_inputs.proofs.InputLemmas.{split_sources, more_sources, length-sources, not_refused_of, refused_twice, length-said, say_more}

-- ---- entries and what is kept under them

pub length-listed : (es : List CatalogEntry) (ls : List CompiledSpec) → length es ≡ length ls → length (listed es ls) ≡ length ls
length-listed [] [] same = refl
length-listed [] (l ∷ ls) same = absurd (omega (arith, same))
length-listed (e ∷ es) [] same = absurd (omega (arith, same))
length-listed (e ∷ es) (l ∷ ls) same = omega (arith, length-listed es ls (omega (arith, same)))

listed-push : (es : List CatalogEntry) (ls : List CompiledSpec) (e : CatalogEntry) (l : CompiledSpec) → length es ≡ length ls → listed (es ++ e ∷ []) (ls ++ l ∷ []) ≡ listed es ls ++ listing e l ∷ []
listed-push [] [] e l same = refl
listed-push [] (m ∷ ls) e l same = absurd (omega (arith, same))
listed-push (d ∷ es) [] e l same = absurd (omega (arith, same))
listed-push (d ∷ es) (m ∷ ls) e l same = ap (λ v. listing d m ∷ v) (listed-push es ls e l (omega (arith, same)))

catalog_is : (es : List CatalogEntry) (ls : List CompiledSpec) → length es ≡ length ls → catalog_of (map specification_of (listed es ls)) ≡ es
catalog_is [] [] same = refl
catalog_is [] (l ∷ ls) same = absurd (omega (arith, same))
catalog_is (e ∷ es) [] same = absurd (omega (arith, same))
catalog_is (e ∷ es) (l ∷ ls) same = ap (λ v. e ∷ v) (catalog_is es ls (omega (arith, same)))

-- the catalog of a spec set is that of its specifications
pub its_catalog : (spec_set : SpecSet) → IsCatalogued spec_set → catalog_of (specs_in spec_set) ≡ spec_set.catalog
its_catalog spec_set h = catalog_is spec_set.catalog spec_set.specs.items h.many

pub length-specs_in : (spec_set : SpecSet) → IsCatalogued spec_set → length (specs_in spec_set) ≡ length spec_set.specs.items
length-specs_in spec_set h = length-map (listed_in spec_set) specification_of ∙ length-listed spec_set.catalog spec_set.specs.items h.many

-- the spec set with one specification more
pub listed_more : (old : SpecSet) (e : CatalogEntry) (l : CompiledSpec) → IsCatalogued old → (items : List CompiledSpec) (entries : List CatalogEntry) → items ≡ old.specs.items ++ l ∷ [] → entries ≡ old.catalog ++ e ∷ [] → listed entries items ≡ listed_in old ++ listing e l ∷ []
listed_more old e l before items entries specs catalog = (λ i. listed (catalog i) (specs i)) ∙ listed-push old.catalog old.specs.items e l before.many

pub added : (old new : SpecSet) (e : CatalogEntry) (l : CompiledSpec) → IsCatalogued old → new.specs.items ≡ old.specs.items ++ l ∷ [] → new.catalog ≡ old.catalog ++ e ∷ [] → FitsEntry (listing e l) → IsCatalogued new
added old new e l before specs catalog whole = record {
  many = omega (arith, ap (λ v. length v) catalog, ap (λ v. length v) specs, length_push old.catalog e, length_push old.specs.items l, before.many);
  kept = subst (All FitsEntry) (sym (listed_more old e l before new.specs.items new.catalog specs catalog)) (All-push FitsEntry (listed_in old) (listing e l) before.kept whole);
}

module _ (families : Bool) (bytes : List ℕ) (old : SpecSet) (r : NamedSpec) (read : IsRead bytes r) where
  -- what was added is admitted
  pub next_of : (new : SpecSet) → grammar_fault families r.compiled.header.grammar_line ≡ None → number_of (spec_names (catalog_of (specs_in old))) r.name.now ≡ None
      → listed_in new ≡ listed_in old ++ listing_of r ∷ [] → IsCatalogued new → HasNext families bytes old new
  next_of new known unique more catalogued = record {
    specification = specification_of (listing_of r);
    admitted = record { said = read.said; sound = not_refused_of families (specs_in old) (specification_of (listing_of r)) known unique };
    specs = ap (λ v. map specification_of v) more ∙ map-append specification_of (listed_in old) (listing_of r ∷ []);
    catalogued = catalogued;
  }

  pub twice_of : (fault : SpecFault) → grammar_fault families r.compiled.header.grammar_line ≡ None → fault ≡ DuplicateSpec → IsSome (number_of (spec_names (catalog_of (specs_in old))) r.name.now) → IsRefusal families (specs_in old) bytes fault
  twice_of fault known is twice = refused (specification_of (listing_of r)) read.said (refused_twice families (specs_in old) (specification_of (listing_of r)) known twice ∙ ap (λ f. Some f) (sym is))

  pub grammar_of : (fault : SpecFault) → grammar_fault families r.compiled.header.grammar_line ≡ Some fault → IsRefusal families (specs_in old) bytes fault
  grammar_of fault grammar = refused (specification_of (listing_of r)) read.said (rw grammar refl)

nothing_listed : (es : List CatalogEntry) → listed es [] ≡ []
nothing_listed [] = refl
nothing_listed (e ∷ es) = refl

pub empty_spec_set : (contents : List ℕ → Option (List ℕ)) (families : Bool) (spec_set : SpecSet) → spec_set.specs.items ≡ [] → IsCatalogued spec_set → IsSpecSetOf contents families [] spec_set
empty_spec_set contents families spec_set none catalogued = record {
  said = ap (λ v. map specification_of v) (ap (λ v. listed spec_set.catalog v) none ∙ nothing_listed spec_set.catalog);
  catalogued = catalogued;
}

-- ---- the loop over the names

module _ {S : Type 0} (make : List ℕ → Source) (g : S → List ℕ) (contents : List ℕ → Option (List ℕ)) (families : Bool) (xs : List S) (i : ℕ) (x : S) (lt : i < length xs) (here : x ≡ get_or xs i x) where
  pub spec_set_more : (old new : SpecSet) → IsSpecSetOf contents families (map make (map g (take i xs))) old → HasNextFrom contents (make (g x)) families old new → IsSpecSetOf contents families (map make (map g (take (i + 1) xs))) new
  spec_set_more old new before h = record {
    said = subst (λ v. SaySpecifications contents families [] v (specs_in new)) (sym (more_sources make g xs i x lt here))
        (subst (λ v. SaySpecifications contents families [] (map make (map g (take i xs)) ++ make (g x) ∷ []) v) (sym h.next.specs)
        (say_more contents families [] (map make (map g (take i xs))) (specs_in old) (make (g x)) h.bytes h.next.specification before.said h.given h.next.admitted));
    catalogued = h.next.catalogued;
  }

  pub spec_set_stops : (files : ℕ) (old : SpecSet) (status : Status) → IsSpecSetOf contents families (map make (map g (take i xs))) old → IsNoSpec contents families (specs_in old) files (length old.specs.items) (make (g x)) status → StopsSpecs contents files families (map make (map g xs)) status
  spec_set_stops files old status before h = record {
    number = length old.specs.items;
    source = make (g x);
    before = specs_in old;
    reached = record {
      first = map make (map g (take i xs));
      rest = map make (map g (drop (i + 1) xs));
      split = split_sources make g xs i x lt here;
      numbered = sym (length-specs_in old before.catalogued) ∙ length-said contents families [] (map make (map g (take i xs))) (specs_in old) before.said;
      read = before.said;
    };
    stopped = h;
  }

-- so many specifications as names
pub spec_set_length : {S : Type 0} (make : List ℕ → Source) (g : S → List ℕ) (contents : List ℕ → Option (List ℕ)) (families : Bool) (xs : List S) (spec_set : SpecSet) → IsSpecSetOf contents families (map make (map g xs)) spec_set → length spec_set.specs.items ≡ length xs
spec_set_length {S} make g contents families xs spec_set h = sym (length-specs_in spec_set h.catalogued) ∙ length-said contents families [] (map make (map g xs)) (specs_in spec_set) h.said ∙ length-sources make g xs

-- ---- what the catalog answers

never_ok : {V E : Type 0} {v : V} {e : E} → ◌≡◌ {A = Result V E} (Ok v) (Err e) → ⊥
never_ok e = cc

same_fault : {x y : SpecFault} → Bad x ≡ Bad y → x ≡ y
same_fault e = cc

never_bad : {x : SpecFault} → Bad x ≡ NoMemory → ⊥
never_bad e = cc

-- a name that was accepted is new
pub new_if_ok : {V : Type 0} (o : Option ℕ) (v : V) → (IsSome o → ◌≡◌ {A = Result V SpecError} (Ok v) (Err (Bad DuplicateSpec))) → o ≡ None
new_if_ok None v h = refl
new_if_ok (Some k) v h = absurd (never_ok (h refl))

-- one that was refused is there
pub twice_if_err : {V : Type 0} (o : Option ℕ) (e : SpecError) (fault : SpecFault) → e ≡ Bad fault → (IsSome o → ◌≡◌ {A = Result V SpecError} (Err e) (Err (Bad DuplicateSpec))) → (o ≡ None → e ≡ NoMemory) → (fault ≡ DuplicateSpec) × IsSome o
twice_if_err None e fault is there none = absurd (never_bad (sym is ∙ none refl))
twice_if_err (Some k) e fault is there none = (same_fault (sym is ∙ same_err (there refl)), refl)

-- what holds where a call answers, by all that it ensures then
pub all_ok : {V E : Type 0} (A B C D : Type 0) (r : Result V E) → (A → B → C → D) → OnOk r A → OnOk r B → OnOk r C → OnOk r D
all_ok A B C D (Ok v) turn a b c = turn a b c
all_ok A B C D (Err e) turn a b c = tt

-- ---- a turn of the loop, where the folder holds later what it held before

module _ {S : Type 0} (make : List ℕ → Source) (g : S → List ℕ) (contents later : List ℕ → Option (List ℕ)) (same : (name : List ℕ) → later name ≡ contents name) (families : Bool) (xs : List S) (i : ℕ) (x : S) (lt : i < length xs) (here : x ≡ get_or xs i x) (name : List ℕ) (is : name ≡ g x) where
  held : later ≡ contents
  held = λ j n. same n j

  pub spec_set_turn : (old new : SpecSet) → IsSpecSetOf contents families (map make (map g (take i xs))) old → HasNextFrom later (make name) families old new → IsSpecSetOf contents families (map make (map g (take (i + 1) xs))) new
  spec_set_turn old new before h =
      spec_set_more make g contents families xs i x lt here old new before
      (subst (λ (v : List ℕ → Option (List ℕ)). HasNextFrom v (make (g x)) families old new) held (subst (λ n. HasNextFrom later (make n) families old new) is h))

  pub spec_set_ends : (files : ℕ) (old : SpecSet) (status : Status) → IsSpecSetOf contents families (map make (map g (take i xs))) old → IsNoSpec later families (specs_in old) files (length old.specs.items) (make name) status → StopsSpecs contents files families (map make (map g xs)) status
  spec_set_ends files old status before h =
      spec_set_stops make g contents families xs i x lt here files old status before
      (subst (λ (v : List ℕ → Option (List ℕ)). IsNoSpec v families (specs_in old) files (length old.specs.items) (make (g x)) status) held (subst (λ n. IsNoSpec later families (specs_in old) files (length old.specs.items) (make n) status) is h))

-- as many specifications as turns
pub spec_set_count : {S : Type 0} (make : List ℕ → Source) (g : S → List ℕ) (contents : List ℕ → Option (List ℕ)) (families : Bool) (xs : List S) (i : ℕ) (spec_set : SpecSet) → i ≤ length xs → IsSpecSetOf contents families (map make (map g (take i xs))) spec_set → length spec_set.specs.items ≡ i
spec_set_count {S} make g contents families xs i spec_set le h = spec_set_length make g contents families (take i xs) spec_set h ∙ length-take-le i xs le

pub whole_spec_set : {S : Type 0} (make : List ℕ → Source) (g : S → List ℕ) (contents : List ℕ → Option (List ℕ)) (families : Bool) (xs : List S) (i : ℕ) (spec_set : SpecSet) → length xs ≤ i → IsSpecSetOf contents families (map make (map g (take i xs))) spec_set → IsSpecSetOf contents families (map make (map g xs)) spec_set
whole_spec_set {S} make g contents families xs i spec_set all h = subst (λ v. IsSpecSetOf contents families (map make (map g v)) spec_set) (take_all i xs all) h
