-- The texts of several specifications, one after another.
use Rattle.std.proofs.Common.{◌≡◌, ℕ, zero, suc, ◌+◌, ◌<◌, List, [], ◌∷◌, ◌++◌, length, get_or, take, refl, sym, ap, subst, ◌∙◌, arith, append_assoc, append-nil}
use Rattle.std.specs.Prelude.{All, Contains, map, slice_get, option_map, Some, IfSome}
use Rattle.std.specs.List.{flat_map}
use Rattle.std.proofs.lemmas.List.{take_more, map-append, length-map, length_push, length-take-le}
use Rattle.std.proofs.lemmas.List.Elements.{All-contains, Contains-get_or}
use Rattle.std.proofs.lemmas.Grind.{flat_map-append}
use Rattle.jm_model.specs.declared.step.Entry.{Entry}
use Rattle.jm_print.specs.Lexicons.{Lexicon}
use Rattle.jm_print.specs.Texts.{history_text, IsPrintable}
use Rattle.jm_print.specs.Told.{texts_of}
use Rattle.jm_print.specs.Summaries.{summary_text}
use Rattle.jm_events.specs.Events.{EventDefinitions}
use Rattle.jm_script.specs.Catalogs.{CatalogEntry}
use Rattle.jm_inputs.specs.declared.specification.SpecHeader.{SpecHeader}
use Rattle.jm_inputs.specs.declared.specification.CompiledSpec.{CompiledSpec}
use Rattle.jm_inputs.specs.Specifications.{Specification}
use Rattle.jm_machine.specs.RuleSets.{CompiledRules}
use Rattle.jm_inputs.specs.Reading.{Listed, named_entry, listing, listed, titled, specification_of}
use Rattle.jm_top.specs.Texts.{declared_text, IsTextOfFamily, IsTextOfFamilies}
use Rattle.jm_inputs.proofs.OneReadingLemmas.{same_some}
use Rattle.jm_top.specs.declared.histories.Ended.{Ended}
use Rattle.jm_top.specs.Printing.{titled_by, ArePrintable, entry_summaries}

-- what holds of each holds of the one of a place
pub All-place : {X : Type 0} (P : X → Type 0) (xs : List X) (i : ℕ) (x : X) → All P xs → i < length xs → x ≡ get_or xs i x → P x
All-place {X} P xs i x all lt here = All-contains P xs x all (subst (λ v. Contains xs v) (sym here) (Contains-get_or xs i x lt))

one_more : {X : Type 0} (xs : List X) (i : ℕ) (x : X) → i < length xs → x ≡ get_or xs i x → take (i + 1) xs ≡ take i xs ++ x ∷ []
one_more {X} xs i x lt here = take_more xs i x lt ∙ ap (λ v. take i xs ++ v ∷ []) (sym here)

-- the entry of a place, whose parts were looked up
pub entry_there : (es : List CatalogEntry) (k : ℕ) (name : List ℕ) (table : EventDefinitions) → option_map (λ e. e.name) (slice_get es k) ≡ Some name → option_map (λ e. e.table) (slice_get es k) ≡ Some table
    → named_entry name table ≡ get_or es k (named_entry name table)
entry_there [] k name table named there = absurd cc
entry_there (e ∷ es) zero name table named there = sym (λ i. named_entry (same_some named i) (same_some there i))
entry_there (e ∷ es) (suc k) name table named there = entry_there es k name table named there

pub name_there : (es : List CatalogEntry) (k : ℕ) (name : List ℕ) → option_map (λ e. e.name) (slice_get es k) ≡ Some name → (e : CatalogEntry) × (e ≡ get_or es k e) × (e.name ≡ name)
name_there [] k name named = absurd cc
name_there (e ∷ es) zero name named = (e, refl, same_some named)
name_there (e ∷ es) (suc k) name named = name_there es k name named

-- what is kept under the entry of a place
pub listed_there : (es : List CatalogEntry) (ls : List CompiledSpec) (k : ℕ) (e : CatalogEntry) (l : CompiledSpec) → length es ≡ length ls → k < length es → e ≡ get_or es k e → l ≡ get_or ls k l
    → (k < length (listed es ls)) × (listing e l ≡ get_or (listed es ls) k (listing e l))
listed_there [] ls k e l same lt here there = absurd (omega (arith, lt))
listed_there (d ∷ es) [] k e l same lt here there = absurd (omega (arith, same))
listed_there (d ∷ es) (m ∷ ls) zero e l same lt here there = (omega arith, λ i. listing (here i) (there i))
listed_there (d ∷ es) (m ∷ ls) (suc k) e l same lt here there =
    let rest = listed_there es ls k e l (omega (arith, same)) (omega (arith, lt)) here there in
    (omega (arith, rest.0), rest.1)

-- the rules of what is left of cores
abbrev pub rules_of : List Ended → List CompiledRules
rules_of ps = map (λ (p : Ended). p.rules) ps

pub length-titled_by : (es : List CatalogEntry) (ts : List SpecHeader) (ps : List Ended) → length es ≡ length ts → length ts ≡ length ps → length (titled_by es ts (rules_of ps)) ≡ length es
length-titled_by [] ts ps same many = refl
length-titled_by (e ∷ es) [] ps same many = absurd (omega (arith, same))
length-titled_by (e ∷ es) (t ∷ ts) [] same many = absurd (omega (arith, many))
length-titled_by (e ∷ es) (t ∷ ts) (p ∷ ps) same many = omega (arith, length-titled_by es ts ps (omega (arith, same)) (omega (arith, many)))

pub titled_there : (es : List CatalogEntry) (ts : List SpecHeader) (ps : List Ended) (k : ℕ) (e : CatalogEntry) (t : SpecHeader) (p : Ended) → length es ≡ length ts → length ts ≡ length ps → k < length es
    → e ≡ get_or es k e → t ≡ get_or ts k t → p ≡ get_or ps k p → (k < length (titled_by es ts (rules_of ps))) × (titled e t p.rules.definition ≡ get_or (titled_by es ts (rules_of ps)) k (titled e t p.rules.definition))
titled_there [] ts ps k e t p same many lt here there own = absurd (omega (arith, lt))
titled_there (d ∷ es) [] ps k e t p same many lt here there own = absurd (omega (arith, same))
titled_there (d ∷ es) (u ∷ ts) [] k e t p same many lt here there own = absurd (omega (arith, many))
titled_there (d ∷ es) (u ∷ ts) (q ∷ ps) zero e t p same many lt here there own = (omega arith, λ i. titled (here i) (there i) (own i).rules.definition)
titled_there (d ∷ es) (u ∷ ts) (q ∷ ps) (suc k) e t p same many lt here there own =
    let rest = titled_there es ts ps k e t p (omega (arith, same)) (omega (arith, many)) (omega (arith, lt)) here there own in
    (omega (arith, rest.0), rest.1)

pub declared_more : (xs : List Listed) (i : ℕ) (x : Listed) (text block new : List ℕ) → i < length xs → x ≡ get_or xs i x → text ≡ flat_map declared_text (map specification_of (take i xs)) → block ≡ declared_text (specification_of x) → new ≡ text ++ block
    → new ≡ flat_map declared_text (map specification_of (take (i + 1) xs))
declared_more xs i x text block new lt here before is joined =
    joined ∙ ap (λ v. v ++ block) before ∙ ap (λ v. flat_map declared_text (map specification_of (take i xs)) ++ v) (is ∙ sym (append-nil (declared_text (specification_of x))))
    ∙ sym (flat_map-append declared_text (map specification_of (take i xs)) (specification_of x ∷ []))
    ∙ ap (flat_map declared_text) (sym (map-append specification_of (take i xs) (x ∷ [])) ∙ ap (map specification_of) (sym (one_more xs i x lt here)))

families_behind : (specs : List Specification) (s : Specification) (text block : List ℕ) → IsTextOfFamilies specs text → IsTextOfFamily s block → IsTextOfFamilies (specs ++ s ∷ []) (text ++ block)
families_behind [] s text block none is = (block, [], ap (λ v. v ++ block) none ∙ sym (append-nil block), is, refl)
families_behind (x ∷ specs) s text block (first, more, e, own, rest) is =
    (first, more ++ block, ap (λ v. v ++ block) e ∙ append_assoc first more block, own, families_behind specs s more block rest is)

pub families_more : (xs : List Listed) (i : ℕ) (x : Listed) (text block new : List ℕ) → i < length xs → x ≡ get_or xs i x → IsTextOfFamilies (map specification_of (take i xs)) text → IsTextOfFamily (specification_of x) block → new ≡ text ++ block
    → IsTextOfFamilies (map specification_of (take (i + 1) xs)) new
families_more xs i x text block new lt here before is joined =
    let whole : map specification_of (take (i + 1) xs) ≡ map specification_of (take i xs) ++ specification_of x ∷ [] = ap (map specification_of) (one_more xs i x lt here) ∙ map-append specification_of (take i xs) (x ∷ []) in
    subst (λ v. IsTextOfFamilies v new) (sym whole) (subst (λ v. IsTextOfFamilies (map specification_of (take i xs) ++ specification_of x ∷ []) v) (sym joined) (families_behind (map specification_of (take i xs)) (specification_of x) text block before is))

-- a family more
pub family_more : (P : ℕ → List ℕ → Type 0) (families : List (List ℕ)) (family : List ℕ) → ((k : ℕ) → IfSome (slice_get families k) (P k)) → P (length families) family → (k : ℕ) → IfSome (slice_get (families ++ family ∷ []) k) (P k)
family_more P [] family each is zero = is
family_more P [] family each is (suc k) = tt
family_more P (x ∷ families) family each is zero = each 0
family_more P (x ∷ families) family each is (suc k) = family_more (λ j. P (suc j)) families family (λ j. each (suc j)) is k

behind : (ls : List Lexicon) (hs : List (List Entry)) (l : Lexicon) (h : List Entry) → length ls ≡ length hs → texts_of (ls ++ l ∷ []) (hs ++ h ∷ []) ≡ texts_of ls hs ++ history_text l h
behind [] [] l h same = append-nil (history_text l h)
behind [] (g ∷ hs) l h same = absurd (omega (arith, same))
behind (k ∷ ls) [] l h same = absurd (omega (arith, same))
behind (k ∷ ls) (g ∷ hs) l h same = ap (λ v. history_text k g ++ v) (behind ls hs l h (omega (arith, same))) ∙ sym (append_assoc (history_text k g) (texts_of ls hs) (history_text l h))

pub families_push : {V : Type 0} (items : V → List ℕ) (P : ℕ → List ℕ → Type 0) (vs new : List V) (v : V) (n : ℕ) → length vs ≡ n → ((k : ℕ) → IfSome (slice_get (map items vs) k) (P k)) → P n (items v) → new ≡ vs ++ v ∷ []
    → (k : ℕ) → IfSome (slice_get (map items new) k) (P k)
families_push {V} items P vs new v n many each is pushed =
    let whole : map items new ≡ map items vs ++ items v ∷ [] = ap (map items) pushed ∙ map-append items vs (v ∷ []) in
    let there : n ≡ length (map items vs) = sym many ∙ sym (length-map vs items) in
    λ k. subst (λ v. IfSome (slice_get v k) (P k)) (sym whole) (family_more P (map items vs) (items v) each (subst (λ m. P m (items v)) there is) k)

pub families_many : {V : Type 0} (vs new : List V) (v : V) (n : ℕ) → length vs ≡ n → new ≡ vs ++ v ∷ [] → length new ≡ n + 1
families_many vs new v n many pushed = omega (arith, many, ap (λ xs. length xs) pushed, length_push vs v)

-- the text of one history more
pub histories_more : {A B : Type 0} (f : A → Lexicon) (g : B → List Entry) (xs : List A) (ys : List B) (i : ℕ) (x : A) (y : B) → i < length xs → i < length ys → x ≡ get_or xs i x → y ≡ get_or ys i y
    → texts_of (map f (take (i + 1) xs)) (map g (take (i + 1) ys)) ≡ texts_of (map f (take i xs)) (map g (take i ys)) ++ history_text (f x) (g y)
histories_more {A} {B} f g xs ys i x y in_xs in_ys here there =
    let same : length (map f (take i xs)) ≡ length (map g (take i ys)) = length-map (take i xs) f ∙ length-take-le i xs (omega arith) ∙ sym (length-take-le i ys (omega arith)) ∙ sym (length-map (take i ys) g) in
    let left : map f (take (i + 1) xs) ≡ map f (take i xs) ++ f x ∷ [] = ap (map f) (one_more xs i x in_xs here) ∙ map-append f (take i xs) (x ∷ []) in
    let right : map g (take (i + 1) ys) ≡ map g (take i ys) ++ g y ∷ [] = ap (map g) (one_more ys i y in_ys there) ∙ map-append g (take i ys) (y ∷ []) in
    (λ j. texts_of (left j) (right j)) ∙ behind (map f (take i xs)) (map g (take i ys)) (f x) (g y) same

summaries_behind : (ts : List CatalogEntry) (hs : List (List Entry)) (t : CatalogEntry) (h : List Entry) → length ts ≡ length hs → entry_summaries (ts ++ t ∷ []) (hs ++ h ∷ []) ≡ entry_summaries ts hs ++ summary_text t.name h
summaries_behind [] [] t h same = append-nil (summary_text t.name h)
summaries_behind [] (g ∷ hs) t h same = absurd (omega (arith, same))
summaries_behind (k ∷ ts) [] t h same = absurd (omega (arith, same))
summaries_behind (k ∷ ts) (g ∷ hs) t h same =
    ap (λ v. summary_text k.name g ++ v) (summaries_behind ts hs t h (omega (arith, same))) ∙ sym (append_assoc (summary_text k.name g) (entry_summaries ts hs) (summary_text t.name h))

-- the summary of one history more
pub summaries_more : {B : Type 0} (g : B → List Entry) (xs : List CatalogEntry) (ys : List B) (i : ℕ) (x : CatalogEntry) (y : B) → i < length xs → i < length ys → x ≡ get_or xs i x → y ≡ get_or ys i y
    → entry_summaries (take (i + 1) xs) (map g (take (i + 1) ys)) ≡ entry_summaries (take i xs) (map g (take i ys)) ++ summary_text x.name (g y)
summaries_more {B} g xs ys i x y in_xs in_ys here there =
    let same : length (take i xs) ≡ length (map g (take i ys)) = length-take-le i xs (omega arith) ∙ sym (length-take-le i ys (omega arith)) ∙ sym (length-map (take i ys) g) in
    let left : take (i + 1) xs ≡ take i xs ++ x ∷ [] = one_more xs i x in_xs here in
    let right : map g (take (i + 1) ys) ≡ map g (take i ys) ++ g y ∷ [] = ap (map g) (one_more ys i y in_ys there) ∙ map-append g (take i ys) (y ∷ []) in
    (λ j. entry_summaries (left j) (right j)) ∙ summaries_behind (take i xs) (map g (take i ys)) x (g y) same

-- the history of a place can be printed
pub printable_place : {A B : Type 0} (f : A → Lexicon) (g : B → List Entry) (xs : List A) (ys : List B) (i : ℕ) (x : A) (y : B) → ArePrintable (map f xs) (map g ys) → i < length xs → i < length ys → x ≡ get_or xs i x → y ≡ get_or ys i y → All (IsPrintable (f x)) (g y)
printable_place f g [] ys i x y all in_xs in_ys here there = absurd (omega (arith, in_xs))
printable_place f g (a ∷ xs) [] i x y all in_xs in_ys here there = absurd (omega (arith, in_ys))
printable_place f g (a ∷ xs) (b ∷ ys) zero x y all in_xs in_ys here there = subst (λ v. All (IsPrintable (f v)) (g y)) (sym here) (subst (λ v. All (IsPrintable (f a)) (g v)) (sym there) all.0)
printable_place f g (a ∷ xs) (b ∷ ys) (suc i) x y all in_xs in_ys here there = printable_place f g xs ys i x y all.1 (omega (arith, in_xs)) (omega (arith, in_ys)) here there

-- one more is read off two lists in the same way
pub mapped_more : {A B C : Type 0} (f : A → C) (g : B → C) (xs new : List A) (ys : List B) (x : A) (y : B) → map f xs ≡ map g ys → new ≡ xs ++ x ∷ [] → f x ≡ g y → map f new ≡ map g (ys ++ y ∷ [])
mapped_more {A} {B} {C} f g xs new ys x y before is same =
    ap (map f) is ∙ map-append f xs (x ∷ []) ∙ (λ i. before i ++ same i ∷ []) ∙ sym (map-append g ys (y ∷ []))

pub same_length : {A B C : Type 0} (f : A → C) (g : B → C) (xs : List A) (ys : List B) → map f xs ≡ map g ys → length xs ≡ length ys
same_length f g xs ys same = sym (length-map xs f) ∙ ap (λ l. length l) same ∙ length-map ys g
