-- Lists of names and of lines, as they are written item by item.
use Rattle.std.proofs.Common.{◌≡◌, ℕ, get_or, map, option_map, ◌+◌, ◌<◌, ◌==◌, Bool, true, false, List, [], ◌∷◌, ◌++◌, length, take, slice_get, refl, sym, ◌∙◌, ap, arith, append_assoc, append-nil, length-take-le, inl, inr}
use Rattle.std.specs.Prelude.{Some, codes, if◌then◌else◌}
use Rattle.std.specs.Int.{bit_at}
use Rattle.std.specs.List.{flat_map}
use Rattle.std.proofs.lemmas.List.{take_more}
use Rattle.std.proofs.lemmas.Option.{slice_get_within, get_or_from_slice_get, slice_get_cases, slice_get-map, slice_get_read}
use Rattle.std.proofs.lemmas.Grind.{flat_map-append}
use Rattle.jm_print.specs.Lists.{later_names, name_list, is_empty, names_from, names_of_mask}
use Rattle.jm_print.specs.Coenables.{family_line, family_lines}
use Rattle.jm_print.proofs.PairLemmas.{flat_map-more}

-- ---- lines

-- a place within a list has an item
pub item_at : {X : Type 0} (xs : List X) (i : ℕ) → i < length xs → (x : X) × (slice_get xs i ≡ Some x)
item_at xs i within = elim (slice_get_cases xs i).1 [
  | inl there ↦ (there.0, there.2)
  | inr none ↦ absurd (omega (arith, none.0))
]

-- the next item
pub take_said : {X : Type 0} (xs : List X) (i : ℕ) (x : X) → slice_get xs i ≡ Some x → take (i + 1) xs ≡ take i xs ++ x ∷ []
take_said xs i x at =
    take_more xs i x (slice_get_within xs i x at) ∙ ap (λ y. take i xs ++ y ∷ []) (get_or_from_slice_get xs i x x at)

-- the line of the next item was written
pub line_written : {X : Type 0} (f : X → List ℕ) (xs : List X) (i : ℕ) (x : X) (before page after : List ℕ)
    → slice_get xs i ≡ Some x → page ≡ before ++ flat_map f (take i xs) → after ≡ page ++ f x
    → after ≡ before ++ flat_map f (take (i + 1) xs)
line_written f xs i x before page after at so_far written =
    written ∙ ap (λ t. t ++ f x) so_far ∙ append_assoc before (flat_map f (take i xs)) (f x)
    ∙ ap (λ t. before ++ t) (sym (flat_map-more f xs i x (slice_get_within xs i x at) (get_or_from_slice_get xs i x x at)))

-- the same, whatever the item is
pub item_written : {X : Type 0} (f : X → List ℕ) (xs : List X) (i : ℕ) (before page after : List ℕ)
    → i < length xs → page ≡ before ++ flat_map f (take i xs)
    → ((x : X) → slice_get xs i ≡ Some x → after ≡ page ++ f x)
    → after ≡ before ++ flat_map f (take (i + 1) xs)
item_written f xs i before page after within so_far written =
    let item = item_at xs i within in
    line_written f xs i item.0 before page after item.1 so_far (written item.0 item.1)

-- ---- names

-- one more name
pub names_more : (names : List (List ℕ)) (name : List ℕ)
    → name_list (names ++ name ∷ []) ≡ name_list names ++ (if is_empty names then [] else codes ",") ++ name
names_more [] name = append-nil name
names_more (x ∷ names) name =
    ap (λ t. x ++ t) (flat_map-append (λ n. codes "," ++ n) names (name ∷ []))
    ∙ ap (λ t. x ++ (later_names names ++ t)) (append-nil (codes "," ++ name))
    ∙ sym (append_assoc x (later_names names) (codes "," ++ name))
    ∙ sym (append_assoc (x ++ later_names names) (codes ",") name)

-- a name was written after others
pub name_written : (names : List (List ℕ)) (name before page after : List ℕ) (first : Bool)
    → first ≡ is_empty names → page ≡ before ++ name_list names
    → after ≡ page ++ (if first then [] else codes ",") ++ name
    → after ≡ before ++ name_list (names ++ name ∷ [])
name_written names name before page after first none so_far written =
    let listed = name_list names in
    let lead : List ℕ = if is_empty names then [] else codes "," in
    written ∙ (λ j. (so_far j ++ (if none j then [] else codes ",")) ++ name)
    ∙ ap (λ t. t ++ name) (append_assoc before listed lead) ∙ append_assoc before (listed ++ lead) name
    ∙ ap (λ t. before ++ t) (sym (names_more names name))

-- a list with a name after it isn't empty
pub some_name : (names : List (List ℕ)) (name : List ℕ) → false ≡ is_empty (names ++ name ∷ [])
some_name [] name = refl
some_name (x ∷ names) name = refl

-- ---- masks

choose_more : (b : Bool) (x : List ℕ) (xs ys zs : List (List ℕ)) → ys ≡ xs ++ zs
    → (if b then x ∷ ys else ys) ≡ (if b then x ∷ xs else xs) ++ zs
choose_more true x xs ys zs e = ap (λ t. x ∷ t) e
choose_more false x xs ys zs e = e

-- one more parameter
masked_more : (mask p : ℕ) (names : List (List ℕ)) (name : List ℕ)
    → names_from mask p (names ++ name ∷ []) ≡ names_from mask p names ++ (if bit_at mask (p + length names) == 1 then name ∷ [] else [])
masked_more mask p [] name =
    let same : p + 0 ≡ p = omega arith in
    rw same refl
masked_more mask p (x ∷ names) name =
    let same : (p + 1) + length names ≡ p + length (x ∷ names) = omega arith in
    choose_more (bit_at mask p == 1) x _ _ _
    (masked_more mask (p + 1) names name
    ∙ ap (λ n. names_from mask (p + 1) names ++ (if bit_at mask n == 1 then name ∷ [] else [])) same)

-- the names of a mask up to the next parameter, where the mask has it or not
masked_next : (mask : ℕ) (names : List (List ℕ)) (p : ℕ) (name : List ℕ) (b : Bool)
    → slice_get names p ≡ Some name → b ≡ (bit_at mask p == 1)
    → names_of_mask (take (p + 1) names) mask ≡ names_of_mask (take p names) mask ++ (if b then name ∷ [] else [])
masked_next mask names p name b at bit =
    let place : 0 + length (take p names) ≡ p = omega (arith, length-take-le p names (omega (arith, slice_get_within names p name at))) in
    ap (names_from mask 0) (take_said names p name at) ∙ masked_more mask 0 (take p names) name
    ∙ ap (λ (t : Bool). names_of_mask (take p names) mask ++ (if t then name ∷ [] else [])) (ap (λ n. bit_at mask n == 1) place ∙ sym bit)

pub masked_set : (mask : ℕ) (names : List (List ℕ)) (p : ℕ) (name : List ℕ)
    → slice_get names p ≡ Some name → true ≡ (bit_at mask p == 1)
    → names_of_mask (take (p + 1) names) mask ≡ names_of_mask (take p names) mask ++ name ∷ []
masked_set mask names p name = masked_next mask names p name true

pub masked_unset : (mask : ℕ) (names : List (List ℕ)) (p : ℕ) → p < length names → false ≡ (bit_at mask p == 1)
    → names_of_mask (take (p + 1) names) mask ≡ names_of_mask (take p names) mask
masked_unset mask names p within bit =
    let item = item_at names p within in
    masked_next mask names p item.0 false item.1 bit ∙ append-nil _

-- ---- families

families_more : (parameters names families : List (List ℕ)) (name family : List ℕ) → length names ≡ length families
    → family_lines parameters (names ++ name ∷ []) (families ++ family ∷ []) ≡ family_lines parameters names families ++ family_line parameters name family
families_more parameters [] [] name family same = append-nil (family_line parameters name family)
families_more parameters [] (g ∷ families) name family same = absurd (omega (arith, same))
families_more parameters (x ∷ names) [] name family same = absurd (omega (arith, same))
families_more parameters (x ∷ names) (g ∷ families) name family same =
    ap (λ t. family_line parameters x g ++ t) (families_more parameters names families name family (omega (arith, same)))
    ∙ sym (append_assoc (family_line parameters x g) (family_lines parameters names families) (family_line parameters name family))

-- the line of the next event was written
pub family_written : (parameters names families : List (List ℕ)) (i : ℕ) (name family before page after : List ℕ)
    → slice_get names i ≡ Some name → slice_get families i ≡ Some family
    → page ≡ before ++ family_lines parameters (take i names) (take i families)
    → after ≡ page ++ family_line parameters name family
    → after ≡ before ++ family_lines parameters (take (i + 1) names) (take (i + 1) families)
family_written parameters names families i name family before page after at family_at so_far written =
    let line = family_line parameters name family in
    let same : length (take i names) ≡ length (take i families) =
    length-take-le i names (omega (arith, slice_get_within names i name at))
    ∙ sym (length-take-le i families (omega (arith, slice_get_within families i family family_at))) in
    written ∙ ap (λ t. t ++ line) so_far ∙ append_assoc before (family_lines parameters (take i names) (take i families)) line
    ∙ ap (λ t. before ++ t) (sym (families_more parameters (take i names) (take i families) name family same))
    ∙ (λ j. before ++ family_lines parameters (sym (take_said names i name at) j) (sym (take_said families i family family_at) j))

-- an item that was read from a list, in another view
pub read_at : {X Y : Type 0} (f : X → Y) (xs : List X) (i : ℕ) (x : X) (y : Y)
    → i < length xs → x ≡ get_or xs i x → y ≡ f x → slice_get (map f xs) i ≡ Some y
read_at f xs i x y within is seen =
    slice_get-map f xs i ∙ ap (option_map f) (slice_get_read xs (length xs) i x refl within is) ∙ ap Some (sym seen)
