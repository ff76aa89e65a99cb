-- Two bindings of one mask and the same objects are one.
use Rattle.std.proofs.Common.{◌≡◌, ◌≢◌, ℕ, true, List, [], ◌∷◌, Option, Some, None, refl, ap, ◌∙◌, subst, arith}
use Rattle.std.proofs.lemmas.Bool.{and_parts, eqb-true, eq-eqb}
use Rattle.std.proofs.lemmas.Slice.Eq.{bytes_eq-Decides}
use Rattle.std.proofs.lemmas.Map.Made.{AllPairs-from_IsDistinct}
use Rattle.std.proofs.lemmas.Map.Views.{Contains-from_any}
use Rattle.std.proofs.lemmas.Map.Keys.{any_passes_from_place}
use Rattle.std.proofs.lemmas.Option.{slice_get-get_or}
use Rattle.std.specs.Prelude.{Contains, AllPairs}
use Rattle.std.specs.Bool.{Decides}
use Rattle.std.specs.List.{list_any, IsDistinct}
use Rattle.jm_model.specs.Layout.{mask_bits, stored_of, binding_eq}

same_fields : (a b : List (Option ℕ)) → mask_bits a ≡ mask_bits b → stored_of a ≡ stored_of b → a ≡ b
same_fields [] [] m s = refl
same_fields [] (y ∷ b) m s = cc
same_fields (x ∷ a) [] m s = cc
same_fields (None ∷ a) (None ∷ b) m s =
    let rest : mask_bits a ≡ mask_bits b = omega arith in
    let tail : stored_of a ≡ stored_of b = cc in
    let same : a ≡ b = same_fields a b rest tail in
    cc
same_fields (None ∷ a) (Some o ∷ b) m s = absurd (omega arith)
same_fields (Some o ∷ a) (None ∷ b) m s = absurd (omega arith)
same_fields (Some o ∷ a) (Some q ∷ b) m s =
    let rest : mask_bits a ≡ mask_bits b = omega arith in
    let tail : stored_of a ≡ stored_of b = cc in
    let head : o ≡ q = cc in
    let same : a ≡ b = same_fields a b rest tail in
    cc

binding_eq-true : (a b : List (Option ℕ)) → binding_eq a b ≡ true → a ≡ b
binding_eq-true a b e =
    let parts = and_parts _ _ e in
    same_fields a b (eqb-true (mask_bits a) (mask_bits b) parts.0) ((bytes_eq-Decides (stored_of a) (stored_of b)).0 parts.1)

binding_eq-refl : (a : List (Option ℕ)) → binding_eq a a ≡ true
binding_eq-refl a = rw (eq-eqb (mask_bits a) (mask_bits a) refl, (bytes_eq-Decides (stored_of a) (stored_of a)).1 refl)

-- `==` decides whether two bindings are one
pub binding_eq-Decides : (a b : List (Option ℕ)) → Decides (binding_eq a b) (a ≡ b)
binding_eq-Decides a b = (binding_eq-true a b, λ e. subst (λ (v : List (Option ℕ)). binding_eq a v ≡ true) e (binding_eq-refl a))

-- a look-up finds exactly what is in the list
pub found-Contains : (ks : List (List (Option ℕ))) (b : List (Option ℕ)) → list_any (binding_eq b) ks ≡ true → Contains ks b
found-Contains ks b e = Contains-from_any binding_eq-true b ks e

pub Contains-found : (ks : List (List (Option ℕ))) (b : List (Option ℕ)) → Contains ks b → list_any (binding_eq b) ks ≡ true
Contains-found ks b (k, h, e) =
    any_passes_from_place (binding_eq b) ks k b (slice_get-get_or ks k b h ∙ ap Some e) (binding_eq-refl b)

-- no two places of the list have one binding
pub apart : (ks : List (List (Option ℕ))) → IsDistinct binding_eq ks → AllPairs (λ a b. a ≢ b) ks
apart ks h = AllPairs-from_IsDistinct binding_eq-Decides ks h
