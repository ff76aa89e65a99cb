use Rattle.std.specs.Prelude.{Result, Ok, Err, IfOk}
use Rattle.std.proofs.Common.{ℕ, zero, suc, ◌≡◌, ◌<◌, ◌+◌, ◌↔◌, ◌⊎◌, inl, inr, Bool, true, List, [], ◌∷◌, ◌++◌, length, get_or, Contains, sym, subst, ◌∙◌, arith}
use Rattle.std.proofs.lemmas.List.{get_or_default}
use Rattle.jm_coenable.specs.Needs.{set_at}
use Rattle.std.proofs.lemmas.Bool.Decides.{eqb_tells}

-- the set of the numbers below one of which P holds, with the next number asked
pub filled_more : (P : ℕ → Type 0) (before after : List ℕ) (number : ℕ) (wanted : Bool) → ((m : ℕ) → Contains before m ↔ ((m < number) × P m)) → (wanted ≡ true ↔ P number)
    → ((m : ℕ) → Contains after m ↔ (Contains before m ⊎ ((wanted ≡ true) × (m ≡ number)))) → (m : ℕ) → Contains after m ↔ ((m < number + 1) × P m)
filled_more P before after number wanted so_far tells step m = (
  λ h. elim ((step m).0 h) [
    | inl old ↦ let o = (so_far m).0 old in (omega (arith, o.0), o.1)
    | inr new ↦ (omega (arith, new.1), subst (λ (k : ℕ). P k) (sym new.1) (tells.0 new.0))
  ],
  λ h. elim (eqb_tells m number) [
    | inl same ↦ (step m).1 (inr (tells.1 (subst (λ (k : ℕ). P k) same.1 h.1), same.1))
    | inr differs ↦ (step m).1 (inl ((so_far m).1 (omega (arith, h.0, differs.1), h.1)))
  ],
)

-- what is read at a place is the set of the place
pub read_is : (sets : List (List ℕ)) (found : List ℕ) (place : ℕ) → found ≡ get_or sets place found → place < length sets → found ≡ set_at sets place
read_is sets found place is lt = is ∙ get_or_default sets place found [] lt

-- what holds of each set, with one more
pub sets_push : (P : ℕ → List ℕ → Type 0) (sets : List (List ℕ)) (set : List ℕ) → ((k : ℕ) → k < length sets → P k (get_or sets k [])) → P (length sets) set
    → (k : ℕ) → k < length (sets ++ set ∷ []) → P k (get_or (sets ++ set ∷ []) k [])
sets_push P [] set each here zero lt = here
sets_push P [] set each here (suc k) lt = absurd (omega (arith, lt))
sets_push P (s ∷ sets) set each here zero lt = each 0 (omega arith)
sets_push P (s ∷ sets) set each here (suc k) lt = sets_push (λ n. P (suc n)) sets set (λ n l. each (suc n) (omega (arith, l))) here k (omega (arith, lt))

-- the items are those of the set that was found, of whose masks Q holds
pub family_is : {T E : Type 0} (items : T → List ℕ) (r : Result T E) (found : List ℕ) (Q : ℕ → Type 0)
    → IfOk r (λ x. (mask : ℕ) → mask < 256 → Contains (items x) mask ↔ Contains found mask) → ((mask : ℕ) → mask < 256 → Contains found mask ↔ Q mask)
    → IfOk r (λ x. (mask : ℕ) → mask < 256 → Contains (items x) mask ↔ Q mask)
family_is items (Ok x) found Q exact told = λ mask few. (λ h. (told mask few).0 ((exact mask few).0 h), λ q. (exact mask few).1 ((told mask few).1 q))
family_is items (Err e) found Q exact told = tt
