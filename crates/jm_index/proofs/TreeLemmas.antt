-- Trees, and what changes of them.
use Rattle.std.proofs.Common.{◌≡◌, ℕ, zero, suc, ◌+◌, ◌<◌, ◌≤◌, ◌==◌, Bool, true, false, cond, List, [], ◌∷◌, ◌++◌, Option, Some, None, length, get_or, refl, sym, ap, ◌∙◌, subst, arith, ◌⊎◌, inl, inr}
use Rattle.std.specs.Prelude.{Contains, slice_set}
use Rattle.std.proofs.lemmas.Bool.{cases_eq, cases_lt}
use Rattle.std.proofs.lemmas.List.{get_or-set_same, get_or-set_other, get_or_default}
use Rattle.std.proofs.lemmas.Option.{none-some, same_Some}
use Rattle.jm_model.specs.Bindings.{object_at}
use Rattle.jm_index.specs.declared.entry.Entry.{Entry}
use Rattle.jm_index.specs.Index.{flag_of}
use Rattle.jm_index.specs.Postings.{Paths, no_paths}
use Rattle.jm_index.specs.Layout.{posting_of, posting_at, is_live_at, IsFiled, IsPath, IsUnset, AllFiled, AreFiled, AreThinned}

-- one more of what stands past the end
pub get_or-more : {X : Type 0} (xs : List X) (d : X) (q : ℕ) → get_or (xs ++ d ∷ []) q d ≡ get_or xs q d
get_or-more [] d zero = refl
get_or-more [] d (suc q) = refl
get_or-more (x ∷ xs) d zero = refl
get_or-more (x ∷ xs) d (suc q) = get_or-more xs d q

-- what is read of a place, by what it stands for
pub read_place : {X : Type 0} (items value : List X) (k : ℕ) (now d : X) → items ≡ value → k < length items → now ≡ get_or items k now → now ≡ get_or value k d
read_place items value k now d is h at = at ∙ get_or_default items k now d h ∙ ap (λ v. get_or v k d) is

-- a write of one place changes that place alone
pub set_kept : {X : Type 0} (R : X → X → Type 0) (items : List X) (k q : ℕ) (new d : X) → k < length items → R (get_or items k d) new → ((x : X) → R x x)
    → R (get_or items q d) (get_or (slice_set items k new) q d)
set_kept {X} R items k q new d h step same = at (cases_eq q k)
  where
    at : (q ≡ k) ⊎ (q ≡ k → ⊥) → R (get_or items q d) (get_or (slice_set items k new) q d)
    at (inl is) = rw (is, get_or-set_same items k new d h) step
    at (inr apart) = rw (get_or-set_other items k q new d apart) (same (get_or items q d))

pub set_kept_value : {X : Type 0} (R : X → X → Type 0) (items value : List X) (k q : ℕ) (now new d : X) → items ≡ value → k < length items → now ≡ get_or items k now → R now new
    → ((x : X) → R x x) → R (get_or value q d) (get_or (slice_set items k new) q d)
set_kept_value {X} R items value k q now new d is h at step same =
    let here : R (get_or items k d) new = subst (λ (v : X). R v new) (read_place items items k now d refl h at) step in
    subst (λ (v : List X). R (get_or v q d) (get_or (slice_set items k new) q d)) is (set_kept R items k q new d h here same)

-- a position is filed in a tree
pub filed_tree : (k mask path : ℕ) (items : List Paths) (old : List ℕ) (now new : Paths) → mask < length items → posting_of now path ≡ old
    → IsFiled k (posting_of now path) (posting_of new path) → IsFiled k old (posting_at (slice_set items mask new) mask path)
filed_tree k mask path items old now new h is filed = rw (get_or-set_same items mask new no_paths h, ← is) filed

pub AreThinned-trans : (entries : List Entry) (a b c : List Paths) → AreThinned entries a b → AreThinned entries b c → AreThinned entries a c
AreThinned-trans entries a b c h k =
    record { within = λ m q x t. h.within m q x (k.within m q x t); live = λ m q x l t. k.live m q x l (h.live m q x l t) }

pub AreThinned-set : (entries : List Entry) (items value : List Paths) (mask : ℕ) (now new : Paths) → items ≡ value → mask < length items → now ≡ get_or items mask now
    → ((q x : ℕ) → Contains (posting_of new q) x → Contains (posting_of now q) x)
    → ((q x : ℕ) → is_live_at entries x ≡ true → Contains (posting_of now q) x → Contains (posting_of new q) x) → AreThinned entries value (slice_set items mask new)
AreThinned-set entries items value mask now new is h at within live =
    record {
      within =
          λ m. set_kept_value (λ (a b : Paths). (q x : ℕ) → Contains (posting_of b q) x → Contains (posting_of a q) x) items value mask m now new no_paths is h at within (λ t q x there. there);
      live =
          λ m. set_kept_value (λ (a b : Paths). (q x : ℕ) → is_live_at entries x ≡ true → Contains (posting_of a q) x → Contains (posting_of b q) x) items value mask m now new no_paths is h at live (λ t q x l there. there);
    }

pub AreFiled-trans : (dropped : List Bool) (k : ℕ) (a b c : List Paths) → AreFiled dropped k a b → AreFiled dropped k b c → AreFiled dropped k a c
AreFiled-trans dropped k a b c h i =
    record {
      kept = λ m q x t. i.kept m q x (h.kept m q x t);
      only = λ m q x t. elim (i.only m q x t) [ inl u ↦ h.only m q x u | inr e ↦ inr e ];
      led = λ m o x t. elim (i.led m o x t) [ inl u ↦ h.led m o x u | inr unset ↦ inr unset ];
    }

pub AllFiled-filed : (dropped : List Bool) (k : ℕ) (a b : List Paths) → AllFiled (λ x. x ≤ k) a → AreFiled dropped k a b → AllFiled (λ x. x ≤ k) b
AllFiled-filed dropped k a b top h m q x there = elim (h.only m q x there) [ inl u ↦ top m q x u | inr e ↦ omega (arith, e) ]

-- one posting is filed in, and an object whose it is wasn't dropped
pub AreFiled-one : (dropped : List Bool) (k mask path : ℕ) (a b : List Paths) → IsFiled k (posting_at a mask path) (posting_at b mask path)
    → ((q : ℕ) → (q ≡ path → ⊥) → posting_at b mask q ≡ posting_at a mask q) → ((m q : ℕ) → (m ≡ mask → ⊥) → posting_at b m q ≡ posting_at a m q)
    → ((o : ℕ) → o + 1 ≡ path → IsUnset dropped o) → AreFiled dropped k a b
AreFiled-one dropped k mask path a b filed others trees unset = record { kept = kept; only = only; led = led }
  where
    same_kept : (m q x : ℕ) → posting_at b m q ≡ posting_at a m q → Contains (posting_at a m q) x → Contains (posting_at b m q) x
    same_kept m q x is there = subst (λ (v : List ℕ). Contains v x) (sym is) there

    same_only : (m q x : ℕ) → posting_at b m q ≡ posting_at a m q → Contains (posting_at b m q) x → Contains (posting_at a m q) x ⊎ (x ≡ k)
    same_only m q x is there = inl (subst (λ (v : List ℕ). Contains v x) is there)

    kept_at : (m q x : ℕ) → (m ≡ mask) ⊎ (m ≡ mask → ⊥) → (q ≡ path) ⊎ (q ≡ path → ⊥) → Contains (posting_at a m q) x → Contains (posting_at b m q) x
    kept_at m q x (inr other) _ there = same_kept m q x (trees m q other) there
    kept_at m q x (inl is) (inr other) there = same_kept m q x (rw is (others q other)) there
    kept_at m q x (inl is) (inl same) there = rw (is, same) (filed.0 x (rw (is, same) at there))

    kept : (m q x : ℕ) → Contains (posting_at a m q) x → Contains (posting_at b m q) x
    kept m q x there = kept_at m q x (cases_eq m mask) (cases_eq q path) there

    only_at : (m q x : ℕ) → (m ≡ mask) ⊎ (m ≡ mask → ⊥) → (q ≡ path) ⊎ (q ≡ path → ⊥) → Contains (posting_at b m q) x → Contains (posting_at a m q) x ⊎ (x ≡ k)
    only_at m q x (inr other) _ there = same_only m q x (trees m q other) there
    only_at m q x (inl is) (inr other) there = same_only m q x (rw is (others q other)) there
    only_at m q x (inl is) (inl same) there = rw (is, same) (filed.1 x (rw (is, same) at there))

    only : (m q x : ℕ) → Contains (posting_at b m q) x → Contains (posting_at a m q) x ⊎ (x ≡ k)
    only m q x there = only_at m q x (cases_eq m mask) (cases_eq q path) there

    led_at : (m o x : ℕ) → (m ≡ mask) ⊎ (m ≡ mask → ⊥) → (o + 1 ≡ path) ⊎ (o + 1 ≡ path → ⊥) → Contains (posting_at b m (o + 1)) x → Contains (posting_at a m (o + 1)) x ⊎ IsUnset dropped o
    led_at m o x (inr other) _ there = inl (subst (λ (v : List ℕ). Contains v x) (trees m (o + 1) other) there)
    led_at m o x (inl is) (inl same) there = inr (unset o same)
    led_at m o x (inl is) (inr apart) there = inl (subst (λ (v : List ℕ). Contains v x) (rw is (others (o + 1) apart)) there)

    led : (m o x : ℕ) → Contains (posting_at b m (o + 1)) x → Contains (posting_at a m (o + 1)) x ⊎ IsUnset dropped o
    led m o x there = led_at m o x (cases_eq m mask) (cases_eq (o + 1) path) there

-- each path of b is filed under, once each of its objects is
pub all_paths : (dropped : List Bool) (b : List (Option ℕ)) (tree : Paths) (k : ℕ) → Contains (posting_of tree 0) k
    → ((p o : ℕ) → object_at b p ≡ Some o → flag_of dropped o ≡ false → Contains (posting_of tree (o + 1)) k)
    → (path : ℕ) → IsPath dropped b path → Contains (posting_of tree path) k
all_paths dropped b tree k whole each path (inl is) = subst (λ (v : ℕ). Contains (posting_of tree v) k) (sym is) whole
all_paths dropped b tree k whole each path (inr (o, (p, at), live, is)) = subst (λ (v : ℕ). Contains (posting_of tree v) k) (sym is) (each p o at live)

-- the trees up to m are cleared
pub record AreCleared (path m : ℕ) (old new : List Paths) : Type 0 where
  pub same_length : length new ≡ length old
  pub done : (n q : ℕ) → n < m → posting_at new n q ≡ cond (q == path) [] (posting_at old n q)
  pub rest : (n q : ℕ) → m ≤ n → posting_at new n q ≡ posting_at old n q

-- what a path leads to in a tree, by the place where the tree was read
pub tree_read : (items value : List Paths) (old : List ℕ) (now : Paths) (mask path : ℕ) → items ≡ value → mask < length value → now ≡ get_or items mask now
    → posting_at value mask path ≡ old → posting_of now path ≡ old
tree_read items value old now mask path is h at same =
    ap (λ (t : Paths). posting_of t path) (read_place items value mask now no_paths is (subst (λ (v : List Paths). mask < length v) (sym is) h) at) ∙ same

-- what holds for the parameters below one, and for the next that is bound, holds for those up to that
pub each_step : (b : List (Option ℕ)) (d : List Bool) (from p v : ℕ) (F G : ℕ → Type 0) → ((q o : ℕ) → q < from → object_at b q ≡ Some o → flag_of d o ≡ false → F o) → ((o : ℕ) → F o → G o)
    → ((q : ℕ) → from ≤ q → q < p → object_at b q ≡ None) → object_at b p ≡ Some v → (flag_of d v ≡ false → G v)
    → (q o : ℕ) → q < p + 1 → object_at b q ≡ Some o → flag_of d o ≡ false → G o
each_step b d from p v F G old keep between bound here q o h at live =
    elim (cases_lt q from) [
      | inl below ↦ keep o (old q o below at live)
      | inr above ↦
          elim (cases_eq q p) [
            | inl is ↦
                let same : v ≡ o = same_Some _ _ (sym bound ∙ subst (λ (n : ℕ). object_at b n ≡ Some o) is at) in
                subst G same (here (subst (λ (n : ℕ). flag_of d n ≡ false) (sym same) live))
            | inr apart ↦ absurd (none-some o (sym (between q above (omega (arith, h, apart))) ∙ at))
          ]
    ]
