-- Lists of what is given for some elements by one relation, and for the others by another.
use Rattle.std.proofs.Common.{inl, inr, ◌∙◌, ap, List, [], ◌∷◌, ◌++◌, refl, sym, subst, append_assoc}
use Rattle.std.specs.Prelude.{Option, None, Contains}
use Rattle.std.specs.List.Sorted.{IsPermutation}
use Rattle.std.proofs.lemmas.List.Sorted.{IsPermutation-refl, IsPermutation-trans, IsPermutation-append_comm, IsPermutation-append_left, IsPermutation-append_right}
use Rattle.jm_store.specs.Moves.{AreGiven, AreParted, AreSifted, IsPushed}
use Rattle.jm_store.proofs.GivenLemmas.{pushed}
use Rattle.jm_store.proofs.RestingLemmas.{given_append}
use Rattle.std.proofs.lemmas.List.Elements.{Contains-push_cases}
use Rattle.jm_index.proofs.ReadLemmas.{Contains-none}
use Rattle.jm_semantics.proofs.ListLemmas.{Contains-head, Contains-cons}

module _ {X Y Z : Type 0} (R : X → Option Y → Type 0) (Q : X → Option Z → Type 0) where
  pub sifted_none : AreSifted R Q [] [] [] []
  sifted_none = record { told = []; others = []; all = IsPermutation-refl []; given = refl; read = refl; none = λ x has. absurd (Contains-none x has) }

  -- an element after a permutation of others
  behind : (xs ys : List X) (x : X) → IsPermutation xs ys → IsPermutation (xs ++ x ∷ []) (ys ++ x ∷ [])
  behind xs ys x all = IsPermutation-append_left (x ∷ []) xs ys all

  -- it may as well stand between two parts of these
  between : (us vs : List X) (x : X) → IsPermutation ((us ++ vs) ++ x ∷ []) ((us ++ x ∷ []) ++ vs)
  between us vs x =
      let moved : IsPermutation (us ++ (vs ++ x ∷ [])) (us ++ (x ∷ [] ++ vs)) = IsPermutation-append_right us (vs ++ x ∷ []) (x ∷ [] ++ vs) (IsPermutation-append_comm vs (x ∷ [])) in
      subst (λ (l : List X). IsPermutation l ((us ++ x ∷ []) ++ vs)) (sym (append_assoc us vs (x ∷ [])))
      (subst (λ (l : List X). IsPermutation (us ++ (vs ++ x ∷ [])) l) (sym (append_assoc us (x ∷ []) vs)) moved)

  -- one more for which the first relation gives something, or nothing
  pub sifted_told : (xs : List X) (x : X) (ys new : List Y) (zs : List Z) (rests : List X) → AreSifted R Q xs ys zs rests → IsPushed R x ys new → AreSifted R Q (xs ++ x ∷ []) new zs rests
  sifted_told xs x ys new zs rests p gives = record {
    told = p.told ++ x ∷ [];
    others = p.others;
    all = subst (λ (l : List X). IsPermutation (xs ++ x ∷ []) l)
        (append_assoc rests (p.others ++ p.told) (x ∷ []) ∙ ap (λ (l : List X). rests ++ l) (append_assoc p.others p.told (x ∷ [])))
        (behind xs (rests ++ (p.others ++ p.told)) x p.all);
    given = pushed R p.told x ys new p.given gives;
    read = p.read;
    none = p.none;
  }

  -- one for which the second does
  pub sifted_read : (xs : List X) (x : X) (ys : List Y) (zs new : List Z) (rests : List X) → AreSifted R Q xs ys zs rests → IsPushed Q x zs new → AreSifted R Q (xs ++ x ∷ []) ys new rests
  sifted_read xs x ys zs new rests p gives = record {
    told = p.told;
    others = p.others ++ x ∷ [];
    all = IsPermutation-trans (xs ++ x ∷ []) (rests ++ ((p.others ++ p.told) ++ x ∷ [])) (rests ++ ((p.others ++ x ∷ []) ++ p.told))
        (subst (λ (l : List X). IsPermutation (xs ++ x ∷ []) l) (append_assoc rests (p.others ++ p.told) (x ∷ [])) (behind xs (rests ++ (p.others ++ p.told)) x p.all))
        (IsPermutation-append_right rests ((p.others ++ p.told) ++ x ∷ []) ((p.others ++ x ∷ []) ++ p.told) (between p.others p.told x));
    given = p.given;
    read = pushed Q p.others x zs new p.read gives;
    none = p.none;
  }

  -- and one for which the first gives nothing, which is noted
  pub sifted_rest : (xs : List X) (x : X) (ys : List Y) (zs : List Z) (rests : List X) → AreSifted R Q xs ys zs rests → R x None → AreSifted R Q (xs ++ x ∷ []) ys zs (rests ++ x ∷ [])
  sifted_rest xs x ys zs rests p nothing = record {
    told = p.told;
    others = p.others;
    all = IsPermutation-trans (xs ++ x ∷ []) ((rests ++ (p.others ++ p.told)) ++ x ∷ []) ((rests ++ x ∷ []) ++ (p.others ++ p.told))
        (behind xs (rests ++ (p.others ++ p.told)) x p.all) (between rests (p.others ++ p.told) x);
    given = p.given;
    read = p.read;
    none = λ y has. elim (Contains-push_cases rests x y has) [
      | inl before ↦ p.none y before
      | inr same ↦ subst (λ (z : X). R z None) same nothing
    ];
  }

  given_nothing : (xs : List X) → ((x : X) → Contains xs x → R x None) → AreGiven R xs []
  given_nothing [] none = refl
  given_nothing (x ∷ xs) none = (None, none x (Contains-head x xs), ([], given_nothing xs (λ y has. none y (Contains-cons x xs y has)), refl))

  -- those of which nothing is given are among those of the first relation
  pub parted_of : (xs : List X) (ys : List Y) (zs : List Z) (rests : List X) → AreSifted R Q xs ys zs rests → AreParted R Q xs ys zs
  parted_of xs ys zs rests p = record {
    told = rests ++ p.told;
    others = p.others;
    all = IsPermutation-trans xs (rests ++ (p.others ++ p.told)) (p.others ++ (rests ++ p.told)) p.all
        (subst (λ (l : List X). IsPermutation l (p.others ++ (rests ++ p.told))) (append_assoc rests p.others p.told)
        (subst (λ (l : List X). IsPermutation ((rests ++ p.others) ++ p.told) l) (append_assoc p.others rests p.told)
        (IsPermutation-append_left p.told (rests ++ p.others) (p.others ++ rests) (IsPermutation-append_comm rests p.others))));
    given = given_append R rests p.told [] ys (given_nothing rests p.none) p.given;
    read = p.read;
  }
