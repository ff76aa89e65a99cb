use Rattle.std.proofs.Common.{ℕ, zero, suc, ◌≡◌, ◌≢◌, ◌<◌, ◌≤◌, ◌+◌, ◌-◌, inl, inr, false, List, [], ◌∷◌, ◌++◌, Some, None, map, length, take, drop, get_or, slice_get, refl, sym, ap, subst, ◌∙◌, arith, length-append}
use Rattle.std.specs.Prelude.{All, IsUtf8, slice_range}
use Rattle.std.specs.List.{IsDistinct, list_any}
use Rattle.std.specs.Str.{bytes_eq}
use Rattle.std.specs.Cmp.Lexicographic.{nat_list_eq_equiv}
use Rattle.std.proofs.lemmas.Bool.{false≢true, cases_eq, cases_lt}
use Rattle.std.proofs.lemmas.List.{take_all, take-append-le, drop-append-le, drop_at, length-drop, length-map, length_push, map_push, get_or-map}
use Rattle.std.proofs.lemmas.List.Elements.{All-push}
use Rattle.std.proofs.lemmas.Map.Keys.{IsDistinct-push}
use Rattle.std.proofs.lemmas.Option.{same_Some, slice_get_within, get_or_from_slice_get}
use Rattle.jm_events.specs.Hash.{hash_of}
use Rattle.jm_events.specs.Chains.{chain_of, IsLast}
use Rattle.jm_events.specs.Names.{number_of}
use Rattle.jm_events.specs.Texts.{texts_from, Rise, AreTexts}
use Rattle.jm_events.proofs.NameLemmas.{is_same_name, list_any-no_number, no_number}

-- ---- parts of a block

-- a part that lies before what is put after the block
range_front : (bytes new : List ℕ) (start end : ℕ) → start ≤ end → end ≤ length bytes → slice_range (bytes ++ new) start end ≡ slice_range bytes start end
range_front bytes new start end le within =
    let few : end - start ≤ length (drop start bytes) = omega (arith, length-drop start bytes) in
    ap (take (end - start)) (drop-append-le start bytes new (omega arith)) ∙ take-append-le (end - start) (drop start bytes) new few

-- what is put after it
range_end : (bytes new : List ℕ) → slice_range (bytes ++ new) (length bytes) (length bytes + length new) ≡ new
range_end bytes new =
    ap (take (length bytes + length new - length bytes)) (drop_at bytes new (length bytes) refl) ∙ take_all (length bytes + length new - length bytes) new (omega arith)

-- ---- ends that rise

-- where they begin is within the block
Rise-begin : (start : ℕ) (ends : List ℕ) (len : ℕ) → Rise start ends len → start ≤ len
Rise-begin start [] len rise = omega arith
Rise-begin start (end ∷ ends) len rise = omega (arith, rise.0, Rise-begin end ends len rise.1)

-- a place among them
pub Rise-place : (start : ℕ) (ends : List ℕ) (len number : ℕ) → Rise start ends len → number < length ends → (get_or (start ∷ ends) number 0 ≤ get_or ends number 0) × (get_or ends number 0 ≤ len)
Rise-place start [] len number rise lt = absurd (omega arith)
Rise-place start (end ∷ ends) len zero rise lt = (rise.0, Rise-begin end ends len rise.1)
Rise-place start (end ∷ ends) len (suc number) rise lt = Rise-place end ends len number rise.1 (omega arith)

-- one more text at the end of the block
Rise-push : (start : ℕ) (ends : List ℕ) (len n : ℕ) → Rise start ends len → Rise start (ends ++ (len + n) ∷ []) (len + n)
Rise-push start [] len n rise = (omega arith, refl)
Rise-push start (end ∷ ends) len n rise = (rise.0, Rise-push end ends len n rise.1)

-- ---- the texts of a block

-- how many they are
pub length-texts_from : (start : ℕ) (bytes ends : List ℕ) → length (texts_from start bytes ends) ≡ length ends
length-texts_from start bytes [] = refl
length-texts_from start bytes (end ∷ ends) = ap suc (length-texts_from end bytes ends)

-- the one of a number
pub text_at_place : (start : ℕ) (bytes ends : List ℕ) (number : ℕ) → number < length ends → slice_get (texts_from start bytes ends) number ≡ Some (slice_range bytes (get_or (start ∷ ends) number 0) (get_or ends number 0))
text_at_place start bytes [] number lt = absurd (omega arith)
text_at_place start bytes (end ∷ ends) zero lt = refl
text_at_place start bytes (end ∷ ends) (suc number) lt = text_at_place end bytes ends number (omega arith)

-- one more at the end of the block
pub texts_from-push : (start : ℕ) (bytes ends new : List ℕ) → Rise start ends (length bytes) → texts_from start (bytes ++ new) (ends ++ (length bytes + length new) ∷ []) ≡ texts_from start bytes ends ++ new ∷ []
texts_from-push start bytes [] new rise =
    subst (λ s. texts_from s (bytes ++ new) ((length bytes + length new) ∷ []) ≡ new ∷ []) (sym rise) (ap (λ (text : List ℕ). text ∷ []) (range_end bytes new))
texts_from-push start bytes (end ∷ ends) new rise =
    let front : slice_range (bytes ++ new) start end ≡ slice_range bytes start end = range_front bytes new start end rise.0 (Rise-begin end ends (length bytes) rise.1) in
    let behind = texts_from-push end bytes ends new rise.1 in
    ap (λ (text : List ℕ). text ∷ texts_from end (bytes ++ new) (ends ++ (length bytes + length new) ∷ [])) front ∙ ap (λ (texts : List (List ℕ)). slice_range bytes start end ∷ texts) behind

-- what holds of each holds of the one of a number
pub at_number : (P : List ℕ → Type 0) (texts : List (List ℕ)) (number : ℕ) (text : List ℕ) → All P texts → slice_get texts number ≡ Some text → P text
at_number P texts number text all at = subst P (get_or_from_slice_get texts number text text at) (all number text (slice_get_within texts number text at))

-- its hash
pub hash_at : (texts : List (List ℕ)) (hashes : List ℕ) (number : ℕ) (text : List ℕ) → hashes ≡ map hash_of texts → slice_get texts number ≡ Some text → get_or hashes number 0 ≡ hash_of text
hash_at texts hashes number text hashed at =
    ap (λ hs. get_or hs number 0) hashed ∙ get_or-map hash_of texts number text 0 (slice_get_within texts number text at) ∙ ap hash_of (get_or_from_slice_get texts number text text at)

-- no text yet
pub AreTexts-none : (hashes : List ℕ) → hashes ≡ [] → AreTexts [] [] hashes
unfolding IsDistinct
AreTexts-none hashes none = record {
  rise = refl;
  utf8 = λ k d lt. absurd (omega arith);
  distinct = tt;
  hashed = none;
  few = omega arith;
}

-- a new text at the end of the block
pub AreTexts-push : (bytes ends hashes name : List ℕ) (hash : ℕ) → AreTexts bytes ends hashes → IsUtf8 name → number_of (texts_from 0 bytes ends) name ≡ None → hash ≡ hash_of name → length ends < 4294967295 → AreTexts (bytes ++ name) (ends ++ (length bytes + length name) ∷ []) (hashes ++ hash ∷ [])
AreTexts-push bytes ends hashes name hash all utf8 new is few =
    let texts : List (List ℕ) = texts_from 0 bytes ends in
    let end : ℕ = length bytes + length name in
    let more : texts_from 0 (bytes ++ name) (ends ++ end ∷ []) ≡ texts ++ name ∷ [] = texts_from-push 0 bytes ends name all.rise in
    let absent : list_any (bytes_eq name) texts ≡ false = list_any-no_number texts name new in
    let hashed : hashes ++ hash ∷ [] ≡ map hash_of (texts ++ name ∷ []) = ap (λ hs. hs ++ hash ∷ []) all.hashed ∙ ap (λ h. map hash_of texts ++ h ∷ []) is ∙ sym (map_push hash_of texts name) in
    record {
      rise = subst (λ len. Rise 0 (ends ++ end ∷ []) len) (sym (length-append bytes name)) (Rise-push 0 ends (length bytes) (length name) all.rise);
      utf8 = subst (All IsUtf8) (sym more) (All-push IsUtf8 texts name all.utf8 utf8);
      distinct = subst (IsDistinct bytes_eq) (sym more) (IsDistinct-push nat_list_eq_equiv texts name all.distinct absent);
      hashed = hashed ∙ ap (map hash_of) (sym more);
      few = omega (arith, length_push ends end);
    }

-- ---- a walk along the chain of a name

-- the numbers from a place on don't have the name, and the number before it is in the name's chain
pub record IsWalk (texts : List (List ℕ)) (hashes : List ℕ) (chains hash : ℕ) (name : List ℕ) (at : ℕ) : Type 0 where
  pub within : at ≤ length hashes
  pub inside : 0 < at → chain_of chains (get_or hashes (at - 1) 0) ≡ chain_of chains hash
  pub beyond : (k : ℕ) → at ≤ k → k < length hashes → slice_get texts k ≢ Some name

-- a number in another chain has another name
apart : (texts : List (List ℕ)) (hashes : List ℕ) (chains hash : ℕ) (name : List ℕ) (k : ℕ) → hashes ≡ map hash_of texts → hash ≡ hash_of name → chain_of chains (get_or hashes k 0) ≢ chain_of chains hash → slice_get texts k ≢ Some name
apart texts hashes chains hash name k hashed is differ = λ at. differ (ap (chain_of chains) (hash_at texts hashes k name hashed at ∙ sym is))

-- where it begins
pub IsWalk-first : (texts : List (List ℕ)) (hashes : List ℕ) (chains hash : ℕ) (name : List ℕ) (at : ℕ) → hashes ≡ map hash_of texts → hash ≡ hash_of name → IsLast hashes chains (chain_of chains hash) (length hashes) at → IsWalk texts hashes chains hash name at
IsWalk-first texts hashes chains hash name at hashed is last = record {
  within = last.within;
  inside = last.inside;
  beyond = λ k le lt. apart texts hashes chains hash name k hashed is (last.beyond k le lt);
}

-- one step on, past a number that has another name
pub IsWalk-more : (texts : List (List ℕ)) (hashes : List ℕ) (chains hash : ℕ) (name text : List ℕ) (at number next : ℕ) → hashes ≡ map hash_of texts → hash ≡ hash_of name → at ≡ number + 1 → slice_get texts number ≡ Some text → bytes_eq name text ≡ false → IsLast hashes chains (chain_of chains (get_or hashes number 0)) number next → IsWalk texts hashes chains hash name at → IsWalk texts hashes chains hash name next
IsWalk-more texts hashes chains hash name text at number next hashed is from here other last walk =
    let below = walk.within in
    let before = last.within in
    let number_is : at - 1 ≡ number = omega arith in
    let chain : chain_of chains (get_or hashes number 0) ≡ chain_of chains hash = rw number_is at (walk.inside (omega arith)) in
    record {
      within = omega arith;
      inside = λ some. last.inside some ∙ chain;
      beyond = λ k le lt.
          elim (cases_eq k number) [
            | inl same ↦ λ at.
                let is_text : text ≡ name = same_Some text name (sym here ∙ sym (ap (slice_get texts) same) ∙ at) in
                absurd (false≢true (sym other ∙ is_same_name name text (sym is_text)))
            | inr differ ↦
                elim (cases_lt k number) [
                  | inl less ↦
                      apart texts hashes chains hash name k hashed is (λ e. last.beyond k le less (e ∙ sym chain))
                  | inr more ↦ walk.beyond k (omega arith) lt
                ]
          ];
    }

-- where it ends
pub IsWalk-none : (texts : List (List ℕ)) (hashes : List ℕ) (chains hash : ℕ) (name : List ℕ) (at : ℕ) → at ≤ 0 → hashes ≡ map hash_of texts → IsWalk texts hashes chains hash name at → number_of texts name ≡ None
IsWalk-none texts hashes chains hash name at none hashed walk =
    let len : length hashes ≡ length texts = ap length hashed ∙ length-map texts hash_of in
    no_number texts name (λ k lt. walk.beyond k (omega arith) (omega arith))
