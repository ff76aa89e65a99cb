-- Which step comes next.
use Rattle.std.proofs.Common.{◌≡◌, ◌≢◌, ℕ, zero, suc, ◌<◌, ◌≤◌, List, [], ◌∷◌, ◌++◌, length, take, drop, refl, sym, ap, ◌∙◌, subst, inl, inr, arith}
use Rattle.std.specs.Prelude.{Some, None, All, slice_get}
use Rattle.std.proofs.lemmas.Option.{none-some, same_Some}
use Rattle.std.proofs.lemmas.List.{append_assoc, take_all}
use Rattle.std.proofs.lemmas.List.Elements.{All-nil, All-cons, All-head, All-tail, All-weaker, All-contains}
use mathlib.Core.List.{IsPrefix}
use Rattle.jm_model.specs.Words.{Text}
use Rattle.jm_audit.specs.Pending.{IsFirstAt, IsChoice, mark}
use Rattle.jm_audit.specs.declared.pending.Pending.{Pending}

-- a step in front of which no other of its caller stands
first_at : (pending : List Pending) (place : ℕ) (p : Pending) → slice_get pending place ≡ Some p → All (λ q. q.caller ≢ p.caller) (take place pending)
    → IsFirstAt pending place p
first_at [] place p at apart = absurd (none-some p at)
first_at (x ∷ xs) zero p at apart =
    record { front = []; back = xs; is = ap (λ z. z ∷ xs) (same_Some x p at); at = refl; first = All-nil (λ (q : Pending). q.caller ≢ p.caller) }
first_at (x ∷ xs) (suc n) p at apart =
    let other = λ (q : Pending). q.caller ≢ p.caller in
    let rest = first_at xs n p at (All-tail other x (take n xs) apart) in
    record {
      front = x ∷ rest.front;
      back = rest.back;
      is = ap (λ l. x ∷ l) rest.is;
      at = ap suc rest.at;
      first = All-cons other x rest.front (All-head other x (take n xs) apart) rest.first;
    }

-- the caller isn't the one that the text is marked with
abbrev pub IsUnmarked : Text → Pending → Type 0
IsUnmarked rest p = IsPrefix (mark p.caller) rest → ⊥

-- the first step of all
got : (pending : List Pending) → 0 < length pending → (p : Pending) × (slice_get pending 0 ≡ Some p)
got [] some = absurd (omega (arith, some))
got (p ∷ pending) some = (p, refl)

first_of_all : (pending : List Pending) (p : Pending) → slice_get pending 0 ≡ Some p → IsFirstAt pending 0 p
first_of_all [] p at = absurd (none-some p at)
first_of_all (x ∷ xs) p at = first_at (x ∷ xs) 0 p at (All-nil (λ (q : Pending). q.caller ≢ p.caller))

pub choice_marked : (pending : List Pending) (rest : Text) (place : ℕ) (p : Pending) → slice_get pending place ≡ Some p
    → All (IsUnmarked rest) (take place pending) → IsPrefix (mark p.caller) rest → IsChoice pending (Some rest) place
choice_marked pending rest place p at before marked =
    record {
      step = p;
      is = at;
      first = first_at pending place p at (All-weaker (IsUnmarked rest) (λ (q : Pending). q.caller ≢ p.caller)
          (λ q none same. none (subst (λ c. IsPrefix (mark c) rest) (sym same) marked)) (take place pending) before);
      marked = inl marked;
    }

pub choice_unmarked : (pending : List Pending) (rest : Text) (n : ℕ) → 0 < length pending → length pending ≤ n → All (IsUnmarked rest) (take n pending)
    → IsChoice pending (Some rest) 0
choice_unmarked pending rest n some all before =
    let p = got pending some in
    let each : All (IsUnmarked rest) pending = subst (All (IsUnmarked rest)) (take_all n pending all) before in
    record {
      step = p.0;
      is = p.1;
      first = first_of_all pending p.0 p.1;
      marked = inr (λ q among. All-contains (IsUnmarked rest) pending q each among);
    }

pub choice_free : (pending : List Pending) → 0 < length pending → IsChoice pending None 0
choice_free pending some =
    let p = got pending some in
    record { step = p.0; is = p.1; first = first_of_all pending p.0 p.1; marked = tt }

-- ---- the mark of a number of these digits
at_front : (digits w : Text) → slice_get (digits ++ w) (length digits) ≡ slice_get w 0
at_front [] w = refl
at_front (c ∷ digits) w = at_front digits w

colon : (w : Text) → slice_get w 0 ≡ Some 58 → (v : Text) × (w ≡ 58 ∷ v)
colon [] at = absurd (none-some 58 at)
colon (x ∷ w) at = (w, ap (λ y. y ∷ w) (same_Some x 58 at))

pub marked_by : (digits text : Text) → text ≡ digits ++ drop (length digits) text → slice_get text (length digits) ≡ Some 58 → IsPrefix (digits ++ 58 ∷ []) text
marked_by digits text is at =
    let w = drop (length digits) text in
    let tail = colon w (sym (at_front digits w) ∙ subst (λ t. slice_get t (length digits) ≡ Some 58) is at) in
    (tail.0, append_assoc digits (58 ∷ []) tail.0 ∙ ap (λ t. digits ++ t) (sym tail.1) ∙ sym is)

-- what a marked text begins with
pub digits_first : (digits text : Text) → (m : IsPrefix (digits ++ 58 ∷ []) text) → text ≡ digits ++ 58 ∷ m.0
digits_first digits text m = sym m.1 ∙ append_assoc digits (58 ∷ []) m.0

pub colon_there : (digits text : Text) → IsPrefix (digits ++ 58 ∷ []) text → slice_get text (length digits) ≡ Some 58
colon_there digits text m = subst (λ t. slice_get t (length digits) ≡ Some 58) (sym (digits_first digits text m)) (at_front digits (58 ∷ m.0))
