-- The text of a handler, term by term and line by line.
use Rattle.std.proofs.Common.{◌≡◌, ◌==◌, ℕ, zero, suc, ◌+◌, ◌<◌, ◌≤◌, true, false, cond, List, [], ◌∷◌, ◌++◌, length, get_or, take, refl, sym, ap, ◌∙◌, arith, append_assoc, append-nil}
use Rattle.std.specs.Prelude.{Option, Some, None, codes}
use Rattle.std.specs.List.{flat_map}
use Rattle.std.proofs.lemmas.Grind.{flat_map-append}
use Rattle.std.proofs.lemmas.List.{take_more}
use Rattle.jm_model.specs.declared.binding.Binding.{Binding}
use Rattle.jm_model.specs.Bindings.{object_at, mask_of}
use Rattle.jm_text.specs.Pieces.{line_feed}
use Rattle.jm_handler.specs.Broken.{broken, broken_byte}
use Rattle.jm_handler.specs.Renderings.{object_text, longer, pieces_of, piece_line, marked_lines}

-- one item more of a text that is written item by item
pub flat_map-next : {X : Type 0} (f : X → List ℕ) (xs : List X) (i : ℕ) (x : X) → i < length xs → x ≡ get_or xs i x
    → flat_map f (take (i + 1) xs) ≡ flat_map f (take i xs) ++ f x
flat_map-next f xs i x h is =
    ap (flat_map f) (take_more xs i x h) ∙ flat_map-append f (take i xs) (get_or xs i x ∷ [])
    ∙ ap (λ y. flat_map f (take i xs) ++ (f y ++ [])) (sym is) ∙ ap (λ t. flat_map f (take i xs) ++ t) (append-nil (f x))

-- a text is written as its parts are
pub broken-append : (a b : List ℕ) → broken (a ++ b) ≡ broken a ++ broken b
broken-append a b = flat_map-append broken_byte a b

-- ---- lines
first_longer : (b : ℕ) (pieces : List (List ℕ)) (rest : List ℕ) → flat_map piece_line pieces ≡ codes "  > " ++ rest
    → flat_map piece_line (longer b pieces) ≡ codes "  > " ++ b ∷ rest
first_longer b [] rest e = cc
first_longer b (p ∷ ps) rest e =
    let tail : p ++ codes "\n" ++ flat_map piece_line ps ≡ rest = cc in
    ap (λ t. codes "  > " ++ b ∷ t) tail

-- the lines of a text, as they are written
pub marked_lines-broken : (text : List ℕ) → marked_lines text ≡ codes "  > " ++ broken text ++ codes "\n"
marked_lines-broken [] = refl
marked_lines-broken (b ∷ bs) =
    let rest = marked_lines-broken bs in
    elim (b == line_feed) as (λ v. flat_map piece_line (cond v ([] ∷ pieces_of bs) (longer b (pieces_of bs))) ≡ codes "  > " ++ (cond v (codes "\n  > ") (b ∷ []) ++ broken bs) ++ codes "\n") [
      | true ↦ ap (λ t. codes "  > \n" ++ t) rest
      | false ↦ first_longer b (pieces_of bs) (broken bs ++ codes "\n") rest
    ]

pub written_lines : (start begun written text : List ℕ) → begun ≡ start ++ codes "  > " → written ≡ begun ++ broken text
    → written ++ codes "\n" ≡ start ++ marked_lines text
written_lines start begun written text b w =
    ap (λ p. p ++ codes "\n") (w ∙ ap (λ p. p ++ broken text) b) ∙ append_assoc (start ++ codes "  > ") (broken text) (codes "\n")
    ∙ append_assoc start (codes "  > ") (broken text ++ codes "\n") ∙ ap (λ p. start ++ p) (sym (marked_lines-broken text))

-- ---- objects
pub unbound_at : (b : Binding) (p : ℕ) → mask_of b ≡ 0 → object_at b p ≡ None
unbound_at [] p none = refl
unbound_at (None ∷ b) zero none = refl
unbound_at (None ∷ b) (suc p) none = unbound_at b p (omega arith)
unbound_at (Some o ∷ b) p none = absurd (omega arith)

pub past_the_end : (b : Binding) (p : ℕ) → length b ≤ p → object_at b p ≡ None
past_the_end [] p h = refl
past_the_end (x ∷ b) zero h = absurd (omega arith)
past_the_end (x ∷ b) (suc p) h = past_the_end b p (omega arith)

pub null_text : (objects : List (List ℕ)) (o : Option ℕ) → o ≡ None → codes "null" ≡ object_text objects o
null_text objects o e = ap (object_text objects) (sym e)
