-- Lists of nodes, as the reader makes them.
use Rattle.std.proofs.Common.{ℕ, ◌≡◌, ◌+◌, ◌-◌, List, [], ◌∷◌, ◌++◌, length, refl, sym, ap, ◌∙◌, arith, append_assoc, append-nil, length-append}
use Rattle.jm_text.specs.declared.token.Token.{Token}
use Rattle.jm_ptltl.specs.declared.formula.Unary.{Unary}
use Rattle.jm_ptltl.specs.declared.formula.Binary.TheVariants.{Implies}
use Rattle.jm_ptltl.specs.declared.formula.Node.{Node}
use Rattle.jm_ptltl.specs.declared.formula.Node.TheVariants.{Prefix, Infix}
use Rattle.jm_ptltl.specs.Formulas.{Formula, unary, postfix}
use Rattle.jm_ptltl.specs.Rules.{grouped}

-- the nodes of these operators, the last of them first
abbrev pub behind_all : List Unary → List (Node Token)
behind_all [] = []
behind_all (op ∷ ops) = behind_all ops ++ Prefix op ∷ []

-- the nodes of `=>`, the last of them first: their right parts begin at these places, and so many nodes stand before
abbrev pub closing : List ℕ → ℕ → List (Node Token)
closing [] count = []
closing (start ∷ starts) count = closing starts count ++ Infix Implies (count + length starts - start) ∷ []

-- the nodes of formulas one after the other
abbrev pub postfix_all : List (Formula Token) → List (Node Token)
postfix_all [] = []
postfix_all (f ∷ fs) = postfix f ++ postfix_all fs

-- where each of them ends, after so many nodes
abbrev pub ends_of : ℕ → List (Formula Token) → List ℕ
ends_of base [] = []
ends_of base (f ∷ fs) = (base + length (postfix f)) ∷ ends_of (base + length (postfix f)) fs

abbrev only : Node Token → List (Node Token)
only x = x ∷ []

-- the last operator goes first
pub behind_all-push : (ops : List Unary) (op : Unary) → behind_all (ops ++ op ∷ []) ≡ only (Prefix op) ++ behind_all ops
behind_all-push [] op = refl
behind_all-push (o ∷ ops) op = ap (λ l. l ++ only (Prefix o)) (behind_all-push ops op)

pub apply_more : (nodes : List (Node Token)) (ops : List Unary) (op : Unary) → (nodes ++ only (Prefix op)) ++ behind_all ops ≡ nodes ++ behind_all (ops ++ op ∷ [])
apply_more nodes ops op = append_assoc nodes (only (Prefix op)) (behind_all ops) ∙ ap (λ l. nodes ++ l) (sym (behind_all-push ops op))

-- the operators over a formula
abbrev pub unary_all : List Unary → Formula Token → Formula Token
unary_all [] f = f
unary_all (op ∷ ops) f = unary op (unary_all ops f)

pub postfix-unary_all : (ops : List Unary) (f : Formula Token) → postfix (unary_all ops f) ≡ postfix f ++ behind_all ops
postfix-unary_all [] f = sym (append-nil (postfix f))
postfix-unary_all (op ∷ ops) f = ap (λ l. l ++ only (Prefix op)) (postfix-unary_all ops f) ∙ append_assoc (postfix f) (behind_all ops) (only (Prefix op))

-- the last `=>` goes first
pub closing-push : (starts : List ℕ) (start count : ℕ) → closing (starts ++ start ∷ []) count ≡ only (Infix Implies (count - start)) ++ closing starts (count + 1)
closing-push [] start count = ap (λ k. only (Infix Implies k)) (omega arith)
closing-push (s ∷ starts) start count =
    ap (λ l. l ++ only (Infix Implies (count + length (starts ++ start ∷ []) - s))) (closing-push starts start count)
    ∙ ap (λ k. (only (Infix Implies (count - start)) ++ closing starts (count + 1)) ++ only (Infix Implies k)) (omega (arith, length-append starts (start ∷ [])))

pub close_more : (nodes : List (Node Token)) (starts : List ℕ) (start right : ℕ) → right ≡ length nodes - start
    → (nodes ++ only (Infix Implies right)) ++ closing starts (length (nodes ++ only (Infix Implies right))) ≡ nodes ++ closing (starts ++ start ∷ []) (length nodes)
close_more nodes starts start right e =
    append_assoc nodes (only (Infix Implies right)) (closing starts (length (nodes ++ only (Infix Implies right))))
    ∙ ap (λ k. nodes ++ (only (Infix Implies right) ++ closing starts k)) (length-append nodes (only (Infix Implies right)))
    ∙ ap (λ k. nodes ++ (only (Infix Implies k) ++ closing starts (length nodes + 1))) e
    ∙ ap (λ l. nodes ++ l) (sym (closing-push starts start (length nodes)))

pub length-closing : (starts : List ℕ) (count : ℕ) → length (closing starts count) ≡ length starts
length-closing [] count = refl
length-closing (s ∷ starts) count = length-append (closing starts count) (only (Infix Implies (count + length starts - s))) ∙ omega (arith, length-closing starts count)

-- formulas with `=>` between them: their nodes, and then those of `=>`
pub postfix-grouped : (fs : List (Formula Token)) (f : Formula Token) (base count : ℕ) → count ≡ base + length (postfix_all fs) + length (postfix f)
    → postfix (grouped fs f) ≡ (postfix_all fs ++ postfix f) ++ closing (ends_of base fs) count
postfix-grouped [] f base count e = sym (append-nil (postfix f))
postfix-grouped (g ∷ fs) f base count e =
    let end = base + length (postfix g) in
    let all = postfix_all fs ++ postfix f in
    let ends = ends_of end fs in
    let more = postfix-grouped fs f end count (omega (arith, e, length-append (postfix g) (postfix_all fs))) in
    let size : length (postfix (grouped fs f)) ≡ count + length ends - end =
    ap (λ l. length l) more ∙ omega (arith, e, length-append all (closing ends count), length-append (postfix_all fs) (postfix f), length-closing ends count, length-append (postfix g) (postfix_all fs)) in
    let last = only (Infix Implies (count + length ends - end)) in
    ap (λ k. postfix g ++ (postfix (grouped fs f) ++ only (Infix Implies k))) size
    ∙ ap (λ l. postfix g ++ (l ++ last)) more
    ∙ ap (λ l. postfix g ++ l) (append_assoc all (closing ends count) last)
    ∙ sym (append_assoc (postfix g) all (closing ends count ++ last))
    ∙ ap (λ l. l ++ (closing ends count ++ last)) (sym (append_assoc (postfix g) (postfix_all fs) (postfix f)))

-- one formula more
pub postfix_all-push : (fs : List (Formula Token)) (f : Formula Token) → postfix_all (fs ++ f ∷ []) ≡ postfix_all fs ++ postfix f
postfix_all-push [] f = append-nil (postfix f)
postfix_all-push (g ∷ fs) f = ap (λ l. postfix g ++ l) (postfix_all-push fs f) ∙ sym (append_assoc (postfix g) (postfix_all fs) (postfix f))

pub ends_of-push : (base : ℕ) (fs : List (Formula Token)) (f : Formula Token) → ends_of base (fs ++ f ∷ []) ≡ ends_of base fs ++ (base + length (postfix_all fs) + length (postfix f)) ∷ []
ends_of-push base [] f = ap (λ k. k ∷ []) (omega arith)
ends_of-push base (g ∷ fs) f =
    ap (λ l. (base + length (postfix g)) ∷ l) (ends_of-push (base + length (postfix g)) fs f
    ∙ ap (λ k. ends_of (base + length (postfix g)) fs ++ k ∷ []) (omega (arith, length-append (postfix g) (postfix_all fs))))
