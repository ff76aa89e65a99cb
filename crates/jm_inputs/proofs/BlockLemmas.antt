-- What the properties of a tree say beside their rules, one after the other.
use Rattle.std.proofs.Common.{◌≡◌, ℕ, ◌+◌, ◌<◌, List, [], ◌∷◌, ◌++◌, length, get_or, map, take, refl, ap, sym, subst, ◌∙◌, append_assoc, append-nil}
use Rattle.std.specs.Prelude.{slice_range}
use Rattle.std.proofs.lemmas.List.{take_more, map_push}
use Rattle.std.proofs.lemmas.Grind.{flat_map-append}
use Rattle.jm_text.specs.declared.token.Token.{Token}
use Rattle.jm_handler.specs.declared.term.Term.{Term}
use Rattle.jm_handler.specs.Blocks.{Says}
use Rattle.jm_spec.specs.declared.property.HandlerText.{HandlerText}
use Rattle.jm_spec.specs.declared.tree.Logic.{Logic}
use Rattle.jm_spec.specs.declared.tree.PropertyTree.{PropertyTree}
use Rattle.jm_spec.specs.Trees.{PropertyFacts, facts_of}
use Rattle.jm_inputs.specs.Specifications.{logics_of, all_handlers, BlocksSay}

module _ (bytes : List ℕ) (tokens : List Token) (ps : List (List ℕ)) where
  one_more : (hs : List HandlerText) (h : HandlerText) (texts : List (List (List Term))) (text : List (List Term)) → BlocksSay bytes tokens ps hs texts
      → Says bytes ps (slice_range tokens h.first h.last) text → BlocksSay bytes tokens ps (hs ++ h ∷ []) (texts ++ text ∷ [])
  one_more [] h texts text none says = (text, [], ap (λ (v : List (List (List Term))). v ++ text ∷ []) none, says, refl)
  one_more (x ∷ hs) h texts text (first, more, e, said, rest) says =
      (first, more ++ text ∷ [], ap (λ (v : List (List (List Term))). v ++ text ∷ []) e, said, one_more hs h more text rest says)

  -- a block more, at a place of the handlers, which stand after others
  pub BlocksSay-more : (before hs : List HandlerText) (i : ℕ) (d : HandlerText) (texts new : List (List (List Term))) (text : List (List Term)) (block : List Token) → i < length hs
      → BlocksSay bytes tokens ps (before ++ take i hs) texts → block ≡ slice_range tokens (get_or hs i d).first (get_or hs i d).last → Says bytes ps block text → new ≡ texts ++ text ∷ []
      → BlocksSay bytes tokens ps (before ++ take (i + 1) hs) new
  BlocksSay-more before hs i d texts new text block h say cut said added =
      let says = subst (λ (v : List Token). Says bytes ps v text) cut said in
      let longer : before ++ take (i + 1) hs ≡ (before ++ take i hs) ++ get_or hs i d ∷ [] = ap (λ (v : List HandlerText). before ++ v) (take_more hs i d h) ∙ sym (append_assoc before (take i hs) (get_or hs i d ∷ [])) in
      subst (λ (v : List HandlerText). BlocksSay bytes tokens ps v new) (sym longer)
      (subst (λ (v : List (List (List Term))). BlocksSay bytes tokens ps ((before ++ take i hs) ++ get_or hs i d ∷ []) v) (sym added) (one_more (before ++ take i hs) (get_or hs i d) texts text say says))

-- the facts of one property more
facts_more : (trees : List PropertyTree) (i : ℕ) (t : PropertyTree) → i < length trees → t ≡ get_or trees i t → map facts_of (take (i + 1) trees) ≡ map facts_of (take i trees) ++ facts_of t ∷ []
facts_more trees i t less here = ap (map facts_of) (take_more trees i t less ∙ ap (λ (v : PropertyTree). take i trees ++ v ∷ []) (sym here)) ∙ map_push facts_of (take i trees) t

handlers_push : (ps : List PropertyFacts) (p : PropertyFacts) → all_handlers (ps ++ p ∷ []) ≡ all_handlers ps ++ p.handlers
handlers_push ps p = flat_map-append (λ (q : PropertyFacts). q.handlers) ps (p ∷ []) ∙ ap (λ (v : List HandlerText). all_handlers ps ++ v) (append-nil p.handlers)

-- the blocks of one property more
pub property_said : (bytes : List ℕ) (tokens : List Token) (ps : List (List ℕ)) (trees : List PropertyTree) (i : ℕ) (t : PropertyTree) → i < length trees → t ≡ get_or trees i t → (texts new : List (List (List Term)))
    → BlocksSay bytes tokens ps (all_handlers (map facts_of (take i trees))) texts → ((before : List HandlerText) → BlocksSay bytes tokens ps before texts → BlocksSay bytes tokens ps (before ++ t.handlers.items) new)
    → BlocksSay bytes tokens ps (all_handlers (map facts_of (take (i + 1) trees))) new
property_said bytes tokens ps trees i t less here texts new say more =
    let before = map facts_of (take i trees) in
    let longer : all_handlers (map facts_of (take (i + 1) trees)) ≡ all_handlers before ++ t.handlers.items = ap all_handlers (facts_more trees i t less here) ∙ handlers_push before (facts_of t) in
    subst (λ (v : List HandlerText). BlocksSay bytes tokens ps v new) (sym longer) (more (all_handlers before) say)

-- the logic of one property more
pub logic_added : (trees : List PropertyTree) (i : ℕ) (t : PropertyTree) → i < length trees → t ≡ get_or trees i t → (logics new : List Logic)
    → logics ≡ logics_of (map facts_of (take i trees)) → new ≡ logics ++ t.logic ∷ [] → new ≡ logics_of (map facts_of (take (i + 1) trees))
logic_added trees i t less here logics new so_far added =
    added ∙ ap (λ (v : List Logic). v ++ t.logic ∷ []) so_far
    ∙ sym (ap logics_of (facts_more trees i t less here) ∙ map_push (λ (p : PropertyFacts). p.logic) (map facts_of (take i trees)) (facts_of t))
