-- The text of a history tells the history, also without the lines that handlers print.
use Rattle.std.proofs.Common.{◌≡◌, ℕ, List, [], ◌∷◌, ◌++◌, length, sym, ◌∙◌, ap, refl, append_assoc}
use Rattle.std.specs.Prelude.{codes, decimal}
use Rattle.std.specs.List.{flat_map}
use Rattle.jm_model.specs.declared.step.Entry.{Entry}
use Rattle.jm_print.specs.Lexicons.{Lexicon}
use Rattle.jm_print.specs.Texts.{entry_text, full_entry_text, bare_text, history_text}
use Rattle.jm_print.specs.Told.{IsName, HasNames, AreTold, HaveNames, AreToldBy, texts_of}
use Rattle.jm_print.specs.Unmarked.{unmarked}
use Rattle.jm_print.proofs.Cutting.{name-lacks_line_feed}
use Rattle.jm_print.proofs.HistoriesTold.{same_front, entries-same}
use Rattle.jm_print.proofs.MarkedLines.{entries-stay, unmarked-front, end-stays, title-stays}

-- the last line of a text, and what is after it
abbrev ended : List Entry → List ℕ → List ℕ
ended h s = 101 ∷ (codes "nd " ++ (decimal (length h) ++ 10 ∷ s))

history_text-cons : (l : Lexicon) (h : List Entry) (s : List ℕ) → history_text l h ++ s ≡ (codes "spec " ++ l.specification) ++ 10 ∷ (flat_map (full_entry_text l) h ++ ended h s)
history_text-cons l h s = simp append_assoc

bare_text-cons : (l : Lexicon) (h : List Entry) → bare_text l h ≡ codes "spec " ++ (l.specification ++ 10 ∷ (flat_map (entry_text l) h ++ ended h []))
bare_text-cons l h = simp append_assoc

-- what stays of the entries and of the last line tells the entries
entries-told : (l : Lexicon) (h g : List Entry) (s t : List ℕ) → HasNames l → AreTold l h → AreTold l g
    → unmarked (flat_map (full_entry_text l) h ++ ended h s) ≡ unmarked (flat_map (full_entry_text l) g ++ ended g t) → h ≡ g
entries-told l h g s t names m n e =
    (entries-same l h g _ _ names m n (sym (entries-stay l h (ended h s) names m) ∙ e ∙ entries-stay l g (ended g t) names n)).0

pub text-told : (l : Lexicon) (h g : List Entry) (s t : List ℕ) → HasNames l → AreTold l h → AreTold l g → history_text l h ++ s ≡ history_text l g ++ t → (h ≡ g) × (s ≡ t)
text-told l h g s t names m n e =
    let title = codes "spec " ++ l.specification in
    let A = flat_map (full_entry_text l) h ++ ended h s in
    let B = flat_map (full_entry_text l) g ++ ended g t in
    let whole = sym (history_text-cons l h s) ∙ e ∙ history_text-cons l g t in
    let behind = same_front (10 ∷ []) A B (same_front title (10 ∷ A) (10 ∷ B) whole) in
    let same = entries-told l h g s t names m n (ap unmarked behind) in
    (same, same_front (history_text l h) s t (e ∙ ap (λ k. history_text l k ++ t) (sym same)))

-- the lines that stay tell the history
pub lines-told : (l : Lexicon) (h g : List Entry) → HasNames l → AreTold l h → AreTold l g → unmarked (history_text l h ++ []) ≡ unmarked (history_text l g ++ []) → h ≡ g
lines-told l h g names m n e =
    let title = codes "spec " ++ l.specification in
    let A = flat_map (full_entry_text l) h ++ ended h [] in
    let B = flat_map (full_entry_text l) g ++ ended g [] in
    let whole : unmarked (title ++ 10 ∷ A) ≡ unmarked (title ++ 10 ∷ B) = ap unmarked (sym (history_text-cons l h [])) ∙ e ∙ ap unmarked (history_text-cons l g []) in
    let parts = sym (unmarked-front title A) ∙ whole ∙ unmarked-front title B in
    entries-told l h g [] [] names m n (same_front (unmarked (title ++ 10 ∷ [])) (unmarked A) (unmarked B) parts)

-- the lines that stay are those without a handler's
pub unmarked-history : (l : Lexicon) (h : List Entry) → HasNames l → AreTold l h → IsName l.specification → unmarked (history_text l h ++ []) ≡ bare_text l h
unmarked-history l h names m plain =
    let entries = flat_map (full_entry_text l) h in
    let name = l.specification in
    ap unmarked (history_text-cons l h [] ∙ append_assoc (codes "spec ") name (10 ∷ (entries ++ ended h [])))
    ∙ title-stays name (entries ++ ended h []) (name-lacks_line_feed name plain)
    ∙ ap (λ t. codes "spec " ++ (name ++ 10 ∷ t)) (entries-stay l h (ended h []) names m ∙ ap (λ t. flat_map (entry_text l) h ++ t) (end-stays (length h) []))
    ∙ sym (bare_text-cons l h)

pub texts_are_told : (ls : List Lexicon) (hs gs : List (List Entry)) (s t : List ℕ) → HaveNames ls → AreToldBy ls hs → AreToldBy ls gs → texts_of ls hs ++ s ≡ texts_of ls gs ++ t → (hs ≡ gs) × (s ≡ t)
texts_are_told [] [] [] s t names m n e = (refl, e)
texts_are_told [] [] (g ∷ gs) s t names m n e = absurd n
texts_are_told [] (h ∷ hs) gs s t names m n e = absurd m
texts_are_told (l ∷ ls) [] gs s t names m n e = absurd m
texts_are_told (l ∷ ls) (h ∷ hs) [] s t names m n e = absurd n
texts_are_told (l ∷ ls) (h ∷ hs) (g ∷ gs) s t names m n e =
    let first = text-told l h g (texts_of ls hs ++ s) (texts_of ls gs ++ t) names.0 m.0 n.0 (sym (append_assoc (history_text l h) (texts_of ls hs) s) ∙ e ∙ append_assoc (history_text l g) (texts_of ls gs) t) in
    let rest = texts_are_told ls hs gs s t names.1 m.1 n.1 first.1 in
    ((λ j. first.0 j ∷ rest.0 j), rest.1)
