-- What a handler that ran prints after its line.
use Rattle.std.proofs.Common.{◌≡◌, ℕ, zero, suc, List, [], ◌∷◌, ◌++◌, get_or, length, refl, sym, ap, ◌∙◌, append_assoc, append-nil, lit<, arith}
use Rattle.std.specs.Prelude.{codes, decimal}
use Rattle.std.specs.List.{flat_map}
use Rattle.std.proofs.lemmas.Fmt.{decimal_digit}
use Rattle.jm_model.specs.declared.firings.Firing.{Firing}
use Rattle.jm_handler.specs.declared.term.Term.{Term}
use Rattle.jm_handler.specs.Renderings.{occasion, handler_text}
use Rattle.jm_print.specs.Lexicons.{Lexicon, statements_of}
use Rattle.jm_print.specs.Texts.{firing_text, run_text_at}

statements_of-get_or : (statements : List (List (List Term))) (k : ℕ) → statements_of statements k ≡ get_or statements k []
statements_of-get_or [] k = refl
statements_of-get_or (x ∷ xs) zero = refl
statements_of-get_or (x ∷ xs) (suc k) = statements_of-get_or xs k

pub printed_at : (statements handlers : List (List (List Term))) (k n : ℕ) (printed : List (List Term)) → handlers ≡ statements → n ≡ k → printed ≡ get_or handlers n []
    → printed ≡ statements_of statements k
printed_at statements handlers k n printed same number is = is ∙ (λ j. get_or (same j) (number j) []) ∙ sym (statements_of-get_or statements k)

pub run_text-written : (l : Lexicon) (caller line : ℕ) (f : Firing) (start page : List ℕ) (printed : List (List Term)) → page ≡ start ++ firing_text l f
    → printed ≡ statements_of l.statements f.handler → page ++ handler_text (occasion f.instance l.objects caller line) printed ≡ start ++ run_text_at l caller line f
run_text-written l caller line f start page printed first is =
    let at = occasion f.instance l.objects caller line in
    let own = handler_text at (statements_of l.statements f.handler) in
    (λ j. first j ++ handler_text at (is j)) ∙ append_assoc start (firing_text l f) own

-- where no handler ran, the rest of the line is the same text each time
pub fired_none : (l : Lexicon) (caller line : ℕ) (firings : List Firing) → length firings ≡ 0
    → codes " fired 0\n" ≡ codes " fired " ++ decimal (length firings) ++ codes "\n" ++ flat_map (run_text_at l caller line) firings
fired_none l caller line [] none =
    ap (λ (t : List ℕ). codes " fired " ++ t ++ codes "\n") (sym (decimal_digit 0 (lit< tt)))
    ∙ sym (append-nil (codes " fired " ++ decimal 0 ++ codes "\n"))
fired_none l caller line (f ∷ fs) none = absurd (omega (arith, none))

-- and where one ran
pub fired_one : (l : Lexicon) (caller line : ℕ) (firings : List Firing) (page written : List ℕ) → length firings ≡ 1 → written ≡ page ++ codes " fired 1\n"
    → written ++ flat_map (run_text_at l caller line) firings
    ≡ page ++ (codes " fired " ++ decimal (length firings) ++ codes "\n" ++ flat_map (run_text_at l caller line) firings)
fired_one l caller line firings page written one head =
    let own = flat_map (run_text_at l caller line) firings in
    let number : decimal (length firings) ≡ codes "1" = ap decimal one ∙ decimal_digit 1 (lit< tt) in
    ap (λ t. t ++ own) head ∙ append_assoc page (codes " fired 1\n") own
    ∙ ap (λ (t : List ℕ). page ++ (codes " fired " ++ t ++ codes "\n" ++ own)) (sym number)
