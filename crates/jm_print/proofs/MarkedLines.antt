-- The lines that handlers print can be dropped: what stays of a history's text.
use Rattle.std.proofs.Common.{◌≡◌, ◌≢◌, ℕ, ◌<◌, ◌==◌, Bool, true, false, cond, List, [], ◌∷◌, ◌++◌, length, refl, sym, ◌∙◌, ap, subst, inl, arith, append_assoc}
use Rattle.std.specs.Prelude.{codes, decimal, not, ◌&&◌}
use Rattle.std.specs.List.{flat_map}
use mathlib.Core.Bool.{true≢false}
use Rattle.std.proofs.lemmas.Bool.{eq-eqb, ne_eqb}
use Rattle.jm_model.specs.declared.binding.Binding.{Binding}
use Rattle.jm_model.specs.declared.firings.Firing.{Firing}
use Rattle.jm_model.specs.declared.step.Step.{Step}
use Rattle.jm_model.specs.declared.step.Outcome.{Outcome}
use Rattle.jm_model.specs.declared.step.Entry.{Entry}
use Rattle.jm_handler.specs.declared.term.Term.{Term}
use Rattle.jm_handler.specs.Renderings.{Occasion, occasion, statement_text, longer, pieces_of, piece_line, marked_lines, handler_text}
use Rattle.jm_print.specs.Lexicons.{Lexicon, name_of, statements_of}
use Rattle.jm_print.specs.Texts.{binding_text, firing_text, run_text, outcome_text, step_text, entry_text, full_entry_text, HasNamesFrom, IsPrintableFiring, IsPrintableStep}
use Rattle.jm_print.specs.Told.{AreNames, HasNames, FitsStep, IsTold, AreTold}
use Rattle.jm_print.specs.Unmarked.{stays, rest_that_stays, unmarked}
use Rattle.jm_print.proofs.Cutting.{Lacks, Lacks-append, name-lacks_line_feed, AreDigits, decimal-digits, digits-lack}
use Rattle.jm_print.proofs.BindingsTold.{name-plain, lacks_pairs}
use Rattle.jm_print.proofs.HistoriesTold.{apart, ArePrintable, printable_firings, Row, fired, unfired, died, dead, passed, step_of, outcome_of, IsRow, row_of}

-- ---- one line
line_that_stays : (line rest : List ℕ) → Lacks 10 line → rest_that_stays true (line ++ 10 ∷ rest) ≡ line ++ 10 ∷ unmarked rest
line_that_stays [] rest h = refl
line_that_stays (c ∷ cs) rest h = rw (ne_eqb c 10 h.0) (ap (λ t. c ∷ t) (line_that_stays cs rest h.1))

line_that_goes : (line rest : List ℕ) → Lacks 10 line → rest_that_stays false (line ++ 10 ∷ rest) ≡ unmarked rest
line_that_goes [] rest h = refl
line_that_goes (c ∷ cs) rest h = rw (ne_eqb c 10 h.0) (line_that_goes cs rest h.1)

unmarked-line : (line rest : List ℕ) → Lacks 10 line → stays (line ++ 10 ∷ rest) ≡ true → unmarked (line ++ 10 ∷ rest) ≡ line ++ 10 ∷ unmarked rest
unmarked-line line rest h is = ap (λ v. rest_that_stays v (line ++ 10 ∷ rest)) is ∙ line_that_stays line rest h

no_feed : (b : ℕ) → (b == 10) ≡ false → b ≢ 10
no_feed b e = λ same. absurd (true≢false (sym (eq-eqb b 10 same) ∙ e))

-- ---- what a handler prints
abbrev AllLack : List (List ℕ) → Type 0
AllLack [] = Unit {0}
AllLack (p ∷ ps) = Lacks 10 p × AllLack ps

longer-lacks : (b : ℕ) (ps : List (List ℕ)) → b ≢ 10 → AllLack ps → AllLack (longer b ps)
longer-lacks b [] other h = ((other, tt), tt)
longer-lacks b (p ∷ ps) other h = ((other, h.0), h.1)

pieces-lack : (text : List ℕ) → AllLack (pieces_of text)
pieces-lack [] = (tt, tt)
pieces-lack (b ∷ bs) = go (pieces-lack bs) (b == 10) refl
  where
    go : AllLack (pieces_of bs) → (v : Bool) → (b == 10) ≡ v → AllLack (cond v ([] ∷ pieces_of bs) (longer b (pieces_of bs)))
    go rest true e = (tt, rest)
    go rest false e = longer-lacks b (pieces_of bs) (no_feed b e) rest

piece-goes : (piece rest : List ℕ) → Lacks 10 piece → unmarked (piece_line piece ++ rest) ≡ unmarked rest
piece-goes piece rest h =
    let line = codes "  > " ++ piece in
    let cut : piece_line piece ++ rest ≡ line ++ 10 ∷ rest = append_assoc line (10 ∷ []) rest in
    ap unmarked cut ∙ line_that_goes line rest (apart 32 10 refl, (apart 32 10 refl, (apart 62 10 refl, (apart 32 10 refl, h))))

pieces-go : (pieces : List (List ℕ)) (rest : List ℕ) → AllLack pieces → unmarked (flat_map piece_line pieces ++ rest) ≡ unmarked rest
pieces-go [] rest h = refl
pieces-go (p ∷ ps) rest h =
    ap unmarked (append_assoc (piece_line p) (flat_map piece_line ps) rest) ∙ piece-goes p (flat_map piece_line ps ++ rest) h.0 ∙ pieces-go ps rest h.1

handler_text-goes : (at : Occasion) (statements : List (List Term)) (rest : List ℕ) → unmarked (handler_text at statements ++ rest) ≡ unmarked rest
handler_text-goes at [] rest = refl
handler_text-goes at (terms ∷ statements) rest =
    let first = marked_lines (statement_text at terms) in
    ap unmarked (append_assoc first (handler_text at statements) rest)
    ∙ pieces-go (pieces_of (statement_text at terms)) (handler_text at statements ++ rest) (pieces-lack (statement_text at terms))
    ∙ handler_text-goes at statements rest

-- ---- the line of a handler that ran
name-feedless : (names : List (List ℕ)) (k : ℕ) → AreNames names → k < length names → Lacks 10 (name_of names k)
name-feedless names k h within = name-lacks_line_feed (name_of names k) (name-plain names k h within)

binding-feedless : (l : Lexicon) (b : Binding) → HasNames l → HasNamesFrom l 0 b → Lacks 10 (binding_text l b)
binding-feedless l b h names = lacks_pairs 10 l 0 b (apart 61 10 refl) (apart 44 10 refl) (apart 45 10 refl) name-lacks_line_feed h names

firing-stays : (l : Lexicon) (f : Firing) (rest : List ℕ) → HasNames l → IsPrintableFiring l f → unmarked (firing_text l f ++ rest) ≡ firing_text l f ++ unmarked rest
firing-stays l f rest h is =
    let name = name_of l.handlers f.handler in
    let instance = binding_text l f.instance in
    let line = 32 ∷ 32 ∷ 64 ∷ (name ++ 32 ∷ instance) in
    let cut : (t : List ℕ) → line ++ 10 ∷ t ≡ firing_text l f ++ t = λ t. simp append_assoc in
    let lacks : Lacks 10 line = (apart 32 10 refl, (apart 32 10 refl, (apart 64 10 refl, Lacks-append 10 name (32 ∷ instance) (name-feedless l.handlers f.handler h.handlers is.0) (apart 32 10 refl, binding-feedless l f.instance h is.1)))) in
    ap unmarked (sym (cut rest)) ∙ unmarked-line line rest lacks refl ∙ cut (unmarked rest)

run-stays : (l : Lexicon) (x : Entry) (f : Firing) (rest : List ℕ) → HasNames l → IsPrintableFiring l f → unmarked (run_text l x f ++ rest) ≡ firing_text l f ++ unmarked rest
run-stays l x f rest h is =
    let at = occasion f.instance l.objects x.caller x.line in
    let printed = handler_text at (statements_of l.statements f.handler) in
    ap unmarked (append_assoc (firing_text l f) printed rest) ∙ firing-stays l f (printed ++ rest) h is
    ∙ ap (λ t. firing_text l f ++ t) (handler_text-goes at (statements_of l.statements f.handler) rest)

runs-stay : (l : Lexicon) (x : Entry) (fs : List Firing) (rest : List ℕ) → HasNames l → ArePrintable l fs
    → unmarked (flat_map (run_text l x) fs ++ rest) ≡ flat_map (firing_text l) fs ++ unmarked rest
runs-stay l x [] rest h all = refl
runs-stay l x (f ∷ fs) rest h all =
    let more = flat_map (run_text l x) fs in
    ap unmarked (append_assoc (run_text l x f) more rest) ∙ run-stays l x f (more ++ rest) h all.0
    ∙ ap (λ t. firing_text l f ++ t) (runs-stay l x fs rest h all.1) ∙ sym (append_assoc (firing_text l f) (flat_map (firing_text l) fs) (unmarked rest))

-- ---- the line of an entry
-- a text of bytes that are written out lacks a line feed, if a test says so
abbrev feedless : List ℕ → Bool
feedless [] = true
feedless (c ∷ cs) = not (c == 10) && feedless cs

codes-lack : (cs : List ℕ) → feedless cs ≡ true → Lacks 10 cs
codes-lack [] e = tt
codes-lack (c ∷ cs) e = go (codes-lack cs) (c == 10) refl e
  where
    go : (feedless cs ≡ true → Lacks 10 cs) → (v : Bool) → (c == 10) ≡ v → (not v && feedless cs) ≡ true → Lacks 10 (c ∷ cs)
    go rest true is e = absurd (true≢false (sym e))
    go rest false is e = (no_feed c is, rest e)

decimal-feedless : (n : ℕ) → Lacks 10 (decimal n)
decimal-feedless n = digits-lack (decimal n) 10 (inl (omega arith)) (decimal-digits n)

-- what a row says up to the end of its line, and the lines after that
abbrev body : Lexicon → Row → List ℕ
body l (fired e b fs) = name_of l.events e.0 ++ 32 ∷ (binding_text l b ++ (codes " fired " ++ decimal (length fs)))
body l (unfired e b o) = name_of l.events e.0 ++ 32 ∷ (binding_text l b ++ (codes " refused " ++ name_of l.objects o))
body l (died o) = codes "death " ++ (name_of l.objects o ++ codes " done")
body l (dead o q) = codes "death " ++ (name_of l.objects o ++ (codes " refused " ++ name_of l.objects q))
body l (passed n) = codes "pass kept " ++ decimal n

abbrev behind : (Firing → List ℕ) → Row → List ℕ
behind run (fired e b fs) = flat_map run fs
behind run _ = []

row-cut : (run : Firing → List ℕ) (l : Lexicon) (r : Row) (s : List ℕ) → outcome_text run l (step_of r) (outcome_of r) ++ s ≡ body l r ++ 10 ∷ (behind run r ++ s)
row-cut run l (fired e b fs) s = simp append_assoc
row-cut run l (unfired e b o) s = simp append_assoc
row-cut run l (died o) s = simp append_assoc
row-cut run l (dead o q) s = simp append_assoc
row-cut run l (passed n) s = simp append_assoc

body-lacks : (l : Lexicon) (r : Row) → HasNames l → IsRow l r → Lacks 10 (body l r)
body-lacks l (fired e b fs) h m =
    Lacks-append 10 (name_of l.events e.0) _ (name-feedless l.events e.0 h.events m.0.0)
    (apart 32 10 refl, Lacks-append 10 (binding_text l b) _ (binding-feedless l b h m.0.1) (Lacks-append 10 (codes " fired ") _ (codes-lack (codes " fired ") refl) (decimal-feedless (length fs))))
body-lacks l (unfired e b o) h m =
    Lacks-append 10 (name_of l.events e.0) _ (name-feedless l.events e.0 h.events m.0.0)
    (apart 32 10 refl, Lacks-append 10 (binding_text l b) _ (binding-feedless l b h m.0.1) (Lacks-append 10 (codes " refused ") _ (codes-lack (codes " refused ") refl) (name-feedless l.objects o h.objects m.0.2)))
body-lacks l (died o) h m =
    Lacks-append 10 (codes "death ") _ (codes-lack (codes "death ") refl) (Lacks-append 10 (name_of l.objects o) _ (name-feedless l.objects o h.objects m.0) (codes-lack (codes " done") refl))
body-lacks l (dead o q) h m =
    Lacks-append 10 (codes "death ") _ (codes-lack (codes "death ") refl)
    (Lacks-append 10 (name_of l.objects o) _ (name-feedless l.objects o h.objects m.0.0) (Lacks-append 10 (codes " refused ") _ (codes-lack (codes " refused ") refl) (name-feedless l.objects q h.objects m.0.1)))
body-lacks l (passed n) h m = Lacks-append 10 (codes "pass kept ") _ (codes-lack (codes "pass kept ") refl) (decimal-feedless n)

number-stays : (ds rest : List ℕ) → AreDigits ds → stays (ds ++ 58 ∷ rest) ≡ true
number-stays [] rest h = refl
number-stays (c ∷ cs) rest h = rw (ne_eqb 32 c (λ same. absurd (omega (arith, same, h.0)))) refl

-- an entry's line, after it whatever follows
abbrev headed : ℕ → ℕ → List ℕ → List ℕ
headed caller line text = decimal caller ++ 58 ∷ (decimal line ++ 32 ∷ text)

headed-stays : (caller line : ℕ) (text rest : List ℕ) → Lacks 10 text → unmarked (headed caller line (text ++ 10 ∷ rest)) ≡ headed caller line (text ++ 10 ∷ unmarked rest)
headed-stays caller line text rest lacks =
    let whole = headed caller line text in
    let cut : (t : List ℕ) → whole ++ 10 ∷ t ≡ headed caller line (text ++ 10 ∷ t) = λ t. simp append_assoc in
    let feeds : Lacks 10 whole = Lacks-append 10 (decimal caller) (58 ∷ (decimal line ++ 32 ∷ text)) (decimal-feedless caller) (apart 58 10 refl, Lacks-append 10 (decimal line) (32 ∷ text) (decimal-feedless line) (apart 32 10 refl, lacks)) in
    let is : stays (whole ++ 10 ∷ rest) ≡ true = ap stays (cut rest) ∙ number-stays (decimal caller) (decimal line ++ 32 ∷ (text ++ 10 ∷ rest)) (decimal-digits caller) in
    ap unmarked (sym (cut rest)) ∙ unmarked-line whole rest feeds is ∙ cut (unmarked rest)

behind-stays : (l : Lexicon) (x : Entry) (r : Row) (rest : List ℕ) → HasNames l → IsRow l r → unmarked (behind (run_text l x) r ++ rest) ≡ behind (firing_text l) r ++ unmarked rest
behind-stays l x (fired e b fs) rest h m = runs-stay l x fs rest h (printable_firings l fs m.0.2)
behind-stays l x (unfired e b o) rest h m = refl
behind-stays l x (died o) rest h m = refl
behind-stays l x (dead o q) rest h m = refl
behind-stays l x (passed n) rest h m = refl

row-stays : (l : Lexicon) (x : Entry) (r : Row) (rest : List ℕ) → HasNames l → IsRow l r
    → unmarked (headed x.caller x.line (outcome_text (run_text l x) l (step_of r) (outcome_of r) ++ rest)) ≡ headed x.caller x.line (step_text l (step_of r) (outcome_of r) ++ unmarked rest)
row-stays l x r rest h m =
    let lines = behind (run_text l x) r ++ rest in
    ap (λ t. unmarked (headed x.caller x.line t)) (row-cut (run_text l x) l r rest) ∙ headed-stays x.caller x.line (body l r) lines (body-lacks l r h m)
    ∙ ap (λ t. headed x.caller x.line (body l r ++ 10 ∷ t)) (behind-stays l x r rest h m)
    ∙ ap (headed x.caller x.line) (sym (row-cut (firing_text l) l r (unmarked rest)))

entry-headed : (run : Firing → List ℕ) (l : Lexicon) (x : Entry) (s : List ℕ)
    → (decimal x.caller ++ codes ":" ++ decimal x.line ++ codes " " ++ outcome_text run l x.step x.outcome) ++ s ≡ headed x.caller x.line (outcome_text run l x.step x.outcome ++ s)
entry-headed run l x s = simp append_assoc

entry-stays : (l : Lexicon) (x : Entry) (rest : List ℕ) → HasNames l → IsTold l x → unmarked (full_entry_text l x ++ rest) ≡ entry_text l x ++ unmarked rest
entry-stays l x rest h m =
    let (r, i, j) = row_of l x.step x.outcome m.printable in
    let row : IsRow l r = ((subst (λ (p : Step × Outcome). IsPrintableStep l p.0 p.1) (λ k. (i k, j k)) m.printable), (subst (λ (p : Step × Outcome). FitsStep p.0 p.1) (λ k. (i k, j k)) m.fits)) in
    let run = run_text l x in
    ap unmarked (entry-headed run l x rest)
    ∙ (λ k. unmarked (headed x.caller x.line (outcome_text run l (i k) (j k) ++ rest)))
    ∙ row-stays l x r rest h row
    ∙ (λ k. headed x.caller x.line (step_text l (sym i k) (sym j k) ++ unmarked rest))
    ∙ sym (entry-headed (firing_text l) l x (unmarked rest))

pub entries-stay : (l : Lexicon) (h : List Entry) (rest : List ℕ) → HasNames l → AreTold l h → unmarked (flat_map (full_entry_text l) h ++ rest) ≡ flat_map (entry_text l) h ++ unmarked rest
entries-stay l [] rest names told = refl
entries-stay l (x ∷ h) rest names told =
    let more = flat_map (full_entry_text l) h in
    ap unmarked (append_assoc (full_entry_text l x) more rest) ∙ entry-stays l x (more ++ rest) names told.0
    ∙ ap (λ t. entry_text l x ++ t) (entries-stay l h rest names told.1) ∙ sym (append_assoc (entry_text l x) (flat_map (entry_text l) h) (unmarked rest))

-- ---- whole texts
-- a line break ends a line, whatever is after it
stays-front : (front rest : List ℕ) → stays (front ++ 10 ∷ rest) ≡ stays (front ++ 10 ∷ [])
stays-front [] rest = refl
stays-front (a ∷ []) rest = refl
stays-front (a ∷ b ∷ []) rest = refl
stays-front (a ∷ b ∷ c ∷ front) rest = refl

rest-front : (here : Bool) (front rest : List ℕ) → rest_that_stays here (front ++ 10 ∷ rest) ≡ rest_that_stays here (front ++ 10 ∷ []) ++ unmarked rest
rest-front here [] rest = elim here as (λ v. cond v (10 ∷ []) [] ++ unmarked rest ≡ (cond v (10 ∷ []) [] ++ []) ++ unmarked rest) [ true ↦ refl | false ↦ refl ]
rest-front here (b ∷ front) rest =
    let next = cond (b == 10) (stays (front ++ 10 ∷ [])) here in
    let same : cond (b == 10) (stays (front ++ 10 ∷ rest)) here ≡ next = ap (λ v. cond (b == 10) v here) (stays-front front rest) in
    ap (λ v. cond here (b ∷ []) [] ++ rest_that_stays v (front ++ 10 ∷ rest)) same
    ∙ ap (λ t. cond here (b ∷ []) [] ++ t) (rest-front next front rest)
    ∙ sym (append_assoc (cond here (b ∷ []) []) (rest_that_stays next (front ++ 10 ∷ [])) (unmarked rest))

pub unmarked-front : (front rest : List ℕ) → unmarked (front ++ 10 ∷ rest) ≡ unmarked (front ++ 10 ∷ []) ++ unmarked rest
unmarked-front front rest = ap (λ v. rest_that_stays v (front ++ 10 ∷ rest)) (stays-front front rest) ∙ rest-front (stays (front ++ 10 ∷ [])) front rest

pub end-stays : (n : ℕ) (rest : List ℕ) → unmarked (101 ∷ (codes "nd " ++ (decimal n ++ 10 ∷ rest))) ≡ 101 ∷ (codes "nd " ++ (decimal n ++ 10 ∷ unmarked rest))
end-stays n rest =
    let line = codes "end " ++ decimal n in
    unmarked-line line rest (Lacks-append 10 (codes "end ") (decimal n) (codes-lack (codes "end ") refl) (decimal-feedless n)) refl

pub title-stays : (name rest : List ℕ) → Lacks 10 name → unmarked (codes "spec " ++ (name ++ 10 ∷ rest)) ≡ codes "spec " ++ (name ++ 10 ∷ unmarked rest)
title-stays name rest lacks = unmarked-line (codes "spec " ++ name) rest (Lacks-append 10 (codes "spec ") name (codes-lack (codes "spec ") refl) lacks) refl
