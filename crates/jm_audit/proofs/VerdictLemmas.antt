-- From what was written under the guidance of a text to the answer.
use Rattle.std.proofs.Common.{◌≡◌, ◌≢◌, ℕ, ◌+◌, [], ◌∷◌, ◌++◌, sym, ap, ◌∙◌, subst, arith}
use Rattle.std.proofs.lemmas.List.{append_assoc}
use mathlib.Core.List.{IsPrefix}
use Rattle.jm_model.specs.Words.{Text}
use Rattle.jm_audit.specs.declared.verdict.Verdict.TheVariants.{Yes, No}
use Rattle.jm_audit.specs.Guides.{said, Says, stop, go, Picks, Guided, stopped, follows, leaves, AreDetermined}
use Rattle.jm_audit.specs.Fronts.{agreeing}
use Rattle.jm_audit.specs.Verdicts.{IsVerdict}
use Rattle.jm_audit.proofs.GuideLemmas.{best, guided_says, feeds_agree}
use Rattle.jm_audit.proofs.LineLemmas.{same_behind, ends_line, agreed}

module _ {S : Type 0} (Goes : S → ℕ → Text → Text → S → Type 0) (Ends : S → Text → Type 0) (det : AreDetermined Goes Ends) where
  abbrev T : Text → Text → Text
  T = said Goes Ends

  -- who says the text says first what the text picks
  first_same : (s : S) (t : Text) (k : ℕ) (line more : Text) (n : S) (j : ℕ) (line' more' x : Text) (n' : S) → Goes s k line more n → Picks Goes Ends s k t → Goes s j line' more' n' → t ≡ T line' more' ++ x
      → (line' ≡ line) × (more' ≡ more) × (n' ≡ n)
  first_same s t k line more n j line' more' x n' goes picks goes' is =
      let front : IsPrefix (line' ++ 10 ∷ []) t = (more' ++ x, sym (append_assoc (line' ++ 10 ∷ []) more' x) ∙ sym is) in
      let who : j ≡ k = picks j line' more' n' goes' front in
      det.one_way s k line' more' n' line more n (subst (λ i. Goes s i line' more' n') who goes') goes

  -- a text that may be said guides to itself
  pub guided_same : {s : S} {t u : Text} → Guided Goes Ends s t u → Says Goes Ends s t → u ≡ t
  guided_same {s} {t} {u} (stopped e) (stop e2) = det.one_end s u t e e2
  guided_same {s} {t} {u} (stopped e) (go j line more w n goes is h) = absurd (det.apart s u j line more n e goes)
  guided_same {s} {t} {u} (follows k line more r w n goes picks ist is g) (stop e) = absurd (det.apart s t k line more n e goes)
  guided_same {s} {t} {u} (follows k line more r w n goes picks ist is g) (go j line' more' x n' goes' is2 h) =
      let one = first_same s t k line more n j line' more' x n' goes picks goes' is2 in
      let is3 : t ≡ T line more ++ x = is2 ∙ (λ i. T (one.0 i) (one.1 i) ++ x) in
      let left : x ≡ r = same_behind (T line more) x r (sym is3 ∙ ist) in
      let later : Says Goes Ends n r = subst (λ v. Says Goes Ends n v) left (subst (λ m. Says Goes Ends m x) one.2 h) in
      is ∙ ap (λ v. T line more ++ v) (guided_same g later) ∙ sym ist
  guided_same {s} {t} {u} (leaves k line more w n goes picks off is g) (stop e) = absurd (det.apart s t k line more n e goes)
  guided_same {s} {t} {u} (leaves k line more w n goes picks off is g) (go j line' more' x n' goes' is2 h) =
      let one = first_same s t k line more n j line' more' x n' goes picks goes' is2 in
      absurd (off (x, sym (is2 ∙ (λ i. T (one.0 i) (one.1 i) ++ x))))

  module _ (Allowed : Text → Type 0) (start : S) (allowed : (v : Text) → Says Goes Ends start v → Allowed v) (told : (v : Text) → Allowed v → Says Goes Ends start v) (text u : Text) (guided : Guided Goes Ends start text u) where
    pub verdict_yes : text ≡ u → IsVerdict Allowed text Yes
    verdict_yes same = subst Allowed (sym same) (allowed u (guided_says Goes Ends det guided))

    pub verdict_no : (line : ℕ) → text ≢ u → line ≡ agreeing u text + 1 → IsVerdict Allowed text (No line)
    verdict_no line other is =
        let common = agreed u text in (
          (λ h. other (sym (guided_same guided (told text h)))),
          (
            agreeing u text,
            is,
            record {
              front = common.front;
              lines = common.lines;
              many = common.many;
              here = common.other;
              allowed = u;
              is_allowed = allowed u (guided_says Goes Ends det guided);
              there = common.one;
            },
            (λ n reached.
                let mine : IsPrefix reached.front u = best Goes Ends det reached.front guided (told reached.allowed reached.is_allowed) (ends_line reached.front reached.lines) reached.here reached.there in
                omega (arith, reached.many, feeds_agree reached.front u text mine reached.here)),
          ),
        )
