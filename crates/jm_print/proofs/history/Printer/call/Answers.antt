use Rattle.std.proofs.Common.{◌≡◌, ℕ, ◌<◌, ◌≤◌, ◌++◌, List, length, get_or, arith, sym, subst}
use Rattle.std.specs.Prelude.{Some, OnOk, count_ones, slice_get}
use Rattle.jm_history.specs.Rows.{placed}
use Rattle.jm_print.specs.Lexicons.{Lexicon}
use Rattle.jm_print.specs.Texts.{HasNamesFrom}
use Rattle.jm_print.proofs.HeadLemmas.{one_object, one_name, head_printed}
use Rattle.jm_print.proofs.history.Printer.call.Goals as goal

pub bounds-objects-0 : goal.bounds-objects-0
bounds-objects-0 c =
    let (p, low, is, short, text) = c.in-Some.ensures in
    omega (arith, one_object p c.args.objects.now low (subst (λ (m : ℕ). count_ones m ≤ length c.args.objects.now) is c.requires.objects))

pub name-requires : goal.name-requires
name-requires c =
    let (p, low, is, short, text) = c.in-Some.ensures in
    let os = c.args.objects.now in
    let some = one_object p os low (subst (λ (m : ℕ). count_ones m ≤ length os) is c.requires.objects) in
    subst (λ (l : Lexicon). get_or os 0 0 < length l.objects) (sym c.self.view_is)
    (one_name c.args.self.now os p low some (subst (λ (m : ℕ). HasNamesFrom c.args.self.now 0 (placed m os)) is c.requires.names))

pub returns-in-Some : goal.returns-in-Some
returns-in-Some c =
    let (p, low, is, short, text) = c.in-Some.ensures in
    let os = c.args.objects.now in
    subst (λ (t : List ℕ). OnOk c.short.result (c.short.new.self ≡ c.args.page.now ++ t))
    (head_printed c.args.self.now c.args.letter.0 p c.args.mask os _ c.name.result.now low is c.requires.objects text
    (subst (λ (l : Lexicon). slice_get l.objects (get_or os 0 0) ≡ Some c.name.result.now) c.self.view_is c.name.ensures)) c.short.ensures
