use Rattle.std.proofs.Common.{ℕ, ◌≡◌, ◌<◌, ◌*◌, ◌≤◌, ◌/◌, ◌%◌, ◌∷◌, [], length, get_or, ap, subst, ◌∙◌, arith}
use Rattle.std.proofs.lemmas.List.{get_or_default, length-append}
use Rattle.std.proofs.lemmas.Nat.{mul-le}
use Rattle.jm_table.specs.Tables.{next_of}
use Rattle.jm_table.proofs.ClassLemmas.{values_more, place_within}
use Rattle.jm_table.proofs.minimise.next_classes.Goals as goal

pub overflow_mul-place-end : goal.overflow_mul-place-end
overflow_mul-place-end c =
    let rows : c.len.result ≤ 1024 = omega (arith, c.len.ensures, c.args.partition.now.firsts.ok.0, c.requires.few, c.letters-letters.ensures.table.few_states) in
    let columns : c.letters-letters.result ≤ 32 = omega (arith, c.letters-letters.ensures.value, c.letters-letters.ensures.table.few_letters) in
    let most : c.len.result * c.letters-letters.result ≤ 1024 * 32 = mul-le c.len.result c.letters-letters.result 1024 32 rows columns in
    omega (arith, most)

pub nonzero_div-place : goal.nonzero_div-place
nonzero_div-place c =
    let at = place_within c.loop-place.place c.len.result c.letters-letters.result c.loop-place-test.true in
    omega (arith, at.0)

pub index-first-requires : goal.index-first-requires
index-first-requires c =
    let at = place_within c.loop-place.place c.len.result c.letters-letters.result c.loop-place-test.true in
    omega (arith, at.1, c.len.ensures, c.args.partition.now.firsts.ok.0)

pub nonzero_rem-place : goal.nonzero_rem-place
nonzero_rem-place c =
    let at = place_within c.loop-place.place c.len.result c.letters-letters.result c.loop-place-test.true in
    omega (arith, at.0)

pub overflow_cast-place : goal.overflow_cast-place
overflow_cast-place c =
    let at = place_within c.loop-place.place c.len.result c.letters-letters.result c.loop-place-test.true in
    omega (arith, at.0, c.letters-letters.ensures.value, c.letters-letters.ensures.table.few_letters)

pub next-after-requires-clause-state : goal.next-after-requires-clause-state
next-after-requires-clause-state c =
    let firsts = c.args.partition.now.firsts.items in
    let letters = c.letters-letters.result in
    let place = c.loop-place.place in
    let rows : c.len.result ≡ length firsts = omega (arith, c.len.ensures, c.args.partition.now.firsts.ok.0) in
    let at = place_within place (length firsts) letters (subst (λ n. place < n * letters) rows c.loop-place-test.true) in
    let first : c.index-first.result.now ≡ get_or firsts (place / letters) 0 = c.index-first.ensures ∙ get_or_default firsts (place / letters) c.index-first.result.now 0 at.1 in
    rw first (c.requires.first (place / letters) at.1).0

pub next-after-requires-clause-letter : goal.next-after-requires-clause-letter
next-after-requires-clause-letter c =
    let at = place_within c.loop-place.place c.len.result c.letters-letters.result c.loop-place-test.true in
    omega (arith, at.0, c.letters-letters.ensures.value)

pub returns-clause-each : goal.returns-clause-each
returns-clause-each c = λ k lt.
    let t = c.args.table.now in
    let firsts = c.args.partition.now.firsts.items in
    let classes = c.args.partition.now.classes.items in
    let done = c.loop-place.invariant in
    subst (λ (n : ℕ). get_or c.loop-place.next.items k 0 ≡ get_or classes (next_of t (get_or firsts (k / n) 0) (k % n)) 0) c.letters-letters.ensures.value (done.each k (omega (arith, lt, done.count)))

pub loop-place-preserved : goal.loop-place-preserved
loop-place-preserved c =
    let t = c.args.table.now in
    let firsts = c.args.partition.now.firsts.items in
    let classes = c.args.partition.now.classes.items in
    let letters = c.letters-letters.result in
    let place = c.loop-place.place in
    let f = λ (k : ℕ). get_or classes (next_of t (get_or firsts (k / letters) 0) (k % letters)) 0 in
    let rows : c.len.result ≡ length firsts = omega (arith, c.len.ensures, c.args.partition.now.firsts.ok.0) in
    let at = place_within place (length firsts) letters (subst (λ n. place < n * letters) rows c.loop-place-test.true) in
    let after : c.next-after.result < length classes = omega (arith, c.next-after.ensures.within, c.requires.count) in
    let first : c.index-first.result.now ≡ get_or firsts (place / letters) 0 = c.index-first.ensures ∙ get_or_default firsts (place / letters) c.index-first.result.now 0 at.1 in
    let value : c.index.result.now ≡ f place =
    c.index.ensures ∙ get_or_default classes c.next-after.result c.index.result.now 0 after
    ∙ ap (λ s. get_or classes s 0) (c.next-after.ensures.value ∙ ap (λ s. next_of t s (place % letters)) first) in
    let items = c.in_ok-push.ensures.items in
    record {
      count = ap length items ∙ omega (arith, c.loop-place.invariant.count, length-append c.loop-place.next.items (c.index.result.now ∷ []));
      each = rw items (values_more c.loop-place.next.items c.index.result.now place f c.loop-place.invariant.count c.loop-place.invariant.each value);
    }
