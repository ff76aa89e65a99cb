-- Lines of scripts that ask for order, script after script: how many there are, and what they post.
use Rattle.std.proofs.Common.{◌≡◌, ℕ, zero, suc, ◌+◌, ◌-◌, ◌<◌, ◌≤◌, true, false, List, [], ◌∷◌, ◌++◌, length, take, drop, get_or, Some, refl, sym, ap, ◌∙◌, append_assoc, arith, length-append}
use Rattle.std.specs.Prelude.{Contains, nat_eq, option_map, slice_get}
use Rattle.std.specs.List.{IsDistinct}
use Rattle.std.proofs.lemmas.Bool.Decides.{nat_tests}
use Rattle.std.proofs.lemmas.List.{append-nil, length-take}
use Rattle.std.proofs.lemmas.List.Concat.{flat_map-append}
use Rattle.std.proofs.lemmas.Option.{none-some, same_Some, slice_get-map, slice_get_read, slice_get_within}
use Rattle.std.proofs.lemmas.Map.Keys.{IsDistinct-push}
use Rattle.std.proofs.lemmas.Cmp.{nat_eq_equiv}
use Rattle.indexmap.proofs.CallerLemmas.{Contains-list_any}
use Rattle.jm_model.specs.declared.fault.ScriptFault.TheVariants.{TooManyNotes, DuplicatePost}
use Rattle.jm_sync.specs.declared.line.SyncKind.TheVariants.{Post}
use Rattle.jm_sync.specs.declared.line.SyncLine.{SyncLine}
use Rattle.jm_sync.specs.declared.line.Cut.{Cut}
use Rattle.jm_sync.specs.declared.error.SyncError.{SyncError}
use Rattle.jm_sync.specs.declared.error.SyncError.TheVariants.{Bad}
use Rattle.jm_sync.specs.Names.{is_among, with_number}
use Rattle.jm_sync.specs.Checks.{sync_of, all_lines, posted_by, posts_of, IsOneTooMany, IsSecondPost}
use Rattle.jm_sync.specs.Walks.{IsCountError, IsPostError, IsSecondAmong, PostsNew}

-- the lines of a script
pub script_at : (cuts : List Cut) (k : ℕ) (c : Cut) → k < length cuts → c ≡ get_or cuts k c → slice_get (sync_of cuts) k ≡ Some c.lines.items
script_at cuts k c lt is = slice_get-map (λ (c : Cut). c.lines.items) cuts k ∙ ap (option_map (λ (c : Cut). c.lines.items)) (slice_get_read cuts (length cuts) k c refl lt is)

pub length-sync_of : (cuts : List Cut) → length (sync_of cuts) ≡ length cuts
length-sync_of [] = refl
length-sync_of (c ∷ cuts) = ap suc (length-sync_of cuts)

-- ---- one element more

take_at : {A : Type 0} (xs : List A) (k : ℕ) (x : A) → slice_get xs k ≡ Some x → take (k + 1) xs ≡ take k xs ++ x ∷ []
take_at [] k x e = absurd (none-some x e)
take_at (y ∷ xs) zero x e = ap (λ z. z ∷ []) (same_Some y x e)
take_at (y ∷ xs) (suc k) x e =
    let more : suc k + 1 ≡ suc (k + 1) = omega arith in
    rw more (ap (λ l. y ∷ l) (take_at xs k x e))

split_at : {A : Type 0} (xs : List A) (k : ℕ) (x : A) → slice_get xs k ≡ Some x → xs ≡ take k xs ++ x ∷ drop (k + 1) xs
split_at [] k x e = absurd (none-some x e)
split_at (y ∷ xs) zero x e = ap (λ z. z ∷ xs) (same_Some y x e)
split_at (y ∷ xs) (suc k) x e =
    let more : suc k + 1 ≡ suc (k + 1) = omega arith in
    rw more (ap (λ l. y ∷ l) (split_at xs k x e))

all_more : (scripts : List (List SyncLine)) (k : ℕ) (lines : List SyncLine) → slice_get scripts k ≡ Some lines → all_lines (take (k + 1) scripts) ≡ all_lines (take k scripts) ++ lines
all_more scripts k lines here =
    ap all_lines (take_at scripts k lines here)
    ∙ flat_map-append (λ (ls : List SyncLine). ls) (take k scripts) (lines ∷ [])
    ∙ ap (λ ls. all_lines (take k scripts) ++ ls) (append-nil lines)

posts_of-append : (a b : List SyncLine) → posts_of (a ++ b) ≡ posts_of a ++ posts_of b
posts_of-append a b = flat_map-append (λ (l : SyncLine). posted_by l.kind l.name) a b

posts_more : (lines : List SyncLine) (i : ℕ) (l : SyncLine) → slice_get lines i ≡ Some l → posts_of (take (i + 1) lines) ≡ posts_of (take i lines) ++ posted_by l.kind l.name
posts_more lines i l here =
    ap posts_of (take_at lines i l here)
    ∙ posts_of-append (take i lines) (l ∷ [])
    ∙ ap (λ ns. posts_of (take i lines) ++ ns) (append-nil (posted_by l.kind l.name))

-- ---- the count

pub count_more : (scripts : List (List SyncLine)) (k room n : ℕ) (lines : List SyncLine) → slice_get scripts k ≡ Some lines → room + length (all_lines (take k scripts)) ≡ 65536 → n ≡ length lines → n ≤ room → (room - n) + length (all_lines (take (k + 1) scripts)) ≡ 65536
count_more scripts k room n lines here before is fits =
    omega (arith, ap length (all_more scripts k lines here), length-append (all_lines (take k scripts)) lines)

pub one_too_many : (scripts : List (List SyncLine)) (k room number : ℕ) (lines : List SyncLine) (line : SyncLine) → slice_get scripts k ≡ Some lines → room + length (all_lines (take k scripts)) ≡ 65536 → slice_get lines room ≡ Some line → number ≡ line.line → IsOneTooMany scripts k number
one_too_many scripts k room number lines line here before at numbered =
    let inside : room < length lines = slice_get_within lines room line at in
    record {
      before = all_lines (take k scripts) ++ take room lines;
      line = line;
      stands = record { above = take room lines; below = drop (room + 1) lines; there = here ∙ ap Some (split_at lines room line at); earlier = refl };
      full = omega (arith, length-append (all_lines (take k scripts)) (take room lines), length-take room lines);
      numbered = numbered;
    }

-- ---- the posts

same_number : (a b : ℕ) → nat_eq a b ≡ true → a ≡ b
same_number a b e = grind (arith, nat_tests)

pub among : (numbers : List ℕ) (name : ℕ) → is_among numbers name ≡ true → Contains numbers name
among numbers name e = Contains-list_any nat_eq same_number numbers name e

-- a line that posts a name which isn't posted yet
pub post_more : (posted new then : List ℕ) (lines : List SyncLine) (i : ℕ) (line : SyncLine) → slice_get lines i ≡ Some line → PostsNew posted (take i lines) new → line.kind ≡ Post → is_among new line.name ≡ false → then ≡ with_number new line.name → PostsNew posted (take (i + 1) lines) then
post_more posted new then lines i line here before post absent then_is =
    let last : then ≡ new ++ line.name ∷ [] = then_is ∙ rw absent refl in
    record {
      posts =
          last
          ∙ ap (λ ns. ns ++ line.name ∷ []) before.posts
          ∙ append_assoc posted (posts_of (take i lines)) (line.name ∷ [])
          ∙ ap (λ ns. posted ++ ns) (sym (posts_more lines i line here ∙ ap (λ kind. posts_of (take i lines) ++ posted_by kind line.name) post));
      distinct = λ apart. rw last (IsDistinct-push nat_eq_equiv new line.name (before.distinct apart) absent);
    }

-- a line that posts one which is
pub post_again : (posted new : List ℕ) (lines : List SyncLine) (i number : ℕ) (line : SyncLine) → slice_get lines i ≡ Some line → PostsNew posted (take i lines) new → line.kind ≡ Post → is_among new line.name ≡ true → number ≡ line.line → IsSecondAmong posted lines number
post_again posted new lines i number line here before post there numbered = record {
  above = take i lines;
  line = line;
  below = drop (i + 1) lines;
  there = split_at lines i line here;
  posts = post;
  again = rw (← before.posts) (among new line.name there);
  first = λ apart. rw (← before.posts) (before.distinct apart);
  numbered = numbered;
}

pub posts_script : (scripts : List (List SyncLine)) (k : ℕ) (lines : List SyncLine) (posted new : List ℕ) → slice_get scripts k ≡ Some lines → posted ≡ posts_of (all_lines (take k scripts)) → PostsNew posted lines new → new ≡ posts_of (all_lines (take (k + 1) scripts))
posts_script scripts k lines posted new here before over =
    over.posts ∙ ap (λ ns. ns ++ posts_of lines) before ∙ sym (ap posts_of (all_more scripts k lines here) ∙ posts_of-append (all_lines (take k scripts)) lines)

pub second_post : (scripts : List (List SyncLine)) (k number : ℕ) (lines : List SyncLine) (posted : List ℕ) → slice_get scripts k ≡ Some lines → posted ≡ posts_of (all_lines (take k scripts)) → IsDistinct nat_eq posted → IsSecondAmong posted lines number → IsSecondPost scripts k number
second_post scripts k number lines posted here before apart second =
    let all : posted ++ posts_of second.above ≡ posts_of (all_lines (take k scripts) ++ second.above) = ap (λ ns. ns ++ posts_of second.above) before ∙ sym (posts_of-append (all_lines (take k scripts)) second.above) in
    record {
      before = all_lines (take k scripts) ++ second.above;
      line = second.line;
      stands = record { above = second.above; below = second.below; there = here ∙ ap Some second.there; earlier = refl };
      posts = second.posts;
      again = rw (← all) second.again;
      first = rw (← all) (second.first apart);
      numbered = second.numbered;
    }

-- ---- what is refused

pub count_error : (scripts : List (List SyncLine)) (k number : ℕ) (e : SyncError) → e ≡ Bad k (TooManyNotes number) → IsOneTooMany scripts k number → IsCountError scripts e
count_error scripts k number e is wrong = rw is (number, refl, wrong)

pub post_error : (scripts : List (List SyncLine)) (k number : ℕ) (e : SyncError) → e ≡ Bad k (DuplicatePost number) → IsSecondPost scripts k number → IsPostError scripts e
post_error scripts k number e is wrong = rw is (number, refl, wrong)
