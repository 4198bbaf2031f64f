-- Tests of equality, and what they say of two books.
use Rattle.std.proofs.Common.{◌≡◌, ℕ, Bool, true, false, List, refl, sym, ap, ◌∙◌}
use Rattle.std.specs.Prelude.{◌&&◌, ◌==◌}
use Rattle.std.specs.Bool.{Decides}
use Rattle.std.specs.Cmp.{booleans_Decides}
use Rattle.std.specs.Cmp.Lexicographic.{pointwise}
use Rattle.std.proofs.lemmas.Bool.Decides.{Decides-eqb}
use Rattle.std.proofs.lemmas.Slice.Eq.{bytes_eq-Decides, slice_eq-Decides}
use mathlib.Core.Bool.{beq}
use Rattle.cov_model.specs.declared.report.Range.{Range}
use Rattle.cov_model.specs.declared.snapshot.Snapshot.{Snapshot}
use Rattle.cov_model.specs.declared.sums.Key.{Key}
use Rattle.cov_model.specs.Held.{Held, held_of, StandsFor}
use Rattle.cov_text.specs.Listing.{same_text}
use Rattle.cov_steps.specs.Runs.{RunList}
use Rattle.cov_book.specs.declared.sums.Sums.{Sums}
use Rattle.cov_book.specs.Entries.{IsBook}
use Rattle.cov_book.specs.Told.{same_range, same_runs, same_root, same_sums}
use Rattle.cov_book.specs.declared.scripts.Function.{Function}
use Rattle.cov_book.specs.declared.scripts.Script.{Script}
use Rattle.cov_book.specs.Same.{same_place, same_function, same_script}
use Rattle.cov_book.proofs.Seen.{view, seen-once}

and-both : (a b : Bool) → (a && b) ≡ true → (a ≡ true) × (b ≡ true)
and-both true b e = (refl, e)
and-both false b e = absurd cc

both-and : (a b : Bool) → a ≡ true → b ≡ true → (a && b) ≡ true
both-and a b e f = ap (λ x. x && b) e ∙ f

range-Decides : (a b : Range) → Decides (same_range a b) (a ≡ b)
range-Decides a b = (to, from)
  where
    to : same_range a b ≡ true → a ≡ b
    to e =
        let p = and-both (a.start == b.start) ((a.end == b.end) && (a.count == b.count)) e in
        let q = and-both (a.end == b.end) (a.count == b.count) p.1 in
        let start = (Decides-eqb a.start b.start).0 p.0 in
        let end = (Decides-eqb a.end b.end).0 q.0 in
        let count = (Decides-eqb a.count b.count).0 q.1 in
        (λ i. record { start = start i; end = end i; count = count i })

    from : a ≡ b → same_range a b ≡ true
    from e =
        both-and (a.start == b.start) ((a.end == b.end) && (a.count == b.count)) ((Decides-eqb a.start b.start).1 (ap (λ (r : Range). r.start) e))
        (both-and (a.end == b.end) (a.count == b.count) ((Decides-eqb a.end b.end).1 (ap (λ (r : Range). r.end) e)) ((Decides-eqb a.count b.count).1 (ap (λ (r : Range). r.count) e)))

pub runs-Decides : (a b : RunList) → Decides (same_runs a b) (a ≡ b)
runs-Decides a b = (to, from)
  where
    lists : Decides (pointwise same_range a.runs b.runs) (a.runs ≡ b.runs)
    lists = slice_eq-Decides range-Decides a.runs b.runs (pointwise same_range a.runs b.runs) refl

    to : same_runs a b ≡ true → a ≡ b
    to e =
        let p = and-both (a.start == b.start) ((a.end == b.end) && pointwise same_range a.runs b.runs) e in
        let q = and-both (a.end == b.end) (pointwise same_range a.runs b.runs) p.1 in
        let start = (Decides-eqb a.start b.start).0 p.0 in
        let end = (Decides-eqb a.end b.end).0 q.0 in
        let runs = lists.0 q.1 in
        (λ i. record { start = start i; end = end i; runs = runs i })

    from : a ≡ b → same_runs a b ≡ true
    from e =
        both-and (a.start == b.start) ((a.end == b.end) && pointwise same_range a.runs b.runs) ((Decides-eqb a.start b.start).1 (ap (λ (r : RunList). r.start) e))
        (both-and (a.end == b.end) (pointwise same_range a.runs b.runs) ((Decides-eqb a.end b.end).1 (ap (λ (r : RunList). r.end) e)) (lists.1 (ap (λ (r : RunList). r.runs) e)))

pub sums-Decides : (a b : Sums) → Decides (same_sums a b) (a ≡ b)
sums-Decides a b = (to, from)
  where
    to : same_sums a b ≡ true → a ≡ b
    to e =
        let p = and-both (same_root a b) (same_runs a.runs b.runs) e in
        let q = and-both (beq a.block b.block) (a.root == b.root) p.0 in
        let block = (booleans_Decides a.block b.block).0 q.0 in
        let root = (Decides-eqb a.root b.root).0 q.1 in
        let runs = (runs-Decides a.runs b.runs).0 p.1 in
        (λ i. record { block = block i; root = root i; runs = runs i })

    from : a ≡ b → same_sums a b ≡ true
    from e =
        both-and (same_root a b) (same_runs a.runs b.runs)
        (both-and (beq a.block b.block) (a.root == b.root) ((booleans_Decides a.block b.block).1 (ap (λ (s : Sums). s.block) e)) ((Decides-eqb a.root b.root).1 (ap (λ (s : Sums). s.root) e)))
        ((runs-Decides a.runs b.runs).1 (ap (λ (s : Sums). s.runs) e))

function-Decides : (a b : Function) → Decides (same_function a b) (a ≡ b)
function-Decides a b = (to, from)
  where
    to : same_function a b ≡ true → a ≡ b
    to e =
        let p = and-both (same_place a b) (same_sums a.sums b.sums) e in
        let q = and-both (a.start == b.start) ((a.end == b.end) && same_text a.name b.name) p.0 in
        let r = and-both (a.end == b.end) (same_text a.name b.name) q.1 in
        let start = (Decides-eqb a.start b.start).0 q.0 in
        let end = (Decides-eqb a.end b.end).0 r.0 in
        let name = (bytes_eq-Decides a.name b.name).0 r.1 in
        let sums = (sums-Decides a.sums b.sums).0 p.1 in
        (λ i. record { start = start i; end = end i; name = name i; sums = sums i })

    from : a ≡ b → same_function a b ≡ true
    from e =
        both-and (same_place a b) (same_sums a.sums b.sums)
        (both-and (a.start == b.start) ((a.end == b.end) && same_text a.name b.name) ((Decides-eqb a.start b.start).1 (ap (λ (f : Function). f.start) e))
        (both-and (a.end == b.end) (same_text a.name b.name) ((Decides-eqb a.end b.end).1 (ap (λ (f : Function). f.end) e)) ((bytes_eq-Decides a.name b.name).1 (ap (λ (f : Function). f.name) e))))
        ((sums-Decides a.sums b.sums).1 (ap (λ (f : Function). f.sums) e))

pub script-Decides : (a b : Script) → Decides (same_script a b) (a ≡ b)
script-Decides a b = (to, from)
  where
    lists : Decides (pointwise same_function a.functions b.functions) (a.functions ≡ b.functions)
    lists = slice_eq-Decides function-Decides a.functions b.functions (pointwise same_function a.functions b.functions) refl

    to : same_script a b ≡ true → a ≡ b
    to e =
        let p = and-both (same_text a.url b.url) (pointwise same_function a.functions b.functions) e in
        let url = (bytes_eq-Decides a.url b.url).0 p.0 in
        let functions = lists.0 p.1 in
        (λ i. record { url = url i; functions = functions i })

    from : a ≡ b → same_script a b ≡ true
    from e = both-and (same_text a.url b.url) (pointwise same_function a.functions b.functions) ((bytes_eq-Decides a.url b.url).1 (ap (λ (s : Script). s.url) e)) (lists.1 (ap (λ (s : Script). s.functions) e))

-- what tells that urls and entries are the same tells that the books are
pub books-Decide : (urls others : List (List ℕ)) (entries more : List (Key × Sums)) (one other : Held) → IsBook urls entries → IsBook others more
    → view urls entries ≡ one → view others more ≡ other → (r : Bool) → Decides r ((urls ≡ others) × (entries ≡ more)) → Decides r (one ≡ other)
books-Decide urls others entries more one other a b left right r d =
    (λ e. let same = d.0 e in sym left ∙ (λ i. view (same.0 i) (same.1 i)) ∙ right, λ e. d.1 (seen-once urls others entries more a b (left ∙ e ∙ sym right)))

-- and that the lists have the same sums
pub lists-Decide : (one other : Held) (r : Bool) → Decides r (one ≡ other) → (held more : List Snapshot) → StandsFor one held → StandsFor other more
    → Decides r (held_of held ≡ held_of more)
lists-Decide one other r d held more left right = (λ e. sym left.sums ∙ d.0 e ∙ right.sums, λ e. d.1 (left.sums ∙ e ∙ sym right.sums))
