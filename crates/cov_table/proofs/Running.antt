-- Runs that are gathered line by line are the runs of all lines.
use Rattle.std.proofs.Common.{◌≡◌, ℕ, suc, Bool, true, false, cond, List, [], ◌∷◌, ◌++◌, map, refl, sym, ap, ◌∙◌}
use Rattle.std.specs.Prelude.{◌==◌}
use Rattle.std.specs.List.{flat_map, join_with_byte}
use Rattle.std.proofs.lemmas.List.{append_assoc, append-nil}
use Rattle.cov_table.specs.declared.runs.Run.{Run}
use Rattle.cov_table.specs.Table.{one_line, before_runs, runs, run_text, runs_field}
use Rattle.cov_table.specs.Adding.{runs_behind}

abbrev run : ℕ → ℕ → Run
run first last = record { first = first; last = last }

-- the first run begins at another line
abbrev begun_at : ℕ → List Run → List Run
begun_at first [] = []
begun_at first (r ∷ rs) = run first r.last ∷ rs

-- the first run of what stands behind n begins there
begins : (n : ℕ) (rs : List Run) → begun_at n (before_runs n rs) ≡ before_runs n rs
begins n [] = refl
begins n (r ∷ rs) = by (suc n == r.first)
  where
    by : (b : Bool) → begun_at n (cond b (run n r.last ∷ rs) (one_line n ∷ r ∷ rs)) ≡ cond b (run n r.last ∷ rs) (one_line n ∷ r ∷ rs)
    by true = refl
    by false = refl

-- a line before a run, which goes on from it or not
ahead : (goes_on : Bool) (first last : ℕ) (r : Run) (rs : List Run) → begun_at first (cond goes_on (run last r.last ∷ rs) (one_line last ∷ r ∷ rs)) ≡ cond goes_on (run first r.last ∷ rs) (run first last ∷ r ∷ rs)
ahead true first last r rs = refl
ahead false first last r rs = refl

follows : (first last n : ℕ) (rs : List Run)
    → begun_at first (before_runs last (before_runs n rs)) ≡ cond (suc last == n) (begun_at first (before_runs n rs)) (run first last ∷ before_runs n rs)
follows first last n [] = ahead (suc last == n) first last (one_line n) []
follows first last n (r ∷ rs) = by (suc n == r.first)
  where
    by : (b : Bool) → begun_at first (before_runs last (cond b (run n r.last ∷ rs) (one_line n ∷ r ∷ rs)))
        ≡ cond (suc last == n) (begun_at first (cond b (run n r.last ∷ rs) (one_line n ∷ r ∷ rs))) (run first last ∷ cond b (run n r.last ∷ rs) (one_line n ∷ r ∷ rs))
    by true = ahead (suc last == n) first last (run n r.last) rs
    by false = ahead (suc last == n) first last (one_line n) (r ∷ rs)

behind : (ns : List ℕ) (first last : ℕ) → runs_behind (run first last) ns ≡ begun_at first (before_runs last (runs ns))
behind [] first last = refl
behind (n ∷ ns) first last =
    ap (λ rest. cond (suc last == n) rest (run first last ∷ runs_behind (one_line n) ns)) (behind ns first n)
    ∙ ap (λ rest. cond (suc last == n) (begun_at first (before_runs n (runs ns))) (run first last ∷ rest)) (behind ns n n ∙ begins n (runs ns))
    ∙ sym (follows first last n (runs ns))

pub runs_begun : (n : ℕ) (ns : List ℕ) → runs (n ∷ ns) ≡ runs_behind (one_line n) ns
runs_begun n ns = sym (behind ns n n ∙ begins n (runs ns))

-- ---- texts of runs

joined : (r : Run) (rs : List Run) → join_with_byte 44 (map run_text (r ∷ rs)) ≡ run_text r ++ flat_map (λ r. 44 ∷ run_text r) rs
joined r [] = sym (append-nil (run_text r))
joined r (s ∷ rs) = ap (λ rest. run_text r ++ 44 ∷ rest) (joined s rs)

pub field_put : (a b d : List ℕ) (r : Run) (rs all : List Run) → all ≡ r ∷ rs → b ≡ a ++ (32 ∷ 124 ∷ 32 ∷ []) → d ≡ b ++ run_text r → d ++ flat_map (λ r. 44 ∷ run_text r) rs ≡ a ++ runs_field all
field_put a b d r rs all is bar run =
    let rest = flat_map (λ (r : Run). 44 ∷ run_text r) rs in
    ap (λ x. x ++ rest) (run ∙ ap (λ x. x ++ run_text r) bar)
    ∙ append_assoc (a ++ (32 ∷ 124 ∷ 32 ∷ [])) (run_text r) rest
    ∙ append_assoc a (32 ∷ 124 ∷ 32 ∷ []) (run_text r ++ rest)
    ∙ ap (λ x. a ++ (32 ∷ 124 ∷ 32 ∷ x)) (sym (joined r rs))
    ∙ ap (λ x. a ++ runs_field x) (sym is)
