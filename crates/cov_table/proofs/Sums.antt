-- Files that are taken in one by one come to the shares of all.
use Rattle.std.proofs.Common.{◌≡◌, ℕ, ◌+◌, ◌≤◌, List, [], ◌∷◌, ◌++◌, length, drop, sym, ap, ◌∙◌, subst, arith}
use Rattle.std.specs.Prelude.{min, nat_lt, filter}
use Rattle.std.specs.List.{flat_map}
use Rattle.std.proofs.lemmas.List.{append_assoc, append-nil, length-append, drop_all}
use Rattle.std.proofs.lemmas.List.Elements.{filter-append}
use Rattle.cov_text.specs.Listing.{limit}
use Rattle.istanbul_json.specs.declared.file.FileParts.{FileParts}
use Rattle.cov_text.specs.Listing.{cleaned}
use Rattle.lcov_text.specs.declared.counts.LineCount.{LineCount}
use Rattle.lcov_text.specs.Counts.{line_counts, counts_of_lines, counts_of_branches, counts_of_functions, share_of}
use Rattle.lcov_text.proofs.Shares.{share_within}
use Rattle.cov_table.specs.declared.shares.Summary.{Summary}
use Rattle.cov_table.specs.Shares.{summary, IsWithin}
use Rattle.cov_table.specs.Table.{row, percents, runs_field, runs, uncovered, file_row}
use Rattle.cov_table.specs.Adding.{plus, shares_with, nothing, with_files}

-- the shares of the counts of lines, branch locations and functions
abbrev shares : List ℕ → List ℕ → List ℕ → Summary
shares lines branches functions = record { lines = share_of lines; branches = share_of branches; functions = share_of functions }

abbrev lines_in : FileParts → List ℕ
lines_in f = counts_of_lines (line_counts f)

abbrev branches_in : FileParts → List ℕ
branches_in f = counts_of_branches f.branches

abbrev functions_in : FileParts → List ℕ
functions_in f = counts_of_functions f.functions

stops : (a b m : ℕ) → min (min a m + min b m) m ≡ min (a + b) m
stops a b m = omega arith

plus_share : (xs ys : List ℕ) → plus (share_of xs) (share_of ys) ≡ share_of (xs ++ ys)
plus_share xs ys =
    let all = stops (length xs) (length ys) limit ∙ ap (λ n. min n limit) (sym (length-append xs ys)) in
    let hit =
    stops (length (filter (nat_lt 0) xs)) (length (filter (nat_lt 0) ys)) limit
    ∙ ap (λ n. min n limit) (sym (length-append (filter (nat_lt 0) xs) (filter (nat_lt 0) ys)) ∙ ap length (sym (filter-append (nat_lt 0) xs ys))) in
    (λ i. record { hit = hit i; all = all i })

taken : (files : List FileParts) (ls bs gs : List ℕ)
    → with_files (shares ls bs gs) files ≡ shares (ls ++ flat_map lines_in files) (bs ++ flat_map branches_in files) (gs ++ flat_map functions_in files)
taken [] ls bs gs = λ i. shares (sym (append-nil ls) i) (sym (append-nil bs) i) (sym (append-nil gs) i)
taken (f ∷ fs) ls bs gs =
    ap (λ s. with_files s fs) (λ i. record { lines = plus_share ls (lines_in f) i; branches = plus_share bs (branches_in f) i; functions = plus_share gs (functions_in f) i })
    ∙ taken fs (ls ++ lines_in f) (bs ++ branches_in f) (gs ++ functions_in f)
    ∙ (λ i. shares (append_assoc ls (lines_in f) (flat_map lines_in fs) i) (append_assoc bs (branches_in f) (flat_map branches_in fs) i) (append_assoc gs (functions_in f) (flat_map functions_in fs) i))

pub files_taken : (files : List FileParts) → with_files nothing files ≡ summary files
unfolding summary
files_taken files = taken files [] [] []

pub summary_within : (files : List FileParts) → IsWithin (summary files)
unfolding summary
summary_within files = record { lines = share_within (flat_map lines_in files); branches = share_within (flat_map branches_in files); functions = share_within (flat_map functions_in files) }

-- ---- one file

pub own_is : (f : FileParts) → shares_with f (line_counts f) ≡ summary (f ∷ [])
unfolding summary
own_is f = λ i. shares (sym (append-nil (lines_in f)) i) (sym (append-nil (branches_in f)) i) (sym (append-nil (functions_in f)) i)

-- ---- a loop that has taken in all

pub ended_within : (s : Summary) (files : List FileParts) (k : ℕ) → length files ≤ k → with_files s (drop k files) ≡ summary files → IsWithin s
ended_within s files k h e =
    let done : s ≡ summary files = ap (with_files s) (sym (drop_all k files h)) ∙ e in
    subst IsWithin (sym done) (summary_within files)

pub lines_within : (f : FileParts) (lines : List LineCount) → IsWithin (shares_with f lines)
lines_within f lines = record { lines = share_within (counts_of_lines lines); branches = share_within (branches_in f); functions = share_within (functions_in f) }

-- the row of a file
pub row_is : (width : ℕ) (f : FileParts) (path : List ℕ) (own : Summary) (lines : List LineCount) → path ≡ f.path → lines ≡ line_counts f → own ≡ shares_with f lines
    → row width (cleaned path) (percents own) (runs_field (runs (uncovered lines))) ≡ file_row width f
row_is width f path own lines p l o =
    (λ i. row width (cleaned (p i)) (percents own) (runs_field (runs (uncovered (l i)))))
    ∙ ap (λ s. row width (cleaned f.path) (percents s) (runs_field (runs (uncovered (line_counts f))))) (o ∙ ap (shares_with f) l ∙ own_is f)
