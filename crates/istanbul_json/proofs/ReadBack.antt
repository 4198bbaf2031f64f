-- Files that were written are read back.
use Rattle.std.proofs.Common.{◌≡◌, ℕ, suc, ◌<◌, ◌≤◌, ◌^◌, arith, Bool, true, false, cond, List, [], ◌∷◌, length, map, Option, Some, None, refl, sym, ap, ◌∙◌, subst}
use Rattle.std.specs.Prelude.{Result, Ok, Err, ◌==◌, ◌&&◌, option_map, nat_lt}
use Rattle.std.specs.declared.cmp.Ordering.TheVariants.{Less, Equal, Greater}
use Rattle.std.specs.Ordering.{is_eq, match_ordering}
use Rattle.std.specs.List.{AllByRecursion, list_all, zip}
use Rattle.std.specs.BTreeSet.{replace_key}
use Rattle.std.proofs.lemmas.Bool.{lt-ltb}
use Rattle.std.proofs.lemmas.Bool.Decides.{nat_tests}
use Rattle.std.proofs.lemmas.Cmp.{nat_list_cmp_total, tied_itself, nat_eq_equiv}
use Rattle.std.proofs.lemmas.Map.Text.{is_eq-slice_cmp}
use Rattle.cov_text.specs.Listing.{text_cmp, same_text, max_text}
use Rattle.json_shapes.specs.Shapes.{◌>>=◌, or_fault, whole, offset_of, parsed}
use Rattle.json_shapes.specs.Members.{each_of, each_member, listed}
use Rattle.json_shapes.specs.Shapes.{array_of}
use Rattle.serde_json.specs.Data.{Data, array, object, string, Members, no_members, member, put}
use Rattle.istanbul_json.specs.declared.entry.FunctionEntry.{FunctionEntry}
use Rattle.istanbul_json.specs.declared.entry.BranchEntry.{BranchEntry}
use Rattle.istanbul_json.specs.declared.file.Mark.{Mark}
use Rattle.istanbul_json.specs.declared.file.Loc.{Loc}
use Rattle.istanbul_json.specs.declared.file.FileParts.{FileParts}
use Rattle.istanbul_json.specs.declared.file.Statement.{Statement}
use Rattle.istanbul_json.specs.declared.file.Function.{Function}
use Rattle.istanbul_json.specs.declared.file.Branch.{Branch}
use Rattle.istanbul_json.specs.declared.file.CoverageFault.{CoverageFault}
use Rattle.istanbul_json.specs.declared.file.CoverageFault.TheVariants.{TooLong, Syntax, Wrong, Keys}
use Rattle.istanbul_json.specs.declared.file.CoverageField.TheVariants.{Path, StatementMap, FnMap, BranchMap, S, F, B}
use Rattle.istanbul_json.specs.Coverage.{file_of, files_from, files_of, coverage_reading, fault_unless, same_keys, as_many_counts, statement, function, branch}
use Rattle.istanbul_json.specs.Gives.{ArePathsInOrder}
use Rattle.istanbul_json.specs.Kept.{by_key}
use Rattle.istanbul_json.specs.Members.{mark_of, loc_of, function_of, branch_of, path_as}
use Rattle.istanbul_json.specs.Small.{IsSmall, IsSmallMark, IsSmallLoc, IsSmallFunction, IsSmallBranch, IsReadable}
use Rattle.istanbul_json.specs.Value.{count_data, mark_data, loc_data, function_data, branch_data, members_by, in_turn, file_data}
use Rattle.istanbul_json.specs.Walks.{function_entry, branch_entry}
use Rattle.istanbul_json.proofs.Judged.{judged, judged-is, has_all_counts, text-same}
use Rattle.istanbul_json.proofs.Inserted.{placed, all-placed, all-map, strict-in_order, IsStrict, list_all-placed}
use Rattle.istanbul_json.proofs.KeyOrder.{bytes_cmp, by_key-placed, text-total, same-key}

-- ---- values

small-number : (n : ℕ) → n < 2 ^ 32 → offset_of (count_data n) ≡ Some n
small-number n h = ap (λ t. cond t (Some n) None) (lt-ltb n (2 ^ 32) h)

-- a line or a column
abbrev given : Option ℕ → Option (Option ℕ)
given None = Some None
given (Some n) = option_map Some (offset_of (count_data n))

number-back : (n : Option ℕ) → IsSmall n → given n ≡ Some n
number-back None h = refl
number-back (Some n) h = ap (option_map Some) (small-number n h)

mark-back : (m : Mark) → IsSmallMark m → mark_of (mark_data m) ≡ Some m
mark-back m h = by m.line m.column h.0 h.1
  where
    by : (line column : Option ℕ) → IsSmall line → IsSmall column → mark_of (mark_data (record { line = line; column = column })) ≡ Some (record { line = line; column = column })
    by None None h k = refl
    by None (Some c) h k = rw (small-number c k)
    by (Some l) None h k = rw (small-number l h)
    by (Some l) (Some c) h k = rw (small-number l h, small-number c k)

loc-back : (l : Loc) → IsSmallLoc l → loc_of (loc_data l) ≡ Some l
loc-back l h = rw (mark-back l.start h.0, mark-back l.end h.1)

locs-back : (ls : List Loc) → AllByRecursion IsSmallLoc ls → each_of loc_of (array_of loc_data ls) ≡ Some ls
locs-back [] h = refl
locs-back (l ∷ ls) h = rw (loc-back l h.0, locs-back ls h.1)

counts-back : (ns : List ℕ) → each_of whole (array_of count_data ns) ≡ Some ns
counts-back [] = refl
counts-back (n ∷ ns) = rw (counts-back ns)

function-back : (f : Function) → IsSmallFunction f → function_of (function_data f) ≡ Some (function_entry f)
function-back f h = by f.line h.2
  where
    by : (line : Option ℕ) → IsSmall line → function_of (function_data (record f { line = line })) ≡ Some (record { name = f.name; decl = f.decl; loc = f.loc; line = line })
    by None k = rw (loc-back f.decl h.0, loc-back f.loc h.1)
    by (Some n) k = rw (loc-back f.decl h.0, loc-back f.loc h.1, small-number n k)

branch-back : (b : Branch) → IsSmallBranch b → branch_of (branch_data b) ≡ Some (branch_entry b)
branch-back b h = by b.line h.2
  where
    by : (line : Option ℕ) → IsSmall line → branch_of (branch_data (record b { line = line })) ≡ Some (record { kind = b.kind; loc = b.loc; locations = b.locations; line = line })
    by None k = rw (loc-back b.loc h.0, locs-back b.locations h.1)
    by (Some n) k = rw (loc-back b.loc h.0, locs-back b.locations h.1, small-number n k)

-- ---- members

put-in-turn : {A : Type 0} (key : A → List ℕ) (shown : A → Data) (x : A) (ys : List A) → put (key x) (shown x) (in_turn key shown ys) ≡ in_turn key shown (replace_key (bytes_cmp key) ys x)
put-in-turn key shown x [] = refl
put-in-turn key shown x (y ∷ ys) =
    elim (text_cmp (key x) (key y)) as (λ o. text_cmp (key x) (key y) ≡ o
    → match_ordering o (member (key x) (shown x) (member (key y) (shown y) (in_turn key shown ys))) (member (key y) (shown x) (in_turn key shown ys)) (member (key y) (shown y) (put (key x) (shown x) (in_turn key shown ys)))
    ≡ in_turn key shown (match_ordering o (x ∷ y ∷ ys) (x ∷ ys) (y ∷ replace_key (bytes_cmp key) ys x))) [
      | Less ↦ λ e. refl
      | Equal ↦ λ e. ap (λ k. member k (shown x) (in_turn key shown ys)) (sym (same-key (key x) (key y) e))
      | Greater ↦ λ e. ap (member (key y) (shown y)) (put-in-turn key shown x ys)
    ] refl

pub members-placed : {A : Type 0} (key : A → List ℕ) (shown : A → Data) (xs : List A) → members_by key shown xs ≡ in_turn key shown (placed (bytes_cmp key) xs)
members-placed key shown [] = refl
members-placed key shown (x ∷ xs) = ap (put (key x) (shown x)) (members-placed key shown xs) ∙ put-in-turn key shown x (placed (bytes_cmp key) xs)

turn-back : {A C : Type 0} (key : A → List ℕ) (shown : A → Data) (reads : Data → Option C) (what : A → C) (xs : List A) → AllByRecursion (λ x. reads (shown x) ≡ Some (what x)) xs
    → each_member reads (in_turn key shown xs) ≡ Some (map (λ x. (key x, what x)) xs)
turn-back key shown reads what [] h = refl
turn-back key shown reads what (x ∷ xs) h = rw (h.0, turn-back key shown reads what xs h.1)

pub members-back : {A C : Type 0} (key : A → List ℕ) (shown : A → Data) (reads : Data → Option C) (what : A → C) (xs : List A) → AllByRecursion (λ x. reads (shown x) ≡ Some (what x)) xs
    → each_member reads (members_by key shown xs) ≡ Some (map (λ x. (key x, what x)) (placed (bytes_cmp key) xs))
members-back key shown reads what xs h =
    ap (each_member reads) (members-placed key shown xs) ∙ turn-back key shown reads what (placed (bytes_cmp key) xs) (all-placed (bytes_cmp key) (λ x. reads (shown x) ≡ Some (what x)) xs h)

every : {A : Type 0} (P : A → Type 0) → ((x : A) → P x) → (xs : List A) → AllByRecursion P xs
every P each [] = tt
every P each (x ∷ xs) = (each x, every P each xs)

-- ---- a file

abbrev Keyed : Type 0 → Type 0
Keyed A = List (List ℕ × A)

abbrev assembled : ℕ → Option (List ℕ) → Option (Keyed Loc) → Option (Keyed FunctionEntry) → Option (Keyed BranchEntry) → Option (Keyed ℕ) → Option (Keyed ℕ) → Option (Keyed (List ℕ)) → Result FileParts CoverageFault
assembled k p st fn br os of ob = do
  path ← or_fault (Wrong k Path) p
  statements ← or_fault (Wrong k StatementMap) st
  functions ← or_fault (Wrong k FnMap) fn
  branches ← or_fault (Wrong k BranchMap) br
  s ← or_fault (Wrong k S) os
  f ← or_fault (Wrong k F) of
  b ← or_fault (Wrong k B) ob
  judged k path (same_keys statements s) (same_keys functions f) (same_keys branches b && as_many_counts branches b) (by_key (λ x. x.key) (map statement (zip statements s))) (by_key (λ x. x.key) (map function (zip functions f))) (by_key (λ x. x.key) (map branch (zip branches b)))

file-assembled : (k : ℕ) (f : FileParts) → file_of k f.path (file_data f) ≡ assembled k (path_as f.path (string f.path))
    (each_member loc_of (members_by (λ s. s.key) (λ s. loc_data s.loc) f.statements)) (each_member function_of (members_by (λ g. g.key) function_data f.functions))
    (each_member branch_of (members_by (λ b. b.key) branch_data f.branches)) (each_member whole (members_by (λ s. s.key) (λ s. count_data s.count) f.statements))
    (each_member whole (members_by (λ g. g.key) (λ g. count_data g.count) f.functions)) (each_member (listed whole) (members_by (λ b. b.key) (λ b. array (array_of count_data b.counts)) f.branches))
unfolding file_data
file-assembled k f = refl

path-back : (path : List ℕ) → path_as path (string path) ≡ Some path
path-back path = ap (λ t. cond t (Some path) None) (text-same path)

pub file-back : (k : ℕ) (f : FileParts) → IsReadable f → file_of k f.path (file_data f) ≡ Ok f
file-back k f h =
    let ss = placed (bytes_cmp (λ (s : Statement). s.key)) f.statements in
    let fs = placed (bytes_cmp (λ (g : Function). g.key)) f.functions in
    let bs = placed (bytes_cmp (λ (b : Branch). b.key)) f.branches in
    let st = members-back (λ (s : Statement). s.key) (λ s. loc_data s.loc) loc_of (λ s. s.loc) f.statements (all-map (λ s e. loc-back s.loc e) f.statements h.statements) in
    let fn = members-back (λ (g : Function). g.key) function_data function_of function_entry f.functions (all-map function-back f.functions h.functions) in
    let br = members-back (λ (b : Branch). b.key) branch_data branch_of branch_entry f.branches (all-map branch-back f.branches h.branches) in
    let os = members-back (λ (s : Statement). s.key) (λ s. count_data s.count) whole (λ s. s.count) f.statements (every _ (λ s. refl) f.statements) in
    let of = members-back (λ (g : Function). g.key) (λ g. count_data g.count) whole (λ g. g.count) f.functions (every _ (λ g. refl) f.functions) in
    let ob = members-back (λ (b : Branch). b.key) (λ b. array (array_of count_data b.counts)) (listed whole) (λ b. b.counts) f.branches (every _ (λ b. counts-back b.counts) f.branches) in
    file-assembled k f
    ∙ (λ i. assembled k (path-back f.path i) (st i) (fn i) (br i) (os i) (of i) (ob i))
    ∙ judged-is k f.path ss f.statements fs f.functions bs f.branches (by_key-placed (λ (s : Statement). s.key) f.statements h.keyed.statements) (by_key-placed (λ (g : Function). g.key) f.functions h.keyed.functions)
    (by_key-placed (λ (b : Branch). b.key) f.branches h.keyed.branches) (list_all-placed (bytes_cmp (λ (b : Branch). b.key)) has_all_counts f.branches h.keyed.counts)

-- ---- files

put-first : {A : Type 0} (key : A → List ℕ) (shown : A → Data) (x : A) (ys : List A) → AllByRecursion (λ k. text_cmp (key x) k ≡ Less) (map key ys)
    → put (key x) (shown x) (in_turn key shown ys) ≡ in_turn key shown (x ∷ ys)
put-first key shown x [] h = refl
put-first key shown x (y ∷ ys) h =
    ap (λ o. match_ordering o (member (key x) (shown x) (member (key y) (shown y) (in_turn key shown ys))) (member (key y) (shown x) (in_turn key shown ys)) (member (key y) (shown y) (put (key x) (shown x) (in_turn key shown ys)))) h.0

pub members-rising : {A : Type 0} (key : A → List ℕ) (shown : A → Data) (xs : List A) → IsStrict text_cmp text-total (map key xs) → members_by key shown xs ≡ in_turn key shown xs
members-rising key shown [] h = refl
members-rising key shown (x ∷ xs) h = ap (put (key x) (shown x)) (members-rising key shown xs h.1) ∙ put-first key shown x xs h.0

next-file : (f : FileParts) (fs : List FileParts) (one : Result FileParts CoverageFault) (more : Result (List FileParts) CoverageFault) → one ≡ Ok f → more ≡ Ok fs
    → (one >>= λ g. more >>= λ gs. Ok (g ∷ gs)) ≡ Ok (f ∷ fs)
next-file f fs one more e h = rw (e, h)

turn-files : (k : ℕ) (fs : List FileParts) → AllByRecursion IsReadable fs → files_from k (in_turn (λ f. f.path) file_data fs) ≡ Ok fs
turn-files k [] h = refl
turn-files k (f ∷ fs) h = next-file f fs (file_of k f.path (file_data f)) (files_from (suc k) (in_turn (λ g. g.path) file_data fs)) (file-back k f h.0) (turn-files (suc k) fs h.1)

pub files-back : (fs : List FileParts) → AllByRecursion IsReadable fs → ArePathsInOrder fs → files_of (object (members_by (λ f. f.path) file_data fs)) ≡ Ok fs
unfolding files_of
files-back fs h order =
    ap (files_from 0) (members-rising (λ f. f.path) file_data fs (subst (IsStrict text_cmp text-total) order (strict-in_order text_cmp text-total (map (λ f. f.path) fs))))
    ∙ turn-files 0 fs h

not-long : (m n : ℕ) → n ≤ m → nat_lt m n ≡ false
not-long m n h = grind (arith, nat_tests)

pub text-back : (bytes : List ℕ) (d : Data) (fs : List FileParts) → length bytes ≤ max_text → parsed bytes ≡ Some d → d ≡ object (members_by (λ f. f.path) file_data fs)
    → AllByRecursion IsReadable fs → ArePathsInOrder fs → coverage_reading bytes ≡ Ok fs
unfolding coverage_reading
text-back bytes d fs short read is h order =
    ap (λ t. cond t (Err TooLong) (or_fault Syntax (parsed bytes) >>= files_of)) (not-long max_text (length bytes) short)
    ∙ ap (λ o. or_fault Syntax o >>= files_of) (read ∙ ap Some is)
    ∙ files-back fs h order
