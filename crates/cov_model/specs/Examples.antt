-- Worked examples, as equations that the laws of `src/laws.rt` cite.
use Rattle.std.specs.Prelude.{◌≡◌, ℕ, true, false, List, [], ◌∷◌, None, Some, Ok, Err, codes, map}
use Rattle.cov_model.specs.declared.report.Range.{Range}
use Rattle.cov_model.specs.declared.report.RangeFault.TheVariants.{NoRange, Inverted, Outside, Crossing}
use Rattle.cov_model.specs.declared.snapshot.Snapshot.{Snapshot}
use Rattle.cov_model.specs.declared.snapshot.Field.TheVariants.{Count}
use Rattle.cov_model.specs.declared.snapshot.ShapeFault.TheVariants.{Missing, Wrong}
use Rattle.cov_model.specs.declared.snapshot.TextFault.TheVariants.{Syntax, Shape}
use Rattle.cov_model.specs.declared.sums.Key.{Key}
use Rattle.cov_model.specs.declared.sums.At.TheVariants.{Root}
use Rattle.cov_model.specs.declared.sums.Answer.TheVariants.{Taken, Past}
use Rattle.cov_model.specs.Nesting.{range_fault}
use Rattle.cov_text.specs.Listing.{limit}
use Rattle.cov_model.specs.Sums.{root, total}
use Rattle.cov_model.specs.Normal.{range, is_flat}
use Rattle.cov_model.specs.declared.report.ListForm.{ListForm}
use Rattle.cov_model.specs.declared.report.ListForm.TheVariants.{Nested, Flat}
use Rattle.cov_model.specs.Forms.{list_in}
use Rattle.cov_model.specs.File.{scripts, file}
use Rattle.cov_model.specs.Reading.{reading, at_range}
use Rattle.cov_model.specs.Files.{IsNormalFile}
use Rattle.cov_model.specs.Held.{held_of}
use Rattle.cov_model.specs.Outcome.{answers, accepted}

-- one script, one function of these ranges
abbrev pub one : List Range → Snapshot
one ranges = record { url = codes "file:///a.js"; functions = record { name = []; block = true; ranges = ranges } ∷ [] } ∷ []

-- the ranges of the only function
abbrev pub ranges_of : Snapshot → List (List (List Range))
ranges_of snapshot = map (λ entry. map (λ f. f.ranges) entry.functions) snapshot

abbrev pub merged : List Snapshot → List (List (List Range))
merged snapshots = ranges_of (scripts snapshots)

abbrev pub just : List Range → List (List (List Range))
just ranges = (ranges ∷ []) ∷ []

-- two files, nested, whose inner run sums to the root's count
abbrev pub TwoFiles : Type 0
TwoFiles =
    merged (one (range 0 100 1 ∷ range 10 50 5 ∷ range 20 30 3 ∷ []) ∷ one (range 0 100 2 ∷ range 20 60 0 ∷ []) ∷ [])
    ≡ just (range 0 100 3 ∷ range 10 20 7 ∷ range 30 50 5 ∷ range 50 60 1 ∷ [])

-- a root count that shows at no offset
abbrev pub HiddenRoot : Type 0
HiddenRoot = merged (one (range 0 10 4 ∷ range 0 10 9 ∷ []) ∷ []) ≡ just (range 0 10 4 ∷ range 0 10 9 ∷ [])

-- one url twice in one file
abbrev pub UrlTwice : Type 0
UrlTwice =
    merged
    ((record { url = codes "file:///a.js"; functions = record { name = []; block = true; ranges = range 0 10 2 ∷ [] } ∷ [] }
    ∷ record { url = codes "file:///a.js"; functions = record { name = []; block = true; ranges = range 0 10 3 ∷ [] } ∷ [] } ∷ [])
    ∷ [])
    ≡ just (range 0 10 5 ∷ [])

-- two names of one range
abbrev pub TwoNames : Type 0
TwoNames =
    scripts
    ((record {
      url = codes "file:///a.js";
      functions = record { name = codes "f"; block = true; ranges = range 0 14 1 ∷ [] } ∷ record { name = []; block = true; ranges = range 0 14 1 ∷ [] } ∷ [];
    } ∷ []) ∷ [])
    ≡ record {
      url = codes "file:///a.js";
      functions = record { name = []; block = true; ranges = range 0 14 1 ∷ [] } ∷ record { name = codes "f"; block = true; ranges = range 0 14 1 ∷ [] } ∷ [];
    } ∷ []

-- a script with no function, and an empty root
abbrev pub NoFunction : Type 0
NoFunction =
    file ((record { url = codes "file:///b.js"; functions = [] } ∷ record { url = codes "file:///a.js"; functions = record { name = []; block = true; ranges = range 0 0 1 ∷ [] } ∷ [] } ∷ []) ∷ [])
    ≡ codes "{\"result\":[{\"functions\":[{\"functionName\":\"\",\"isBlockCoverage\":true,\"ranges\":[{\"count\":1,\"endOffset\":0,\"startOffset\":0}]}],\"scriptId\":\"0\",\"url\":\"file:///a.js\"},{\"functions\":[],\"scriptId\":\"1\",\"url\":\"file:///b.js\"}]}"

-- which lists are no ranges of a function
abbrev pub CrossingRanges : Type 0
CrossingRanges = range_fault (range 0 10 1 ∷ range 2 6 1 ∷ range 4 8 1 ∷ []) ≡ Some (Crossing 2 1)

abbrev pub RangeShapes : Type 0
RangeShapes =
    (range_fault (range 0 10 1 ∷ range 5 5 7 ∷ []) ≡ None)
    × (merged (one (range 0 10 1 ∷ range 5 5 7 ∷ []) ∷ []) ≡ just (range 0 10 1 ∷ []))
    × (range_fault (range 0 10 1 ∷ range 8 12 1 ∷ []) ≡ Some (Outside 1))
    × (range_fault (range 0 10 1 ∷ range 6 4 1 ∷ []) ≡ Some (Inverted 1))
    × (range_fault [] ≡ Some NoRange)

abbrev pub the_key : ℕ → ℕ → Key
the_key start end = record { url = codes "file:///a.js"; start = start; end = end; name = [] }

-- a sum past 64 bits
abbrev pub PastTheLimit : Type 0
PastTheLimit =
    let a = one (range 0 10 limit ∷ []) in
    let b = one (range 0 10 1 ∷ []) in
    let c = one (range 0 10 0 ∷ []) in
    (answers (Ok a ∷ Ok b ∷ Ok c ∷ []) ≡ Taken ∷ Past (record { key = the_key 0 10; at = Root; held = limit; added = 1 }) ∷ Taken ∷ [])
    × (accepted (Ok a ∷ Ok b ∷ Ok c ∷ []) ≡ a ∷ c ∷ [])
    × (merged (a ∷ c ∷ []) ≡ just (range 0 10 limit ∷ []))

-- the counts of a loop and a conditional
abbrev pub branch_ranges : List Range
branch_ranges = range 0 34 1 ∷ range 13 33 10 ∷ range 19 24 4 ∷ range 24 30 6 ∷ []

abbrev pub Branches : Type 0
Branches = merged (one branch_ranges ∷ []) ≡ just branch_ranges

-- ---- the two forms

abbrev pub list_of : ListForm → ℕ → ℕ → List Range → List Range
list_of form start end ranges = list_in form start end (root (one ranges ∷ []) (the_key start end)) (total (one ranges ∷ []) (the_key start end))

-- the same counts side by side
abbrev pub BranchesFlat : Type 0
BranchesFlat = list_of Flat 0 34 branch_ranges ≡ range 0 34 1 ∷ range 13 19 10 ∷ range 19 24 4 ∷ range 24 30 6 ∷ range 30 33 10 ∷ []

-- what comes again behind the last offset of a count is no part of it
abbrev pub ComesAgain : Type 0
ComesAgain =
    let ranges = range 0 10 1 ∷ range 2 7 5 ∷ range 4 6 7 ∷ range 7 9 7 ∷ [] in
    list_of Nested 0 10 ranges ≡ ranges

-- ---- from a text, and to a text

abbrev pub text1 : List ℕ
text1 = codes "{\"result\":[{\"functions\":[{\"functionName\":\"\",\"isBlockCoverage\":true,\"ranges\":[{\"count\":1,\"endOffset\":10,\"startOffset\":0}]}],\"scriptId\":\"0\",\"url\":\"file:///a.js\"}]}"

abbrev pub ThereAndBack : Type 0
ThereAndBack = (reading text1 ≡ Ok (one (range 0 10 1 ∷ []))) × (file (one (range 0 10 1 ∷ []) ∷ []) ≡ text1)

abbrev pub NoSnapshot : Type 0
NoSnapshot = file [] ≡ codes "{\"result\":[]}"

abbrev pub no_count : List ℕ
no_count = codes "{\"result\":[{\"functions\":[{\"functionName\":\"\",\"isBlockCoverage\":true,\"ranges\":[{\"endOffset\":10,\"startOffset\":0}]}],\"url\":\"file:///a.js\"}]}"

abbrev pub half_count : List ℕ
half_count = codes "{\"result\":[{\"functions\":[{\"functionName\":\"\",\"isBlockCoverage\":true,\"ranges\":[{\"count\":1.5,\"endOffset\":10,\"startOffset\":0}]}],\"url\":\"file:///a.js\"}]}"

abbrev pub ReadingFaults : Type 0
ReadingFaults =
    (reading (codes "{\"result\":[") ≡ Err Syntax)
    × (reading no_count ≡ Err (Shape (Missing (at_range 0 0 0) Count)))
    × (reading half_count ≡ Err (Shape (Wrong (at_range 0 0 0) Count)))

-- a normal file, and lists that are flat normal lists and that aren't
abbrev pub NormalFile : Type 0
NormalFile = IsNormalFile text1

abbrev pub FlatLists : Type 0
FlatLists =
    (is_flat (range 0 100 3 ∷ range 10 20 7 ∷ range 30 50 5 ∷ range 50 60 1 ∷ []) ≡ true)
    × (is_flat (range 0 100 3 ∷ range 10 15 7 ∷ range 15 20 7 ∷ range 30 50 5 ∷ range 50 60 1 ∷ []) ≡ false)
    × (is_flat (range 0 10 4 ∷ range 0 10 4 ∷ []) ≡ false)

-- all sums of two reports of one function
abbrev pub HeldSums : Type 0
HeldSums =
    held_of (one (range 0 3 1 ∷ range 1 2 5 ∷ []) ∷ one (range 0 3 2 ∷ []) ∷ [])
    ≡ record { urls = codes "file:///a.js" ∷ []; functions = record { key = the_key 0 3; block = true; root = 3; counts = 3 ∷ 7 ∷ 3 ∷ [] } ∷ [] }
