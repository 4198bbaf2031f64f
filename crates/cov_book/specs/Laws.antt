-- What holds of the file of a list of snapshots.
use Rattle.std.specs.Prelude.{◌≡◌, ℕ, List, ◌∷◌, ◌++◌, map, flat_map}
use Rattle.std.specs.List.Sorted.{IsPermutation}
use Rattle.cov_model.specs.declared.report.FunctionReport.{FunctionReport}
use Rattle.cov_model.specs.declared.snapshot.Entry.{Entry}
use Rattle.cov_model.specs.declared.snapshot.Snapshot.{Snapshot}
use Rattle.cov_model.specs.Sums.{fits}
use Rattle.cov_model.specs.File.{scripts, file}
use Rattle.cov_model.specs.Held.{held_of}

-- The two lists come to one: the same sums, which pass the limit in both or in neither, and one file.
pub record ComeToOne (one other : List Snapshot) : Type 0 where
  pub sums : held_of one ≡ held_of other
  pub fit : fits one ≡ fits other
  pub file : file one ≡ file other

-- The order in which snapshots were taken is nothing to their sums.
abbrev pub AnyOrder : Type 0
AnyOrder = (one other : List Snapshot) → IsPermutation one other → ComeToOne one other

-- What was merged in parts, and then merged, is what was merged at once.
abbrev pub MergesInParts : Type 0
MergesInParts = (parts : List (List Snapshot)) → ComeToOne (map scripts parts) (flat_map (λ part. part) parts)

abbrev pub script : List ℕ → List FunctionReport → Entry
script url functions = record { url = url; functions = functions }

-- Two scripts of one url in a snapshot are one script with the functions of both.
abbrev pub JoinsInOne : Type 0
JoinsInOne =
    (before after : List Snapshot) (front middle back : List Entry) (url : List ℕ) (some more : List FunctionReport)
    → ComeToOne (before ++ (front ++ script url some ∷ (middle ++ script url more ∷ back)) ∷ after) (before ++ (front ++ script url (some ++ more) ∷ (middle ++ back)) ∷ after)

-- The same of two scripts of one url in two snapshots.
abbrev pub JoinsOverTwo : Type 0
JoinsOverTwo =
    (before between after : List Snapshot) (front back left right : List Entry) (url : List ℕ) (some more : List FunctionReport)
    → ComeToOne (before ++ (front ++ script url some ∷ back) ∷ (between ++ (left ++ script url more ∷ right) ∷ after))
    (before ++ (front ++ script url (some ++ more) ∷ back) ∷ (between ++ (left ++ right) ∷ after))
