-- What holds of the files of lists of snapshots.
use Rattle.std.specs.Prelude.{◌≡◌, ◌<◌, ◌^◌, ◌↔◌, ℕ, List, map, Ok, IsTrue}
use Rattle.std.specs.List.{AllByRecursion}
use Rattle.serde_json.specs.Data.{Data}
use Rattle.serde_json.specs.Written.{compact_text}
use Rattle.cov_model.specs.declared.report.Range.{Range}
use Rattle.cov_model.specs.declared.snapshot.Entry.{Entry}
use Rattle.cov_model.specs.declared.snapshot.Snapshot.{Snapshot}
use Rattle.cov_model.specs.Sums.{fits}
use Rattle.cov_model.specs.File.{file, result_data}
use Rattle.cov_model.specs.Reading.{reading, snapshot_of}
use Rattle.cov_model.specs.Held.{held_of}
use Rattle.cov_model.specs.Outcome.{accepted}

-- A snapshot that was read of some JSON value: the whole of a text, or the reply to a take.
abbrev pub IsRead : Snapshot → Type 0
IsRead snapshot = (value : Data) × (snapshot_of value ≡ Ok snapshot)

-- Each was read.
abbrev pub AreRead : List Snapshot → Type 0
AreRead = AllByRecursion IsRead

-- Two lists of snapshots that were read, and that fit, have one file exactly where they have the same sums.
abbrev pub OneFile : Type 0
OneFile =
    (one other : List Snapshot) → IsTrue (fits one) → IsTrue (fits other) → AreRead one → AreRead other
    → (file one ≡ file other) ↔ (held_of one ≡ held_of other)

-- What a text is read as was read.
abbrev pub ReadingsAreRead : Type 0
ReadingsAreRead = (bytes : List ℕ) (snapshot : Snapshot) → reading bytes ≡ Ok snapshot → IsRead snapshot

-- So was all that is accepted of texts that are taken one after the other.
abbrev pub AcceptedAreRead : Type 0
AcceptedAreRead = (texts : List (List ℕ)) → AreRead (accepted (map reading texts))

-- The merged files of two lists of texts are equal bytes exactly where what was accepted of them has the same sums.
abbrev pub OneFileOfTexts : Type 0
OneFileOfTexts =
    (texts more : List (List ℕ))
    → (file (accepted (map reading texts)) ≡ file (accepted (map reading more)))
    ↔ (held_of (accepted (map reading texts)) ≡ held_of (accepted (map reading more)))

-- Offsets are below 2^32, and counts below 2^64.
abbrev pub IsInBounds : Range → Type 0
IsInBounds r = (r.start < 2 ^ 32) × (r.end < 2 ^ 32) × (r.count < 2 ^ 64)

abbrev pub AreInBounds : List Entry → Type 0
AreInBounds entries = AllByRecursion (λ entry. AllByRecursion (λ f. AllByRecursion IsInBounds f.ranges) entry.functions) entries

-- The text of scripts is read as these scripts, or not at all.
abbrev pub ReadBack : Type 0
ReadBack =
    (scripts : List Entry) (snapshot : Snapshot) → AreInBounds scripts → reading (compact_text (result_data scripts)) ≡ Ok snapshot → snapshot ≡ scripts

-- ---- within the proofs

-- Offsets are below 2^32, as those of every snapshot that was read.
abbrev pub HasOffsets : List Snapshot → Type 0
HasOffsets snapshots =
    AllByRecursion (λ snapshot. AllByRecursion (λ entry. AllByRecursion (λ f.
    AllByRecursion (λ r. (r.start < 2 ^ 32) × (r.end < 2 ^ 32)) f.ranges) entry.functions) snapshot) snapshots
