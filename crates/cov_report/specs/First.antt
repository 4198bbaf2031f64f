-- The first entries of urls, and their places.
use Rattle.std.specs.Prelude.{◌≡◌, ℕ, List, Option, option_map}
use Rattle.std.specs.Borrow.{Bor}
use Rattle.std.specs.declared.cmp.Ordering.{Ordering}
use Rattle.std.specs.List.{position_from}
use Rattle.std.specs.BTreeMap.{BTreeMap, get}
use Rattle.cov_text.specs.Listing.{same_text, text_cmp}
use Rattle.cov_io.specs.Told.{Files}
use Rattle.cov_model.specs.declared.snapshot.Snapshot.{Snapshot}
use Rattle.source_maps.specs.declared.entries.MapEntry.{MapEntry}
use Rattle.source_maps.specs.declared.entries.EntryBody.{EntryBody}
use Rattle.source_maps.specs.Entries.{Said, said_body}
use Rattle.cov_report.specs.declared.kept.FirstEntries.{FirstEntries}
use Rattle.cov_report.specs.Wanted.{entry_for}
use Rattle.cov_report.specs.Report.{report}

-- byte order of what is lent
abbrev pub lent_cmp : Bor (List ℕ) → Bor (List ℕ) → Ordering
lent_cmp a b = text_cmp a.now b.now

-- each url has the place of its first entry
abbrev pub ArePlaces : List MapEntry → BTreeMap (Bor (List ℕ)) ℕ → Type 0
ArePlaces entries places = (url : Bor (List ℕ)) → get lent_cmp places url ≡ position_from (λ e. same_text e.url url.now) 0 entries

-- ---- what is kept of many entries

abbrev pub said_at : List ℕ → EntryBody → Said
said_at url body = record { url = url; body = said_body body }

-- what is kept of a url
abbrev pub kept_for : FirstEntries → List ℕ → Option Said
kept_for kept url = option_map (said_at url) (get text_cmp kept.bodies url)

-- Of each url that has an entry the first is kept, and no other.
abbrev pub AreFirsts : List Said → FirstEntries → Type 0
AreFirsts entries kept = (url : List ℕ) → kept_for kept url ≡ entry_for entries url

-- Each url has one first entry in both, or none in both.
abbrev pub HaveSameFirsts : List Said → List Said → Type 0
HaveSameFirsts one other = (url : List ℕ) → entry_for one url ≡ entry_for other url

-- A report asks for nothing but the first entry of each url.
abbrev pub FirstsAreEnough : Type 0
FirstsAreEnough = (snapshots : List Snapshot) (one other : List Said) (files : Files)
    → HaveSameFirsts one other → report snapshots one files ≡ report snapshots other files
