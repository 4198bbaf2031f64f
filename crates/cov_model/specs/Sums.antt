-- What a list of snapshots sums to. A function is known by the url of its script, its root and its name.
-- A snapshot is a list of `ScriptCoverage`s, and a report a `FunctionCoverage`.
use Rattle.std.specs.Prelude.{ℕ, min, ◌-◌, ◌^◌, Bool, false, ◌&&◌, List, [], ◌∷◌, ◌++◌, map, nat_lt, nat_le, ◌==◌, Option, option_map, unwrap_or, filter, filter_map, flat_map, find, sum_by}
use Rattle.std.specs.List.{list_any, list_all}
use Rattle.std.specs.declared.cmp.Ordering.{Ordering}
use Rattle.std.specs.Ordering.{nat_cmp, ordering_then}
use Rattle.cov_model.specs.declared.report.FunctionReport.{FunctionReport}
use Rattle.cov_model.specs.declared.snapshot.Snapshot.{Snapshot}
use Rattle.cov_model.specs.declared.sums.Key.{Key}
use Rattle.cov_model.specs.declared.sums.At.{At}
use Rattle.cov_model.specs.declared.sums.At.TheVariants.{Root, Offset}
use Rattle.cov_model.specs.declared.sums.SumFault.{SumFault}
use Rattle.cov_text.specs.Listing.{limit, first_of, offsets, same_text, text_cmp, in_order}
use Rattle.cov_model.specs.Nesting.{inner_count}

-- what names the report of a script
abbrev pub key_of : List ℕ → FunctionReport → Option Key
key_of url f = option_map (λ root. record { url = url; start = root.start; end = root.end; name = f.name }) (first_of f.ranges)

abbrev pub same_key : Key → Key → Bool
same_key a b = same_text a.url b.url && (a.start == b.start && (a.end == b.end && same_text a.name b.name))

-- the report of this script is one of the key's
abbrev pub is_of : Key → List ℕ → FunctionReport → Bool
is_of key url f = unwrap_or (option_map (same_key key) (key_of url f)) false

-- all reports of a key, one that stands twice being listed twice
unfoldable pub reports : List Snapshot → Key → List FunctionReport
reports snapshots key = flat_map (λ snapshot. flat_map (λ entry. filter (is_of key entry.url) entry.functions) snapshot) snapshots

-- all urls, and all keys that have a report, as often as they stand
abbrev pub urls : List Snapshot → List (List ℕ)
urls snapshots = flat_map (λ snapshot. map (λ entry. entry.url) snapshot) snapshots

abbrev pub keys : List Snapshot → List Key
keys snapshots = flat_map (λ snapshot. flat_map (λ entry. filter_map (key_of entry.url) entry.functions) snapshot) snapshots

-- the count of a report's root
abbrev pub root_count : FunctionReport → ℕ
root_count f = unwrap_or (option_map (λ r. r.count) (first_of f.ranges)) 0

-- the sum of the root counts of the key's reports
unfoldable pub root : List Snapshot → Key → ℕ
root snapshots key = sum_by root_count (reports snapshots key)

-- the sum of their innermost counts at an offset of the root
unfoldable pub total : List Snapshot → Key → ℕ → ℕ
total snapshots key o = sum_by (λ f. inner_count f.ranges o) (reports snapshots key)

-- one of them has blocks
unfoldable pub flag : List Snapshot → Key → Bool
flag snapshots key = list_any (λ f. f.block) (reports snapshots key)

-- urls in byte order; starts rising, ends falling, names in byte order
abbrev pub file_order : Key → Key → Ordering
file_order a b = ordering_then (text_cmp a.url b.url) (ordering_then (nat_cmp a.start b.start) (ordering_then (nat_cmp b.end a.end) (text_cmp a.name b.name)))

abbrev pub urls_in_order : List Snapshot → List (List ℕ)
urls_in_order snapshots = in_order text_cmp (urls snapshots)

abbrev pub keys_in_order : List Snapshot → List Key
keys_in_order snapshots = in_order file_order (keys snapshots)

-- the sum at a point of a key: its root, or an offset
abbrev pub sum_at : List Snapshot → Key → At → ℕ
sum_at snapshots key Root = root snapshots key
sum_at snapshots key (Offset o) = total snapshots key o

-- the root before the offsets, rising
abbrev pub points : Key → List At
points key = Root ∷ map Offset (offsets key.start key.end)

-- every sum, in file order
abbrev pub sums : List Snapshot → List (Key × At)
sums snapshots = flat_map (λ key. map (λ point. (key, point)) (points key)) (keys_in_order snapshots)

abbrev pub passes_limit : List Snapshot → Key × At → Bool
passes_limit snapshots at = nat_lt limit (sum_at snapshots at.0 at.1)

-- no sum passes the limit
unfoldable pub fits : List Snapshot → Bool
fits snapshots = list_all (λ at. nat_le (sum_at snapshots at.0 at.1) limit) (sums snapshots)

-- The first sum that passes the limit where a snapshot is added to those held. What is added is told as far as 128 bits go.
unfoldable pub sum_fault : List Snapshot → Snapshot → Option SumFault
sum_fault held snapshot =
    let both = held ++ snapshot ∷ [] in
    option_map (λ at. record { key = at.0; at = at.1; held = sum_at held at.0 at.1; added = min (sum_at (snapshot ∷ []) at.0 at.1) (2 ^ 128 - 1) }) (find (passes_limit both) (sums both))
