-- Sums as code counts them.
use Rattle.std.specs.Prelude.{ℕ, ◌^◌, ◌-◌, ◌+◌, min, Bool, filter, List, flat_map, find, Option, nat_lt, sum_by}
use Rattle.cov_model.specs.declared.report.FunctionReport.{FunctionReport}
use Rattle.cov_model.specs.declared.snapshot.Snapshot.{Snapshot}
use Rattle.cov_model.specs.declared.sums.Key.{Key}
use Rattle.cov_model.specs.declared.sums.At.{At}
use Rattle.cov_model.specs.declared.sums.At.TheVariants.{Root, Offset}
use Rattle.cov_model.specs.declared.sums.SumFault.{SumFault}
use Rattle.cov_model.specs.Nesting.{inner_count}
use Rattle.cov_text.specs.Listing.{limit}
use Rattle.cov_model.specs.Sums.{root_count, is_of, reports, points}

abbrev pub capped : ℕ → ℕ
capped n = min n (2 ^ 128 - 1)

abbrev pub weight : At → FunctionReport → ℕ
weight Root f = root_count f
weight (Offset o) f = inner_count f.ranges o

-- the reports of a key in one snapshot
abbrev pub reports_in : Key → Snapshot → List FunctionReport
reports_in key snapshot = flat_map (λ entry. filter (is_of key entry.url) entry.functions) snapshot

-- at this point the reports and the new ones pass the limit
abbrev pub passes : List FunctionReport → List FunctionReport → At → Bool
passes before new at = nat_lt limit (sum_by (weight at) before + sum_by (weight at) new)

-- the first of the points at which they do
abbrev pub first_point : List Snapshot → Snapshot → Key → List At → Option At
first_point held snapshot key points = find (passes (reports held key) (reports_in key snapshot)) points

-- what is told of a sum past the limit
abbrev pub fault_with : List Snapshot → Snapshot → Key → At → SumFault
fault_with held snapshot key at = record { key = key; at = at; held = min (sum_by (weight at) (reports held key)) limit; added = capped (sum_by (weight at) (reports_in key snapshot)) }
