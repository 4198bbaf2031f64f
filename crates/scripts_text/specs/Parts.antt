-- The texts of ranges, and those that stand before and behind the lists of ranges and functions.
use Rattle.std.specs.Prelude.{ℕ, List, ◌++◌, Bool, true, false, codes, decimal}
use Rattle.json.specs.Print.{quoted}
use Rattle.cov_model.specs.declared.report.Range.{Range}
use Rattle.cov_model.specs.declared.report.FunctionReport.{FunctionReport}
use Rattle.cov_model.specs.declared.snapshot.Entry.{Entry}

abbrev pub range_text : Range → List ℕ
range_text r = codes "{\"count\":" ++ decimal r.count ++ (codes ",\"endOffset\":" ++ decimal r.end ++ (codes ",\"startOffset\":" ++ decimal r.start ++ codes "}"))

abbrev pub behind_name : Bool → List ℕ
behind_name true = codes ",\"isBlockCoverage\":true,\"ranges\":["
behind_name false = codes ",\"isBlockCoverage\":false,\"ranges\":["

abbrev pub before_ranges : FunctionReport → List ℕ
before_ranges f = codes "{\"functionName\":" ++ (quoted f.name ++ behind_name f.block)

abbrev pub behind_functions : ℕ → Entry → List ℕ
behind_functions place entry = codes ",\"scriptId\":" ++ (quoted (decimal place) ++ (codes ",\"url\":" ++ (quoted entry.url ++ codes "}")))
