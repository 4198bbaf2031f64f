-- What computes the definitions on literals, from the bytes of texts on.
use Rattle.std.specs.Prelude.{⊤}
use Rattle.std.specs.Str.{is_utf8, chars}
use Rattle.std.specs.Char.{encode_utf8}
use Rattle.std.specs.Fmt.{digits}
use Rattle.serde_json.proofs.OnLiterals.{serde_json_on_literals}
use Rattle.percent_encoding.proofs.OnLiterals.{percent_encoding_on_literals}
use Rattle.cov_model.proofs.Examples.{cov_on_literals}
use Rattle.utf16_lines.specs.Lines.{units, lines, table_of, table_of_lengths}
use Rattle.vlq_mappings.specs.Mappings.{mappings}
use Rattle.source_maps.specs.At.{segment_at}
use Rattle.source_maps.specs.Maps.{map_of}
use Rattle.cov_files.specs.Maps.{maps_reading}
use Rattle.source_remap.specs.Paths.{path_of, source_path}
use Rattle.source_remap.specs.Origins.{anchors, original_span}
use Rattle.istanbul_rules.specs.Ignored.{ignored}
use Rattle.istanbul_rules.specs.Parts.{direct_loc, mapped_loc, direct_line, mapped_line, direct_part, mapped_part}
use Rattle.istanbul_rules.specs.File.{file_coverage}
use Rattle.cov_report.specs.Wanted.{asked}
use Rattle.cov_report.specs.Report.{outcomes, report}
use Rattle.cov_report.specs.Texts.{entries_of_taken, report_of_texts}

unfoldable pub report_on_literals : ⊤
unfolding cov_on_literals serde_json_on_literals percent_encoding_on_literals is_utf8 chars encode_utf8 digits units lines table_of table_of_lengths mappings segment_at map_of maps_reading path_of source_path anchors original_span ignored direct_loc mapped_loc direct_line mapped_line direct_part mapped_part file_coverage asked outcomes report entries_of_taken report_of_texts
report_on_literals = tt
