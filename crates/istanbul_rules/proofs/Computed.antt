-- What computes the definitions on literals.
use Rattle.std.specs.Prelude.{⊤}
use Rattle.std.specs.Str.{chars}
use Rattle.std.specs.Fmt.{digits}
use Rattle.source_maps.specs.At.{segment_at}
use Rattle.source_remap.specs.Origins.{anchors, original_span}
use Rattle.utf16_lines.specs.Lines.{units, lines, table_of, table_of_lengths}
use Rattle.istanbul_rules.specs.Ignored.{ignored}
use Rattle.istanbul_rules.specs.Parts.{direct_loc, mapped_loc, direct_line, mapped_line, direct_part, mapped_part}
use Rattle.istanbul_rules.specs.File.{file_coverage}

unfoldable pub rules_on_literals : ⊤
unfolding chars digits units lines table_of table_of_lengths segment_at anchors original_span ignored direct_loc mapped_loc direct_line mapped_line direct_part mapped_part file_coverage
rules_on_literals = tt
