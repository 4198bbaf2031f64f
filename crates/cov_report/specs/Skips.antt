-- What a report leaves out for want of a file.
use Rattle.std.specs.Prelude.{Bool, true, false, List}
use Rattle.std.specs.List.{list_any}
use Rattle.cov_report.specs.declared.answer.SkipCause.{SkipCause}
use Rattle.cov_report.specs.declared.answer.SkipCause.TheVariants.{NotFile, Absent, TooLong, NotUtf8, BadMap}
use Rattle.cov_report.specs.declared.answer.Skip.{Skip}

abbrev pub is_absent : SkipCause → Bool
is_absent NotFile = false
is_absent Absent = true
is_absent TooLong = false
is_absent NotUtf8 = false
is_absent BadMap = false

-- a file was absent
abbrev pub has_absent : List Skip → Bool
has_absent skips = list_any (λ s. is_absent s.cause) skips
