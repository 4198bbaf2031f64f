use Rattle.std.proofs.Common.{◌≡◌, ◌+◌, ◌*◌, ◌<◌, ◌≤◌, true, false, ◌++◌, drop}
use Rattle.utf16_lines.specs.Scan.{scanned, units_in}
use Rattle.utf16_lines.proofs.scan.text_lines.Given as goal

-- the lines found, and what is scanned of the rest, are those of all bytes
abbrev pub invariant-loop-byte : goal.invariant-loop-byte
invariant-loop-byte l = record {
  lines : l.spans.items ++ scanned l.start l.cr l.at (drop l.byte-index l.bytes) ≡ scanned 0 false 0 l.bytes;
  units : l.at + units_in (drop l.byte-index l.bytes) ≡ units_in l.bytes;
  small : l.at ≤ 2 * l.byte-index;
  behind_cr : l.cr ≡ true → 0 < l.at;
}
