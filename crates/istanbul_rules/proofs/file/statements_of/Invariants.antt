use Rattle.std.proofs.Common.{◌≡◌}
use Rattle.std.proofs.Common.{◌++◌, ◌≤◌, ◌^◌, length}
use Rattle.istanbul_rules.specs.File as file
use Rattle.istanbul_rules.proofs.file.statements_of.Given as goal

abbrev pub invariant-loop-i : goal.invariant-loop-i
invariant-loop-i l = record {
  value :
      l.statements ++ file.keyed (file.statement l.table) (length l.statements) (file.counted_from l.off l.parts l.i)
      ≡ file.statements_of l.table l.off l.parts;
  bound : length l.statements ≤ 2 ^ 64;
}
