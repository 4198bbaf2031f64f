use Rattle.std.proofs.Common.{◌≡◌, length, subst, arith}
use Rattle.std.specs.List.{AllByRecursion}
use Rattle.std.proofs.lemmas.List.Elements.{recursion_from_All}
use Rattle.istanbul_rules.specs.declared.part.Part.{Part}
use Rattle.report_tests.proofs.rules.files.covered.Goals as goal

pub file_coverage-requires-clause-lines : goal.file_coverage-requires-clause-lines
file_coverage-requires-clause-lines g c =
    subst (λ n. AllByRecursion (λ (part : Part). length part.lines ≡ n) c.args.parts.now) c.in_ok-lines.ensures
    (recursion_from_All (λ (part : Part). length part.lines ≡ c.in_ok-lines.lines) c.args.parts.now (λ k d lt. c.loop-part.invariant k d (omega arith)))
