use Rattle.std.proofs.Common.{ap, map, inl, inr}
use Rattle.std.specs.Prelude.{string_bytes}
use Rattle.std.specs.Iterator.Adapters.{zip_first, zip_second}
use Rattle.std.specs.Slice.Iter.{iter_rest}
use Rattle.std.proofs.lemmas.Slice.Zip.{either_empty_from_Zip}
use Rattle.cov_commands.proofs.Collects.{lines-end}
use Rattle.cov_commands.proofs.collect.lines_of.Goals as goal

pub returns : goal.returns
returns c =
    let left = c.loop-path.path-iterator in
    lines-end c.loop-path.written.items (map string_bytes (iter_rest (zip_first left))) (iter_rest (zip_second left)) _
    (elim (either_empty_from_Zip left c.next.new.self c.next.result c.in-None.is c.next.ensures.steps) [
      | inl paths ↦ inl (ap (map string_bytes) paths)
      | inr answers ↦ inr answers
    ])
    c.loop-path.invariant
