use Rattle.std.proofs.Common.{◌≡◌, ◌∷◌, ◌++◌, [], sym, ◌∙◌}
use Rattle.istanbul_json.proofs.Files.{one-more, one-path, paths-in-order, if-pushed}
use Rattle.istanbul_json.proofs.reading.files_of.Goals as goal

pub loop-path-preserved : goal.loop-path-preserved
loop-path-preserved c =
    let grown : c.push.new.self ≡ c.loop-path.files ++ c.in_ok-file.file ∷ [] = if-pushed c.push.result (sym c.is_err.ensures.value ∙ c.if-is_err.false) c.push.ensures.ok in
    record {
      read =
          one-more c.loop-path.files c.push.new.self c.loop-path.path-iterator c.next.new.self c.next.result c.in-Some.path c.in-Some.value c.as_str.result c.in_ok-file.file
          c.len.result _ c.in-Some.is c.next.ensures.steps c.as_str.ensures.value c.len.ensures c.in_ok-file.ensures.file grown c.loop-path.invariant.read;
      paths =
          one-path c.loop-path.files c.push.new.self c.loop-path.path-iterator c.next.new.self c.next.result c.in-Some.path c.in-Some.value c.as_str.result c.in_ok-file.file
          _ c.in-Some.is c.next.ensures.steps c.as_str.ensures.value c.in_ok-file.ensures.path grown c.loop-path.invariant.paths;
    }

pub returns-clause-in_order : goal.returns-clause-in_order
returns-clause-in_order c =
    paths-in-order c.loop-path.files c.loop-path.path-iterator c.next.new.self c.args.members.now.entries c.next.result c.in-None.is c.next.ensures.steps c.into_iter-path-iterator.ensures.into_iter_gives.5
    c.loop-path.invariant.paths
