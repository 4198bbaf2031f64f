use Rattle.std.proofs.Common.{subst}
use Rattle.json_walk.proofs.Reading.{if_some_weaker}
use Rattle.istanbul_json.specs.Walks.{AreOrdered}
use Rattle.istanbul_json.proofs.Listing.{path_cmp, files-read-back, paths-rise}
use Rattle.istanbul_json.proofs.quick.quick_coverage.Goals as goal

pub returns-clause-reading : goal.returns-clause-reading
returns-clause-reading c =
    let xs = c.in_ok-files.files.members in
    if_some_weaker c.strictly_ordered.result
    (λ files ordered. files-read-back c.args.bytes.now xs files c.in_ok-files.ensures.short c.in_ok-files.ensures.value (subst (λ l. AreOrdered path_cmp l files) c.into_vec.ensures ordered)) c.strictly_ordered.ensures

pub returns-clause-in_order : goal.returns-clause-in_order
returns-clause-in_order c = if_some_weaker c.strictly_ordered.result (λ files ordered. paths-rise files ordered.rise) c.strictly_ordered.ensures
