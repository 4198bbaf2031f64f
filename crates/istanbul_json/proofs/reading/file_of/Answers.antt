use Rattle.std.proofs.Common.{◌≡◌, true, map, rules}
use Rattle.std.specs.List.{zip}
use Rattle.istanbul_json.specs.Answers.{pairs}
use Rattle.istanbul_json.specs.Coverage.{as_many_counts, statement, function}
use Rattle.istanbul_json.proofs.Files.{keyed}
use Rattle.istanbul_json.proofs.reading.file_of.Goals as goal

pub new-requires : goal.new-requires
new-requires c =
    let many : as_many_counts (pairs c.in_ok-branches.branches) (pairs c.in_ok-b.b) ≡ true = search rules in
    keyed c.in_ok-path.path c.in-Ok.statements (map statement (zip (pairs c.in_ok-statements.statements) (pairs c.in_ok-s.s)))
    c.in-Ok-in_key_order.functions (map function (zip (pairs c.in_ok-functions.functions) (pairs c.in_ok-f.f)))
    c.in-Ok-in_key_order-2.branches (pairs c.in_ok-branches.branches) (pairs c.in_ok-b.b) c.in-Ok.ensures c.in-Ok-in_key_order.ensures c.in-Ok-in_key_order-2.ensures many
