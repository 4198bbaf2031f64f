use Rattle.std.proofs.Common.{◌≡◌, Some, sym, subst, rules}
use Rattle.std.specs.Prelude.{Ok}
use Rattle.serde_json.specs.Data.{object}
use Rattle.istanbul_json.specs.Coverage.{file_of}
use Rattle.istanbul_json.proofs.Listing.{file-keyed, file-read}
use Rattle.istanbul_json.proofs.quick.file_in.Goals as goal

pub new-requires : goal.new-requires
new-requires c =
    file-keyed c.args.found c.in_ok-path.path c.in_ok-statements.statements c.in_ok-functions.functions c.in_ok-branches.branches c.in_ok-statements.ensures c.in_ok-functions.ensures c.in_ok-branches.ensures

pub returns : goal.returns
returns c = λ ms h k.
    let there : c.args.found.path ≡ Some c.in_ok-path.path = search rules in
    subst (λ f. file_of k f.path (object ms) ≡ Ok f) (sym c.new.ensures)
    (file-read c.args.found c.in_ok-path.path c.in_ok-statements.statements c.in_ok-functions.functions c.in_ok-branches.branches c.in_ok-statements.ensures c.in_ok-functions.ensures c.in_ok-branches.ensures there ms h k)
