use Rattle.std.proofs.Common.{◌≡◌, true, false, refl, sym}
use Rattle.std.specs.Prelude.{codes}
use Rattle.std.specs.Str.{bytes_eq}
use Rattle.json_walk.specs.Shape.{Is}
use Rattle.istanbul_json.specs.Members.{loc_of, function_of, branch_of}
use Rattle.istanbul_json.specs.Walks.{GivesMembers}
use Rattle.json_walk.proofs.Lists.{has_here, has_elsewhere, has_beside}
use Rattle.istanbul_json.proofs.found.FoundMapsMembered.take.Goals as goal

pub returns-then-eq-clause-ok : goal.returns-then-eq-clause-ok
returns-then-eq-clause-ok c =
    let is : bytes_eq c.args.key.now (codes "statementMap") ≡ true = sym c.if-eq.ensures in
    let read = c.in_ok-new.ensures.ok in
    let key = c.args.key.now in (
      read.0,
      read.1,
      λ ms h. (
        has_here key read.0 ms (GivesMembers (Is loc_of)) (codes "statementMap") c.in_ok-new.new is read.2,
        has_beside key read.0 ms (GivesMembers (Is function_of)) (codes "statementMap") (codes "fnMap") c.args.self.functions is refl h.1,
        has_beside key read.0 ms (GivesMembers (Is branch_of)) (codes "statementMap") (codes "branchMap") c.args.self.branches is refl h.2,
      ),
    )

pub returns-then-eq-2-clause-ok : goal.returns-then-eq-2-clause-ok
returns-then-eq-2-clause-ok c =
    let is : bytes_eq c.args.key.now (codes "fnMap") ≡ true = sym c.if-eq-2.ensures in
    let read = c.in_ok-new-2.ensures.ok in
    let key = c.args.key.now in (
      read.0,
      read.1,
      λ ms h. (
        has_beside key read.0 ms (GivesMembers (Is loc_of)) (codes "fnMap") (codes "statementMap") c.args.self.statements is refl h.0,
        has_here key read.0 ms (GivesMembers (Is function_of)) (codes "fnMap") c.in_ok-new-2.new is read.2,
        has_beside key read.0 ms (GivesMembers (Is branch_of)) (codes "fnMap") (codes "branchMap") c.args.self.branches is refl h.2,
      ),
    )

pub returns-then-eq-3-clause-ok : goal.returns-then-eq-3-clause-ok
returns-then-eq-3-clause-ok c =
    let is : bytes_eq c.args.key.now (codes "branchMap") ≡ true = sym c.if-eq-3.ensures in
    let read = c.in_ok-new-3.ensures.ok in
    let key = c.args.key.now in (
      read.0,
      read.1,
      λ ms h. (
        has_beside key read.0 ms (GivesMembers (Is loc_of)) (codes "branchMap") (codes "statementMap") c.args.self.statements is refl h.0,
        has_beside key read.0 ms (GivesMembers (Is function_of)) (codes "branchMap") (codes "fnMap") c.args.self.functions is refl h.1,
        has_here key read.0 ms (GivesMembers (Is branch_of)) (codes "branchMap") c.in_ok-new-3.new is read.2,
      ),
    )

pub returns-clause-ok : goal.returns-clause-ok
returns-clause-ok c =
    let not_statements : bytes_eq c.args.key.now (codes "statementMap") ≡ false = sym c.if-eq.ensures in
    let not_functions : bytes_eq c.args.key.now (codes "fnMap") ≡ false = sym c.if-eq-2.ensures in
    let not_branches : bytes_eq c.args.key.now (codes "branchMap") ≡ false = sym c.if-eq-3.ensures in
    let read = c.in_ok-pass.ensures.ok in
    let key = c.args.key.now in (
      read.0,
      read.1,
      λ ms h. (
        has_elsewhere key read.0 ms (GivesMembers (Is loc_of)) (codes "statementMap") c.args.self.statements not_statements h.0,
        has_elsewhere key read.0 ms (GivesMembers (Is function_of)) (codes "fnMap") c.args.self.functions not_functions h.1,
        has_elsewhere key read.0 ms (GivesMembers (Is branch_of)) (codes "branchMap") c.args.self.branches not_branches h.2,
      ),
    )
