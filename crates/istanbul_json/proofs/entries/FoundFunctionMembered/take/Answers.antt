use Rattle.std.proofs.Common.{◌≡◌, true, false, refl, sym}
use Rattle.std.specs.Prelude.{codes}
use Rattle.std.specs.Str.{bytes_eq}
use Rattle.serde_json.specs.Find.{as_str}
use Rattle.json_walk.specs.Shape.{Is}
use Rattle.istanbul_json.specs.Members.{loc_of}
use Rattle.json_walk.proofs.Lists.{has_here, has_elsewhere, has_beside}
use Rattle.istanbul_json.proofs.Gathered.{given_here, given_elsewhere, given_beside}
use Rattle.istanbul_json.proofs.entries.FoundFunctionMembered.take.Goals as goal

pub returns-then-eq-clause-ok : goal.returns-then-eq-clause-ok
returns-then-eq-clause-ok c =
    let is : bytes_eq c.args.key.now (codes "name") ≡ true = sym c.if-eq.ensures in
    let read = c.in_ok-new.ensures.ok in
    let key = c.args.key.now in (
      read.0,
      read.1 c.args.depth,
      λ ms h. (
        has_here key read.0 ms (Is as_str) (codes "name") c.in_ok-new.new is read.2,
        has_beside key read.0 ms (Is loc_of) (codes "name") (codes "decl") c.args.self.decl is refl h.1,
        has_beside key read.0 ms (Is loc_of) (codes "name") (codes "loc") c.args.self.loc is refl h.2,
        given_beside key read.0 ms (codes "name") (codes "line") c.args.self.line is refl h.3,
      ),
    )

pub returns-then-eq-2-clause-ok : goal.returns-then-eq-2-clause-ok
returns-then-eq-2-clause-ok c =
    let is : bytes_eq c.args.key.now (codes "decl") ≡ true = sym c.if-eq-2.ensures in
    let read = c.in_ok-new-2.ensures.ok in
    let key = c.args.key.now in (
      read.0,
      read.1,
      λ ms h. (
        has_beside key read.0 ms (Is as_str) (codes "decl") (codes "name") c.args.self.name is refl h.0,
        has_here key read.0 ms (Is loc_of) (codes "decl") c.in_ok-new-2.new is read.2,
        has_beside key read.0 ms (Is loc_of) (codes "decl") (codes "loc") c.args.self.loc is refl h.2,
        given_beside key read.0 ms (codes "decl") (codes "line") c.args.self.line is refl h.3,
      ),
    )

pub returns-then-eq-3-clause-ok : goal.returns-then-eq-3-clause-ok
returns-then-eq-3-clause-ok c =
    let is : bytes_eq c.args.key.now (codes "loc") ≡ true = sym c.if-eq-3.ensures in
    let read = c.in_ok-new-3.ensures.ok in
    let key = c.args.key.now in (
      read.0,
      read.1,
      λ ms h. (
        has_beside key read.0 ms (Is as_str) (codes "loc") (codes "name") c.args.self.name is refl h.0,
        has_beside key read.0 ms (Is loc_of) (codes "loc") (codes "decl") c.args.self.decl is refl h.1,
        has_here key read.0 ms (Is loc_of) (codes "loc") c.in_ok-new-3.new is read.2,
        given_beside key read.0 ms (codes "loc") (codes "line") c.args.self.line is refl h.3,
      ),
    )

pub returns-then-eq-4-clause-ok : goal.returns-then-eq-4-clause-ok
returns-then-eq-4-clause-ok c =
    let is : bytes_eq c.args.key.now (codes "line") ≡ true = sym c.if-eq-4.ensures in
    let read = c.in_ok-new-4.ensures.ok in
    let key = c.args.key.now in (
      read.0,
      read.1 c.args.depth,
      λ ms h. (
        has_beside key read.0 ms (Is as_str) (codes "line") (codes "name") c.args.self.name is refl h.0,
        has_beside key read.0 ms (Is loc_of) (codes "line") (codes "decl") c.args.self.decl is refl h.1,
        has_beside key read.0 ms (Is loc_of) (codes "line") (codes "loc") c.args.self.loc is refl h.2,
        given_here key read.0 ms (codes "line") c.in_ok-new-4.new is read.2,
      ),
    )

pub returns-clause-ok : goal.returns-clause-ok
returns-clause-ok c =
    let not_name : bytes_eq c.args.key.now (codes "name") ≡ false = sym c.if-eq.ensures in
    let not_decl : bytes_eq c.args.key.now (codes "decl") ≡ false = sym c.if-eq-2.ensures in
    let not_loc : bytes_eq c.args.key.now (codes "loc") ≡ false = sym c.if-eq-3.ensures in
    let not_line : bytes_eq c.args.key.now (codes "line") ≡ false = sym c.if-eq-4.ensures in
    let read = c.in_ok-pass.ensures.ok in
    let key = c.args.key.now in (
      read.0,
      read.1,
      λ ms h. (
        has_elsewhere key read.0 ms (Is as_str) (codes "name") c.args.self.name not_name h.0,
        has_elsewhere key read.0 ms (Is loc_of) (codes "decl") c.args.self.decl not_decl h.1,
        has_elsewhere key read.0 ms (Is loc_of) (codes "loc") c.args.self.loc not_loc h.2,
        given_elsewhere key read.0 ms (codes "line") c.args.self.line not_line h.3,
      ),
    )
