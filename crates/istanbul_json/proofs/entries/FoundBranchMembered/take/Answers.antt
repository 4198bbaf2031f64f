use Rattle.std.proofs.Common.{◌≡◌, true, false, refl, sym}
use Rattle.std.specs.Prelude.{codes}
use Rattle.std.specs.Str.{bytes_eq}
use Rattle.serde_json.specs.Find.{as_str}
use Rattle.json_walk.specs.Shape.{Is, GivesList}
use Rattle.istanbul_json.specs.Members.{loc_of}
use Rattle.json_walk.proofs.Lists.{has_here, has_elsewhere, has_beside}
use Rattle.istanbul_json.proofs.Gathered.{given_here, given_elsewhere, given_beside}
use Rattle.istanbul_json.proofs.entries.FoundBranchMembered.take.Goals as goal

pub returns-then-eq-clause-ok : goal.returns-then-eq-clause-ok
returns-then-eq-clause-ok c =
    let is : bytes_eq c.args.key.now (codes "type") ≡ true = sym c.if-eq.ensures in
    let read = c.in_ok-new.ensures.ok in
    let key = c.args.key.now in (
      read.0,
      read.1 c.args.depth,
      λ ms h. (
        has_here key read.0 ms (Is as_str) (codes "type") c.in_ok-new.new is read.2,
        has_beside key read.0 ms (Is loc_of) (codes "type") (codes "loc") c.args.self.loc is refl h.1,
        has_beside key read.0 ms (GivesList (Is loc_of)) (codes "type") (codes "locations") c.args.self.locations is refl h.2,
        given_beside key read.0 ms (codes "type") (codes "line") c.args.self.line is refl h.3,
      ),
    )

pub returns-then-eq-2-clause-ok : goal.returns-then-eq-2-clause-ok
returns-then-eq-2-clause-ok c =
    let is : bytes_eq c.args.key.now (codes "loc") ≡ true = sym c.if-eq-2.ensures in
    let read = c.in_ok-new-2.ensures.ok in
    let key = c.args.key.now in (
      read.0,
      read.1,
      λ ms h. (
        has_beside key read.0 ms (Is as_str) (codes "loc") (codes "type") c.args.self.kind is refl h.0,
        has_here key read.0 ms (Is loc_of) (codes "loc") c.in_ok-new-2.new is read.2,
        has_beside key read.0 ms (GivesList (Is loc_of)) (codes "loc") (codes "locations") c.args.self.locations is refl h.2,
        given_beside key read.0 ms (codes "loc") (codes "line") c.args.self.line is refl h.3,
      ),
    )

pub returns-then-eq-3-clause-ok : goal.returns-then-eq-3-clause-ok
returns-then-eq-3-clause-ok c =
    let is : bytes_eq c.args.key.now (codes "locations") ≡ true = sym c.if-eq-3.ensures in
    let read = c.in_ok-new-3.ensures.ok in
    let key = c.args.key.now in (
      read.0,
      read.1,
      λ ms h. (
        has_beside key read.0 ms (Is as_str) (codes "locations") (codes "type") c.args.self.kind is refl h.0,
        has_beside key read.0 ms (Is loc_of) (codes "locations") (codes "loc") c.args.self.loc is refl h.1,
        has_here key read.0 ms (GivesList (Is loc_of)) (codes "locations") c.in_ok-new-3.new is read.2,
        given_beside key read.0 ms (codes "locations") (codes "line") c.args.self.line is refl h.3,
      ),
    )

pub returns-then-eq-4-clause-ok : goal.returns-then-eq-4-clause-ok
returns-then-eq-4-clause-ok c =
    let is : bytes_eq c.args.key.now (codes "line") ≡ true = sym c.if-eq-4.ensures in
    let read = c.in_ok-new-4.ensures.ok in
    let key = c.args.key.now in (
      read.0,
      read.1 c.args.depth,
      λ ms h. (
        has_beside key read.0 ms (Is as_str) (codes "line") (codes "type") c.args.self.kind is refl h.0,
        has_beside key read.0 ms (Is loc_of) (codes "line") (codes "loc") c.args.self.loc is refl h.1,
        has_beside key read.0 ms (GivesList (Is loc_of)) (codes "line") (codes "locations") c.args.self.locations is refl h.2,
        given_here key read.0 ms (codes "line") c.in_ok-new-4.new is read.2,
      ),
    )

pub returns-clause-ok : goal.returns-clause-ok
returns-clause-ok c =
    let not_kind : bytes_eq c.args.key.now (codes "type") ≡ false = sym c.if-eq.ensures in
    let not_loc : bytes_eq c.args.key.now (codes "loc") ≡ false = sym c.if-eq-2.ensures in
    let not_locations : bytes_eq c.args.key.now (codes "locations") ≡ false = sym c.if-eq-3.ensures in
    let not_line : bytes_eq c.args.key.now (codes "line") ≡ false = sym c.if-eq-4.ensures in
    let read = c.in_ok-pass.ensures.ok in
    let key = c.args.key.now in (
      read.0,
      read.1,
      λ ms h. (
        has_elsewhere key read.0 ms (Is as_str) (codes "type") c.args.self.kind not_kind h.0,
        has_elsewhere key read.0 ms (Is loc_of) (codes "loc") c.args.self.loc not_loc h.1,
        has_elsewhere key read.0 ms (GivesList (Is loc_of)) (codes "locations") c.args.self.locations not_locations h.2,
        given_elsewhere key read.0 ms (codes "line") c.args.self.line not_line h.3,
      ),
    )
