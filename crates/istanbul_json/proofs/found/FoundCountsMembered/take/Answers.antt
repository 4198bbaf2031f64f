use Rattle.std.proofs.Common.{◌≡◌, true, false, refl, sym}
use Rattle.std.specs.Prelude.{codes}
use Rattle.std.specs.Str.{bytes_eq}
use Rattle.json_shapes.specs.Shapes.{whole}
use Rattle.json_walk.specs.Shape.{Is, GivesList}
use Rattle.istanbul_json.specs.Walks.{GivesMembers}
use Rattle.json_walk.proofs.Lists.{has_here, has_elsewhere, has_beside}
use Rattle.istanbul_json.proofs.found.FoundCountsMembered.take.Goals as goal

pub returns-then-eq-clause-ok : goal.returns-then-eq-clause-ok
returns-then-eq-clause-ok c =
    let is : bytes_eq c.args.key.now (codes "s") ≡ true = sym c.if-eq.ensures in
    let read = c.in_ok-new.ensures.ok in
    let key = c.args.key.now in (
      read.0,
      read.1,
      λ ms h. (
        has_here key read.0 ms (GivesMembers (Is whole)) (codes "s") c.in_ok-new.new is read.2,
        has_beside key read.0 ms (GivesMembers (Is whole)) (codes "s") (codes "f") c.args.self.f is refl h.1,
        has_beside key read.0 ms (GivesMembers (GivesList (Is whole))) (codes "s") (codes "b") c.args.self.b is refl h.2,
      ),
    )

pub returns-then-eq-2-clause-ok : goal.returns-then-eq-2-clause-ok
returns-then-eq-2-clause-ok c =
    let is : bytes_eq c.args.key.now (codes "f") ≡ true = sym c.if-eq-2.ensures in
    let read = c.in_ok-new-2.ensures.ok in
    let key = c.args.key.now in (
      read.0,
      read.1,
      λ ms h. (
        has_beside key read.0 ms (GivesMembers (Is whole)) (codes "f") (codes "s") c.args.self.s is refl h.0,
        has_here key read.0 ms (GivesMembers (Is whole)) (codes "f") c.in_ok-new-2.new is read.2,
        has_beside key read.0 ms (GivesMembers (GivesList (Is whole))) (codes "f") (codes "b") c.args.self.b is refl h.2,
      ),
    )

pub returns-then-eq-3-clause-ok : goal.returns-then-eq-3-clause-ok
returns-then-eq-3-clause-ok c =
    let is : bytes_eq c.args.key.now (codes "b") ≡ true = sym c.if-eq-3.ensures in
    let read = c.in_ok-new-3.ensures.ok in
    let key = c.args.key.now in (
      read.0,
      read.1,
      λ ms h. (
        has_beside key read.0 ms (GivesMembers (Is whole)) (codes "b") (codes "s") c.args.self.s is refl h.0,
        has_beside key read.0 ms (GivesMembers (Is whole)) (codes "b") (codes "f") c.args.self.f is refl h.1,
        has_here key read.0 ms (GivesMembers (GivesList (Is whole))) (codes "b") c.in_ok-new-3.new is read.2,
      ),
    )

pub returns-clause-ok : goal.returns-clause-ok
returns-clause-ok c =
    let not_s : bytes_eq c.args.key.now (codes "s") ≡ false = sym c.if-eq.ensures in
    let not_f : bytes_eq c.args.key.now (codes "f") ≡ false = sym c.if-eq-2.ensures in
    let not_b : bytes_eq c.args.key.now (codes "b") ≡ false = sym c.if-eq-3.ensures in
    let read = c.in_ok-pass.ensures.ok in
    let key = c.args.key.now in (
      read.0,
      read.1,
      λ ms h. (
        has_elsewhere key read.0 ms (GivesMembers (Is whole)) (codes "s") c.args.self.s not_s h.0,
        has_elsewhere key read.0 ms (GivesMembers (Is whole)) (codes "f") c.args.self.f not_f h.1,
        has_elsewhere key read.0 ms (GivesMembers (GivesList (Is whole))) (codes "b") c.args.self.b not_b h.2,
      ),
    )
