use Rattle.std.proofs.Common.{◌≡◌, true, false, refl, sym}
use Rattle.std.specs.Prelude.{codes}
use Rattle.std.specs.Str.{bytes_eq}
use Rattle.json_walk.specs.Shape.{Is}
use Rattle.istanbul_json.specs.Members.{mark_of}
use Rattle.json_walk.proofs.Lists.{has_here, has_elsewhere, has_beside}
use Rattle.istanbul_json.proofs.marks.FoundLocMembered.take.Goals as goal

pub returns-then-eq-clause-ok : goal.returns-then-eq-clause-ok
returns-then-eq-clause-ok c =
    let is : bytes_eq c.args.key.now (codes "start") ≡ true = sym c.if-eq.ensures in
    let read = c.in_ok-new.ensures.ok in
    let key = c.args.key.now in (
      read.0,
      read.1,
      λ ms h. (
        has_here key read.0 ms (Is mark_of) (codes "start") c.in_ok-new.new is read.2,
        has_beside key read.0 ms (Is mark_of) (codes "start") (codes "end") c.args.self.end is refl h.1,
      ),
    )

pub returns-then-eq-2-clause-ok : goal.returns-then-eq-2-clause-ok
returns-then-eq-2-clause-ok c =
    let is : bytes_eq c.args.key.now (codes "end") ≡ true = sym c.if-eq-2.ensures in
    let read = c.in_ok-new-2.ensures.ok in
    let key = c.args.key.now in (
      read.0,
      read.1,
      λ ms h. (
        has_beside key read.0 ms (Is mark_of) (codes "end") (codes "start") c.args.self.start is refl h.0,
        has_here key read.0 ms (Is mark_of) (codes "end") c.in_ok-new-2.new is read.2,
      ),
    )

pub returns-clause-ok : goal.returns-clause-ok
returns-clause-ok c =
    let not_start : bytes_eq c.args.key.now (codes "start") ≡ false = sym c.if-eq.ensures in
    let not_end : bytes_eq c.args.key.now (codes "end") ≡ false = sym c.if-eq-2.ensures in
    let read = c.in_ok-pass.ensures.ok in
    let key = c.args.key.now in (
      read.0,
      read.1,
      λ ms h. (
        has_elsewhere key read.0 ms (Is mark_of) (codes "start") c.args.self.start not_start h.0,
        has_elsewhere key read.0 ms (Is mark_of) (codes "end") c.args.self.end not_end h.1,
      ),
    )
