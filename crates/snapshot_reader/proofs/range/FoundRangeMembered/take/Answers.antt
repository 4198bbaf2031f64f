use Rattle.std.proofs.Common.{◌≡◌, true, false, refl, sym}
use Rattle.std.specs.Prelude.{codes}
use Rattle.std.specs.Str.{bytes_eq}
use Rattle.json_shapes.specs.Shapes.{whole, offset_of}
use Rattle.json_walk.specs.Shape.{Is}
use Rattle.json_walk.proofs.Lists.{has_here, has_elsewhere, has_beside}
use Rattle.snapshot_reader.proofs.range.FoundRangeMembered.take.Goals as goal

pub returns-then-eq-clause-ok : goal.returns-then-eq-clause-ok
returns-then-eq-clause-ok c =
    let is : bytes_eq c.args.key.now (codes "startOffset") ≡ true = sym c.if-eq.ensures in
    let read = c.in_ok-new.ensures.ok in
    let key = c.args.key.now in (
      read.0,
      read.1 c.args.depth,
      λ ms h. (
        has_here key read.0 ms (Is offset_of) (codes "startOffset") c.in_ok-new.new is read.2,
        has_beside key read.0 ms (Is offset_of) (codes "startOffset") (codes "endOffset") c.args.self.end is refl h.1,
        has_beside key read.0 ms (Is whole) (codes "startOffset") (codes "count") c.args.self.count is refl h.2,
      ),
    )

pub returns-then-eq-2-clause-ok : goal.returns-then-eq-2-clause-ok
returns-then-eq-2-clause-ok c =
    let is : bytes_eq c.args.key.now (codes "endOffset") ≡ true = sym c.if-eq-2.ensures in
    let read = c.in_ok-new-2.ensures.ok in
    let key = c.args.key.now in (
      read.0,
      read.1 c.args.depth,
      λ ms h. (
        has_beside key read.0 ms (Is offset_of) (codes "endOffset") (codes "startOffset") c.args.self.start is refl h.0,
        has_here key read.0 ms (Is offset_of) (codes "endOffset") c.in_ok-new-2.new is read.2,
        has_beside key read.0 ms (Is whole) (codes "endOffset") (codes "count") c.args.self.count is refl h.2,
      ),
    )

pub returns-then-eq-3-clause-ok : goal.returns-then-eq-3-clause-ok
returns-then-eq-3-clause-ok c =
    let is : bytes_eq c.args.key.now (codes "count") ≡ true = sym c.if-eq-3.ensures in
    let read = c.in_ok-new-3.ensures.ok in
    let key = c.args.key.now in (
      read.0,
      read.1 c.args.depth,
      λ ms h. (
        has_beside key read.0 ms (Is offset_of) (codes "count") (codes "startOffset") c.args.self.start is refl h.0,
        has_beside key read.0 ms (Is offset_of) (codes "count") (codes "endOffset") c.args.self.end is refl h.1,
        has_here key read.0 ms (Is whole) (codes "count") c.in_ok-new-3.new is read.2,
      ),
    )

pub returns-clause-ok : goal.returns-clause-ok
returns-clause-ok c =
    let not_start : bytes_eq c.args.key.now (codes "startOffset") ≡ false = sym c.if-eq.ensures in
    let not_end : bytes_eq c.args.key.now (codes "endOffset") ≡ false = sym c.if-eq-2.ensures in
    let not_count : bytes_eq c.args.key.now (codes "count") ≡ false = sym c.if-eq-3.ensures in
    let read = c.in_ok-pass.ensures.ok in
    let key = c.args.key.now in (
      read.0,
      read.1,
      λ ms h. (
        has_elsewhere key read.0 ms (Is offset_of) (codes "startOffset") c.args.self.start not_start h.0,
        has_elsewhere key read.0 ms (Is offset_of) (codes "endOffset") c.args.self.end not_end h.1,
        has_elsewhere key read.0 ms (Is whole) (codes "count") c.args.self.count not_count h.2,
      ),
    )
