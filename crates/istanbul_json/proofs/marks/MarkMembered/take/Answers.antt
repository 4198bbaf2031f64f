use Rattle.std.proofs.Common.{◌≡◌, true, false, refl, sym}
use Rattle.std.specs.Prelude.{codes}
use Rattle.std.specs.Str.{bytes_eq}
use Rattle.istanbul_json.proofs.Gathered.{given_here, given_elsewhere, given_beside}
use Rattle.istanbul_json.proofs.marks.MarkMembered.take.Goals as goal

pub returns-then-eq-clause-ok : goal.returns-then-eq-clause-ok
returns-then-eq-clause-ok c =
    let is : bytes_eq c.args.key.now (codes "line") ≡ true = sym c.if-eq.ensures in
    let read = c.in_ok-new.ensures.ok in
    let key = c.args.key.now in (
      read.0,
      read.1 c.args.depth,
      λ ms h. (
        given_here key read.0 ms (codes "line") c.in_ok-new.new is read.2,
        given_beside key read.0 ms (codes "line") (codes "column") c.args.self.column is refl h.1,
      ),
    )

pub returns-then-eq-2-clause-ok : goal.returns-then-eq-2-clause-ok
returns-then-eq-2-clause-ok c =
    let is : bytes_eq c.args.key.now (codes "column") ≡ true = sym c.if-eq-2.ensures in
    let read = c.in_ok-new-2.ensures.ok in
    let key = c.args.key.now in (
      read.0,
      read.1 c.args.depth,
      λ ms h. (
        given_beside key read.0 ms (codes "column") (codes "line") c.args.self.line is refl h.0,
        given_here key read.0 ms (codes "column") c.in_ok-new-2.new is read.2,
      ),
    )

pub returns-clause-ok : goal.returns-clause-ok
returns-clause-ok c =
    let not_line : bytes_eq c.args.key.now (codes "line") ≡ false = sym c.if-eq.ensures in
    let not_column : bytes_eq c.args.key.now (codes "column") ≡ false = sym c.if-eq-2.ensures in
    let read = c.in_ok-pass.ensures.ok in
    let key = c.args.key.now in (
      read.0,
      read.1,
      λ ms h. (
        given_elsewhere key read.0 ms (codes "line") c.args.self.line not_line h.0,
        given_elsewhere key read.0 ms (codes "column") c.args.self.column not_column h.1,
      ),
    )
