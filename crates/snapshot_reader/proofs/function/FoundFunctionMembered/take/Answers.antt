use Rattle.std.proofs.Common.{◌≡◌, true, false, refl, sym}
use Rattle.std.specs.Prelude.{codes}
use Rattle.std.specs.Str.{bytes_eq}
use Rattle.serde_json.specs.Data.{array}
use Rattle.serde_json.specs.Find.{as_str, as_bool}
use Rattle.json_walk.specs.Shape.{Is, GivesList}
use Rattle.snapshot_reader.specs.Snapshots.{GivesRange}
use Rattle.json_walk.proofs.Lists.{has_here, has_elsewhere, has_beside}
use Rattle.snapshot_reader.proofs.function.FoundFunctionMembered.take.Goals as goal

pub returns-then-eq-clause-ok : goal.returns-then-eq-clause-ok
returns-then-eq-clause-ok c =
    let is : bytes_eq c.args.key.now (codes "functionName") ≡ true = sym c.if-eq.ensures in
    let read = c.in_ok-new.ensures.ok in
    let key = c.args.key.now in (
      read.0,
      read.1 c.args.depth,
      λ ms h. (
        has_here key read.0 ms (Is as_str) (codes "functionName") c.in_ok-new.new is read.2,
        has_beside key read.0 ms (Is as_bool) (codes "functionName") (codes "isBlockCoverage") c.args.self.block is refl h.1,
        has_beside key read.0 ms (GivesList GivesRange) (codes "functionName") (codes "ranges") c.args.self.ranges is refl h.2,
      ),
    )

pub returns-then-eq-2-clause-ok : goal.returns-then-eq-2-clause-ok
returns-then-eq-2-clause-ok c =
    let is : bytes_eq c.args.key.now (codes "isBlockCoverage") ≡ true = sym c.if-eq-2.ensures in
    let read = c.in_ok-new-2.ensures.ok in
    let key = c.args.key.now in (
      read.0,
      read.1 c.args.depth,
      λ ms h. (
        has_beside key read.0 ms (Is as_str) (codes "isBlockCoverage") (codes "functionName") c.args.self.name is refl h.0,
        has_here key read.0 ms (Is as_bool) (codes "isBlockCoverage") c.in_ok-new-2.new is read.2,
        has_beside key read.0 ms (GivesList GivesRange) (codes "isBlockCoverage") (codes "ranges") c.args.self.ranges is refl h.2,
      ),
    )

pub returns-then-eq-3-clause-ok : goal.returns-then-eq-3-clause-ok
returns-then-eq-3-clause-ok c =
    let is : bytes_eq c.args.key.now (codes "ranges") ≡ true = sym c.if-eq-3.ensures in
    let read = c.in_ok-new-3.ensures.ok in
    let key = c.args.key.now in (
      array read.0,
      read.1,
      λ ms h. (
        has_beside key (array read.0) ms (Is as_str) (codes "ranges") (codes "functionName") c.args.self.name is refl h.0,
        has_beside key (array read.0) ms (Is as_bool) (codes "ranges") (codes "isBlockCoverage") c.args.self.block is refl h.1,
        has_here key (array read.0) ms (GivesList GivesRange) (codes "ranges") c.in_ok-new-3.new is (read.0, refl, read.2),
      ),
    )

pub returns-clause-ok : goal.returns-clause-ok
returns-clause-ok c =
    let not_name : bytes_eq c.args.key.now (codes "functionName") ≡ false = sym c.if-eq.ensures in
    let not_block : bytes_eq c.args.key.now (codes "isBlockCoverage") ≡ false = sym c.if-eq-2.ensures in
    let not_ranges : bytes_eq c.args.key.now (codes "ranges") ≡ false = sym c.if-eq-3.ensures in
    let read = c.in_ok-pass.ensures.ok in
    let key = c.args.key.now in (
      read.0,
      read.1,
      λ ms h. (
        has_elsewhere key read.0 ms (Is as_str) (codes "functionName") c.args.self.name not_name h.0,
        has_elsewhere key read.0 ms (Is as_bool) (codes "isBlockCoverage") c.args.self.block not_block h.1,
        has_elsewhere key read.0 ms (GivesList GivesRange) (codes "ranges") c.args.self.ranges not_ranges h.2,
      ),
    )
