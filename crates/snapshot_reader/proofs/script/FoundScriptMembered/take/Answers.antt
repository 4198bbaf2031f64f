use Rattle.std.proofs.Common.{◌≡◌, true, false, refl, sym}
use Rattle.std.specs.Prelude.{codes}
use Rattle.std.specs.Str.{bytes_eq}
use Rattle.serde_json.specs.Data.{array}
use Rattle.serde_json.specs.Find.{as_str}
use Rattle.json_walk.specs.Shape.{Is, GivesList}
use Rattle.snapshot_reader.specs.Snapshots.{GivesReport}
use Rattle.json_walk.proofs.Lists.{has_here, has_elsewhere, has_beside}
use Rattle.snapshot_reader.proofs.script.FoundScriptMembered.take.Goals as goal

pub returns-then-eq-clause-ok : goal.returns-then-eq-clause-ok
returns-then-eq-clause-ok c =
    let is : bytes_eq c.args.key.now (codes "url") ≡ true = sym c.if-eq.ensures in
    let read = c.in_ok-new.ensures.ok in
    let key = c.args.key.now in (
      read.0,
      read.1 c.args.depth,
      λ ms h. (
        has_here key read.0 ms (Is as_str) (codes "url") c.in_ok-new.new is read.2,
        has_beside key read.0 ms (GivesList GivesReport) (codes "url") (codes "functions") c.args.self.functions is refl h.1,
      ),
    )

pub returns-then-eq-2-clause-ok : goal.returns-then-eq-2-clause-ok
returns-then-eq-2-clause-ok c =
    let is : bytes_eq c.args.key.now (codes "functions") ≡ true = sym c.if-eq-2.ensures in
    let read = c.in_ok-new-2.ensures.ok in
    let key = c.args.key.now in (
      array read.0,
      read.1,
      λ ms h. (
        has_beside key (array read.0) ms (Is as_str) (codes "functions") (codes "url") c.args.self.url is refl h.0,
        has_here key (array read.0) ms (GivesList GivesReport) (codes "functions") c.in_ok-new-2.new is (read.0, refl, read.2),
      ),
    )

pub returns-clause-ok : goal.returns-clause-ok
returns-clause-ok c =
    let not_url : bytes_eq c.args.key.now (codes "url") ≡ false = sym c.if-eq.ensures in
    let not_functions : bytes_eq c.args.key.now (codes "functions") ≡ false = sym c.if-eq-2.ensures in
    let read = c.in_ok-pass.ensures.ok in
    let key = c.args.key.now in (
      read.0,
      read.1,
      λ ms h. (
        has_elsewhere key read.0 ms (Is as_str) (codes "url") c.args.self.url not_url h.0,
        has_elsewhere key read.0 ms (GivesList GivesReport) (codes "functions") c.args.self.functions not_functions h.1,
      ),
    )
