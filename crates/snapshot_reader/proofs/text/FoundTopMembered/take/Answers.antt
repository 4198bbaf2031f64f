use Rattle.std.proofs.Common.{◌≡◌, true, false, refl, sym}
use Rattle.std.specs.Prelude.{codes}
use Rattle.std.specs.Str.{bytes_eq}
use Rattle.serde_json.specs.Data.{array}
use Rattle.json_walk.specs.Shape.{GivesList}
use Rattle.snapshot_reader.specs.Snapshots.{GivesEntry}
use Rattle.json_walk.proofs.Lists.{has_here, has_elsewhere}
use Rattle.snapshot_reader.proofs.text.FoundTopMembered.take.Goals as goal

pub returns-then-eq-clause-ok : goal.returns-then-eq-clause-ok
returns-then-eq-clause-ok c =
    let is : bytes_eq c.args.key.now (codes "result") ≡ true = sym c.if-eq.ensures in
    let read = c.in_ok-new.ensures.ok in
    let key = c.args.key.now in
    (array read.0, read.1, λ ms h. has_here key (array read.0) ms (GivesList GivesEntry) (codes "result") c.in_ok-new.new is (read.0, refl, read.2))

pub returns-clause-ok : goal.returns-clause-ok
returns-clause-ok c =
    let other : bytes_eq c.args.key.now (codes "result") ≡ false = sym c.if-eq.ensures in
    let read = c.in_ok-pass.ensures.ok in
    (read.0, read.1, λ ms h. has_elsewhere c.args.key.now read.0 ms (GivesList GivesEntry) (codes "result") c.args.self.scripts other h)
