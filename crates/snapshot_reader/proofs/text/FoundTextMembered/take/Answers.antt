use Rattle.std.proofs.Common.{◌≡◌, true, false, refl, sym, ◌∙◌}
use Rattle.std.specs.Prelude.{codes}
use Rattle.std.specs.Str.{bytes_eq}
use Rattle.serde_json.specs.View.{view}
use Rattle.json_walk.specs.Shape.{GivesList}
use Rattle.snapshot_reader.specs.Snapshots.{GivesEntry}
use Rattle.json_walk.proofs.Lists.{has_beside, is_here, is_as_before}
use Rattle.snapshot_reader.proofs.text.FoundTextMembered.take.Goals as goal

pub returns-then-eq-clause-ok : goal.returns-then-eq-clause-ok
returns-then-eq-clause-ok c =
    let is : bytes_eq c.args.key.now (codes "source-map-cache") ≡ true = sym c.if-eq.ensures in
    let d = view c.in_ok-new.new in
    let key = c.args.key.now in (
      d,
      c.in_ok-new.ensures.ok,
      λ ms h. (has_beside key d ms (GivesList GivesEntry) (codes "source-map-cache") (codes "result") c.args.self.top.scripts is refl h.0, sym (is_here key d ms (codes "source-map-cache") is)),
    )

pub returns-clause-ok : goal.returns-clause-ok
returns-clause-ok c =
    let other : bytes_eq c.args.key.now (codes "source-map-cache") ≡ false = sym c.if-eq.ensures in
    let read = c.in_ok-top.ensures.ok in
    (read.0, read.1, λ ms h. (read.2 ms h.0, h.1 ∙ sym (is_as_before c.args.key.now read.0 ms (codes "source-map-cache") other)))
