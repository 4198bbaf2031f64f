use Rattle.std.proofs.Common.{◌≡◌, true, false, refl, sym, length, arith}
use Rattle.std.specs.Prelude.{codes}
use Rattle.std.specs.Str.{bytes_eq}
use Rattle.serde_json.specs.Find.{as_str}
use Rattle.json_walk.specs.Shape.{Is}
use Rattle.json_walk.proofs.Lists.{has_here, has_elsewhere}
use Rattle.istanbul_json.proofs.Gathered.{maps_elsewhere, counts_elsewhere, other_name, long_name, short_name}
use Rattle.istanbul_json.proofs.found.FoundFileMembered.take.Goals as goal

pub returns-then-eq-clause-ok : goal.returns-then-eq-clause-ok
returns-then-eq-clause-ok c =
    let is : bytes_eq c.args.key.now (codes "path") ≡ true = sym c.if-eq.ensures in
    let read = c.in_ok-new.ensures.ok in
    let key = c.args.key.now in (
      read.0,
      read.1 c.args.depth,
      λ ms h. (
        has_here key read.0 ms (Is as_str) (codes "path") c.in_ok-new.new is read.2,
        maps_elsewhere key read.0 ms c.args.self.maps (other_name key (codes "path") (codes "statementMap") is refl) (other_name key (codes "path") (codes "fnMap") is refl) (other_name key (codes "path") (codes "branchMap") is refl) h.1,
        counts_elsewhere key read.0 ms c.args.self.counts (other_name key (codes "path") (codes "s") is refl) (other_name key (codes "path") (codes "f") is refl) (other_name key (codes "path") (codes "b") is refl) h.2,
      ),
    )

pub returns-then-key-eq1-clause-ok : goal.returns-then-key-eq1-clause-ok
returns-then-key-eq1-clause-ok c =
    let other : bytes_eq c.args.key.now (codes "path") ≡ false = sym c.if-eq.ensures in
    let short : length c.args.key.now ≡ 1 = grind arith in
    let read = c.in_ok-counts.ensures.ok in
    let key = c.args.key.now in (
      read.0,
      read.1,
      λ ms h. (
        has_elsewhere key read.0 ms (Is as_str) (codes "path") c.args.self.path other h.0,
        maps_elsewhere key read.0 ms c.args.self.maps (long_name key (codes "statementMap") short (λ e. omega (arith, e))) (long_name key (codes "fnMap") short (λ e. omega (arith, e))) (long_name key (codes "branchMap") short (λ e. omega (arith, e))) h.1,
        read.2 ms h.2,
      ),
    )

pub returns-clause-ok : goal.returns-clause-ok
returns-clause-ok c =
    let other : bytes_eq c.args.key.now (codes "path") ≡ false = sym c.if-eq.ensures in
    let read = c.in_ok-maps.ensures.ok in
    let key = c.args.key.now in (
      read.0,
      read.1,
      λ ms h. (
        has_elsewhere key read.0 ms (Is as_str) (codes "path") c.args.self.path other h.0,
        read.2 ms h.1,
        counts_elsewhere key read.0 ms c.args.self.counts (short_name key (codes "s") (λ e. grind (arith, e)) refl) (short_name key (codes "f") (λ e. grind (arith, e)) refl) (short_name key (codes "b") (λ e. grind (arith, e)) refl) h.2,
      ),
    )
