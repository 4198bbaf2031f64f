use Rattle.std.proofs.Common.{◌≡◌, sym, ap, ◌∙◌, subst, take, ◌++◌}
use Rattle.std.specs.Prelude.{Some, option_map}
use Rattle.cov_model.specs.Outcome.{answer_to}
use Rattle.cov_model.specs.Reading.{reading}
use Rattle.cov_files.specs.Maps.{maps_reading}
use Rattle.cov_io.specs.Told.{bytes_at, path_in}
use Rattle.cov_commands.specs.Lines.{answer_line}
use Rattle.cov_commands.proofs.Taking.{HasTaken-skip, HasTaken-snoc, reading-found}
use Rattle.cov_commands.proofs.Keeping.{HasKept-skip, HasKept-snoc, maps-found}
use Rattle.cov_commands.proofs.gather.take_name.Goals as goal

pub returns-then-not-is_json-clause-taken : goal.returns-then-not-is_json-clause-taken
returns-then-not-is_json-clause-taken g c =
    λ files is names h. HasTaken-skip c.args.folder.now files names c.args.name.now _ _ (sym c.is_json.ensures ∙ c.if-not-is_json.true) h

pub returns-then-not-is_json-clause-entries : goal.returns-then-not-is_json-clause-entries
returns-then-not-is_json-clause-entries g c =
    λ files is names h kept. HasKept-skip c.args.maps c.args.folder.now files names c.args.name.now c.args.merged.now (sym c.is_json.ensures ∙ c.if-not-is_json.true) kept

pub returns-in-Ok-take_text-clause-taken : goal.returns-in-Ok-take_text-clause-taken
returns-in-Ok-take_text-clause-taken g c =
    let path = path_in c.args.folder.now c.args.name.now in
    let first : c.as_str.result.now ≡ path = c.as_str.ensures.value ∙ c.in-Ok.ensures in
    let second : c.as_str-2.result.now ≡ path = c.as_str-2.ensures.value ∙ c.in-Ok.ensures in
    let r = reading c.in-Ok-read.bytes.items in
    λ files is names h.
    HasTaken-snoc c.args.folder.now files names c.args.name.now _ _ _ _ r
    (sym c.is_json.ensures ∙ c.if-not-is_json.false) h
    (reading-found (bytes_at path files) c.in-Ok-read.bytes.items
    (subst (λ p. option_map (take 134217729) (bytes_at p files) ≡ Some c.in-Ok-read.bytes.items) first (c.in-Ok-read.ensures.bytes files is)))
    c.in-Ok-take_text.ensures.book
    (λ held stands. c.in-Ok-take_text.ensures.lines held stands ∙ ap (λ p. c.args.merged.now.lines ++ answer_line p (answer_to held r)) second)
    c.in-Ok-take_text.ensures.refused

pub returns-in-Ok-take_text-clause-entries : goal.returns-in-Ok-take_text-clause-entries
returns-in-Ok-take_text-clause-entries g c =
    let path = path_in c.args.folder.now c.args.name.now in
    let first : c.as_str.result.now ≡ path = c.as_str.ensures.value ∙ c.in-Ok.ensures in
    λ files is names h kept.
    let found = subst (λ p. option_map (take 134217729) (bytes_at p files) ≡ Some c.in-Ok-read.bytes.items) first (c.in-Ok-read.ensures.bytes files is) in
    HasKept-snoc c.args.maps c.args.folder.now files names c.args.name.now _ c.args.merged.now c.take_text.new.merged c.in-Ok-read.bytes.items
    (sym c.is_json.ensures ∙ c.if-not-is_json.false) h kept
    (reading-found (bytes_at path files) c.in-Ok-read.bytes.items found)
    (maps-found (bytes_at path files) c.in-Ok-read.bytes.items found)
    c.in-Ok-take_text.ensures.entries
