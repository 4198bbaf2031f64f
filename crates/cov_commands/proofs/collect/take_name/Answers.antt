use Rattle.std.proofs.Common.{◌≡◌, sym, ap, ◌∙◌, subst, take, map, ◌++◌, ◌∷◌, []}
use Rattle.std.specs.Prelude.{Some, option_map, string_bytes}
use Rattle.std.proofs.lemmas.List.{map-append}
use Rattle.cov_io.specs.Told.{bytes_at, path_in}
use Rattle.cov_commands.proofs.Collects.{HasGathered-skip, HasGathered-snoc, text-found}
use Rattle.cov_commands.proofs.collect.take_name.Goals as goal

pub returns-then-not-is_json-clause-taken : goal.returns-then-not-is_json-clause-taken
returns-then-not-is_json-clause-taken g c =
    λ files is names h. HasGathered-skip c.args.folder.now files names c.args.name.now c.args.gathered (sym c.is_json.ensures ∙ c.if-not-is_json.true) h

pub returns-in-Ok-with_text-clause-taken : goal.returns-in-Ok-with_text-clause-taken
returns-in-Ok-with_text-clause-taken g c =
    let path = path_in c.args.folder.now c.args.name.now in
    let bytes = c.in-Ok-read.bytes.items in
    let asked : c.as_str.result.now ≡ path = c.as_str.ensures.value ∙ c.in-Ok.ensures in
    λ files is names h.
    HasGathered-snoc c.args.folder.now files names c.args.name.now bytes c.args.gathered c.in-Ok-with_text.gathered (sym c.is_json.ensures ∙ c.if-not-is_json.false)
    (text-found (bytes_at path files) bytes (subst (λ p. option_map (take 134217729) (bytes_at p files) ≡ Some bytes) asked (c.in-Ok-read.ensures.bytes files is)))
    c.in-Ok-with_text.ensures.texts
    (ap (map string_bytes) c.in-Ok-with_text.ensures.paths ∙ map-append string_bytes c.args.gathered.paths.items (c.in-Ok.path ∷ [])
    ∙ ap (λ p. map string_bytes c.args.gathered.paths.items ++ p ∷ []) c.in-Ok.ensures)
    h
