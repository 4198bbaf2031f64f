use Rattle.std.proofs.Common.{rules, ◌≡◌, ◌<◌, sym, ap, ◌∙◌, subst, take, ◌++◌}
use Rattle.std.specs.Prelude.{Some, option_map}
use Rattle.cov_model.specs.Outcome.{answer_to}
use Rattle.cov_model.specs.Reading.{reading}
use Rattle.cov_io.specs.Told.{bytes_at, path_in}
use Rattle.cov_commands.specs.Lines.{answer_line}
use Rattle.cov_commands.proofs.Taking.{reading-found}
use Rattle.cov_replay.proofs.Taping.{taped-full, taped-more, taped-skip}
use Rattle.cov_replay.proofs.tape.take_name.Goals as goal

pub returns-then-not-is_json-clause-taped : goal.returns-then-not-is_json-clause-taped
returns-then-not-is_json-clause-taped g c =
    λ stands files is names h. taped-skip c.args.folder.now files names c.args.name.now c.args.tape.now (sym c.is_json.ensures ∙ c.if-not-is_json.true) h

pub returns-then-tape-clause-taped : goal.returns-then-tape-clause-taped
returns-then-tape-clause-taped g c =
    let full : c.args.tape.now.texts ≡ 4294967295 = search rules in
    λ stands files is names h. taped-full c.args.folder.now files names c.args.name.now c.args.tape.now (sym c.is_json.ensures ∙ c.if-not-is_json.false) full h

pub returns-in-Ok-take_text-clause-taped : goal.returns-in-Ok-take_text-clause-taped
returns-in-Ok-take_text-clause-taped g c =
    let path = path_in c.args.folder.now c.args.name.now in
    let first : c.as_str.result.now ≡ path = c.as_str.ensures.value ∙ c.in-Ok.ensures in
    let second : c.as_str-2.result.now ≡ path = c.as_str-2.ensures.value ∙ c.in-Ok.ensures in
    let r = reading c.as_slice.result.now in
    let tape = c.args.tape.now in
    let few : tape.texts < 4294967295 = search rules in
    let e = c.in-Ok-take_text.ensures in
    λ stands files is names h.
    taped-more c.args.folder.now files names c.args.name.now tape c.take_text.new.tape r (sym c.is_json.ensures ∙ c.if-not-is_json.false) few
    (ap reading c.as_slice.ensures.value
    ∙ reading-found (bytes_at path files) c.in-Ok-read.bytes.items
    (subst (λ p. option_map (take 134217729) (bytes_at p files) ≡ Some c.in-Ok-read.bytes.items) first (c.in-Ok-read.ensures.bytes files is)))
    (e.snapshots stands)
    (e.lines stands ∙ ap (λ p. tape.lines ++ answer_line p (answer_to tape.snapshots.items r)) second)
    (e.refused stands) e.texts h
