use Rattle.std.proofs.Common.{◌≡◌, [], rules}
use Rattle.json.specs.Json.{value}
use Rattle.json.specs.Lex.{tokens}
use Rattle.json_walk.proofs.Reading.{whole_read}
use Rattle.json_walk.proofs.whole.read_text.Goals as goal

pub returns : goal.returns
returns g c =
    let made = c.in_ok-found.ensures.ok in
    let none : c.read.new.reader ≡ [] = search rules in
    (made.0, whole_read (value 127 (tokens c.args.text.now)) made.0 (rw (c.in-Ok.ensures.ok, none) at made.1), made.2)
