use Rattle.std.proofs.Common.{◌≡◌, true, sym, ap, ◌∙◌, rules}
use Rattle.std.specs.Str.{bytes_eq}
use Rattle.json_walk.proofs.Lists.{same_text}
use Rattle.istanbul_json.proofs.joining.join_one.Goals as goal

pub returns-then-fits : goal.returns-then-fits
returns-then-fits g c =
    let made = c.make-joined.ensures c.args.counted.key in
    let equal : bytes_eq c.args.entry.key c.args.counted.key ≡ true = search rules in
    let key = ap g.T.Listed.key_of made ∙ g.met.T.Listed.keeps_key _ in (
      key,
      ap g.T.Listed.entry_of made ∙ g.met.T.Listed.keeps_entry _,
      key ∙ same_text c.args.entry.key c.args.counted.key equal,
      ap g.T.Listed.counts_of made ∙ g.met.T.Listed.keeps_counts _,
      sym c.fits.ensures ∙ c.if-fits.true,
    )
