use Rattle.std.proofs.Common.{[], refl, ap, ◌∙◌, subst}
use Rattle.std.specs.Prelude.{Some, None, option_map, slice_get}
use Rattle.cov_book.specs.declared.scripts.Function.{Function}
use Rattle.std.specs.Map.{lookup}
use Rattle.std.specs.BTreeMap.{is_at}
use Rattle.cov_model.specs.Sums.{file_order}
use Rattle.cov_book.specs.Listed.{own_list}
use Rattle.cov_book.specs.Told.{named}
use Rattle.cov_book.specs.Renewed.{IsFoundAt, renewed}
use Rattle.cov_book.proofs.Renewing.{fresh-made, held-made}
use Rattle.cov_book.proofs.Searched.{hit-within}
use Rattle.cov_book.proofs.changed.sums_so_far.Goals as goal

pub sums_at-requires : goal.sums_at-requires
sums_at-requires c =
    let k = named [] c.args.start c.args.end c.args.name.now in
    let found : IsFoundAt k c.args.held.now (Some c.in-Some.at) = subst (IsFoundAt k c.args.held.now) c.in-Some.is c.requires.place in
    hit-within k c.args.held.now c.in-Some.at found.0

pub returns-in-Some : goal.returns-in-Some
returns-in-Some c = λ url functions knows.
    let k = named [] c.args.start c.args.end c.args.name.now in
    let held = c.args.held.now in
    let found : IsFoundAt k held (Some c.in-Some.at) = subst (IsFoundAt k held) c.in-Some.is c.requires.place in
    c.sums_at.ensures
    ∙ ap (λ again. option_map (λ (f : Function). f.sums) (slice_get (renewed held again) c.in-Some.at)) c.deref.ensures.value
    ∙ held-made url c.args.start c.args.end c.args.name.now held c.args.changes.now c.in-Some.at (functions (named url c.args.start c.args.end c.args.name.now)) c.requires.held found

pub returns-in-None : goal.returns-in-None
returns-in-None c = λ url functions knows.
    let k = named [] c.args.start c.args.end c.args.name.now in
    let ku = named url c.args.start c.args.end c.args.name.now in
    let held = c.args.held.now in
    let found : IsFoundAt k held None = subst (IsFoundAt k held) c.in-None.is c.requires.place in
    c.sums_among.ensures url
    ∙ ap (λ fs. lookup (is_at (file_order ku)) (own_list url fs)) c.deref-in-None.ensures.value
    ∙ fresh-made url c.args.start c.args.end c.args.name.now held c.args.changes.now (functions ku) found (knows ku refl)
