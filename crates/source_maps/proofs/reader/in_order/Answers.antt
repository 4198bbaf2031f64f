use Rattle.std.proofs.Common.{rules}
use Rattle.source_maps.proofs.Sorted.{sort_done, map_sorted, made_by_spot}
use Rattle.source_maps.proofs.reader.in_order.Goals as goal

pub new-requires : goal.new-requires
new-requires c =
    map_sorted c.args.parts c.into_vec-segments.result.items c.sort_by_key.new.self.items c.from_vec-segments.result c.requires c.into_vec-segments.ensures
    c.from_vec-segments.ensures
    (sort_done c.into_vec-segments.result.items c.sort_by_key.new.self.items c.in_ok-sort_by_key.ensures.sorted c.in_ok-sort_by_key.ensures.stable (λ a r q k. search rules))

pub returns : goal.returns
returns c =
    made_by_spot c.args.parts c.into_vec-segments.result.items c.sort_by_key.new.self.items c.from_vec-segments.result c.new.result c.into_vec-segments.ensures
    c.from_vec-segments.ensures
    (sort_done c.into_vec-segments.result.items c.sort_by_key.new.self.items c.in_ok-sort_by_key.ensures.sorted c.in_ok-sort_by_key.ensures.stable (λ a r q k. search rules))
    c.new.ensures
