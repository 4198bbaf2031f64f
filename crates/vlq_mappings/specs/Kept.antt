-- What holds of each mappings.
use Rattle.std.specs.Prelude.{ℕ, ◌-◌, ◌^◌, ◌<◌, Bool, true, ◌&&◌, List, length, nat_le, Option, None, Some, IsTrue}
use Rattle.std.specs.List.{list_all}
use Rattle.vlq_mappings.specs.declared.Origin.{Origin}
use Rattle.vlq_mappings.specs.declared.Segment.{Segment}

-- the greatest number of a mapping
abbrev pub most : ℕ
most = 2 ^ 31 - 1

abbrev pub name_is_near : Option ℕ → Bool
name_is_near None = true
name_is_near (Some n) = nat_le n most

abbrev pub origin_is_near : Option Origin → Bool
origin_is_near None = true
origin_is_near (Some o) = nat_le o.source most && (nat_le o.line most && (nat_le o.column most && name_is_near o.name))

-- no number of the segment passes the greatest
abbrev pub is_near : Segment → Bool
is_near s = nat_le s.column most && origin_is_near s.origin

-- there is a line, and no number passes the greatest
pub record AreMappings (lines : List (List Segment)) : Type 0 where
  pub some : 0 < length lines
  pub near : IsTrue (list_all (list_all is_near) lines)
