-- The map entries of a coverage text: what its member `source-map-cache` says of each url.
use Rattle.std.specs.Prelude.{ℕ, List, [], ◌++◌, Option, None, Some, option_map, option_and_then, option_to_list, unwrap_or, codes}
use Rattle.serde_json.specs.Data.{Data, null, boolean, number, string, array, object, Members, no_members, member}
use Rattle.serde_json.specs.Find.{get, as_object}
use Rattle.serde_json.specs.View.{view}
use Rattle.json_shapes.specs.Shapes.{offset_of}
use Rattle.json_shapes.specs.Members.{listed, if_given}
use Rattle.source_maps.specs.declared.entries.MapEntry.{MapEntry}
use Rattle.source_maps.specs.declared.entries.EntryBody.{EntryBody}
use Rattle.source_maps.specs.declared.entries.EntryBody.TheVariants.{Given, Bad}

-- a map, not yet judged, and the lengths of the generated lines
pub record GivenMap : Type 0 where
  pub value : Data
  pub lengths : List ℕ

-- what a text says of a url; no body where that is of another shape
pub record Said : Type 0 where
  pub url : List ℕ
  pub body : Option GivenMap

abbrev pub said_body : EntryBody → Option GivenMap
said_body (Given value lengths) = Some (record { value = view value; lengths = lengths })
said_body Bad = None

-- what a `MapEntry` says
abbrev pub said : MapEntry → Said
said e = record { url = e.url; body = said_body e.body }

-- the member, unless it is absent or null
abbrev pub given_member : List ℕ → Data → Option Data
given_member key d = unwrap_or (if_given Some (get key d)) None

-- the map and the lengths, where these are a list of numbers of 32 bits
abbrev pub body_with : Data → Option (List ℕ) → Option GivenMap
body_with value lengths = option_map (λ ns. record { value = value; lengths = ns }) lengths

abbrev pub body_of : Data → Data → Option GivenMap
body_of value lengths = body_with value (listed offset_of lengths)

-- what the members `lineLengths` and `data` say of a url: nothing where one isn't given
abbrev pub said_of : List ℕ → Option Data → Option Data → Option Said
said_of url None value = None
said_of url (Some lengths) None = None
said_of url (Some lengths) (Some value) = Some (record { url = url; body = body_of value lengths })

-- what a value says of its url
abbrev pub entry_of : List ℕ → Data → Option Said
entry_of url (object ms) = said_of url (given_member (codes "lineLengths") (object ms)) (given_member (codes "data") (object ms))
entry_of url null = Some (record { url = url; body = None })
entry_of url (boolean b) = Some (record { url = url; body = None })
entry_of url (number n) = Some (record { url = url; body = None })
entry_of url (string s) = Some (record { url = url; body = None })
entry_of url (array ds) = Some (record { url = url; body = None })

-- in byte order of the urls, as the members of an object stand
abbrev pub entries_in : Members → List Said
entries_in no_members = []
entries_in (member url d ms) = option_to_list (entry_of url d) ++ entries_in ms

-- what the member with maps says; nothing where it isn't there, or no object
abbrev pub entries_said : Option Data → List Said
entries_said found = unwrap_or (option_map entries_in (option_and_then as_object found)) []

-- what a text's value says, in that member of its object
abbrev pub entries_of : Data → List Said
entries_of d = entries_said (get (codes "source-map-cache") d)
