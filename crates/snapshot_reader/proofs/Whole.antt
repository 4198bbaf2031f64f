-- From the value of a text to its reading.
use Rattle.std.proofs.Common.{◌≡◌, ◌≤◌, ℕ, List, length, Option, Some, false, arith, refl, sym, ◌∙◌, subst}
use Rattle.std.specs.Prelude.{Ok, nat_lt, option_map}
use Rattle.std.proofs.lemmas.Bool.Decides.{nat_tests}
use Rattle.serde_json.specs.Data.{Data, object}
use Rattle.serde_json.specs.View.{view}
use Rattle.cov_text.specs.Listing.{max_text}
use Rattle.json_shapes.specs.Shapes.{parsed}
use Rattle.cov_model.specs.declared.snapshot.Snapshot.{Snapshot}
use Rattle.cov_model.specs.declared.snapshot.Entry.{Entry}
use Rattle.cov_model.specs.Reading.{snapshot_of, reading}
use Rattle.snapshot_reader.specs.declared.text.FoundTop.{FoundTop}
use Rattle.snapshot_reader.specs.declared.text.FoundText.{FoundText}
use Rattle.snapshot_reader.specs.Snapshots.{GivesTop, GivesText, HasScripts, maps_in, text_maps}
use Rattle.snapshot_reader.proofs.Snapshots.{scripts_nest, scripts_are}

not_long : (m n : ℕ) → n ≤ m → nat_lt m n ≡ false
not_long m n h = grind (arith, nat_tests)

reading_is : (bytes : List ℕ) (d : Data) (s : Snapshot) → length bytes ≤ max_text → parsed bytes ≡ Some d → snapshot_of d ≡ Ok s → reading bytes ≡ Ok s
unfolding reading
reading_is bytes d s short there is = rw (not_long max_text (length bytes) short) (rw (there) (rw (is)))

pub top_nests : (d : Data) (found : FoundTop) → GivesTop found d → HasScripts found.scripts
top_nests d found h = scripts_nest h.0 found.scripts h.2

pub top_is : (bytes : List ℕ) (found : FoundTop) (s : List Entry) → length bytes ≤ max_text → (read : (d : Data) × (parsed bytes ≡ Some d) × GivesTop found d) → found.scripts ≡ Some s → reading bytes ≡ Ok s
top_is bytes found s short read is =
    let h = read.2 in
    reading_is bytes (object h.0) s short (subst (λ d. parsed bytes ≡ Some d) (sym h.1) read.1) (scripts_are h.0 found.scripts s h.2 is)

-- what was found beside the maps
pub text_top : (bytes : List ℕ) (found : FoundText) → (d : Data) × (parsed bytes ≡ Some d) × GivesText found d → (d : Data) × (parsed bytes ≡ Some d) × GivesTop found.top d
text_top bytes found h = (h.0, h.1, (h.2.0, h.2.1, h.2.2.0))

pub maps_are : (bytes : List ℕ) (found : FoundText) → (read : (d : Data) × (parsed bytes ≡ Some d) × GivesText found d) → option_map view found.maps ≡ text_maps bytes
maps_are bytes found read =
    let h = read.2 in
    h.2.1 ∙ sym (rw (read.1) (rw (← h.1) refl))
