-- Words of private functions: the urls of scripts.
use Rattle.std.specs.Prelude.{ℕ, List, map}
use Rattle.cov_model.specs.declared.snapshot.Entry.{Entry}
use Rattle.cov_text.specs.Listing.{inserted, text_cmp}

-- the urls of scripts, and those known with them
abbrev pub urls_of : List Entry → List (List ℕ)
urls_of entries = map (λ entry. entry.url) entries

abbrev pub with_urls : List (List ℕ) → List Entry → List (List ℕ)
with_urls known entries = inserted text_cmp known (urls_of entries)
