-- What the entries of a list of snapshots tell are its scripts.
use Rattle.std.proofs.Common.{◌≡◌, ℕ, Bool, true, false, List, [], ◌∷◌, map, refl, sym, ◌∙◌, subst}
use Rattle.std.specs.Prelude.{cond, filter}
use Rattle.cov_model.specs.declared.snapshot.Snapshot.{Snapshot}
use Rattle.cov_model.specs.declared.sums.Key.{Key}
use Rattle.cov_text.specs.Listing.{same_text}
use Rattle.cov_model.specs.Nesting.{AreNested}
use Rattle.cov_model.specs.Sums.{flag, urls_in_order, keys_in_order}
use Rattle.cov_model.specs.declared.report.ListForm.{ListForm}
use Rattle.cov_model.specs.File.{report_in, entry_in, scripts_in}
use Rattle.cov_book.specs.declared.sums.Sums.{Sums}
use Rattle.cov_book.specs.Entries.{IsBook, key_sums, entries_of}
use Rattle.cov_book.specs.Prepared.{AreAligned, told_report, told_entry}
use Rattle.cov_book.proofs.Agreeing.{map-each}
use Rattle.cov_book.proofs.Aligned.{aligned-entries}
use Rattle.cov_book.proofs.Nested.{scripts-nested}
use Rattle.cov_book.proofs.Counting.{ranges-told}

report-is : (form : ListForm) (held : List Snapshot) (key : Key) → told_report form (key_sums held key) ≡ report_in form held key
report-is form held key = (λ i. record { name = key.name; block = flag held key; ranges = ranges-told form held key i })

reports-are : (form : ListForm) (held : List Snapshot) (p : Key → Bool) (ks : List Key)
    → map (told_report form) (filter (λ (e : Key × Sums). p e.0) (map (key_sums held) ks)) ≡ map (report_in form held) (filter p ks)
reports-are form held p [] = refl
reports-are form held p (k ∷ ks) =
    elim (p k) as (λ b. map (told_report form) (cond b (key_sums held k ∷ filter (λ (e : Key × Sums). p e.0) (map (key_sums held) ks)) (filter (λ (e : Key × Sums). p e.0) (map (key_sums held) ks)))
    ≡ map (report_in form held) (cond b (k ∷ filter p ks) (filter p ks))) [
      | true ↦ (λ i. report-is form held k i ∷ reports-are form held p ks i)
      | false ↦ reports-are form held p ks
    ]

entry-is : (form : ListForm) (held : List Snapshot) (url : List ℕ) → told_entry form (entries_of held) url ≡ entry_in form held url
unfolding entries_of
entry-is form held url = let functions = reports-are form held (λ key. same_text key.url url) (keys_in_order held) in (λ i. record { url = url; functions = functions i })

told-list : (form : ListForm) (held : List Snapshot) → map (told_entry form (entries_of held)) (urls_in_order held) ≡ scripts_in form held
unfolding scripts_in
told-list form held = map-each (told_entry form (entries_of held)) (entry_in form held) (entry-is form held) (urls_in_order held)

pub told : (form : ListForm) (urls : List (List ℕ)) (entries : List (Key × Sums)) → (b : IsBook urls entries) → map (told_entry form entries) urls ≡ scripts_in form b.held
told form urls entries b = (λ i. map (told_entry form (b.entries_are i)) (b.urls_are i)) ∙ told-list form b.held

pub told-nested : (form : ListForm) (urls : List (List ℕ)) (entries : List (Key × Sums)) → IsBook urls entries → AreNested (map (told_entry form entries) urls)
told-nested form urls entries b = subst AreNested (sym (told form urls entries b)) (scripts-nested form b.held b.nested)

pub aligned : (urls : List (List ℕ)) (entries : List (Key × Sums)) → IsBook urls entries → AreAligned entries
aligned urls entries b = subst AreAligned (sym b.entries_are) (aligned-entries b.held)
