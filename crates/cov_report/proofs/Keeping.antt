-- The first entry of each url, as more entries come.
use Rattle.std.proofs.Common.{◌≡◌, ℕ, Bool, true, false, List, [], ◌∷◌, ◌++◌, map, refl, sym, ap, ◌∙◌}
use Rattle.std.specs.Prelude.{cond, Option, None, Some, option_map, is_some, flat_map}
use Rattle.std.specs.Option.{option_or}
use Rattle.std.specs.BTreeMap.{BTreeMap, get, is_at}
use Rattle.std.specs.Map.{lookup}
use Rattle.std.specs.Cmp.{both_ways}
use Rattle.std.proofs.lemmas.List.Folds.{find-append}
use Rattle.cov_text.specs.Listing.{same_text, text_cmp}
use Rattle.cov_io.specs.Told.{Files}
use Rattle.cov_model.specs.declared.snapshot.Snapshot.{Snapshot}
use Rattle.cov_model.specs.File.{scripts}
use Rattle.source_maps.specs.declared.entries.EntryBody.{EntryBody}
use Rattle.source_maps.specs.Entries.{Said}
use Rattle.cov_report.specs.declared.kept.FirstEntries.{FirstEntries}
use Rattle.cov_report.specs.Wanted.{entry_for, asked, asked_by}
use Rattle.cov_report.specs.Report.{report, report_of_asked}
use Rattle.cov_report.specs.First.{AreFirsts, HaveSameFirsts, said_at}
use Rattle.cov_report.proofs.Outcomes.{at-same, same-is, is-same}

-- ---- one more entry

some-mapped : {A B : Type 0} (f : A → B) (o : Option A) → is_some (option_map f o) ≡ is_some o
some-mapped f None = refl
some-mapped f (Some x) = refl

or-none : {A : Type 0} (o : Option A) → option_or o None ≡ o
or-none None = refl
or-none (Some x) = refl

module _ (all : List Said) (e : Said) where
  more : (url : List ℕ) → entry_for (all ++ e ∷ []) url ≡ option_or (entry_for all url) (cond (same_text e.url url) (Some e) None)
  more url = find-append (λ (x : Said). same_text x.url url) all (e ∷ [])

  -- its url has an earlier entry
  pub still-firsts : (old new : FirstEntries) → is_some (get text_cmp old.bodies e.url) ≡ true → new.bodies ≡ old.bodies → AreFirsts all old → AreFirsts (all ++ e ∷ []) new
  still-firsts old new there same are url =
      ap (λ (m : BTreeMap (List ℕ) EntryBody). option_map (said_at url) (get text_cmp m url)) same ∙ are url ∙ by (same_text e.url url) refl (entry_for all url) refl ∙ sym (more url)
    where
      by : (b : Bool) → same_text e.url url ≡ b → (o : Option Said) → entry_for all url ≡ o → entry_for all url ≡ option_or (entry_for all url) (cond b (Some e) None)
      by b h (Some x) there-is = there-is ∙ sym (ap (λ (p : Option Said). option_or p (cond b (Some e) None)) there-is)
      by false h None none = none ∙ sym (ap (λ (p : Option Said). option_or p None) none)
      by true h None none =
          let is : is_some (get text_cmp old.bodies url) ≡ true = sym (ap (λ u. is_some (get text_cmp old.bodies u)) (same-is e.url url h)) ∙ there in
          let no : is_some (get text_cmp old.bodies url) ≡ false = sym (some-mapped (said_at url) (get text_cmp old.bodies url)) ∙ ap is_some (are url ∙ none) in
          absurd cc

  -- its url is new
  pub put-first : (old new : FirstEntries) (body : EntryBody) → said_at e.url body ≡ e → get text_cmp old.bodies e.url ≡ None
      → ((q : List ℕ) → get text_cmp new.bodies q ≡ cond (is_at (text_cmp e.url) q) (Some body) (get text_cmp old.bodies q)) → AreFirsts all old → AreFirsts (all ++ e ∷ []) new
  put-first old new body is none put are url =
      ap (option_map (said_at url)) (put url ∙ ap (λ b. cond b (Some body) (get text_cmp old.bodies url)) (at-same e.url url)) ∙ by (same_text e.url url) refl ∙ sym (more url)
    where
      by : (b : Bool) → same_text e.url url ≡ b → option_map (said_at url) (cond b (Some body) (get text_cmp old.bodies url)) ≡ option_or (entry_for all url) (cond b (Some e) None)
      by true h =
          let named = same-is e.url url h in
          let gone : entry_for all url ≡ None = sym (are url) ∙ ap (option_map (said_at url)) (sym (ap (get text_cmp old.bodies) named) ∙ none) in
          ap (λ u. Some (said_at u body)) (sym named) ∙ ap (λ (x : Said). Some x) is ∙ sym (ap (λ (o : Option Said). option_or o (Some e)) gone)
      by false h = are url ∙ sym (or-none (entry_for all url))

-- ---- all that are kept, as a list

turned : (a b : List ℕ) → same_text a b ≡ same_text b a
turned a b = both_ways (same_text a b) (same_text b a) (λ h. is-same b a (sym (same-is a b h))) (λ h. is-same a b (sym (same-is b a h)))

abbrev pub said_pair : List ℕ × EntryBody → Said
said_pair p = said_at p.0 p.1

each-said : (ps : List (List ℕ × EntryBody)) (url : List ℕ) → entry_for (map said_pair ps) url ≡ option_map (said_at url) (lookup (is_at (text_cmp url)) ps)
each-said [] url = refl
each-said (p ∷ ps) url = by (same_text p.0 url) refl (each-said ps url) ∙ ap (λ b. option_map (said_at url) (cond b (Some p.1) (lookup (is_at (text_cmp url)) ps))) (turned p.0 url ∙ sym (at-same url p.0))
  where
    by : (b : Bool) → same_text p.0 url ≡ b → entry_for (map said_pair ps) url ≡ option_map (said_at url) (lookup (is_at (text_cmp url)) ps)
        → cond b (Some (said_pair p)) (entry_for (map said_pair ps) url) ≡ option_map (said_at url) (cond b (Some p.1) (lookup (is_at (text_cmp url)) ps))
    by true h next = ap (λ u. Some (said_at u p.1)) (same-is p.0 url h)
    by false h next = next

pub same-firsts : (kept : FirstEntries) (all entries : List Said) → entries ≡ map said_pair kept.bodies.entries → AreFirsts all kept → HaveSameFirsts entries all
same-firsts kept all entries is are url = ap (λ (es : List Said). entry_for es url) is ∙ each-said kept.bodies.entries url ∙ are url

-- ---- a report asks for the first entry of each url alone

pub firsts-enough : (snapshots : List Snapshot) (one other : List Said) (files : Files) → HaveSameFirsts one other → report snapshots one files ≡ report snapshots other files
unfolding report asked
firsts-enough snapshots one other files same = λ i. report_of_asked files (flat_map (λ script. asked_by script (same script.url i)) (scripts snapshots))
