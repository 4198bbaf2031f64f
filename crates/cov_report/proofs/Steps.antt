-- What code holds after one more that was asked for.
use Rattle.std.proofs.Common.{◌≡◌, ◌≤◌, ℕ, Bool, true, false, List, [], ◌∷◌, ◌++◌, length, map, refl, sym, ap, ◌∙◌, subst, inl, inr}
use Rattle.std.specs.Prelude.{cond, Option, None, Some, is_some, option_map, Result, Ok, Err}
use Rattle.std.specs.BTreeMap.{BTreeMap, get, is_at}
use Rattle.std.proofs.lemmas.Bool.{cases_Bool}
use Rattle.cov_text.specs.Listing.{same_text, text_cmp}
use Rattle.json_shapes.specs.Shapes.{◌>>=◌, or_fault}
use Rattle.cov_io.specs.Told.{Files}
use Rattle.utf16_lines.specs.Lines.{table_of}
use Rattle.istanbul_rules.specs.declared.part.Part.{Part}
use Rattle.cov_report.specs.declared.answer.SkipCause.{SkipCause}
use Rattle.cov_report.specs.declared.answer.SkipCause.TheVariants.{NotFile}
use Rattle.cov_report.specs.declared.answer.Skip.{Skip}
use Rattle.cov_model.specs.declared.snapshot.Entry.{Entry}
use Rattle.source_remap.specs.Paths.{path_of}
use Rattle.cov_report.specs.declared.gathering.Gathered.{Gathered}
use Rattle.cov_report.specs.SoFar.{SoFar, with_part, taken_from}
use Rattle.cov_report.specs.Wanted.{Wanted, Asked, own_text, direct, direct_wanted, mapped, mapped_wanted, content_of, path_or_name}
use Rattle.cov_report.specs.declared.maps.GoodMap.{GoodMap}
use Rattle.cov_report.specs.Report.{outcomes, parts_in, placed, place, text_of}
use Rattle.cov_report.specs.Gathering.{Gathers, with_parts, so_far}
use Rattle.cov_report.proofs.Outcomes.{at-same, same-is, taken-is, so_far-skip, so_far-part, skips-skip, skips-part}

module _ (files : Files) (earlier : List Asked) where
  left-out : (a : Asked) (cause : SkipCause) (old new : Gathered) → a.wanted >>= placed files earlier ≡ Err cause
      → ((path : List ℕ) → get text_cmp new.files path ≡ get text_cmp old.files path)
      → new.skips ≡ old.skips ++ record { name = a.name; cause = cause } ∷ [] → Gathers files earlier old → Gathers files (earlier ++ a ∷ []) new
  left-out a cause old new e same skips g =
      record {
        at = λ path. same path ∙ g.at path ∙ sym (so_far-skip files earlier a cause e path);
        skips = skips ∙ ap (λ s. s ++ record { name = a.name; cause = cause } ∷ []) g.skips ∙ sym (skips-skip files earlier a cause e);
      }

  named : (old new : List Skip) (shown name : List ℕ) (cause : SkipCause) → shown ≡ name → new ≡ old ++ record { name = shown; cause = cause } ∷ [] → new ≡ old ++ record { name = name; cause = cause } ∷ []
  named old new shown name cause e skips = skips ∙ ap (λ n. old ++ record { name = n; cause = cause } ∷ []) e

  -- it is left out at once
  pub Gathers-skip : (a : Asked) (cause : SkipCause) (old new : Gathered) (shown : List ℕ) → a.wanted ≡ Err cause → shown ≡ a.name
      → new.files ≡ old.files → new.skips ≡ old.skips ++ record { name = shown; cause = cause } ∷ [] → Gathers files earlier old → Gathers files (earlier ++ a ∷ []) new
  Gathers-skip a cause old new shown is name same skips g =
      left-out a cause old new (ap (λ r. r >>= placed files earlier) is) (λ q. ap (λ (m : BTreeMap (List ℕ) SoFar). get text_cmp m q) same) (named old.skips new.skips shown a.name cause name skips) g

  -- what a text is, by what was taken
  refused : (w : Wanted) (cause : SkipCause) → Err cause ≡ taken_from (so_far files earlier w.path) (own_text files w.path w.content) → text_of files earlier w ≡ Err cause
  refused w cause e = by (text_of files earlier w) (e ∙ taken-is files earlier w)
    where
      by : (r : Result (List ℕ) SkipCause) → Err cause ≡ (r >>= λ text. Ok (with_parts (parts_in (outcomes files [] earlier)) w.path text)) → r ≡ Err cause
      by (Ok text) h = absurd cc
      by (Err other) h = cc

  pub record HasText (w : Wanted) (file : SoFar) : Type 0 where
    pub text : List ℕ
    pub is : text_of files earlier w ≡ Ok text
    pub file_is : file ≡ with_parts (parts_in (outcomes files [] earlier)) w.path text

  got : (w : Wanted) (file : SoFar) → Ok file ≡ taken_from (so_far files earlier w.path) (own_text files w.path w.content) → HasText w file
  got w file e = by (text_of files earlier w) refl (e ∙ taken-is files earlier w)
    where
      by : (r : Result (List ℕ) SkipCause) → text_of files earlier w ≡ r → Ok file ≡ (r >>= λ text. Ok (with_parts (parts_in (outcomes files [] earlier)) w.path text)) → HasText w file
      by (Ok text) is h = record { text = text; is = is; file_is = cc }
      by (Err other) is h = absurd cc

  nothing-there : (o : Option SoFar) (own : Result (List ℕ) SkipCause) (cause : SkipCause) → Err cause ≡ taken_from o own → o ≡ None
  nothing-there None own cause e = refl
  nothing-there (Some file) own cause e = absurd cc

  abbrev IsWithout : List ℕ → BTreeMap (List ℕ) SoFar → BTreeMap (List ℕ) SoFar → Type 0
  IsWithout path old mid = (q : List ℕ) → get text_cmp mid q ≡ cond (is_at (text_cmp path) q) None (get text_cmp old q)

  -- its path has no text, and gets none
  pub Gathers-refused : (a : Asked) (w : Wanted) (cause : SkipCause) (old new : Gathered) (mid : BTreeMap (List ℕ) SoFar) (shown : List ℕ) → a.wanted ≡ Ok w → shown ≡ a.name
      → Err cause ≡ taken_from (get text_cmp old.files w.path) (own_text files w.path w.content)
      → IsWithout w.path old.files mid → new.files ≡ mid → new.skips ≡ old.skips ++ record { name = shown; cause = cause } ∷ []
      → Gathers files earlier old → Gathers files (earlier ++ a ∷ []) new
  Gathers-refused a w cause old new mid shown is name e without same skips g =
      let gone : get text_cmp old.files w.path ≡ None = nothing-there (get text_cmp old.files w.path) (own_text files w.path w.content) cause e in
      let text : text_of files earlier w ≡ Err cause = refused w cause (e ∙ ap (λ o. taken_from o (own_text files w.path w.content)) (g.at w.path)) in
      left-out a cause old new (ap (λ r. r >>= placed files earlier) is ∙ ap (λ r. r >>= λ t. Ok (place w t)) text)
      (λ q. ap (λ (m : BTreeMap (List ℕ) SoFar). get text_cmp m q) same ∙ without q ∙ by q (is_at (text_cmp w.path) q) refl gone) (named old.skips new.skips shown a.name cause name skips) g
    where
      by : (q : List ℕ) (b : Bool) → is_at (text_cmp w.path) q ≡ b → get text_cmp old.files w.path ≡ None → cond b None (get text_cmp old.files q) ≡ get text_cmp old.files q
      by q true h gone = sym (ap (get text_cmp old.files) (sym (same-is w.path q (sym (at-same w.path q) ∙ h))) ∙ gone)
      by q false h gone = refl

  -- it has a text, and gets a part
  pub Gathers-part : (a : Asked) (w : Wanted) (file : SoFar) (part : Part) (old new : Gathered) (mid : BTreeMap (List ℕ) SoFar) → a.wanted ≡ Ok w
      → Ok file ≡ taken_from (get text_cmp old.files w.path) (own_text files w.path w.content)
      → IsWithout w.path old.files mid → part ≡ w.part file.table
      → ((q : List ℕ) → get text_cmp new.files q ≡ cond (is_at (text_cmp w.path) q) (Some (with_part file part)) (get text_cmp mid q))
      → new.skips ≡ old.skips → Gathers files earlier old → Gathers files (earlier ++ a ∷ []) new
  Gathers-part a w file part old new mid is e without made at skips g =
      let has : HasText w file = got w file (e ∙ ap (λ o. taken_from o (own_text files w.path w.content)) (g.at w.path)) in
      record {
        at = λ q.
            at q ∙ over q (is_at (text_cmp w.path) q) (get text_cmp mid q) (without q)
            ∙ ap (λ b. cond b (Some (with_part file part)) (get text_cmp old.files q)) (at-same w.path q)
            ∙ ap (cond (same_text w.path q) (Some (with_part file part))) (g.at q)
            ∙ ap (λ f. cond (same_text w.path q) (Some f) (so_far files earlier q)) (filled has made)
            ∙ sym (so_far-part files earlier a w has.text is has.is q);
        skips = skips ∙ g.skips ∙ sym (skips-part files earlier a (place w has.text) (ap (λ r. r >>= placed files earlier) is ∙ ap (λ r. r >>= λ t. Ok (place w t)) has.is));
      }
    where
      over : (q : List ℕ) (b : Bool) (there : Option SoFar) → there ≡ cond b None (get text_cmp old.files q) → cond b (Some (with_part file part)) there ≡ cond b (Some (with_part file part)) (get text_cmp old.files q)
      over q true there h = refl
      over q false there h = h

      filled : (has : HasText w file) → part ≡ w.part file.table
          → with_part file part ≡ with_part (with_parts (parts_in (outcomes files [] earlier)) w.path has.text) (w.part (table_of has.text))
      filled has made =
          ap (with_part file) (made ∙ ap (λ (f : SoFar). w.part f.table) has.file_is) ∙ ap (λ f. with_part f (w.part (table_of has.text))) has.file_is

-- ---- what a script or a source wants

pub direct-none : (script : Entry) (url : List ℕ) → url ≡ script.url → path_of url ≡ None → (direct script).wanted ≡ Err NotFile
direct-none script url e none = ap (λ o. or_fault NotFile (option_map (direct_wanted script) o)) (ap path_of (sym e) ∙ none)

pub direct-some : (script : Entry) (url path : List ℕ) → url ≡ script.url → path_of url ≡ Some path → (direct script).wanted ≡ Ok (direct_wanted script path)
direct-some script url path e some = ap (λ o. or_fault NotFile (option_map (direct_wanted script) o)) (ap path_of (sym e) ∙ some)

pub mapped-is : (script : Entry) (good : GoodMap) (k : ℕ) (name url : List ℕ) (has : Bool) (content : Option (List ℕ)) → url ≡ script.url → has ≡ is_some content → content ≡ content_of good.map k
    → (mapped script good k name).wanted ≡ or_fault NotFile (option_map (mapped_wanted script good k) (path_or_name url name has))
mapped-is script good k name url has content e given is =
    ap (λ u. or_fault NotFile (option_map (mapped_wanted script good k) (path_or_name u name (is_some (content_of good.map k))))) (sym e)
    ∙ ap (λ b. or_fault NotFile (option_map (mapped_wanted script good k) (path_or_name url name b))) (sym (given ∙ ap is_some is))
