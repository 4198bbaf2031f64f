-- What one more that is asked for does to the files and to what is left out.
use Rattle.std.proofs.Common.{◌≡◌, ℕ, Bool, true, false, List, [], ◌∷◌, ◌++◌, map, refl, sym, ap, ◌∙◌, inl, inr}
use Rattle.std.specs.Prelude.{cond, Option, None, Some, option_map, Result, Ok, Err, filter, filter_map}
use Rattle.std.specs.BTreeMap.{is_at}
use Rattle.std.specs.declared.cmp.Ordering.{Ordering}
use Rattle.std.specs.declared.cmp.Ordering.TheVariants.{Less, Equal, Greater}
use Rattle.std.specs.Ordering.{is_eq}
use Rattle.std.specs.Cmp.{both_ways}
use Rattle.std.proofs.lemmas.Bool.{cases_Bool}
use Rattle.std.proofs.lemmas.Cmp.{tied_itself}
use Rattle.std.proofs.lemmas.List.{append-nil, append_assoc, map-append}
use Rattle.std.proofs.lemmas.List.Elements.{filter_map-append, filter-append}
use Rattle.std.proofs.lemmas.Slice.Eq.{bytes_eq-Decides}
use Rattle.cov_text.specs.Listing.{first_of, same_text, text_cmp}
use Rattle.json_shapes.specs.Shapes.{◌>>=◌}
use Rattle.cov_io.specs.Told.{Files}
use Rattle.utf16_lines.specs.Lines.{table_of}
use Rattle.cov_book.proofs.Ordered.{text_total, text_exact}
use Rattle.cov_report.specs.declared.answer.SkipCause.{SkipCause}
use Rattle.cov_report.specs.declared.answer.Skip.{Skip}
use Rattle.cov_report.specs.SoFar.{SoFar, new_file, with_part, taken_from}
use Rattle.cov_report.specs.Wanted.{Wanted, Asked, own_text}
use Rattle.cov_report.specs.Report.{Placed, Outcome, outcome, outcomes, placed, place, part_if, parts_in, skip_if, skips_in, parts_at, text_if, wanted_text, text_for, first_text, text_or, text_of}
use Rattle.cov_report.specs.Gathering.{with_parts, so_far}

-- ---- one text

pub same-is : (a b : List ℕ) → same_text a b ≡ true → a ≡ b
same-is a b e = (bytes_eq-Decides a b).0 e

pub is-same : (a b : List ℕ) → a ≡ b → same_text a b ≡ true
is-same a b e = (bytes_eq-Decides a b).1 e

at-equal : (o : Ordering) → is_eq o ≡ true → o ≡ Equal
at-equal Less e = absurd cc
at-equal Equal e = refl
at-equal Greater e = absurd cc

pub at-same : (a b : List ℕ) → is_at (text_cmp a) b ≡ same_text a b
at-same a b =
    both_ways (is_at (text_cmp a) b) (same_text a b) (λ h. is-same a b (text_exact a b (at-equal (text_cmp a b) h)))
    (λ h. ap is_eq (ap (text_cmp a) (sym (same-is a b h)) ∙ tied_itself text_total a))

-- ---- the first of two

abbrev pub or_else : {A : Type 0} → Option A → Option A → Option A
or_else None y = y
or_else (Some x) y = Some x

or_else-none : {A : Type 0} (x : Option A) → or_else x None ≡ x
or_else-none None = refl
or_else-none (Some x) = refl

first_of-append : {A : Type 0} (xs ys : List A) → first_of (xs ++ ys) ≡ or_else (first_of xs) (first_of ys)
first_of-append [] ys = refl
first_of-append (x ∷ xs) ys = refl

first-one : {A B : Type 0} (f : A → Option B) (a : A) → first_of (filter_map f (a ∷ [])) ≡ f a
first-one {B = B} f a = by (f a) refl
  where
    by : (o : Option B) → f a ≡ o → first_of (filter_map f (a ∷ [])) ≡ f a
    by None e = rw e refl
    by (Some b) e = rw e refl

first-cons : {A B : Type 0} (f : A → Option B) (a : A) (xs : List A) → first_of (filter_map f (a ∷ xs)) ≡ or_else (f a) (first_of (filter_map f xs))
first-cons f a xs = ap first_of (filter_map-append f (a ∷ []) xs) ∙ first_of-append (filter_map f (a ∷ [])) (filter_map f xs) ∙ ap (λ o. or_else o (first_of (filter_map f xs))) (first-one f a)

module _ (files : Files) where
  -- ---- one more outcome

  pub outcomes-snoc : (earlier xs : List Asked) (a : Asked) → outcomes files earlier (xs ++ a ∷ []) ≡ outcomes files earlier xs ++ outcome files (earlier ++ xs) a ∷ []
  unfolding outcomes
  outcomes-snoc earlier [] a = ap (λ e. outcome files e a ∷ []) (sym (append-nil earlier))
  outcomes-snoc earlier (x ∷ xs) a =
      ap (λ os. outcome files earlier x ∷ os)
      (outcomes-snoc (earlier ++ x ∷ []) xs a ∙ ap (λ e. outcomes files (earlier ++ x ∷ []) xs ++ outcome files e a ∷ []) (append_assoc earlier (x ∷ []) xs))

  parts-snoc : (earlier : List Asked) (a : Asked) → parts_in (outcomes files [] (earlier ++ a ∷ [])) ≡ parts_in (outcomes files [] earlier) ++ parts_in (outcome files earlier a ∷ [])
  parts-snoc earlier a =
      ap parts_in (outcomes-snoc [] earlier a) ∙ filter_map-append (λ (o : Outcome). part_if o.placed) (outcomes files [] earlier) (outcome files earlier a ∷ [])

  skips-snoc : (earlier : List Asked) (a : Asked) → skips_in (outcomes files [] (earlier ++ a ∷ [])) ≡ skips_in (outcomes files [] earlier) ++ skips_in (outcome files earlier a ∷ [])
  skips-snoc earlier a =
      ap skips_in (outcomes-snoc [] earlier a) ∙ filter_map-append (λ (o : Outcome). skip_if o.name o.placed) (outcomes files [] earlier) (outcome files earlier a ∷ [])

  text-snoc : (path : List ℕ) (earlier : List Asked) (a : Asked) → first_text files path (earlier ++ a ∷ []) ≡ or_else (first_text files path earlier) (text_for files path a)
  text-snoc path earlier a =
      ap first_of (filter_map-append (text_for files path) earlier (a ∷ []))
      ∙ first_of-append (filter_map (text_for files path) earlier) (filter_map (text_for files path) (a ∷ []))
      ∙ ap (or_else (first_text files path earlier)) (first-one (text_for files path) a)

  -- ---- the first part of a path has the first good text

  abbrev text_in_part : List ℕ → Result Placed SkipCause → Option (List ℕ)
  text_in_part path (Ok p) = cond (same_text p.path path) (Some p.text) None
  text_in_part path (Err cause) = None

  abbrev pub part_text : List ℕ → List Placed → Option (List ℕ)
  part_text path ps = option_map (λ (p : Placed). p.text) (first_of (parts_at path ps))

  part_text-cons : (path : List ℕ) (o : Outcome) (os : List Outcome) → part_text path (parts_in (o ∷ os)) ≡ or_else (text_in_part path o.placed) (part_text path (parts_in os))
  part_text-cons path o os = by o.placed refl
    where
      at : (p : Placed) (b : Bool) → same_text p.path path ≡ b → part_text path (p ∷ parts_in os) ≡ or_else (cond b (Some p.text) None) (part_text path (parts_in os))
      at p true e = rw e refl
      at p false e = rw e refl

      by : (r : Result Placed SkipCause) → o.placed ≡ r → part_text path (parts_in (o ∷ os)) ≡ or_else (text_in_part path o.placed) (part_text path (parts_in os))
      by (Ok p) e = rw e (at p (same_text p.path path) refl)
      by (Err cause) e = rw e refl

  -- where the path has no text yet
  first-part : (path : List ℕ) (earlier : List Asked) (a : Asked) → first_text files path earlier ≡ None → text_in_part path (a.wanted >>= placed files earlier) ≡ text_for files path a
  first-part path earlier a none = by a.wanted
    where
      here : (w : Wanted) (own : Result (List ℕ) SkipCause) (b : Bool) → same_text w.path path ≡ b
          → text_in_part path ((text_or None own) >>= λ text. Ok (place w text)) ≡ text_if path w.path own
      here w (Ok text) b e = refl
      here w (Err cause) b e = refl

      away : (w : Wanted) (r own : Result (List ℕ) SkipCause) → same_text w.path path ≡ false
          → text_in_part path (r >>= λ text. Ok (place w text)) ≡ text_if path w.path own
      away w (Ok text) (Ok own) e = rw e refl
      away w (Ok text) (Err cause) e = rw e refl
      away w (Err cause) (Ok own) e = rw e refl
      away w (Err cause) (Err other) e = refl

      by : (wanted : Result Wanted SkipCause) → text_in_part path (wanted >>= placed files earlier) ≡ wanted_text files path wanted
      by (Err cause) = refl
      by (Ok w) =
          elim (cases_Bool (same_text w.path path)) [
            | inl same ↦
                let nothing : first_text files w.path earlier ≡ None = ap (λ p. first_text files p earlier) (same-is w.path path same) ∙ none in
                ap (λ t. text_in_part path (text_or t (own_text files w.path w.content) >>= λ text. Ok (place w text))) nothing
                ∙ here w (own_text files w.path w.content) true same
            | inr other ↦ away w (text_of files earlier w) (own_text files w.path w.content) other
          ]

  pub part_text-is : (path : List ℕ) (earlier asked : List Asked) → first_text files path earlier ≡ None → part_text path (parts_in (outcomes files earlier asked)) ≡ first_text files path asked
  unfolding outcomes
  part_text-is path earlier [] none = refl
  part_text-is path earlier (a ∷ rest) none =
      by (text_for files path a) refl
      (λ e. part_text-is path (earlier ++ a ∷ []) rest (text-snoc path earlier a ∙ ap (λ t. or_else t (text_for files path a)) none ∙ e))
    where
      whole : part_text path (parts_in (outcome files earlier a ∷ outcomes files (earlier ++ a ∷ []) rest)) ≡ or_else (text_for files path a) (part_text path (parts_in (outcomes files (earlier ++ a ∷ []) rest)))
      whole = part_text-cons path (outcome files earlier a) (outcomes files (earlier ++ a ∷ []) rest) ∙ ap (λ o. or_else o (part_text path (parts_in (outcomes files (earlier ++ a ∷ []) rest)))) (first-part path earlier a none)

      by : (o : Option (List ℕ)) → text_for files path a ≡ o
          → (text_for files path a ≡ None → part_text path (parts_in (outcomes files (earlier ++ a ∷ []) rest)) ≡ first_text files path rest)
          → part_text path (parts_in (outcome files earlier a ∷ outcomes files (earlier ++ a ∷ []) rest)) ≡ first_text files path (a ∷ rest)
      by None e next =
          whole ∙ ap (λ o. or_else o (part_text path (parts_in (outcomes files (earlier ++ a ∷ []) rest)))) e ∙ next e
          ∙ sym (first-cons (text_for files path) a rest ∙ ap (λ o. or_else o (first_text files path rest)) e)
      by (Some text) e next =
          whole ∙ ap (λ o. or_else o (part_text path (parts_in (outcomes files (earlier ++ a ∷ []) rest)))) e
          ∙ sym (first-cons (text_for files path) a rest ∙ ap (λ o. or_else o (first_text files path rest)) e)

  -- a path without a text has no part
  no-parts : (path : List ℕ) (earlier : List Asked) → first_text files path earlier ≡ None → parts_at path (parts_in (outcomes files [] earlier)) ≡ []
  no-parts path earlier none = by (parts_at path (parts_in (outcomes files [] earlier))) (part_text-is path [] earlier refl ∙ none)
    where
      by : (ps : List Placed) → option_map (λ (p : Placed). p.text) (first_of ps) ≡ None → ps ≡ []
      by [] e = refl
      by (p ∷ ps) e = absurd cc

  -- ---- what is taken for one more

  pub taken-is : (earlier : List Asked) (w : Wanted) → taken_from (so_far files earlier w.path) (own_text files w.path w.content)
      ≡ (text_of files earlier w >>= λ text. Ok (with_parts (parts_in (outcomes files [] earlier)) w.path text))
  taken-is earlier w = by (first_text files w.path earlier) refl (own_text files w.path w.content)
    where
      ps : List Placed
      ps = parts_in (outcomes files [] earlier)

      new : first_text files w.path earlier ≡ None → (text : List ℕ) → new_file text ≡ with_parts ps w.path text
      new none text = ap (λ (qs : List Placed). record { text = text; table = table_of text; parts = map (λ (p : Placed). p.part) qs }) (sym (no-parts w.path earlier none))

      by : (t : Option (List ℕ)) → first_text files w.path earlier ≡ t → (own : Result (List ℕ) SkipCause)
          → taken_from (option_map (with_parts ps w.path) (first_text files w.path earlier)) own ≡ (text_or (first_text files w.path earlier) own >>= λ text. Ok (with_parts ps w.path text))
      by (Some text) e own = rw e refl
      by None e (Ok text) = rw e (ap Ok (new e text))
      by None e (Err cause) = rw e refl

  -- ---- what a step leaves

  pub so_far-skip : (earlier : List Asked) (a : Asked) (cause : SkipCause) → a.wanted >>= placed files earlier ≡ Err cause → (path : List ℕ) → so_far files (earlier ++ a ∷ []) path ≡ so_far files earlier path
  so_far-skip earlier a cause e path =
      let ps : List Placed = parts_in (outcomes files [] earlier) in
      let parts : parts_in (outcomes files [] (earlier ++ a ∷ [])) ≡ ps = parts-snoc earlier a ∙ ap (λ r. ps ++ filter_map (λ (o : Outcome). part_if o.placed) (record { name = a.name; placed = r } ∷ [])) e ∙ append-nil ps in
      let texts : first_text files path (earlier ++ a ∷ []) ≡ first_text files path earlier = text-snoc path earlier a ∙ ap (or_else (first_text files path earlier)) (by a.wanted e) ∙ or_else-none (first_text files path earlier) in
      ap (λ qs. option_map (with_parts qs path) (first_text files path (earlier ++ a ∷ []))) parts ∙ ap (option_map (with_parts ps path)) texts
    where
      own : (w : Wanted) (t : Option (List ℕ)) (r : Result (List ℕ) SkipCause) → (text_or t r >>= λ text. Ok (place w text)) ≡ Err cause → text_if path w.path r ≡ None
      own w None (Ok text) h = absurd cc
      own w None (Err other) h = refl
      own w (Some text) r h = absurd cc

      by : (wanted : Result Wanted SkipCause) → wanted >>= placed files earlier ≡ Err cause → wanted_text files path wanted ≡ None
      by (Err other) h = refl
      by (Ok w) h = own w (first_text files w.path earlier) (own_text files w.path w.content) h

  pub so_far-part : (earlier : List Asked) (a : Asked) (w : Wanted) (text : List ℕ) → a.wanted ≡ Ok w → text_of files earlier w ≡ Ok text → (path : List ℕ)
      → so_far files (earlier ++ a ∷ []) path
      ≡ cond (same_text w.path path) (Some (with_part (with_parts (parts_in (outcomes files [] earlier)) w.path text) (w.part (table_of text)))) (so_far files earlier path)
  so_far-part earlier a w text is good path = by (same_text w.path path) refl
    where
      ps : List Placed
      ps = parts_in (outcomes files [] earlier)

      found : a.wanted >>= placed files earlier ≡ Ok (place w text)
      found = ap (λ r. r >>= placed files earlier) is ∙ ap (λ r. r >>= λ t. Ok (place w t)) good

      parts : parts_in (outcomes files [] (earlier ++ a ∷ [])) ≡ ps ++ place w text ∷ []
      parts = parts-snoc earlier a ∙ ap (λ r. ps ++ filter_map (λ (o : Outcome). part_if o.placed) (record { name = a.name; placed = r } ∷ [])) found

      more : (b : Bool) → same_text w.path path ≡ b → parts_at path (parts_in (outcomes files [] (earlier ++ a ∷ []))) ≡ parts_at path ps ++ cond b (place w text ∷ []) []
      more b e =
          ap (parts_at path) parts ∙ filter-append (λ (p : Placed). same_text p.path path) ps (place w text ∷ [])
          ∙ ap (λ c. parts_at path ps ++ cond c (place w text ∷ []) []) e

      texts : first_text files path (earlier ++ a ∷ []) ≡ or_else (first_text files path earlier) (text_if path w.path (own_text files w.path w.content))
      texts = text-snoc path earlier a ∙ ap (λ r. or_else (first_text files path earlier) (wanted_text files path r)) is

      away : (own : Result (List ℕ) SkipCause) → same_text w.path path ≡ false → text_if path w.path own ≡ None
      away (Ok t) e = rw e refl
      away (Err cause) e = refl

      here : (t : Option (List ℕ)) (own : Result (List ℕ) SkipCause) → same_text w.path path ≡ true → text_or t own ≡ Ok text → or_else t (text_if path w.path own) ≡ Some text
      here None (Ok x) e h = rw e cc
      here None (Err cause) e h = absurd cc
      here (Some x) own e h = cc

      by : (b : Bool) → same_text w.path path ≡ b → so_far files (earlier ++ a ∷ []) path ≡ cond b (Some (with_part (with_parts ps w.path text) (w.part (table_of text)))) (so_far files earlier path)
      by true e =
          let same : w.path ≡ path = same-is w.path path e in
          let now : first_text files path (earlier ++ a ∷ []) ≡ Some text =
          texts ∙ here (first_text files path earlier) (own_text files w.path w.content) e (ap (λ p. text_or (first_text files p earlier) (own_text files w.path w.content)) (sym same) ∙ good) in
          let list : map (λ (p : Placed). p.part) (parts_at path (parts_in (outcomes files [] (earlier ++ a ∷ [])))) ≡ map (λ (p : Placed). p.part) (parts_at w.path ps) ++ w.part (table_of text) ∷ [] =
          ap (map (λ (p : Placed). p.part)) (more true e) ∙ map-append (λ (p : Placed). p.part) (parts_at path ps) (place w text ∷ [])
          ∙ ap (λ q. map (λ (p : Placed). p.part) (parts_at q ps) ++ w.part (table_of text) ∷ []) (sym same) in
          ap (option_map (with_parts (parts_in (outcomes files [] (earlier ++ a ∷ []))) path)) now
          ∙ ap (λ l. Some (record { text = text; table = table_of text; parts = l })) list
      by false e =
          let now : first_text files path (earlier ++ a ∷ []) ≡ first_text files path earlier =
          texts ∙ ap (or_else (first_text files path earlier)) (away (own_text files w.path w.content) e) ∙ or_else-none (first_text files path earlier) in
          ap (option_map (with_parts (parts_in (outcomes files [] (earlier ++ a ∷ []))) path)) now
          ∙ ap (λ qs. option_map (λ text. record { text = text; table = table_of text; parts = map (λ (p : Placed). p.part) qs }) (first_text files path earlier)) (more false e ∙ append-nil (parts_at path ps))

  pub skips-skip : (earlier : List Asked) (a : Asked) (cause : SkipCause) → a.wanted >>= placed files earlier ≡ Err cause
      → skips_in (outcomes files [] (earlier ++ a ∷ [])) ≡ skips_in (outcomes files [] earlier) ++ record { name = a.name; cause = cause } ∷ []
  skips-skip earlier a cause e =
      skips-snoc earlier a ∙ ap (λ r. skips_in (outcomes files [] earlier) ++ filter_map (λ (o : Outcome). skip_if o.name o.placed) (record { name = a.name; placed = r } ∷ [])) e

  pub skips-part : (earlier : List Asked) (a : Asked) (p : Placed) → a.wanted >>= placed files earlier ≡ Ok p → skips_in (outcomes files [] (earlier ++ a ∷ [])) ≡ skips_in (outcomes files [] earlier)
  skips-part earlier a p e =
      skips-snoc earlier a ∙ ap (λ r. skips_in (outcomes files [] earlier) ++ filter_map (λ (o : Outcome). skip_if o.name o.placed) (record { name = a.name; placed = r } ∷ [])) e
      ∙ append-nil (skips_in (outcomes files [] earlier))
