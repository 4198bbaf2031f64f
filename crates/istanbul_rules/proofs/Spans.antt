-- Spans grouped by their sources, and the branches and functions that they make.
use Rattle.std.proofs.Common.{◌≡◌, ℕ, ◌+◌, ◌<◌, Bool, true, false, cond, List, [], ◌∷◌, ◌++◌, length, get_or, take, refl, sym, ap, ◌∙◌, subst, append_assoc}
use Rattle.std.specs.List.{cons_option}
use Rattle.std.specs.Prelude.{map, filter, flat_map, filter_map, Option, None, Some, option_map, option_and_then, ◌==◌, ◌&&◌, nat_lt, if◌then◌else◌}
use Rattle.std.proofs.lemmas.Bool.{eq-eqb, ne_eqb}
use Rattle.std.proofs.lemmas.List.{take_more, append-nil}
use Rattle.std.proofs.lemmas.List.Elements.{filter_map-append, filter-append}
use Rattle.std.proofs.lemmas.Grind.{flat_map-append}
use Rattle.cov_text.specs.Listing.{counted, first_of}
use Rattle.cov_model.specs.declared.report.Range.{Range}
use Rattle.cov_model.specs.declared.report.FunctionReport.{FunctionReport}
use Rattle.utf16_lines.specs.Table.{Table}
use Rattle.istanbul_json.specs.declared.file.Loc.{Loc}
use Rattle.source_maps.specs.declared.map.MapSegment.{MapSegment}
use Rattle.source_remap.specs.declared.OriginalSpan.{OriginalSpan}
use Rattle.source_remap.specs.declared.lines.Landing.{Landing}
use Rattle.source_remap.specs.Groups.{AreBySource}
use Rattle.source_remap.specs.Origins.{landings, original_lines, original_span}
use Rattle.source_remap.specs.Columns.{leftmost_on}
use Rattle.source_remap.proofs.Anchors.{anchors-found}
use Rattle.source_remap.proofs.Grouped.{IsPut, grouped-put, grouped-same}
use Rattle.istanbul_rules.specs.declared.remapped.CountedSpan.{CountedSpan}
use Rattle.istanbul_rules.specs.declared.remapped.NamedSpan.{NamedSpan}
use Rattle.istanbul_rules.specs.Parts.{greatest, count_at, ranges_in_order, mapped_line, mapped_loc, loc_of_span, loc_in_source, branch_of, branches_of, function_of, functions_of, has_name}
use Rattle.istanbul_rules.specs.Remapped.{span_of, span_from, flagged, named_from, branch_in, function_in}

-- ---- one more

one_more : {X : Type 0} (earlier xs : List X) (i : ℕ) (d : X) → i < length xs → (earlier ++ take i xs) ++ get_or xs i d ∷ [] ≡ earlier ++ take (i + 1) xs
one_more earlier xs i d lt = append_assoc earlier (take i xs) (get_or xs i d ∷ []) ∙ ap (λ l. earlier ++ l) (sym (take_more xs i d lt))

module _ {X A : Type 0} (source_of : A → ℕ) (made : X → Option A) where
  -- what is made, if it is of this source
  abbrev pub from : ℕ → X → Option A
  from source x = option_and_then (λ s. if source_of s == source then Some s else None) (made x)

  pub from-put : (earlier xs : List X) (i : ℕ) (d : X) (item : A) (old new : List (List A)) → i < length xs → IsPut old new (source_of item) item → made (get_or xs i d) ≡ Some item
      → AreBySource from (earlier ++ take i xs) old → AreBySource from (earlier ++ take (i + 1) xs) new
  from-put earlier xs i d item old new lt put is so_far =
      let x = get_or xs i d in
      let by : (k : ℕ) → from k x ≡ (if source_of item == k then Some item else None) = λ k. ap (option_and_then (λ s. if source_of s == k then Some s else None)) is in
      subst (λ ys. AreBySource from ys new) (one_more earlier xs i d lt)
      (grouped-put from (earlier ++ take i xs) x (source_of item) item old new put
      (by (source_of item) ∙ ap (λ t. if t then Some item else None) (eq-eqb (source_of item) (source_of item) refl))
      (λ k other. by k ∙ ap (λ t. if t then Some item else None) (ne_eqb (source_of item) k (λ e. other (sym e)))) so_far)

  pub from-same : (earlier xs : List X) (i : ℕ) (d : X) (lists : List (List A)) → i < length xs → made (get_or xs i d) ≡ None
      → AreBySource from (earlier ++ take i xs) lists → AreBySource from (earlier ++ take (i + 1) xs) lists
  from-same earlier xs i d lists lt is so_far =
      subst (λ ys. AreBySource from ys lists) (one_more earlier xs i d lt)
      (grouped-same from (earlier ++ take i xs) (get_or xs i d) lists (λ k. ap (option_and_then (λ s. if source_of s == k then Some s else None)) is) so_far)

-- what a slice's place past the end reads as
abbrev pub no_range : Range
no_range = record { start = 0; end = 0; count = 0 }

-- the ranges of one function more
pub flagged-more : (functions : List FunctionReport) (i : ℕ) (d : FunctionReport) → i < length functions → (get_or functions i d).block ≡ true
    → flagged (take (i + 1) functions) ≡ flagged (take i functions) ++ (get_or functions i d).ranges
flagged-more functions i d lt on =
    let f = get_or functions i d in
    ap flagged (take_more functions i d lt)
    ∙ ap (flat_map (λ (f : FunctionReport). f.ranges)) (filter-append (λ (f : FunctionReport). f.block) (take i functions) (f ∷ []))
    ∙ flat_map-append (λ (f : FunctionReport). f.ranges) (filter (λ (f : FunctionReport). f.block) (take i functions)) (filter (λ (f : FunctionReport). f.block) (f ∷ []))
    ∙ ap (λ t. flagged (take i functions) ++ flat_map (λ (f : FunctionReport). f.ranges) (if t then f ∷ [] else [])) on
    ∙ ap (λ l. flagged (take i functions) ++ l) (append-nil f.ranges)

pub flagged-same : (functions : List FunctionReport) (i : ℕ) (d : FunctionReport) → i < length functions → (get_or functions i d).block ≡ false
    → flagged (take (i + 1) functions) ≡ flagged (take i functions)
flagged-same functions i d lt off =
    let f = get_or functions i d in
    ap flagged (take_more functions i d lt)
    ∙ ap (flat_map (λ (f : FunctionReport). f.ranges)) (filter-append (λ (f : FunctionReport). f.block) (take i functions) (f ∷ []))
    ∙ flat_map-append (λ (f : FunctionReport). f.ranges) (filter (λ (f : FunctionReport). f.block) (take i functions)) (filter (λ (f : FunctionReport). f.block) (f ∷ []))
    ∙ ap (λ t. flagged (take i functions) ++ flat_map (λ (f : FunctionReport). f.ranges) (if t then f ∷ [] else [])) off
    ∙ append-nil (flagged (take i functions))

-- ---- what a source has

made-of-made : {X Y Z : Type 0} (f : Y → Option Z) (g : X → Option Y) (xs : List X) → filter_map f (filter_map g xs) ≡ filter_map (λ x. option_and_then f (g x)) xs
made-of-made f g [] = refl
made-of-made f g (x ∷ xs) =
    let rest = made-of-made f g xs in
    elim (g x) as (λ o. filter_map f (cons_option o (filter_map g xs)) ≡ cons_option (option_and_then f o) (filter_map (λ x. option_and_then f (g x)) xs)) [
      | None ↦ rest
      | Some y ↦ ap (cons_option (f y)) rest
    ]

passed : {X Y : Type 0} (p : X → Bool) (f : X → Option Y) (xs : List X) → filter_map (λ x. if p x then f x else None) xs ≡ filter_map f (filter p xs)
passed p f [] = refl
passed p f (x ∷ xs) =
    let rest = passed p f xs in
    elim (p x) as (λ t. cons_option (if t then f x else None) (filter_map (λ x. if p x then f x else None) xs) ≡ filter_map f (cond t (x ∷ filter p xs) (filter p xs))) [
      | true ↦ ap (cons_option (f x)) rest
      | false ↦ rest
    ]

made-in-lists : {X Y F : Type 0} (f : X → Option Y) (list : F → List X) (fs : List F) → filter_map f (flat_map list fs) ≡ flat_map (λ x. filter_map f (list x)) fs
made-in-lists f list [] = refl
made-in-lists f list (x ∷ fs) = filter_map-append f (list x) (flat_map list fs) ∙ ap (λ l. filter_map f (list x) ++ l) (made-in-lists f list fs)

-- what is made of a span of this source is made of it in the source, and there is none in another source
located : {A B : Type 0} (table : Table) (source : ℕ) (s : OriginalSpan) (a : A) (f : A → Option B) (make : Loc → B) → f a ≡ option_map make (loc_in_source table source s)
    → (t : Bool) → (s.source == source) ≡ t → option_and_then f (if t then Some a else None) ≡ option_map make (loc_in_source table source s)
located table source s a f make is true e = is
located table source s a f make is false e =
    sym (ap (λ t. option_map make (if t && (nat_lt s.first.line (length table.spans) && nat_lt s.last.line (length table.spans)) then Some (loc_of_span table s) else None)) e)

-- a range's branch
branch-is : (table generated : Table) (segments : List MapSegment) (source : ℕ) (r : Range)
    → option_and_then (branch_in table source) (span_from generated segments source r) ≡ branch_of (mapped_loc table generated segments source) r
unfolding mapped_loc
branch-is table generated segments source r = by (original_span segments generated r.start r.end)
  where
    by : (o : Option OriginalSpan)
        → option_and_then (branch_in table source) (option_and_then (λ (s : CountedSpan). if s.span.source == source then Some s else None) (option_map (λ span. record { span = span; count = r.count }) o))
        ≡ option_map (λ loc. record { loc = loc; count = r.count }) (option_and_then (loc_in_source table source) o)
    by None = refl
    by (Some s) =
        located table source s (record { span = s; count = r.count }) (branch_in table source) (λ loc. record { loc = loc; count = r.count }) refl (s.source == source) refl

pub branches-are : (table generated : Table) (segments : List MapSegment) (source : ℕ) (functions : List FunctionReport)
    → filter_map (branch_in table source) (filter_map (span_from generated segments source) (flagged functions)) ≡ branches_of (mapped_loc table generated segments source) functions
branches-are table generated segments source functions =
    made-of-made (branch_in table source) (span_from generated segments source) (flagged functions)
    ∙ ap (λ f. filter_map f (flagged functions)) (λ i r. branch-is table generated segments source r i)
    ∙ made-in-lists (branch_of (mapped_loc table generated segments source)) (λ (f : FunctionReport). f.ranges) (filter (λ (f : FunctionReport). f.block) functions)

-- a function
function-is : (table generated : Table) (segments : List MapSegment) (source : ℕ) (f : FunctionReport)
    → option_and_then (function_in table source) (named_from generated segments source f) ≡ (if has_name f then function_of (mapped_loc table generated segments source) f else None)
unfolding mapped_loc
function-is table generated segments source f =
    elim (has_name f) as (λ t.
    option_and_then (function_in table source) (option_and_then (λ (n : NamedSpan). if n.root.span.source == source then Some n else None)
    (if t then option_map (λ root. record { name = f.name; root = root }) (option_and_then (span_of generated segments) (first_of f.ranges)) else None))
    ≡ (if t then function_of (mapped_loc table generated segments source) f else None)) [
      | true ↦ by (first_of f.ranges)
      | false ↦ refl
    ]
  where
    at : (root : Range) (o : Option OriginalSpan)
        → option_and_then (function_in table source) (option_and_then (λ (n : NamedSpan). if n.root.span.source == source then Some n else None)
        (option_map (λ root. record { name = f.name; root = root }) (option_map (λ span. record { span = span; count = root.count }) o)))
        ≡ option_map (λ loc. record { name = f.name; loc = loc; count = root.count }) (option_and_then (loc_in_source table source) o)
    at root None = refl
    at root (Some s) =
        located table source s (record { name = f.name; root = record { span = s; count = root.count } }) (function_in table source)
        (λ loc. record { name = f.name; loc = loc; count = root.count }) refl (s.source == source) refl

    by : (r : Option Range)
        → option_and_then (function_in table source) (option_and_then (λ (n : NamedSpan). if n.root.span.source == source then Some n else None)
        (option_map (λ root. record { name = f.name; root = root }) (option_and_then (span_of generated segments) r)))
        ≡ option_and_then (λ root. option_map (λ loc. record { name = f.name; loc = loc; count = root.count }) (mapped_loc table generated segments source root)) r
    by None = refl
    by (Some root) = at root (original_span segments generated root.start root.end)

pub functions-are : (table generated : Table) (segments : List MapSegment) (source : ℕ) (functions : List FunctionReport)
    → filter_map (function_in table source) (filter_map (named_from generated segments source) functions) ≡ functions_of (mapped_loc table generated segments source) functions
functions-are table generated segments source functions =
    made-of-made (function_in table source) (named_from generated segments source) functions
    ∙ ap (λ f. filter_map f functions) (λ i f. function-is table generated segments source f i)
    ∙ passed has_name (function_of (mapped_loc table generated segments source)) functions

pub lines-are : (generated : Table) (segments : List MapSegment) (source n : ℕ) (functions : List FunctionReport) (ls : List Landing) → ls ≡ landings segments source generated
    → map (λ places. greatest (map (count_at (ranges_in_order functions)) places)) (map (leftmost_on ls) (counted 0 n))
    ≡ map (mapped_line (ranges_in_order functions)) (original_lines segments source generated n)
unfolding mapped_line
lines-are generated segments source n functions ls is =
    ap (map (λ places. greatest (map (count_at (ranges_in_order functions)) places))) (anchors-found segments source generated n ls is)
