-- Ranges whose counts are cut to at most 1 nest as before, and count at each offset what was counted there, cut.
use Rattle.std.proofs.Common.{◌≡◌, ℕ, ◌+◌, Bool, true, false, List, [], ◌∷◌, ◌++◌, map, min, length, refl, sym, ap, ◌∙◌}
use Rattle.std.specs.Prelude.{Option, None, Some, option_map, unwrap_or, nat_le, nat_lt, cond, filter, not, position}
use Rattle.std.specs.List.{position_or_len}
use Rattle.std.proofs.lemmas.List.{map-append, length-map}
use Rattle.std.proofs.lemmas.List.Folds.{list_all-map}
use Rattle.cov_model.specs.declared.report.Range.{Range}
use Rattle.cov_model.specs.declared.report.RangeFault.TheVariants.{Inverted, Outside, Crossing}
use Rattle.cov_text.specs.Listing.{last_of}
use Rattle.cov_model.specs.Nesting.{size, has_offset, is_within, crosses, around, is_shortest, innermost, inner, inner_count, fault_at, fault_from, or_else, range_fault}
use Rattle.cov_model.specs.Nested.{nested}
use Rattle.cov_model.specs.declared.report.ListForm.TheVariants.{Nested}
use Rattle.cov_steps.specs.Runs.{RunList, counted, count_in}
use Rattle.cov_steps.proofs.Maximal.{count_in-maximal}
use Rattle.cov_normal.proofs.Forms.{counts_determine_it}
use Rattle.cov_session.specs.View.{at_most_one, cut}

cond-map : {A B : Type 0} (h : A → B) (b : Bool) (x : A) (xs : List A) (ys : List B) → ys ≡ map h xs → cond b (h x ∷ ys) ys ≡ map h (cond b (x ∷ xs) xs)
cond-map h true x xs ys e = ap (λ zs. h x ∷ zs) e
cond-map h false x xs ys e = e

filter-map : {A B : Type 0} (h : A → B) (p : B → Bool) (q : A → Bool) → ((x : A) → p (h x) ≡ q x) → (xs : List A) → filter p (map h xs) ≡ map h (filter q xs)
filter-map h p q e [] = refl
filter-map h p q e (x ∷ xs) =
    ap (λ b. cond b (h x ∷ filter p (map h xs)) (filter p (map h xs))) (e x) ∙ cond-map h (q x) x (filter q xs) (filter p (map h xs)) (filter-map h p q e xs)

last-map : {A B : Type 0} (h : A → B) (xs : List A) → last_of (map h xs) ≡ option_map h (last_of xs)
last-map h [] = refl
last-map h (x ∷ []) = refl
last-map h (x ∷ y ∷ ys) = last-map h (y ∷ ys)

place-map : {A B : Type 0} (h : A → B) (p : B → Bool) (xs : List A) → position_or_len p (map h xs) ≡ position_or_len (λ x. p (h x)) xs
place-map h p [] = refl
place-map h p (x ∷ xs) = ap (λ n. cond (not (p (h x))) (1 + n) 0) (place-map h p xs)

position-map : {A B : Type 0} (h : A → B) (p : B → Bool) (xs : List A) → position p (map h xs) ≡ position (λ x. p (h x)) xs
position-map h p xs = let e = place-map h p xs in λ i. cond (nat_lt (e i) (length-map xs h i)) (Some (e i)) None

-- ---- what counts at an offset

shortest-cut : (others : List Range) (r : Range) → is_shortest (map at_most_one others) (at_most_one r) ≡ is_shortest others r
shortest-cut others r = list_all-map (λ (other : Range). nat_le (size r) (size other)) at_most_one others

innermost-cut : (ranges : List Range) (o : ℕ) → innermost (map at_most_one ranges) o ≡ option_map at_most_one (innermost ranges o)
innermost-cut ranges o =
    ap (λ xs. last_of (filter (is_shortest xs) xs)) (filter-map at_most_one (has_offset o) (has_offset o) (λ x. refl) ranges)
    ∙ ap last_of (filter-map at_most_one (is_shortest (map at_most_one (around ranges o))) (is_shortest (around ranges o)) (shortest-cut (around ranges o)) (around ranges o))
    ∙ last-map at_most_one (filter (is_shortest (around ranges o)) (around ranges o))

count-cut : (x : Option Range) → unwrap_or (option_map (λ r. r.count) (option_map at_most_one x)) 0 ≡ min (unwrap_or (option_map (λ r. r.count) x) 0) 1
count-cut None = refl
count-cut (Some r) = refl

pub inner-cut : (ranges : List Range) (o : ℕ) → inner_count (map at_most_one ranges) o ≡ min (inner_count ranges o) 1
unfolding inner
inner-cut ranges o = ap (λ x. unwrap_or (option_map (λ (r : Range). r.count) x) 0) (innermost-cut ranges o) ∙ count-cut (innermost ranges o)

-- ---- they nest

fault_at-cut : (root : Range) (earlier : List Range) (r : Range) → fault_at (at_most_one root) (map at_most_one earlier) (length (map at_most_one earlier)) (at_most_one r) ≡ fault_at root earlier (length earlier) r
fault_at-cut root earlier r =
    let n = length-map earlier at_most_one in
    let p = position-map at_most_one (crosses (at_most_one r)) earlier in
    λ i. cond (nat_lt r.end r.start) (Some (Inverted (n i))) (cond (is_within root r) (option_map (λ other. Crossing (n i) other) (p i)) (Some (Outside (n i))))

fault_from-cut : (root : Range) (earlier rest : List Range) → fault_from (at_most_one root) (map at_most_one earlier) (map at_most_one rest) ≡ fault_from root earlier rest
fault_from-cut root earlier [] = refl
fault_from-cut root earlier (r ∷ rest) =
    (λ i. or_else (fault_at-cut root earlier r i) (fault_from (at_most_one root) (sym (map-append at_most_one earlier (r ∷ [])) i) (map at_most_one rest)))
    ∙ ap (or_else (fault_at root earlier (length earlier) r)) (fault_from-cut root (earlier ++ r ∷ []) rest)

pub fault_cut : (ranges : List Range) → range_fault (map at_most_one ranges) ≡ range_fault ranges
unfolding range_fault
fault_cut [] = refl
fault_cut (root ∷ rest) = fault_from-cut root [] (root ∷ rest)

-- ---- the list of the cut counts, as the code makes it

pub starts_there : (ranges rest : List Range) (root : Range) (runs : RunList) → ranges ≡ root ∷ rest → runs ≡ counted (map at_most_one ranges) → runs.start ≡ root.start
starts_there ranges rest root runs is e = ap (λ (x : RunList). x.start) (e ∙ ap (λ xs. counted (map at_most_one xs)) is)

pub ends_there : (ranges rest : List Range) (root : Range) (runs : RunList) → ranges ≡ root ∷ rest → runs ≡ counted (map at_most_one ranges) → runs.end ≡ root.end
ends_there ranges rest root runs is e = ap (λ (x : RunList). x.end) (e ∙ ap (λ xs. counted (map at_most_one xs)) is)

its-cut : (root : Range) (rest : List Range) → nested root.start root.end (min root.count 1) (count_in (counted (map at_most_one (root ∷ rest))).runs) ≡ cut (root ∷ rest)
its-cut root rest =
    let ranges = root ∷ rest in
    counts_determine_it Nested root.start root.end (min root.count 1) (count_in (counted (map at_most_one ranges)).runs) (λ o. min (inner_count ranges o) 1)
    (λ o low high. count_in-maximal root.start root.end o (inner_count (map at_most_one ranges)) low high ∙ inner-cut ranges o)

pub cut_list : (ranges rest : List Range) (root : Range) (runs : RunList) → ranges ≡ root ∷ rest → runs ≡ counted (map at_most_one ranges)
    → nested root.start root.end (min root.count 1) (count_in runs.runs) ≡ cut ranges
cut_list ranges rest root runs is e =
    ap (λ (x : RunList). nested root.start root.end (min root.count 1) (count_in x.runs)) (e ∙ ap (λ xs. counted (map at_most_one xs)) is)
    ∙ its-cut root rest ∙ ap cut (sym is)
