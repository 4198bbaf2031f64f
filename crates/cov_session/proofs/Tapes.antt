-- Snapshots that are added in order, one after the other: the first fault is absent exactly where the sums of all fit, and
-- those of a part fit then too.
use Rattle.std.proofs.Common.{◌≡◌, ℕ, ◌-◌, ◌≤◌, Bool, true, List, [], ◌∷◌, ◌++◌, map, take, drop, refl, sym, ap, ◌∙◌, arith, append_assoc, append-nil}
use Rattle.std.specs.Prelude.{Option, None, Some, is_none, nat_le, flat_map}
use Rattle.std.specs.List.{list_all}
use Rattle.std.proofs.lemmas.Bool.Decides.{nat_tests}
use Rattle.std.proofs.lemmas.List.{take-append-drop}
use Rattle.std.proofs.lemmas.List.Folds.{list_all-append, list_all-map}
use Rattle.std.proofs.lemmas.Bool.{and_from}
use Rattle.cov_text.specs.Listing.{limit}
use Rattle.cov_model.specs.declared.snapshot.Snapshot.{Snapshot}
use Rattle.cov_model.specs.declared.sums.Key.{Key}
use Rattle.cov_model.specs.declared.sums.At.{At}
use Rattle.cov_model.specs.declared.sums.SumFault.{SumFault}
use Rattle.cov_model.specs.Nesting.{or_else}
use Rattle.cov_model.specs.Sums.{sum_at, points, keys_in_order, fits, sum_fault}
use Rattle.cov_model.proofs.Examples.{cov_on_literals}
use Rattle.cov_model.proofs.Fits.{joins_where_it_fits}
use Rattle.cov_model.proofs.Grows.{is_within_limit, fits-each, sum_at-append}
use Rattle.cov_text.proofs.Bools.{all-more}
use Rattle.cov_book.specs.declared.book.AddFault.{AddFault}
use Rattle.cov_book.specs.declared.book.AddFault.TheVariants.{Sum, NoMemory}
use Rattle.cov_book.specs.Stands.{TellsSum}
use Rattle.cov_session.specs.Machine.{frames}
use Rattle.cov_session.specs.Merging.{fault_over, tape_fault}

-- ---- one more snapshot

pub one_added : (held now left : List Snapshot) (s : Snapshot) (ss : List Snapshot) (all : Option SumFault)
    → left ≡ s ∷ ss → now ≡ held ++ s ∷ [] → sum_fault held s ≡ None → fault_over held left ≡ all → fault_over now ss ≡ all
one_added held now left s ss all here grown fits so_far =
    ap (λ xs. fault_over xs ss) grown ∙ ap (λ o. or_else o (fault_over (held ++ s ∷ []) ss)) (sym fits) ∙ ap (fault_over held) (sym here) ∙ so_far

pub one_refused : (fault : AddFault) (held left : List Snapshot) (s : Snapshot) (ss : List Snapshot) (all : Option SumFault)
    → left ≡ s ∷ ss → fault_over held left ≡ all → TellsSum (sum_fault held s) fault → TellsSum all fault
one_refused NoMemory held left s ss all here so_far told = told
one_refused (Sum found) held left s ss all here so_far told =
    sym so_far ∙ ap (fault_over held) here ∙ ap (λ o. or_else o (fault_over (held ++ s ∷ []) ss)) told

-- ---- a part of what fits, fits

less-within : (m n : ℕ) → m ≤ n → nat_le n limit ≡ true → nat_le m limit ≡ true
less-within m n le e = grind (arith, nat_tests)

within-part : (before part behind : List Snapshot) (key : Key) → is_within_limit ((before ++ part) ++ behind) key ≡ true → is_within_limit part key ≡ true
within-part before part behind key h =
    let all = (before ++ part) ++ behind in
    all-more (λ (at : At). nat_le (sum_at all key at) limit) (λ (at : At). nat_le (sum_at part key at) limit)
    (λ at e. less-within (sum_at part key at) (sum_at all key at) (omega (arith, sum_at-append (before ++ part) behind key at, sum_at-append before part key at)) e)
    (points key) h

abbrev is-within : List Snapshot → Key × At → Bool
is-within snapshots at = nat_le (sum_at snapshots at.0 at.1) limit

each-within : (snapshots : List Snapshot) → ((key : Key) → is_within_limit snapshots key ≡ true)
    → (keys : List Key) → list_all (is-within snapshots) (flat_map (λ (key : Key). map (λ (point : At). (key, point)) (points key)) keys) ≡ true
each-within snapshots h [] = refl
each-within snapshots h (key ∷ keys) =
    let here : List (Key × At) = map (λ (point : At). (key, point)) (points key) in
    let rest : List (Key × At) = flat_map (λ (key : Key). map (λ (point : At). (key, point)) (points key)) keys in
    list_all-append (is-within snapshots) here rest
    ∙ and_from (list_all (is-within snapshots) here) (list_all (is-within snapshots) rest) (list_all-map (is-within snapshots) (λ (point : At). (key, point)) (points key) ∙ h key) (each-within snapshots h keys)

part-fits : (before part behind : List Snapshot) → fits ((before ++ part) ++ behind) ≡ true → fits part ≡ true
unfolding fits
part-fits before part behind h =
    each-within part (λ key. within-part before part behind key (fits-each ((before ++ part) ++ behind) h key)) (keys_in_order part)

pub frames_fit : (tape : List Snapshot) (since played : ℕ) → fits tape ≡ true → fits (frames tape since played) ≡ true
frames_fit tape since played h =
    let left = drop since tape in
    let n = played - since in
    part-fits (take since tape) (take n left) (drop n left)
    (ap fits (append_assoc (take since tape) (take n left) (drop n left) ∙ ap (λ xs. take since tape ++ xs) (take-append-drop n left) ∙ take-append-drop since tape) ∙ h)

-- ---- there is no fault exactly where all fit

none_is : {A : Type 0} (x : Option A) → is_none x ≡ true → x ≡ None
none_is None e = refl
none_is (Some x) e = absurd cc

neither : {A : Type 0} (x y : Option A) → or_else x y ≡ None → (x ≡ None) × (y ≡ None)
neither None y e = (refl, e)
neither (Some x) y e = absurd cc

fits_over : (held left : List Snapshot) → fits held ≡ true → fault_over held left ≡ None → fits (held ++ left) ≡ true
fits_over held [] h e = ap fits (append-nil held) ∙ h
fits_over held (s ∷ ss) h e =
    let both = neither (sum_fault held s) (fault_over (held ++ s ∷ []) ss) e in
    let more = sym (joins_where_it_fits held s) ∙ ap is_none both.0 in
    ap fits (sym (append_assoc held (s ∷ []) ss)) ∙ fits_over (held ++ s ∷ []) ss more both.1

over_fits : (held left : List Snapshot) → fits (held ++ left) ≡ true → fault_over held left ≡ None
over_fits held [] h = refl
over_fits held (s ∷ ss) h =
    let all : fits ((held ++ s ∷ []) ++ ss) ≡ true = ap fits (append_assoc held (s ∷ []) ss) ∙ h in
    let none = none_is (sum_fault held s) (joins_where_it_fits held s ∙ part-fits [] (held ++ s ∷ []) ss all) in
    ap (λ o. or_else o (fault_over (held ++ s ∷ []) ss)) none ∙ over_fits (held ++ s ∷ []) ss all

nothing_fits : fits [] ≡ true
unfolding cov_on_literals
nothing_fits = refl

pub fits_where_faultless : (tape : List Snapshot) → tape_fault tape ≡ None → fits tape ≡ true
fits_where_faultless tape e = fits_over [] tape nothing_fits e

pub never_past : (tape : List Snapshot) (found : SumFault) → fits tape ≡ true → tape_fault tape ≡ Some found → ⊥
never_past tape found h e = cc (over_fits [] tape h, e)
