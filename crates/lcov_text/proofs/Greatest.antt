-- A map that takes in statement by statement has each line with its greatest count.
use Rattle.std.proofs.Common.{◌≡◌, ℕ, Bool, true, false, cond, Option, Some, None, List, [], ◌∷◌, map, refl, sym, ap, ◌∙◌, subst, arith}
use Rattle.std.specs.Prelude.{max, filter, filter_map, fold, unwrap_or, option_map, ◌==◌, ◌||◌}
use Rattle.std.specs.List.{AllByRecursion, list_any, cons_option}
use Rattle.std.specs.List.Sorted.{IsStrictlySortedBy}
use Rattle.std.specs.Map.{lookup}
use Rattle.std.specs.BTreeSet.{insert_key}
use Rattle.std.specs.BTreeMap.{insert_entry, is_at}
use Rattle.std.specs.declared.cmp.Ordering.{Ordering}
use Rattle.std.specs.declared.cmp.Ordering.TheVariants.{Less, Equal, Greater}
use Rattle.std.specs.Ordering.{nat_cmp, is_eq, match_ordering, ordering_reverse}
use Rattle.std.proofs.lemmas.Bool.Decides.{nat_tests}
use Rattle.std.proofs.lemmas.Cmp.{nat_cmp_total}
use Rattle.std.proofs.lemmas.Map.Lookups.{exact_unsigned}
use Rattle.std.proofs.lemmas.Bool.{or_parts}
use Rattle.cov_text.specs.Listing.{inserted}
use Rattle.istanbul_json.specs.declared.file.Statement.{Statement}
use Rattle.istanbul_json.specs.declared.file.FileParts.{FileParts}
use Rattle.lcov_text.specs.Counts.{starts_on, line_counts}
use Rattle.lcov_text.specs.Counting.{line_count, known_count, with_line, with_statements}

-- each line with a number
abbrev pairs : (ℕ → ℕ) → List ℕ → List (ℕ × ℕ)
pairs f lines = map (λ line. (line, f line)) lines

abbrev has : ℕ → List ℕ → Bool
has line lines = list_any (is_at (nat_cmp line)) lines

-- a line that isn't there has 0
abbrev Ends : (ℕ → ℕ) → List ℕ → Type 0
Ends f lines = (line : ℕ) → has line lines ≡ false → f line ≡ 0

-- f, with a count taken in on a line
abbrev raised : ℕ → ℕ → (ℕ → ℕ) → ℕ → ℕ
raised line count f q = cond (line == q) (max (f q) count) (f q)

-- ---- tests

equal_is : (a b : ℕ) → nat_cmp a b ≡ Equal → a ≡ b
equal_is a b e = exact_unsigned a b e

less_apart : (a b : ℕ) → nat_cmp a b ≡ Less → (a == b) ≡ false
less_apart a b e = grind (arith, nat_tests)

greater_apart : (a b : ℕ) → nat_cmp a b ≡ Greater → (a == b) ≡ false
greater_apart a b e = grind (arith, nat_tests)

itself : (a : ℕ) → (a == a) ≡ true
itself a = grind (arith, nat_tests)

apart : (a b : ℕ) → is_at (nat_cmp b) a ≡ false → (a == b) ≡ false
apart a b e = grind (arith, nat_tests)

-- ---- what is known of a line

known : (f : ℕ → ℕ) (line : ℕ) (lines : List ℕ) → (has line lines ≡ false → f line ≡ 0) → known_count (pairs f lines) line ≡ f line
known f line [] ends = sym (ends refl)
known f line (k ∷ ks) ends = by (nat_cmp line k) refl ends (known f line ks)
  where
    by : (o : Ordering) → nat_cmp line k ≡ o → ((is_eq o || has line ks) ≡ false → f line ≡ 0) → ((has line ks ≡ false → f line ≡ 0) → known_count (pairs f ks) line ≡ f line)
        → unwrap_or (cond (is_eq o) (Some (f k)) (lookup (is_at (nat_cmp line)) (pairs f ks))) 0 ≡ f line
    by Less e h rest = rest h
    by Equal e h rest = ap f (sym (equal_is line k e))
    by Greater e h rest = rest h

-- ---- a rising list of lines with one more

All_insert : (P : ℕ → Type 0) (xs : List ℕ) (x : ℕ) → AllByRecursion P xs → P x → AllByRecursion P (insert_key nat_cmp xs x)
All_insert P [] x h p = (p, tt)
All_insert P (y ∷ ys) x h p =
    elim (nat_cmp x y) as (λ o. AllByRecursion P (match_ordering o (x ∷ y ∷ ys) (y ∷ ys) (y ∷ insert_key nat_cmp ys x))) [
      | Less ↦ (p, h)
      | Equal ↦ h
      | Greater ↦ (h.0, All_insert P ys x h.1 p)
    ]

above : (x y : ℕ) (ys : List ℕ) → nat_cmp x y ≡ Less → AllByRecursion (λ z. nat_cmp y z ≡ Less) ys → AllByRecursion (λ z. nat_cmp x z ≡ Less) ys
above x y [] lt h = tt
above x y (z ∷ zs) lt h = (nat_cmp_total.trans x y z lt h.0, above x y zs lt h.1)

sorted_insert : (xs : List ℕ) (x : ℕ) → IsStrictlySortedBy nat_cmp xs → IsStrictlySortedBy nat_cmp (insert_key nat_cmp xs x)
unfolding IsStrictlySortedBy
sorted_insert [] x h = (tt, tt)
sorted_insert (y ∷ ys) x h = by (nat_cmp x y) refl (sorted_insert ys x h.1)
  where
    by : (o : Ordering) → nat_cmp x y ≡ o → IsStrictlySortedBy nat_cmp (insert_key nat_cmp ys x) → IsStrictlySortedBy nat_cmp (match_ordering o (x ∷ y ∷ ys) (y ∷ ys) (y ∷ insert_key nat_cmp ys x))
    by Less e rest = ((e, above x y ys e h.0), h)
    by Equal e rest = h
    by Greater e rest = (All_insert (λ z. nat_cmp y z ≡ Less) ys x h.0 (nat_cmp_total.antisymm y x ∙ ap ordering_reverse e), rest)

-- what is there after an insert was there before, or is what was inserted
still_apart : (q x : ℕ) (xs : List ℕ) → has q (insert_key nat_cmp xs x) ≡ false → (is_at (nat_cmp q) x ≡ false) × (has q xs ≡ false)
still_apart q x [] e = or_parts (is_at (nat_cmp q) x) false e
still_apart q x (y ∷ ys) e = by (nat_cmp x y) refl e (still_apart q x ys)
  where
    by : (o : Ordering) → nat_cmp x y ≡ o → has q (match_ordering o (x ∷ y ∷ ys) (y ∷ ys) (y ∷ insert_key nat_cmp ys x)) ≡ false
        → (has q (insert_key nat_cmp ys x) ≡ false → (is_at (nat_cmp q) x ≡ false) × (has q ys ≡ false)) → (is_at (nat_cmp q) x ≡ false) × (has q (y ∷ ys) ≡ false)
    by Less c h rest = or_parts (is_at (nat_cmp q) x) (has q (y ∷ ys)) h
    by Equal c h rest = (ap (is_at (nat_cmp q)) (equal_is x y c) ∙ (or_parts (is_at (nat_cmp q) y) (has q ys) h).0, h)
    by Greater c h rest =
        let p = or_parts (is_at (nat_cmp q) y) (has q (insert_key nat_cmp ys x)) h in
        let r = rest p.1 in
        (r.0, ap (λ b. b || has q ys) p.0 ∙ r.1)

ends_raised : (line count : ℕ) (f : ℕ → ℕ) (lines : List ℕ) → Ends f lines → Ends (raised line count f) (insert_key nat_cmp lines line)
ends_raised line count f lines ends q e =
    let p = still_apart q line lines e in
    ap (λ b. cond b (max (f q) count) (f q)) (apart line q p.0) ∙ ends q p.1

-- lines above the raised one keep their numbers
keeps : (line count : ℕ) (f : ℕ → ℕ) (lines : List ℕ) → AllByRecursion (λ k. nat_cmp line k ≡ Less) lines → pairs f lines ≡ pairs (raised line count f) lines
keeps line count f [] h = refl
keeps line count f (k ∷ ks) h =
    ap (λ n. (k, n) ∷ pairs f ks) (sym (ap (λ b. cond b (max (f k) count) (f k)) (less_apart line k h.0)))
    ∙ ap (λ rest. (k, raised line count f k) ∷ rest) (keeps line count f ks h.1)

moved : (line k : ℕ) (ks : List ℕ) → line ≡ k → AllByRecursion (λ z. nat_cmp k z ≡ Less) ks → AllByRecursion (λ z. nat_cmp line z ≡ Less) ks
moved line k ks same all = subst (λ n. AllByRecursion (λ z. nat_cmp n z ≡ Less) ks) (sym same) all

inserts : (line count : ℕ) (f : ℕ → ℕ) (lines : List ℕ) → IsStrictlySortedBy nat_cmp lines
    → insert_entry nat_cmp (pairs f lines) line (max (f line) count) ≡ pairs (raised line count f) (insert_key nat_cmp lines line)
unfolding IsStrictlySortedBy
inserts line count f [] h = ap (λ n. (line, n) ∷ []) (sym (ap (λ b. cond b (max (f line) count) (f line)) (itself line)))
inserts line count f (k ∷ ks) h = by (nat_cmp line k) refl (inserts line count f ks h.1)
  where
    here : max (f line) count ≡ raised line count f line
    here = sym (ap (λ b. cond b (max (f line) count) (f line)) (itself line))

    by : (o : Ordering) → nat_cmp line k ≡ o → insert_entry nat_cmp (pairs f ks) line (max (f line) count) ≡ pairs (raised line count f) (insert_key nat_cmp ks line)
        → match_ordering o ((line, max (f line) count) ∷ (k, f k) ∷ pairs f ks) ((k, max (f line) count) ∷ pairs f ks) ((k, f k) ∷ insert_entry nat_cmp (pairs f ks) line (max (f line) count))
        ≡ pairs (raised line count f) (match_ordering o (line ∷ k ∷ ks) (k ∷ ks) (k ∷ insert_key nat_cmp ks line))
    by Less e rest =
        ap (λ n. (line, n) ∷ (k, f k) ∷ pairs f ks) here
        ∙ ap (λ rest. (line, raised line count f line) ∷ rest) (keeps line count f (k ∷ ks) (e, above line k ks e h.0))
    by Equal e rest =
        ap (λ n. (k, n) ∷ pairs f ks) (here ∙ ap (raised line count f) (equal_is line k e))
        ∙ ap (λ rest. (k, raised line count f k) ∷ rest) (keeps line count f ks (moved line k ks (equal_is line k e) h.0))
    by Greater e rest =
        ap (λ n. (k, n) ∷ insert_entry nat_cmp (pairs f ks) line (max (f line) count)) (sym (ap (λ b. cond b (max (f k) count) (f k)) (greater_apart line k e)))
        ∙ ap (λ rest. (k, raised line count f k) ∷ rest) rest

-- ---- statement by statement

-- the greatest of a number and the counts on a line
abbrev greatest : (ℕ → ℕ) → List Statement → ℕ → ℕ
greatest f statements line = fold max (f line) (map (λ s. s.count) (filter (starts_on line) statements))

abbrev starts : List Statement → List ℕ
starts statements = filter_map (λ s. s.loc.start.line) statements

abbrev on : Option ℕ → ℕ → Bool
on start line = unwrap_or (option_map (λ n. n == line) start) false

-- the greatest with one more statement, by whether it starts there
one_more : (b : Bool) (n : ℕ) (s : Statement) (ss : List Statement) → fold max (cond b (max n s.count) n) (map (λ s. s.count) ss) ≡ fold max n (map (λ s. s.count) (cond b (s ∷ ss) ss))
one_more true n s ss = refl
one_more false n s ss = refl

gathered : (statements : List Statement) (f : ℕ → ℕ) (lines : List ℕ) → IsStrictlySortedBy nat_cmp lines → Ends f lines
    → with_statements (pairs f lines) statements ≡ pairs (greatest f statements) (inserted nat_cmp lines (starts statements))
gathered [] f lines sorted ends = refl
gathered (s ∷ ss) f lines sorted ends = by s.loc.start.line (gathered ss)
  where
    by : (start : Option ℕ)
        → ((g : ℕ → ℕ) (ks : List ℕ) → IsStrictlySortedBy nat_cmp ks → Ends g ks → with_statements (pairs g ks) ss ≡ pairs (greatest g ss) (inserted nat_cmp ks (starts ss)))
        → with_statements (with_line (pairs f lines) start s.count) ss
        ≡ pairs (λ line. fold max (f line) (map (λ s. s.count) (cond (on start line) (s ∷ filter (starts_on line) ss) (filter (starts_on line) ss)))) (inserted nat_cmp lines (cons_option start (starts ss)))
    by None rest = rest f lines sorted ends
    by (Some line) rest =
        ap (λ n. with_statements (insert_entry nat_cmp (pairs f lines) line (max n s.count)) ss) (known f line lines (ends line))
        ∙ ap (λ es. with_statements es ss) (inserts line s.count f lines sorted)
        ∙ rest (raised line s.count f) (insert_key nat_cmp lines line) (sorted_insert lines line sorted) (ends_raised line s.count f lines ends)
        ∙ (λ i. pairs (λ q. one_more (line == q) (f q) s (filter (starts_on q) ss) i) (inserted nat_cmp lines (line ∷ starts ss)))

as_counts : (f : ℕ → ℕ) (lines : List ℕ) → map (λ (e : ℕ × ℕ). line_count e.0 e.1) (pairs f lines) ≡ map (λ line. line_count line (f line)) lines
as_counts f [] = refl
as_counts f (k ∷ ks) = ap (λ rest. line_count k (f k) ∷ rest) (as_counts f ks)

-- the lines of a file
pub lines_gathered : (f : FileParts) → map (λ (e : ℕ × ℕ). line_count e.0 e.1) (with_statements [] f.statements) ≡ line_counts f
unfolding line_counts IsStrictlySortedBy
lines_gathered f =
    ap (map (λ (e : ℕ × ℕ). line_count e.0 e.1)) (gathered f.statements (λ line. 0) [] tt (λ line e. refl))
    ∙ as_counts (greatest (λ line. 0) f.statements) (inserted nat_cmp [] (starts f.statements))
