-- The walk over ranges in V8's order with those that are still open, each in the one before.
use Rattle.std.proofs.Common.{◌≡◌, ℕ, zero, suc, ◌+◌, ◌-◌, ◌<◌, Bool, true, false, List, [], ◌∷◌, ◌++◌, refl, sym, ap, ◌∙◌, subst, arith, length, take, drop, get_or}
use Rattle.std.proofs.Math.Bool.{and-true, and-false, or-false}
use Rattle.std.specs.Prelude.{Option, None, Some, option_to_list, ◌&&◌, ◌||◌, nat_le, cond, filter, slice_get}
use Rattle.std.specs.Option.{MatchOption}
use Rattle.std.specs.List.{list_all, list_any}
use Rattle.std.proofs.lemmas.Bool.Decides.{nat_tests}
use Rattle.std.proofs.lemmas.List.{append-nil, drop_more}
use Rattle.std.proofs.lemmas.List.Elements.{filter-append}
use Rattle.std.proofs.lemmas.List.Folds.{list_all-append}
use Rattle.std.proofs.lemmas.Bool.{and_parts, and_from, or_parts}
use Rattle.cov_text.proofs.Bools.{or-same, all-more, all-yes, all-both, all-filtered, kept-pass, all-of-kept, all-kept}
use Rattle.cov_model.specs.declared.report.Range.{Range}
use Rattle.cov_model.specs.Nesting.{is_within, each_pair}
use Rattle.cov_ranges.specs.Order.{precedes, ends_behind, ends_before}
use Rattle.cov_ranges.specs.Front.{apart, are_apart}
use Rattle.cov_ranges.proofs.Pairs.{against, pairs-push, pairs-filtered}

-- The stack holds ranges each of which lies in those before it, and in order the rest comes behind them; and no two of
-- all cross exactly where none of the stack and the rest do.
pub record Walked (all stack rest : List Range) : Type 0 where
  pub nested : each_pair is_within stack ≡ true
  pub behind : against precedes stack rest ≡ true
  pub order : each_pair precedes rest ≡ true
  pub same : (each_pair apart rest && against apart stack rest) ≡ are_apart all

pub walk-starts : (all : List Range) → each_pair precedes all ≡ true → Walked all [] all
walk-starts all e = record { nested = refl; behind = refl; order = e; same = and-true (each_pair apart all) }

pub walk-ends : (all stack rest : List Range) → Walked all stack rest → rest ≡ [] → true ≡ are_apart all
walk-ends all stack rest w e = sym (all-yes stack) ∙ ap (λ ranges. each_pair apart ranges && against apart stack ranges) (sym e) ∙ w.same

-- ---- those that end where the next starts or before

after-end : (s r : Range) (o : ℕ) → ends_behind o s ≡ false → nat_le o r.start ≡ true → apart s r ≡ true
after-end s r o e f = grind (arith, nat_tests)

starts-later : (r z : Range) → precedes r z ≡ true → nat_le r.start z.start ≡ true
starts-later r z e = grind (arith, nat_tests)

starts-itself : (r : Range) → nat_le r.start r.start ≡ true
starts-itself r = grind (arith, nat_tests)

ended-apart : (s r : Range) (rest : List Range) → ends_behind r.start s ≡ false → each_pair precedes (r ∷ rest) ≡ true → list_all (apart s) (r ∷ rest) ≡ true
ended-apart s r rest ended order =
    let both = and_parts (list_all (precedes r) rest) (each_pair precedes rest) order in
    and_from (apart s r) (list_all (apart s) rest) (after-end s r r.start ended (starts-itself r))
    (all-more (precedes r) (apart s) (λ z e. after-end s z r.start ended (starts-later r z e)) rest both.0)

walk-closed : (all stack : List Range) (r : Range) (rest : List Range) → Walked all stack (r ∷ rest) → Walked all (filter (ends_behind r.start) stack) (r ∷ rest)
walk-closed all stack r rest w =
    record {
      nested = pairs-filtered (ends_behind r.start) is_within stack w.nested;
      behind = all-filtered (ends_behind r.start) (λ s. list_all (precedes s) (r ∷ rest)) stack w.behind;
      order = w.order;
      same = ap (λ b. each_pair apart (r ∷ rest) && b)
          (all-of-kept (ends_behind r.start) (λ s. list_all (apart s) (r ∷ rest)) stack (λ s ended. ended-apart s r rest ended w.order)) ∙ w.same;
    }

-- ---- the next against those that end behind its start

crossing : (s r : Range) → ends_behind r.start s ≡ true → precedes s r ≡ true → ends_before r.end s ≡ true → apart s r ≡ false
crossing s r e f g = grind (arith, nat_tests)

holding : (s r : Range) → precedes s r ≡ true → ends_before r.end s ≡ false → is_within s r ≡ true
holding s r f g = grind (arith, nat_tests)

within-apart : (a b : Range) → is_within a b ≡ true → apart a b ≡ true
within-apart a b e = grind (arith, nat_tests)

crossed-one : (r : Range) (rest stack : List Range) → list_all (ends_behind r.start) stack ≡ true → against precedes stack (r ∷ rest) ≡ true → list_any (ends_before r.end) stack ≡ true
    → against apart stack (r ∷ rest) ≡ false
crossed-one r rest [] late behind past = absurd cc
crossed-one r rest (s ∷ stack) late behind past =
    let l = and_parts (ends_behind r.start s) (list_all (ends_behind r.start) stack) late in
    let b = and_parts (precedes s r && list_all (precedes s) rest) (against precedes stack (r ∷ rest)) behind in
    let p = and_parts (precedes s r) (list_all (precedes s) rest) b.0 in
    by (ends_before r.end s) refl l.0 p.0 past (λ more. crossed-one r rest stack l.1 b.1 more)
  where
    by : (ends : Bool) → ends_before r.end s ≡ ends → ends_behind r.start s ≡ true → precedes s r ≡ true → (ends || list_any (ends_before r.end) stack) ≡ true
        → (list_any (ends_before r.end) stack ≡ true → against apart stack (r ∷ rest) ≡ false) → ((apart s r && list_all (apart s) rest) && against apart stack (r ∷ rest)) ≡ false
    by true is open_yet first any more = ap (λ b. (b && list_all (apart s) rest) && against apart stack (r ∷ rest)) (crossing s r open_yet first is)
    by false is open_yet first any more = ap (λ b. (apart s r && list_all (apart s) rest) && b) (more any) ∙ and-false (apart s r && list_all (apart s) rest)

-- it ends behind one of them, and so crosses it
pub walk-crossed : (all stack : List Range) (r : Range) (rest : List Range) → Walked all stack (r ∷ rest) → list_all (ends_behind r.start) stack ≡ true → list_any (ends_before r.end) stack ≡ true → false ≡ are_apart all
walk-crossed all stack r rest w late past =
    sym (and-false (each_pair apart (r ∷ rest))) ∙ sym (ap (λ b. each_pair apart (r ∷ rest) && b) (crossed-one r rest stack late w.behind past)) ∙ w.same

holding-all : (r : Range) (stack : List Range) → list_all (λ s. precedes s r) stack ≡ true → list_any (ends_before r.end) stack ≡ false → list_all (λ s. is_within s r) stack ≡ true
holding-all r [] e f = refl
holding-all r (s ∷ stack) e f =
    let pe = and_parts (precedes s r) (list_all (λ x. precedes x r) stack) e in
    let pf = or_parts (ends_before r.end s) (list_any (ends_before r.end) stack) f in
    and_from (is_within s r) (list_all (λ x. is_within x r) stack) (holding s r pe.0 pf.0) (holding-all r stack pe.1 pf.1)

regroup-more : (b p g : Bool) → (p && (g && (b && true))) ≡ ((b && p) && g)
regroup-more true true true = refl
regroup-more true true false = refl
regroup-more true false g = refl
regroup-more false true true = refl
regroup-more false true false = refl
regroup-more false false g = refl

-- it ends behind none, and so lies in all of them
pub walk-more : (all stack : List Range) (r : Range) (rest : List Range) → Walked all stack (r ∷ rest) → list_any (ends_before r.end) stack ≡ false → Walked all (stack ++ r ∷ []) rest
walk-more all stack r rest w past =
    let parts = and_parts (list_all (λ s. precedes s r) stack) (against precedes stack rest) (sym (all-both (λ s. precedes s r) (λ s. list_all (precedes s) rest) stack) ∙ w.behind) in
    let holds = holding-all r stack parts.0 past in
    let order = and_parts (list_all (precedes r) rest) (each_pair precedes rest) w.order in
    let clear : list_all (λ s. apart s r) stack ≡ true = all-more (λ s. is_within s r) (λ s. apart s r) (λ s e. within-apart s r e) stack holds in
    record {
      nested = pairs-push is_within stack r ∙ and_from (each_pair is_within stack) (list_all (λ s. is_within s r) stack) w.nested holds;
      behind = list_all-append (λ s. list_all (precedes s) rest) stack (r ∷ [])
          ∙ and_from (against precedes stack rest) (list_all (precedes r) rest && true) parts.1 (and_from (list_all (precedes r) rest) true order.0 refl);
      order = order.1;
      same = ap (λ b. each_pair apart rest && b) (list_all-append (λ s. list_all (apart s) rest) stack (r ∷ []))
          ∙ regroup-more (list_all (apart r) rest) (each_pair apart rest) (against apart stack rest)
          ∙ sym (ap (λ b. (list_all (apart r) rest && each_pair apart rest) && b)
          (all-both (λ s. apart s r) (λ s. list_all (apart s) rest) stack ∙ ap (λ b. b && against apart stack rest) clear))
          ∙ w.same;
    }

-- ---- the range at a place, against those that end behind its start

closed-at : (all stack closed : List Range) (i : ℕ) (d : Range) → Walked all stack (drop i all) → i < length all → closed ≡ filter (ends_behind (get_or all i d).start) stack
    → Walked all closed (get_or all i d ∷ drop (i + 1) all)
closed-at all stack closed i d w lt is =
    let r = get_or all i d in
    let rest = drop (i + 1) all in
    subst (λ l. Walked all l (r ∷ rest)) (sym is) (walk-closed all stack r rest (subst (λ l. Walked all stack l) (drop_more all i d lt) w))

pub stop-at : (all stack closed seen : List Range) (i offset : ℕ) (d : Range) → Walked all stack (drop i all) → i < length all → closed ≡ filter (ends_behind (get_or all i d).start) stack
    → seen ≡ closed → offset ≡ (get_or all i d).end → true ≡ list_any (ends_before offset) seen → false ≡ are_apart all
stop-at all stack closed seen i offset d w lt is same ends past =
    let r = get_or all i d in
    walk-crossed all closed r (drop (i + 1) all) (closed-at all stack closed i d w lt is)
    (ap (λ l. list_all (ends_behind r.start) l) is ∙ kept-pass (ends_behind r.start) stack)
    (sym (past ∙ (λ k. list_any (ends_before (ends k)) (same k))))

pub go-on-at : (all stack closed seen pushed : List Range) (i offset : ℕ) (d : Range) → Walked all stack (drop i all) → i < length all → closed ≡ filter (ends_behind (get_or all i d).start) stack
    → seen ≡ closed → offset ≡ (get_or all i d).end → false ≡ list_any (ends_before offset) seen → pushed ≡ closed ++ get_or all i d ∷ [] → Walked all pushed (drop (i + 1) all)
go-on-at all stack closed seen pushed i offset d w lt is same ends none more =
    let r = get_or all i d in
    let rest = drop (i + 1) all in
    subst (λ l. Walked all l rest) (sym more)
    (walk-more all closed r rest (closed-at all stack closed i d w lt is) (sym (none ∙ (λ k. list_any (ends_before (ends k)) (same k)))))

-- ---- the last of a stack ends first

inward : (o : ℕ) (a b : Range) → is_within a b ≡ true → ends_before o a ≡ true → ends_before o b ≡ true
inward o a b e f = grind (arith, nat_tests)

any-pushed : (o : ℕ) (xs : List Range) (x : Range) → each_pair is_within (xs ++ x ∷ []) ≡ true → list_any (ends_before o) (xs ++ x ∷ []) ≡ ends_before o x
any-pushed o [] x e = or-false (ends_before o x)
any-pushed o (y ∷ xs) x e =
    let both = and_parts (list_all (is_within y) (xs ++ x ∷ [])) (each_pair is_within (xs ++ x ∷ [])) e in
    let split = and_parts (list_all (is_within y) xs) (is_within y x && true) (sym (list_all-append (is_within y) xs (x ∷ [])) ∙ both.0) in
    let here = and_parts (is_within y x) true split.1 in
    ap (λ b. ends_before o y || b) (any-pushed o xs x both.1) ∙ or-same (ends_before o y) (ends_before o x) (λ f. inward o y x here.0 f)

front-last : (xs : List Range) (k : ℕ) (x : Range) → suc k ≡ length xs → slice_get xs k ≡ Some x → xs ≡ take k xs ++ x ∷ []
front-last [] k x e f = absurd (omega arith)
front-last (y ∷ []) zero x e f = let is : y ≡ x = cc in ap (λ z. z ∷ []) is
front-last (y ∷ z ∷ xs) zero x e f = absurd (omega arith)
front-last (y ∷ []) (suc k) x e f = absurd (omega arith)
front-last (y ∷ z ∷ xs) (suc k) x e f = ap (λ l. y ∷ l) (front-last (z ∷ xs) k x (omega arith) f)

pub any-last : (o : ℕ) (xs : List Range) (x : Range) → each_pair is_within xs ≡ true → slice_get xs (length xs - 1) ≡ Some x → ends_before o x ≡ list_any (ends_before o) xs
any-last o [] x e last = absurd cc
any-last o (y ∷ xs) x e last =
    let count : suc (length (y ∷ xs) - 1) ≡ length (y ∷ xs) = omega arith in
    let is = front-last (y ∷ xs) (length (y ∷ xs) - 1) x count last in
    let front = take (length (y ∷ xs) - 1) (y ∷ xs) in
    sym (ap (λ l. list_any (ends_before o) l) is ∙ any-pushed o front x (ap (λ l. each_pair is_within l) (sym is) ∙ e))

some-at : (xs : List Range) (k : ℕ) → suc k ≡ length xs → (x : Range) × (slice_get xs k ≡ Some x)
some-at [] k e = absurd (omega arith)
some-at (y ∷ xs) zero e = (y, refl)
some-at (y ∷ xs) (suc k) e = some-at xs k (omega arith)

pub any-none : (o : ℕ) (xs : List Range) → slice_get xs (length xs - 1) ≡ None → false ≡ list_any (ends_before o) xs
any-none o [] last = refl
any-none o (y ∷ xs) last =
    let count : suc (length (y ∷ xs) - 1) ≡ length (y ∷ xs) = omega arith in
    let some = some-at (y ∷ xs) (length (y ∷ xs) - 1) count in
    absurd (let e : Some some.0 ≡ None = sym some.1 ∙ last in cc)

-- ---- taking the last away

late-or-ended : (o : ℕ) (r : Range) → ends_before (o + 1) r ≡ false → ends_behind o r ≡ true
late-or-ended o r e = grind (arith, nat_tests)

ended-early : (o : ℕ) (r : Range) → ends_before (o + 1) r ≡ true → ends_behind o r ≡ false
ended-early o r e = grind (arith, nat_tests)

-- none is left to take away
pub all-late : (o : ℕ) (xs : List Range) → list_any (ends_before (o + 1)) xs ≡ false → filter (ends_behind o) xs ≡ xs
all-late o xs e = all-kept (ends_behind o) (ends_before (o + 1)) xs (λ r f. late-or-ended o r f) e

pub record Popped (o : ℕ) (before after : List Range) : Type 0 where
  pub nested : each_pair is_within after ≡ true
  pub same : filter (ends_behind o) after ≡ filter (ends_behind o) before

pub popped : (o : ℕ) (before after : List Range) (last : Option Range) → before ≡ after ++ option_to_list last → each_pair is_within before ≡ true → list_any (ends_before (o + 1)) before ≡ true → Popped o before after
popped o before after None is nested any =
    let e : before ≡ after = is ∙ append-nil after in
    record { nested = ap (λ l. each_pair is_within l) (sym e) ∙ nested; same = ap (λ l. filter (ends_behind o) l) (sym e) }
popped o before after (Some r) is nested any =
    let inside : each_pair is_within (after ++ r ∷ []) ≡ true = ap (λ l. each_pair is_within l) (sym is) ∙ nested in
    let ends : ends_before (o + 1) r ≡ true = sym (any-pushed (o + 1) after r inside) ∙ ap (λ l. list_any (ends_before (o + 1)) l) (sym is) ∙ any in
    let both = and_parts (each_pair is_within after) (list_all (λ x. is_within x r) after) (sym (pairs-push is_within after r) ∙ inside) in
    record {
      nested = both.0;
      same = sym (ap (λ l. filter (ends_behind o) l) is ∙ filter-append (ends_behind o) after (r ∷ [])
          ∙ ap (λ b. filter (ends_behind o) after ++ cond b (r ∷ []) []) (ended-early o r ends) ∙ append-nil (filter (ends_behind o) after));
    }

pub any-length : (o : ℕ) (xs : List Range) → list_any (ends_before o) xs ≡ true → 0 < length xs
any-length o [] e = absurd cc
any-length o (x ∷ xs) e = omega arith

pub fewer-popped : (m n : ℕ) (last : Option Range) → MatchOption last ((n ≡ 0) × (m ≡ 0)) (λ _. m + 1 ≡ n) → 0 < n → m < n
fewer-popped m n None e some = absurd (omega arith)
fewer-popped m n (Some r) e some = omega arith
