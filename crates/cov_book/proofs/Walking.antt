-- Scripts in two parts, those that a walk has gone over and those that are left.
use Rattle.std.proofs.Common.{◌≡◌, ℕ, ◌+◌, ◌-◌, ◌≤◌, Bool, true, false, List, [], ◌∷◌, ◌++◌, refl, sym, ap, ◌∙◌, subst, append_assoc, length, reverse}
use Rattle.std.specs.Prelude.{cond, Option, None, Some, slice_get}
use Rattle.std.specs.Option.{option_or}
use Rattle.std.specs.List.{AllByRecursion}
use Rattle.std.specs.List.Sorted.{IsStrictlySortedBy}
use Rattle.std.specs.Map.{lookup}
use Rattle.std.specs.BTreeMap.{is_at}
use Rattle.std.specs.BTreeSet.{insert_key}
use Rattle.std.specs.Ordering.{is_gt, match_ordering, ordering_reverse}
use Rattle.std.specs.Vec.{vec_capacity}
use Rattle.std.specs.declared.cmp.Ordering.{Ordering}
use Rattle.std.specs.declared.cmp.Ordering.TheVariants.{Less, Equal, Greater}
use Rattle.std.proofs.lemmas.List.{append-nil, map-append, reverse-append, reverse-reverse}
use Rattle.cov_text.specs.Listing.{same_text, text_cmp}
use Rattle.cov_model.specs.declared.sums.Key.{Key}
use Rattle.cov_model.specs.Sums.{file_order}
use Rattle.cov_book.specs.declared.sums.Sums.{Sums}
use Rattle.cov_book.specs.declared.scripts.Script.{Script}
use Rattle.cov_book.specs.declared.placing.Update.{Update}
use Rattle.cov_book.specs.Listed.{AreInOrder, AreSorted, all_listed, held_in, listed, of_url, urls_in}
use Rattle.cov_book.specs.Renewed.{changed_script, made}
use Rattle.cov_book.specs.Room.{HasRoom, IsPutIn, begins_behind}
use Rattle.cov_book.proofs.Ordered.{sorted-insert, text_total}
use Rattle.cov_book.proofs.Joining.{last-pushed}
use Rattle.cov_book.proofs.Among.{above, later-none, lookup-append, text-same}

-- ---- parts of lists in order

all-behind : (P : List ℕ → Type 0) (xs ys : List Script) → AllByRecursion P (urls_in (xs ++ ys)) → AllByRecursion P (urls_in ys)
all-behind P [] ys h = h
all-behind P (x ∷ xs) ys h = all-behind P xs ys h.1

all-ahead : (P : List ℕ → Type 0) (xs ys : List Script) → AllByRecursion P (urls_in (xs ++ ys)) → AllByRecursion P (urls_in xs)
all-ahead P [] ys h = tt
all-ahead P (x ∷ xs) ys h = (h.0, all-ahead P xs ys h.1)

sorted-ahead : (xs ys : List Script) → IsStrictlySortedBy text_cmp (urls_in (xs ++ ys)) → IsStrictlySortedBy text_cmp (urls_in xs)
unfolding IsStrictlySortedBy
sorted-ahead [] ys s = tt
sorted-ahead (x ∷ xs) ys s = (all-ahead (λ u. text_cmp x.url u ≡ Less) xs ys s.0, sorted-ahead xs ys s.1)

sorted-behind : (xs ys : List Script) → IsStrictlySortedBy text_cmp (urls_in (xs ++ ys)) → IsStrictlySortedBy text_cmp (urls_in ys)
unfolding IsStrictlySortedBy
sorted-behind [] ys s = s
sorted-behind (x ∷ xs) ys s = sorted-behind xs ys s.1

each-ahead : (xs ys : List Script) → AllByRecursion (λ (s : Script). AreInOrder s.functions) (xs ++ ys) → AllByRecursion (λ (s : Script). AreInOrder s.functions) xs
each-ahead [] ys h = tt
each-ahead (x ∷ xs) ys h = (h.0, each-ahead xs ys h.1)

each-both : (xs ys zs : List Script) → AllByRecursion (λ (s : Script). AreInOrder s.functions) zs → AllByRecursion (λ (s : Script). AreInOrder s.functions) (xs ++ ys)
    → AllByRecursion (λ (s : Script). AreInOrder s.functions) (zs ++ ys)
each-both [] ys [] g h = h
each-both (x ∷ xs) ys [] g h = each-both xs ys [] g h.1
each-both xs ys (z ∷ zs) g h = (g.0, each-both xs ys zs g.1 h)

pub front-sorted : (xs ys : List Script) → AreSorted (xs ++ ys) → AreSorted xs
front-sorted xs ys s = record { urls = sorted-ahead xs ys s.urls; functions = each-ahead xs ys s.functions }

-- ---- what two parts tell

listed-append : (xs ys : List Script) → all_listed (xs ++ ys) ≡ all_listed xs ++ all_listed ys
listed-append [] ys = refl
listed-append (x ∷ xs) ys = ap (λ es. listed x ++ es) (listed-append xs ys) ∙ sym (append_assoc (listed x) (all_listed xs) (all_listed ys))

held-append : (xs ys : List Script) (key : Key) → held_in (xs ++ ys) key ≡ option_or (held_in xs key) (held_in ys key)
held-append xs ys key = ap (lookup (is_at (file_order key))) (listed-append xs ys) ∙ lookup-append (is_at (file_order key)) (all_listed xs) (all_listed ys)

or-or : (a b c : Option Sums) → option_or (option_or a b) c ≡ option_or a (option_or b c)
or-or None b c = refl
or-or (Some x) b c = refl

of-url-append : (u : List ℕ) (xs ys : List Script) → IsStrictlySortedBy text_cmp (urls_in (xs ++ ys)) → of_url u (xs ++ ys) ≡ of_url u xs ++ of_url u ys
unfolding IsStrictlySortedBy
of-url-append u [] ys s = refl
of-url-append u (x ∷ xs) ys s = by (same_text x.url u) refl (all-behind (λ v. text_cmp x.url v ≡ Less) xs ys s.0) (of-url-append u xs ys s.1)
  where
    by : (b : Bool) → same_text x.url u ≡ b → AllByRecursion (λ v. text_cmp x.url v ≡ Less) (urls_in ys) → of_url u (xs ++ ys) ≡ of_url u xs ++ of_url u ys
        → cond b x.functions (of_url u (xs ++ ys)) ≡ cond b x.functions (of_url u xs) ++ of_url u ys
    by true e later rest =
        let none = later-none u ys (subst (λ v. AllByRecursion (λ w. text_cmp v w ≡ Less) (urls_in ys)) (text-same x.url u e) later) in
        sym (append-nil x.functions) ∙ ap (λ fs. x.functions ++ fs) (sym none)
    by false e later rest = rest

-- ---- what is left comes behind a url

greater : (o : Ordering) → is_gt o ≡ true → o ≡ Greater
greater Less e = absurd cc
greater Equal e = absurd cc
greater Greater e = refl

behind-all : (url : List ℕ) (ss : List Script) → IsStrictlySortedBy text_cmp (urls_in ss) → begins_behind url ss ≡ true → AllByRecursion (λ u. text_cmp url u ≡ Less) (urls_in ss)
unfolding IsStrictlySortedBy
behind-all url [] s e = tt
behind-all url (x ∷ xs) s e =
    let lt = text_total.antisymm url x.url ∙ ap ordering_reverse (greater (text_cmp x.url url) e) in
    (lt, above url x.url (urls_in xs) lt s.0)

insert-ahead : (us ts : List (List ℕ)) (url : List ℕ) → AllByRecursion (λ t. text_cmp url t ≡ Less) ts → insert_key text_cmp (us ++ ts) url ≡ insert_key text_cmp us url ++ ts
insert-ahead [] [] url h = refl
insert-ahead [] (t ∷ ts) url h = ap (λ o. match_ordering o (url ∷ t ∷ ts) (t ∷ ts) (t ∷ insert_key text_cmp ts url)) h.0
insert-ahead (u ∷ us) ts url h =
    elim (text_cmp url u) as (λ o. match_ordering o (url ∷ u ∷ us ++ ts) (u ∷ us ++ ts) (u ∷ insert_key text_cmp (us ++ ts) url) ≡ match_ordering o (url ∷ u ∷ us) (u ∷ us) (u ∷ insert_key text_cmp us url) ++ ts) [
      | Less ↦ refl
      | Equal ↦ refl
      | Greater ↦ ap (λ vs. u ∷ vs) (insert-ahead us ts url h)
    ]

module _ (url : List ℕ) (done tail : List Script) (sorted : AreSorted (done ++ tail)) (behind : begins_behind url tail ≡ true) where
  own-ahead : of_url url (done ++ tail) ≡ of_url url done
  own-ahead =
      of-url-append url done tail sorted.urls
      ∙ ap (λ fs. of_url url done ++ fs) (later-none url tail (behind-all url tail (sorted-behind done tail sorted.urls) behind))
      ∙ append-nil (of_url url done)

-- a script put in among those that were gone over is put in among all
put-ahead : (s : Script) (done more tail : List Script) → AreSorted (done ++ tail) → begins_behind s.url tail ≡ true → IsPutIn s done more → IsPutIn s (done ++ tail) (more ++ tail)
put-ahead s done more tail sorted behind put =
    let later = behind-all s.url tail (sorted-behind done tail sorted.urls) behind in
    let urls : urls_in (more ++ tail) ≡ insert_key text_cmp (urls_in (done ++ tail)) s.url =
    map-append (λ (x : Script). x.url) more tail
    ∙ ap (λ us. us ++ urls_in tail) put.urls
    ∙ sym (insert-ahead (urls_in done) (urls_in tail) s.url later)
    ∙ ap (λ us. insert_key text_cmp us s.url) (sym (map-append (λ (x : Script). x.url) done tail)) in
    let order : AreSorted (more ++ tail) =
    record {
      urls = subst (IsStrictlySortedBy text_cmp) (sym urls) (sorted-insert text_cmp text_total (urls_in (done ++ tail)) s.url sorted.urls);
      functions = each-both done tail more put.order.functions sorted.functions;
    } in
    record {
      order = order;
      held = λ key.
          held-append more tail key
          ∙ ap (λ o. option_or o (held_in tail key)) (put.held key)
          ∙ or-or (lookup (is_at (file_order key)) (listed s)) (held_in done key) (held_in tail key)
          ∙ ap (option_or (lookup (is_at (file_order key)) (listed s))) (sym (held-append done tail key));
      urls = urls;
      others = λ u other.
          of-url-append u more tail order.urls
          ∙ ap (λ fs. fs ++ of_url u tail) (put.others u other)
          ∙ sym (of-url-append u done tail sorted.urls);
    }

pub put-among : (u : Update) (done more tail all : List Script) → AreSorted all → done ++ tail ≡ all → begins_behind u.change.url tail ≡ true → IsPutIn (changed_script done u.change) done more
    → IsPutIn (changed_script all u.change) all (more ++ tail)
put-among u done more tail all sorted are behind put =
    let order = subst AreSorted (sym are) sorted in
    subst (λ ss. IsPutIn (changed_script ss u.change) ss (more ++ tail)) are
    (subst (λ fs. IsPutIn (record { url = u.change.url; functions = made fs u.change.functions }) (done ++ tail) (more ++ tail)) (sym (own-ahead u.change.url done tail order behind))
    (put-ahead (changed_script done u.change) done more tail order behind put))

pub room-ahead : (u : Update) (done tail all : List Script) → AreSorted all → done ++ tail ≡ all → begins_behind u.change.url tail ≡ true → HasRoom all u → HasRoom done u
room-ahead u done tail all sorted are behind room =
    let own = own-ahead u.change.url done tail (subst AreSorted (sym are) sorted) behind in
    record {
      empty = room.empty;
      len = room.len;
      room = λ some. subst (λ fs. length fs + length u.change.functions.fresh.items ≤ vec_capacity u.room) (ap (of_url u.change.url) (sym are) ∙ own) (room.room some);
    }

-- ---- the last of a list

pub moved : (done left : List Script) (s : Script) (more rest : List Script) → left ≡ rest ++ s ∷ [] → more ≡ done ++ s ∷ [] → more ++ reverse rest ≡ done ++ reverse left
moved done left s more rest are pushed =
    ap (λ ss. ss ++ reverse rest) pushed ∙ append_assoc done (s ∷ []) (reverse rest) ∙ ap (λ ss. done ++ ss) (sym (ap reverse are ∙ reverse-append rest (s ∷ [])))

abbrev pub ends_behind : List ℕ → Option Script → Bool
ends_behind url None = true
ends_behind url (Some s) = is_gt (text_cmp s.url url)

-- what stands last is first when the list is turned round
pub behind-end : (url : List ℕ) (ss : List Script) → begins_behind url (reverse ss) ≡ ends_behind url (slice_get ss (length ss - 1))
behind-end url ss = subst (λ xs. begins_behind url (reverse xs) ≡ ends_behind url (slice_get xs (length xs - 1))) (reverse-reverse ss) (by (reverse ss))
  where
    by : (xs : List Script) → begins_behind url (reverse (reverse xs)) ≡ ends_behind url (slice_get (reverse xs) (length (reverse xs) - 1))
    by [] = refl
    by (x ∷ xs) =
        ap (begins_behind url) (reverse-reverse (x ∷ xs))
        ∙ sym (ap (ends_behind url) (ap (λ ys. slice_get ys (length ys - 1)) (reverse-append (x ∷ []) xs) ∙ last-pushed (reverse xs) x))

pub behind-none : (url : List ℕ) (ss : List Script) (o : Option Script) → o ≡ slice_get ss (length ss - 1) → o ≡ None → begins_behind url (reverse ss) ≡ true
behind-none url ss o is none = behind-end url ss ∙ ap (ends_behind url) (sym is ∙ none)

pub behind-some : (url : List ℕ) (ss : List Script) (s : Script) → Some s ≡ slice_get ss (length ss - 1) → is_gt (text_cmp s.url url) ≡ true → begins_behind url (reverse ss) ≡ true
behind-some url ss s is gt = behind-end url ss ∙ ap (ends_behind url) (sym is) ∙ gt
