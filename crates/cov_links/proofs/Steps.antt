-- One link more.
use Rattle.std.proofs.Common.{◌≡◌, ℕ, zero, suc, ◌+◌, ◌<◌, ◌≤◌, inl, inr, Bool, true, false, not, ◌&&◌, List, [], ◌∷◌, ◌++◌, map, length, take, get_or, refl, sym, ap, subst, ◌∙◌, arith, append_assoc, append-nil}
use Rattle.std.specs.Prelude.{Option, None, Some, Result, Ok, Err, All, OnOk, ◌==◌, is_ok}
use Rattle.std.specs.Prelude.{slice_index_or}
use Rattle.std.proofs.Math.Seq.{take-suc}
use Rattle.std.proofs.lemmas.List.Elements.{All-append}
use Rattle.cov_io.specs.Causes.{Rose}
use Rattle.cov_io.specs.Lists.{ending_with, beginning_with}
use Rattle.cov_io.specs.Links.{LinkState, NetState, IsNew, Makes, TakesBack, counted_if, dialled_after}
use Rattle.cov_io.specs.declared.link.LinkFault.{LinkFault}
use Rattle.cov_io.specs.declared.link.LinkFault.TheVariants.{Failed, NoMemory}
use Rattle.cov_links.specs.Together.{NetAt, Telling, AreSomeOf, Returned, Made, Unmade, ending_with_all, beginning_with_all, counted_all, is_closed, has_failed}

ending_both : {A : Type 0} (told : Option (List A)) (xs ys : List A) → ending_with_all ys (ending_with_all xs told) ≡ ending_with_all (xs ++ ys) told
ending_both None xs ys = refl
ending_both (Some zs) xs ys = ap Some (append_assoc zs xs ys)

ending_none : {A : Type 0} (told : Option (List A)) → told ≡ ending_with_all [] told
ending_none None = refl
ending_none (Some xs) = ap Some (sym (append-nil xs))

beginning_one : {A : Type 0} (told : Option (List A)) (xs : List A) (x : A) → beginning_with_all xs (beginning_with x told) ≡ beginning_with_all (xs ++ x ∷ []) told
beginning_one None xs x = refl
beginning_one (Some ys) xs x = ap Some (sym (append_assoc xs (x ∷ []) ys))

beginning_none : {A : Type 0} (told : Option (List A)) → told ≡ beginning_with_all [] told
beginning_none None = refl
beginning_none (Some xs) = refl

counted_one : {L : Type 0} (f : L → Bool) (xs : List L) (x : L) (count : ℕ) → counted_if (f x) (counted_all (map f xs) count) ≡ counted_all (map f (xs ++ x ∷ [])) count
counted_one f [] x count = refl
counted_one f (y ∷ xs) x count = counted_one f xs x (counted_if (f y) count)

-- ---- handing back

-- the last is left out, or isn't
some_without : {A : Type 0} (some xs : List A) (x : A) → AreSomeOf some xs → AreSomeOf some (xs ++ x ∷ [])
some_without some [] x are = inl are
some_without some (y ∷ xs) x (inl are) = inl (some_without some xs x are)
some_without some (y ∷ xs) x (inr (rest, e, are)) = inr (rest, e, some_without rest xs x are)

some_with : {A : Type 0} (some xs : List A) (x : A) → AreSomeOf some xs → AreSomeOf (some ++ x ∷ []) (xs ++ x ∷ [])
some_with some [] x are = inr ([], ap (λ ys. ys ++ x ∷ []) are, refl)
some_with some (y ∷ xs) x (inl are) = inl (some_with some xs x are)
some_with some (y ∷ xs) x (inr (rest, e, are)) = inr (rest ++ x ∷ [], ap (λ ys. ys ++ x ∷ []) e, some_with rest xs x are)

none_returned : {L : Type 0} (tells : Telling L) (before : NetAt L) → Returned tells [] before before
none_returned tells before = record {
  kept = [];
  some = refl;
  back = ending_none before.state.back;
  closed = refl;
  faults = refl;
  coming = refl;
  dialled = refl;
  port = refl;
}

-- what is kept once a link more was taken back, or dropped
record Keeps {L : Type 0} (links : List L) (before now : Option (List L)) : Type 0 where
  pub kept : List L
  pub some : AreSomeOf kept links
  pub back : now ≡ ending_with_all kept before

keeps_one : {L E : Type 0} (links : List L) (link : L) (state : LinkState) (before : Option (List L)) (mid now : NetState L) (result : Result Unit E)
    → TakesBack link state mid now result → Keeps links before mid.back → Keeps (links ++ link ∷ []) before now.back
keeps_one links link state before mid now (Ok u) taken so = record {
  kept = so.kept ++ link ∷ [];
  some = some_with so.kept links link so.some;
  back = taken.listed ∙ (ap (ending_with link) so.back ∙ ending_both before so.kept (link ∷ []));
}
keeps_one links link state before mid now (Err e) taken so = record {
  kept = so.kept;
  some = some_without so.kept links link so.some;
  back = taken.dropped ∙ so.back;
}

one_returned : {L E : Type 0} (tells : Telling L) (links : List L) (link : L) (before mid now : NetAt L) (result : Result Unit E)
    → Returned tells links before mid → TakesBack link (tells.state link) mid.state now.state result → now.faults ≡ counted_if (has_failed tells link) mid.faults
    → Returned tells (links ++ link ∷ []) before now
one_returned tells links link before mid now result so taken faults =
    let keeps = keeps_one links link (tells.state link) before.state.back mid.state now.state result taken (record { kept = so.kept; some = so.some; back = so.back }) in
    record {
      kept = keeps.kept;
      some = keeps.some;
      back = keeps.back;
      closed = taken.closed ∙ (ap (counted_if (is_closed tells link)) so.closed ∙ counted_one (is_closed tells) links link before.state.closed);
      faults = faults ∙ (ap (counted_if (has_failed tells link)) so.faults ∙ counted_one (has_failed tells) links link before.faults);
      coming = taken.coming ∙ so.coming;
      dialled = taken.dialled ∙ so.dialled;
      port = taken.port ∙ so.port;
    }

-- all links so far, and whether each is in the list
pub record IsReturning {L : Type 0} (tells : Telling L) (links : List L) (before now : NetAt L) (all_listed : Bool) : Type 0 where
  pub returned : Returned tells links before now
  pub listed : all_listed ≡ true → now.state.back ≡ ending_with_all links before.state.back

pub none_listed : {L : Type 0} (tells : Telling L) (before : NetAt L) → IsReturning tells [] before before true
none_listed tells before = record { returned = none_returned tells before; listed = λ e. ending_none before.state.back }

on_ok : {T E P : Type 0} (result : Result T E) → is_ok result ≡ true → OnOk result P → P
on_ok (Ok x) e p = p
on_ok (Err x) e p = cc

pub listed_one : {L E : Type 0} (tells : Telling L) (links : List L) (link : L) (before mid now : NetAt L) (listed answer : Bool) (result : Result Unit E)
    → answer ≡ is_ok result → IsReturning tells links before mid listed → TakesBack link (tells.state link) mid.state now.state result
    → now.faults ≡ counted_if (has_failed tells link) mid.faults → IsReturning tells (links ++ link ∷ []) before now (listed && answer)
listed_one tells links link before mid now listed answer result is so taken faults = record {
  returned = one_returned tells links link before mid now result so.returned taken faults;
  listed = λ e.
      let both = both_true listed answer e in
      on_ok result (sym is ∙ both.1) taken.listed ∙ (ap (ending_with link) (so.listed both.0) ∙ ending_both before.state.back links (link ∷ []));
}
  where
    both_true : (a b : Bool) → (a && b) ≡ true → (a ≡ true) × (b ≡ true)
    both_true true b e = (refl, e)
    both_true false b e = cc

-- ---- making

pub none_made : {L : Type 0} (tells : Telling L) (before : NetAt L) → Made tells [] before before []
none_made tells before = record {
  fresh = λ k d le. grind (arith, le);
  coming = beginning_none before.state.coming;
  dialled = ending_none before.state.dialled;
  back = refl;
  port = refl;
  closed = refl;
  faults = refl;
}

pub one_made : {L : Type 0} (tells : Telling L) (places more : List (List ℕ)) (before mid now : NetAt L) (links : List L) (link : L)
    → Made tells places before mid links → Makes {L = L} mid.state now.state (Ok link) → IsNew (tells.state link) (tells.faults link)
    → now.state.dialled ≡ ending_with_all more mid.state.dialled → now.faults ≡ mid.faults
    → Made tells (places ++ more) before now (links ++ link ∷ [])
one_made tells places more before mid now links link so made fresh dialled faults = record {
  fresh = All-append (λ l. IsNew (tells.state l) (tells.faults l)) links (link ∷ []) so.fresh (alone fresh);
  coming = so.coming ∙ (ap (beginning_with_all links) made.coming ∙ beginning_one now.state.coming links link);
  dialled = dialled ∙ (ap (ending_with_all more) so.dialled ∙ ending_both before.state.dialled places more);
  back = made.back ∙ so.back;
  port = made.port ∙ so.port;
  closed = made.closed ∙ so.closed;
  faults = faults ∙ so.faults;
}
  where
    alone : IsNew (tells.state link) (tells.faults link) → All (λ l. IsNew (tells.state l) (tells.faults l)) (link ∷ [])
    alone new zero d le = new
    alone new (suc k) d le = grind (arith, le)

-- ---- where a link isn't made

-- no new link raises a count
none_counted : {L : Type 0} (f : L → Bool) (links : List L) (count : ℕ) → ((k : ℕ) (d : L) → k < length links → f (slice_index_or links k d) ≡ false)
    → counted_all (map f links) count ≡ count
none_counted f [] count each = refl
none_counted f (x ∷ links) count each =
    ap (λ b. counted_all (map f links) (counted_if b count)) (each 0 x (omega arith))
    ∙ none_counted f links count (λ k d le. each (suc k) d (omega (arith, le)))

some_all : {A : Type 0} (xs : List A) → AreSomeOf xs xs
some_all [] = refl
some_all (x ∷ xs) = inr (xs, refl, some_all xs)

-- what is kept by what is told: all of them after a failure
record KeepsBy {L : Type 0} (links : List L) (before now : Option (List L)) (told : LinkFault) : Type 0 where
  pub keeps : Keeps links before now
  pub whole : told ≡ Failed → keeps.kept ≡ links

keeps_by : {L : Type 0} (links : List L) (before now : Option (List L)) (told : LinkFault) → Keeps links before now
    → (told ≡ Failed → now ≡ ending_with_all links before) → KeepsBy links before now told
keeps_by links before now Failed keeps back = record {
  keeps = record { kept = links; some = some_all links; back = back refl };
  whole = λ e. refl;
}
keeps_by links before now NoMemory keeps back = record { keeps = keeps; whole = λ e. cc }

-- the places that were dialled, the one of the link that wasn't made among them or not
pub record Tried {L : Type 0} (places : List (List ℕ)) (count : ℕ) (before met : NetAt L) (fault : LinkFault) : Type 0 where
  pub tried : ℕ
  pub tries : tried ≤ count + 1
  pub dialled : met.state.dialled ≡ ending_with_all (take tried places) before.state.dialled
  pub next : fault ≡ Failed → tried ≡ count + 1

pub not_made : {L : Type 0} (tells : Telling L) (count : ℕ) (reached places : List (List ℕ)) (before mid met now : NetAt L) (links : List L) (fault told : LinkFault)
    → Made tells reached before mid links → length links ≤ count → Makes {L = L} mid.state met.state (Err fault)
    → Tried places (length links) before met fault → mid.faults ≤ met.faults → (fault ≡ Failed → Rose mid.faults met.faults)
    → Returned tells links met now → (told ≡ Failed → fault ≡ Failed) → (told ≡ Failed → now.state.back ≡ ending_with_all links met.state.back)
    → Unmade count places before now told
not_made {L = L} tells count reached places before mid met now links fault told so few made tried later rose returned is back = record {
  made = links;
  few = few;
  coming = so.coming ∙ ap (beginning_with_all links) (sym made.coming ∙ sym returned.coming);
  tried = tried.tried;
  tries = tried.tries;
  dialled = returned.dialled ∙ tried.dialled;
  kept = by.keeps.kept;
  some = by.keeps.some;
  back = by.keeps.back;
  port = returned.port ∙ (made.port ∙ so.port);
  closed = returned.closed ∙ (none_counted (is_closed tells) links met.state.closed (λ k d le. (so.fresh k d le).unclosed) ∙ (made.closed ∙ so.closed));
  later = omega (arith, later, so.faults, unraised);
  next = λ e. tried.next (is e);
  whole = by.whole;
  rose = λ e. subst (λ n. Rose n now.faults) so.faults (subst (Rose mid.faults) (sym unraised) (rose (is e)));
}
  where
    unraised : now.faults ≡ met.faults
    unraised =
        returned.faults
        ∙ none_counted (has_failed tells) links met.faults (λ k d le. ap (λ n. not (n == 0)) (so.fresh k d le).sound)

    since : met.state.back ≡ before.state.back
    since = made.back ∙ so.back

    by : KeepsBy links before.state.back now.state.back told
    by =
        keeps_by links before.state.back now.state.back told
        (record { kept = returned.kept; some = returned.some; back = returned.back ∙ ap (ending_with_all returned.kept) since })
        (λ e. back e ∙ ap (ending_with_all links) since)

-- no link was made for want of memory
pub none_unmade : {L : Type 0} (count : ℕ) (places : List (List ℕ)) (before : NetAt L) (fault : LinkFault) → fault ≡ NoMemory → Unmade count places before before fault
none_unmade count places before fault is = record {
  made = [];
  few = omega arith;
  coming = beginning_none before.state.coming;
  tried = 0;
  tries = omega arith;
  dialled = ending_none before.state.dialled;
  kept = [];
  some = refl;
  back = ending_none before.state.back;
  port = refl;
  closed = refl;
  later = omega arith;
  next = λ e. cc;
  whole = λ e. refl;
  rose = λ e. cc;
}

-- ---- the places dialled where a link isn't made

-- where none is to be dialled
pub tried_none : {L : Type 0} (tells : Telling L) (before mid met : NetAt L) (fault : LinkFault) (links : List L) → Made tells [] before mid links
    → met.state.dialled ≡ mid.state.dialled → Tried [] (length links) before met fault
tried_none tells before mid met fault links so dialled = record {
  tried = length links + 1;
  tries = omega arith;
  dialled = dialled ∙ (so.dialled ∙ ap (λ ps. ending_with_all ps before.state.dialled) (sym (take_none (length links + 1) [] refl)));
  next = λ e. refl;
}
  where
    take_none : {A : Type 0} (n : ℕ) (xs : List A) → xs ≡ [] → take n xs ≡ []
    take_none zero xs e = refl
    take_none (suc n) [] e = refl
    take_none (suc n) (x ∷ xs) e = cc

pub take_next : {A : Type 0} (xs : List A) (i : ℕ) (d : A) → i < length xs → take (i + 1) xs ≡ take i xs ++ get_or xs i d ∷ []
take_next xs i d le = ap (λ n. take n xs) plus_one ∙ take-suc xs i d le
  where
    plus_one : i + 1 ≡ suc i
    plus_one = omega arith

-- where the next one is
pub tried_next : {L : Type 0} (tells : Telling L) (places : List (List ℕ)) (i : ℕ) (place : List ℕ) (before mid met : NetAt L) (fault : LinkFault) (links : List L)
    → Made tells (take i places) before mid links → length links ≡ i → take i places ++ place ∷ [] ≡ take (i + 1) places
    → met.state.dialled ≡ dialled_after {T = L} place mid.state.dialled (Err fault) → Tried places (length links) before met fault
tried_next tells places i place before mid met Failed links so each next dialled = record {
  tried = i + 1;
  tries = omega (arith, each);
  dialled =
      dialled
      ∙ (ap (ending_with place) so.dialled
      ∙ (ending_both before.state.dialled (take i places) (place ∷ []) ∙ ap (λ ps. ending_with_all ps before.state.dialled) next));
  next = λ e. omega (arith, each);
}
tried_next tells places i place before mid met NoMemory links so each next dialled = record {
  tried = i;
  tries = omega (arith, each);
  dialled = dialled ∙ so.dialled;
  next = λ e. cc;
}
