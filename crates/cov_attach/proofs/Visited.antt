-- What the counts of a net say of the sessions over its links.
use Rattle.std.proofs.Common.{◌≡◌, ℕ, zero, suc, ◌+◌, ◌<◌, ◌≤◌, ◌-◌, ◌^◌, Bool, true, false, not, List, [], ◌∷◌, ◌++◌, map, length, take, drop, refl, sym, ap, subst, ◌∙◌, arith, inr}
use Rattle.std.specs.Prelude.{None, Some, Result, Ok, Err, min, ◌==◌, slice_index_or}
use Rattle.std.proofs.lemmas.List.{append-nil, drop_all, take_all}
use Rattle.cov_model.specs.declared.snapshot.Snapshot.{Snapshot}
use Rattle.cov_io.specs.Causes.{Rose, HasCause}
use Rattle.cov_io.specs.Links.{IsNew, counted_if}
use Rattle.cov_links.specs.Together.{NetAt, Telling, Made, Returned, counted_all, has_failed, is_closed, ending_with_all}
use Rattle.cov_attach.specs.declared.fault.AttachFault.{AttachFault}
use Rattle.cov_attach.specs.declared.fault.AttachFault.TheVariants.{Failed, Closed, Peer, NoMemory}
use Rattle.cov_attach.specs.declared.fault.AttachAllFault.{AttachAllFault}
use Rattle.cov_attach.specs.declared.places.PlacesFault.TheVariants as places
use Rattle.cov_attach.specs.Gathered.{AllTell, AreRun, AreSessions, FaultTold, Gathers, TellsRuns, least_fault}
use Rattle.cov_attach.specs.Sessions.{IsSession, closed_by}
use Rattle.cov_attach.specs.Places.{Attends, Counts, CountsFault, Tells, Visits}

-- ---- counts

abbrev most : ℕ
most = 2 ^ 64 - 1

counted-if-up : (b : Bool) (c : ℕ) → c ≤ most → (c ≤ counted_if b c) × (counted_if b c ≤ most)
counted-if-up true c le = (omega arith, omega arith)
counted-if-up false c le = (omega arith, le)

counted-up : (bs : List Bool) (c : ℕ) → c ≤ most → c ≤ counted_all bs c
counted-up [] c le = omega arith
counted-up (b ∷ bs) c le = let one = counted-if-up b c le in let rest = counted-up bs (counted_if b c) one.1 in omega (arith, one.0, rest)

-- a count that the first case raises
counted-first : (b : Bool) (bs : List Bool) (c : ℕ) → b ≡ true → Rose c (counted_all (b ∷ bs) c)
counted-first b bs c e = subst (λ x. Rose c (counted_all (x ∷ bs) c)) (sym e) (counted-up bs (min (c + 1) most) (omega arith))

counted-later : (b : Bool) (bs : List Bool) (c : ℕ) → b ≡ false → Rose c (counted_all bs c) → Rose c (counted_all (b ∷ bs) c)
counted-later b bs c e rose = subst (λ x. Rose c (counted_all (x ∷ bs) c)) (sym e) rose

-- the same, with the lists themselves
abbrev pub plain : {V E : Type 0} → (V → List (List Snapshot)) → Result V E → Result (List (List Snapshot)) E
plain items (Ok taken) = Ok (items taken)
plain items (Err fault) = Err fault

-- the links are new
abbrev AreNew : {L : Type 0} → Telling L → List L → Type 0
AreNew {L} tells links = (k : ℕ) (d : L) → k < length links → IsNew (tells.state (slice_index_or links k d)) (tells.faults (slice_index_or links k d))

module _ {L : Type 0} (tells : Telling L) (takes : ℕ) where
  later-new : (x : L) (links : List L) → AreNew tells (x ∷ links) → AreNew tells links
  later-new x links new k d le = new (suc k) d (omega (arith, le))

  first-new : (x : L) (links : List L) → AreNew tells (x ∷ links) → IsNew (tells.state x) (tells.faults x)
  first-new x links new = new 0 x (omega arith)

  unfailed : (old now : L) → tells.faults old ≡ 0 → tells.faults now ≡ tells.faults old → has_failed tells now ≡ false
  unfailed old now e same = ap (λ n. not (n == 0)) (same ∙ e)

  failed : (old now : L) → tells.faults old ≡ 0 → Rose (tells.faults old) (tells.faults now) → has_failed tells now ≡ true
  failed old now e rose = by (tells.faults now) (subst (λ n. Rose n (tells.faults now)) e rose)
    where
      by : (n : ℕ) → Rose 0 n → not (n == 0) ≡ true
      by zero r = absurd (omega (arith, r))
      by (suc n) r = grind arith

  -- there are as many links as before
  ran-length : (olds news : List L) (answers : List (Result (List Snapshot) AttachFault)) → AreSessions tells.state tells.faults takes olds news answers → length news ≡ length olds
  ran-length [] [] [] sessions = refl
  ran-length (x ∷ olds) (y ∷ news) (answer ∷ answers) sessions = ap suc (ran-length olds news answers sessions.2)
  ran-length [] (y ∷ news) answers sessions = absurd sessions
  ran-length [] [] (answer ∷ answers) sessions = absurd sessions
  ran-length (x ∷ olds) [] answers sessions = absurd sessions
  ran-length (x ∷ olds) (y ∷ news) [] sessions = absurd sessions

  -- where all sessions came to their end, no link is counted as failed
  none-failed : (olds news : List L) (answers : List (Result (List Snapshot) AttachFault)) (n count : ℕ)
      → AreNew tells olds → AreSessions tells.state tells.faults takes olds news answers → least_fault n answers ≡ None
      → counted_all (map (has_failed tells) news) count ≡ count
  none-failed [] [] [] n count new sessions e = refl
  none-failed (x ∷ olds) (y ∷ news) (Ok taken ∷ answers) n count new sessions e =
      ap (λ b. counted_all (map (has_failed tells) news) (counted_if b count)) (unfailed x y (first-new x olds new).sound sessions.1.kept)
      ∙ none-failed olds news answers (n + 1) count (later-new x olds new) sessions.2 e
  none-failed (x ∷ olds) (y ∷ news) (Err fault ∷ answers) n count new sessions e = cc
  none-failed [] (y ∷ news) answers n count new sessions e = absurd sessions
  none-failed [] [] (answer ∷ answers) n count new sessions e = absurd sessions
  none-failed (x ∷ olds) [] answers n count new sessions e = absurd sessions
  none-failed (x ∷ olds) (y ∷ news) [] n count new sessions e = absurd sessions

  -- the least fault is counted
  fault-counted : (olds news : List L) (answers : List (Result (List Snapshot) AttachFault)) (n faults closed : ℕ) (told : AttachAllFault)
      → AreNew tells olds → AreSessions tells.state tells.faults takes olds news answers → least_fault n answers ≡ Some told
      → (told.fault ≡ Failed → Rose faults (counted_all (map (has_failed tells) news) faults))
      × (told.fault ≡ Closed → Rose closed (counted_all (map (is_closed tells) news) closed))
  fault-counted [] [] [] n faults closed told new sessions e = absurd cc
  fault-counted (x ∷ olds) (y ∷ news) (Ok taken ∷ answers) n faults closed told new sessions e =
      let rest = fault-counted olds news answers (n + 1) faults closed told (later-new x olds new) sessions.2 e in (
        λ is. counted-later (has_failed tells y) (map (has_failed tells) news) faults (unfailed x y (first-new x olds new).sound sessions.1.kept) (rest.0 is),
        λ is. counted-later (is_closed tells y) (map (is_closed tells) news) closed (sessions.0.closed ∙ (first-new x olds new).unclosed) (rest.1 is),
      )
  fault-counted (x ∷ olds) (y ∷ news) (Err fault ∷ answers) n faults closed told new sessions e =
      let same : fault ≡ told.fault = ap (λ (f : AttachAllFault). f.fault) (some-is (record { session = n; fault = fault }) told e) in (
        λ is. counted-first (has_failed tells y) (map (has_failed tells) news) faults (failed x y (first-new x olds new).sound (rose-at fault (same ∙ is) sessions.1)),
        λ is. counted-first (is_closed tells y) (map (is_closed tells) news) closed (closed-at fault (same ∙ is) sessions.0),
      )
    where
      some-is : {A : Type 0} (a b : A) → Some a ≡ Some b → a ≡ b
      some-is a b e = cc

      rose-at : (fault : AttachFault) → fault ≡ Failed → HasCause {T = List Snapshot} Failed (tells.faults x) (tells.faults y) (Err fault) → Rose (tells.faults x) (tells.faults y)
      rose-at fault is cause = cause.rose (ap Err is)

      closed-at : (fault : AttachFault) → fault ≡ Closed → IsSession takes (tells.state x) (tells.state y) (Err fault) → (tells.state y).closed ≡ true
      closed-at fault is session = session.closed ∙ ap (λ (f : AttachFault). closed_by {A = List Snapshot} (tells.state x).closed (Err f)) is
  fault-counted [] (y ∷ news) answers n faults closed told new sessions e = absurd sessions
  fault-counted [] [] (answer ∷ answers) n faults closed told new sessions e = absurd sessions
  fault-counted (x ∷ olds) [] answers n faults closed told new sessions e = absurd sessions
  fault-counted (x ∷ olds) (y ∷ news) [] n faults closed told new sessions e = absurd sessions

  counts-told : (olds news : List L) (answers : List (Result (List Snapshot) AttachFault)) (before now : NetAt L) {V : Type 0} (items : V → List (List Snapshot)) (told : Result V AttachAllFault)
      → AreNew tells olds → AreSessions tells.state tells.faults takes olds news answers → Gathers items 0 answers told
      → now.faults ≡ counted_all (map (has_failed tells) news) before.faults → now.state.closed ≡ counted_all (map (is_closed tells) news) before.state.closed
      → Counts before now told
  counts-told olds news answers before now items (Ok taken) new sessions gathered faults closed = faults ∙ none-failed olds news answers 0 before.faults new sessions gathered.0
  counts-told olds news answers before now items (Err told) new sessions gathered faults closed = by told.fault refl gathered
    where
      by : (fault : AttachFault) → told.fault ≡ fault → FaultTold told fault (least_fault 0 answers) → CountsFault before now fault
      by Failed is least = subst (Rose before.faults) (sym faults) ((fault-counted olds news answers 0 before.faults before.state.closed told new sessions least).0 is)
      by Closed is least = subst (Rose before.state.closed) (sym closed) ((fault-counted olds news answers 0 before.faults before.state.closed told new sessions least).1 is)
      by (Peer message why) is least = tt
      by NoMemory is least = tt

  -- ---- the whole

  module _ (dialled : List (List ℕ)) (before between now : NetAt L) (made ran : List L) where
    abbrev pub visits : (answers : List (Result (List Snapshot) AttachFault)) → length made ≡ length dialled → Made tells dialled before between made
        → AreSessions tells.state tells.faults takes made ran answers → Returned tells ran between now → Visits tells takes dialled before now answers
    visits answers each making sessions returned = record { made = made; ran = ran; each = each; between = between; making = making; sessions = sessions; returned = returned }

    pub tells-all : {V : Type 0} (items : V → List (List Snapshot)) (told : Result V AttachAllFault) → length made ≡ length dialled → Made tells dialled before between made
        → AreRun tells.state tells.faults items takes 0 made ran told → Returned tells ran between now → now.state.back ≡ ending_with_all ran between.state.back
        → ((all : List (List (List ℕ))) → AllTell tells.state made all → TellsRuns items takes all told)
        → Tells tells takes dialled before now (plain items told)
    tells-all items told each making run returned back runs = record {
      answers = run.answers;
      visits = visits run.answers each making run.sessions returned;
      gathered = gathers-plain items told run.answers run.told;
      back = back ∙ ap (ending_with_all ran) making.back;
      counts = counts-plain items told (counts-told made ran run.answers before now items told making.fresh run.sessions run.told
          (returned.faults ∙ ap (counted_all (map (has_failed tells) ran)) making.faults)
          (returned.closed ∙ ap (counted_all (map (is_closed tells) ran)) making.closed));
      runs = λ all tell. runs-plain items all told (runs all tell);
    }
      where
        gathers-plain : {V : Type 0} (items : V → List (List Snapshot)) (told : Result V AttachAllFault) (answers : List (Result (List Snapshot) AttachFault))
            → Gathers items 0 answers told → Gathers (λ (taken : List (List Snapshot)). taken) 0 answers (plain items told)
        gathers-plain items (Ok taken) answers g = g
        gathers-plain items (Err fault) answers g = g

        counts-plain : {V : Type 0} (items : V → List (List Snapshot)) (told : Result V AttachAllFault) → Counts before now told → Counts before now (plain items told)
        counts-plain items (Ok taken) c = c
        counts-plain items (Err fault) c = c

        runs-plain : {V : Type 0} (items : V → List (List Snapshot)) (all : List (List (List ℕ))) (told : Result V AttachAllFault)
            → TellsRuns items takes all told → TellsRuns (λ (taken : List (List Snapshot)). taken) takes all (plain items told)
        runs-plain items all (Ok taken) t = t
        runs-plain items all (Err fault) t = t

    -- ---- what comes of it, where the links were written back

    rewritten : {V : Type 0} (items : V → List (List Snapshot)) (told : Result V AttachAllFault) (len : ℕ) → len ≡ length made
        → AreRun tells.state tells.faults items takes 0 made ran told → take len (ran ++ drop (length ran) made) ≡ ran
    rewritten items told len fits run =
        let same : length ran ≡ length made = ran-length made ran run.answers run.sessions in
        ap (λ xs. take len (ran ++ xs)) (drop_all (length ran) made (omega (arith, same)))
        ∙ (ap (take len) (append-nil ran) ∙ take_all len ran (omega (arith, same, fits)))

    pub came_short : {V : Type 0} (items : V → List (List Snapshot)) (told : Result V AttachAllFault) (len : ℕ) → len ≡ length made → Made tells dialled before between made
        → length made ≡ length dialled → AreRun tells.state tells.faults items takes 0 made ran told
        → Returned tells (take len (ran ++ drop (length ran) made)) between now → Attends tells takes dialled before now (Err places.NoMemory)
    came_short items told len fits making each run returned =
        inr (run.answers, visits run.answers each making run.sessions (subst (λ links. Returned tells links between now) (rewritten items told len fits run) returned))

    came : {V : Type 0} (items : V → List (List Snapshot)) (told : Result V AttachAllFault) (len : ℕ) → len ≡ length made → Made tells dialled before between made
        → length made ≡ length dialled → AreRun tells.state tells.faults items takes 0 made ran told
        → Returned tells (take len (ran ++ drop (length ran) made)) between now
        → now.state.back ≡ ending_with_all (take len (ran ++ drop (length ran) made)) between.state.back
        → ((all : List (List (List ℕ))) → AllTell tells.state made all → TellsRuns items takes all told)
        → Tells tells takes dialled before now (plain items told)
    came items told len fits making each run returned back runs =
        let is = rewritten items told len fits run in
        tells-all items told each making run (subst (λ links. Returned tells links between now) is returned)
        (back ∙ ap (λ links. ending_with_all links between.state.back) is) runs

    pub came_taken : {V : Type 0} (items : V → List (List Snapshot)) (told : Result V AttachAllFault) (taken : V) → told ≡ Ok taken → (len : ℕ) → len ≡ length made
        → Made tells dialled before between made → length made ≡ length dialled → AreRun tells.state tells.faults items takes 0 made ran told
        → Returned tells (take len (ran ++ drop (length ran) made)) between now
        → now.state.back ≡ ending_with_all (take len (ran ++ drop (length ran) made)) between.state.back
        → ((all : List (List (List ℕ))) → AllTell tells.state made all → TellsRuns items takes all told)
        → Attends tells takes dialled before now (Ok (items taken))
    came_taken {V} items told taken is len fits making each run returned back runs =
        subst (λ (r : Result V AttachAllFault). Tells tells takes dialled before now (plain items r)) is (came items told len fits making each run returned back runs)

    pub came_told : {V : Type 0} (items : V → List (List Snapshot)) (told : Result V AttachAllFault) (fault : AttachAllFault) → told ≡ Err fault → (len : ℕ) → len ≡ length made
        → Made tells dialled before between made → length made ≡ length dialled → AreRun tells.state tells.faults items takes 0 made ran told
        → Returned tells (take len (ran ++ drop (length ran) made)) between now
        → now.state.back ≡ ending_with_all (take len (ran ++ drop (length ran) made)) between.state.back
        → ((all : List (List (List ℕ))) → AllTell tells.state made all → TellsRuns items takes all told)
        → Attends tells takes dialled before now (Err (places.Session fault))
    came_told {V} items told fault is len fits making each run returned back runs =
        subst (λ (r : Result V AttachAllFault). Tells tells takes dialled before now (plain items r)) is (came items told len fits making each run returned back runs)
