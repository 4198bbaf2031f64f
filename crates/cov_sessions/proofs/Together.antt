-- Sessions that were served, each in its place: what they come to together.
use Rattle.std.proofs.Common.{◌≡◌, ℕ, zero, suc, ◌+◌, ◌*◌, ◌-◌, ◌<◌, List, [], ◌∷◌, ◌++◌, length, map, get_or, refl, sym, ap, ◌∙◌, subst, subst₂, arith, inl, inr, length-append}
use Rattle.std.specs.Prelude.{◌⊎◌, Option, None, Some, Result, Ok, Err, IfOk, IfErr, min, sum_by}
use Rattle.std.proofs.lemmas.List.Sums.{sum_by-append, sum_by-cons}
use Rattle.cov_text.specs.Listing.{counted}
use Rattle.cov_model.specs.declared.snapshot.Snapshot.{Snapshot}
use Rattle.cov_io.specs.declared.link.LinkFault.{LinkFault}
use Rattle.cov_links.specs.Together.{Telling}
use Rattle.cov_session.specs.declared.session.Take.{Take}
use Rattle.cov_session.specs.declared.session.Tally.{Tally}
use Rattle.cov_session.specs.Machine.{State, replied, size_of, tally_of}
use Rattle.cov_serve.specs.Seats.{Gains, Seated, new_seat}
use Rattle.cov_serve.specs.Served.{start_of, starts_of}
use Rattle.cov_serve.specs.Serving.{Ends}
use Rattle.cov_sessions.specs.Seating.{SeatsTell, outcome_of}
use Rattle.cov_sessions.specs.Sessions.{AreSessions, HasServed, IsSession, Outcome, Plays, Tells, least_fault, taken_tally, takes_of}

-- ---- one session

module _ {L : Type 0} (tells : Telling L) (tape : List Snapshot) (pace : ℕ) where
  abbrev EndsAt : L → L → Seated → Seated → Option Outcome → Type 0
  EndsAt old now before left outcome = Ends tape pace (tells.state old) (tells.state now) (tells.faults old) (tells.faults now) before left outcome

  one : (n : ℕ) (old now : L) (before left : Seated) (outcome : Option Outcome) → before ≡ new_seat n → EndsAt old now before left outcome
      → IsSession tells tape pace n old now (outcome_of outcome)
  one n old now before left None is ends = absurd ends
  one n old now before left (Some outcome) is ends = record { left = left; ends = subst (λ s. EndsAt old now s left (Some outcome)) is ends }

  -- what its seat has gained, where it came to its end
  gained : (n : ℕ) (old now : L) (before left : Seated) (outcome : Option Outcome) → before ≡ new_seat n → EndsAt old now before left outcome
      → (takes : List Take) → outcome_of outcome ≡ Ok takes → Gains (new_seat n) left takes
  gained n old now before left None is ends takes e = absurd ends
  gained n old now before left (Some (Ok made)) is ends takes e =
      subst (λ ts. Gains (new_seat n) left ts) (let same : made ≡ takes = cc in same) (subst (λ s. Gains s left made) is ends.gains)
  gained n old now before left (Some (Err fault)) is ends takes e = absurd cc

  -- ---- all

  module _ {X : Type 0} (link : X → L) (seat : X → Seated) (outcome : X → Option Outcome) where
    abbrev said : X → Outcome
    said x = outcome_of (outcome x)

    abbrev AllEnd : List X → List X → Type 0
    AllEnd olds nows =
        (i : ℕ) (d : X) → i < length olds
        → EndsAt (link (get_or olds i d)) (link (get_or nows i d)) (seat (get_or olds i d)) (seat (get_or nows i d)) (outcome (get_or nows i d))

    abbrev AreSeated : ℕ → List X → Type 0
    AreSeated n olds = map seat olds ≡ map new_seat (counted n (length olds))

    first-seat : (n : ℕ) (x : X) (olds : List X) → AreSeated n (x ∷ olds) → seat x ≡ new_seat n
    first-seat n x olds e = cc

    later-seats : (n : ℕ) (x : X) (olds : List X) → AreSeated n (x ∷ olds) → AreSeated (suc n) olds
    later-seats n x olds e = cc

    later-ends : (x y : X) (olds nows : List X) → AllEnd (x ∷ olds) (y ∷ nows) → AllEnd olds nows
    later-ends x y olds nows ends i d lt = ends (suc i) d (omega (arith, lt))

    pub sessions-are : (n : ℕ) (olds nows : List X) → length nows ≡ length olds → AreSeated n olds → AllEnd olds nows
        → AreSessions tells tape pace n (map link olds) (map link nows) (map said nows)
    sessions-are n [] [] same seats ends = tt
    sessions-are n [] (y ∷ nows) same seats ends = absurd (omega (arith, same))
    sessions-are n (x ∷ olds) [] same seats ends = absurd (omega (arith, same))
    sessions-are n (x ∷ olds) (y ∷ nows) same seats ends = (
      one n (link x) (link y) (seat x) (seat y) (outcome y) (first-seat n x olds seats) (ends 0 x (omega arith)),
      sessions-are (suc n) olds nows (omega (arith, same)) (later-seats n x olds seats) (later-ends x y olds nows ends),
    )

    -- a share of the seats is what it is of all takes, where each session came to its end
    module _ (share : Seated → ℕ) (measure : List Take → ℕ) (none : measure [] ≡ 0) (both : (xs ys : List Take) → measure (xs ++ ys) ≡ measure xs + measure ys)
        (gains : (n : ℕ) (left : Seated) (takes : List Take) → Gains (new_seat n) left takes → share left ≡ measure takes) where
      shared-step : (n : ℕ) (x y : X) (nows : List X) (o : Outcome) → said y ≡ o → seat x ≡ new_seat n → EndsAt (link x) (link y) (seat x) (seat y) (outcome y)
          → least_fault (o ∷ map said nows) ≡ None → (least_fault (map said nows) ≡ None → sum_by share (map seat nows) ≡ measure (takes_of (map said nows)))
          → sum_by share (seat y ∷ map seat nows) ≡ measure (takes_of (o ∷ map said nows))
      shared-step n x y nows (Ok takes) is first ends e rest =
          let here = gains n (seat y) takes (gained n (link x) (link y) (seat x) (seat y) (outcome y) first ends takes is) in
          sum_by-cons share (seat y) (map seat nows) ∙ (λ i. here i + rest e i) ∙ sym (both takes (takes_of (map said nows)))
      shared-step n x y nows (Err fault) is first ends e rest = absurd cc

      shared : (n : ℕ) (olds nows : List X) → length nows ≡ length olds → AreSeated n olds → AllEnd olds nows
          → least_fault (map said nows) ≡ None → sum_by share (map seat nows) ≡ measure (takes_of (map said nows))
      shared n [] [] same seats ends e = sym none
      shared n [] (y ∷ nows) same seats ends e = absurd (omega (arith, same))
      shared n (x ∷ olds) [] same seats ends e = absurd (omega (arith, same))
      shared n (x ∷ olds) (y ∷ nows) same seats ends e =
          shared-step n x y nows (said y) refl (first-seat n x olds seats) (ends 0 x (omega arith)) e
          (λ f. shared (suc n) olds nows (omega (arith, same)) (later-seats n x olds seats) (later-ends x y olds nows ends) f)

    -- ---- the tally

    pub tells-all : (sessions : ℕ) (olds nows : List X) (tally : Tally) → length nows ≡ length olds → AreSeated 0 olds → AllEnd olds nows → least_fault (map said nows) ≡ None
        → SeatsTell tape pace sessions (map seat nows) tally → Tells tape pace sessions (takes_of (map said nows)) tally
    tells-all sessions olds nows tally same seats ends e told =
        let takes = takes_of (map said nows) in
        let target = told.target in
        let taken : length target.takes ≡ length takes = told.takes ∙ shared (λ s. s.takes) length refl (λ xs ys. length-append xs ys) (λ n left ts g. let e = g.takes in omega (arith, e)) 0 olds nows same seats ends e in
        let frames : replied target.takes ≡ replied takes = told.frames ∙ shared (λ s. s.frames) replied refl (λ xs ys. sum_by-append size_of xs ys) (λ n left ts g. let e = g.frames in omega (arith, e)) 0 olds nows same seats ends e in
        let starts : starts_of target.takes ≡ starts_of takes = told.starts ∙ shared (λ s. s.starts) starts_of refl (λ xs ys. sum_by-append start_of xs ys) (λ n left ts g. let e = g.starts in omega (arith, e)) 0 olds nows same seats ends e in
        let since : target.since ≡ min (length tape) (pace * length takes) = told.served.since ∙ ap (λ n. min (length tape) (pace * n)) taken in
        record {
          target = target;
          closed = record { served = told.served; taken = taken; frames = frames; starts = starts };
          is = told.is;
          numbers = told.is ∙ numbers target (length takes) since told.served.played told.served.discarded told.served.unwatched told.all;
          frames = ap (λ (t : Tally). t.replied) told.is ∙ frames;
        }
      where
        numbers : (target : State) (count : ℕ) → target.since ≡ min (length tape) (pace * count) → target.played ≡ target.since → target.discarded ≡ 0 → target.unwatched ≡ 0
            → replied target.takes + target.discarded + target.unwatched ≡ target.since → tally_of target ≡ taken_tally tape pace count
        numbers target count since played discarded unwatched all =
            let replied_is : replied target.takes ≡ target.since = omega (arith, all, discarded, unwatched) in
            let held_is : target.played - target.since ≡ 0 = omega (arith, played) in
            λ i. record { played = (played ∙ since) i; replied = (replied_is ∙ since) i; discarded = discarded i; unwatched = unwatched i; held = held_is i }

    -- what is told of all
    pub plays : (sessions : ℕ) (olds nows : List X) (made ran : List L) (fault : Option LinkFault) (told : Result Tally LinkFault) → length nows ≡ length olds → AreSeated 0 olds → AllEnd olds nows
        → map link olds ≡ made → ran ≡ map link nows → fault ≡ least_fault (map said nows)
        → IfOk told (λ tally. (fault ≡ None) × SeatsTell tape pace sessions (map seat nows) tally) → IfErr told (λ why. fault ≡ Some why)
        → Plays tells tape pace sessions made ran told
    plays sessions olds nows made ran fault (Ok tally) same seats ends links back least ok err =
        let none = sym least ∙ ok.0 in (
          map said nows,
          subst₂ (λ xs ys. AreSessions tells tape pace 0 xs ys (map said nows)) links (sym back) (sessions-are 0 olds nows same seats ends),
          none,
          tells-all sessions olds nows tally same seats ends none ok.1,
        )
    plays sessions olds nows made ran fault (Err why) same seats ends links back least ok err =
        inr (
          map said nows,
          subst₂ (λ xs ys. AreSessions tells tape pace 0 xs ys (map said nows)) links (sym back) (sessions-are 0 olds nows same seats ends),
          sym least ∙ err,
        )

-- ---- as many seats as sessions

pub seats-length : (n start : ℕ) → length (map new_seat (counted start n)) ≡ n
seats-length zero start = refl
seats-length (suc n) start = ap suc (seats-length n (suc start))
