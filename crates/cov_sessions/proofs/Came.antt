-- What a net tells of links that were made by listening, served and handed back.
use Rattle.std.proofs.Common.{◌≡◌, ℕ, zero, suc, ◌+◌, ◌≤◌, ◌<◌, ◌-◌, ◌^◌, Bool, true, false, not, List, [], ◌∷◌, length, map, refl, sym, ap, ◌∙◌, subst, arith, inl, inr}
use Rattle.std.specs.Prelude.{◌⊎◌, Option, None, Some, Result, Ok, Err, IfOk, IfErr, min, ◌==◌, slice_index_or}
use Rattle.cov_model.specs.declared.snapshot.Snapshot.{Snapshot}
use Rattle.cov_io.specs.Causes.{Rose}
use Rattle.cov_io.specs.Links.{IsNew, counted_if}
use Rattle.cov_io.specs.declared.link.LinkFault.{LinkFault}
use Rattle.cov_io.specs.declared.link.LinkFault.TheVariants.{Failed, NoMemory}
use Rattle.cov_links.specs.Together.{NetAt, Telling, Made, Returned, counted_all, has_failed, is_closed, ending_with_all}
use Rattle.cov_session.specs.declared.session.Tally.{Tally}
use Rattle.cov_sessions.specs.Sessions.{AreSessions, IsSession, Outcome, Plays, Replayed, Unreplayed, Visits, least_fault}
use Rattle.cov_sessions.proofs.Counts.{counted-each, rose-first, rose-later}

module _ {L : Type 0} (tells : Telling L) (tape : List Snapshot) (pace : ℕ) where
  -- the links are new
  abbrev AreNew : List L → Type 0
  AreNew links = (k : ℕ) (d : L) → k < length links → IsNew (tells.state (slice_index_or links k d)) (tells.faults (slice_index_or links k d))

  later-new : (x : L) (links : List L) → AreNew (x ∷ links) → AreNew links
  later-new x links new k d le = new (suc k) d (omega (arith, le))

  first-new : (x : L) (links : List L) → AreNew (x ∷ links) → IsNew (tells.state x) (tells.faults x)
  first-new x links new = new 0 x (omega arith)

  abbrev Are : ℕ → List L → List L → List Outcome → Type 0
  Are n olds nows outcomes = AreSessions tells tape pace n olds nows outcomes

  ran-length : (n : ℕ) (olds nows : List L) (outcomes : List Outcome) → Are n olds nows outcomes → length nows ≡ length olds
  ran-length n [] [] [] are = refl
  ran-length n (x ∷ olds) (y ∷ nows) (o ∷ outcomes) are = ap suc (ran-length (suc n) olds nows outcomes are.1)
  ran-length n [] (y ∷ nows) outcomes are = absurd are
  ran-length n [] [] (o ∷ outcomes) are = absurd are
  ran-length n (x ∷ olds) [] outcomes are = absurd are
  ran-length n (x ∷ olds) (y ∷ nows) [] are = absurd are

  unfailed : (old now : L) → tells.faults old ≡ 0 → tells.faults now ≡ tells.faults old → has_failed tells now ≡ false
  unfailed old now e same = ap (λ n. not (n == 0)) (same ∙ e)

  failed : (old now : L) → tells.faults old ≡ 0 → Rose (tells.faults old) (tells.faults now) → has_failed tells now ≡ true
  failed old now e rose = by (tells.faults now) (subst (λ n. Rose n (tells.faults now)) e rose)
    where
      by : (n : ℕ) → Rose 0 n → not (n == 0) ≡ true
      by zero r = absurd (omega (arith, r))
      by (suc n) r = grind arith

  -- where each session came to its end, no link has failed
  none-failed : (n : ℕ) (olds nows : List L) (outcomes : List Outcome) (count : ℕ) → AreNew olds → Are n olds nows outcomes → least_fault outcomes ≡ None
      → counted_all (map (has_failed tells) nows) count ≡ count
  none-failed n [] [] [] count new are e = refl
  none-failed n (x ∷ olds) (y ∷ nows) (Ok takes ∷ outcomes) count new are e =
      ap (λ b. counted_all (map (has_failed tells) nows) (counted_if b count)) (unfailed x y (first-new x olds new).sound are.0.ends.sound)
      ∙ none-failed (suc n) olds nows outcomes count (later-new x olds new) are.1 e
  none-failed n (x ∷ olds) (y ∷ nows) (Err fault ∷ outcomes) count new are e = absurd cc
  none-failed n [] (y ∷ nows) outcomes count new are e = absurd are
  none-failed n [] [] (o ∷ outcomes) count new are e = absurd are
  none-failed n (x ∷ olds) [] outcomes count new are e = absurd are
  none-failed n (x ∷ olds) (y ∷ nows) [] count new are e = absurd are

  -- and each is closed
  all-closed : (n : ℕ) (olds nows : List L) (outcomes : List Outcome) → Are n olds nows outcomes → least_fault outcomes ≡ None
      → map (is_closed tells) nows ≡ map (λ (link : L). true) nows
  all-closed n [] [] [] are e = refl
  all-closed n (x ∷ olds) (y ∷ nows) (Ok takes ∷ outcomes) are e = λ i. are.0.ends.closed i ∷ all-closed (suc n) olds nows outcomes are.1 e i
  all-closed n (x ∷ olds) (y ∷ nows) (Err fault ∷ outcomes) are e = absurd cc
  all-closed n [] (y ∷ nows) outcomes are e = absurd are
  all-closed n [] [] (o ∷ outcomes) are e = absurd are
  all-closed n (x ∷ olds) [] outcomes are e = absurd are
  all-closed n (x ∷ olds) (y ∷ nows) [] are e = absurd are

  -- a failed link is counted
  fault-counted : (n : ℕ) (olds nows : List L) (outcomes : List Outcome) (count : ℕ) → AreNew olds → Are n olds nows outcomes → least_fault outcomes ≡ Some Failed
      → Rose count (counted_all (map (has_failed tells) nows) count)
  fault-counted n [] [] [] count new are e = absurd cc
  fault-counted n (x ∷ olds) (y ∷ nows) (Ok takes ∷ outcomes) count new are e =
      rose-later (has_failed tells y) (map (has_failed tells) nows) count (unfailed x y (first-new x olds new).sound are.0.ends.sound)
      (fault-counted (suc n) olds nows outcomes count (later-new x olds new) are.1 e)
  fault-counted n (x ∷ olds) (y ∷ nows) (Err fault ∷ outcomes) count new are e =
      rose-first (has_failed tells y) (map (has_failed tells) nows) count
      (failed x y (first-new x olds new).sound (are.0.ends (let same : fault ≡ Failed = cc in same)))
  fault-counted n [] (y ∷ nows) outcomes count new are e = absurd are
  fault-counted n [] [] (o ∷ outcomes) count new are e = absurd are
  fault-counted n (x ∷ olds) [] outcomes count new are e = absurd are
  fault-counted n (x ∷ olds) (y ∷ nows) [] count new are e = absurd are

  closed-all : (links : List L) (count sessions : ℕ) → length links ≡ sessions → 1 ≤ sessions → map (is_closed tells) links ≡ map (λ (link : L). true) links
      → counted_all (map (is_closed tells) links) count ≡ min (count + sessions) (2 ^ 64 - 1)
  closed-all [] count sessions same some all = absurd (omega (arith, same, some))
  closed-all (x ∷ links) count sessions same some all =
      ap (λ bs. counted_all bs count) all ∙ counted-each x links count ∙ ap (λ n. min (count + n) (2 ^ 64 - 1)) same

  -- ---- the whole

  module _ (sessions : ℕ) (before between now : NetAt L) (made ran : List L) (each : length made ≡ sessions) (some : 1 ≤ sessions)
      (making : Made tells [] before between made) (returned : Returned tells ran between now) where
    abbrev visits : Visits tells sessions before now
    visits = record { made = made; ran = ran; each = each; between = between; making = making; returned = returned }

    -- what comes of what is told
    abbrev Comes : Result Tally LinkFault → Type 0
    Comes (Ok tally) = Replayed tells tape pace sessions before now tally
    Comes (Err fault) = Unreplayed tells tape pace sessions before now fault

    came : (told : Result Tally LinkFault) → Plays tells tape pace sessions made ran told → now.state.back ≡ ending_with_all ran between.state.back
        → Comes told
    came (Ok tally) plays back =
        let none = plays.2 in
        record {
          visits = visits;
          outcomes = plays.0;
          served = plays.1;
          all = none;
          told = plays.3;
          back = back ∙ ap (ending_with_all ran) making.back;
          closed =
              returned.closed ∙ ap (counted_all (map (is_closed tells) ran)) making.closed
              ∙ closed-all ran before.state.closed sessions (ran-length 0 made ran plays.0 plays.1 ∙ each) some (all-closed 0 made ran plays.0 plays.1 none);
          faults = returned.faults ∙ ap (counted_all (map (has_failed tells) ran)) making.faults ∙ none-failed 0 made ran plays.0 before.faults making.fresh plays.1 none;
        }
    came (Err fault) (inl short) back = inr (inr (short.0, visits))
    came (Err fault) (inr broken) back =
        inr (inl (record {
          visits = visits;
          outcomes = broken.0;
          served = broken.1;
          least = broken.2;
          back = back ∙ ap (ending_with_all ran) making.back;
          rose = λ is. subst (Rose before.faults)
              (sym (returned.faults ∙ ap (counted_all (map (has_failed tells) ran)) making.faults))
              (fault-counted 0 made ran broken.0 before.faults making.fresh broken.1 (broken.2 ∙ ap Some is));
        }))

    pub came-ok : (told : Result Tally LinkFault) → Plays tells tape pace sessions made ran told → now.state.back ≡ ending_with_all ran between.state.back
        → IfOk told (λ tally. Replayed tells tape pace sessions before now tally)
    came-ok (Ok tally) plays back = came (Ok tally) plays back
    came-ok (Err fault) plays back = tt

    pub came-err : (told : Result Tally LinkFault) → Plays tells tape pace sessions made ran told → now.state.back ≡ ending_with_all ran between.state.back
        → IfErr told (λ fault. Unreplayed tells tape pace sessions before now fault)
    came-err (Ok tally) plays back = tt
    came-err (Err fault) plays back = came (Err fault) plays back
