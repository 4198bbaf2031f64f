-- The sessions of two parts are those of the whole.
use Rattle.std.proofs.Common.{◌≡◌, ℕ, suc, ◌+◌, List, [], ◌∷◌, ◌++◌, length, refl, sym, ap, subst, ◌∙◌, arith}
use Rattle.std.proofs.lemmas.List.Elements.{filter_map-append}
use Rattle.std.specs.Prelude.{Option, None, Some, filter_map, Result, Ok, Err}
use Rattle.std.specs.Result.{result_ok}
use Rattle.cov_model.specs.declared.snapshot.Snapshot.{Snapshot}
use Rattle.cov_io.specs.Links.{LinkState}
use Rattle.cov_attach.specs.declared.fault.AttachFault.{AttachFault}
use Rattle.cov_attach.specs.declared.fault.AttachFault.TheVariants.{Failed, Closed, Peer, NoMemory}
use Rattle.cov_attach.specs.declared.fault.AttachAllFault.{AttachAllFault}
use Rattle.cov_attach.specs.Gathered.{AreSessions, AreRun, Gathers, FaultTold, least_fault, AllTell, run_ends, stop_of, StopTold, TellsRuns}
use Rattle.cov_attach.specs.Runs.{run_end}
use Rattle.cov_attach.specs.Sessions.{FaultOf}

pub both_run : {L : Type 0} (state : L → LinkState) (faults : L → ℕ) (takes : ℕ) (xs ys xs' ys' : List L) (a b : List (Result (List Snapshot) AttachFault))
    → AreSessions state faults takes xs ys a → AreSessions state faults takes xs' ys' b → AreSessions state faults takes (xs ++ xs') (ys ++ ys') (a ++ b)
both_run state faults takes [] [] xs' ys' [] b p q = q
both_run state faults takes (x ∷ xs) (y ∷ ys) xs' ys' (r ∷ a) b p q = (p.0, p.1, both_run state faults takes xs ys xs' ys' a b p.2 q)
both_run state faults takes [] (y ∷ ys) xs' ys' a b p q = absurd p
both_run state faults takes [] [] xs' ys' (r ∷ a) b p q = absurd p
both_run state faults takes (x ∷ xs) [] xs' ys' a b p q = absurd p
both_run state faults takes (x ∷ xs) (y ∷ ys) xs' ys' [] b p q = absurd p

-- the least fault of two parts
abbrev or_else : Option AttachAllFault → Option AttachAllFault → Option AttachAllFault
or_else None later = later
or_else (Some fault) later = Some fault

least_of_both : {A : Type 0} (n m : ℕ) (a b : List (Result A AttachFault)) → n + length a ≡ m → least_fault n (a ++ b) ≡ or_else (least_fault n a) (least_fault m b)
least_of_both n m [] b e = let same : n ≡ m = omega (arith, e) in ap (λ k. least_fault k b) same
least_of_both n m (Ok x ∷ a) b e = least_of_both (n + 1) m a b (omega (arith, e))
least_of_both n m (Err fault ∷ a) b e = refl

told_first : (told : AttachAllFault) (fault : AttachFault) (o later : Option AttachAllFault) → FaultTold told fault o → FaultTold told fault (or_else o later)
told_first told NoMemory o later e = tt
told_first told Failed o later e = ap (λ x. or_else x later) e
told_first told Closed o later e = ap (λ x. or_else x later) e
told_first told (Peer message why) o later e = ap (λ x. or_else x later) e

pub told_alone : (session : ℕ) (fault : AttachFault) → FaultTold (record { session = session; fault = fault }) fault (Some (record { session = session; fault = fault }))
told_alone session Failed = refl
told_alone session Closed = refl
told_alone session (Peer message why) = refl
told_alone session NoMemory = tt

pub front_told : {A : Type 0} (n m : ℕ) (a b : List (Result A AttachFault)) (told : AttachAllFault) → n + length a ≡ m
    → FaultTold told told.fault (least_fault n a) → FaultTold told told.fault (least_fault n (a ++ b))
front_told n m a b told e f = subst (FaultTold told told.fault) (sym (least_of_both n m a b e)) (told_first told told.fault (least_fault n a) (least_fault m b) f)

pub back_told : {A : Type 0} (n m : ℕ) (a b : List (Result A AttachFault)) (told : AttachAllFault) → n + length a ≡ m
    → least_fault n a ≡ None → FaultTold told told.fault (least_fault m b) → FaultTold told told.fault (least_fault n (a ++ b))
back_told n m a b told e none f =
    subst (FaultTold told told.fault) (sym (least_of_both n m a b e ∙ ap (λ o. or_else o (least_fault m b)) none)) f

pub none_told : {A : Type 0} (n m : ℕ) (a b : List (Result A AttachFault)) → n + length a ≡ m → least_fault n a ≡ None → least_fault m b ≡ None
    → least_fault n (a ++ b) ≡ None
none_told n m a b e none also = least_of_both n m a b e ∙ (ap (λ o. or_else o (least_fault m b)) none ∙ also)

pub all_taken : {A : Type 0} (a b : List (Result A AttachFault)) (xs ys : List A) → xs ≡ filter_map result_ok a → ys ≡ filter_map result_ok b
    → xs ++ ys ≡ filter_map result_ok (a ++ b)
all_taken a b xs ys e f = ap (λ zs. zs ++ ys) e ∙ (ap (λ zs. filter_map result_ok a ++ zs) f ∙ sym (filter_map-append result_ok a b))

answers_each : {L : Type 0} (state : L → LinkState) (faults : L → ℕ) (takes : ℕ) (xs ys : List L) (a : List (Result (List Snapshot) AttachFault))
    → AreSessions state faults takes xs ys a → length a ≡ length xs
answers_each state faults takes [] [] [] p = refl
answers_each state faults takes (x ∷ xs) (y ∷ ys) (r ∷ a) p = ap suc (answers_each state faults takes xs ys a p.2)
answers_each state faults takes [] (y ∷ ys) a p = absurd p
answers_each state faults takes [] [] (r ∷ a) p = absurd p
answers_each state faults takes (x ∷ xs) [] a p = absurd p
answers_each state faults takes (x ∷ xs) (y ∷ ys) [] p = absurd p

-- two parts that were run are a run of both, where this is told of both
pub are_run : {L V : Type 0} (state : L → LinkState) (faults : L → ℕ) (items : V → List (List Snapshot)) (takes first middle : ℕ) (xs ys xs' ys' : List L)
    (front back result : Result V AttachAllFault) → AreRun state faults items takes first xs ys front → AreRun state faults items takes middle xs' ys' back
    → middle ≡ first + length xs
    → ((n : ℕ) (a b : List (Result (List Snapshot) AttachFault)) → n + length a ≡ middle → Gathers items n a front → Gathers items middle b back → Gathers items n (a ++ b) result)
    → AreRun state faults items takes first (xs ++ xs') (ys ++ ys') result
are_run state faults items takes first middle xs ys xs' ys' front back result p q e both = record {
  answers = p.answers ++ q.answers;
  sessions = both_run state faults takes xs ys xs' ys' p.answers q.answers p.sessions q.sessions;
  told = both first p.answers q.answers (omega (arith, e, answers_each state faults takes xs ys p.answers p.sessions)) p.told q.told;
}

-- ---- links that tell their texts

ran_so : {L : Type 0} (state : L → LinkState) (faults : L → ℕ) (takes n : ℕ) (xs ys : List L) (a : List (Result (List Snapshot) AttachFault))
    (all : List (List (List ℕ))) → AreSessions state faults takes xs ys a → AllTell state xs all → least_fault n a ≡ None
    → (least_fault n (run_ends takes all) ≡ None) × (filter_map result_ok a ≡ filter_map result_ok (run_ends takes all))
ran_so state faults takes n [] [] [] [] p q e = (refl, refl)
ran_so state faults takes n (x ∷ xs) (y ∷ ys) (Ok taken ∷ a) (texts ∷ all) p q e =
    let rest = ran_so state faults takes (n + 1) xs ys a all p.2 q.1 e in
    let is : run_end takes texts ≡ Ok taken = p.0.answer texts q.0 in (
      ap (λ r. least_fault n (r ∷ run_ends takes all)) is ∙ rest.0,
      ap (λ zs. taken ∷ zs) rest.1 ∙ ap (λ r. filter_map result_ok (r ∷ run_ends takes all)) (sym is),
    )
ran_so state faults takes n (x ∷ xs) (y ∷ ys) (Err fault ∷ a) (texts ∷ all) p q e = cc
ran_so state faults takes n [] [] [] (texts ∷ all) p q e = absurd q
ran_so state faults takes n (x ∷ xs) (y ∷ ys) (r ∷ a) [] p q e = absurd q
ran_so state faults takes n [] (y ∷ ys) a all p q e = absurd p
ran_so state faults takes n [] [] (r ∷ a) all p q e = absurd p
ran_so state faults takes n (x ∷ xs) [] a all p q e = absurd p
ran_so state faults takes n (x ∷ xs) (y ∷ ys) [] all p q e = absurd p

-- the first fault is the end of its run
first_so : (n takes : ℕ) (fault : AttachFault) (texts : List (List ℕ)) (rest : List (Result (List Snapshot) AttachFault))
    → FaultOf fault (run_end takes texts)
    → StopTold (record { session = n; fault = fault }) fault (least_fault n (run_end takes texts ∷ rest))
first_so n takes Failed texts rest e = tt
first_so n takes NoMemory texts rest e = tt
first_so n takes Closed texts rest e = ap (λ r. least_fault n (r ∷ rest)) e
first_so n takes (Peer message why) texts rest e = ap (λ r. least_fault n (r ∷ rest)) e

stopped_so : {L : Type 0} (state : L → LinkState) (faults : L → ℕ) (takes n : ℕ) (xs ys : List L) (a : List (Result (List Snapshot) AttachFault))
    (all : List (List (List ℕ))) (told : AttachAllFault) → AreSessions state faults takes xs ys a → AllTell state xs all → least_fault n a ≡ Some told
    → StopTold told told.fault (least_fault n (run_ends takes all))
stopped_so state faults takes n [] [] [] [] told p q e = cc
stopped_so state faults takes n (x ∷ xs) (y ∷ ys) (Ok taken ∷ a) (texts ∷ all) told p q e =
    let is : run_end takes texts ≡ Ok taken = p.0.answer texts q.0 in
    subst (StopTold told told.fault) (ap (λ r. least_fault n (r ∷ run_ends takes all)) (sym is))
    (stopped_so state faults takes (n + 1) xs ys a all told p.2 q.1 e)
stopped_so state faults takes n (x ∷ xs) (y ∷ ys) (Err fault ∷ a) (texts ∷ all) told p q e =
    subst (λ t. StopTold t t.fault (least_fault n (run_ends takes (texts ∷ all)))) (some_is _ _ e)
    (first_so n takes fault texts (run_ends takes all) (p.0.answer texts q.0))
  where
    some_is : (s t : AttachAllFault) → Some s ≡ Some t → s ≡ t
    some_is s t e = cc
stopped_so state faults takes n [] [] [] (texts ∷ all) told p q e = absurd q
stopped_so state faults takes n (x ∷ xs) (y ∷ ys) (r ∷ a) [] told p q e = absurd q
stopped_so state faults takes n [] (y ∷ ys) a all told p q e = absurd p
stopped_so state faults takes n [] [] (r ∷ a) all told p q e = absurd p
stopped_so state faults takes n (x ∷ xs) [] a all told p q e = absurd p
stopped_so state faults takes n (x ∷ xs) (y ∷ ys) [] all told p q e = absurd p

-- what was told of the answers, where memory didn't run out
told_stop : {L : Type 0} (state : L → LinkState) (faults : L → ℕ) (takes : ℕ) (xs ys : List L) (a : List (Result (List Snapshot) AttachFault))
    (all : List (List (List ℕ))) (told : AttachAllFault) (fault : AttachFault) → told.fault ≡ fault → AreSessions state faults takes xs ys a
    → AllTell state xs all → FaultTold told fault (least_fault 0 a) → StopTold told fault (stop_of takes all)
told_stop state faults takes xs ys a all told NoMemory is p q e = tt
told_stop state faults takes xs ys a all told Failed is p q e = tt
told_stop state faults takes xs ys a all told Closed is p q e =
    subst (λ f. StopTold told f (stop_of takes all)) is (stopped_so state faults takes 0 xs ys a all told p q e)
told_stop state faults takes xs ys a all told (Peer message why) is p q e =
    subst (λ f. StopTold told f (stop_of takes all)) is (stopped_so state faults takes 0 xs ys a all told p q e)

pub tells_runs : {L V : Type 0} (state : L → LinkState) (faults : L → ℕ) (items : V → List (List Snapshot)) (takes : ℕ) (xs ys : List L)
    (all : List (List (List ℕ))) (result : Result V AttachAllFault) → AreRun state faults items takes 0 xs ys result → AllTell state xs all
    → TellsRuns items takes all result
tells_runs state faults items takes xs ys all (Ok taken) run told =
    let so = ran_so state faults takes 0 xs ys run.answers all run.sessions told run.told.0 in
    (so.0, run.told.1 ∙ so.1)
tells_runs state faults items takes xs ys all (Err fault) run told =
    told_stop state faults takes xs ys run.answers all fault fault.fault refl run.sessions told run.told
