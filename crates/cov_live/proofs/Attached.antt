-- What `attach` comes to.
use Rattle.std.proofs.Common.{◌≡◌, ℕ, Bool, true, false, List, refl, sym, ap, ◌∙◌, subst, inl, inr}
use Rattle.std.specs.Prelude.{◌⊎◌, None, Some, Ok, Err}
use Rattle.cov_io.specs.Causes.{Rose}
use Rattle.cov_links.specs.Together.{NetAt, Telling}
use Rattle.cov_links.proofs.Steps.{none_unmade}
use Rattle.cov_model.specs.declared.snapshot.Snapshot.{Snapshot}
use Rattle.cov_attach.specs.declared.fault.AttachFault.{AttachFault}
use Rattle.cov_attach.specs.declared.fault.AttachFault.TheVariants as session
use Rattle.cov_attach.specs.declared.fault.AttachFault.TheVariants.{Failed, Closed, Peer}
use Rattle.cov_attach.specs.declared.fault.AttachAllFault.{AttachAllFault}
use Rattle.cov_attach.specs.declared.places.PlacesFault.{PlacesFault}
use Rattle.cov_attach.specs.declared.places.PlacesFault.TheVariants as places
use Rattle.cov_attach.specs.declared.places.PlacesFault.TheVariants.{Unreached, Session}
use Rattle.cov_attach.specs.Gathered.{StopTold, stop_of}
use Rattle.cov_attach.specs.Places.{Attends, CountsFault, Tells}
use Rattle.cov_commands.specs.declared.due.Due.{Due}
use Rattle.cov_commands.specs.declared.ended.Ended.{Ended}
use Rattle.cov_commands.specs.declared.ended.Ended.TheVariants.{Done, Different, Below, Usage, SomeRefused, ReadFault, WriteFault, SpawnFault, LinkFault, PeerFault, Child, NoMemory}
use Rattle.cov_commands.specs.Due.{refused_or_done}
use Rattle.cov_commands.specs.Ends.{IsFinished, IsFinishedOrShort}
use Rattle.cov_commands.specs.Owed.{Owed, Gives, early, owed_of}
use Rattle.cov_commands.proofs.Calls.{IsLawful}
use Rattle.cov_live.specs.Attaching.{Stops, attach_due, attach_duty, ended_by, has_refused, session_end}

-- ---- how it ends

-- how `attach` may end
abbrev IsOwn : Ended → Type 0
IsOwn Done = Unit {0}
IsOwn Different = ⊥
IsOwn Below = ⊥
IsOwn Usage = ⊥
IsOwn SomeRefused = Unit {0}
IsOwn ReadFault = ⊥
IsOwn WriteFault = ⊥
IsOwn SpawnFault = ⊥
IsOwn LinkFault = Unit {0}
IsOwn (PeerFault number message) = Unit {0}
IsOwn (Child status) = ⊥
IsOwn NoMemory = Unit {0}

own-plain : (refused : Bool) → IsOwn (refused_or_done refused)
own-plain true = tt
own-plain false = tt

plain-finished : (refused : Bool) → IsFinished (refused_or_done refused)
plain-finished true = tt
plain-finished false = tt

plain-short : (refused : Bool) → IsFinishedOrShort (refused_or_done refused)
plain-short true = tt
plain-short false = tt

own-session : (number : ℕ) (fault : AttachFault) → IsOwn (session_end number fault)
own-session number Failed = tt
own-session number Closed = tt
own-session number (Peer message why) = tt
own-session number session.NoMemory = tt

own-fault : (fault : PlacesFault) → IsOwn (ended_by fault)
own-fault Unreached = tt
own-fault (Session told) = own-session told.session told.fault
own-fault places.NoMemory = tt

module _ {L : Type 0} (tells : Telling L) (dialled : List (List ℕ)) (takes : ℕ) (before now : NetAt L) where
  -- ---- causes

  -- a run that stops before its script's end
  stopped : (told : AttachAllFault) → Tells tells takes dialled before now (Err told)
      → ((all : List (List (List ℕ))) → StopTold told told.fault (stop_of takes all) → stop_of takes all ≡ Some told) → Stops tells dialled takes before now
  stopped told it is = record {
    visits = (it.answers, it.visits);
    stop = λ all tell none. let both : Some told ≡ None = sym (is all (it.runs all tell)) ∙ none in absurd cc;
  }

  session-short : (told : AttachAllFault) (fault : AttachFault) → told.fault ≡ fault → Tells tells takes dialled before now (Err told)
      → ((attach_duty tells dialled takes).risen before now → ⊥) → IsFinishedOrShort (session_end told.session fault)
  session-short told Failed is it still = absurd (still (inl (subst (CountsFault before now) is it.counts)))
  session-short told Closed is it still = absurd (still (inr (stopped told it (λ all. subst (λ f. StopTold told f (stop_of takes all) → stop_of takes all ≡ Some told) (sym is) (λ e. e)))))
  session-short told (Peer message why) is it still =
      absurd (still (inr (stopped told it (λ all. subst (λ f. StopTold told f (stop_of takes all) → stop_of takes all ≡ Some told) (sym is) (λ e. e)))))
  session-short told session.NoMemory is it still = tt

  fault-short : (fault : PlacesFault) → Attends tells takes dialled before now (Err fault) → ((attach_duty tells dialled takes).risen before now → ⊥)
      → IsFinishedOrShort (ended_by fault)
  fault-short Unreached unmade still = absurd (still (inl (unmade.rose refl)))
  fault-short (Session told) it still = session-short told told.fault refl it still
  fault-short places.NoMemory it still = tt

  session-link : (told : AttachAllFault) (fault : AttachFault) → CountsFault before now fault → session_end told.session fault ≡ LinkFault
      → Rose before.faults now.faults ⊎ Rose before.state.closed now.state.closed
  session-link told Failed counts is = inl counts
  session-link told Closed counts is = inr counts
  session-link told (Peer message why) counts is = absurd cc
  session-link told session.NoMemory counts is = absurd cc

  fault-link : (fault : PlacesFault) → Attends tells takes dialled before now (Err fault) → ended_by fault ≡ LinkFault
      → Rose before.faults now.faults ⊎ Rose before.state.closed now.state.closed
  fault-link Unreached unmade is = inl (unmade.rose refl)
  fault-link (Session told) it is = session-link told told.fault it.counts is
  fault-link places.NoMemory it is = absurd cc

  -- ---- what is owed

  owes-own : (owed : Owed) → (attach_duty tells dialled takes).owes before now owed → IsOwn owed.ended
  owes-own owed (inl it) = elim it.due [
    | inl is ↦ subst (λ (o : Owed). IsOwn o.ended) (sym is) (own-plain (has_refused it.taken))
    | inr is ↦ subst (λ (o : Owed). IsOwn o.ended) (sym is) tt
  ]
  owes-own owed (inr it) = subst (λ (o : Owed). IsOwn o.ended) (sym it.is) (own-fault it.fault)

  owes-short : (owed : Owed) → (attach_duty tells dialled takes).owes before now owed → ((attach_duty tells dialled takes).risen before now → ⊥) → IsFinishedOrShort owed.ended
  owes-short owed (inl it) still = elim it.due [
    | inl is ↦ subst (λ (o : Owed). IsFinishedOrShort o.ended) (sym is) (plain-short (has_refused it.taken))
    | inr is ↦ subst (λ (o : Owed). IsFinishedOrShort o.ended) (sym is) tt
  ]
  owes-short owed (inr it) still = subst (λ (o : Owed). IsFinishedOrShort o.ended) (sym it.is) (fault-short it.fault it.attends still)

  pub gives-taken : (taken : List (List Snapshot)) (due : Due) → Attends tells takes dialled before now (Ok taken) → owed_of due ≡ attach_due taken
      → Gives (attach_duty tells dialled takes) before now (Ok due)
  gives-taken taken due attends is = record {
    ok = inl (record { taken = taken; attends = attends; due = inl is });
    finished = subst (λ (o : Owed). IsFinished o.ended) (sym is) (plain-finished (has_refused taken));
    err = tt;
  }

  pub gives-short : (taken : List (List Snapshot)) → Attends tells takes dialled before now (Ok taken) → Gives (attach_duty tells dialled takes) before now (Err NoMemory)
  gives-short taken attends = record { ok = tt; finished = tt; err = inl (record { taken = taken; attends = attends; due = inr refl }) }

  pub gives-fault : (fault : PlacesFault) (ended : Ended) → Attends tells takes dialled before now (Err fault) → ended ≡ ended_by fault
      → Gives (attach_duty tells dialled takes) before now (Err ended)
  gives-fault fault ended attends is = record {
    ok = tt;
    finished = tt;
    err = inr (record { fault = fault; attends = attends; is = ap early is; link = λ link. fault-link fault attends (sym is ∙ link) });
  }

pub attach-lawful : {L : Type 0} (tells : Telling L) (dialled : List (List ℕ)) (takes : ℕ) → IsLawful (attach_duty tells dialled takes)
attach-lawful tells dialled takes = record {
  absent = λ before now owed owes missing. absurd missing;
  complete = λ before now owed owes there still. owes-short tells dialled takes before now owed owes still;
  read = λ before now owed owes is. absurd (subst IsOwn is (owes-own tells dialled takes before now owed owes));
  unwritten = λ before now owed owes is. subst IsOwn is (owes-own tells dialled takes before now owed owes);
  taken = λ before now owed owes is. subst IsOwn is (owes-own tells dialled takes before now owed owes);
  short = λ world. inr (record {
    fault = places.NoMemory;
    attends = inl (none_unmade _ dialled world _ refl);
    is = refl;
    link = λ is. absurd cc;
  });
}
