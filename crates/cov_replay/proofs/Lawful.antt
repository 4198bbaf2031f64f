-- What `serve` owes is lawful of a command.
use Rattle.std.proofs.Common.{◌≡◌, ℕ, List, refl, sym, ap, ◌∙◌, subst, arith, inl, inr}
use Rattle.std.specs.Prelude.{◌⊎◌, Bool, true, false}
use Rattle.cov_io.specs.Causes.{Rose}
use Rattle.cov_io.specs.declared.link.LinkFault.{LinkFault as Fault}
use Rattle.cov_io.specs.declared.link.LinkFault.TheVariants as link
use Rattle.cov_links.specs.Together.{NetAt, Telling}
use Rattle.cov_model.specs.declared.snapshot.Snapshot.{Snapshot}
use Rattle.cov_commands.specs.declared.ended.Ended.{Ended}
use Rattle.cov_commands.specs.declared.ended.Ended.TheVariants.{Usage, ReadFault, WriteFault, NoMemory}
use Rattle.cov_commands.specs.Due.{refused_or_done}
use Rattle.cov_commands.specs.Ends.{IsFinished, IsFinishedOrShort}
use Rattle.cov_commands.specs.Owed.{Owed}
use Rattle.cov_commands.proofs.Calls.{IsLawful}
use Rattle.cov_replay.specs.Live.{LiveWorld}
use Rattle.cov_sessions.specs.Sessions.{Unreplayed}
use Rattle.cov_replay.specs.Serving.{CutShort, Playing, Served, Shut, Tallied, Unheard, ended_by, listening, serve_duty}

-- ---- ends

-- an end that isn't told of a fault of the net, of the store, or of memory
abbrev IsOther : Ended → Type 0
IsOther ended = (ended ≡ ReadFault) ⊎ ((ended ≡ WriteFault) ⊎ (ended ≡ Usage))

pub by-link : (fault : Fault) → IsFinished (ended_by fault) → ⊥
by-link link.Failed h = h
by-link link.NoMemory h = h

not-other : (fault : Fault) → IsOther (ended_by fault) → ⊥
not-other link.Failed (inl e) = absurd cc
not-other link.Failed (inr (inl e)) = absurd cc
not-other link.Failed (inr (inr e)) = absurd cc
not-other link.NoMemory (inl e) = absurd cc
not-other link.NoMemory (inr (inl e)) = absurd cc
not-other link.NoMemory (inr (inr e)) = absurd cc

short-by : (fault : Fault) → (fault ≡ link.Failed → ⊥) → IsFinishedOrShort (ended_by fault)
short-by link.Failed h = h refl
short-by link.NoMemory h = tt

pub plain-finished : (refused : Bool) → IsFinished (refused_or_done refused)
plain-finished true = tt
plain-finished false = tt

plain-short : (refused : Bool) → IsFinishedOrShort (refused_or_done refused)
plain-short true = tt
plain-short false = tt

plain-other : (refused : Bool) → IsOther (refused_or_done refused) → ⊥
plain-other true (inl e) = absurd cc
plain-other true (inr (inl e)) = absurd cc
plain-other true (inr (inr e)) = absurd cc
plain-other false (inl e) = absurd cc
plain-other false (inr (inl e)) = absurd cc
plain-other false (inr (inr e)) = absurd cc

read-unfinished : (ended : Ended) → (ended ≡ ReadFault) ⊎ (ended ≡ NoMemory) → IsFinished ended → ⊥
read-unfinished ended (inl is) h = subst IsFinished is h
read-unfinished ended (inr is) h = subst IsFinished is h

read-plain : (ended : Ended) → (ended ≡ ReadFault) ⊎ (ended ≡ NoMemory) → (ended ≡ WriteFault) ⊎ (ended ≡ Usage) → ⊥
read-plain ended (inl is) (inl e) = let both : ReadFault ≡ WriteFault = sym is ∙ e in absurd cc
read-plain ended (inl is) (inr e) = let both : ReadFault ≡ Usage = sym is ∙ e in absurd cc
read-plain ended (inr is) (inl e) = let both : NoMemory ≡ WriteFault = sym is ∙ e in absurd cc
read-plain ended (inr is) (inr e) = let both : NoMemory ≡ Usage = sym is ∙ e in absurd cc

-- ---- what came of the net

rose-unreplayed : {L : Type 0} (tells : Telling L) (tape : List Snapshot) (pace sessions : ℕ) (before now : NetAt L) (fault : Fault)
    → Unreplayed tells tape pace sessions before now fault → fault ≡ link.Failed → Rose before.faults now.faults
rose-unreplayed tells tape pace sessions before now fault (inl unmade) is = unmade.rose is
rose-unreplayed tells tape pace sessions before now fault (inr (inl broken)) is = broken.rose is
rose-unreplayed tells tape pace sessions before now fault (inr (inr short)) is = let both : link.NoMemory ≡ link.Failed = sym short.0 ∙ is in absurd cc

module _ {S N L : Type 0} (tells : Telling L) (p : Playing) (before now : LiveWorld S N L) (owed : Owed) where
  abbrev Risen : Type 0
  Risen = Rose before.store.faults now.store.faults ⊎ Rose before.net.at.faults now.net.at.faults

  abbrev Cut : (served : Served tells p before now owed) → Type 0
  Cut served = CutShort tells served.tape p.pace p.sessions served.port (listening served.port before.net.at) now.net.at owed

  abbrev Whole : (served : Served tells p before now owed) → Type 0
  Whole served = Tallied tells served.tape p.pace p.sessions served.port served.lines served.refused (listening served.port before.net.at) now.net.at owed

  served-short : (served : Served tells p before now owed) → Cut served ⊎ Whole served → (Risen → ⊥) → IsFinishedOrShort owed.ended
  served-short served (inl cut) still =
      subst IsFinishedOrShort (sym (ap (λ (o : Owed). o.ended) cut.is))
      (short-by cut.fault (λ is. still (inr (rose-unreplayed tells served.tape p.pace p.sessions (listening served.port before.net.at) now.net.at cut.fault cut.unreplayed is))))
  served-short served (inr whole) still = subst IsFinishedOrShort (sym (ap (λ (o : Owed). o.ended) whole.is)) (plain-short served.refused)

  served-other : (served : Served tells p before now owed) → Cut served ⊎ Whole served → IsOther owed.ended → ⊥
  served-other served (inl cut) other = not-other cut.fault (subst IsOther (ap (λ (o : Owed). o.ended) cut.is) other)
  served-other served (inr whole) other = plain-other served.refused (subst IsOther (ap (λ (o : Owed). o.ended) whole.is) other)

  heard-short : (unheard : Unheard p before now owed.ended) → (Risen → ⊥) → IsFinishedOrShort owed.ended
  heard-short unheard still = subst IsFinishedOrShort (sym unheard.ends) (short-by unheard.fault (λ is. still (inr (unheard.rose is))))

-- no end before the first line is told of a sink
pub shut-unwritten : {S N L : Type 0} (p : Playing) (before now : LiveWorld S N L) (ended : Ended) → Shut p before now ended → ended ≡ WriteFault → ⊥
shut-unwritten p before now ended shut is = elim shut.0 [
  | inl unread ↦ read-plain ended unread.why.only (inl is)
  | inr unheard ↦ not-other unheard.fault (subst IsOther unheard.ends (inr (inl is)))
]

pub serve-lawful : {S N L : Type 0} (tells : Telling L) (p : Playing) → IsLawful (serve_duty {S = S} {N = N} tells p)
serve-lawful tells p = record {
  absent = λ before now owed owes missing. elim owes [
    | inl it ↦ elim it.shut.0 [
      | inl unread ↦ (
        read-unfinished owed.ended unread.why.only,
        ap (λ (o : Owed). o.out) it.silent,
        λ still. unread.why.only,
      )
      | inr unheard ↦ absurd (unheard.read.there missing)
    ]
    | inr served ↦ absurd (served.read.there missing)
  ];
  complete = λ before now owed owes there still. elim owes [
    | inl it ↦ elim it.shut.0 [
      | inl unread ↦ elim unread.why.only [
        | inl is ↦ elim (unread.why.read is) [ inl rose ↦ absurd (still (inl rose)) | inr missing ↦ absurd (there missing) ]
        | inr is ↦ subst IsFinishedOrShort (sym is) tt
      ]
      | inr unheard ↦ heard-short tells p before now owed unheard still
    ]
    | inr served ↦ served-short tells p before now owed served served.owes still
  ];
  read = λ before now owed owes is. elim owes [
    | inl it ↦ elim it.shut.0 [
      | inl unread ↦ (
        (read-unfinished owed.ended unread.why.only, ap (λ (o : Owed). o.out) it.silent),
        elim (unread.why.read is) [ inl rose ↦ inl (inl rose) | inr missing ↦ inr missing ],
      )
      | inr unheard ↦ absurd (not-other unheard.fault (subst IsOther unheard.ends (inl is)))
    ]
    | inr served ↦ absurd (served-other tells p before now owed served served.owes (inl is))
  ];
  unwritten = λ before now owed owes is. elim owes [
    | inl it ↦ elim it.shut.0 [
      | inl unread ↦ read-plain owed.ended unread.why.only (inl is)
      | inr unheard ↦ not-other unheard.fault (subst IsOther unheard.ends (inr (inl is)))
    ]
    | inr served ↦ served-other tells p before now owed served served.owes (inr (inl is))
  ];
  taken = λ before now owed owes is. elim owes [
    | inl it ↦ elim it.shut.0 [
      | inl unread ↦ read-plain owed.ended unread.why.only (inr is)
      | inr unheard ↦ not-other unheard.fault (subst IsOther unheard.ends (inr (inr is)))
    ]
    | inr served ↦ served-other tells p before now owed served served.owes (inr (inr is))
  ];
  short = λ world. inl (record {
    silent = refl;
    shut = (
      inl (record { why = record { only = inr refl; read = λ e. absurd cc }; net = refl }),
      record { files = refl; folders = refl; later = omega arith },
    );
  });
}
