-- What a command owes that runs a program first.
use Rattle.std.proofs.Common.{◌≡◌, ℕ, Bool, true, false, [], refl, sym, ap, ◌∙◌, subst, arith, inl, inr}
use Rattle.std.specs.Prelude.{◌⊎◌, cond, ◌==◌}
use Rattle.cov_words.specs.declared.command.Run.{Run}
use Rattle.cov_commands.specs.declared.ended.Ended.{Ended}
use Rattle.cov_commands.specs.declared.ended.Ended.TheVariants.{Done, Different, Below, Usage, SomeRefused, ReadFault, WriteFault, SpawnFault, LinkFault, PeerFault, Child, NoMemory}
use Rattle.cov_commands.specs.Child.{ChildWorld, HasNotRun, Reported, Unstarted, child_duty, child_end, ended_as}
use Rattle.cov_commands.specs.Ends.{IsFinished, IsFinishedOrShort}
use Rattle.cov_commands.specs.Owed.{Owed, early}
use Rattle.cov_commands.specs.Tool.{report_reader}
use Rattle.cov_commands.proofs.Calls.{IsLawful}
use Rattle.cov_commands.proofs.Tools.{lawful}

-- ---- how it ends

-- what isn't told of a program is how the report ended
from-as : (status : ℕ) (ended other : Ended) → ended_as status ended ≡ other → ((n : ℕ) → other ≡ Child n → ⊥) → ended ≡ other
from-as status Done other is plain = absurd (plain status (sym is))
from-as status Different other is plain = is
from-as status Below other is plain = is
from-as status Usage other is plain = is
from-as status SomeRefused other is plain = absurd (plain status (sym is))
from-as status ReadFault other is plain = is
from-as status WriteFault other is plain = is
from-as status SpawnFault other is plain = is
from-as status LinkFault other is plain = is
from-as status (PeerFault session message) other is plain = is
from-as status (Child n) other is plain = is
from-as status NoMemory other is plain = is

pub from-report : (status : ℕ) (ended other : Ended) → child_end status ended ≡ other → ((n : ℕ) → other ≡ Child n → ⊥) → ended ≡ other
from-report status ended other is plain = by (status == 0) is
  where
    by : (b : Bool) → cond b ended (ended_as status ended) ≡ other → ended ≡ other
    by true e = e
    by false e = from-as status ended other e plain

finished-as : (status : ℕ) (ended : Ended) → IsFinished (ended_as status ended) → IsFinished ended
finished-as status Done h = tt
finished-as status Different h = tt
finished-as status Below h = tt
finished-as status Usage h = h
finished-as status SomeRefused h = tt
finished-as status ReadFault h = h
finished-as status WriteFault h = h
finished-as status SpawnFault h = h
finished-as status LinkFault h = h
finished-as status (PeerFault session message) h = h
finished-as status (Child n) h = tt
finished-as status NoMemory h = h

as-finished : (status : ℕ) (ended : Ended) → IsFinished ended → IsFinished (ended_as status ended)
as-finished status Done h = tt
as-finished status Different h = tt
as-finished status Below h = tt
as-finished status Usage h = h
as-finished status SomeRefused h = tt
as-finished status ReadFault h = h
as-finished status WriteFault h = h
as-finished status SpawnFault h = h
as-finished status LinkFault h = h
as-finished status (PeerFault session message) h = h
as-finished status (Child n) h = tt
as-finished status NoMemory h = h

as-short : (status : ℕ) (ended : Ended) → IsFinishedOrShort ended → IsFinishedOrShort (ended_as status ended)
as-short status Done h = tt
as-short status Different h = tt
as-short status Below h = tt
as-short status Usage h = h
as-short status SomeRefused h = tt
as-short status ReadFault h = h
as-short status WriteFault h = h
as-short status SpawnFault h = h
as-short status LinkFault h = h
as-short status (PeerFault session message) h = h
as-short status (Child n) h = tt
as-short status NoMemory h = tt

report-finished : (status : ℕ) (ended : Ended) → IsFinished (child_end status ended) → IsFinished ended
report-finished status ended = by (status == 0)
  where
    by : (b : Bool) → IsFinished (cond b ended (ended_as status ended)) → IsFinished ended
    by true h = h
    by false h = finished-as status ended h

pub child-finished : (status : ℕ) (ended : Ended) → IsFinished ended → IsFinished (child_end status ended)
child-finished status ended h = by (status == 0)
  where
    by : (b : Bool) → IsFinished (cond b ended (ended_as status ended))
    by true = h
    by false = as-finished status ended h

child-short : (status : ℕ) (ended : Ended) → IsFinishedOrShort ended → IsFinishedOrShort (child_end status ended)
child-short status ended h = by (status == 0)
  where
    by : (b : Bool) → IsFinishedOrShort (cond b ended (ended_as status ended))
    by true = h
    by false = as-short status ended h

-- an early end of the report is one of the command
unfinished-as : (status : ℕ) (ended : Ended) → (IsFinished ended → ⊥) → ended_as status ended ≡ ended
unfinished-as status Done h = absurd (h tt)
unfinished-as status Different h = refl
unfinished-as status Below h = refl
unfinished-as status Usage h = refl
unfinished-as status SomeRefused h = absurd (h tt)
unfinished-as status ReadFault h = refl
unfinished-as status WriteFault h = refl
unfinished-as status SpawnFault h = refl
unfinished-as status LinkFault h = refl
unfinished-as status (PeerFault session message) h = refl
unfinished-as status (Child n) h = refl
unfinished-as status NoMemory h = refl

pub unfinished : (status : ℕ) (ended : Ended) → (IsFinished ended → ⊥) → child_end status ended ≡ ended
unfinished status ended h = by (status == 0)
  where
    by : (b : Bool) → cond b ended (ended_as status ended) ≡ ended
    by true = refl
    by false = unfinished-as status ended h

-- ---- the duty

not-child : (ended : Ended) → (ended ≡ ReadFault) ⊎ ((ended ≡ WriteFault) ⊎ (ended ≡ Usage)) → (n : ℕ) → ended ≡ Child n → ⊥
not-child ended (inl is) n e = let both : ReadFault ≡ Child n = sym is ∙ e in absurd cc
not-child ended (inr (inl is)) n e = let both : WriteFault ≡ Child n = sym is ∙ e in absurd cc
not-child ended (inr (inr is)) n e = let both : Usage ≡ Child n = sym is ∙ e in absurd cc

unstarted-unfinished : (ended : Ended) → (ended ≡ SpawnFault) ⊎ (ended ≡ NoMemory) → IsFinished ended → ⊥
unstarted-unfinished ended (inl is) h = subst IsFinished is h
unstarted-unfinished ended (inr is) h = subst IsFinished is h

unstarted-other : (ended : Ended) → (ended ≡ SpawnFault) ⊎ (ended ≡ NoMemory) → (ended ≡ ReadFault) ⊎ ((ended ≡ WriteFault) ⊎ (ended ≡ Usage)) → ⊥
unstarted-other ended (inl is) (inl e) = let both : SpawnFault ≡ ReadFault = sym is ∙ e in absurd cc
unstarted-other ended (inl is) (inr (inl e)) = let both : SpawnFault ≡ WriteFault = sym is ∙ e in absurd cc
unstarted-other ended (inl is) (inr (inr e)) = let both : SpawnFault ≡ Usage = sym is ∙ e in absurd cc
unstarted-other ended (inr is) (inl e) = let both : NoMemory ≡ ReadFault = sym is ∙ e in absurd cc
unstarted-other ended (inr is) (inr (inl e)) = let both : NoMemory ≡ WriteFault = sym is ∙ e in absurd cc
unstarted-other ended (inr is) (inr (inr e)) = let both : NoMemory ≡ Usage = sym is ∙ e in absurd cc

module _ {S P : Type 0} (command : Run) (before now : ChildWorld S P) (owed : Owed) where
  short-unless-risen : Unstarted command before now owed → ((child_duty command).risen before now → ⊥) → owed.ended ≡ NoMemory
  short-unless-risen it still = elim it.why.only [ inl is ↦ absurd (still (inr (it.why.rose is))) | inr is ↦ is ]

  -- how it ends, by the report
  ends : (it : Reported command before now owed) → owed.ended ≡ child_end it.status it.report.ended
  ends it = ap (λ (o : Owed). o.ended) it.is

  report-ends : (it : Reported command before now owed) (other : Ended) → (other ≡ ReadFault) ⊎ ((other ≡ WriteFault) ⊎ (other ≡ Usage)) → owed.ended ≡ other → it.report.ended ≡ other
  report-ends it other among is = from-report it.status it.report.ended other (sym (ends it) ∙ is) (not-child other among)

pub child-lawful : {S P : Type 0} (command : Run) → IsLawful (child_duty {S = S} {P = P} command)
child-lawful {S} {P} command =
    let law = lawful {S = S} (report_reader command.form command.folder) in
    record {
      absent = λ before now owed owes missing. elim owes [
        | inl it ↦ (unstarted-unfinished owed.ended it.why.only, ap (λ (o : Owed). o.out) it.silent, λ still. inr (short-unless-risen command before now owed it still))
        | inr it ↦
            let gone = law.absent before.store now.store it.report it.reads missing in
            let is : owed.ended ≡ it.report.ended = ends command before now owed it ∙ unfinished it.status it.report.ended gone.0 in (
              λ finished. gone.0 (subst IsFinished is finished),
              ap (λ (o : Owed). o.out) it.is ∙ gone.1,
              λ still. subst (λ (e : Ended). (e ≡ ReadFault) ⊎ (e ≡ NoMemory)) (sym is) (gone.2 (λ rose. still (inl rose))),
            )
      ];
      complete = λ before now owed owes there still. elim owes [
        | inl it ↦ subst IsFinishedOrShort (sym (short-unless-risen command before now owed it still)) tt
        | inr it ↦ subst IsFinishedOrShort (sym (ends command before now owed it))
            (child-short it.status it.report.ended (law.complete before.store now.store it.report it.reads there (λ rose. still (inl rose))))
      ];
      read = λ before now owed owes is. elim owes [
        | inl it ↦ absurd (unstarted-other owed.ended it.why.only (inl is))
        | inr it ↦
            let early = law.read before.store now.store it.report it.reads (report-ends command before now owed it ReadFault (inl refl) is) in (
              (λ finished. subst IsFinished is finished, ap (λ (o : Owed). o.out) it.is ∙ early.0.1),
              elim early.1 [ inl rose ↦ inl (inl rose) | inr missing ↦ inr missing ],
            )
      ];
      unwritten = λ before now owed owes is. elim owes [
        | inl it ↦ unstarted-other owed.ended it.why.only (inr (inl is))
        | inr it ↦ law.unwritten before.store now.store it.report it.reads (report-ends command before now owed it WriteFault (inr (inl refl)) is)
      ];
      taken = λ before now owed owes is. elim owes [
        | inl it ↦ unstarted-other owed.ended it.why.only (inr (inr is))
        | inr it ↦ law.taken before.store now.store it.report it.reads (report-ends command before now owed it Usage (inr (inr refl)) is)
      ];
      short = λ world. inl (record {
        silent = refl;
        why = record { only = inr refl; rose = λ e. absurd cc; ran = inl refl; last = refl; later = omega arith };
        store = refl;
      });
    }
