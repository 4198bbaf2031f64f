-- What the readers of files come to.
use Rattle.std.proofs.Common.{◌≡◌, ℕ, Bool, true, false, List, take, refl, sym, ap, ◌∙◌, subst, arith, inl, inr}
use Rattle.std.specs.Prelude.{◌⊎◌, ◌↔◌, Option, None, Some, Ok, IsTrue, cond, option_map, nat_lt, length, codes}
use Rattle.std.proofs.lemmas.Bool.{false≢true}
use Rattle.cov_text.specs.Listing.{max_text}
use Rattle.cov_io.specs.Told.{WhereTold, bytes_at}
use Rattle.cov_model.specs.declared.report.ListForm.{ListForm}
use Rattle.cov_model.specs.declared.snapshot.Snapshot.{Snapshot}
use Rattle.cov_model.specs.File.{file}
use Rattle.cov_model.specs.Outcome.{accepted}
use Rattle.cov_words.specs.declared.command.Command.{Command}
use Rattle.cov_words.specs.declared.command.Command.TheVariants.{Merge, Same, Normal, Upgrade, Report, Check, Make}
use Rattle.cov_commands.specs.declared.due.Due.{Due}
use Rattle.cov_commands.specs.declared.ended.Ended.{Ended}
use Rattle.cov_commands.specs.declared.ended.Ended.TheVariants.{Done, Different, Below, Usage, SomeRefused, ReadFault, WriteFault, SpawnFault, LinkFault, PeerFault, Child, NoMemory}
use Rattle.cov_commands.specs.Deciding.{snapshot_in}
use Rattle.cov_commands.specs.Due.{refused_or_done, same_answer, same_due, judged_due, file_answer, file_due, refused_due, readings, FolderIsMissing}
use Rattle.cov_commands.specs.Ends.{IsFinished, IsFinishedOrShort}
use Rattle.cov_commands.specs.Owed.{Owed, Gives, owed_of}
use Rattle.cov_commands.specs.Stores.{StoreAt, StillTells}
use Rattle.cov_commands.specs.Tool.{Reader, reading_duty, IsPlainEnd, merge_reader, same_reader, file_reader, normal_reader, upgrade_reader, report_reader, check_reader, tool_duty}
use Rattle.cov_commands.proofs.Answered.{answer-found, found-there, differs, no-same-end, tells-file}
use Rattle.cov_commands.proofs.Calls.{IsLawful}
use Rattle.cov_commands.proofs.Makes.{make-lawful}

-- ---- ends

pub plain-end : (refused : Bool) → IsPlainEnd (refused_or_done refused)
plain-end true = inr refl
plain-end false = inl refl

pub plain-finished : (ended : Ended) → IsPlainEnd ended → IsFinished ended
plain-finished ended (inl is) = subst IsFinished (sym is) tt
plain-finished ended (inr is) = subst IsFinished (sym is) tt

answer-plain : (form : ListForm) (said : Snapshot → List ℕ) (path bytes : List ℕ) → IsPlainEnd (file_answer form said path bytes).ended
answer-plain form said path bytes = by (nat_lt max_text (length bytes)) (snapshot_in form bytes)
  where
    by : (long : Bool) (judged : Option Snapshot) → IsPlainEnd (cond long (refused_due path (codes "too long")) (judged_due said path judged)).ended
    by true judged = inr refl
    by false (Some s) = inl refl
    by false None = inr refl

same-ends : (agree : Bool) (lines : List ℕ) (refused : Bool) → IsPlainEnd (same_answer agree lines refused).ended ⊎ ((same_answer agree lines refused).ended ≡ Different)
same-ends true lines refused = inl (plain-end refused)
same-ends false lines refused = inr refl

-- `Different` is said where the two don't agree
different-told : (agree : Bool) (lines : List ℕ) (refused : Bool) → ((same_answer agree lines refused).ended ≡ Different) ↔ (IsTrue agree → ⊥)
different-told true lines refused = (λ different. absurd (no-same-end refused different), λ differ. absurd (differ refl))
different-told false lines refused = (λ different. λ same. false≢true same, λ differ. refl)

same-finished : (ended : Ended) → IsPlainEnd ended ⊎ (ended ≡ Different) → IsFinished ended
same-finished ended (inl plain) = plain-finished ended plain
same-finished ended (inr is) = subst IsFinished (sym is) tt

-- ---- the readers

module _ {S : Type 0} (before now : StoreAt S) where
  pub reads-file : (form : ListForm) (said : Snapshot → List ℕ) (path bytes : List ℕ) (due : Due) → WhereTold before.files (λ files. option_map (take 134217729) (bytes_at path files) ≡ Some bytes)
      → owed_of due ≡ file_answer form said path bytes → now.faults ≡ before.faults → StillTells before now → Gives (reading_duty (file_reader form said path)) before now (Ok due)
  reads-file form said path bytes due found is kept still =
      let plain : IsPlainEnd due.ended = subst (λ (d : Owed). IsPlainEnd d.ended) (sym is) (answer-plain form said path bytes) in
      record {
        ok = record {
          either = inl (record {
            due = λ files told.
                let owes : owed_of due ≡ file_due form said path files = is ∙ answer-found form said path (bytes_at path files) bytes (found files told) in
                record { due = owes; accepted = tells-file form said path files due.ended (ap (λ (d : Owed). d.ended) owes) };
            ends = plain;
            finished = plain-finished due.ended plain;
            there = λ missing. found-there (bytes_at path missing.0) bytes (found missing.0 missing.1) missing.2;
            kept = kept;
          });
          still = still;
        };
        finished = plain-finished due.ended plain;
        err = tt;
      }

  pub reads-same : (one other : List ℕ) (due : Due) (agree : Bool) (lines : List ℕ) (refused : Bool) → WhereTold before.files (λ files. owed_of due ≡ same_due one other files)
      → WhereTold before.files (λ files. IsTrue agree ↔ (file (accepted (readings one files)) ≡ file (accepted (readings other files))))
      → owed_of due ≡ same_answer agree lines refused → (FolderIsMissing before.folders one ⊎ FolderIsMissing before.folders other → ⊥)
      → now.faults ≡ before.faults → StillTells before now → Gives (reading_duty (same_reader one other)) before now (Ok due)
  reads-same one other due agree lines refused told_due equal is there kept still =
      let ends : IsPlainEnd due.ended ⊎ (due.ended ≡ Different) = subst (λ (d : Owed). IsPlainEnd d.ended ⊎ (d.ended ≡ Different)) (sym is) (same-ends agree lines refused) in
      let told : (due.ended ≡ Different) ↔ (IsTrue agree → ⊥) = subst (λ (d : Owed). (d.ended ≡ Different) ↔ (IsTrue agree → ⊥)) (sym is) (different-told agree lines refused) in
      record {
        ok = record {
          either = inl (record {
            due = λ files is_told. record {
              due = told_due files is_told;
              sums = differs one other files due.ended (ap (λ (d : Owed). d.ended) (told_due files is_told));
              bytes = (λ different. λ same. told.0 different ((equal files is_told).1 same), λ differ. told.1 (λ t. differ ((equal files is_told).0 t)));
            };
            ends = ends;
            finished = same-finished due.ended ends;
            there = there;
            kept = kept;
          });
          still = still;
        };
        finished = same-finished due.ended ends;
        err = tt;
      }

-- ---- the duty of a reader

read-short : (ended : Ended) → (ended ≡ ReadFault) ⊎ (ended ≡ NoMemory) → (ended ≡ ReadFault → ⊥) → IsFinishedOrShort ended
read-short ended (inl is) not_read = absurd (not_read is)
read-short ended (inr is) not_read = subst IsFinishedOrShort (sym is) tt

finished-short : (ended : Ended) → IsFinished ended → IsFinishedOrShort ended
finished-short Done h = tt
finished-short Different h = tt
finished-short Below h = tt
finished-short Usage h = absurd h
finished-short SomeRefused h = tt
finished-short ReadFault h = absurd h
finished-short WriteFault h = absurd h
finished-short SpawnFault h = absurd h
finished-short LinkFault h = absurd h
finished-short (PeerFault session message) h = absurd h
finished-short (Child status) h = tt
finished-short NoMemory h = absurd h

pub stopped : (ended : Ended) → (ended ≡ ReadFault) ⊎ (ended ≡ NoMemory) → IsFinished ended → ⊥
stopped ended (inl is) finished = subst IsFinished is finished
stopped ended (inr is) finished = subst IsFinished is finished

not-write : (ended : Ended) → (ended ≡ ReadFault) ⊎ (ended ≡ NoMemory) → ended ≡ WriteFault → ⊥
not-write ended (inl is) write = let both : ReadFault ≡ WriteFault = sym is ∙ write in absurd cc
not-write ended (inr is) write = let both : NoMemory ≡ WriteFault = sym is ∙ write in absurd cc

finished-unwritten : (ended : Ended) → IsFinished ended → ended ≡ WriteFault → ⊥
finished-unwritten ended finished is = subst IsFinished is finished

finished-unread : (ended : Ended) → IsFinished ended → ended ≡ ReadFault → ⊥
finished-unread ended finished is = subst IsFinished is finished

finished-taken : (ended : Ended) → IsFinished ended → ended ≡ Usage → ⊥
finished-taken ended finished is = subst IsFinished is finished

stopped-taken : (ended : Ended) → (ended ≡ ReadFault) ⊎ (ended ≡ NoMemory) → ended ≡ Usage → ⊥
stopped-taken ended (inl is) usage = let both : ReadFault ≡ Usage = sym is ∙ usage in absurd cc
stopped-taken ended (inr is) usage = let both : NoMemory ≡ Usage = sym is ∙ usage in absurd cc

pub lawful : {S : Type 0} (reader : Reader) → IsLawful (reading_duty {S = S} reader)
lawful reader = record {
  absent = λ before now owed owes missing. elim owes.either [
    | inl comes ↦ absurd (comes.there missing)
    | inr stops ↦ (stopped owed.ended stops.why.only, ap (λ (o : Owed). o.out) stops.silent, λ still. stops.why.only)
  ];
  complete = λ before now owed owes there still. elim owes.either [
    | inl comes ↦ finished-short owed.ended comes.finished
    | inr stops ↦ read-short owed.ended stops.why.only (λ is. elim (stops.why.read is) [ inl rose ↦ still rose | inr missing ↦ there missing ])
  ];
  read = λ before now owed owes is. elim owes.either [
    | inl comes ↦ absurd (finished-unread owed.ended comes.finished is)
    | inr stops ↦ ((stopped owed.ended stops.why.only, ap (λ (o : Owed). o.out) stops.silent), stops.why.read is)
  ];
  unwritten = λ before now owed owes is. elim owes.either [
    | inl comes ↦ finished-unwritten owed.ended comes.finished is
    | inr stops ↦ not-write owed.ended stops.why.only is
  ];
  taken = λ before now owed owes is. elim owes.either [
    | inl comes ↦ finished-taken owed.ended comes.finished is
    | inr stops ↦ stopped-taken owed.ended stops.why.only is
  ];
  short = λ world. record {
    either = inr (record { silent = refl; why = record { only = inr refl; read = λ e. absurd cc } });
    still = record { files = refl; folders = refl; later = omega arith };
  };
}

pub tool-lawful : {S : Type 0} (command : Command) → IsLawful (tool_duty {S = S} command)
tool-lawful (Merge folder) = lawful (merge_reader folder)
tool-lawful (Same one other) = lawful (same_reader one other)
tool-lawful (Normal path) = lawful (normal_reader path)
tool-lawful (Upgrade path) = lawful (upgrade_reader path)
tool-lawful (Report folder form) = lawful (report_reader form folder)
tool-lawful (Check folder lines branches functions) = lawful (check_reader lines branches functions folder)
tool-lawful (Make seed count) = make-lawful seed count
