-- What `serve` owes: a folder's tape is played to the sessions of so many links.
use Rattle.std.specs.Prelude.{◌≡◌, ◌⊎◌, ℕ, Bool, List, [], ◌++◌, length, Some, codes, decimal}
use Rattle.std.specs.List.{list_any}
use Rattle.cov_io.specs.Causes.{Rose}
use Rattle.cov_io.specs.Told.{Files, WhereTold}
use Rattle.cov_io.specs.declared.link.LinkFault.{LinkFault as Fault}
use Rattle.cov_io.specs.declared.link.LinkFault.TheVariants as link
use Rattle.cov_model.specs.declared.snapshot.Snapshot.{Snapshot}
use Rattle.cov_model.specs.Outcome.{answers}
use Rattle.cov_session.specs.declared.session.Tally.{Tally}
use Rattle.cov_links.specs.Together.{NetAt, Telling}
use Rattle.cov_commands.specs.declared.ended.Ended.{Ended}
use Rattle.cov_commands.specs.declared.ended.Ended.TheVariants.{LinkFault, NoMemory}
use Rattle.cov_commands.specs.Due.{FolderIsMissing, refused_or_done}
use Rattle.cov_commands.specs.Lines.{answer_lines, is_refusal}
use Rattle.cov_commands.specs.Owed.{Owed, Duty, early}
use Rattle.cov_commands.specs.Sinks.{SinkAt, Puts}
use Rattle.cov_commands.specs.Stores.{StoreAt, StillTells, Stopped}
use Rattle.cov_replay.specs.declared.command.Opened.{Opened}
use Rattle.cov_replay.specs.Live.{LiveWorld}
use Rattle.cov_replay.specs.Taping.{tape_of, tape_paths, tape_readings}
use Rattle.cov_sessions.specs.Sessions.{Replayed, Unreplayed, tally_line}

-- the words of `serve`
pub record Playing : Type 0 where
  pub folder : List ℕ
  pub port : ℕ
  pub sessions : ℕ
  pub pace : ℕ

abbrev pub playing : List ℕ → ℕ → ℕ → ℕ → Playing
playing folder port sessions pace = record { folder = folder; port = port; sessions = sessions; pace = pace }

-- the first line
abbrev pub listening_line : ℕ → List ℕ
listening_line port = codes "listening on 127.0.0.1:" ++ (decimal port ++ codes "\n")

-- the lines of the refused texts, in order
abbrev pub refused_lines : List ℕ → Files → List ℕ
refused_lines folder files = answer_lines (tape_paths folder files) (answers (tape_readings folder files))

-- a text was refused
abbrev pub has_refused : List ℕ → Files → Bool
has_refused folder files = list_any is_refusal (answers (tape_readings folder files))

-- what is owed where the command ends so after its first line and before its tally
abbrev pub cut_short : ℕ → Ended → Owed
cut_short port ended = record { out = listening_line port; err = []; ended = ended }

-- what is owed with the tally: these lines, and where a text was refused, or none
abbrev pub tally_due : ℕ → Tally → List ℕ → Bool → Owed
tally_due port tally lines refused =
    record { out = listening_line port ++ tally_line tally; err = lines; ended = refused_or_done refused }

-- how a fault of the net or of a link ends the command
abbrev pub ended_by : Fault → Ended
ended_by link.Failed = LinkFault
ended_by link.NoMemory = NoMemory

-- a net once it listens on this port
abbrev pub listening : {L : Type 0} → ℕ → NetAt L → NetAt L
listening port net = record net { state = record (net.state) { port = Some port } }

-- The folder is there, and its texts were read: the store's count has not risen.
pub record HasRead {S : Type 0} (folder : List ℕ) (before now : StoreAt S) : Type 0 where
  pub there : FolderIsMissing before.folders folder → ⊥
  pub kept : now.faults ≡ before.faults

-- ---- the ways to its end

-- The texts weren't read, or there was no memory for their tape. The net was not called.
pub record Unread {S N L : Type 0} (p : Playing) (before now : LiveWorld S N L) (ended : Ended) : Type 0 where
  pub why : Stopped (FolderIsMissing before.store.folders p.folder) before.store now.store ended
  pub net : now.net ≡ before.net

-- The net doesn't listen. What it tells is as before, but for its count.
pub record Unheard {S N L : Type 0} (p : Playing) (before now : LiveWorld S N L) (ended : Ended) : Type 0 where
  pub read : HasRead p.folder before.store now.store
  pub fault : Fault
  pub ends : ended ≡ ended_by fault
  pub rose : fault ≡ link.Failed → Rose before.net.at.faults now.net.at.faults
  pub state : now.net.at.state ≡ before.net.at.state

-- It ended before its first line.
abbrev pub Shut : {S N L : Type 0} → Playing → LiveWorld S N L → LiveWorld S N L → Ended → Type 0
Shut p before now ended = (Unread p before now ended ⊎ Unheard p before now ended) × StillTells before.store now.store

-- The net listens, and the target of the tape is at its start.
pub record IsOpen {S N L : Type 0} (p : Playing) (before now : LiveWorld S N L) (o : Opened) : Type 0 where
  pub read : HasRead p.folder before.store now.store
  pub still : StillTells before.store now.store
  pub fresh : (o.target.played ≡ 0) × (o.target.takes ≡ [])
  pub desks : length o.target.desks ≡ p.sessions
  pub pace : o.target.pace ≡ p.pace
  pub tape : WhereTold before.store.files (λ files. o.target.tape ≡ tape_of p.folder files)
  pub lines : WhereTold before.store.files (λ files. o.lines ≡ refused_lines p.folder files)
  pub refused : WhereTold before.store.files (λ files. o.refused ≡ has_refused p.folder files)
  pub net : now.net.at ≡ listening o.port before.net.at

-- The sessions weren't served to their ends, or there was no memory: the first line is owed.
pub record CutShort {L : Type 0} (tells : Telling L) (tape : List Snapshot) (pace sessions port : ℕ) (before now : NetAt L) (owed : Owed) : Type 0 where
  pub fault : Fault
  pub is : owed ≡ cut_short port (ended_by fault)
  pub unreplayed : Unreplayed tells tape pace sessions before now fault

-- They were, and the tally is owed, with these lines.
pub record Tallied {L : Type 0} (tells : Telling L) (tape : List Snapshot) (pace sessions port : ℕ) (lines : List ℕ) (refused : Bool) (before now : NetAt L) (owed : Owed) : Type 0 where
  pub tally : Tally
  pub is : owed ≡ tally_due port tally lines refused
  pub replayed : Replayed tells tape pace sessions before now tally

-- One or the other is owed of what is to be played, and put out.
pub record PlaysOut {L O E : Type 0} (tells : Telling L) (sessions : ℕ) (o : Opened) (before now : NetAt L)
    (out_before out_now : SinkAt O) (err_before err_now : SinkAt E) (ended : Ended) : Type 0 where
  pub owed : Owed
  pub owes :
      CutShort tells o.target.tape o.target.pace sessions o.port before now owed
      ⊎ Tallied tells o.target.tape o.target.pace sessions o.port o.lines o.refused before now owed
  pub puts : Puts owed out_before out_now err_before err_now ended

-- ---- what is owed

-- It ended before its first line, with nothing owed but its end.
pub record Unopened {S N L : Type 0} (p : Playing) (before now : LiveWorld S N L) (owed : Owed) : Type 0 where
  pub silent : owed ≡ early owed.ended
  pub shut : Shut p before now owed.ended

-- The net listened on this port, and the tape was played, or the command ended before that.
pub record Served {S N L : Type 0} (tells : Telling L) (p : Playing) (before now : LiveWorld S N L) (owed : Owed) : Type 0 where
  pub read : HasRead p.folder before.store now.store
  pub still : StillTells before.store now.store
  -- the tape, the lines of the refused texts, and whether there is one
  pub tape : List Snapshot
  pub lines : List ℕ
  pub refused : Bool
  pub tape_is : WhereTold before.store.files (λ files. tape ≡ tape_of p.folder files)
  pub lines_are : WhereTold before.store.files (λ files. lines ≡ refused_lines p.folder files)
  pub refused_is : WhereTold before.store.files (λ files. refused ≡ has_refused p.folder files)
  -- the port that the net answered, and tells from then on
  pub port : ℕ
  pub owes :
      CutShort tells tape p.pace p.sessions port (listening port before.net.at) now.net.at owed
      ⊎ Tallied tells tape p.pace p.sessions port lines refused (listening port before.net.at) now.net.at owed

abbrev pub serve_duty : {S N L : Type 0} → Telling L → Playing → Duty (LiveWorld S N L)
serve_duty tells p = record {
  owes = λ before now owed. Unopened p before now owed ⊎ Served tells p before now owed;
  missing = λ before. FolderIsMissing before.store.folders p.folder;
  risen = λ before now. Rose before.store.faults now.store.faults ⊎ Rose before.net.at.faults now.net.at.faults;
}
