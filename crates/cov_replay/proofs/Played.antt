-- What is put out of a target that is to be played.
use Rattle.std.proofs.Common.{◌≡◌, ◌≤◌, ℕ, List, [], ◌++◌, refl, sym, ◌∙◌, subst, subst₂, arith, inl, inr}
use Rattle.std.specs.Prelude.{◌⊎◌}
use Rattle.std.proofs.lemmas.List.{append-nil}
use Rattle.cov_io.specs.Causes.{Rose}
use Rattle.cov_io.specs.declared.link.LinkFault.{LinkFault as Fault}
use Rattle.cov_io.specs.declared.link.LinkFault.TheVariants as link
use Rattle.cov_links.specs.Together.{NetAt, Telling}
use Rattle.cov_links.proofs.Steps.{none_unmade}
use Rattle.cov_session.specs.declared.session.Tally.{Tally}
use Rattle.cov_sessions.specs.Sessions.{Replayed, Unreplayed, tally_line}
use Rattle.json_pieces.specs.Pieces.{IsWithin, piece}
use Rattle.cov_commands.specs.declared.due.Due.{Due}
use Rattle.cov_commands.specs.declared.ended.Ended.{Ended}
use Rattle.cov_commands.specs.declared.ended.Ended.TheVariants.{Done, Different, Below, Usage, SomeRefused, ReadFault, WriteFault, SpawnFault, LinkFault, PeerFault, Child, NoMemory}
use Rattle.cov_commands.specs.Call.{Runs, moment}
use Rattle.cov_commands.specs.Due.{refused_or_done}
use Rattle.cov_commands.specs.Ends.{HasWriteCause, IsFinished}
use Rattle.cov_commands.specs.Owed.{Owed, early, owed_of, text_of}
use Rattle.cov_commands.specs.Sinks.{Gains, GainsPart, Puts, SinkAt}
use Rattle.cov_commands.proofs.Calls.{puts-nothing}
use Rattle.cov_commands.proofs.Parts.{part-all}
use Rattle.cov_replay.specs.declared.command.Opened.{Opened}
use Rattle.cov_replay.specs.Live.{LiveNet, LiveWorld, live_world}
use Rattle.cov_replay.specs.Serving.{CutShort, IsOpen, Playing, PlaysOut, Shut, Tallied, cut_short, ended_by, listening_line, serve_duty, tally_due}
use Rattle.cov_replay.proofs.Behind.{puts-behind, puts-first}
use Rattle.cov_replay.proofs.Lawful.{by-link, plain-finished, shut-unwritten}

-- ---- why the output ended it

write-failed : (before now : ℕ) (ended : Ended) → HasWriteCause before now ended → ((ended ≡ WriteFault) × Rose before now) ⊎ (ended ≡ NoMemory)
write-failed before now Done h = absurd h
write-failed before now Different h = absurd h
write-failed before now Below h = absurd h
write-failed before now Usage h = absurd h
write-failed before now SomeRefused h = absurd h
write-failed before now ReadFault h = absurd h
write-failed before now WriteFault h = inl (refl, h)
write-failed before now SpawnFault h = absurd h
write-failed before now LinkFault h = absurd h
write-failed before now (PeerFault session message) h = absurd h
write-failed before now (Child status) h = absurd h
write-failed before now NoMemory h = inr refl

write-unfinished : (before now : ℕ) (ended : Ended) → HasWriteCause before now ended → IsFinished ended → ⊥
write-unfinished before now ended h finished = elim (write-failed before now ended h) [
  | inl both ↦ subst IsFinished both.0 finished
  | inr is ↦ subst IsFinished is finished
]

some-line : (port : ℕ) → listening_line port ≡ [] → ⊥
some-line port e = absurd cc

not-write : (fault : Fault) → ended_by fault ≡ WriteFault → ⊥
not-write link.Failed e = absurd cc
not-write link.NoMemory e = absurd cc

module _ {L O E : Type 0} (tells : Telling L) (sessions : ℕ) (o : Opened) (before now : NetAt L) (out_before out_now : SinkAt O) (err : SinkAt E) where
  abbrev first : List ℕ
  first = listening_line o.port

  -- nobody was let in, and a front of the first line was written
  abbrev unwritten : Owed
  unwritten = cut_short o.port NoMemory

  pub plays-unwritten : (ended : Ended) → HasWriteCause out_before.faults out_now.faults ended → GainsPart out_before out_now first
      → out_before.faults ≤ out_now.faults → IsWithin piece out_before.longest out_now.longest → PlaysOut tells sessions o before before out_before out_now err err ended
  plays-unwritten ended cause part later within = record {
    owed = unwritten;
    owes = inl (record { fault = link.NoMemory; is = refl; unreplayed = inl (none_unmade sessions [] before link.NoMemory refl) });
    puts = puts-first first [] unwritten out_before out_now err ended (sym (append-nil first)) (some-line o.port) (write-unfinished out_before.faults out_now.faults ended cause)
        (elim (write-failed out_before.faults out_now.faults ended cause) [ inl both ↦ inr (inl both.0) | inr is ↦ inr (inr is) ])
        part
        (λ is. elim (write-failed out_before.faults out_now.faults ended cause) [
          | inl both ↦ both.1
          | inr short ↦ absurd (let same : NoMemory ≡ WriteFault = sym short ∙ is in cc)
        ])
        later within;
  }

  -- the first line was written, and the sessions weren't served to their ends
  pub plays-cut : (fault : Fault) → Unreplayed tells o.target.tape o.target.pace sessions before now fault → Gains out_before out_now first
      → out_now.faults ≡ out_before.faults → IsWithin piece out_before.longest out_now.longest → PlaysOut tells sessions o before now out_before out_now err err (ended_by fault)
  plays-cut fault unreplayed gains kept within = record {
    owed = cut_short o.port (ended_by fault);
    owes = inl (record { fault = fault; is = refl; unreplayed = unreplayed });
    puts = puts-first first [] (cut_short o.port (ended_by fault)) out_before out_now err (ended_by fault) (sym (append-nil first)) (some-line o.port) (by-link fault) (inl refl)
        (part-all out_before.held out_now.held first gains) (λ is. absurd (not-write fault is)) (omega (arith, kept)) within;
  }

  -- they were, and there was no memory for the tally
  pub plays-short : (tally : Tally) → Replayed tells o.target.tape o.target.pace sessions before now tally → Gains out_before out_now first
      → out_now.faults ≡ out_before.faults → IsWithin piece out_before.longest out_now.longest → PlaysOut tells sessions o before now out_before out_now err err NoMemory
  plays-short tally replayed gains kept within = record {
    owed = tally_due o.port tally o.lines o.refused;
    owes = inr (record { tally = tally; is = refl; replayed = replayed });
    puts = puts-first first (tally_line tally) (tally_due o.port tally o.lines o.refused) out_before out_now err NoMemory refl (some-line o.port) (λ h. h) (inr (inr refl))
        (part-all out_before.held out_now.held first gains) (λ is. absurd cc) (omega (arith, kept)) within;
  }

  -- the tally and the lines are put out behind the first line
  pub plays-due : (out_end : SinkAt O) (err_end : SinkAt E) (tally : Tally) (due : Due) (ended : Ended) → Replayed tells o.target.tape o.target.pace sessions before now tally
      → Gains out_before out_now first → out_now.faults ≡ out_before.faults → IsWithin piece out_before.longest out_now.longest
      → text_of due.out ≡ tally_line tally → due.err ≡ o.lines → due.ended ≡ refused_or_done o.refused
      → Puts (owed_of due) out_now out_end err err_end ended → PlaysOut tells sessions o before now out_before out_end err err_end ended
  plays-due out_end err_end tally due ended replayed gains kept within text lines ends puts = record {
    owed = record (owed_of due) { out = first ++ text_of due.out };
    owes = inr (record { tally = tally; is = λ i. record { out = first ++ text i; err = lines i; ended = ends i }; replayed = replayed });
    puts = puts-behind first (owed_of due) out_before out_now out_end err err_end ended (subst IsFinished (sym ends) (plain-finished o.refused)) gains kept within puts;
  }

-- ---- the whole

module _ {S N L O E : Type 0} (tells : Telling L) (p : Playing) (before mid : LiveWorld S N L) where
  pub runs-shut : (out : SinkAt O) (err : SinkAt E) (ended : Ended) → Shut p before mid ended
      → Runs (serve_duty tells p) (moment before out err) (moment mid out err) ended
  runs-shut out err ended shut = record {
    owed = early ended;
    owes = inl (record { silent = refl; shut = shut });
    puts = puts-nothing out err ended (shut-unwritten p before mid ended shut);
  }

  pub runs-open : (net : LiveNet N L) (out_before out_now : SinkAt O) (err_before err_now : SinkAt E) (o : Opened) (ended : Ended) → IsOpen p before mid o
      → PlaysOut tells p.sessions o mid.net.at net.at out_before out_now err_before err_now ended
      → Runs (serve_duty tells p) (moment before out_before err_before) (moment (live_world mid.store net) out_now err_now) ended
  runs-open net out_before out_now err_before err_now o ended open_is plays = record {
    owed = plays.owed;
    owes = inr (record {
      read = open_is.read;
      still = open_is.still;
      tape = o.target.tape;
      lines = o.lines;
      refused = o.refused;
      tape_is = open_is.tape;
      lines_are = open_is.lines;
      refused_is = open_is.refused;
      port = o.port;
      owes = elim plays.owes [
        | inl cut ↦ inl (subst₂ (λ (pace : ℕ) (at : NetAt L). CutShort tells o.target.tape pace p.sessions o.port at net.at plays.owed) open_is.pace open_is.net cut)
        | inr whole ↦ inr (subst₂ (λ (pace : ℕ) (at : NetAt L). Tallied tells o.target.tape pace p.sessions o.port o.lines o.refused at net.at plays.owed) open_is.pace open_is.net whole)
      ];
    });
    puts = plays.puts;
  }
