-- A call from its parts: what is owed, what is put out, and the last line.
use Rattle.std.proofs.Common.{◌≡◌, ◌≤◌, ℕ, List, [], ◌++◌, take, refl, sym, ap, ◌∙◌, subst, arith, inl, inr, append_assoc}
use Rattle.std.specs.Prelude.{◌⊎◌, Option, None, Some, Ok, Err, length, max}
use Rattle.std.specs.Io.KnownBytes.{Appends}
use Rattle.std.proofs.lemmas.List.{append-nil}
use Rattle.cov_io.specs.Causes.{Rose}
use Rattle.cov_io.specs.Grows.{longest_after}
use Rattle.json_pieces.specs.Pieces.{piece}
use Rattle.json_pieces.proofs.Steps.{appends-same, appends-join, within-same}
use Rattle.cov_commands.specs.declared.due.Due.{Due}
use Rattle.cov_commands.specs.declared.ended.Ended.{Ended}
use Rattle.cov_commands.specs.declared.ended.Ended.TheVariants.{Usage, ReadFault, WriteFault, NoMemory}
use Rattle.cov_commands.specs.Ends.{IsFinished, IsFinishedOrShort, last_line}
use Rattle.cov_commands.specs.Owed.{Owed, Gives, early, owed_of, Duty}
use Rattle.cov_commands.specs.Sinks.{SinkAt, Gains, EndsAs, Puts, GainsLine, HasHanded, LastLine}
use Rattle.cov_commands.specs.Call.{Moment, moment, EndsEarly, Runs, Asks, Ran, Call}
use Rattle.cov_commands.proofs.Parts.{part-same}
use Rattle.cov_commands.proofs.Went.{finished-line}

-- ---- bytes

rose-before : (a b c : ℕ) → a ≤ b → Rose b c → Rose a c
rose-before a b c le rose = omega (arith, rose)

rose-then : (a b c : ℕ) → b ≤ c → Rose a b → Rose a c
rose-then a b c le rose = omega (arith, rose)

≤-then : (a b c : ℕ) → a ≤ b → b ≤ c → a ≤ c
≤-then a b c p q = omega arith

-- a sink that was handed a piece tells a length that is no less
pub handed : (piece : List ℕ) (before now : Option ℕ) → now ≡ longest_after piece before → HasHanded now piece
handed piece None now e n told = absurd (let both : None ≡ Some n = sym e ∙ told in cc)
handed piece (Some m) now e n told =
    let both : Some (max m (length piece)) ≡ Some n = sym e ∙ told in
    let same : max m (length piece) ≡ n = cc in
    omega (arith, same)

-- a line behind what stands already
pub line-behind : {S : Type 0} (a b c : SinkAt S) (front line : List ℕ) → a.faults ≤ b.faults → Gains a b front → GainsLine b c [] line → GainsLine a c front line
line-behind a b c front line le grown (inl whole) = inl (appends-join a.held b.held c.held front line grown whole)
line-behind a b c front line le grown (inr (inl none)) =
    inr (inl (subst (Appends a.held c.held) (append-nil front) (appends-join a.held b.held c.held front [] grown none)))
line-behind a b c front line le grown (inr (inr cut)) =
    inr (inr (rose-before a.faults b.faults c.faults le cut.0, (cut.1.0, appends-join a.held b.held c.held front (take cut.1.0 line) grown cut.1.1)))

-- ---- what a call owes to the duty of its command

pub record IsLawful {W : Type 0} (duty : Duty W) : Type 0 where
  pub absent : (before now : W) (owed : Owed) → duty.owes before now owed → duty.missing before
      → (IsFinished owed.ended → ⊥) × (owed.out ≡ []) × ((duty.risen before now → ⊥) → (owed.ended ≡ ReadFault) ⊎ (owed.ended ≡ NoMemory))
  pub complete : (before now : W) (owed : Owed) → duty.owes before now owed → (duty.missing before → ⊥) → (duty.risen before now → ⊥) → IsFinishedOrShort owed.ended
  pub read : (before now : W) (owed : Owed) → duty.owes before now owed → owed.ended ≡ ReadFault → EndsEarly owed × (duty.risen before now ⊎ duty.missing before)
  pub unwritten : (before now : W) (owed : Owed) → duty.owes before now owed → owed.ended ≡ WriteFault → ⊥
  pub taken : (before now : W) (owed : Owed) → duty.owes before now owed → owed.ended ≡ Usage → ⊥
  pub short : (world : W) → duty.owes world world (early NoMemory)

-- ---- nothing is put out

pub puts-nothing : {O E : Type 0} (out : SinkAt O) (err : SinkAt E) (ended : Ended) → (ended ≡ WriteFault → ⊥) → Puts (early ended) out out err err ended
puts-nothing out err ended not_write = record {
  answers = inl refl;
  done = λ finished. (refl, appends-same out.held, appends-same err.held);
  out_prefix = part-same out.held [];
  err_prefix = part-same err.held [];
  order = inr refl;
  write = λ is. absurd (not_write is);
  kept = λ finished. (refl, refl);
  silent = λ unfinished none. (refl, refl, refl);
  later = (omega arith, omega arith);
  within = within-same piece out.longest;
}

-- ---- a body, and what is put out of it

module _ {W O E : Type 0} (duty : Duty W) (before now : W) where
  pub runs-nothing : (out : SinkAt O) (err : SinkAt E) (ended : Ended) → IsLawful duty → Gives duty before now (Err ended)
      → Runs duty (moment before out err) (moment now out err) ended
  runs-nothing out err ended law gives =
      record { owed = early ended; owes = gives.err; puts = puts-nothing out err ended (law.unwritten before now (early ended) gives.err) }

  pub runs-due : (out_before out_now : SinkAt O) (err_before err_now : SinkAt E) (due : Due) (ended : Ended) → Gives duty before now (Ok due)
      → Puts (owed_of due) out_before out_now err_before err_now ended → Runs duty (moment before out_before err_before) (moment now out_now err_now) ended
  runs-due out_before out_now err_before err_now due ended gives puts = record { owed = owed_of due; owes = gives.ok; puts = puts }

-- ---- the last line

module _ {W O E : Type 0} (duty : Duty W) (before mid : Moment W O E) (err : SinkAt E) (ended : Ended) where
  now : Moment W O E
  now = moment mid.world mid.out err

  finished-err : LastLine mid.err err ended → IsFinished ended → err ≡ mid.err
  finished-err last finished = last.none (finished-line ended finished)

  ended-short : (owed : Owed) → EndsAs owed ended → IsFinishedOrShort owed.ended → (ended ≡ WriteFault → ⊥) → IsFinishedOrShort ended
  ended-short owed (inl is) fine not_write = subst IsFinishedOrShort (sym is) fine
  ended-short owed (inr (inl is)) fine not_write = absurd (not_write is)
  ended-short owed (inr (inr is)) fine not_write = subst IsFinishedOrShort (sym is) tt

  as-owed : (owed : Owed) (other : Ended) → EndsAs owed ended → (other ≡ WriteFault → ⊥) → (other ≡ NoMemory → ⊥) → ended ≡ other → owed.ended ≡ other
  as-owed owed other (inl is) not_write not_short e = sym is ∙ e
  as-owed owed other (inr (inl is)) not_write not_short e = absurd (not_write (sym e ∙ is))
  as-owed owed other (inr (inr is)) not_write not_short e = absurd (not_short (sym e ∙ is))

  pub ran : IsLawful duty → Runs duty before mid ended → LastLine mid.err err ended → Ran duty before (moment mid.world mid.out err) ended
  ran law runs last =
      let puts = runs.puts in
      let owed = runs.owed in
      record {
        owed = owed;
        owes = runs.owes;
        answers = puts.answers;
        done = λ finished.
            let done = puts.done finished in
            (done.0, done.1, subst (λ (e : SinkAt E). Gains before.err e owed.err) (sym (finished-err last finished)) done.2);
        out_prefix = puts.out_prefix;
        err_prefix = (puts.err_prefix.0, line-behind before.err mid.err err (take puts.err_prefix.0 owed.err) (last_line ended) puts.later.1 puts.err_prefix.1 last.gains);
        handed = last.handed;
        within = puts.within;
        order = elim puts.order [
          | inl whole ↦ inl whole
          | inr same ↦ inr (subst (λ (e : SinkAt E). GainsLine e err [] (last_line ended)) same last.gains)
        ];
        write = λ is. elim (puts.write is) [
          | inl failed ↦ inl failed
          | inr both ↦ inr (both.0, rose-then before.err.faults mid.err.faults err.faults last.later both.1)
        ];
        read = λ is. law.read before.world mid.world owed runs.owes (as-owed owed ReadFault puts.answers (λ e. absurd cc) (λ e. absurd cc) is);
        taken = λ is. law.taken before.world mid.world owed runs.owes (as-owed owed Usage puts.answers (λ e. absurd cc) (λ e. absurd cc) is);
        kept = λ finished. ((puts.kept finished).0, ap (λ (e : SinkAt E). e.faults) (finished-err last finished) ∙ (puts.kept finished).1);
        silent = λ quiet.
            let same = puts.silent quiet.0 quiet.1 in
            (same.0, same.1, subst (λ (e : SinkAt E). GainsLine e err [] (last_line ended)) same.2 last.gains);
        absent = λ missing.
            let gone = law.absent before.world mid.world owed runs.owes missing in
            let is = (puts.silent gone.0 gone.1).0 in
            (λ finished. gone.0 (subst IsFinished is finished), λ still. subst (λ (x : Ended). (x ≡ ReadFault) ⊎ (x ≡ NoMemory)) (sym is) (gone.2 still));
        complete = λ there still out_fine err_fine.
            ended-short owed puts.answers (law.complete before.world mid.world owed runs.owes there still) (λ is. elim (puts.write is) [
              | inl failed ↦ out_fine failed
              | inr both ↦ err_fine (rose-then before.err.faults mid.err.faults err.faults last.later both.1)
            ]);
        later = (puts.later.0, ≤-then before.err.faults mid.err.faults err.faults puts.later.1 last.later);
      }

pub called : {C W O E : Type 0} (duty : C → Duty W) (asked : Option C) (before mid : Moment W O E) (err : SinkAt E) (ended : Ended)
    → ((command : C) → IsLawful (duty command)) → Asks duty asked before mid ended → LastLine mid.err err ended
    → Call duty asked before (moment mid.world mid.out err) ended
called {C} {W} {O} {E} duty asked before mid err ended law asks last = record {
  usage = λ none.
      let same = asks.none none in
      record {
        usage = same.1;
        world = ap (λ (m : Moment W O E). m.world) same.0;
        out = ap (λ (m : Moment W O E). m.out) same.0;
        err = subst (λ (m : Moment W O E). GainsLine m.err err [] (last_line ended)) same.0 last.gains;
        handed = last.handed;
        later = subst (λ (m : Moment W O E). m.err.faults ≤ err.faults) same.0 last.later;
      };
  ran = λ command is. ran (duty command) before mid err ended (law command) (asks.some command is) last;
}

-- ---- the words

module _ {C W O E : Type 0} (duty : C → Duty W) (asked : Option C) (before now : Moment W O E) (ended : Ended) where
  same-asked : (one other : C) → asked ≡ Some one → asked ≡ Some other → one ≡ other
  same-asked one other e f = let same : Some one ≡ Some other = sym e ∙ f in cc

  pub asks-ran : (command : C) → asked ≡ Some command → Runs (duty command) before now ended → Asks duty asked before now ended
  asks-ran command is runs = record {
    none = λ none. absurd (let both : Some command ≡ None = sym is ∙ none in cc);
    some = λ other other_is. subst (λ (c : C). Runs (duty c) before now ended) (same-asked command other is other_is) runs;
  }

  pub asks-none : asked ≡ None → now ≡ before → ended ≡ Usage → Asks duty asked before now ended
  asks-none is same usage = record {
    none = λ none. (same, inl usage);
    some = λ other other_is. absurd (let both : Some other ≡ None = sym other_is ∙ is in cc);
  }

pub asks-short : {C W O E : Type 0} (duty : C → Duty W) (asked : Option C) (before : Moment W O E) → ((command : C) → IsLawful (duty command))
    → Asks duty asked before before NoMemory
asks-short duty asked before law = record {
  none = λ none. (refl, inr refl);
  some = λ command is. record { owed = early NoMemory; owes = (law command).short before.world; puts = puts-nothing before.out before.err NoMemory (λ e. absurd cc) };
}
