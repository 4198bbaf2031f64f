-- Texts behind a first line that was written.
use Rattle.std.proofs.Common.{◌≡◌, ◌≤◌, ℕ, List, [], ◌∷◌, ◌++◌, length, take, drop, refl, sym, ap, ◌∙◌, subst, arith, inl, inr, append_assoc}
use Rattle.std.specs.Prelude.{Option}
use Rattle.std.proofs.Math.Seq.{take-append_seam}
use Rattle.std.proofs.lemmas.List.{take-append-drop}
use Rattle.std.specs.Io.KnownBytes.{Appends}
use Rattle.cov_io.specs.Causes.{Rose}
use Rattle.cov_io.specs.Grows.{AppendsPart}
use Rattle.json_pieces.specs.Pieces.{IsWithin, piece}
use Rattle.json_pieces.proofs.Steps.{appends-join, within-join}
use Rattle.cov_commands.specs.declared.ended.Ended.{Ended}
use Rattle.cov_commands.specs.declared.ended.Ended.TheVariants.{WriteFault}
use Rattle.cov_commands.specs.Ends.{IsFinished}
use Rattle.cov_commands.specs.Owed.{Owed}
use Rattle.cov_commands.specs.Sinks.{EndsAs, Fails, Gains, GainsPart, Puts, SinkAt}
use Rattle.cov_commands.proofs.Parts.{part-same}

-- ---- fronts

-- a front of the first text is one of the whole
part-front : (before now : Option (List ℕ)) (first rest : List ℕ) → AppendsPart before now first → AppendsPart before now (first ++ rest)
part-front before now first rest part =
    let n = part.0 in
    let front = take n first in
    let whole : front ++ (drop n first ++ rest) ≡ first ++ rest = sym (append_assoc front (drop n first) rest) ∙ ap (λ xs. xs ++ rest) (take-append-drop n first) in
    (length front, subst (Appends before now) (sym (take-append_seam front (drop n first ++ rest)) ∙ ap (take (length front)) whole) part.1)

-- the first text, and a front of the rest
part-behind : (a b c : Option (List ℕ)) (first rest : List ℕ) → Appends a b first → AppendsPart b c rest → AppendsPart a c (first ++ rest)
part-behind a b c first rest whole part =
    let n = part.0 in
    let front = take n rest in
    let is : (first ++ front) ++ drop n rest ≡ first ++ rest = append_assoc first front (drop n rest) ∙ ap (λ xs. first ++ xs) (take-append-drop n rest) in
    (length (first ++ front), subst (Appends a c) (sym (take-append_seam (first ++ front) (drop n rest)) ∙ ap (take (length (first ++ front))) is) (appends-join a b c first front whole part.1))

-- ---- the output has got the first text, or a front of it, and nothing else was put out

pub puts-first : {O E : Type 0} (first rest : List ℕ) (owed : Owed) (out_before out_now : SinkAt O) (err : SinkAt E) (ended : Ended)
    → owed.out ≡ first ++ rest → (first ≡ [] → ⊥) → (IsFinished ended → ⊥) → EndsAs owed ended
    → GainsPart out_before out_now first → (ended ≡ WriteFault → Fails out_before out_now) → out_before.faults ≤ out_now.faults
    → IsWithin piece out_before.longest out_now.longest → Puts owed out_before out_now err err ended
puts-first first rest owed out_before out_now err ended is some unfinished answers part failed later within = record {
  answers = answers;
  done = λ finished. absurd (unfinished finished);
  out_prefix = subst (GainsPart out_before out_now) (sym is) (part-front out_before.held out_now.held first rest part);
  err_prefix = part-same err.held owed.err;
  order = inr refl;
  write = λ write. inl (failed write);
  kept = λ finished. absurd (unfinished finished);
  silent = λ quiet none. absurd (some (no-front first rest (sym is ∙ none)));
  later = (later, omega arith);
  within = within;
}
  where
    no-front : (xs ys : List ℕ) → xs ++ ys ≡ [] → xs ≡ []
    no-front [] ys e = refl
    no-front (x ∷ xs) ys e = absurd cc

-- ---- the rest is put out behind the first text

pub puts-behind : {O E : Type 0} (first : List ℕ) (owed : Owed) (out_before out_mid out_now : SinkAt O) (err_before err_now : SinkAt E) (ended : Ended)
    → IsFinished owed.ended → Gains out_before out_mid first → out_mid.faults ≡ out_before.faults → IsWithin piece out_before.longest out_mid.longest
    → Puts owed out_mid out_now err_before err_now ended
    → Puts (record owed { out = first ++ owed.out }) out_before out_now err_before err_now ended
puts-behind first owed out_before out_mid out_now err_before err_now ended finishes gains kept within puts = record {
  answers = puts.answers;
  done = λ finished.
      let done = puts.done finished in
      (done.0, appends-join out_before.held out_mid.held out_now.held first owed.out gains done.1, done.2);
  out_prefix = part-behind out_before.held out_mid.held out_now.held first owed.out gains puts.out_prefix;
  err_prefix = puts.err_prefix;
  order = elim puts.order [
    | inl whole ↦ inl (appends-join out_before.held out_mid.held out_now.held first owed.out gains whole)
    | inr same ↦ inr same
  ];
  write = λ is. elim (puts.write is) [
    | inl failed ↦ inl (subst (λ n. Rose n out_now.faults) kept failed)
    | inr both ↦ inr (appends-join out_before.held out_mid.held out_now.held first owed.out gains both.0, both.1)
  ];
  kept = λ finished. let same = puts.kept finished in (same.0 ∙ kept, same.1);
  silent = λ unfinished none. absurd (unfinished finishes);
  later = (omega (arith, kept, puts.later.0), puts.later.1);
  within = within-join piece out_before.longest out_mid.longest out_now.longest within puts.within;
}
