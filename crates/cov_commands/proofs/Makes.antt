-- What `make` comes to.
use Rattle.std.proofs.Common.{◌≡◌, ℕ, refl, sym, ap, ◌∙◌, subst, arith, inl, inr}
use Rattle.std.specs.Prelude.{◌⊎◌, Result, Ok, Err, IfOk, IfErr}
use Rattle.cov_commands.specs.declared.due.Due.{Due}
use Rattle.cov_commands.specs.declared.ended.Ended.{Ended}
use Rattle.cov_commands.specs.declared.ended.Ended.TheVariants.{Done, Usage, ReadFault, WriteFault, NoMemory}
use Rattle.cov_commands.specs.Ends.{IsFinished, IsFinishedOrShort}
use Rattle.cov_commands.specs.Making.{make_due, make_duty}
use Rattle.cov_commands.specs.Owed.{Owed, Gives, owed_of, early}
use Rattle.cov_commands.specs.Stores.{StoreAt}
use Rattle.cov_commands.proofs.Calls.{IsLawful}

-- it is done, or wants memory
made-ends : (seed count : ℕ) (owed : Owed) → (owed ≡ make_due seed count) ⊎ (owed ≡ early NoMemory) → (owed.ended ≡ Done) ⊎ (owed.ended ≡ NoMemory)
made-ends seed count owed (inl is) = inl (ap (λ (o : Owed). o.ended) is)
made-ends seed count owed (inr is) = inr (ap (λ (o : Owed). o.ended) is)

done-or-short : (ended : Ended) → (ended ≡ Done) ⊎ (ended ≡ NoMemory) → IsFinishedOrShort ended
done-or-short ended (inl is) = subst IsFinishedOrShort (sym is) tt
done-or-short ended (inr is) = subst IsFinishedOrShort (sym is) tt

not-read : (ended : Ended) → (ended ≡ Done) ⊎ (ended ≡ NoMemory) → ended ≡ ReadFault → ⊥
not-read ended (inl is) e = let both : Done ≡ ReadFault = sym is ∙ e in cc
not-read ended (inr is) e = let both : NoMemory ≡ ReadFault = sym is ∙ e in cc

not-write : (ended : Ended) → (ended ≡ Done) ⊎ (ended ≡ NoMemory) → ended ≡ WriteFault → ⊥
not-write ended (inl is) e = let both : Done ≡ WriteFault = sym is ∙ e in cc
not-write ended (inr is) e = let both : NoMemory ≡ WriteFault = sym is ∙ e in cc

not-usage : (ended : Ended) → (ended ≡ Done) ⊎ (ended ≡ NoMemory) → ended ≡ Usage → ⊥
not-usage ended (inl is) e = let both : Done ≡ Usage = sym is ∙ e in cc
not-usage ended (inr is) e = let both : NoMemory ≡ Usage = sym is ∙ e in cc

pub make-lawful : {S : Type 0} (seed count : ℕ) → IsLawful (make_duty {S = S} seed count)
make-lawful seed count = record {
  absent = λ before now owed owes missing. absurd missing;
  complete = λ before now owed owes there still. done-or-short owed.ended (made-ends seed count owed owes.either);
  read = λ before now owed owes is. absurd (not-read owed.ended (made-ends seed count owed owes.either) is);
  unwritten = λ before now owed owes is. not-write owed.ended (made-ends seed count owed owes.either) is;
  taken = λ before now owed owes is. not-usage owed.ended (made-ends seed count owed owes.either) is;
  short = λ world. record { either = inr refl; uncalled = refl };
}

module _ {S : Type 0} (seed count : ℕ) (world : StoreAt S) where
  pub gives-made : (due : Due) → owed_of due ≡ make_due seed count → Gives (make_duty seed count) world world (Ok due)
  gives-made due is = record {
    ok = record { either = inl is; uncalled = refl };
    finished = subst IsFinished (sym (ap (λ (o : Owed). o.ended) is)) tt;
    err = tt;
  }

  pub gives-short : (ended : Ended) → ended ≡ NoMemory → Gives (make_duty seed count) world world (Err ended)
  gives-short ended is = record { ok = tt; finished = tt; err = record { either = inr (ap early is); uncalled = refl } }

pub gives_made_or_short : {S : Type 0} (seed count : ℕ) (world : StoreAt S) (result : Result Due Ended) → IfOk result (λ due. owed_of due ≡ make_due seed count)
    → IfErr result (λ ended. ended ≡ NoMemory) → Gives (make_duty seed count) world world result
gives_made_or_short seed count world (Ok due) due_is short = gives-made seed count world due due_is
gives_made_or_short seed count world (Err ended) due_is short = gives-short seed count world ended short
