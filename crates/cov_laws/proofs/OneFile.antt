-- Two lists have one file exactly where they have the same sums.
use Rattle.std.proofs.Common.{◌≡◌, List, [], ◌∷◌, sym, ap, ◌∙◌}
use Rattle.std.proofs.lemmas.List.{append-nil}
use Rattle.cov_model.specs.declared.snapshot.Snapshot.{Snapshot}
use Rattle.cov_model.specs.File.{file_in, scripts}
use Rattle.cov_model.specs.Held.{held_of}
use Rattle.cov_book.proofs.Agreeing.{held-agree, come-to-one}
use Rattle.cov_book.proofs.Shards.{merges_in_parts}
use Rattle.cov_laws.specs.Laws.{OneFile}
use Rattle.cov_laws.proofs.Written.{one-text}
use Rattle.cov_laws.proofs.Offsets.{read-offsets}
use Rattle.cov_laws.proofs.Small.{small-scripts}

-- a list has the sums of its scripts
sums-of-scripts : (held : List Snapshot) → held_of (scripts held ∷ []) ≡ held_of held
sums-of-scripts held = (merges_in_parts (held ∷ [])).sums ∙ ap held_of (append-nil held)

pub one_file : OneFile
unfolding file_in
one_file one other fit also h k = (
  λ same.
      sym (sums-of-scripts one)
      ∙ ap (λ s. held_of (s ∷ [])) (one-text (scripts one) (scripts other) (small-scripts one fit (read-offsets one h)) (small-scripts other also (read-offsets other k)) same)
      ∙ sums-of-scripts other,
  λ same. (come-to-one one other (held-agree one other same)).file,
)
