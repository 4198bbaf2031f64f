use Rattle.std.proofs.Common.{◌≡◌, ◌<◌, ◌+◌, [], ◌∷◌, ◌++◌, length, get_or, map, take, sym, ap, ◌∙◌, subst, arith, inl, inr}
use Rattle.std.specs.Prelude.{string_bytes}
use Rattle.std.proofs.lemmas.List.{map_more, take_all}
use Rattle.cov_io.specs.Causes.{Rose}
use Rattle.cov_io.specs.Told.{path_in, names_in}
use Rattle.cov_io.proofs.Names.{HasFile}
use Rattle.cov_commands.proofs.Listed.{listed-HasFile}
use Rattle.cov_commands.specs.Due.{paths_of}
use Rattle.cov_commands.specs.Gathering.{HasGathered}
use Rattle.cov_commands.proofs.collect.gather_texts.Goals as goal

pub loop-name-init : goal.loop-name-init
unfolding paths_of
loop-name-init g c =
    record {
      taken = λ files is. record { texts = c.new-2.ensures; paths = ap (map string_bytes) c.new.ensures.items };
      faults = c.in-Ok.ensures.cause.kept;
      files = c.in-Ok.ensures.files;
      folders = c.in-Ok.ensures.folders;
    }

pub loop-name-preserved : goal.loop-name-preserved
loop-name-preserved g c =
    let k = c.loop-name.name-index in
    let d = c.name-item.result in
    let items = c.as_slice-name-items.result.now in
    let more : map string_bytes (take k items) ++ c.as_str.result.now ∷ [] ≡ map string_bytes (take (k + 1) items) =
    ap (λ n. map string_bytes (take k items) ++ n ∷ []) (c.as_str.ensures.value ∙ ap string_bytes c.name-item.is) ∙ sym (map_more string_bytes items k d c.loop-name-test.true) in
    record {
      taken = λ files is.
          subst (λ names. HasGathered c.args.folder.now files names c.in-Ok-take_name.gathered) more
          (c.in-Ok-take_name.ensures.taken files (c.loop-name.invariant.files ∙ is) (map string_bytes (take k items)) (c.loop-name.invariant.taken files is));
      faults = c.in-Ok-take_name.ensures.kept ∙ c.loop-name.invariant.faults;
      files = c.in-Ok-take_name.ensures.still.files ∙ c.loop-name.invariant.files;
      folders = c.in-Ok-take_name.ensures.still.folders ∙ c.loop-name.invariant.folders;
    }

pub returns-clause-taken : goal.returns-clause-taken
returns-clause-taken g c =
    let k = c.loop-name.name-index in
    let items = c.as_slice-name-items.result.now in
    let all : take k items ≡ c.in-Ok.names.items = take_all k items (omega arith) ∙ c.as_slice-name-items.ensures.value in
    λ files is.
    subst (λ names. HasGathered c.args.folder.now files names c.loop-name.gathered) (ap (map string_bytes) all ∙ c.in-Ok.ensures.names files is)
    (c.loop-name.invariant.taken files is)

pub returns-in-Err-take_name-clause-stops : goal.returns-in-Err-take_name-clause-stops
returns-in-Err-take_name-clause-stops g c =
    record {
      only = c.in-Err-take_name.ensures.stops.only;
      read = λ is. elim (c.in-Err-take_name.ensures.stops.read is) [
        | inl rose ↦ inl (subst (λ n. Rose n (g.S.Store.faults c.take_name.new.store)) c.loop-name.invariant.faults rose)
        | inr missing ↦
            let k = c.loop-name.name-index in
            let d = c.name-item.result in
            let items = c.in-Ok.names.items in
            let named : map string_bytes items ≡ names_in c.args.folder.now missing.0 = c.in-Ok.ensures.names missing.0 (sym c.loop-name.invariant.files ∙ missing.1) in
            let below : k < length items = subst (λ xs. k < length xs) c.as_slice-name-items.ensures.value c.loop-name-test.true in
            let name : string_bytes (get_or items k d) ≡ c.as_str.result.now =
            ap (λ xs. string_bytes (get_or xs k d)) (sym c.as_slice-name-items.ensures.value) ∙ ap string_bytes (sym c.name-item.is) ∙ sym c.as_str.ensures.value in
            absurd ((subst (λ n. HasFile missing.0 (path_in c.args.folder.now n)) name (listed-HasFile c.args.folder.now missing.0 items k d named below)) missing.2)
      ];
    }
