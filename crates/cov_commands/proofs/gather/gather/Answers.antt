use Rattle.std.proofs.Common.{◌≡◌, ◌<◌, List, length, get_or, map, refl, sym, ap, ◌∙◌, subst, inl, inr}
use Rattle.std.specs.Prelude.{string_bytes}
use Rattle.cov_model.specs.Outcome.{accepted_over, answers_over}
use Rattle.cov_io.specs.Causes.{Rose}
use Rattle.cov_io.specs.Told.{path_in, names_in}
use Rattle.cov_io.proofs.Names.{HasFile}
use Rattle.cov_commands.proofs.Listed.{listed-HasFile}
use Rattle.source_maps.specs.Entries.{Said}
use Rattle.cov_report.specs.First.{AreFirsts}
use Rattle.cov_report.specs.Texts.{entries_of_taken}
use Rattle.cov_commands.specs.Due.{paths_of}
use Rattle.cov_commands.proofs.Keeping.{kept-none}
use Rattle.cov_commands.proofs.gather.gather.Goals as goal

pub loop-name-init : goal.loop-name-init
unfolding paths_of accepted_over answers_over entries_of_taken
loop-name-init g c =
    record {
      taken = λ files is. record { book = c.requires; lines = c.new.ensures; refused = refl };
      kept = λ files is. subst (λ (said : List Said). AreFirsts said c.new-2.result) (kept-none c.args.maps) c.new-2.ensures;
      faults = c.in-Ok.ensures.cause.kept;
      files = c.in-Ok.ensures.files;
      folders = c.in-Ok.ensures.folders;
    }

pub returns-in-Err-take_name-clause-stops : goal.returns-in-Err-take_name-clause-stops
returns-in-Err-take_name-clause-stops g c =
    record {
      only = c.in-Err-take_name.ensures.stops.only;
      read = λ is. elim (c.in-Err-take_name.ensures.stops.read is) [
        | inl rose ↦ inl (subst (λ n. Rose n (g.S.Store.faults c.take_name.new.store)) c.loop-name.invariant.faults rose)
        | inr missing ↦
            let k = c.loop-name.name-index in
            let d = c.name-item.result in
            let items = c.in-Ok.names.items in
            let named : map string_bytes items ≡ names_in c.args.folder.now missing.0 = c.in-Ok.ensures.names missing.0 (sym c.loop-name.invariant.files ∙ missing.1) in
            let below : k < length items = subst (λ xs. k < length xs) c.as_slice-name-items.ensures.value c.loop-name-test.true in
            let name : string_bytes (get_or items k d) ≡ c.as_str.result.now =
            ap (λ xs. string_bytes (get_or xs k d)) (sym c.as_slice-name-items.ensures.value) ∙ ap string_bytes (sym c.name-item.is) ∙ sym c.as_str.ensures.value in
            absurd ((subst (λ n. HasFile missing.0 (path_in c.args.folder.now n)) name (listed-HasFile c.args.folder.now missing.0 items k d named below)) missing.2)
      ];
    }
