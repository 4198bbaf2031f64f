use Rattle.std.proofs.Common.{rules, ◌≡◌, ◌<◌, ◌+◌, [], ◌∷◌, ◌++◌, length, take, get_or, map, refl, sym, ap, ◌∙◌, subst, inl, inr}
use Rattle.std.specs.Prelude.{string_bytes}
use Rattle.std.proofs.lemmas.List.{map_more}
use Rattle.cov_io.specs.Causes.{Rose}
use Rattle.cov_io.specs.Told.{path_in, names_in}
use Rattle.cov_io.proofs.Names.{HasFile}
use Rattle.cov_commands.proofs.Listed.{listed-HasFile}
use Rattle.cov_book.specs.Stands.{StandsFor}
use Rattle.cov_replay.specs.Taping.{HasTaped}
use Rattle.cov_replay.proofs.Taping.{taped-none}
use Rattle.cov_replay.proofs.tape.tape_of.Goals as goal

pub loop-name-init : goal.loop-name-init
loop-name-init g c =
    let none : c.new.result.items ≡ [] = search rules in
    record {
      stands = subst (StandsFor c.new-book.result) (sym none) c.new-book.ensures;
      taped = λ files is. taped-none c.args.folder.now files _ none c.new-2.ensures refl refl;
      faults = c.in-Ok.ensures.cause.kept;
      files = c.in-Ok.ensures.files;
      folders = c.in-Ok.ensures.folders;
    }

pub returns-in-Err-take_name-clause-stops : goal.returns-in-Err-take_name-clause-stops
returns-in-Err-take_name-clause-stops g c =
    record {
      only = c.in-Err-take_name.ensures.stops.only;
      read = λ is. elim (c.in-Err-take_name.ensures.stops.read is) [
        | inl rose ↦ inl (subst (λ n. Rose n (g.S.Store.faults c.take_name.new.store)) c.loop-name.invariant.faults rose)
        | inr missing ↦
            let k = c.loop-name.name-index in
            let d = c.name-item.result in
            let items = c.in-Ok.names.items in
            let named : map string_bytes items ≡ names_in c.args.folder.now missing.0 = c.in-Ok.ensures.names missing.0 (sym c.loop-name.invariant.files ∙ missing.1) in
            let below : k < length items = subst (λ xs. k < length xs) c.as_slice-name-items.ensures.value c.loop-name-test.true in
            let name : string_bytes (get_or items k d) ≡ c.as_str.result.now =
            ap (λ xs. string_bytes (get_or xs k d)) (sym c.as_slice-name-items.ensures.value) ∙ ap string_bytes (sym c.name-item.is) ∙ sym c.as_str.ensures.value in
            absurd ((subst (λ n. HasFile missing.0 (path_in c.args.folder.now n)) name (listed-HasFile c.args.folder.now missing.0 items k d named below)) missing.2)
      ];
    }

pub loop-name-preserved : goal.loop-name-preserved
loop-name-preserved g c =
    let k = c.loop-name.name-index in
    let d = c.name-item.result in
    let items = c.as_slice-name-items.result.now in
    let before = c.loop-name.invariant in
    let e = c.in_default.ensures in
    let more : map string_bytes (take k items) ++ c.as_str.result.now ∷ [] ≡ map string_bytes (take (k + 1) items) =
    ap (λ n. map string_bytes (take k items) ++ n ∷ []) (c.as_str.ensures.value ∙ ap string_bytes c.name-item.is) ∙ sym (map_more string_bytes items k d c.loop-name-test.true) in
    record {
      stands = e.stands before.stands;
      taped = λ files is.
          subst (λ names. HasTaped c.args.folder.now files names c.take_name.new.tape) more
          (e.taped before.stands files (before.files ∙ is) (map string_bytes (take k items)) (before.taped files is));
      faults = e.kept ∙ before.faults;
      files = e.still.files ∙ before.files;
      folders = e.still.folders ∙ before.folders;
    }
