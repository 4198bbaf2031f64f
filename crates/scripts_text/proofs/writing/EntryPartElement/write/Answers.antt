use Rattle.std.proofs.lemmas.Result.{err_from_is_err_and}
use Rattle.json_pieces.proofs.Steps.{hands-of, hands-none, hands-short, hands-join, hands-stops}
use Rattle.scripts_text.specs.Parts.{behind_functions}
use Rattle.scripts_text.proofs.Texts.{entry-text}
use Rattle.scripts_text.proofs.writing.EntryPartElement.write.Goals as goal

pub returns-in_err-write_list : goal.returns-in_err-write_list
returns-in_err-write_list g c =
    let p = err_from_is_err_and c.from_residual.result c.from_residual.ensures.1 in
    let is = entry-text c.args.place c.args.self.now c.as_slice-functions.result.now c.as_slice-functions.ensures in
    rw (p.1, p.2) (hands-of _ _ _ _ _ _ _ is (hands-stops _ (behind_functions c.args.place c.args.self.now) _ _ _ _ _ _ c.in_err-write_list.ensures))

pub returns-in_err-put_behind_functions : goal.returns-in_err-put_behind_functions
returns-in_err-put_behind_functions g c =
    let p = err_from_is_err_and c.from_residual-in_err-put_behind_functions.result c.from_residual-in_err-put_behind_functions.ensures.1 in
    let is = entry-text c.args.place c.args.self.now c.as_slice-functions.result.now c.as_slice-functions.ensures in
    rw (p.1, p.2) (hands-of _ _ _ _ _ _ _ is (hands-join _ (behind_functions c.args.place c.args.self.now) _ _ _ _ _ _ _ c.in_ok-write_list.ensures (hands-short _ _ _ _)))

pub returns : goal.returns
returns g c =
    let is = entry-text c.args.place c.args.self.now c.as_slice-functions.result.now c.as_slice-functions.ensures in
    hands-of _ _ _ _ _ _ _ is (hands-join _ (behind_functions c.args.place c.args.self.now) _ _ _ _ _ _ _ c.in_ok-write_list.ensures
    (hands-none (behind_functions c.args.place c.args.self.now) _ _ _ c.in_ok-put_behind_functions.ensures))
