use Rattle.std.proofs.lemmas.Result.{err_from_is_err_and}
use Rattle.istanbul_json.specs.Value.{loc_data}
use Rattle.json_pieces.proofs.Elements.{array-text}
use Rattle.json_pieces.proofs.Steps.{hands-of, hands-short, front-then, middle-then, three-parts}
use Rattle.coverage_text.specs.Parts.{before_locations, behind_locations}
use Rattle.coverage_text.proofs.Texts.{branch-text}
use Rattle.coverage_text.proofs.listed.BranchListed.write_entry.Goals as goal

pub returns-in_err-put_before_locations : goal.returns-in_err-put_before_locations
returns-in_err-put_before_locations g c =
    let p = err_from_is_err_and c.from_residual.result c.from_residual.ensures.1 in
    rw (p.1, p.2) (hands-short _ _ _ _)

pub returns-in_err-write_list : goal.returns-in_err-write_list
returns-in_err-write_list g c =
    let p = err_from_is_err_and c.from_residual-in_err-write_list.result c.from_residual-in_err-write_list.ensures.1 in
    rw (p.1, p.2) (hands-of _ _ _ _ _ _ _ (branch-text c.args.self.now c.as_slice.result.now c.as_slice.ensures)
    (front-then (before_locations c.args.self.now) _ (behind_locations c.args.self.now) _ _ _ _ _ _ c.in_ok-put_before_locations.ensures
    (hands-of _ _ _ _ _ _ _ (array-text loc_data c.as_slice.result.now) c.in_err-write_list.ensures)))

pub returns-in_err-put_behind_locations : goal.returns-in_err-put_behind_locations
returns-in_err-put_behind_locations g c =
    let p = err_from_is_err_and c.from_residual-in_err-put_behind_locations.result c.from_residual-in_err-put_behind_locations.ensures.1 in
    rw (p.1, p.2) (hands-of _ _ _ _ _ _ _ (branch-text c.args.self.now c.as_slice.result.now c.as_slice.ensures)
    (middle-then (before_locations c.args.self.now) _ (behind_locations c.args.self.now) _ _ _ _ _ _ c.in_ok-put_before_locations.ensures
    (hands-of _ _ _ _ _ _ _ (array-text loc_data c.as_slice.result.now) c.in_ok-write_list.ensures)))

pub returns : goal.returns
returns g c = hands-of _ _ _ _ _ _ _ (branch-text c.args.self.now c.as_slice.result.now c.as_slice.ensures)
    (three-parts (before_locations c.args.self.now) _ (behind_locations c.args.self.now) _ _ _ _ _ _ c.in_ok-put_before_locations.ensures
    (hands-of _ _ _ _ _ _ _ (array-text loc_data c.as_slice.result.now) c.in_ok-write_list.ensures) c.in_ok-put_behind_locations.ensures)
