use Rattle.std.proofs.Common.{◌++◌, codes, ap}
use Rattle.std.proofs.lemmas.Result.{err_from_is_err_and}
use Rattle.json_pieces.proofs.Steps.{hands-of, hands-none, hands-short, waits-none, waits-part, waits-fails, waits-last}
use Rattle.coverage_text.specs.Parts.{key_text, path_text}
use Rattle.coverage_text.proofs.Texts.{branches_text, functions_text, statements_text, behind_key, behind_branches, behind_functions, behind_path, file-text}
use Rattle.coverage_text.proofs.writing.FileCoveragePartWhole.write.Goals as goal

pub returns-in_err-put_key : goal.returns-in_err-put_key
returns-in_err-put_key g c =
    let p = err_from_is_err_and c.from_residual.result c.from_residual.ensures.1 in
    rw (p.1, p.2) (hands-short _ _ _ _)

pub returns-in_err-write_both : goal.returns-in_err-write_both
returns-in_err-write_both g c =
    let f = c.args.self.now in
    let p = err_from_is_err_and c.from_residual-in_err-write_both.result c.from_residual-in_err-write_both.ensures.1 in
    let w1 = waits-part (key_text f.path) (behind_key f) (ap key_text c.path.ensures.value) (waits-none (key_text f.path ++ behind_key f) _ _) (hands-none (key_text c.path.result.now) _ _ _ c.in_ok-put_key.ensures) in
    rw (p.1, p.2) (hands-of _ _ _ _ _ _ _ (file-text f) (waits-fails (branches_text f.branches) (behind_branches f) (ap branches_text c.branches.ensures.value) w1 c.in_err-write_both.ensures))

pub returns-in_err-write_both-2 : goal.returns-in_err-write_both-2
returns-in_err-write_both-2 g c =
    let f = c.args.self.now in
    let p = err_from_is_err_and c.from_residual-in_err-write_both-2.result c.from_residual-in_err-write_both-2.ensures.1 in
    let w1 = waits-part (key_text f.path) (behind_key f) (ap key_text c.path.ensures.value) (waits-none (key_text f.path ++ behind_key f) _ _) (hands-none (key_text c.path.result.now) _ _ _ c.in_ok-put_key.ensures) in
    let w2 = waits-part (branches_text f.branches) (behind_branches f) (ap branches_text c.branches.ensures.value) w1 c.in_ok-write_both.ensures in
    rw (p.1, p.2) (hands-of _ _ _ _ _ _ _ (file-text f) (waits-fails (functions_text f.functions) (behind_functions f) (ap functions_text c.functions.ensures.value) w2 c.in_err-write_both-2.ensures))

pub returns-in_err-put_path : goal.returns-in_err-put_path
returns-in_err-put_path g c =
    let f = c.args.self.now in
    let p = err_from_is_err_and c.from_residual-in_err-put_path.result c.from_residual-in_err-put_path.ensures.1 in
    let w1 = waits-part (key_text f.path) (behind_key f) (ap key_text c.path.ensures.value) (waits-none (key_text f.path ++ behind_key f) _ _) (hands-none (key_text c.path.result.now) _ _ _ c.in_ok-put_key.ensures) in
    let w2 = waits-part (branches_text f.branches) (behind_branches f) (ap branches_text c.branches.ensures.value) w1 c.in_ok-write_both.ensures in
    let w3 = waits-part (functions_text f.functions) (behind_functions f) (ap functions_text c.functions.ensures.value) w2 c.in_ok-write_both-2.ensures in
    rw (p.1, p.2) (hands-of _ _ _ _ _ _ _ (file-text f) (waits-last _ _ _ _ _ _ _ _ _ w3 (hands-short _ _ _ _)))

pub returns-in_err-write_both-3 : goal.returns-in_err-write_both-3
returns-in_err-write_both-3 g c =
    let f = c.args.self.now in
    let p = err_from_is_err_and c.from_residual-in_err-write_both-3.result c.from_residual-in_err-write_both-3.ensures.1 in
    let w1 = waits-part (key_text f.path) (behind_key f) (ap key_text c.path.ensures.value) (waits-none (key_text f.path ++ behind_key f) _ _) (hands-none (key_text c.path.result.now) _ _ _ c.in_ok-put_key.ensures) in
    let w2 = waits-part (branches_text f.branches) (behind_branches f) (ap branches_text c.branches.ensures.value) w1 c.in_ok-write_both.ensures in
    let w3 = waits-part (functions_text f.functions) (behind_functions f) (ap functions_text c.functions.ensures.value) w2 c.in_ok-write_both-2.ensures in
    let w4 = waits-part (path_text f.path) (behind_path f) (ap path_text c.path-2.ensures.value) w3 (hands-none (path_text c.path-2.result.now) _ _ _ c.in_ok-put_path.ensures) in
    rw (p.1, p.2) (hands-of _ _ _ _ _ _ _ (file-text f) (waits-fails (statements_text f.statements) (codes "}") (ap statements_text c.statements.ensures.value) w4 c.in_err-write_both-3.ensures))

pub returns-in_err-put : goal.returns-in_err-put
returns-in_err-put g c =
    let f = c.args.self.now in
    let p = err_from_is_err_and c.from_residual-in_err-put.result c.from_residual-in_err-put.ensures.1 in
    let w1 = waits-part (key_text f.path) (behind_key f) (ap key_text c.path.ensures.value) (waits-none (key_text f.path ++ behind_key f) _ _) (hands-none (key_text c.path.result.now) _ _ _ c.in_ok-put_key.ensures) in
    let w2 = waits-part (branches_text f.branches) (behind_branches f) (ap branches_text c.branches.ensures.value) w1 c.in_ok-write_both.ensures in
    let w3 = waits-part (functions_text f.functions) (behind_functions f) (ap functions_text c.functions.ensures.value) w2 c.in_ok-write_both-2.ensures in
    let w4 = waits-part (path_text f.path) (behind_path f) (ap path_text c.path-2.ensures.value) w3 (hands-none (path_text c.path-2.result.now) _ _ _ c.in_ok-put_path.ensures) in
    let w5 = waits-part (statements_text f.statements) (codes "}") (ap statements_text c.statements.ensures.value) w4 c.in_ok-write_both-3.ensures in
    rw (p.1, p.2) (hands-of _ _ _ _ _ _ _ (file-text f) (waits-last _ _ _ _ _ _ _ _ _ w5 (hands-short _ _ _ _)))

pub returns : goal.returns
returns g c =
    let f = c.args.self.now in
    let w1 = waits-part (key_text f.path) (behind_key f) (ap key_text c.path.ensures.value) (waits-none (key_text f.path ++ behind_key f) _ _) (hands-none (key_text c.path.result.now) _ _ _ c.in_ok-put_key.ensures) in
    let w2 = waits-part (branches_text f.branches) (behind_branches f) (ap branches_text c.branches.ensures.value) w1 c.in_ok-write_both.ensures in
    let w3 = waits-part (functions_text f.functions) (behind_functions f) (ap functions_text c.functions.ensures.value) w2 c.in_ok-write_both-2.ensures in
    let w4 = waits-part (path_text f.path) (behind_path f) (ap path_text c.path-2.ensures.value) w3 (hands-none (path_text c.path-2.result.now) _ _ _ c.in_ok-put_path.ensures) in
    let w5 = waits-part (statements_text f.statements) (codes "}") (ap statements_text c.statements.ensures.value) w4 c.in_ok-write_both-3.ensures in
    hands-of _ _ _ _ _ _ _ (file-text f) (waits-last _ _ _ _ _ _ _ _ _ w5 (hands-none (codes "}") _ _ _ c.in_ok-put.ensures))
