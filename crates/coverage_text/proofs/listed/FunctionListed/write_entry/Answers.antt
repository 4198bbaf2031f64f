use Rattle.std.proofs.lemmas.Result.{err_from_is_err_and}
use Rattle.json_pieces.proofs.Steps.{hands-of, hands-none, hands-short}
use Rattle.coverage_text.specs.Parts.{function_text}
use Rattle.coverage_text.proofs.Texts.{function-text}
use Rattle.coverage_text.proofs.listed.FunctionListed.write_entry.Goals as goal

pub returns-in_err-put_function : goal.returns-in_err-put_function
returns-in_err-put_function g c =
    let p = err_from_is_err_and c.from_residual.result c.from_residual.ensures.1 in
    rw (p.1, p.2) (hands-short _ _ _ _)

pub returns : goal.returns
returns g c = hands-of _ _ _ _ _ _ _ (function-text c.args.self.now) (hands-none (function_text c.args.self.now) _ _ _ c.in_ok-put_function.ensures)
