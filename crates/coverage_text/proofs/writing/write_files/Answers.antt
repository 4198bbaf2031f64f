use Rattle.std.proofs.Common.{[]}
use Rattle.std.proofs.lemmas.Result.{err_from_is_err_and}
use Rattle.json_pieces.proofs.Steps.{hands-of, hands-behind, writes-part, writes-last}
use Rattle.coverage_text.proofs.Texts.{files-text}
use Rattle.coverage_text.proofs.writing.write_files.Goals as goal

pub returns-in_err-write_list : goal.returns-in_err-write_list
returns-in_err-write_list g c =
    let p = err_from_is_err_and c.from_residual-in_err-write_list.result c.from_residual-in_err-write_list.ensures.1 in
    rw (p.1, p.2) (writes-part _ _ _ c.write_list.new.text.items _ (hands-of _ _ _ _ [] _ _ (files-text c.files.result.now c.args.files.now c.files.ensures.value c.files.ensures.kept) (hands-behind _ _ _ _ [] _ _ c.in_ok-text.ensures.items c.in_err-write_list.ensures)))

pub returns : goal.returns
returns g c =
    writes-last _ _ _ _ _ c.write_list.new.text.items _ (hands-of _ _ _ _ [] _ _ (files-text c.files.result.now c.args.files.now c.files.ensures.value c.files.ensures.kept) (hands-behind _ _ _ _ [] _ _ c.in_ok-text.ensures.items c.in_ok-write_list.ensures))
    c.deref.ensures.value c.finish.ensures
