use Rattle.std.proofs.Common.{◌∙◌, append_assoc}
use Rattle.std.proofs.lemmas.Result.{IfOk-weaker}
use Rattle.made_summary.proofs.making.summary.Goals as goal

pub returns : goal.returns
returns c = IfOk-weaker c.from_slice.result _ _ (λ text is. is ∙ c.as_bytes.ensures.value ∙ c.in_ok-text.ensures.ok ∙ simp append_assoc) c.from_slice.ensures
