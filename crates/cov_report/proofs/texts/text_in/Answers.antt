use Rattle.std.proofs.Common.{◌≡◌, ◌∙◌, ap, sym, subst, arith, Bool, true, false, inl, inr}
use Rattle.std.specs.Prelude.{vec_len}
use Rattle.std.specs.Str.{IsUtf8, is_utf8}
use Rattle.std.proofs.lemmas.Bool.{le-ltb, cases_Bool}
use Rattle.std.proofs.lemmas.Str.{is_utf8-from_IsUtf8, IsUtf8-from_is_utf8, IsUtf8-string_bytes}
use Rattle.cov_report.proofs.TextIn.{good-text, bad-text}
use Rattle.cov_report.proofs.texts.text_in.Goals as goal

pub returns-in-Ok-clause-text : goal.returns-in-Ok-clause-text
returns-in-Ok-clause-text c =
    good-text c.args.bytes.items _ (le-ltb _ _ (omega arith)) (is_utf8-from_IsUtf8 _ (subst (λ v. IsUtf8 v.items) c.in-Ok.ensures.ok (IsUtf8-string_bytes c.in-Ok.text))) (c.from_string.ensures ∙ ap (λ v. v.items) c.in-Ok.ensures.ok)

pub returns-clause-text : goal.returns-clause-text
returns-clause-text c =
    bad-text c.args.bytes.items (le-ltb _ _ (omega arith))
    (elim (cases_Bool (is_utf8 c.args.bytes.items)) [
      | inl good ↦ absurd (let h : false ≡ true = c.in-Err.ensures.succeeds (IsUtf8-from_is_utf8 _ good) in cc)
      | inr bad ↦ bad
    ])
