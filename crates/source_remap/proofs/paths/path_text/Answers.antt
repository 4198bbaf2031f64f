use Rattle.std.proofs.Common.{◌≡◌, false, sym, ap, ◌∙◌, subst}
use Rattle.std.specs.Prelude.{Some, IsUtf8, ◌==◌}
use Rattle.std.specs.List.{list_any}
use Rattle.std.proofs.lemmas.Bool.{false≢true}
use Rattle.std.proofs.lemmas.Str.{IsUtf8-had}
use Rattle.source_remap.proofs.Named.{path_text-Some, path_text-None}
use Rattle.source_remap.proofs.paths.path_text.Goals as goal

pub returns-in-Ok : goal.returns-in-Ok
returns-in-Ok c =
    let same = ap (λ v. v.items) c.in-Ok.ensures.ok in
    let none : list_any (λ b. b == 0) c.args.bytes.items ≡ false = ap (list_any (λ b. b == 0)) (sym c.deref.ensures.value) ∙ sym c.contains.ensures.value ∙ c.if-contains.false in
    ap Some (c.from_string.ensures ∙ same) ∙ sym (path_text-Some c.args.bytes.items (subst IsUtf8 same (IsUtf8-had _ c.in-Ok.text.ok)) none)

pub returns : goal.returns
returns c = sym (path_text-None c.args.bytes.items (λ utf8. false≢true (c.in-Err.ensures.succeeds utf8)))
