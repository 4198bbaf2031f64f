use Rattle.std.proofs.Common.{◌≤◌, sym, ap, ◌∙◌, subst}
use Rattle.std.specs.Prelude.{None, cond}
use Rattle.std.proofs.lemmas.Str.{is_utf8-from_IsUtf8}
use Rattle.serde_json.specs.Data.{depth}
use Rattle.serde_json.specs.Read.{max_depth, read}
use Rattle.serde_json.specs.View.{view}
use Rattle.serde_json.specs.Written.{compact_text, has_float}
use Rattle.istanbul_json.specs.Value.{files_text}
use Rattle.istanbul_json.proofs.Shapes.{none-files, few-deep}
use Rattle.istanbul_json.proofs.ReadBack.{text-back}
use Rattle.istanbul_json.proofs.writing.text_of.Goals as goal

pub returns-clause-text : goal.returns-clause-text
unfolding files_text
returns-clause-text c =
    let is = c.in_ok-value.ensures.value in
    c.in_ok-text.ensures.text (ap has_float is ∙ none-files c.args.files.now) ∙ ap compact_text is

pub returns-clause-read_back : goal.returns-clause-read_back
returns-clause-read_back c = λ short.
    let is = c.in_ok-value.ensures.value in
    let deep : depth (view c.in_ok-value.value) ≤ max_depth = subst (λ d. depth d ≤ max_depth) (sym is) (few-deep c.args.files.now) in
    let bytes = c.in_ok-text.text.items in
    text-back bytes (view c.in_ok-value.value) c.args.files.now short
    (ap (λ b. cond b (read bytes) None) (is_utf8-from_IsUtf8 bytes c.in_ok-text.ensures.utf8) ∙ c.in_ok-text.ensures.reads_back deep) is c.in_ok-value.ensures.is_small c.requires
