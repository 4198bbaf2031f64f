use Rattle.std.proofs.Common.{◌≡◌, refl, ◌∙◌, ap}
use Rattle.std.specs.Prelude.{◌==◌, length, filter, flat_map}
use Rattle.std.specs.List.{list_all}
use Rattle.istanbul_json.specs.declared.file.Branch.{Branch}
use Rattle.utf16_lines.specs.Lines.{table_of}
use Rattle.istanbul_rules.specs.Ignored.{ignored}
use Rattle.istanbul_rules.specs.File as file
use Rattle.istanbul_rules.specs.File.{file_coverage}
use Rattle.istanbul_rules.proofs.Keys.{keyed_in_order}
use Rattle.istanbul_rules.proofs.Keyed.{few_lines, counts_fit}
use Rattle.istanbul_rules.proofs.file.file_coverage_by.Goals as goal

pub statements_of-requires : goal.statements_of-requires
statements_of-requires c = few_lines c.args.text.now c.as_slice-off.result.now c.requires.short (c.as_slice-off.ensures ∙ c.in_ok-ignored.ensures)

pub new-requires : goal.new-requires
new-requires c =
    let off = c.as_slice-off.result.now in
    record {
      statements = keyed_in_order (file.statement c.args.table.now) (λ s. s.key) (λ k x. refl) (file.counted_from off c.args.parts.now 0) c.in_ok-statements.statements
          c.in_ok-statements.ensures.value c.in_ok-statements.ensures.bound;
      functions = keyed_in_order file.function (λ f. f.key) (λ k x. refl) (filter (file.is_function_on off) (flat_map (λ part. part.functions) c.args.parts.now)) c.in_ok-functions.functions
          c.in_ok-functions.ensures.value c.in_ok-functions.ensures.bound;
      branches = keyed_in_order file.branch (λ b. b.key) (λ k x. refl) (filter (file.is_branch_on off) (flat_map (λ part. part.branches) c.args.parts.now)) c.in_ok-branches.branches
          c.in_ok-branches.ensures.value c.in_ok-branches.ensures.bound;
      counts = ap (list_all (λ (b : Branch). length b.counts == length b.locations)) c.in_ok-branches.ensures.value
          ∙ counts_fit 0 (filter (file.is_branch_on off) (flat_map (λ part. part.branches) c.args.parts.now));
    }

pub returns : goal.returns
unfolding file_coverage
returns c =
    let off = c.as_slice-off.ensures ∙ c.in_ok-ignored.ensures in
    let statements : c.in_ok-statements.statements ≡ file.statements_of (table_of c.args.text.now) (ignored c.args.text.now) c.args.parts.now =
    c.in_ok-statements.ensures.value ∙ (λ i. file.statements_of (c.requires.table i) (off i) c.args.parts.now) in
    let functions : c.in_ok-functions.functions ≡ file.functions_in (ignored c.args.text.now) c.args.parts.now =
    c.in_ok-functions.ensures.value ∙ (λ i. file.functions_in (off i) c.args.parts.now) in
    let branches : c.in_ok-branches.branches ≡ file.branches_in (ignored c.args.text.now) c.args.parts.now =
    c.in_ok-branches.ensures.value ∙ (λ i. file.branches_in (off i) c.args.parts.now) in
    c.new.ensures ∙ (λ i. record { path = c.in_ok-path.ensures i; statements = statements i; functions = functions i; branches = branches i })
