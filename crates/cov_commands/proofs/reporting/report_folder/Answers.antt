use Rattle.std.proofs.Common.{List, ◌++◌, map, ap, ◌∙◌, subst}
use Rattle.source_maps.specs.Entries.{said}
use Rattle.source_maps.specs.declared.entries.MapEntry.{MapEntry}
use Rattle.cov_io.specs.Causes.{Rose}
use Rattle.cov_report.specs.declared.answer.Report.{Report}
use Rattle.cov_report.specs.declared.answer.Skip.{Skip}
use Rattle.cov_report.specs.Report as reports
use Rattle.cov_report.specs.Texts.{skip_lines}
use Rattle.cov_commands.proofs.Reports.{is-report-in, tells-report}
use Rattle.cov_commands.proofs.reporting.report_folder.Goals as goal

pub returns-in-Ok-with_skips-clause-tells : goal.returns-in-Ok-with_skips-clause-tells
returns-in-Ok-with_skips-clause-tells g c =
    let folder = c.args.folder.now in
    λ files told.
    tells-report folder files c.gather.new.book c.in-Ok.merged c.in-Ok-report_of.report c.in-Ok-with_skips.lines (c.in-Ok.ensures.taken files told)
    (
    is-report-in folder files c.gather.new.book c.in-Ok.merged (map said c.in-Ok-into_entries.entries.items) c.in-Ok-report_of.report (c.in-Ok.ensures.taken files told)
    (c.in-Ok.ensures.entries files told) c.in-Ok-into_entries.ensures
    (λ held stands.
    c.in-Ok-report_of.ensures.report held stands files (c.in-Ok.ensures.still.files ∙ told)
    ∙ ap (λ (entries : List MapEntry). reports.report held (map said entries) files) c.as_slice.ensures.value)
    )
    (c.in-Ok-with_skips.ensures ∙ ap (λ (skips : List Skip). c.in-Ok.merged.lines ++ skip_lines skips) c.as_slice-2.ensures)

pub returns-in-Ok-with_skips-clause-counts : goal.returns-in-Ok-with_skips-clause-counts
returns-in-Ok-with_skips-clause-counts g c =
    let folder = c.args.folder.now in
    record {
      refused = c.in-Ok.merged.lines;
      skips = c.in-Ok-report_of.report.skips;
      lines = c.in-Ok-with_skips.ensures ∙ ap (λ (skips : List Skip). c.in-Ok.merged.lines ++ skip_lines skips) c.as_slice-2.ensures;
      given = λ files told.
          ap (λ (r : Report). r.skips)
          (
          is-report-in folder files c.gather.new.book c.in-Ok.merged (map said c.in-Ok-into_entries.entries.items) c.in-Ok-report_of.report (c.in-Ok.ensures.taken files told)
          (c.in-Ok.ensures.entries files told) c.in-Ok-into_entries.ensures
          (λ held stands.
          c.in-Ok-report_of.ensures.report held stands files (c.in-Ok.ensures.still.files ∙ told)
          ∙ ap (λ (entries : List MapEntry). reports.report held (map said entries) files) c.as_slice.ensures.value)
          );
      kept = λ none. c.in-Ok-report_of.ensures.kept none ∙ c.in-Ok.ensures.kept;
      untold = λ nothing absent.
          subst (λ n. Rose n (g.S.Store.faults c.report_of.new.store)) c.in-Ok.ensures.kept (c.in-Ok-report_of.ensures.untold (c.in-Ok.ensures.still.files ∙ nothing) absent);
    }
