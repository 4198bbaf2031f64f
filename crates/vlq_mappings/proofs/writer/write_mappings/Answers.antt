use Rattle.std.proofs.Common.{◌++◌, ap, ◌∙◌}
use Rattle.vlq_mappings.specs.Written.{written}
use Rattle.vlq_mappings.specs.Mappings.{mappings}
use Rattle.vlq_mappings.proofs.Back.{written_so}
use Rattle.vlq_mappings.proofs.Shortest.{shortest_of}
use Rattle.vlq_mappings.proofs.Laws.{read_again}
use Rattle.vlq_mappings.proofs.writer.write_mappings.Goals as goal

pub returns-clause-spelled : goal.returns-clause-spelled
returns-clause-spelled c =
    let e = c.in_ok-push_all.ensures ∙ ap (λ b. b ++ written c.lines.result.now) c.new-text.ensures.bytes ∙ ap written c.lines.ensures.value in
    rw e (written_so c.args.mappings.now c.lines.ensures.kept)

pub returns-clause-read_back : goal.returns-clause-read_back
returns-clause-read_back c =
    let e = c.in_ok-push_all.ensures ∙ ap (λ b. b ++ written c.lines.result.now) c.new-text.ensures.bytes ∙ ap written c.lines.ensures.value in
    ap mappings e ∙ read_again (written c.args.mappings.now) c.args.mappings.now (written_so c.args.mappings.now c.lines.ensures.kept)

pub returns-clause-shortest : goal.returns-clause-shortest
returns-clause-shortest c =
    let e = c.in_ok-push_all.ensures ∙ ap (λ b. b ++ written c.lines.result.now) c.new-text.ensures.bytes ∙ ap written c.lines.ensures.value in
    λ other spells. rw e (shortest_of c.args.mappings.now other spells)
