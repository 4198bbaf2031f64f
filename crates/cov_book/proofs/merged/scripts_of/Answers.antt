use Rattle.std.proofs.Common.{◌++◌, map, sym, ap, ◌∙◌, subst, arith}
use Rattle.cov_model.specs.Nesting.{AreNested}
use Rattle.cov_book.specs.declared.scripts.Script.{Script}
use Rattle.cov_book.specs.Listed.{listed, told_script}
use Rattle.cov_book.specs.Prepared.{AreAligned}
use Rattle.cov_book.proofs.Flat.{aligned-each, all-here, drop-nil, told-next}
use Rattle.cov_book.proofs.merged.scripts_of.Goals as goal

pub entry_of-requires : goal.entry_of-requires
entry_of-requires c =
    all-here (λ (s : Script). AreAligned (listed s)) c.args.scripts.now c.loop-script.script-index c.script-item.result (aligned-each c.args.scripts.now c.requires.aligned) c.loop-script-test.true c.script-item.is

pub loop-script-init : goal.loop-script-init
loop-script-init c = ap (λ rs. rs ++ map (told_script c.args.form) c.args.scripts.now) c.new-entries.ensures

pub loop-script-preserved : goal.loop-script-preserved
loop-script-preserved c =
    told-next (told_script c.args.form) c.loop-script.entries c.push.new.self _ c.in_ok-entry_of.field-0 c.args.scripts.now c.loop-script.script-index c.script-item.result
    c.loop-script-test.true c.script-item.is c.in_ok-push.ensures.ok c.in_ok-entry_of.ensures c.loop-script.invariant

pub new-requires : goal.new-requires
new-requires c =
    subst AreNested (sym (drop-nil (told_script c.args.form) c.loop-script.entries _ c.args.scripts.now c.loop-script.script-index (omega (arith, c.loop-script-test.false)) c.loop-script.invariant)) c.requires.nested

pub returns : goal.returns
returns c = c.new.ensures ∙ drop-nil (told_script c.args.form) c.loop-script.entries _ c.args.scripts.now c.loop-script.script-index (omega (arith, c.loop-script-test.false)) c.loop-script.invariant
