use Rattle.std.proofs.Common.{◌≡◌, take, drop}
use Rattle.cov_book.specs.Stands.{StandsFor}
use Rattle.cov_session.specs.Merging.{fault_over, tape_fault}
use Rattle.cov_session.proofs.merging.merged_by.Given as goal

abbrev pub invariant-loop-frame : goal.invariant-loop-frame
invariant-loop-frame g l = record {
  stands : StandsFor l.book (take l.frame-index l.frames);
  faults : fault_over (take l.frame-index l.frames) (drop l.frame-index l.frames) ≡ tape_fault l.frames;
}
