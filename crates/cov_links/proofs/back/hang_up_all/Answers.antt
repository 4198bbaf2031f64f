use Rattle.cov_links.proofs.Steps.{listed_one}
use Rattle.cov_links.proofs.back.hang_up_all.Goals as goal

pub loop-link-preserved : goal.loop-link-preserved
loop-link-preserved g c =
    listed_one _ _ c.in-Some.link _ _ _ c.loop-link.listed _ _ c.is_ok-listed.ensures.value c.loop-link.invariant c.hang_up.ensures.back
    c.hang_up.ensures.faults
