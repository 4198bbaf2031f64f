-- What a fault of a link, and a refusal of a client, are to a session.

use Rattle.cov_io.specs.declared.link.LinkFault.{LinkFault}
use Rattle.cov_io.specs.declared.link.LinkFault.TheVariants as link
use Rattle.cov_attach.specs.declared.fault.AttachFault.{AttachFault}
use Rattle.cov_attach.specs.declared.fault.AttachFault.TheVariants.{Failed, NoMemory}

abbrev pub link_fault : LinkFault → AttachFault
link_fault link.Failed = Failed
link_fault link.NoMemory = NoMemory
