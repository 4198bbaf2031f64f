-- What a read of a socket means for its link.
use Rattle.std.specs.Prelude.{Result, Ok, Err}
use Rattle.std.specs.declared.io.ErrorKind.{ErrorKind}
use Rattle.std.specs.declared.io.ErrorKind.TheVariants as kind
use Rattle.cov_io.specs.declared.link.LinkFault.{LinkFault}
use Rattle.cov_io.specs.declared.link.LinkFault.TheVariants.{Failed, NoMemory}
use Rattle.cov_net.specs.declared.socket.Heard.{Heard}
use Rattle.cov_net.specs.declared.socket.Heard.TheVariants as told
use Rattle.tungstenite.specs.declared.error.Error.{Error}
use Rattle.tungstenite.specs.declared.error.Error.TheVariants.{ConnectionClosed, Protocol, OutOfMemory}
use Rattle.tungstenite.specs.declared.message.Message.{Message}
use Rattle.tungstenite.specs.declared.message.Message.TheVariants as given
use Rattle.websocket.specs.declared.error.ProtocolError.TheVariants.{ResetWithoutClosingHandshake}

abbrev pub link_fault : Error → LinkFault
link_fault OutOfMemory = NoMemory
link_fault _ = Failed

abbrev pub link_fault_of_io : ErrorKind → LinkFault
link_fault_of_io kind.OutOfMemory = NoMemory
link_fault_of_io _ = Failed

-- a text; a ping or a pong; the peer's close message or the end of the stream; and all else is a fault
abbrev pub heard_of : Result Message Error → Heard
heard_of (Ok (given.Text text)) = told.Text text
heard_of (Ok (given.Ping bytes)) = told.Control
heard_of (Ok (given.Pong bytes)) = told.Control
heard_of (Ok (given.Close frame)) = told.Closed
heard_of (Ok (given.Binary bytes)) = told.Fault Failed
heard_of (Err ConnectionClosed) = told.Closed
heard_of (Err (Protocol ResetWithoutClosingHandshake)) = told.Closed
heard_of (Err error) = told.Fault (link_fault error)
