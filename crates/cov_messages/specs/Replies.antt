-- Messages of the DevTools protocol's Profiler domain: how a reply is written, and what a received text is.
use Rattle.std.specs.Prelude.{ℕ, ℤ, negsuc, List, Option, None, Some, option_and_then, codes}
use Rattle.serde_json.specs.Data.{Data, number, unsigned, negative, string, object, Members, no_members, member}
use Rattle.serde_json.specs.Find.{get, as_str, as_number, as_object, as_i64}
use Rattle.serde_json.specs.View.{view}
use Rattle.serde_json.specs.Written.{compact_text}
use Rattle.serde_json.specs.Read.{read}
use Rattle.cov_model.specs.declared.snapshot.Snapshot.{Snapshot}
use Rattle.cov_model.specs.File.{scripts_data}
use Rattle.cov_messages.specs.declared.request.ErrorCode.{ErrorCode}
use Rattle.cov_messages.specs.declared.request.ErrorCode.TheVariants.{Parse, Invalid, NoMethod, BadParams, NotEnabled, NotStarted}
use Rattle.cov_messages.specs.declared.reply.Reply.{Reply}
use Rattle.cov_messages.specs.declared.reply.Reply.TheVariants.{Done, Started, Taken, Refused}
use Rattle.cov_messages.specs.declared.message.Message.{Message}
use Rattle.cov_messages.specs.declared.message.Message.TheVariants as told
use Rattle.cov_messages.specs.Requests.{id_of}

-- ---- refusals, by JSON-RPC 2.0 and by the protocol's own texts

abbrev pub code_of : ErrorCode → ℤ
code_of Parse = negsuc 32699
code_of Invalid = negsuc 32599
code_of NoMethod = negsuc 32600
code_of BadParams = negsuc 32601
code_of NotEnabled = negsuc 31999
code_of NotStarted = negsuc 31999

abbrev pub text_of : ErrorCode → List ℕ
text_of Parse = codes "Parse error"
text_of Invalid = codes "Invalid request"
text_of NoMethod = codes "Method not found"
text_of BadParams = codes "Invalid params"
text_of NotEnabled = codes "Profiler is not enabled."
text_of NotStarted = codes "Precise coverage has not been started."

abbrev pub error_data : ErrorCode → Data
error_data code = object (member (codes "code") (number (negative (code_of code))) (member (codes "message") (string (text_of code)) no_members))

-- ---- writing a reply

-- the number of the request, where it has one, in front of other members
abbrev pub id_member : Option ℕ → Members → Members
id_member None rest = rest
id_member (Some id) rest = member (codes "id") (number (unsigned id)) rest

abbrev pub result_with : Option ℕ → Data → Data
result_with id result = object (id_member id (member (codes "result") result no_members))

-- what a take is answered
abbrev pub taken_data : Snapshot → Data
taken_data snapshot = object (member (codes "result") (scripts_data snapshot) (member (codes "timestamp") (number (unsigned 0)) no_members))

abbrev pub error_with : Option ℕ → ErrorCode → Data
error_with id code = object (member (codes "error") (error_data code) (id_member id no_members))

abbrev pub reply_data : Option ℕ → Reply → Data
reply_data id Done = result_with id (object no_members)
reply_data id Started = result_with id (object (member (codes "timestamp") (number (unsigned 0)) no_members))
reply_data id (Taken snapshot) = result_with id (taken_data snapshot)
reply_data id (Refused code) = error_with id code

abbrev pub reply_text : Option ℕ → Reply → List ℕ
reply_text id reply = compact_text (reply_data id reply)

-- ---- reading what was received

-- What a text is: an event, the answer or the refusal of a request, or something else.
pub data Meant : Type 0 where
  event : Meant
  answer : ℕ → Data → Meant
  refusal : ℕ → ℤ → Meant
  other : Meant

abbrev pub meant : Message → Meant
meant told.Event = event
meant (told.Answer id body) = answer id (view body)
meant (told.ErrorAnswer id code) = refusal id code
meant told.Bad = other

-- an answer is an object
abbrev pub answer_with : ℕ → Data → Option Members → Meant
answer_with id body None = other
answer_with id body (Some _) = answer id body

abbrev pub refusal_with : ℕ → Option ℤ → Meant
refusal_with id None = other
refusal_with id (Some code) = refusal id code

-- the code of a refusal
abbrev pub code_in : Data → Option ℤ
code_in error = option_and_then as_i64 (option_and_then as_number (get (codes "code") error))

-- a message with a number, by its members `result` and `error`
abbrev pub numbered : ℕ → Option Data → Option Data → Meant
numbered id (Some body) None = answer_with id body (as_object body)
numbered id None (Some error) = refusal_with id (code_in error)
numbered id (Some body) (Some error) = other
numbered id None None = other

abbrev pub named : Option (List ℕ) → Meant
named None = other
named (Some _) = event

-- a message by its members `id` and, where there is none, `method`
abbrev pub message_with : Option Data → Option ℕ → Data → Meant
message_with None id d = named (option_and_then as_str (get (codes "method") d))
message_with (Some given) None d = other
message_with (Some given) (Some id) d = numbered id (get (codes "result") d) (get (codes "error") d)

abbrev pub message_in : Data → Meant
message_in d = message_with (get (codes "id") d) (id_of d) d

abbrev pub message_or_none : Option Data → Meant
message_or_none None = other
message_or_none (Some d) = message_in d

-- what a received text is
abbrev pub message_of : List ℕ → Meant
message_of text = message_or_none (read text)
