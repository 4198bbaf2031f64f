-- Messages of the DevTools protocol's Profiler domain: what a text asks for, and how a request is written.
use Rattle.std.specs.Prelude.{ℕ, Bool, true, false, List, if◌then◌else◌, Option, None, Some, option_map, option_and_then, is_some, codes}
use Rattle.serde_json.specs.Data.{Data, number, unsigned, boolean, string, object, Members, no_members, member}
use Rattle.serde_json.specs.Find.{get, as_str, as_bool, as_object}
use Rattle.serde_json.specs.Written.{compact_text}
use Rattle.serde_json.specs.Read.{read}
use Rattle.cov_text.specs.Listing.{same_text}
use Rattle.json_shapes.specs.Shapes.{whole}
use Rattle.json_shapes.specs.Members.{if_there}
use Rattle.cov_messages.specs.declared.request.Flags.{Flags}
use Rattle.cov_messages.specs.declared.request.Command.{Command}
use Rattle.cov_messages.specs.declared.request.Command.TheVariants.{Enable, Disable, Start, Take, Stop}
use Rattle.cov_messages.specs.declared.request.ErrorCode.TheVariants.{Parse, Invalid, NoMethod, BadParams}
use Rattle.cov_messages.specs.declared.request.Body.{Body}
use Rattle.cov_messages.specs.declared.request.Body.TheVariants as body
use Rattle.cov_messages.specs.declared.request.Request.{Request}

-- ---- methods

abbrev pub enable_method : List ℕ
enable_method = codes "Profiler.enable"

abbrev pub disable_method : List ℕ
disable_method = codes "Profiler.disable"

abbrev pub start_method : List ℕ
start_method = codes "Profiler.startPreciseCoverage"

abbrev pub take_method : List ℕ
take_method = codes "Profiler.takePreciseCoverage"

abbrev pub stop_method : List ℕ
stop_method = codes "Profiler.stopPreciseCoverage"

-- ---- reading a request

-- the number of a message
abbrev pub id_of : Data → Option ℕ
id_of d = option_and_then whole (get (codes "id") d)

-- the parameters are left out, or an object
abbrev pub are_params : Option Data → Bool
are_params None = true
are_params (Some d) = is_some (as_object d)

-- a flag of the parameters, false where it is left out
abbrev pub flag_of : List ℕ → Option Data → Option Bool
flag_of key params = if_there as_bool false (option_and_then (get key) params)

abbrev pub flags_of : Option Data → Option Flags
flags_of params =
    option_and_then
    (λ call_count.
    option_and_then
    (λ detailed. option_map (λ triggered. record { call_count = call_count; detailed = detailed; triggered = triggered }) (flag_of (codes "allowTriggeredUpdates") params))
    (flag_of (codes "detailed") params))
    (flag_of (codes "callCount") params)

-- a command without parameters of its own
abbrev pub plain : Command → Option Data → Body
plain command params = if are_params params then body.Command command else body.Refused BadParams

abbrev pub start_or_refused : Option Flags → Body
start_or_refused None = body.Refused BadParams
start_or_refused (Some flags) = body.Command (Start flags)

abbrev pub started : Option Data → Body
started params = if are_params params then start_or_refused (flags_of params) else body.Refused BadParams

-- what a method asks for
abbrev pub body_of : List ℕ → Option Data → Body
body_of method params =
    if same_text method enable_method then plain Enable params else (if same_text method disable_method then plain Disable params else (if same_text method start_method then started params
    else (if same_text method take_method then plain Take params else (if same_text method stop_method then plain Stop params else body.Refused NoMethod))))

-- a request has a number and a method
abbrev pub body_with : Option ℕ → Option (List ℕ) → Option Data → Body
body_with None method params = body.Refused Invalid
body_with (Some id) None params = body.Refused Invalid
body_with (Some id) (Some method) params = body_of method params

abbrev pub request_in : Data → Request
request_in d = record { id = id_of d; body = body_with (id_of d) (option_and_then as_str (get (codes "method") d)) (get (codes "params") d) }

abbrev pub request_or_none : Option Data → Request
request_or_none None = record { id = None; body = body.Refused Parse }
request_or_none (Some d) = request_in d

-- the request that a text is
abbrev pub request_of : List ℕ → Request
request_of text = request_or_none (read text)

-- ---- writing a request

abbrev pub flags_data : Flags → Data
flags_data flags =
    object (member (codes "allowTriggeredUpdates") (boolean flags.triggered) (member (codes "callCount") (boolean flags.call_count) (member (codes "detailed") (boolean flags.detailed) no_members)))

abbrev pub asked : ℕ → List ℕ → Members → Data
asked id method params = object (member (codes "id") (number (unsigned id)) (member (codes "method") (string method) params))

abbrev pub request_data : ℕ → Command → Data
request_data id Enable = asked id enable_method no_members
request_data id Disable = asked id disable_method no_members
request_data id (Start flags) = asked id start_method (member (codes "params") (flags_data flags) no_members)
request_data id Take = asked id take_method no_members
request_data id Stop = asked id stop_method no_members

abbrev pub request_text : ℕ → Command → List ℕ
request_text id command = compact_text (request_data id command)
