-- The JSON of scripts and of replies has no float.
use Rattle.std.proofs.Common.{◌≡◌, false, List, [], ◌∷◌, refl, ap, ◌∙◌}
use Rattle.std.specs.Prelude.{ℕ, suc, ◌||◌, Option, None, Some}
use Rattle.serde_json.specs.Data.{Data}
use Rattle.serde_json.specs.Written.{has_float, items_have_float}
use Rattle.cov_model.specs.declared.report.Range.{Range}
use Rattle.cov_model.specs.declared.report.FunctionReport.{FunctionReport}
use Rattle.cov_model.specs.declared.snapshot.Entry.{Entry}
use Rattle.json_shapes.specs.Shapes.{array_of}
use Rattle.cov_messages.specs.declared.request.ErrorCode.TheVariants.{Parse, Invalid, NoMethod, BadParams, NotEnabled, NotStarted}
use Rattle.cov_messages.specs.declared.request.ErrorCode.{ErrorCode}
use Rattle.cov_messages.specs.declared.reply.Reply.{Reply}
use Rattle.cov_messages.specs.declared.reply.Reply.TheVariants.{Done, Started, Taken, Refused}
use Rattle.cov_messages.specs.Replies.{taken_data, error_data, error_with, result_with, reply_data}
use Rattle.cov_model.specs.declared.snapshot.Snapshot.{Snapshot}
use Rattle.cov_model.specs.File.{range_data, report_data, entry_data, entries_data, scripts_data}

none-array : {A : Type 0} (data_of : A → Data) → ((x : A) → has_float (data_of x) ≡ false) → (xs : List A) → items_have_float (array_of data_of xs) ≡ false
none-array data_of none [] = refl
none-array data_of none (x ∷ xs) = ap (λ b. b || items_have_float (array_of data_of xs)) (none x) ∙ none-array data_of none xs

none-range : (r : Range) → has_float (range_data r) ≡ false
none-range r = refl

none-report : (f : FunctionReport) → has_float (report_data f) ≡ false
none-report f = ap (λ b. b || false) (none-array range_data none-range f.ranges)

none-entry : (k : ℕ) (e : Entry) → has_float (entry_data k e) ≡ false
none-entry k e = ap (λ b. b || false) (none-array report_data none-report e.functions)

none-entries : (k : ℕ) (es : List Entry) → items_have_float (entries_data k es) ≡ false
none-entries k [] = refl
none-entries k (e ∷ es) = ap (λ b. b || items_have_float (entries_data (suc k) es)) (none-entry k e) ∙ none-entries (suc k) es

none-taken : (s : Snapshot) → has_float (taken_data s) ≡ false
unfolding scripts_data
none-taken s = ap (λ b. b || false) (none-entries 0 s)

none-with : (id : Option ℕ) (d : Data) → has_float d ≡ false → has_float (result_with id d) ≡ false
none-with None d none = ap (λ b. b || false) none
none-with (Some id) d none = ap (λ b. b || false) none

none-error : (code : ErrorCode) → has_float (error_data code) ≡ false
none-error Parse = refl
none-error Invalid = refl
none-error NoMethod = refl
none-error BadParams = refl
none-error NotEnabled = refl
none-error NotStarted = refl

none-refused : (id : Option ℕ) (code : ErrorCode) → has_float (error_with id code) ≡ false
none-refused None code = ap (λ b. b || false) (none-error code)
none-refused (Some id) code = ap (λ b. b || false) (none-error code)

pub none-reply : (id : Option ℕ) (reply : Reply) → has_float (reply_data id reply) ≡ false
none-reply None Done = refl
none-reply (Some id) Done = refl
none-reply None Started = refl
none-reply (Some id) Started = refl
none-reply id (Taken snapshot) = none-with id (taken_data snapshot) (none-taken snapshot)
none-reply id (Refused code) = none-refused id code
