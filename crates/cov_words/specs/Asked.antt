-- What the words of a command line ask for. Which words a command takes, and what values they give, is said by clap.
use Rattle.std.specs.Prelude.{◌≡◌, ℕ, List, [], ◌∷◌, Option, None, Some, if◌then◌else◌, option_map, option_and_then, true, codes}
use Rattle.std.specs.Str.Parse.{digits_value, without_leading_plus}
use Rattle.cov_text.specs.Listing.{same_text}
use Rattle.clap.specs.Words.{App, Kinds, Row, Rule, Text, first_of, one_of, matches_of, new_app, new_rule, with_rule}
use Rattle.clap.specs.ValueTests.{is_unsigned_in}
use Rattle.clap.specs.declared.builder.value_parser.ValueParser.TheVariants.{Unsigned}
use Rattle.clap.specs.Faults.{fault_of}
use Rattle.cov_words.specs.declared.command.Command.{Command}
use Rattle.cov_words.specs.declared.command.Command.TheVariants.{Merge, Same, Normal, Upgrade, Report, Check, Make}
use Rattle.cov_words.specs.declared.command.Form.{Form}
use Rattle.cov_words.specs.declared.command.Form.TheVariants as form

-- this, where there is no kind of fault
abbrev pub unless_fault : {C : Type 0} → Kinds → Option C → Option C
unless_fault [] given = given
unless_fault (kind ∷ kinds) given = None

-- What the words ask of a simple command of clap: where no step of its parse of them fails, what is read of the matches
-- that they have. The first word is the command's name.
unfoldable pub asked : {C : Type 0} → App → (List Row → Option C) → List Text → Option C
asked app read words = unless_fault (fault_of app words) (read (matches_of app words))

-- no step of the parse fails, and the words have these matches
abbrev pub Finds : App → List Text → List Row → Type 0
Finds app words rows = (fault_of app words ≡ []) × (rows ≡ matches_of app words)

-- a step of the parse fails
abbrev pub FindsNone : App → List Text → Type 0
FindsNone app words = fault_of app words ≡ [] → ⊥

-- a positional that has to be given
abbrev pub wanted : Text → Rule
wanted id = record (new_rule id) { required = true }

-- ---- each command: how clap knows it, and what is read of its matches

abbrev pub merge_app : App
merge_app = with_rule (new_app (codes "merge")) (wanted (codes "folder"))

abbrev pub merge_from : List Row → Option Command
merge_from rows = option_map (λ folder. Merge folder) (first_of (codes "folder") rows)

abbrev pub same_app : App
same_app = with_rule (with_rule (new_app (codes "same")) (wanted (codes "one"))) (wanted (codes "other"))

abbrev pub same_from : List Row → Option Command
same_from rows = option_and_then (λ one. option_map (λ other. Same one other) (first_of (codes "other") rows)) (first_of (codes "one") rows)

-- a command of one file
abbrev pub file_app : Text → App
file_app name = with_rule (new_app name) (wanted (codes "file"))

abbrev pub normal_app : App
normal_app = file_app (codes "normal")

abbrev pub normal_from : List Row → Option Command
normal_from rows = option_map (λ file. Normal file) (first_of (codes "file") rows)

abbrev pub upgrade_app : App
upgrade_app = file_app (codes "upgrade")

abbrev pub upgrade_from : List Row → Option Command
upgrade_from rows = option_map (λ file. Upgrade file) (first_of (codes "file") rows)

-- an option that has this value where it isn't given
abbrev pub option : Text → Text → Rule
option name value = record (new_rule name) { long = Some name; defaults = value ∷ [] }

-- an option whose value is a whole number in bounds, and this one where it isn't given
abbrev pub number : ℕ → ℕ → Text → Text → Rule
number least most name value = record (option name value) { parser = Some (Unsigned least most) }

-- an option whose value is a percentage, and 0 where it isn't given
abbrev pub percent : Text → Rule
percent name = number 0 100 name (codes "0")

-- the form of this name
abbrev pub form_named : Text → Option Form
form_named name =
    if same_text name (codes "json") then Some form.Json
    else if same_text name (codes "lcov") then Some form.Lcov
    else if same_text name (codes "text") then Some form.Text
    else None

-- the whole number in these bounds that a text is
abbrev pub number_in : ℕ → ℕ → Text → Option ℕ
number_in least most text = if is_unsigned_in least most text then Some (digits_value 10 (without_leading_plus text)) else None

abbrev pub number_of : ℕ → ℕ → Text → List Row → Option ℕ
number_of least most name rows = option_and_then (number_in least most) (one_of name rows)

abbrev pub percent_of : Text → List Row → Option ℕ
percent_of name rows = number_of 0 100 name rows

abbrev pub report_app : App
report_app = with_rule (with_rule (new_app (codes "report")) (wanted (codes "folder"))) (option (codes "as") (codes "text"))

abbrev pub report_from : List Row → Option Command
report_from rows =
    option_and_then (λ folder. option_map (λ form. Report folder form) (option_and_then form_named (first_of (codes "as") rows))) (first_of (codes "folder") rows)

abbrev pub check_app : App
check_app =
    with_rule (with_rule (with_rule (with_rule (new_app (codes "check")) (wanted (codes "folder"))) (percent (codes "lines"))) (percent (codes "branches")))
    (percent (codes "functions"))

abbrev pub check_with : Text → Option ℕ → Option ℕ → Option ℕ → Option Command
check_with folder lines branches functions =
    option_and_then (λ l. option_and_then (λ b. option_map (λ f. Check folder l b f) functions) branches) lines

abbrev pub check_from : List Row → Option Command
check_from rows =
    option_and_then (λ folder. check_with folder (percent_of (codes "lines") rows) (percent_of (codes "branches") rows) (percent_of (codes "functions") rows))
    (first_of (codes "folder") rows)

-- a positional that has to be given, a whole number in bounds
abbrev pub wanted_number : ℕ → ℕ → Text → Rule
wanted_number least most name = record (wanted name) { parser = Some (Unsigned least most) }

abbrev pub make_app : App
make_app = with_rule (with_rule (new_app (codes "make")) (wanted_number 0 2147483647 (codes "seed"))) (wanted_number 1 100000 (codes "count"))

abbrev pub make_from : List Row → Option Command
make_from rows =
    option_and_then (λ seed. option_map (λ count. Make seed count) (number_of 1 100000 (codes "count") rows)) (number_of 0 2147483647 (codes "seed") rows)

-- ---- all commands

-- the command of this name, with these words
abbrev pub named : Text → List Text → Option Command
named name words =
    if same_text name (codes "merge") then asked merge_app merge_from words
    else if same_text name (codes "same") then asked same_app same_from words
    else if same_text name (codes "normal") then asked normal_app normal_from words
    else if same_text name (codes "upgrade") then asked upgrade_app upgrade_from words
    else if same_text name (codes "report") then asked report_app report_from words
    else if same_text name (codes "check") then asked check_app check_from words
    else if same_text name (codes "make") then asked make_app make_from words
    else None

-- the command of these words, which the first of them names
unfoldable pub command_of : List Text → Option Command
command_of [] = None
command_of (name ∷ rest) = named name (name ∷ rest)
