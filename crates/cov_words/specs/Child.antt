-- The words of `run`, which starts a program and reports what it left.
use Rattle.std.specs.Prelude.{true, List, [], ◌∷◌, Option, None, Some, if◌then◌else◌, option_map, option_and_then, codes}
use Rattle.cov_text.specs.Listing.{same_text}
use Rattle.clap.specs.Lexer.{usize_max}
use Rattle.clap.specs.Words.{App, Row, Rule, Text, all_of, first_of, new_app, new_rule, with_rule}
use Rattle.cov_words.specs.declared.command.Run.{Run}
use Rattle.cov_words.specs.Asked.{asked, form_named, option, wanted}

-- an option that has to be given
abbrev pub wanted_option : Text → Rule
wanted_option name = record (new_rule name) { long = Some name; required = true }

-- positionals, of which there is one or more
abbrev pub many : Text → Rule
many id = record (wanted id) { range = Some (record { start_inclusive = 1; end_inclusive = usize_max }) }

abbrev pub run_app : App
run_app = with_rule (with_rule (with_rule (new_app (codes "run")) (wanted_option (codes "dir"))) (option (codes "as") (codes "text"))) (many (codes "word"))

abbrev pub run_from : List Row → Option Run
run_from rows =
    option_and_then (λ folder. option_and_then (λ form. option_map (λ words. record { folder = folder; form = form; words = words }) (all_of (codes "word") rows))
    (option_and_then form_named (first_of (codes "as") rows))) (first_of (codes "dir") rows)

-- what these words ask for
unfoldable pub run_of : List Text → Option Run
run_of [] = None
run_of (name ∷ rest) = if same_text name (codes "run") then asked run_app run_from (name ∷ rest) else None
