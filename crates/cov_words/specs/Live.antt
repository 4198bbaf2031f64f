-- The words of the commands that speak over links.
use Rattle.std.specs.Prelude.{◌≤◌, ℕ, List, [], ◌∷◌, Option, None, if◌then◌else◌, option_map, option_and_then, codes}
use Rattle.cov_text.specs.Listing.{same_text}
use Rattle.clap.specs.Words.{App, Row, Text, all_of, first_of, new_app, with_rule}
use Rattle.cov_words.specs.declared.command.Live.{Live}
use Rattle.cov_words.specs.declared.command.Live.TheVariants.{Serve, Attach}
use Rattle.cov_words.specs.Asked.{asked, number, number_of, wanted}
use Rattle.cov_words.specs.Child.{many}

-- a port from 0 to 65,535, a number of sessions from 1 to 64, and a pace from 0 to 1,000
abbrev pub serve_app : App
serve_app =
    with_rule (with_rule (with_rule (with_rule (new_app (codes "serve")) (wanted (codes "folder"))) (number 0 65535 (codes "port") (codes "0")))
    (number 1 64 (codes "sessions") (codes "1"))) (number 0 1000 (codes "pace") (codes "1"))

abbrev pub serve_with : Text → Option ℕ → Option ℕ → Option ℕ → Option Live
serve_with folder port sessions pace = option_and_then (λ p. option_and_then (λ s. option_map (λ k. Serve folder p s k) pace) sessions) port

abbrev pub serve_from : List Row → Option Live
serve_from rows =
    option_and_then (λ folder. serve_with folder (number_of 0 65535 (codes "port") rows) (number_of 1 64 (codes "sessions") rows) (number_of 0 1000 (codes "pace") rows))
    (first_of (codes "folder") rows)

-- a number of takes from 1 to 1,000
abbrev pub attach_app : App
attach_app = with_rule (with_rule (new_app (codes "attach")) (many (codes "place"))) (number 1 1000 (codes "takes") (codes "1"))

abbrev pub attach_from : List Row → Option Live
attach_from rows = option_and_then (λ places. option_map (λ takes. Attach places takes) (number_of 1 1000 (codes "takes") rows)) (all_of (codes "place") rows)

-- each number is within its bounds
abbrev pub HasBounds : Live → Type 0
HasBounds (Serve folder port sessions pace) = (port ≤ 65535) × (1 ≤ sessions) × (sessions ≤ 64) × (pace ≤ 1000)
HasBounds (Attach places takes) = (1 ≤ takes) × (takes ≤ 1000)

-- what these words ask for
unfoldable pub live_of : List Text → Option Live
live_of [] = None
live_of (name ∷ rest) =
    if same_text name (codes "serve") then asked serve_app serve_from (name ∷ rest)
    else if same_text name (codes "attach") then asked attach_app attach_from (name ∷ rest)
    else None
