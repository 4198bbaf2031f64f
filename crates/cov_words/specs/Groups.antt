-- The groups of commands, each with a call of its own, and the words of those that work in threads.
use Rattle.std.specs.Prelude.{◌≤◌, List, [], ◌∷◌, Option, None, if◌then◌else◌, option_map, option_and_then, codes}
use Rattle.cov_text.specs.Listing.{same_text}
use Rattle.clap.specs.Words.{App, Row, Text, first_of, new_app, with_rule}
use Rattle.cov_words.specs.declared.command.Collect.{Collect}
use Rattle.cov_words.specs.declared.command.Group.{Group}
use Rattle.cov_words.specs.declared.command.Group.TheVariants as group
use Rattle.cov_words.specs.Asked.{asked, number, number_of, wanted}

abbrev pub group_named : Text → Group
group_named name =
    if same_text name (codes "collect") then group.Workers
    else if same_text name (codes "serve") then group.Live
    else if same_text name (codes "attach") then group.Live
    else if same_text name (codes "run") then group.Child
    else group.Readers

-- the group of the command that these words name; words that name no command go to the readers of files
abbrev pub group_of : List Text → Group
group_of [] = group.Readers
group_of (name ∷ rest) = group_named name

-- from 1 to 16 workers, and 4 where no number is given
abbrev pub collect_app : App
collect_app = with_rule (with_rule (new_app (codes "collect")) (wanted (codes "folder"))) (number 1 16 (codes "workers") (codes "4"))

abbrev pub collect_from : List Row → Option Collect
collect_from rows =
    option_and_then (λ folder. option_map (λ n. record { folder = folder; workers = n }) (number_of 1 16 (codes "workers") rows)) (first_of (codes "folder") rows)

-- from 1 to 16 workers
abbrev pub HasWorkers : Collect → Type 0
HasWorkers collect = (1 ≤ collect.workers) × (collect.workers ≤ 16)

-- what these words ask of the workers
unfoldable pub collect_of : List Text → Option Collect
collect_of [] = None
collect_of (name ∷ rest) = if same_text name (codes "collect") then asked collect_app collect_from (name ∷ rest) else None
