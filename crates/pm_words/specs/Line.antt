-- The command line, as the parser's own definition reads it.
use Rattle.std.specs.Prelude.{true, Some, List, codes}
use Rattle.clap.specs.Words.{App, Rule, Shape, Text, new_rule, new_app, with_rule, built, Row, Kinds, matches_of, fault_of}
use Rattle.clap.specs.Simple.{on_top}
use Rattle.clap.specs.declared.builder.action.ArgAction.TheVariants.{Set, SetTrue}

-- an option that takes one value
abbrev pub option : Text → Rule
option id = record (new_rule id) { long = Some id; action = Some Set }

-- the flag `--journal`, which takes no value
abbrev pub flag : Rule
flag = record (new_rule (codes "journal")) { long = Some (codes "journal"); action = Some SetTrue }

-- the one positional word, which is required
abbrev pub mode : Rule
mode = record (new_rule (codes "mode")) { required = true; action = Some Set }

-- the command without its arguments, which has no help of its own
abbrev pub bare : App
bare = on_top (λ s. record s { no_binary_name = true; disable_help_flag = true }) (new_app (codes "pdesmas"))

-- the whole command
abbrev pub line : App
line = with_rule (with_rule (with_rule (with_rule (with_rule (with_rule (with_rule (with_rule bare mode)
    (option (codes "workers"))) (option (codes "budget"))) (option (codes "epoch")))
    (option (codes "window"))) (option (codes "seed"))) (option (codes "from"))) flag

-- what building makes of it
unfoldable pub shape : Shape
shape = (built line).top

-- the rows that the parser makes of the words
unfoldable pub rows : List Text → List Row
rows words = matches_of line words

-- what the parser finds wrong with the words
unfoldable pub faults : List Text → Kinds
faults words = fault_of line words
