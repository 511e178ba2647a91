-- What the words of the command line mean.
use Rattle.std.specs.Prelude.{ℕ, Bool, true, false, not, cond, ◌&&◌, ◌∷◌, [], ◌++◌, List, map, length, Option, Some, None}
use Rattle.std.specs.Prelude.{is_some, option_map, option_and_then, find, codes, nat_le, ◌==◌, unwrap_or}
use Rattle.std.specs.List.{list_all, list_any}
use Rattle.std.specs.Option.{option_map_or}
use Rattle.std.specs.Str.{bytes_eq}
use Rattle.std.specs.Str.Parse.{digits_value}
use Rattle.std.specs.Char.{is_ascii_digit}
use Rattle.pm_words.specs.declared.settings.Mode.{Mode}
use Rattle.pm_words.specs.declared.settings.Mode.TheVariants as mode
use Rattle.pm_base.specs.declared.run.RunSettings.{RunSettings}
use Rattle.pm_words.specs.declared.settings.Settings.{Settings}

-- a word, as its bytes
abbrev pub Text : Type 0
Text = List ℕ

-- ---- the names

-- an option's name, and the least and the most that its value may be
pub record NumberOption : Type 0 where
  pub name : Text
  pub least : ℕ
  pub most : ℕ

-- `--workers`: how many workers a run has
abbrev pub workers : NumberOption
workers = record { name = codes "workers"; least = 0; most = 64 }

-- `--budget`: how many deliveries, or in mode `seq` steps, a run may have in all
abbrev pub budget : NumberOption
budget = record { name = codes "budget"; least = 0; most = 20000000 }

-- `--epoch`: how many deliveries an epoch may have
abbrev pub epoch : NumberOption
epoch = record { name = codes "epoch"; least = 1; most = 1000000 }

-- `--window`: how far past the commit line an agent may act
abbrev pub window : NumberOption
window = record { name = codes "window"; least = 1; most = 1000000000000 }

-- `--seed`: the number of the generated scenario
abbrev pub seed : NumberOption
seed = record { name = codes "seed"; least = 0; most = 18446744073709551615 }

-- `--from`: the time at which a scenario is cut
abbrev pub from : NumberOption
from = record { name = codes "from"; least = 0; most = 1000000000000 }

-- all options; each has one value
abbrev pub options : List NumberOption
options = workers ∷ budget ∷ epoch ∷ window ∷ seed ∷ from ∷ []

-- an option has this name
abbrev pub is_option : Text → Bool
is_option name = list_any (λ o. bytes_eq o.name name) options

-- the name that the one positional word goes by
abbrev pub mode_name : Text
mode_name = codes "mode"

-- the name of the flag
abbrev pub flag_name : Text
flag_name = codes "journal"

-- the mode of this name: one line for each mode that the program serves
unfoldable pub mode_named : Text → Option Mode
mode_named word = cond (bytes_eq word (codes "seq")) (Some mode.Seq)
    (cond (bytes_eq word (codes "check")) (Some mode.Check)
    (cond (bytes_eq word (codes "run")) (Some mode.Run)
    (cond (bytes_eq word (codes "demo")) (Some mode.Demo)
    (cond (bytes_eq word (codes "upgrade")) (Some mode.Upgrade)
    (cond (bytes_eq word (codes "place")) (Some mode.Place)
    (cond (bytes_eq word (codes "cut")) (Some mode.Cut)
    (cond (bytes_eq word (codes "replay")) (Some mode.Replay)
    (cond (bytes_eq word (codes "lowest")) (Some mode.Lowest)
    None))))))))

-- the mode reads the input; only the generated scenario comes of a number alone
abbrev pub reads : Mode → Bool
reads mode.Demo = false
reads _ = true

-- ---- the words, from left to right

-- a name and what the words say of it: an option with its value, the flag, or a positional word, which is the value
-- of `mode`
abbrev pub Part : Type 0
Part = Text × Text

-- a positional word
abbrev pub positional : Text → Part
positional word = (mode_name, word)

-- the flag
abbrev pub flag_part : Part
flag_part = (flag_name, codes "true")

-- what stands before the first `=` (61), and what stands after it if there is one
abbrev pub cut_at_equals : Text → Text × Option Text
cut_at_equals [] = ([], None)
cut_at_equals (b ∷ rest) =
    cond (b == 61) ([], Some rest) (b ∷ (cut_at_equals rest).0, (cut_at_equals rest).1)

-- the first byte is `-` (45)
abbrev pub begins_with_hyphen : Text → Bool
begins_with_hyphen [] = false
begins_with_hyphen (b ∷ rest) = b == 45

-- `--name=value` and `--name`: the name, and the value if there is one
abbrev pub long_word : Text → Option (Text × Option Text)
long_word [] = None
long_word (a ∷ []) = None
long_word (a ∷ b ∷ rest) = cond (a == 45 && b == 45) (Some (cut_at_equals rest)) None

-- this part, and then the others, if they aren't refused
abbrev pub with_part : Part → Option (List Part) → Option (List Part)
with_part p = option_map (λ ps. p ∷ ps)

-- the option or the flag of this name, with the value that stands behind `=` in the word; `rest` is what the words
-- after it are, and `more` the same where the first of them is the value of this option
abbrev pub named_parts : Text → Option Text → Option (List Part) → Option (List Part) → Option (List Part)
named_parts name (Some value) rest more = cond (is_option name) (with_part (name, value) rest) None
named_parts name None rest more =
    cond (bytes_eq flag_name name) (with_part flag_part rest) (cond (is_option name) more None)

-- a word that is neither an option nor the flag: one that begins with `-` is refused, any other is positional
abbrev pub other_parts : Text → Option (List Part) → Option (List Part)
other_parts word rest = cond (begins_with_hyphen word) None (with_part (positional word) rest)

-- the parts from a word on, by the name that it has, if it has one; `rest` is what the words after it are, and `more`
-- the same where the first of them is the value of an option
abbrev pub word_parts : Option (Text × Option Text) → Text → Option (List Part) → (Text → Option (List Part))
    → Option (List Part)
word_parts (Some p) word rest more = named_parts p.0 p.1 rest (more p.0)
word_parts None word rest more = other_parts word rest

-- the parts that the words are, where the first word is the value of this option; or a refusal
unfoldable pub parts_from : Option Text → List Text → Option (List Part)
parts_from None [] = Some []
parts_from (Some name) [] = None
parts_from (Some name) (word ∷ rest) = with_part (name, word) (parts_from None rest)
parts_from None (word ∷ rest) = cond (bytes_eq word (codes "--")) (Some (map positional rest))
    (word_parts (long_word word) word (parts_from None rest) (λ name. parts_from (Some name) rest))

-- ---- the settings

-- a part has this name
abbrev pub has : Text → List Part → Bool
has name ps = list_any (λ p. bytes_eq p.0 name) ps

-- what the first part of this name says
abbrev pub first : Text → List Part → Option Text
first name ps = option_map (λ p. p.1) (find (λ p. bytes_eq p.0 name) ps)

-- no name stands twice, nor among those before
abbrev pub each_once : List Part → List Part → Bool
each_once before [] = true
each_once before (p ∷ ps) = not (has p.0 before) && each_once (before ++ p ∷ []) ps

-- 1 to 20 decimal digits
abbrev pub is_digits : Text → Bool
is_digits text = list_all is_ascii_digit text && (nat_le 1 (length text) && nat_le (length text) 20)

-- a number in the option's range
abbrev pub is_value : NumberOption → Text → Bool
is_value o text = is_digits text
    && (nat_le o.least (digits_value 10 text) && nat_le (digits_value 10 text) o.most)

-- the option doesn't stand, or its value is a number in its range
abbrev pub is_in_range : NumberOption → Option Text → Bool
is_in_range o text = option_map_or (is_value o) text true

-- a mode's name
abbrev pub is_mode : Option Text → Bool
is_mode text = is_some (option_and_then mode_named text)

-- the one positional word is a mode's name, and each value is a number in its range
abbrev pub is_right : List Part → Bool
is_right ps = is_mode (first mode_name ps) && list_all (λ o. is_in_range o (first o.name ps)) options

-- the value of an option, or its default where it doesn't stand
abbrev pub number_or : ℕ → Option Text → ℕ
number_or default text = option_map_or (digits_value 10) text default

-- the flag stands
abbrev pub is_true_text : Option Text → Bool
is_true_text text = option_map_or (λ t. bytes_eq t (codes "true")) text false

-- how a run goes; turn locks are always used
abbrev pub run_settings : List Part → RunSettings
run_settings ps = record {
  workers = number_or 4 (first workers.name ps);
  budget = number_or 1000000 (first budget.name ps);
  epoch = number_or 4096 (first epoch.name ps);
  window = option_map (digits_value 10) (first window.name ps);
  turns = true;
}

-- what the parts ask for; a mode always stands where this is read
abbrev pub settings : List Part → Settings
settings ps = record {
  mode = unwrap_or (option_and_then mode_named (first mode_name ps)) mode.Seq;
  run = run_settings ps;
  seed = number_or 1 (first seed.name ps);
  journal = is_true_text (first flag_name ps);
  from = number_or 0 (first from.name ps);
}

-- what the parts ask for, where they are right
abbrev pub read_parts : List Part → Option Settings
read_parts ps = cond (is_right ps) (Some (settings ps)) None

-- the same of all parts, where no name stands twice
abbrev pub settled_from : List Part → List Part → Option Settings
settled_from before ps = cond (each_once before ps) (read_parts (before ++ ps)) None

-- the settings of the words, or a refusal
unfoldable pub settings_of : List Text → Option Settings
settings_of words = option_and_then (settled_from []) (parts_from None words)
