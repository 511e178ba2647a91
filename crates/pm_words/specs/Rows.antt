-- The settings that the parser's rows give.
use Rattle.std.specs.Prelude.{ℕ, true, [], cond, nat_lt, codes, List, Option, Some, None, option_and_then, option_map}
use Rattle.std.specs.Str.Parse.{digits_value}
use Rattle.clap.specs.Words.{Row, first_of}
use Rattle.pm_words.specs.Words.{Text, NumberOption, is_true_text, is_value, mode_named}
use Rattle.pm_words.specs.declared.settings.Settings.{Settings}

-- an option of this range
abbrev pub between : ℕ → ℕ → NumberOption
between least most = record { name = []; least = least; most = most }

-- the number that the digits write, if it has 64 bits
abbrev pub number_below : Text → Option ℕ
number_below text = cond (nat_lt (digits_value 10 text) 18446744073709551616) (Some (digits_value 10 text)) None

-- the number that the text writes, if it is in the range
unfoldable pub value_in : ℕ → ℕ → Text → Option ℕ
value_in least most text = cond (is_value (between least most) text) (Some (digits_value 10 text)) None

-- the same, or the default where there is no text
abbrev pub number_in : ℕ → ℕ → ℕ → Option Text → Option ℕ
number_in least most default None = Some default
number_in least most default (Some text) = value_in least most text

-- the same where there may be no text
abbrev pub optional_in : ℕ → ℕ → Option Text → Option (Option ℕ)
optional_in least most None = Some None
optional_in least most (Some text) = option_map Some (value_in least most text)

-- first the one, and then the other with what it gave
infixl 10 ◌>>=◌
abbrev pub ◌>>=◌ : {A B : Type 0} → Option A → (A → Option B) → Option B
o >>= f = option_and_then f o

-- the settings that the rows give, if each value is right
unfoldable pub row_settings : List Row → Option Settings
row_settings rows = do
  mode ← option_and_then mode_named (first_of (codes "mode") rows)
  workers ← number_in 0 64 4 (first_of (codes "workers") rows)
  budget ← number_in 0 20000000 1000000 (first_of (codes "budget") rows)
  epoch ← number_in 1 1000000 4096 (first_of (codes "epoch") rows)
  window ← optional_in 1 1000000000000 (first_of (codes "window") rows)
  seed ← number_in 0 18446744073709551615 1 (first_of (codes "seed") rows)
  from ← number_in 0 1000000000000 0 (first_of (codes "from") rows)
  Some (record {
    mode = mode;
    run = record { workers = workers; budget = budget; epoch = epoch; window = window; turns = true };
    seed = seed;
    journal = is_true_text (first_of (codes "journal") rows);
    from = from;
  })
