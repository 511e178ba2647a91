-- Which words a call serves.
use Rattle.std.specs.Prelude.{ℕ, Bool, true, false, not, cond, ◌&&◌, Option, None, Some, nat_le}
use Rattle.pm_words.specs.declared.settings.Mode.{Mode}
use Rattle.pm_words.specs.declared.settings.Mode.TheVariants as mode
use Rattle.pm_words.specs.declared.settings.Settings.{Settings}

-- the mode makes an optimistic run, which workers can share
abbrev pub is_shared : Mode → Bool
is_shared mode.Run = true
is_shared mode.Demo = true
is_shared _ = false

-- what is asked for wants threads: such a run by at least one worker
abbrev pub wants_threads : Settings → Bool
wants_threads s = is_shared s.mode && nat_le 1 s.run.workers

-- these settings, unless they are refused
abbrev pub settings_unless : Bool → Settings → Option Settings
settings_unless true s = None
settings_unless false s = Some s

-- the settings that a call without threads serves: none where the words are refused, or want threads
abbrev pub settings_alone : Option Settings → Option Settings
settings_alone None = None
settings_alone (Some s) = settings_unless (wants_threads s) s

-- the settings that a call serves, with threads or without
abbrev pub settings_served : Bool → Option Settings → Option Settings
settings_served true asked = asked
settings_served false asked = settings_alone asked
