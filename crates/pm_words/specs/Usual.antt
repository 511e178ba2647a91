-- What a mode's name alone means.
use Rattle.std.specs.Prelude.{None, false, true}
use Rattle.pm_base.specs.declared.run.RunSettings.{RunSettings}
use Rattle.pm_words.specs.declared.settings.Mode.TheVariants as mode
use Rattle.pm_words.specs.declared.settings.Settings.{Settings}

-- how a run goes where no option stands
abbrev pub usual_run : RunSettings
usual_run = record { workers = 4; budget = 1000000; epoch = 4096; window = None; turns = true }

-- what `seq` alone means
abbrev pub usual : Settings
usual = record { mode = mode.Seq; run = usual_run; seed = 1; journal = false; from = 0 }
