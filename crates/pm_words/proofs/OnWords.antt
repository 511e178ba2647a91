-- What some words mean, by computing.
use Rattle.std.proofs.Common.{◌≡◌, refl, codes, Some, None, [], ◌∷◌, true}
use Rattle.pm_words.specs.Words.{parts_from, mode_named, settings_of}
use Rattle.pm_words.specs.Usual.{usual, usual_run}
use Rattle.pm_words.specs.declared.settings.Mode.TheVariants as mode

pub alone : settings_of (codes "seq" ∷ []) ≡ Some usual
unfolding settings_of parts_from mode_named
alone = refl

pub check : settings_of (codes "check" ∷ []) ≡ Some (record usual { mode = mode.Check })
unfolding settings_of parts_from mode_named
check = refl

pub run : settings_of (codes "run" ∷ codes "--epoch=5" ∷ codes "--journal" ∷ []) ≡
    Some (record usual { mode = mode.Run; run = record usual_run { epoch = 5 }; journal = true })
unfolding settings_of parts_from mode_named
run = refl

pub demo : settings_of (codes "demo" ∷ codes "--seed" ∷ codes "7" ∷ []) ≡ Some (record usual { mode = mode.Demo; seed = 7 })
unfolding settings_of parts_from mode_named
demo = refl

pub upgrade : settings_of (codes "upgrade" ∷ []) ≡ Some (record usual { mode = mode.Upgrade })
unfolding settings_of parts_from mode_named
upgrade = refl

pub place : settings_of (codes "place" ∷ []) ≡ Some (record usual { mode = mode.Place })
unfolding settings_of parts_from mode_named
place = refl

pub cut : settings_of (codes "cut" ∷ codes "--from=2" ∷ []) ≡ Some (record usual { mode = mode.Cut; from = 2 })
unfolding settings_of parts_from mode_named
cut = refl

pub replay : settings_of (codes "replay" ∷ []) ≡ Some (record usual { mode = mode.Replay })
unfolding settings_of parts_from mode_named
replay = refl

pub lowest : settings_of (codes "lowest" ∷ codes "--budget=9" ∷ []) ≡
    Some (record usual { mode = mode.Lowest; run = record usual_run { budget = 9 } })
unfolding settings_of parts_from mode_named
lowest = refl

pub option_before : settings_of (codes "--workers=2" ∷ codes "seq" ∷ []) ≡
    Some (record usual { run = record usual_run { workers = 2 } })
unfolding settings_of parts_from mode_named
option_before = refl

pub option_behind : settings_of (codes "seq" ∷ codes "--budget" ∷ codes "2" ∷ []) ≡
    Some (record usual { run = record usual_run { budget = 2 } })
unfolding settings_of parts_from mode_named
option_behind = refl

pub behind_hyphens : settings_of (codes "--" ∷ codes "seq" ∷ []) ≡ Some usual
unfolding settings_of parts_from mode_named
behind_hyphens = refl

pub flag : settings_of (codes "--journal" ∷ codes "seq" ∷ []) ≡ Some (record usual { journal = true })
unfolding settings_of parts_from mode_named
flag = refl

pub no_words : settings_of [] ≡ None
unfolding settings_of parts_from mode_named
no_words = refl

pub no_mode : settings_of (codes "fly" ∷ []) ≡ None
unfolding settings_of parts_from mode_named
no_mode = refl

pub two_modes : settings_of (codes "seq" ∷ codes "seq" ∷ []) ≡ None
unfolding settings_of parts_from mode_named
two_modes = refl

pub empty_word : settings_of ([] ∷ []) ≡ None
unfolding settings_of parts_from mode_named
empty_word = refl

pub hyphen : settings_of (codes "-" ∷ []) ≡ None
unfolding settings_of parts_from mode_named
hyphen = refl

pub help : settings_of (codes "--help" ∷ []) ≡ None
unfolding settings_of parts_from mode_named
help = refl

pub help_for_short : settings_of (codes "-h" ∷ []) ≡ None
unfolding settings_of parts_from mode_named
help_for_short = refl

pub help_word : settings_of (codes "help" ∷ []) ≡ None
unfolding settings_of parts_from mode_named
help_word = refl

pub version : settings_of (codes "--version" ∷ []) ≡ None
unfolding settings_of parts_from mode_named
version = refl

pub digits : settings_of (codes "seq" ∷ codes "--budget" ∷ codes "00000000000000000007" ∷ []) ≡
    Some (record usual { run = record usual_run { budget = 7 } })
unfolding settings_of parts_from mode_named
digits = refl

pub workers : settings_of (codes "seq" ∷ codes "--workers=64" ∷ []) ≡
    Some (record usual { run = record usual_run { workers = 64 } })
unfolding settings_of parts_from mode_named
workers = refl

pub epoch : settings_of (codes "seq" ∷ codes "--epoch=1" ∷ []) ≡
    Some (record usual { run = record usual_run { epoch = 1 } })
unfolding settings_of parts_from mode_named
epoch = refl

pub window : settings_of (codes "seq" ∷ codes "--window=1000000000000" ∷ []) ≡
    Some (record usual { run = record usual_run { window = Some 1000000000000 } })
unfolding settings_of parts_from mode_named
window = refl

pub seed : settings_of (codes "seq" ∷ codes "--seed=18446744073709551615" ∷ []) ≡
    Some (record usual { seed = 18446744073709551615 })
unfolding settings_of parts_from mode_named
seed = refl

pub from : settings_of (codes "seq" ∷ codes "--from=1000000000000" ∷ []) ≡
    Some (record usual { from = 1000000000000 })
unfolding settings_of parts_from mode_named
from = refl

pub past_most : settings_of (codes "seq" ∷ codes "--workers" ∷ codes "65" ∷ []) ≡ None
unfolding settings_of parts_from mode_named
past_most = refl

pub below_least : settings_of (codes "seq" ∷ codes "--epoch" ∷ codes "0" ∷ []) ≡ None
unfolding settings_of parts_from mode_named
below_least = refl

pub no_digits : settings_of (codes "seq" ∷ codes "--budget" ∷ codes "x" ∷ []) ≡ None
unfolding settings_of parts_from mode_named
no_digits = refl

pub signed : settings_of (codes "seq" ∷ codes "--budget" ∷ codes "-1" ∷ []) ≡ None
unfolding settings_of parts_from mode_named
signed = refl

pub too_long : settings_of (codes "seq" ∷ codes "--budget" ∷ codes "000000000000000000007" ∷ []) ≡ None
unfolding settings_of parts_from mode_named
too_long = refl

pub too_great : settings_of (codes "seq" ∷ codes "--seed=18446744073709551616" ∷ []) ≡ None
unfolding settings_of parts_from mode_named
too_great = refl

pub twice : settings_of (codes "seq" ∷ codes "--seed" ∷ codes "1" ∷ codes "--seed" ∷ codes "2" ∷ []) ≡ None
unfolding settings_of parts_from mode_named
twice = refl

pub no_value : settings_of (codes "seq" ∷ codes "--budget" ∷ []) ≡ None
unfolding settings_of parts_from mode_named
no_value = refl

pub hyphens_as_value : settings_of (codes "seq" ∷ codes "--budget" ∷ codes "--" ∷ []) ≡ None
unfolding settings_of parts_from mode_named
hyphens_as_value = refl

pub flag_value : settings_of (codes "seq" ∷ codes "--journal=x" ∷ []) ≡ None
unfolding settings_of parts_from mode_named
flag_value = refl

pub second_hyphens : settings_of (codes "--" ∷ codes "seq" ∷ codes "--" ∷ []) ≡ None
unfolding settings_of parts_from mode_named
second_hyphens = refl
