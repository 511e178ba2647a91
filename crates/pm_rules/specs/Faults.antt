-- What a reader of lines answers.
use Rattle.std.specs.Prelude.{◌≡◌, ◌≢◌, Result, Ok, Err}
use Rattle.pm_rules.specs.declared.fault.RuleFault.{RuleFault}
use Rattle.pm_rules.specs.declared.fault.RuleFault.TheVariants as fault

-- what a reader of lines returned is what they give, or their fault, unless memory ran out
abbrev pub Reads : {X : Type 0} → Result X RuleFault → Result X RuleFault → Type 0
Reads (Ok x) read = read ≡ Ok x
Reads (Err e) read = e ≢ fault.Memory → read ≡ Err e
