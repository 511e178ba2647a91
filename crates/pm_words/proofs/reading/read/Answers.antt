use Rattle.std.proofs.Common.{◌∙◌, sym, ap, map, string_bytes}
use Rattle.pm_words.specs.Words.{settings_of}
use Rattle.pm_words.proofs.Found.{accepted, refused}
use Rattle.pm_words.proofs.reading.read.Goals as goal

pub returns-in-Err-clause-refused : goal.returns-in-Err-clause-refused
returns-in-Err-clause-refused c = λ is. ap (λ xs. settings_of (map string_bytes xs)) (sym c.as_slice.ensures.value)
    ∙ refused (map string_bytes c.as_slice.result.now) (c.in-Err.ensures.refused is)

pub returns-in-Some-clause-ok : goal.returns-in-Some-clause-ok
returns-in-Some-clause-ok c = ap (λ xs. settings_of (map string_bytes xs)) (sym c.as_slice.ensures.value)
    ∙ accepted (map string_bytes c.as_slice.result.now) _ c.in-Ok.ensures.taken c.in-Ok.ensures.rows
    ∙ sym c.settings_in.ensures.settings ∙ c.in-Some.is

pub returns-clause-refused : goal.returns-clause-refused
returns-clause-refused c = λ is. ap (λ xs. settings_of (map string_bytes xs)) (sym c.as_slice.ensures.value)
    ∙ accepted (map string_bytes c.as_slice.result.now) _ c.in-Ok.ensures.taken c.in-Ok.ensures.rows
    ∙ sym c.settings_in.ensures.settings ∙ c.in-None.is
