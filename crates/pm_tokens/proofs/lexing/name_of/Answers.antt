use Rattle.std.proofs.Common.{inl, inr, refl}
use Rattle.std.proofs.lemmas.Bool.{cases_Bool}
use Rattle.std.proofs.lemmas.Str.{IsUtf8-from_ascii}
use Rattle.pm_base.specs.Names.{is_name}
use Rattle.pm_tokens.proofs.NamesLaws.{name_low}
use Rattle.pm_tokens.proofs.lexing.name_of.Goals as goal

pub returns-in-Err : goal.returns-in-Err
returns-in-Err c = elim (cases_Bool (is_name c.args.word.now)) [
  | inl h ↦ absurd (c.in-Err.ensures.cases.0 (IsUtf8-from_ascii c.args.word.now (name_low c.args.word.now h)))
  | inr h ↦ rw h refl
]
