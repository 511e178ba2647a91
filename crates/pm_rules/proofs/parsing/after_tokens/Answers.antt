use Rattle.std.proofs.Common.{rules, ◌≡◌, ◌<◌, ◌∙◌, ap, sym, subst, arith, length, Some}
use Rattle.std.proofs.lemmas.List.{length-map}
use Rattle.pm_rules.specs.Faults.{Reads}
use Rattle.pm_rules.specs.Rules.{after_read, scope_of}
use Rattle.pm_rules.specs.Statements.{statement}
use Rattle.pm_tokens.specs.Tokens.{tok, toks}
use Rattle.pm_rules.proofs.ParsingLaws.{after_tokens-read}
use Rattle.pm_rules.proofs.parsing.after_tokens.Goals as goal

pub returns-in-Ok : goal.returns-in-Ok
returns-in-Ok c =
    let tokens = c.args.tokens.now in
    let draft = c.args.draft in
    let len = length-map tokens tok in
    let some : 0 < length tokens = search rules in
    let read : statement (scope_of c.args.names.now draft) c.args.version (toks tokens) ≡ Some (c.in-Ok.said, c.in-Ok.known) = search rules in
    let all = after_tokens-read c.args.names.now c.args.version c.args.line (toks tokens) draft (omega (arith, len, some)) (omega arith) (omega (arith, len)) in
    subst (λ r. Reads c.after_said.result r) (sym (all ∙ ap (λ r. after_read c.args.line r draft) read)) c.after_said.ensures
