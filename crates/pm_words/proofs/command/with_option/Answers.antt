use Rattle.std.proofs.Common.{rules, ◌≡◌, ◌∙◌, ap}
use Rattle.std.proofs.lemmas.Result.{IfOk-weaker}
use Rattle.clap.specs.Words.{app_of, rule_of, with_rule}
use Rattle.pm_words.specs.Line.{option}
use Rattle.pm_words.proofs.command.with_option.Goals as goal

pub returns : goal.returns
returns c =
    let arg_is : rule_of c.action-arg.result ≡ option c.args.name.now = search rules in
    IfOk-weaker c.arg.result _ _ (λ r h. h.shape (search rules) ∙ ap (with_rule (app_of c.args.command)) arg_is)
    c.arg.ensures
