use Rattle.std.proofs.Common.{rules, ◌≡◌, ◌∙◌, ap₂}
use Rattle.std.proofs.lemmas.Result.{IfOk-weaker}
use Rattle.clap.specs.Words.{app_of, rule_of, with_rule}
use Rattle.pm_words.specs.Line.{mode, bare}
use Rattle.pm_words.proofs.command.with_mode.Goals as goal

pub returns : goal.returns
returns c =
    let arg_is : rule_of c.action-arg.result ≡ mode = search rules in
    let bare_is : app_of c.disable_help_flag-command.result ≡ bare = search rules in
    IfOk-weaker c.arg.result _ _ (λ r h. h.shape (search rules) ∙ ap₂ with_rule bare_is arg_is) c.arg.ensures
