use Rattle.std.proofs.Common.{◌∙◌, ap, codes}
use Rattle.std.proofs.lemmas.Result.{IfOk-weaker}
use Rattle.clap.specs.Words.{App, with_rule}
use Rattle.pm_words.specs.Line.{option, flag}
use Rattle.pm_words.specs.Words.{Text}
use Rattle.pm_words.proofs.command.command.Goals as goal

abbrev more : Text → App → App
more name a = with_rule a (option name)

pub returns : goal.returns
returns c =
    let third = c.in_ok-third.ensures ∙ ap (more (codes "budget")) (c.in_ok-second.ensures ∙ ap (more (codes "workers"))
    c.in_ok-first.ensures) in
    let fifth = c.in_ok-fifth.ensures ∙ ap (more (codes "window")) (c.in_ok-fourth.ensures ∙ ap (more (codes "epoch"))
    third) in
    let seventh = c.in_ok-seventh.ensures ∙ ap (more (codes "from")) (c.in_ok-sixth.ensures ∙ ap (more (codes "seed"))
    fifth) in
    IfOk-weaker c.with_journal.result _ _ (λ r h. h ∙ ap (λ (a : App). with_rule a flag) seventh) c.with_journal.ensures
