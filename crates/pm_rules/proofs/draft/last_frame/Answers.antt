use Rattle.std.proofs.Common.{rules, ◌≡◌, ◌∙◌, ap, sym, [], ◌∷◌, ◌++◌}
use Rattle.pm_rules.specs.Rules.{last_frame}
use Rattle.pm_rules.proofs.DraftLaws.{last_frame-push}
use Rattle.pm_rules.proofs.draft.last_frame.Goals as goal

pub returns : goal.returns
returns c =
    let popped : c.args.frames ≡ c.from_vec.result ++ c.in_ok-last.last ∷ [] = search rules in
    sym (ap last_frame popped ∙ last_frame-push c.from_vec.result c.in_ok-last.last)
