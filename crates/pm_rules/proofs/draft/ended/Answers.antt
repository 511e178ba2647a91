use Rattle.std.proofs.Common.{rules, ◌≡◌, ◌∙◌, ap, sym, List, None}
use Rattle.pm_rules.specs.Rules.{last_frame}
use Rattle.pm_rules.specs.declared.draft.Frame.{Frame}
use Rattle.pm_rules.proofs.DraftLaws.{last_frame-none}
use Rattle.pm_rules.proofs.draft.ended.Goals as goal

pub returns-in_default : goal.returns-in_default
returns-in_default c =
    let none : last_frame c.args.draft.frames ≡ None = search rules in
    rw none (ap (λ (frames : List Frame). record c.args.draft { frames = frames }) (c.new-frames.ensures ∙ sym (last_frame-none c.args.draft.frames none)))
