use Rattle.std.proofs.Common.{◌∙◌, ap, sym, map}
use Rattle.std.proofs.lemmas.List.{map-append}
use Rattle.pm_message.specs.Messages.{stamp_of}
use Rattle.pm_mail.specs.Inner.{lowered}
use Rattle.pm_mail.proofs.Places.{lowered-append}
use Rattle.pm_mail.proofs.lane.lower_by.Goals as goal

pub returns : goal.returns
returns c =
    let front = c.as_slices.result.0.now in
    let back = c.as_slices.result.1.now in
    c.lower_all-2.ensures ∙ (ap (λ l. lowered l (map stamp_of back)) c.lower_all.ensures
    ∙ (sym (lowered-append c.args.line (map stamp_of front) (map stamp_of back))
    ∙ (ap (lowered c.args.line) (sym (map-append stamp_of front back))
    ∙ ap (λ ms. lowered c.args.line (map stamp_of ms)) c.as_slices.ensures.items)))
