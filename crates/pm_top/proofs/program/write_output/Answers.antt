use Rattle.std.proofs.Common.{◌∙◌, sym}
use Rattle.pm_top.proofs.Outcomes.{not-done, of-done, of-fault, of-spent}
use Rattle.pm_top.proofs.program.write_output.Goals as goal

pub returns-in-Seq-clause-printed : goal.returns-in-Seq-clause-printed
returns-in-Seq-clause-printed g c =
    let o = c.write_run-outcome.result in
    let w = c.write_run-outcome.ensures in
    rw (c.in-Seq.is, c.still.ensures.ending, c.ending_of.ensures) (record {
      done = λ h. w.done (of-done o h);
      within = λ h. w.within (of-done o h);
      spent = λ h. (w.spent (of-spent o h)).1;
      more = λ h. (w.spent (of-spent o h)).0;
      part = w.part;
      unfinished = λ h. w.unfinished (not-done o h);
      lacks = λ h. w.lacks (of-fault o h);
    })

pub returns-in-Check-clause-printed : goal.returns-in-Check-clause-printed
returns-in-Check-clause-printed g c =
    let o = c.write_check-outcome.result in
    let w = c.write_check-outcome.ensures in
    rw (c.in-Check.is, c.still-in-Check.ensures.ending, c.ending_of-in-Check.ensures) (record {
      done = λ h. w.done (of-done o h);
      part = w.part;
      unfinished = λ h. w.unfinished (not-done o h);
    })

pub returns-in-Demo-clause-printed : goal.returns-in-Demo-clause-printed
returns-in-Demo-clause-printed g c = rw (c.in-Demo.is, c.ending_of-in-Demo.ensures) c.write_demo-ran.ensures.printed

pub returns-in-Upgrade-clause-retired : goal.returns-in-Upgrade-clause-retired
returns-in-Upgrade-clause-retired g c = λ agent h. absurd (c.write_upgrade.ensures.retired agent (sym c.still-in-Upgrade.ensures.ending ∙ h))

pub returns-in-Upgrade-clause-illegal : goal.returns-in-Upgrade-clause-illegal
returns-in-Upgrade-clause-illegal g c = λ line h. absurd (c.write_upgrade.ensures.illegal line (sym c.still-in-Upgrade.ensures.ending ∙ h))

pub returns-in-Place-clause-retired : goal.returns-in-Place-clause-retired
returns-in-Place-clause-retired g c = λ agent h. absurd (c.write_place.ensures.retired agent (sym c.still-in-Place.ensures.ending ∙ h))

pub returns-in-Place-clause-illegal : goal.returns-in-Place-clause-illegal
returns-in-Place-clause-illegal g c = λ line h. absurd (c.write_place.ensures.illegal line (sym c.still-in-Place.ensures.ending ∙ h))

pub returns-in-Cut-clause-illegal : goal.returns-in-Cut-clause-illegal
returns-in-Cut-clause-illegal g c = λ line h. absurd (c.write_cut.ensures.illegal line (sym c.still-in-Cut.ensures.ending ∙ h))

pub returns-in-Lowest-clause-printed : goal.returns-in-Lowest-clause-printed
returns-in-Lowest-clause-printed g c = rw (c.in-Lowest.is, c.ending_of-in-Lowest.ensures) c.write_lowest-ran.ensures.printed
