use Rattle.std.proofs.Common.{◌≡◌, ◌∙◌, refl, sym, subst}
use Rattle.pm_kernel.proofs.Coursing.{epoch_may, epoch_moves, epoch_staged, epoch_stood}
use Rattle.pm_kernel.proofs.course.Course.stage.Goals as goal

pub commit-requires : goal.commit-requires
commit-requires c = record {
  may = epoch_may c.args.self.now c.epoch.new.self c.requires.valid c.args.window c.in_ok-made.made c.requires.stood
      c.in_ok-made.ensures.gone c.requires.all.all;
}

pub returns-clause-done : goal.returns-clause-done
returns-clause-done c =
    epoch_staged c.args.self.now c.epoch.new.self c.requires.valid c.args.window c.in_ok-made.made c.requires.stood
    c.in_ok-made.ensures.gone c.requires.all.all c.commit.new.self c.in_ok-entries.entries
    c.in_ok-entries.ensures.world c.in_ok-entries.ensures.journal c.in_ok-entries.ensures.entries

pub returns-clause-stood : goal.returns-clause-stood
returns-clause-stood c =
    epoch_stood c.args.self.now c.epoch.new.self c.requires.valid c.args.window c.in_ok-made.made c.requires.stood
    c.in_ok-made.ensures.gone c.requires.all.all c.commit.new.self c.in_ok-entries.entries
    c.in_ok-entries.ensures.world c.in_ok-entries.ensures.journal c.in_ok-entries.ensures.entries

pub returns-clause-moves : goal.returns-clause-moves
returns-clause-moves c = λ none some.
    epoch_moves c.args.self.now c.epoch.new.self c.requires.valid c.args.window c.in_ok-made.made c.requires.stood
    c.in_ok-made.ensures.gone c.requires.all.all none (c.in_ok-made.ensures.idle none some)
