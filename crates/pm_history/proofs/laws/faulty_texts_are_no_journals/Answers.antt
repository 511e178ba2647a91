use Rattle.pm_history.proofs.Texts as texts
use Rattle.pm_history.proofs.laws.faulty_texts_are_no_journals.Goals as goal

pub returns : goal.returns
returns c = record { no_journal = texts.no_journal; one = texts.one_fault }
