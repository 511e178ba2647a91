use Rattle.std.proofs.Common.{◌≡◌, ◌∙◌, ◌++◌, ap, length, refl, is_err}
use Rattle.std.proofs.lemmas.Option.{slice_get_read}
use Rattle.std.proofs.lemmas.Result.{on_ok_weaker}
use Rattle.pm_clp.specs.Clps.{clp_after}
use Rattle.pm_core.specs.Mails.{posted_all}
use Rattle.pm_core.proofs.arrivals.Processes.at_clp.Goals as goal

-- What the delivery says of its process and of what it sends, and what became of that at the links, make the whole.
pub returns-clause-did : goal.returns-clause-did
returns-clause-did c =
    let was = c.index_mut-clp.result.now in
    let all = c.args.self.now.clps.items in
    let done = c.in_ok-deliver.ensures in
    let sends = (clp_after was.hub c.args.from c.args.message was.clp).sent in
    let sent : c.deliver.new.out ≡ sends = done.sent ∙ ap (λ z. z ++ sends) c.new-sent.ensures in
    on_ok_weaker c.post_sent.result (λ h. record {
      was = was;
      at = slice_get_read all (length all) c.args.to was refl c.requires.there c.index_mut-clp.ensures.value;
      now = c.deliver.new.self;
      hub = done.hub;
      state = done.state;
      made = done.made;
      well = c.deliver.ensures.spoilt ∙ ap is_err c.in_ok-deliver.was;
      clps = refl;
      alps = refl;
      mail = h ∙ ap (λ z. posted_all c.args.to z c.args.mail.now) sent;
    }) c.post_sent.ensures
