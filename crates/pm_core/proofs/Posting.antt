-- One message more is posted.
use Rattle.std.proofs.Common.{ℕ, ◌≡◌, List, [], ◌∷◌, ◌++◌, refl}
use Rattle.pm_mail.specs.Links.{posted}
use Rattle.pm_mail.specs.Links.{Link as Lane}
use Rattle.pm_message.specs.declared.Message.{Message}
use Rattle.pm_queries.specs.declared.registered.Sent.{Sent}
use Rattle.pm_core.specs.Mails.{posted_all, receiver, told_all}

pub posted_more : (from : ℕ) (ss : List Sent) (s : Sent) (ls : List Lane)
    → posted s.to from s.message (posted_all from ss ls) ≡ posted_all from (ss ++ s ∷ []) ls
posted_more from [] s ls = refl
posted_more from (x ∷ ss) s ls = posted_more from ss s (posted x.to from x.message ls)

pub told_more : (own home : ℕ) (ms : List Message) (m : Message) (ls : List Lane)
    → posted (receiver own home m) own m (told_all own home ms ls) ≡ told_all own home (ms ++ m ∷ []) ls
told_more own home [] m ls = refl
told_more own home (x ∷ ms) m ls = told_more own home ms m (posted (receiver own home x) own x ls)
