-- What is posted to a process.
use Rattle.std.proofs.Common.{◌≡◌, Bool, true, false, cond, List, [], ◌∷◌, inl, inr, refl}
use Rattle.pm_message.specs.declared.Message.{Message}
use Rattle.pm_sim.proofs.Lanes.{sent_for}
use Rattle.pm_sim.proofs.Letters.{process_same}
use Rattle.pm_sim.specs.Sims.{In}
use Rattle.pm_sim.specs.Worlds.{Posted, Process, is_process}

pub sends_in : (to : Process) (ss : List Posted) (m : Message) → In m (sent_for to ss)
    → (y : Posted) × In y ss × (y.to ≡ to) × (m ≡ y.message)
sends_in to [] m i = absurd i
sends_in to (x ∷ xs) m i = (let again = sends_in to xs m in go (is_process x.to to) refl again i)
  where
    go : (b : Bool) → is_process x.to to ≡ b
        → (In m (sent_for to xs) → (y : Posted) × In y xs × (y.to ≡ to) × (m ≡ y.message))
        → In m (cond b (x.message ∷ sent_for to xs) (sent_for to xs))
        → (y : Posted) × In y (x ∷ xs) × (y.to ≡ to) × (m ≡ y.message)
    go true f again (inl e) = (x, inl refl, process_same x.to to f, e)
    go true f again (inr j) = (let o = again j in (o.0, inr o.1, o.2, o.3))
    go false f again j = (let o = again j in (o.0, inr o.1, o.2, o.3))
