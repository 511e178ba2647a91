-- Clocks that rise, with one more clock.
use Rattle.std.proofs.Common.{◌≡◌, ◌<◌, ◌++◌, List, [], ◌∷◌, Result, Ok, Err, sym, subst}
use Rattle.std.specs.Prelude.{OnOk, OnErr}
use Rattle.std.specs.List.{AllByRecursion}
use Rattle.pm_history.specs.declared.histories.Heard.{Heard}
use Rattle.pm_history.specs.Merged.{IsRising}

all_more : (P : Heard → Type 0) (hs : List Heard) (h : Heard) → AllByRecursion P hs → P h
    → AllByRecursion P (hs ++ h ∷ [])
all_more P [] h all here = (here, tt)
all_more P (x ∷ xs) h all here = (all.0, all_more P xs h all.1 here)

rising_more : (hs : List Heard) (h : Heard) → IsRising hs → AllByRecursion (λ x. x.clock < h.clock) hs
    → IsRising (hs ++ h ∷ [])
rising_more [] h rises below = (tt, tt)
rising_more (x ∷ xs) h rises below =
    (all_more (λ y. x.clock < y.clock) xs h rises.0 below.0, rising_more xs h rises.1 below.1)

pub still_rising : {A B : Type 0} (r : Result A B) (old new : List Heard) (h : Heard) → OnOk r (new ≡ old ++ h ∷ [])
    → OnErr r (new ≡ old) → IsRising old → AllByRecursion (λ x. x.clock < h.clock) old → IsRising new
still_rising (Ok _) old new h ok err rises below = subst IsRising (sym ok) (rising_more old h rises below)
still_rising (Err _) old new h ok err rises below = subst IsRising (sym err) rises
