-- The link that the world tells as the least one is that of the lowest run.
use Rattle.std.proofs.Common.{◌≡◌, ◌∙◌, ℕ, Bool, false, true, not, ◌&&◌, ◌||◌, List, [], ◌∷◌, Option, Some, None, ap, refl, subst, sym}
use Rattle.pm_base.specs.Stamps.{stamp_lt}
use Rattle.pm_calm.proofs.Goings.{least_link_is}
use Rattle.pm_calm.specs.Lowest.{IsFirstOfAll, least_link, link_before, moves_before, taken_before}
use Rattle.pm_calm.specs.Lowest.{is_moving as is_calm_moving}
use Rattle.pm_core.specs.Leasts.{IsLeastLink, front_lt, front_of, is_moving}
use Rattle.pm_core.specs.Views.{WorldView, has_mail}
use Rattle.pm_message.specs.Messages.{stamp_of}
use Rattle.pm_message.specs.declared.Message.{Message}
use Rattle.pm_message.specs.declared.Message.TheVariants as message
use Rattle.pm_plan.specs.Plans.{IsValid}
use Rattle.pm_plan.specs.declared.plan.Plan.{Plan}
use Rattle.pm_sim.proofs.Nexts.{taken_between}
use Rattle.pm_sim.specs.Bounds.{between}
use Rattle.pm_sim.specs.Reached.{Reached}
use Rattle.pm_sim.specs.Worlds.{World, mail, process}

moving_same : (m : Message) → is_moving m ≡ is_calm_moving m
moving_same (message.Move v s r) = refl
moving_same (message.Wake n s) = refl
moving_same (message.Ask n s q) = refl
moving_same (message.Put r_n r_t v r_c) = refl
moving_same (message.Cut r_n r_t v) = refl
moving_same (message.Give g) = refl
moving_same (message.Finish n s) = refl
moving_same (message.Grow k s u w) = refl

-- both order the first messages of two links alike
before_same : (t f : ℕ) (m : Message) (to from : ℕ) (n : Message)
    → front_lt (front_of t f m) (front_of to from n) ≡ taken_before t f m to from n
before_same t f m to from n =
    ap (λ b. stamp_lt (stamp_of m) (stamp_of n) || (not (stamp_lt (stamp_of n) (stamp_of m))
    && moves_before b (is_moving n) (link_before t f to from))) (moving_same m)
    ∙ ap (λ b. stamp_lt (stamp_of m) (stamp_of n) || (not (stamp_lt (stamp_of n) (stamp_of m))
    && moves_before (is_calm_moving m) b (link_before t f to from))) (moving_same n)

module _ (p : Plan) (v : WorldView) (to from : ℕ) (same : v.plan ≡ p) (l : IsLeastLink v to from) where
  first : between (process p to) (process p from) v.world.links ≡ l.message ∷ l.rest
  first = subst (λ q. between (process q to) (process q from) v.world.links ≡ l.message ∷ l.rest) same l.first

  first_of_all : IsFirstOfAll p v.world to from
  first_of_all = record {
    message = l.message;
    rest = l.rest;
    first = first;
    least = λ t f m more h. sym (before_same t f m to from l.message) ∙ l.least t f m more
        (subst (λ q. between (process q t) (process q f) v.world.links ≡ m ∷ more) (sym same) h);
  }

  pub link_is : (n : ℕ) → IsValid p → Reached p n v.world → least_link p v.world ≡ Some (to, from)
  link_is n ok reached = (least_link_is p n v.world ok reached).some to from first_of_all

  -- it has a message
  pub link_has : has_mail v to from ≡ true
  link_has = taken_between (process v.plan to) (process v.plan from) v.world.links l.message l.rest l.first

none_some : (q : ℕ × ℕ) → None ≡ Some q → ⊥
none_some q e = cc

-- where there is a least link a message is left
pub link_mail : (p : Plan) (n : ℕ) (w : World) (to from : ℕ) → IsValid p → Reached p n w
    → least_link p w ≡ Some (to, from) → mail w.links ≡ [] → ⊥
link_mail p n w to from ok reached is none =
    none_some (to, from) (sym ((least_link_is p n w ok reached).none none) ∙ is)
