-- A run that goes on: one delivery, none, and one after another.
use Rattle.std.proofs.Common.{◌≡◌, ◌∙◌, ◌+◌, ◌-◌, ◌<◌, ◌≤◌, ◌⊎◌, inl, inr, Bool, List, None, Option, Some, [], ◌++◌, ◌∷◌, append-nil, append_assoc, ap, arith, cond, length, length-append, nat_lt, refl, subst, sym, suc, true, false, ℕ}
use Rattle.std.proofs.lemmas.Bool.{cases_Bool}
use Rattle.std.proofs.lemmas.Bool.Decides.{nat_tests}
use Rattle.pm_base.specs.declared.run.Event.{Event}
use Rattle.pm_base.specs.declared.stamp.Line.{Line}
use Rattle.pm_core.specs.Picks.{IsFree, IsHeld}
use Rattle.pm_core.specs.Views.{WorldView, delivered, has_mail}
use Rattle.pm_message.specs.declared.Message.{Message}
use Rattle.pm_plan.specs.declared.plan.Plan.{Plan}
use Rattle.pm_sim.proofs.Nexts.{taken_between}
use Rattle.pm_sim.specs.Bounds.{between}
use Rattle.pm_sim.specs.Ready.{held_back}
use Rattle.pm_sim.specs.Worlds.{World, after_events, process}
use Rattle.pm_base.specs.declared.run.Event.TheVariants as event
use Rattle.pm_kernel.proofs.Leading.{lead_append, lead_none, lead_one}
use Rattle.pm_kernel.specs.Courses.{AreHeld, Extends, HasGone, SameCount, WentOn}
use Rattle.pm_kernel.specs.Runs.{LeadTo}
use Rattle.pm_kernel.specs.declared.course.Course.{Course}

-- a message that may be delivered is there
pub free_legal : (v : WorldView) (k : Option Line) (to from : ℕ) → IsFree v k to from → has_mail v to from ≡ true
free_legal v k to from f = taken_between (process v.plan to) (process v.plan from) v.world.links f.message f.rest f.first

cons_same : (a b : Message) (xs ys : List Message) → a ∷ xs ≡ b ∷ ys → a ≡ b
cons_same a b xs ys e = cc

-- one delivery
pub gone_one : (old new : Course) (k : Option Line) (to from : ℕ) → IsFree old.world k to from
    → new.world ≡ delivered old.world to from → new.journal.items ≡ old.journal.items ++ event.Deliver to from ∷ []
    → WentOn k 1 old new
gone_one old new k to from f is noted = record {
  events = event.Deliver to from ∷ [];
  count = refl;
  gone = record {
    lead = subst (LeadTo old.world.plan k old.world.world (event.Deliver to from ∷ []))
        (sym (ap (λ (v : WorldView). v.world) is))
        (lead_one old.world.plan k old.world.world to from (free_legal old.world k to from f) free);
    plan = ap (λ (v : WorldView). v.plan) is;
    made = let e = ap (λ (v : WorldView). v.made) is in omega (arith, e);
    spoilt = ap (λ (v : WorldView). v.spoilt) is;
    journal = noted;
  };
}
  where
    free : (m : Message) (rest : List Message)
        → between (process old.world.plan to) (process old.world.plan from) old.world.world.links ≡ m ∷ rest
        → held_back old.world.world (λ _. k) (process old.world.plan to) m ≡ false
    free m rest e = subst (λ z. held_back old.world.world (λ _. k) (process old.world.plan to) z ≡ false)
        (cons_same f.message m f.rest rest (sym f.first ∙ e)) f.free

-- nothing
pub gone_none : (old new : Course) (k : Option Line)
    → new.world ≡ old.world → new.journal.items ≡ old.journal.items → WentOn k 0 old new
gone_none old new k is noted = record {
  events = [];
  count = refl;
  gone = record {
    lead = subst (LeadTo old.world.plan k old.world.world []) (sym (ap (λ (v : WorldView). v.world) is))
        (lead_none old.world.plan k old.world.world);
    plan = ap (λ (v : WorldView). v.plan) is;
    made = let e = ap (λ (v : WorldView). v.made) is in omega (arith, e);
    spoilt = ap (λ (v : WorldView). v.spoilt) is;
    journal = noted ∙ sym (append-nil old.journal.items);
  };
}

-- one after another
pub gone_on : (a b c : Course) (k : Option Line) (n m o : ℕ)
    → WentOn k n a b → WentOn k m b c → n + m ≡ o → WentOn k o a c
gone_on a b c k n m o x y s = record {
  events = x.events ++ y.events;
  count = let e = length-append x.events y.events in let f = x.count in let g = y.count in omega (arith, e, f, g, s);
  gone = record {
    lead = lead_append a.world.plan k a.world.world b.world.world c.world.world x.events y.events x.gone.lead
        (subst (λ p. LeadTo p k b.world.world y.events c.world.world) x.gone.plan y.gone.lead);
    plan = y.gone.plan ∙ x.gone.plan;
    made = let e = length-append x.events y.events in let f = x.gone.made in let g = y.gone.made in
        omega (arith, e, f, g);
    spoilt = y.gone.spoilt ∙ x.gone.spoilt;
    journal = y.gone.journal ∙ (ap (λ z. z ++ y.events) x.gone.journal
        ∙ append_assoc a.journal.items x.events y.events);
  };
}

-- where nothing was delivered the world is as it was
pub no_events : (es : List Event) → length es ≡ 0 → es ≡ []
no_events [] e = refl
no_events (x ∷ es) e = absurd (omega (arith, e))

pub held_on : (old new : Course) (k : Option Line) (i : ℕ) → WentOn k 0 old new → IsHeld old.world k i → IsHeld new.world k i
held_on old new k i w h = λ from m rest e. same from m rest e
  where
    none : w.events ≡ []
    none = no_events w.events w.count

    world : new.world.world ≡ old.world.world
    world = w.gone.lead.world ∙ ap (λ z. after_events old.world.plan old.world.world z) none

    same : IsHeld new.world k i
    same = subst (λ z. IsHeld (record new.world { world = z }) k i) (sym world)
        (subst (λ z. IsHeld (record new.world { world = old.world.world; plan = z }) k i) (sym w.gone.plan) h)

lt_cases : (j i : ℕ) → j < i + 1 → (j < i) ⊎ (j ≡ i)
lt_cases j i lt = elim (cases_Bool (nat_lt j i)) [
  | inl e ↦ inl (grind (arith, nat_tests, e))
  | inr e ↦ inr (grind (arith, nat_tests, e, lt))
]

-- a turn more
pub turn_on : (b c : Course) (k : Option Line) (i : ℕ) → WentOn k 0 b c → AreHeld k i b → IsHeld c.world k i → AreHeld k (i + 1) c
turn_on b c k i w h one = λ j lt. by j (lt_cases j i lt)
  where
    by : (j : ℕ) → (j < i) ⊎ (j ≡ i) → IsHeld c.world k j
    by j (inl lt) = held_on b c k j w (h j lt)
    by j (inr e) = subst (IsHeld c.world k) (sym e) one

pub extends_none : (c : Course) → Extends c c
extends_none c = ([], sym (append-nil c.journal.items))

pub extends_on : (a b c : Course) → Extends a b → Extends b c → Extends a c
extends_on a b c x y =
    (x.0 ++ y.0, y.1 ∙ (ap (λ z. z ++ y.0) x.1 ∙ append_assoc a.journal.items x.0 y.0))

pub gone_extends : (a b : Course) (k : Option Line) (n : ℕ) → WentOn k n a b → Extends a b
gone_extends a b k n w = (w.events, w.gone.journal)

-- so many processes, still
pub same_count : (c : Course) → SameCount c c
same_count c = record { all = refl; stirred = refl }

pub same_count_on : (a b c : Course) → SameCount a b → SameCount b c → SameCount a c
same_count_on a b c x y = record { all = y.all ∙ x.all; stirred = y.stirred ∙ x.stirred }
