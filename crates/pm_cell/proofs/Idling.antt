-- Settled cells that are all idle have nothing left.
use Rattle.std.proofs.Common.{◌≡◌, ℕ, zero, suc, ◌<◌, ◌≤◌, ◌^◌, inl, inr, Bool, true, false, List, [], ◌∷◌, ◌++◌, length, refl, arith, ap, ap₂, sym, ◌∙◌, subst, append_assoc, length-append, Option}
use Rattle.std.specs.Prelude.{nat_lt}
use Rattle.std.specs.List.{AllByRecursion}
use Rattle.std.proofs.lemmas.Bool.Decides.{nat_tests}
use Rattle.pm_base.specs.declared.stamp.Line.{Line}
use Rattle.pm_history.specs.declared.histories.Heard.{Heard}
use Rattle.pm_message.specs.declared.Message.{Message}
use Rattle.pm_plan.specs.Plans.{IsValid}
use Rattle.pm_plan.specs.declared.plan.Plan.{Plan}
use Rattle.pm_sim.specs.Bounds.{between}
use Rattle.pm_sim.specs.Journals.{made_at}
use Rattle.pm_sim.specs.Ready.{IsIdle as WorldIsIdle, WindowOk}
use Rattle.pm_sim.specs.Routings.{mail_to}
use Rattle.pm_sim.specs.Sims.{In}
use Rattle.pm_sim.specs.Taken.{IsTaken}
use Rattle.pm_sim.specs.Worlds.{Process, World, mail, number, process}
use Rattle.pm_sim.specs.Worlds.Process.{AtAgent, AtClp}
use Rattle.pm_sim.proofs.ReachedWorlds.{all_taken, some_ready_in, world_tells}
use Rattle.pm_sim.proofs.Wires.{between_mail}
use Rattle.pm_cell.specs.Cells.{Came, IsBlocked, IsIdle}
use Rattle.pm_ends.specs.Numbers.{Pairs}
use Rattle.pm_cell.specs.Cores.{State, core, holds_at, state_at, takes_at}
use Rattle.pm_cell.specs.Machines.{Machine}
use Rattle.pm_cell.specs.Sides.{Replays, Side, messages}
use Rattle.pm_cell.specs.Stands.{AreIdle, AreSound, AreWide, CellCame, CellIsIdle, CellView, HeardNothing, IdleCellsAreDone, StandAt}
use Rattle.pm_cell.specs.Views.{FitsPlan, Frame, Settled, View, nobody, nows, told, view_at}
use Rattle.pm_ends.specs.declared.post.Post.{Post}
use Rattle.pm_cell.proofs.Rows.{each_at, numbered}
use Rattle.pm_cell.proofs.Lists.{each_right}
use Rattle.pm_cell.proofs.Merges.{cancel, head_same}
use Rattle.pm_cell.proofs.Runs.{has_low, held_is}
use Rattle.pm_cell.proofs.Waiting.{numbers_of, settled_links, taken_at}

past : (vs : List CellView) (k : ℕ) → length vs ≤ k → view_at nobody vs k ≡ view_at nobody [] 0
past [] k le = refl
past (v ∷ vs) zero le = absurd (omega arith)
past (v ∷ vs) (suc k) le = past vs k (omega arith)

module _ (p : Plan) (n : ℕ) (w : World) (vs : List CellView) (valid : IsValid p) (at : StandAt p n w vs) (settled : Settled nobody vs) (few : n < 20000000) where
  -- what an idle cell's first message is: one that its window holds back
  blocked : (a b : ℕ) (m : Message) (rest : List Message) → between (process p a) (process p b) w.links ≡ m ∷ rest → a < length vs → number p (process p b) ≡ b
      → IsIdle (core p) (view_at nobody vs a) → holds_at (view_at nobody vs a).window (process p a) (state_at w (process p a)) m ≡ true
  blocked a b m rest link lt named idle = go ((view_at nobody vs a).waiting b) refl (sym (settled_links p w vs at.stand settled a b) ∙ link)
    where
      has : (core p).has w a ≡ true
      has = has_low p w a (world_tells p n w valid at.reached).links (let count = at.cells.count in omega (arith, lt, count))

      own : (view_at nobody vs a).frame.number ≡ a
      own = numbered nobody 0 a vs at.cells.numbers lt ∙ omega arith

      state : (nows nobody vs a).state ≡ state_at w (process p a)
      state = sym (at.stand.states a has)

      made : (view_at nobody vs a).made < 20000000
      made = (let low = each_at nobody (λ (v : CellView). v.made ≤ n) vs a lt at.counts in omega (arith, low, few))

      taken : takes_at p (process p a) (view_at nobody vs a).made (state_at w (process p a)) b m ≡ true
      taken = taken_at p w (process p a) b (made_at p (process p a) at.reached.events) (view_at nobody vs a).made (process p b) m named
          (all_taken p n w valid at.reached few (mail_to (process p a) (process p b) m)
          (between_mail (process p a) (process p b) w.links m (subst (In m) (sym link) (inl refl)))) made

      go : (ys : List Post) → (view_at nobody vs a).waiting b ≡ ys → messages ys ≡ m ∷ rest → holds_at (view_at nobody vs a).window (process p a) (state_at w (process p a)) m ≡ true
      go [] e is = absurd (cc)
      go (x ∷ xs) e is =
          let same : x.message ≡ m = head_same x.message m (messages xs) rest is in
          let low : x.clock ≤ n = (each_right (λ (y : Post). y.clock ≤ n) ((nows nobody vs a).received b) (x ∷ xs)
          (subst (λ (ys : List Post). AllByRecursion (λ (y : Post). y.clock ≤ n) ys) (settled a b ∙ ap (λ z. (nows nobody vs a).received b ++ z) e) ((at.clocks b).sent a))).0 in
          let own_low : (nows nobody vs a).clock ≤ n = (at.clocks a).own in
          let taken_is : (core p).takes (view_at nobody vs a).frame.number (view_at nobody vs a).made (nows nobody vs a).state b x.message ≡ true =
          ap (λ (k : ℕ). (core p).takes k (view_at nobody vs a).made (nows nobody vs a).state b x.message) own
          ∙ ap (λ (z : State). takes_at p (process p a) (view_at nobody vs a).made z b x.message) state
          ∙ ap (takes_at p (process p a) (view_at nobody vs a).made (state_at w (process p a)) b) same ∙ taken in
          elim (idle b x xs e) [
            | inl held ↦ sym (ap (λ (k : ℕ). (core p).holds (view_at nobody vs a).window k (nows nobody vs a).state x.message) own
                ∙ ap (λ (z : State). holds_at (view_at nobody vs a).window (process p a) z x.message) state
                ∙ ap (holds_at (view_at nobody vs a).window (process p a) (state_at w (process p a))) same) ∙ held
            | inr (inl unfit) ↦ absurd (not_both (sym unfit ∙ taken_is))
            | inr (inr (inl late)) ↦ absurd (omega (arith, late, low, few))
            | inr (inr (inr late)) ↦ absurd (omega (arith, late, own_low, few))
          ]
        where
          not_both : false ≡ true → ⊥
          not_both e = cc

  low_number : (to from : Process) (m : Message) → IsTaken p w (made_at p to at.reached.events) to from m → number p to < length vs
  low_number (AtClp c) from m t = (let lt = t.0 in let count = at.cells.count in omega (arith, lt, count))
  low_number (AtAgent a) from m t = (let lt = t.0 in let count = at.cells.count in omega (arith, lt, count))

  idle_world : AreIdle vs → WorldIsIdle w (λ q. (view_at nobody vs (number p q)).window)
  idle_world idle to from m rest link =
      let ends = numbers_of p w valid (world_tells p n w valid at.reached).links to from m (subst (In m) (sym link) (inl refl)) in
      let a : ℕ = number p to in
      let b : ℕ = number p from in
      let taken = all_taken p n w valid at.reached few (mail_to to from m) (between_mail to from w.links m (subst (In m) (sym link) (inl refl))) in
      let lt : a < length vs = low_number to from m taken in
      let by : between (process p a) (process p b) w.links ≡ m ∷ rest = ap₂ (λ (t f : Process). between t f w.links) ends.to_is ends.from_is ∙ link in
      let fit = each_at nobody (λ (v : CellView). FitsPlan p v.frame) vs a lt at.cells.fit in
      let one : IsIdle (core p) (view_at nobody vs a) = subst (λ (q : Plan). IsIdle (core q) (view_at nobody vs a)) fit.plan (each_at nobody CellIsIdle vs a lt idle) in
      let held = blocked a b m rest by lt (ap (number p) ends.from_is) one in
      held_is w (λ q. (view_at nobody vs (number p q)).window) to m
      ∙ ap (λ (t : Process). holds_at (view_at nobody vs (number p to)).window t (state_at w t) m) (sym ends.to_is) ∙ held

  wide_windows : AreWide w vs → (q : Process) → WindowOk w (view_at nobody vs (number p q)).window
  wide_windows wide q = go (nat_lt (number p q) (length vs)) refl
    where
      go : (c : Bool) → nat_lt (number p q) (length vs) ≡ c → WindowOk w (view_at nobody vs (number p q)).window
      go true e = each_at nobody (λ (v : CellView). WindowOk w v.window) vs (number p q) (grind (arith, nat_tests, e)) wide
      go false e = subst (λ (v : CellView). WindowOk w v.window) (sym (past vs (number p q) (grind (arith, nat_tests, e)))) tt

  done : AreWide w vs → AreIdle vs → mail w.links ≡ []
  done wide idle = some_ready_in p n w valid at.reached (λ q. (view_at nobody vs (number p q)).window) (wide_windows wide) (idle_world idle)

-- ---- cells that heard nothing

no_length : {X : Type 0} (xs : List X) → length xs ≡ 0 → xs ≡ []
no_length [] e = refl
no_length (x ∷ xs) e = absurd (omega (arith, e))

-- a cell that heard nothing and is idle now was idle before
idle_back : {W S : Type 0} (core : Machine W S) (a b : View S) → Came core a b → b.spoilt ≡ false → length b.story ≡ length a.story → IsIdle core b → IsIdle core a
idle_back core a b c sound same idle from x xs e = go (idle from x (xs ++ more.0) (waits ∙ ap (λ z. z ++ more.0) e))
  where
    none : c.more ≡ []
    none = no_length c.more (let long = ap length c.story in let both = length-append a.story c.more in omega (arith, same, long, both))

    now : b.now ≡ a.now
    now = subst (λ (hs : List Heard). Replays core a.window a.frame.number hs a.now b.now) none (c.replays sound)

    made : b.made ≡ a.made
    made = (let rose = c.made sound in let zero = ap length none in omega (arith, rose, zero))

    more : (more : List Post) × (b.now.received from ++ b.waiting from ≡ (a.now.received from ++ a.waiting from) ++ more)
    more = c.come from

    waits : b.waiting from ≡ a.waiting from ++ more.0
    waits = cancel (a.now.received from) (b.waiting from) (a.waiting from ++ more.0)
        (ap (λ (z : Side _). z.received from ++ b.waiting from) (sym now) ∙ more.1 ∙ append_assoc (a.now.received from) (a.waiting from) more.0)

    go : IsBlocked core b from x → IsBlocked core a from x
    go (inl held) = inl (
        ap (λ (o : Option Line). core.holds o a.frame.number a.now.state x.message) (sym c.window)
        ∙ ap (λ (f : Frame). core.holds b.window f.number a.now.state x.message) (sym c.frame)
        ∙ ap (λ (z : Side _). core.holds b.window b.frame.number z.state x.message) (sym now) ∙ held
        )
    go (inr (inl unfit)) = inr (inl (
        ap (λ (f : Frame). core.takes f.number a.made a.now.state from x.message) (sym c.frame)
        ∙ ap (λ (k : ℕ). core.takes b.frame.number k a.now.state from x.message) (sym made)
        ∙ ap (λ (z : Side _). core.takes b.frame.number b.made z.state from x.message) (sym now) ∙ unfit
        ))
    go (inr (inr (inl late))) = inr (inr (inl late))
    go (inr (inr (inr late))) = inr (inr (inr (subst (λ (z : Side _). 2 ^ 63 ≤ z.clock) now late)))

-- so it is of all
all_idle_back : (vs us : List CellView) → Pairs CellCame vs us → AreSound us → told us ≡ 0 → HeardNothing vs → AreIdle us → AreIdle vs
all_idle_back [] [] r sound none heard idle = tt
all_idle_back [] (u ∷ us) r sound none heard idle = absurd r
all_idle_back (v ∷ vs) [] r sound none heard idle = absurd r
all_idle_back (v ∷ vs) (u ∷ us) r sound none heard idle = (
  idle_back (core v.frame.plan) v u r.0 sound.0 (let empty = ap length heard.0 in omega (arith, none, empty))
      (subst (λ (f : Frame). IsIdle (core f.plan) u) r.0.frame idle.0),
  all_idle_back vs us r.1 sound.1 (omega (arith, none)) heard.1 idle.1,
)

-- the law
pub idle_done : (p : Plan) (n : ℕ) (w : World) (vs us : List CellView) → IsValid p → IdleCellsAreDone p n w vs us
idle_done p n w vs us valid = record {
  done = λ at settled few wide idle. done p n w vs valid at settled few wide idle;
  turns = λ at heard settled few wide came sound none idle. done p n w vs valid at settled few wide (all_idle_back vs us came sound none heard idle);
}
