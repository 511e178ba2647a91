-- What the calls on kept steps say, as what an agent does.
use Rattle.std.proofs.Common.{◌≡◌, refl, sym, ap, ◌∙◌, subst, ℕ, ◌+◌, ◌-◌, ◌<◌, ◌≤◌, ◌==◌, ◌^◌, nat_le, Bool}
use Rattle.std.proofs.Common.{true, false, if◌then◌else◌, ℤ, List, [], ◌∷◌, ◌++◌, drop, length, Option, Some, None, IfSome, arith}
use Rattle.std.proofs.Common.{append-nil, append_assoc}
use Rattle.std.proofs.lemmas.Bool.Decides.{nat_tests}
use Rattle.pm_base.specs.declared.rows.Act.{Act}
use Rattle.pm_base.specs.declared.stamp.Num.{Num}
use Rattle.pm_base.specs.declared.stamp.Stamp.{Stamp}
use Rattle.pm_base.specs.declared.value.Hit.{Hit}
use Rattle.pm_base.specs.declared.value.Query.{Query}
use Rattle.pm_message.specs.declared.Message.{Message}
use Rattle.pm_message.specs.declared.Message.TheVariants as message
use Rattle.pm_model.specs.Runs.{later}
use Rattle.pm_step.specs.declared.Next.{Next}
use Rattle.pm_step.specs.declared.Next.TheVariants as next
use Rattle.pm_saved.specs.Senses.{answers}
use Rattle.pm_saved.specs.Spots.{AtSpot, Spot, spot_at}
use Rattle.pm_saved.specs.Steps.{AtLast, Kept, cut_to, opened, regs_after, with_act, with_asked, with_sense, with_step}
use Rattle.pm_saved.specs.declared.kept.KeptAct.{KeptAct}
use Rattle.pm_saved.specs.declared.kept.KeptSense.{KeptSense}
use Rattle.pm_saved.specs.declared.kept.KeptStep.{KeptStep}
use Rattle.pm_saved.specs.declared.spot.Spot.{Spot as Place}
use Rattle.pm_alp.specs.Agents.{Actor, Sends, act_of, act_sends, asking, first_sends, go_on, kept_in, next_seq}
use Rattle.pm_alp.specs.Agents.{next_wake, no_sends, nums_of, puts_of, wake_of, went_on}
use Rattle.pm_alp.specs.States.{AreTimely, AreTold, HasMoved, IsReady, agent_of, asked, awaited_at, sensed}
use Rattle.pm_alp.specs.States.{told_before, written_at}
use Rattle.pm_alp.specs.declared.agent.Agent.{Agent}
use Rattle.pm_alp.specs.declared.agent.Awaited.{Awaited}
use Rattle.pm_alp.specs.declared.state.State.{State}
use Rattle.pm_alp.proofs.Places.{spot-steps, spot-written, timely-append, timely-as, timely-last-as}
use Rattle.pm_alp.proofs.Told.{filled-told, told-back, told-filled, told-first, told-more, told-none}

-- a state, by its parts
abbrev pub state : Kept → List (List Hit) → Option Awaited → ℕ → State
state k t w n = record { saved = k; told = t; awaited = w; seq = n }

-- its agent, by its parts
abbrev agent : Kept → Option Awaited → ℕ → Agent
agent k w n = agent_of (state k [] w n)

-- the state with these kept steps, and these answers beside them
abbrev pub keeping : State → Kept → List (List Hit) → State
keeping s k t = record s { saved = k; told = t }

-- nothing happened
pub stayed : (s : State) (out : List Message) (n : ℕ) → IsReady s → HasMoved n (no_sends (agent_of s)) s s out out
stayed s out n h = record { agent = refl; sent = sym (append-nil out); few = omega arith; ready = h }

-- the same move, said otherwise
pub moved-as : (n m : ℕ) (r q : Sends) (old new : State) (out out' : List Message) → n ≤ m → r ≡ q
    → HasMoved n r old new out out' → HasMoved m q old new out out'
moved-as n m r q old new out out' le e h = record {
  agent = h.agent ∙ ap (λ (z : Sends). z.agent) e;
  sent = h.sent ∙ ap (λ (z : Sends). out ++ z.sent) e;
  few = (let few = h.few in omega (arith, le, few));
  ready = h.ready;
}

-- the last step asked
pub asks : (n : ℕ) (s : Stamp) (q : Query) (old : State) (kept : Kept) (out out' : List Message)
    (front : List KeptStep) (last : KeptStep) → IsReady old
    → old.saved.steps ≡ front ++ last ∷ [] → kept ≡ with_asked front last (asking n old.seq q) old.saved
    → out' ≡ out ++ message.Ask (record { agent = n; seq = old.seq }) s q ∷ []
    → HasMoved 1 (asked n s q front last (agent_of old)) old (state kept old.told None (old.seq + 1)) out out'
asks n s q old kept out out' front last h e k o = record {
  agent = ap (λ z. agent z None (old.seq + 1)) k;
  sent = o;
  few = omega arith;
  ready = record {
    timely = subst (λ (z : Kept). AreTimely z.steps) (sym k)
        (timely-last-as front [] last (record last { senses = last.senses ++ asking n old.seq q ∷ [] }) refl
        (subst AreTimely e h.timely));
    soon = tt;
    fresh = (let used : kept.used ≡ old.seq + 1 = ap (λ (z : Kept). z.used) k in omega (arith, used));
    told = subst (λ (z : Kept). AreTold z.steps old.told) (sym k)
        (told-more front last (record last { senses = last.senses ++ asking n old.seq q ∷ [] })
        (asking n old.seq q ∷ []) old.told refl (subst (λ (z : List KeptStep). AreTold z old.told) e h.told));
  };
}

wake_is : (b : Bool) (a : ℕ) (s : Stamp) (n : ℕ) (d : Act)
    → ◌≡◌ {A = Option Awaited} (if b then Some
    (record {
      num = record { agent = a; seq = n + length d.writes };
      stamp = record {
        time = later s.time
            d.wait;
        agent = a;
      };
    }) else None) (next_wake b a s n d)
wake_is true a s n d = refl
wake_is false a s n d = refl

soon_wake : (b : Bool) (a : ℕ) (s : Stamp) (n : ℕ) (d : Act) → (b ≡ true → later s.time d.wait < 2 ^ 63)
    → IfSome (next_wake b a s n d) (λ (w : Awaited). w.stamp.time < 2 ^ 63)
soon_wake true a s n d h = h refl
soon_wake false a s n d h = tt

pub seq-low : (b : Bool) (n : ℕ) → n ≤ next_seq b n
seq-low true n = omega arith
seq-low false n = omega arith

seq_high : (b : Bool) (n : ℕ) → next_seq b n ≤ n + 1
seq_high true n = omega arith
seq_high false n = omega arith

-- the last step acted
pub acts : (many : ℕ) (a horizon : ℕ) (d : Act) (answer : List (List Hit)) (nums : List Num) (old : State)
    (kept : Kept) (told : List (List Hit)) (wake : Option Awaited) (seq : ℕ) (out mid out' : List Message)
    (front : List KeptStep) (last : KeptStep) (stamp : Stamp) (time : ℕ) → length d.writes ≤ many → told ≡ []
    → horizon < 2 ^ 63 → IsReady old → old.saved.steps ≡ front ++ last ∷ [] → answer ≡ answers last.senses
    → stamp ≡ last.stamp → time ≡ later stamp.time d.wait → nums ≡ nums_of a old.seq d.writes
    → kept ≡ with_act front last (record {
      entry = record {
        stamp = last.stamp;
        answers = answer;
        writes = d.writes;
      };
      nums = nums;
      regs = d.regs;
      wait = d.wait;
    }) old.saved
    → mid ≡ out ++ puts_of a stamp old.seq d.writes → wake ≡ awaited_at a horizon (old.seq + length d.writes) time
    → seq ≡ next_seq (nat_le time horizon) (old.seq + length d.writes)
    → out' ≡ mid ++ wake_of wake
    → HasMoved (many + 1) (act_sends a old.saved.base front last.stamp last.senses old.seq d (nat_le
    (later last.stamp.time d.wait) horizon)) old (state kept told wake seq) out out'
acts many a horizon d answer nums old kept told wake seq out mid out' front last stamp time le bare low h e ea es et en ek em
    ew eq eo =
    let b : Bool = nat_le (later last.stamp.time d.wait) horizon in
    let at : time ≡ later last.stamp.time d.wait = et ∙ ap (λ (s : Stamp). later s.time d.wait) es in
    let the_wake : wake ≡ next_wake b a last.stamp old.seq d = ew
    ∙ (ap (awaited_at a horizon (old.seq + length d.writes)) at ∙ wake_is b a last.stamp old.seq d) in
    let the_seq : seq ≡ next_seq b (old.seq + length d.writes) = eq
    ∙ ap (λ t. next_seq (nat_le t horizon) (old.seq + length d.writes)) at in
    let end : List (List Hit) → List Num → KeptAct =
    λ xs ns. record {
      entry = record { stamp = last.stamp; answers = xs; writes = d.writes };
      nums = ns;
      regs =
          d.regs;
      wait = d.wait;
    } in
    let the_kept : kept ≡ with_act front last (act_of a last.stamp last.senses old.seq d) old.saved =
    ek ∙ (ap (λ xs. with_act front last (end xs nums) old.saved) ea
    ∙ ap (λ ns. with_act front last (end (answers last.senses) ns) old.saved) en) in
    let the_out : out' ≡ out ++ (puts_of a last.stamp old.seq d.writes ++ wake_of
    (next_wake b a last.stamp old.seq d)) =
    eo ∙ (ap (λ z. z ++ wake_of wake) (em ∙ ap (λ s. out ++ puts_of a s old.seq d.writes) es)
    ∙ (ap (λ w. (out ++ puts_of a last.stamp old.seq d.writes) ++ wake_of w) the_wake
    ∙ append_assoc out (puts_of a last.stamp old.seq d.writes) (wake_of (next_wake b a last.stamp old.seq d)))) in
    let soon : b ≡ true → later last.stamp.time d.wait < 2 ^ 63 = λ t. grind (arith, nat_tests, low, t) in
    let high : next_seq b (old.seq + length d.writes) ≤ old.seq + length d.writes + 1 = seq_high b
    (old.seq + length d.writes) in
    let less : old.seq + length d.writes ≤ next_seq b (old.seq + length d.writes) = seq-low b
    (old.seq + length d.writes) in
    let used : kept.used ≡ old.saved.used = ap (λ (z : Kept). z.used) the_kept in
    let fresh : old.saved.used ≤ old.seq = h.fresh in
    record {
      agent = ap (λ z. agent z wake seq) the_kept
          ∙ (ap (λ w. agent (with_act front last (act_of a last.stamp last.senses old.seq d) old.saved) w seq) the_wake
          ∙ ap (λ n. agent (with_act front last (act_of a last.stamp last.senses old.seq d) old.saved)
          (next_wake b a last.stamp old.seq d) n) the_seq);
      sent = the_out;
      few = omega (arith, the_seq, high, le);
      ready = record {
        timely = subst (λ (z : Kept). AreTimely z.steps) (sym the_kept)
            (timely-last-as front [] last (record last {
              act = Some
                  (act_of a last.stamp last.senses old.seq d);
            }) refl (subst AreTimely e h.timely));
        soon = subst (λ (w : Option Awaited). IfSome w (λ (x : Awaited). x.stamp.time < 2 ^ 63)) (sym the_wake)
            (soon_wake b a last.stamp old.seq d soon);
        fresh = omega (arith, used, fresh, less, the_seq);
        told = subst (AreTold kept.steps) (sym bare) (told-none kept.steps);
      };
    }

-- what comes next, at the same stamp, registers and answers
pub next-is : (f : Stamp → List ℤ → List (List Hit)
    → Next) (s t : Stamp) (r q : List ℤ) (a b : List (List Hit)) (n m : Next) → s ≡ t → r ≡ q → a ≡ b
    → n ≡ f s r a → n ≡ m → f t q b ≡ m
next-is f s t r q a b n m es er ea e g =
    sym (ap (λ x. f x r a) es ∙ (ap (λ x. f t x a) er ∙ ap (λ x. f t q x) ea)) ∙ (sym e ∙ g)

-- what the rule says comes next is to ask
pub went-ask : (p : Actor) (s : Stamp) (q : Query) (front : List KeptStep) (last : KeptStep) (a : Agent)
    → last.act ≡ None → s ≡ last.stamp
    → p.acts last.stamp (regs_after a.base front) (answers last.senses) ≡ next.Ask q
    → asked p.agent s q front last a ≡ go_on p a.base front last.stamp last.senses a.seq
went-ask p s q front last a n es e =
    ap (λ (z : Stamp). asked p.agent z q front last a) es
    ∙ (ap (λ (z : Option KeptAct). ◌∷◌-sends z) n ∙ sym (ap (went_on p a.base front last.stamp last.senses a.seq) e))
  where
    ◌∷◌-sends : Option KeptAct → Sends
    ◌∷◌-sends z = asked p.agent last.stamp q front (record last { act = z }) a

-- what it says comes next is to act
pub went-act : (p : Actor) (d : Act) (front : List KeptStep) (last : KeptStep) (a : Agent)
    → p.acts last.stamp (regs_after a.base front) (answers last.senses) ≡ next.Act d
    → act_sends p.agent a.base front last.stamp last.senses a.seq d (nat_le
    (later last.stamp.time d.wait) p.horizon) ≡ go_on p a.base front last.stamp last.senses a.seq
went-act p d front last a e = sym (ap (went_on p a.base front last.stamp last.senses a.seq) e)

-- ready with another sense in a place
pub ready-written : (s : State) (kept : Kept) (told : List (List Hit)) (at : Place) (p : Spot) (x : KeptSense)
    → IsReady s → spot_at at s.saved.steps ≡ Some p → kept ≡ with_sense p x s.saved
    → AreTold (p.front ++ sensed p x ∷ p.rest) told → IsReady (keeping s kept told)
ready-written s kept told at p x h e k t = record {
  timely = subst (λ (z : Kept). AreTimely z.steps) (sym k)
      (timely-as p.front p.rest p.here (sensed p x) refl (subst AreTimely (spot-steps at s.saved.steps p e) h.timely));
  soon = h.soon;
  fresh = (let used : kept.used ≡ s.saved.used = ap (λ
      (z : Kept). z.used) k in let fresh : s.saved.used ≤ s.seq = h.fresh in omega (arith, used, fresh));
  told = subst (λ (z : Kept). AreTold z.steps told) (sym k) t;
}

-- what is kept up to a place, with this sense in it
abbrev pub back_at : Spot → KeptSense → Kept → Kept
back_at p x k = cut_to (written_at p x) (with_sense p x k)

-- the sense of a place changed, and then all that came after it was dropped
pub cut-back : (at : Place) (p : Spot) (x : KeptSense) (k one two : Kept) → spot_at at k.steps ≡ Some p
    → one ≡ with_sense p x k → AtSpot one.steps at (λ q. two ≡ cut_to q one) → two ≡ back_at p x k
cut-back at p x k one two e f g =
    let there : spot_at at one.steps ≡ Some (written_at p x) = ap (λ (z : Kept). spot_at at z.steps) f
    ∙ spot-written at k.steps p x e in
    g (written_at p x) there ∙ ap (cut_to (written_at p x)) f

-- ready after a rollback
pub ready-back : (s : State) (kept : Kept) (told : List (List Hit)) (at : Place) (p : Spot) (x : KeptSense)
    → IsReady s → spot_at at s.saved.steps ≡ Some p → kept ≡ back_at p x s.saved
    → told ≡ told_before (at.step == length s.saved.steps - 1) at.sense s.told → IsReady (keeping s kept told)
ready-back s kept told at p x h e k t = record {
  timely = subst (λ (z : Kept). AreTimely z.steps) (sym k)
      (timely-last-as p.front p.rest p.here (record p.here { senses = p.before ++ x ∷ []; act = None }) refl
      (subst AreTimely (spot-steps at s.saved.steps p e) h.timely));
  soon = h.soon;
  fresh = (let used : kept.used ≡ s.saved.used = ap (λ
      (z : Kept). z.used) k in let fresh : s.saved.used ≤ s.seq = h.fresh in omega (arith, used, fresh));
  told = subst (λ (z : Kept). AreTold z.steps told) (sym k)
      (told-back p x told (told-first s.saved.steps at p s.told told h.told e t));
}

-- ready after a step began
pub ready-begun : (s : State) (kept : Kept) (told : List (List Hit)) (w : Awaited) → IsReady s → s.awaited ≡ Some w
    → kept ≡ with_step (opened w.stamp) s.saved → told ≡ [] → IsReady (keeping s kept told)
ready-begun s kept told w h e k t = record {
  timely = subst (λ (z : Kept). AreTimely z.steps) (sym k)
      (timely-append s.saved.steps (opened w.stamp ∷ []) h.timely (
        subst (λ (o : Option Awaited). IfSome o (λ
            (x : Awaited). x.stamp.time < 2 ^ 63)) e h.soon,
        tt,
      ));
  soon = h.soon;
  fresh = (let used : kept.used ≡ s.saved.used = ap (λ
      (z : Kept). z.used) k in let fresh : s.saved.used ≤ s.seq = h.fresh in omega (arith, used, fresh));
  told = subst (AreTold kept.steps) (sym t) (told-none kept.steps);
}

-- ready with all answers of the last step
pub ready-told : (s : State) (told : List (List Hit)) → IsReady s
    → AtLast s.saved.steps (λ front last. told ≡ s.told ++ drop (length s.told) (answers last.senses))
    → IsReady (record s { told = told })
ready-told s told h e = record {
  timely = h.timely;
  soon = h.soon;
  fresh = h.fresh;
  told = filled-told s.saved.steps told (told-filled s.saved.steps s.told told h.told e);
}

-- a sense in a place, and nothing more
pub moved-kept : (s : State) (kept : Kept) (told : List (List Hit)) (at : Place) (p : Spot) (x : KeptSense)
    (out : List Message) (n : ℕ)
    → IsReady s → spot_at at s.saved.steps ≡ Some p → kept ≡ with_sense p x s.saved
    → AreTold (p.front ++ sensed p x ∷ p.rest) told
    → HasMoved n (no_sends (kept_in (agent_of s) p x)) s (keeping s kept told) out out
moved-kept s kept told at p x out n h e k t = record {
  agent = ap (λ z. agent z s.awaited s.seq) k;
  sent = sym (append-nil out);
  few = omega arith;
  ready = ready-written s kept told at p x h e k t;
}

-- messages were sent before a move
pub moved-after : (n : ℕ) (r : Sends) (s new : State) (kept : Kept) (told : List (List Hit))
    (first out mid out' : List Message) → mid ≡ out ++ first → HasMoved n r (keeping s kept told) new mid out'
    → HasMoved n (first_sends first r) s new out out'
moved-after n r s new kept told first out mid out' e h = record {
  agent = h.agent;
  sent = h.sent ∙ (ap (λ z. z ++ r.sent) e ∙ append_assoc out first r.sent);
  few = h.few;
  ready = h.ready;
}

-- a move from a state whose kept steps changed first
pub moved-from : (n : ℕ) (r q : Sends) (s new : State) (kept : Kept) (told : List (List Hit))
    (out out' : List Message) → r ≡ q → HasMoved n r (keeping s kept told) new out out' → HasMoved n q s new out out'
moved-from n r q s new kept told out out' e h = record {
  agent = h.agent ∙ ap (λ (z : Sends). z.agent) e;
  sent = h.sent ∙ ap (λ (z : Sends). out ++ z.sent) e;
  few = h.few;
  ready = h.ready;
}

-- going on from a place, with its sense complete
pub resumed : (n : ℕ) (p : Actor) (s new : State) (two : Kept) (told : List (List Hit)) (at : Spot) (x : KeptSense)
    (out out' : List Message) → two ≡ back_at at x s.saved
    → AtLast two.steps (λ front last. last.act ≡ None
    → HasMoved n (go_on p two.base front last.stamp last.senses s.seq) (keeping s two told) new out out')
    → HasMoved n (go_on p s.saved.base at.front at.here.stamp (at.before ++ x ∷ []) s.seq) s new out out'
resumed n p s new two told at x out out' e h =
    moved-from n _ _ s new two told out out' (ap (λ (z : Kept). go_on p z.base at.front at.here.stamp
    (at.before ++ x ∷ []) s.seq) e)
    (h at.front (record at.here { senses = at.before ++ x ∷ []; act = None }) (ap (λ (z : Kept). z.steps) e) refl)
