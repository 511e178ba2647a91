-- What playing a list of events does: the events up to the first that isn't legal, and no more.
use Rattle.std.proofs.Common.{Bool, List, None, Some, [], ap, arith, cond, false, inl, inr, length, refl, suc, sym, true, ℕ, ◌&&◌, ◌++◌, ◌+◌, ◌∙◌, ◌∷◌, ◌≡◌}
use Rattle.pm_base.specs.declared.rows.Entry.{Entry}
use Rattle.pm_base.specs.declared.run.Event.{Event}
use Rattle.pm_plan.specs.declared.plan.Plan.{Plan}
use Rattle.pm_model.specs.Entries.{run_below}
use Rattle.pm_model.specs.Runs.{IsTimely, sequential_start}
use Rattle.pm_sim.proofs.Firsts.{PlanFits}
use Rattle.pm_sim.proofs.Shapes.{timely}
use Rattle.pm_sim.proofs.Wholes.{simulation}
use Rattle.pm_sim.specs.Played.{Played, PlayedUpTo, before, play, play_from}
use Rattle.pm_sim.specs.Worlds.{World, after_event, after_events, committed_from, first_world, hands, is_legal, is_legal_run}

pub play_law : (p : Plan) (w : World) (i : ℕ) (es : List Event) → PlayedUpTo p w i es (play_from p w i es)
play_law p w i [] =
    record { done = []; rest = []; parts = refl; legal = refl; world = refl; entries = refl; stops = inl (refl, refl) }
play_law p w i (e ∷ es) = (let again = play_law p (after_event p w e) (suc i) es in by (is_legal p w e) refl again)
  where
    r : Played
    r = play_from p (after_event p w e) (suc i) es

    by : (c : Bool) → is_legal p w e ≡ c → PlayedUpTo p (after_event p w e) (suc i) es r → PlayedUpTo
        p w i (e ∷ es) (cond c (before (hands w e) r) (record { world = w; entries = []; stopped = Some i }))
    by true f h = record {
      done = e ∷ h.done;
      rest = h.rest;
      parts = ap (λ z. e ∷ z) h.parts;
      legal = (let g = h.legal in rw (f, g) refl);
      world = h.world;
      entries = ap (λ z. hands w e ++ z) h.entries;
      stops = elim h.stops [
        | inl g ↦ inl g
        | inr g ↦ inr (g.0, g.1, g.2, g.3, g.4 ∙ ap Some (omega arith))
      ];
    }
    by false f h = record {
      done = [];
      rest = e ∷ es;
      parts =
          refl;
      legal = refl;
      world = refl;
      entries = refl;
      stops = inr (e, es, refl, f, ap Some (omega arith));
    }

legal_parts : (p : Plan) (w : World) (xs : List Event) (e : Event) (ys : List Event)
    → is_legal_run p w xs ≡ true → is_legal p (after_events p w xs) e ≡ false → is_legal_run p w (xs ++ e ∷ ys) ≡ false
legal_parts p w [] e ys l f = rw f refl
legal_parts p w (x ∷ xs) e ys l f = (let q = parts (is_legal p w x) (is_legal_run p (after_event p w x) xs) l in
    let again = legal_parts p (after_event p w x) xs e ys q.1 f in let g = q.0 in rw (g, again) refl)
  where
    parts : (a c : Bool) → (a && c) ≡ true → (a ≡ true) × (c ≡ true)
    parts true c h = (refl, h)
    parts false c h = absurd (cc)

-- all were done exactly where the list is legal
pub play_legal : (p : Plan) (w : World) (es : List Event) → is_legal_run p w es ≡ true
    → play p w es ≡ record { world = after_events p w es; entries = committed_from p w es; stopped = None }
play_legal p w es l = go (play_law p w 0 es)
  where
    played : (r : Played) (x : World) (y : List Entry)
        → r.world ≡ x → r.entries ≡ y → r.stopped ≡ None → r ≡ record { world = x; entries = y; stopped = None }
    played r x y f g h = λ j. record { world = f j; entries = g j; stopped = h j }

    go : PlayedUpTo p w 0 es (play p w es)
        → play p w es ≡ record { world = after_events p w es; entries = committed_from p w es; stopped = None }
    go h = elim h.stops [
      | inl g ↦ (let e : es ≡ h.done = h.parts ∙ (ap (λ z. h.done ++ z) g.1 ∙ nil h.done) in
          played (play p w es) (after_events p w es) (committed_from p w es)
          (h.world ∙ ap (after_events p w) (sym e)) (h.entries ∙ ap (committed_from p w) (sym e)) g.0)
      | inr g ↦ absurd (let k = legal_parts p w h.done g.0 g.1 h.legal g.3 in
          let m : is_legal_run p w es ≡ false = ap (is_legal_run p w) (h.parts ∙ ap (λ z. h.done ++ z) g.2) ∙ k in cc)
    ]
      where
        nil : (xs : List Event) → xs ++ [] ≡ xs
        nil [] = refl
        nil (x ∷ xs) = ap (λ z. x ∷ z) (nil xs)

pub play_none : (p : Plan) (w : World) (es : List Event) → (play p w es).stopped ≡ None → is_legal_run p w es ≡ true
play_none p w es n = go (play_law p w 0 es)
  where
    go : PlayedUpTo p w 0 es (play p w es) → is_legal_run p w es ≡ true
    go h = elim h.stops [
      | inl g ↦ (let e : es ≡ h.done =
          h.parts ∙ (ap (λ z. h.done ++ z) g.1 ∙ nil h.done) in ap (is_legal_run p w) e ∙ h.legal)
      | inr g ↦ absurd (let m : None ≡ Some (0 + length h.done) = sym n ∙ g.4 in cc)
    ]
      where
        nil : (xs : List Event) → xs ++ [] ≡ xs
        nil [] = refl
        nil (x ∷ xs) = ap (λ z. x ∷ z) (nil xs)

-- what is played from the first world hands out the sequential run below the line
pub play_sequential : (p : Plan) → PlanFits p → IsTimely p (sequential_start p)
    → (es : List Event) → (play p (first_world p) es).entries ≡ run_below p (play p (first_world p) es).world.line
play_sequential p fit timely es = (let h = play_law p (first_world p) 0 es in
    h.entries ∙ (simulation p fit timely h.done h.legal ∙ ap (λ (z : World). run_below p z.line) (sym h.world)))
