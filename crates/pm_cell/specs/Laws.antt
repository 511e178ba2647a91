-- A cell comes from itself, and from what that came from; its story goes on. Stations owe these laws as values.
use Rattle.std.proofs.Common.{ℕ, ◌+◌, List, [], ◌∷◌, ◌++◌, length, refl, ap, sym, ◌∙◌, subst, append_assoc}
use Rattle.std.proofs.Common.{append-nil, length-append, Option}
use Rattle.std.proofs.Math.Nat.{add-zero, add_assoc}
use mathlib.Core.List.{IsPrefix}
use Rattle.pm_base.specs.declared.stamp.Line.{Line}
use Rattle.pm_ends.proofs.Lists.{begins_on, begins_same}
use Rattle.pm_history.specs.declared.histories.Heard.{Heard}
use Rattle.pm_cell.specs.Cells.{Came}
use Rattle.pm_cell.specs.Cores.{core}
use Rattle.pm_cell.specs.Machines.{Machine}
use Rattle.pm_cell.specs.Sides.{Replays, Side, after}
use Rattle.pm_cell.specs.Stands.{CellCame, CellView}
use Rattle.pm_cell.specs.Views.{Frame, View}

module _ {W S : Type 0} (core : Machine W S) where
  -- one story after another
  pub replays_append : (window : Option Line) (k : ℕ) (hs ks : List Heard) (s t u : Side S)
      → Replays core window k hs s t → Replays core window k ks t u
      → Replays core window k (hs ++ ks) s u
  replays_append window k [] ks s t u r q = subst (λ (z : Side S). Replays core window k ks z u) r q
  replays_append window k (h ∷ hs) ks s t u (x, e, l, r) q =
      (x, e, l, replays_append window k hs ks (after core k h.from x s) t u r q)

  -- a cell came from itself
  pub same : (a : View S) → Came core a a
  same a = record {
    frame = refl;
    window = refl;
    come = λ k. begins_same (a.now.received k ++ a.waiting k);
    sound = λ h. h;
    more = [];
    story = sym (append-nil a.story);
    made = λ _. sym (add-zero a.made);
    replays = λ _. refl;
  }

  -- and from what that came from
  pub on : (a b c : View S) → Came core a b → Came core b c → Came core a c
  on a b c p q = record {
    frame = q.frame ∙ p.frame;
    window = q.window ∙ p.window;
    come = λ k. begins_on (a.now.received k ++ a.waiting k) (b.now.received k ++ b.waiting k)
        (c.now.received k ++ c.waiting k) (p.come k) (q.come k);
    sound = λ h. p.sound (q.sound h);
    more = p.more ++ q.more;
    story = q.story ∙ ap (λ z. z ++ q.more) p.story ∙ append_assoc a.story p.more q.more;
    made = λ h. q.made h ∙ ap (λ (n : ℕ). n + length q.more) (p.made (q.sound h))
        ∙ add_assoc a.made (length p.more) (length q.more)
        ∙ ap (λ (n : ℕ). a.made + n) (sym (length-append p.more q.more));
    replays = λ h. replays_append a.window a.frame.number p.more q.more a.now b.now c.now (p.replays (q.sound h))
        (subst (λ (o : Option Line). Replays core o a.frame.number q.more b.now c.now) p.window
        (subst (λ (f : Frame). Replays core b.window f.number q.more b.now c.now) p.frame (q.replays h)));
  }

-- the same of cells
pub came_none : (a : CellView) → CellCame a a
came_none a = same (core a.frame.plan) a

pub came_next : (a b c : CellView) → CellCame a b → CellCame b c → CellCame a c
came_next a b c p q = on (core a.frame.plan) a b c p (subst (λ (f : Frame). Came (core f.plan) b c) p.frame q)

-- the story goes on
pub came_more : (a b : CellView) → CellCame a b → IsPrefix a.story b.story
came_more a b p = (p.more, sym p.story)
