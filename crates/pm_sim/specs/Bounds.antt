-- What is known at tree ports of one class, and that it holds the values that stand behind them.
use Rattle.pm_sim.specs.Routings.{stands_at}
use Rattle.pm_tables.specs.Tables.{known_at, no_value}
use Rattle.std.specs.Prelude.{ℕ, ◌<◌, ◌≡◌, ◌==◌, Bool, true, ◌&&◌, if◌then◌else◌, List, [], ◌∷◌, ◌++◌, length, Some}
use Rattle.std.specs.List.{flat_map}
use Rattle.pm_base.specs.Windows.{inside, point_of}
use Rattle.pm_base.specs.declared.rows.Parts.{Parts}
use Rattle.pm_base.specs.declared.stamp.Line.{Line}
use Rattle.pm_base.specs.declared.stamp.Stamp.{Stamp}
use Rattle.pm_base.specs.declared.value.Period.{Period}
use Rattle.pm_base.specs.declared.value.Value.{Value}
use Rattle.pm_base.specs.declared.value.Window.{Window}
use Rattle.pm_message.specs.declared.Message.{Message}
use Rattle.pm_message.specs.declared.Message.TheVariants as message
use Rattle.pm_periods.specs.Records.{record_value}
use Rattle.pm_plan.specs.declared.plan.Plan.{Plan}
use Rattle.pm_ranges.specs.Fits.{Fits}
use Rattle.pm_ranges.specs.Joins.{Row, Small}
use Rattle.pm_ranges.specs.Known.{Known, covers, grown}
use Rattle.pm_clp.specs.Clps.{ClpState, rec_at}
use Rattle.pm_tables.specs.Tables.{TableOk}
use Rattle.pm_sim.specs.Worlds.{Link, Posted, Process, clps_of, is_link, is_process, ports}
use Rattle.pm_sim.specs.Worlds.Process.{AtClp}
use Rattle.pm_sim.specs.Sims.{In, NotPast, class_at}
use Rattle.pm_sim.specs.Covers.{Door}

-- what is known, grown by these rows in order
abbrev pub grow_all : List Row → Known → Known
grow_all [] b = b
grow_all (r ∷ rs) b = grow_all rs (grown r.when r.window b)

-- the row of a record's period: the value alone, as long as it stands
abbrev pub row_of : Period → Row
row_of r = record { when = r.when; window = point_of r.value }

-- what a link holds, as one class sees it: a Grow of it, or a Move of a variable of it
pub data Item : Type 0 where
  Grows : Row → Item
  Moves : ℕ → Item

-- what is sent over a port at which b was told, when these rows are told in order; told is then grow_all rs b
abbrev pub tells : List Row → Known → List Item
tells [] b = []
tells (r ∷ rs) b = if covers b r.when r.window
    then tells rs (grown r.when r.window b) else Grows r ∷ tells rs (grown r.when r.window b)

-- one class's view of a world: told d c is what d told its neighbour c; bound d c is what d knows of c's side; link d c
-- is what is on the way from d to c, the oldest first; at v d is whether v's record is at d; val v is its value at each
-- stamp
pub record Net : Type 0 where
  pub told : ℕ → ℕ → Known
  pub bound : ℕ → ℕ → Known
  pub link : ℕ → ℕ → List Item
  pub at : ℕ → ℕ → Bool
  pub val : ℕ → Stamp → Value

-- all Grows lie in u at s
abbrev pub GrowsFit : Stamp → Window → List Item → Type 0
GrowsFit s u [] = Unit {0}
GrowsFit s u (Grows r ∷ m) = Small s u r × GrowsFit s u m
GrowsFit s u (Moves v ∷ m) = GrowsFit s u m

-- each moving value lies in u
abbrev pub Going : Window → (ℕ → Value) → List Item → Type 0
Going u f [] = Unit {0}
Going u f (Grows r ∷ m) = Going u f m
Going u f (Moves v ∷ m) = (inside (f v) u ≡ true) × Going u f m

-- each moving value lies in u if the Grows ahead of it do
abbrev pub Comes : Stamp → Window → (ℕ → Value) → List Item → Type 0
Comes s u f [] = Unit {0}
Comes s u f (Grows r ∷ m) = Small s u r → Comes s u f m
Comes s u f (Moves v ∷ m) = (inside (f v) u ≡ true) × Comes s u f m

-- at one stamp and for one window: what is told and known covers the values that stand behind it
pub record CoveredAt (port : ℕ → ℕ → Type 0) (s : Stamp) (u : Window) (n : Net) : Type 0 where
  -- what d told c is in c's bound of d, with what is on the way
  pub heard : (d c : ℕ) → port d c → Fits s u (n.bound c d) → GrowsFit s u (n.link d c) → Fits s u (n.told d c)
  -- d told of the records at d
  pub here : (d c v : ℕ) → port d c → n.at v d ≡ true → Fits s u (n.told d c) → inside (n.val v s) u ≡ true
  -- and of what it knows of its other neighbours' sides
  pub through : (d c e : ℕ) → port d c → port d e → (c ≡ e → ⊥) → Fits s u (n.told d c) → Fits s u (n.bound d e)
  -- a record on the way is in its sender's bound of the receiver
  pub going : (d c : ℕ) → port d c → Fits s u (n.bound d c) → Going u (λ v. n.val v s) (n.link d c)
  -- and in the receiver's bound of the sender, with the Grows ahead of it
  pub coming : (d c : ℕ) → port d c → Fits s u (n.bound c d) → Comes s u (λ v. n.val v s) (n.link d c)

-- communication process x takes the first items of the link from y, sends some, and changes what it told, its bounds
-- and its records
pub record Step (port : ℕ → ℕ → Type 0)
    (s : Stamp) (u : Window) (x y : ℕ) (took rest : List Item) (sent : ℕ → List Item) (old new : Net) : Type 0 where
  pub told_else : (d c : ℕ) → (d ≡ x → ⊥) → new.told d c ≡ old.told d c
  pub bound_else : (d c : ℕ) → (d ≡ x → ⊥) → new.bound d c ≡ old.bound d c
  pub not_self : y ≡ x → ⊥
  pub head : old.link y x ≡ took ++ rest
  pub behind : new.link y x ≡ rest
  pub link_else : (d c : ℕ) → (d ≡ x → ⊥) → ((d ≡ y) × (c ≡ x) → ⊥) → new.link d c ≡ old.link d c
  pub link_out : (c : ℕ) → new.link x c ≡ old.link x c ++ sent c
  pub at_else : (v d : ℕ) → (d ≡ x → ⊥) → new.at v d ≡ true → (old.at v d ≡ true) × (new.val v s ≡ old.val v s)
  pub val_moves : (d c v : ℕ) → In (Moves v) (old.link d c) → new.val v s ≡ old.val v s
  -- at x, where all below is said of the window u
  pub bound_up : (c : ℕ) → Fits s u (new.bound x c) → Fits s u (old.bound x c)
  pub taken : Fits s u (new.bound x y) → GrowsFit s u took
  pub heard : (c : ℕ) → port x c
      → Fits s u (old.bound c x) → GrowsFit s u (old.link x c) → GrowsFit s u (sent c) → Fits s u (new.told x c)
  pub here : (c v : ℕ) → port x c → new.at v x ≡ true → Fits s u (new.told x c) → inside (new.val v s) u ≡ true
  pub through : (c e : ℕ) → port x c → port x e → (c ≡ e → ⊥) → Fits s u (new.told x c) → Fits s u (new.bound x e)
  pub going : (c : ℕ) → port x c → Fits s u (new.bound x c) → Going u (λ v. new.val v s) (sent c)
  pub coming : (c : ℕ)
      → port x c → Fits s u (old.bound c x) → GrowsFit s u (old.link x c) → Comes s u (λ v. new.val v s) (sent c)

-- ---- the view of a world

-- what stands in the link to a process from a process
abbrev pub between : Process → Process → List Link → List Message
between to from [] = []
between to from (l ∷ ls) = if is_link to from l then l.messages else between to from ls

-- a message as class k sees it
abbrev pub item_of : Plan → ℕ → Message → List Item
item_of p k (message.Wake n s) = []
item_of p k (message.Ask n s q) = []
item_of p k (message.Put r_n r_t v r_c) = []
item_of p k (message.Cut r_n r_t v) = []
item_of p k (message.Give g) = []
item_of p k (message.Finish n s) = []
item_of p k (message.Move v s r) = if class_at p v == k then Moves v ∷ [] else []
item_of p k (message.Grow j s u w) =
    if j == k then Grows (record { when = record { from = Some s; until = u }; window = w }) ∷ [] else []

-- messages as class k sees them
abbrev pub items : Plan → ℕ → List Message → List Item
items p k ms = flat_map (item_of p k) ms

-- class k's view of the communication processes cs, their links and the records, wherever they are
abbrev pub net_of : Plan → ℕ → (ℕ → ClpState) → List Link → (ℕ → Parts) → Net
net_of p k cs ls recs = record {
  told = λ d c. known_at (ports p d) c k (cs d).told;
  bound = λ d c. known_at (ports p d) c k (cs d).bound;
  link = λ d c. items p k (between (AtClp c) (AtClp d) ls);
  at = λ v d. class_at p v == k && stands_at (rec_at (cs d).records v);
  val = λ v s. if class_at p v == k then record_value (recs v) s else no_value;
}

-- what is sent to communication process e
abbrev pub sent_to : ℕ → List Posted → List Message
sent_to e [] = []
sent_to e (x ∷ xs) = if is_process x.to (AtClp e) then x.message ∷ sent_to e xs else sent_to e xs

-- a table has a place for each port and class of a communication process
abbrev pub table_ok : Plan → ℕ → List (List Known) → Type 0
table_ok p c b = TableOk (length (ports p c)) (length p.layout.classes) b

-- bounds by port and class: the line inside a bound is at most the world's, and at each stamp from there on they cover
-- what stands behind them
pub record BoundsOk (p : Plan) (l : Line) (recs : ℕ → Parts) (cs : ℕ → ClpState) (ls : List Link) : Type 0 where
  pub told_table : (c : ℕ) → c < clps_of p → table_ok p c (cs c).told
  pub bound_table : (c : ℕ) → c < clps_of p → table_ok p c (cs c).bound
  pub told_line : (c d k : ℕ) (s : Stamp)
      → c < clps_of p → NotPast l s → NotPast (known_at (ports p c) d k (cs c).told).line s
  pub bound_line : (c d k : ℕ) (s : Stamp)
      → c < clps_of p → NotPast l s → NotPast (known_at (ports p c) d k (cs c).bound).line s
  pub covered : (k : ℕ) (s : Stamp) → NotPast l s → (u : Window) → CoveredAt (Door p) s u (net_of p k cs ls recs)
