-- What a turn makes of a cell, as contracts see it.
use Rattle.std.proofs.Common.{◌≡◌, ℕ, suc, ◌≤◌, ◌^◌, ◌⊎◌, inl, inr, Bool, true, false, cond, ◌==◌, ◌&&◌, not, List}
use Rattle.std.proofs.Common.{[], ◌∷◌, ◌++◌, map, refl, arith, ap, sym, ◌∙◌, subst, append_assoc, append-nil, Some}
use Rattle.std.specs.Prelude.{nat_lt}
use Rattle.std.proofs.lemmas.Bool.{false≢true}
use Rattle.std.proofs.lemmas.Bool.Decides.{nat_tests}
use Rattle.pm_ends.proofs.Laws.{grew_received, grew_waiting}
use Rattle.pm_ends.proofs.Lists.{begins_on, pairs_map}
use Rattle.pm_ends.specs.Ends.{AllGrew, Grew, Inn, Took, first_of, post_stamp, received_in, waiting_in}
use Rattle.pm_ends.specs.Numbers.{Begins, nth}
use Rattle.pm_ends.specs.declared.post.Post.{Post}
use Rattle.pm_cell.specs.Cells.{Came, IsBlocked, Turned}
use Rattle.pm_cell.specs.Cores.{core, sent_over}
use Rattle.pm_cell.specs.Helds.{Held, in_wire, made_of, state_of, view_of}
use Rattle.pm_cell.specs.Machines.{Machine}
use Rattle.pm_cell.specs.Sides.{Side, raised, stamped}
use Rattle.pm_cell.specs.Stands.{CellCame, CellIsIdle, CellTurned, CellView}
use Rattle.pm_cell.specs.Turns.{ChoseNext, HeardIt, HeardSoonest, StaysAt, TookFrom, is_ready, stamp_at, stamp_end}
use Rattle.pm_cell.specs.Turns.{stamp_first}
use Rattle.pm_cell.specs.Views.{View}
use Rattle.std.proofs.Common.{None}
use Rattle.pm_cell.proofs.Choices.{not_stamped}
use Rattle.pm_cell.proofs.Lists.{same_or}
use Rattle.pm_cell.proofs.Sides.{begins_behind}

-- what came to each end goes on
pub come_on : (from : ℕ) (x : Post) (r w s v : ℕ → List Post)
    → ((b : ℕ) → s b ≡ cond (b == from) (r b ++ x ∷ []) (r b)) → Begins (w from) (x ∷ v from)
    → ((b : ℕ) → (b ≡ from → ⊥) → Begins (w b) (v b)) → (k : ℕ) → Begins (r k ++ w k) (s k ++ v k)
come_on from x r w s v got first others k = elim (same_or k from) [
  | inl is ↦
      let here : s k ≡ r k ++ x ∷ [] = got k ∙ ap (λ (c : Bool). cond c (r k ++ x ∷ []) (r k)) is.1 in
      let one : Begins (w k) (x ∷ v k) = subst (λ (j : ℕ). Begins (w j) (x ∷ v j)) (sym is.0) first in
      let whole = begins_behind (r k) (w k) (x ∷ v k) one in
      (whole.0, ap (λ z. z ++ v k) here ∙ append_assoc (r k) (x ∷ []) (v k) ∙ whole.1)
  | inr other ↦
      let there : s k ≡ r k = got k ∙ ap (λ (c : Bool). cond c (r k ++ x ∷ []) (r k)) other.1 in
      let whole = begins_behind (r k) (w k) (v k) (others k other.0) in
      (whole.0, ap (λ z. z ++ v k) there ∙ whole.1)
]

-- a cell that heard a message came from what it was
pub turned_came : {W S : Type 0} (core : Machine W S) (a b : View S) → Turned core a b → Came core a b
turned_came {S = S} core a b t = record {
  frame = t.frame;
  window = t.window;
  come = come_on t.from t.post a.now.received a.waiting b.now.received b.waiting
      (λ k. ap (λ (s : Side S). s.received k) t.now) t.first t.others;
  sound = λ h. t.sound.0;
  more = record { clock = b.now.clock; from = t.from } ∷ [];
  story = t.story;
  made = λ h. t.made;
  replays = λ h. (t.post, ap (λ (s : Side S). s.clock) t.now, t.through, t.now);
}

-- an item was taken from ends to which more had come
pub took_on : (from : ℕ) (x : Post) (xs ys zs : List Inn) → AllGrew xs ys → TookFrom from x ys zs
    → TookFrom from x xs zs
took_on from x xs ys zs g t = record {
  received = λ b. t.received b ∙ ap (λ (l : List Post). cond (b == from) (l ++ x ∷ []) l) (grew_received xs ys g b);
  first = begins_on (waiting_in xs from) (waiting_in ys from) (x ∷ waiting_in zs from)
      (grew_waiting xs ys g from) t.first;
  others = λ b ne. begins_on (waiting_in xs b) (waiting_in ys b) (waiting_in zs b) (grew_waiting xs ys g b)
      (t.others b ne);
  wires = t.wires ∙ pairs_map Grew in_wire (λ x y s i. record { from = s.from i; slot = s.slot i; link = s.link i }) xs
      ys g;
}

-- the item that was chosen was taken from the ends as they were
pub chosen_from : (a : Held) (from : ℕ) (x : Post) (zs : List Inn) → ChoseNext from x a zs → TookFrom from x a.inns zs
chosen_from a from x zs c = took_on from x a.inns c.known zs c.grew c.took.item

-- an item that may be delivered is let through
through : (a b h t : Bool) → ((a && b) && (not h && t)) ≡ true → h ≡ false
through true true true t e = sym e
through true true false t e = refl
through true false h t e = absurd (false≢true e)
through false b h t e = absurd (false≢true e)

-- a cell whose ends are zs heard an item that was taken
module _ (a : Held) (from : ℕ) (x : Post) (zs : List Inn) (d : Held) (took : TookFrom from x a.inns zs)
    (stays : StaysAt (record a { inns = zs }) d) where
  frame : (view_of d).frame ≡ (view_of a).frame
  frame i = record {
    plan = stays.plan i;
    number = stays.number i;
    inns =
        (ap (map in_wire) stays.inns ∙ took.wires) i;
    outs = stays.outs i;
  }

  received : (b : ℕ) → received_in d.inns b ≡ cond (b == from) (received_in a.inns b ++ x ∷ []) (received_in a.inns b)
  received b = ap (λ (l : List Inn). received_in l b) stays.inns ∙ took.received b

  first : Begins (waiting_in a.inns from) (x ∷ waiting_in d.inns from)
  first = subst (λ (l : List Inn). Begins (waiting_in a.inns from) (x ∷ waiting_in l from)) (sym stays.inns) took.first

  others : (b : ℕ) → (b ≡ from → ⊥) → Begins (waiting_in a.inns b) (waiting_in d.inns b)
  others b ne = subst (λ (l : List Inn). Begins (waiting_in a.inns b) (waiting_in l b)) (sym stays.inns)
      (took.others b ne)

  pub heard_turned : a.spoilt ≡ false → is_ready (view_of a) from x ≡ true → HeardIt from x (record a { inns = zs }) d
      → CellTurned (view_of a) (view_of d)
  heard_turned sound ready heard =
      let sent : (t : ℕ) → (view_of d).now.sent t ≡ (view_of a).now.sent t ++ map (stamped (raised x.clock a.clock))
      (sent_over a.plan a.number (state_of a.process) from x.message t) =
      λ t. heard.sent t ∙ ap (λ (c : ℕ). (view_of a).now.sent t
      ++ map (stamped c) (sent_over a.plan a.number (state_of a.process) from x.message t)) heard.clock in
      record {
        from = from;
        post = x;
        through = through (nat_lt x.clock (2 ^ 63)) (nat_lt a.clock (2 ^ 63))
            ((core a.plan).holds a.window a.number (state_of a.process) x.message)
            ((core a.plan).takes a.number (made_of a.process) (state_of a.process) from x.message) ready;
        now = λ i. record {
          state = heard.state i;
          clock = heard.clock i;
          sent = λ t. sent t i;
          received =
              λ b. received b i;
        };
        story = heard.story;
        made = heard.made;
        frame = frame;
        window = stays.window;
        sound = (sound, heard.spoilt);
        first = first;
        others = others;
      }

  module _ (chosen : ChoseNext from x a zs) where
    there : (t : Took chosen.at x chosen.known d.inns) × (t.was.from ≡ from)
    there = subst (λ (l : List Inn). (t : Took chosen.at x chosen.known l) × (t.was.from ≡ from)) (sym stays.inns)
        (chosen.took.took, chosen.took.sender)

    -- of what was known it heard the soonest
    pub heard_soonest : HeardIt from x (record a { inns = zs }) d → HeardSoonest a d
    heard_soonest heard = record {
      known = chosen.known;
      grew = chosen.grew;
      at = chosen.at;
      next = chosen.next;
      post = x;
      took = there.0;
      story = heard.story ∙ ap (λ (n : ℕ). a.story ++ record { clock = d.clock; from = n } ∷ []) (sym there.1);
    }

  -- there was no memory for it
  pub lost_came : d.spoilt ≡ true → d.story ≡ a.story → CellCame (view_of a) (view_of d)
  lost_came spoilt story = record {
    frame = frame;
    window = stays.window;
    come = come_on from x (received_in a.inns) (waiting_in a.inns) (received_in d.inns)
        (waiting_in d.inns) received first others;
    sound = λ h. absurd (false≢true (sym h ∙ spoilt));
    more = [];
    story = story ∙ sym (append-nil a.story);
    made = λ h. absurd (false≢true (sym h ∙ spoilt));
    replays = λ h. absurd (false≢true (sym h ∙ spoilt));
  }

-- what waits from a process waits at an end
record Found (xs : List Inn) (b : ℕ) (l : List Post) : Type 0 where
  at : ℕ
  inn : Inn
  there : nth xs at ≡ Some inn
  from : inn.from ≡ b
  waits : inn.waiting ≡ l

waiting_found : (xs : List Inn) (b : ℕ) (x : Post) (l : List Post) → waiting_in xs b ≡ x ∷ l → Found xs b (x ∷ l)
waiting_found [] b x l e = absurd (cc)
waiting_found (y ∷ xs) b x l e = elim (same_or b y.from) [
  | inl is ↦ record {
    at = 0;
    inn = y;
    there = refl;
    from = sym is.0;
    waits =
        sym (ap (λ (c : Bool). cond c y.waiting (waiting_in xs b)) is.1) ∙ e;
  }
  | inr ne ↦ (let f = waiting_found xs b x l (sym (ap (λ (c : Bool). cond c y.waiting (waiting_in xs b)) ne.1) ∙ e) in
      record { at = suc f.at; inn = f.inn; there = f.there; from = f.from; waits = f.waits })
]

no_less : (a b : ℕ) → nat_lt a b ≡ false → b ≤ a
no_less a b e = grind (arith, nat_tests)

four : (a b h t : Bool) → ((a && b) && (not h && t)) ≡ false → (h ≡ true) ⊎ ((t ≡ false) ⊎ ((a ≡ false) ⊎ (b ≡ false)))
four true true true t e = inl refl
four true true false t e = inr (inl e)
four true false h t e = inr (inr (inr refl))
four false b h t e = inr (inr (inl refl))

blocked : (v : CellView) (from : ℕ) (x : Post) → is_ready v from x ≡ false → IsBlocked (core v.frame.plan) v from x
blocked v from x e = elim (four (nat_lt x.clock (2 ^ 63)) (nat_lt v.now.clock (2 ^ 63)) _ _ e) [
  | inl h ↦ inl h
  | inr more ↦ elim more [
    | inl t ↦ inr (inl t)
    | inr clocks ↦ elim clocks [
      | inl a ↦ inr (inr (inl (no_less x.clock (2 ^ 63) a)))
      | inr b ↦ inr
          (inr (inr (no_less v.now.clock (2 ^ 63) b)))
    ]
  ]
]

-- where no first item may be delivered the cell is idle
pub none_idle : (h : Held) → ((at : ℕ) → stamp_at at h ≡ None) → CellIsIdle (view_of h)
none_idle h none from x xs e =
    let f = waiting_found h.inns from x xs e in
    let item : stamp_at f.at h ≡ stamp_first (view_of h) from (Some x) =
    ap (stamp_end (view_of h)) f.there ∙ ap (λ (l : List Post). stamp_first (view_of h) f.inn.from (first_of l)) f.waits
    ∙ ap (λ (n : ℕ). stamp_first (view_of h) n (Some x)) f.from in
    blocked (view_of h) from x (not_stamped (is_ready (view_of h) from x) (post_stamp x) (sym item ∙ none f.at))
