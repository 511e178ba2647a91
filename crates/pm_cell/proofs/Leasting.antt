-- The least moment that waits at cells.
use Rattle.std.proofs.Common.{◌≡◌, ℕ, zero, suc, ◌+◌, ◌<◌, ◌⊎◌, inl, inr, true, false, cond, ◌==◌, List, [], ◌∷◌, ◌++◌, map, length, get_or, take, refl, arith, ap, sym, ◌∙◌, subst, append-nil}
use Rattle.std.proofs.lemmas.Bool.{cases_Bool}
use Rattle.std.proofs.lemmas.Bool.Decides.{nat_tests}
use Rattle.std.proofs.lemmas.Grind.{flat_map-append}
use Rattle.std.proofs.lemmas.List.{take_more}
use Rattle.std.specs.List.{AllByRecursion}
use Rattle.pm_base.specs.Stamps.{is_below, least_line_of, line_lt}
use Rattle.pm_base.specs.declared.stamp.Line.{Line}
use Rattle.pm_base.specs.declared.stamp.Line.TheVariants as line
use Rattle.pm_base.specs.declared.stamp.Stamp.{Stamp}
use Rattle.pm_ends.specs.Ends.{Inn, froms, post_stamp, stamps_in, waiting_in}
use Rattle.pm_ends.specs.Numbers.{AreRising}
use Rattle.pm_ends.specs.declared.post.Post.{Post}
use Rattle.pm_message.specs.Messages.{stamp_of}
use Rattle.pm_message.specs.declared.Message.{Message}
use Rattle.pm_sim.specs.Sims.{In}
use Rattle.pm_sim.specs.Worlds.{line_le}
use Rattle.pm_sim.proofs.Lists.{in_cases, in_left, in_right}
use Rattle.pm_cell.specs.Helds.{Held, inns_of, views}
use Rattle.pm_cell.specs.Leasts.{lesser, stamps_of}
use Rattle.pm_cell.specs.Sides.{messages}
use Rattle.pm_cell.specs.Stands.{IsLeastOf, WaitsAt}
use Rattle.pm_cell.proofs.Lists.{same_or}
use Rattle.pm_cell.proofs.Settles.{each_in, waiting_is}
use Rattle.pm_cell.proofs.Waiting.{le_above, le_self, le_under}

-- ---- the least of moments

-- the line is at most each of these moments, and one of them or the end
pub record IsLow (l : Line) (ss : List Stamp) : Type 0 where
  pub low : (s : Stamp) → In s ss → line_le l (line.At s) ≡ true
  pub found : (l ≡ line.End) ⊎ ((s : Stamp) × In s ss × (l ≡ line.At s))

pub least_is_low : (ss : List Stamp) → IsLow (least_line_of ss) ss
least_is_low [] = record { low = λ s i. absurd i; found = inl refl }
least_is_low (s ∷ ss) = (let again = least_is_low ss in elim (cases_Bool (is_below s (least_line_of ss))) [
  | inl e ↦ subst (λ c. IsLow (cond c (line.At s) (least_line_of ss)) (s ∷ ss)) (sym e) (record {
    low = λ t i. elim i [
      | inl f ↦ subst (λ z. line_le (line.At s) (line.At z) ≡ true) (sym f) (le_self s)
      | inr j ↦ le_under (least_line_of ss) s t e (again.low t j)
    ];
    found = inr (s, inl refl, refl);
  })
  | inr e ↦ subst (λ c. IsLow (cond c (line.At s) (least_line_of ss)) (s ∷ ss)) (sym e) (record {
    low = λ t i. elim i [
      | inl f ↦ subst (λ z. line_le (least_line_of ss) (line.At z) ≡ true) (sym f) (le_above (least_line_of ss) s e)
      | inr j ↦ again.low t j
    ];
    found = elim again.found [ inl f ↦ inl f | inr r ↦ inr (r.0, inr r.1, r.2) ];
  })
])

lt_then : (k l : Line) (s : Stamp) → line_lt k l ≡ true → line_le l (line.At s) ≡ true → line_le k (line.At s) ≡ true
lt_then (line.At u) (line.At v) s a b = grind (arith, nat_tests, a, b)
lt_then (line.At u) line.End s a b = absurd (cc)
lt_then line.End l s a b = absurd (cc)

le_then : (k l : Line) (s : Stamp) → line_lt k l ≡ false → line_le k (line.At s) ≡ true → line_le l (line.At s) ≡ true
le_then (line.At u) (line.At v) s a b = grind (arith, nat_tests, a, b)
le_then (line.At u) line.End s a b = absurd (cc)
le_then line.End l s a b = absurd (cc)

-- the lesser of two is the least of all
pub low_both : (l k : Line) (xs ys : List Stamp) → IsLow l xs → IsLow k ys → IsLow (lesser l k) (xs ++ ys)
low_both l k xs ys a b = elim (cases_Bool (line_lt k l)) [
  | inl e ↦ subst (λ c. IsLow (cond c k l) (xs ++ ys)) (sym e) (record {
    low = λ s i. elim (in_cases xs ys s i) [
      | inl j ↦ lt_then k l s e (a.low s j)
      | inr j ↦ b.low s j
    ];
    found = elim b.found [ inl f ↦ inl f | inr r ↦ inr (r.0, in_right xs ys r.0 r.1, r.2) ];
  })
  | inr e ↦ subst (λ c. IsLow (cond c k l) (xs ++ ys)) (sym e) (record {
    low = λ s i. elim (in_cases xs ys s i) [
      | inl j ↦ a.low s j
      | inr j ↦ le_then k l s e (b.low s j)
    ];
    found = elim a.found [ inl f ↦ inl f | inr r ↦ inr (r.0, in_left xs ys r.0 r.1, r.2) ];
  })
]

-- ---- what waits

in_stamps : (ps : List Post) (m : Message) → In m (messages ps) → In (stamp_of m) (map post_stamp ps)
in_stamps [] m i = absurd i
in_stamps (x ∷ ps) m (inl e) = inl (ap stamp_of e)
in_stamps (x ∷ ps) m (inr i) = inr (in_stamps ps m i)

-- a message of that moment
record OfStamp (ps : List Post) (s : Stamp) : Type 0 where
  message : Message
  there : In message (messages ps)
  stamp : stamp_of message ≡ s

stamps_from : (ps : List Post) (s : Stamp) → In s (map post_stamp ps) → OfStamp ps s
stamps_from [] s i = absurd i
stamps_from (x ∷ ps) s (inl e) = record { message = x.message; there = inl refl; stamp = sym e }
stamps_from (x ∷ ps) s (inr i) = (let r = stamps_from ps s i in record
    { message = r.message; there = inr r.there; stamp = r.stamp })

waits_in : (xs : List Inn) (b : ℕ) (m : Message) → In m (messages (waiting_in xs b)) → In (stamp_of m) (stamps_in xs)
waits_in [] b m i = absurd i
waits_in (x ∷ xs) b m i = elim (same_or b x.from) [
  | inl e ↦ in_left (map post_stamp x.waiting) (stamps_in xs) (stamp_of m)
      (in_stamps x.waiting m (subst (λ c. In m (messages (cond c x.waiting (waiting_in xs b)))) e.1 i))
  | inr e ↦ in_right (map post_stamp x.waiting) (stamps_in xs) (stamp_of m)
      (waits_in xs b m (subst (λ c. In m (messages (cond c x.waiting (waiting_in xs b)))) e.1 i))
]

waits_from : (xs : List Inn) (b : ℕ) (m : Message) → In m (messages (waiting_in xs b)) → In b (froms xs)
waits_from [] b m i = absurd i
waits_from (x ∷ xs) b m i = elim (same_or b x.from) [
  | inl e ↦ inl e.0
  | inr e ↦ inr (waits_from xs b m (subst (λ c. In m (messages (cond c x.waiting (waiting_in xs b)))) e.1 i))
]

-- a message of that moment that waits from a process
record WaitsFrom (xs : List Inn) (s : Stamp) : Type 0 where
  from : ℕ
  message : Message
  there : In message (messages (waiting_in xs from))
  stamp : stamp_of message ≡ s

in_waits : (xs : List Inn) (s : Stamp) → AreRising (froms xs) → In s (stamps_in xs) → WaitsFrom xs s
in_waits [] s r i = absurd i
in_waits (x ∷ xs) s r i = elim (in_cases (map post_stamp x.waiting) (stamps_in xs) s i) [
  | inl j ↦ (let o = stamps_from x.waiting s j in
      let e : (x.from == x.from) ≡ true = grind (arith, nat_tests) in
      record {
        from = x.from;
        message = o.message;
        there = subst (λ c. In o.message (messages (cond c x.waiting (waiting_in xs x.from)))) (sym e) o.there;
        stamp = o.stamp;
      })
  | inr j ↦ (let o = in_waits xs s r.1 j in
      let above : x.from < o.from = each_in (λ (n : ℕ). x.from < n) (froms xs) o.from r.0
      (waits_from xs o.from o.message o.there) in
      let e : (o.from == x.from) ≡ false = grind (arith, nat_tests, above) in
      record {
        from = o.from;
        message = o.message;
        there = subst (λ c. In o.message (messages (cond c x.waiting (waiting_in xs o.from)))) (sym e) o.there;
        stamp = o.stamp;
      })
]

-- ---- over all cells

cell_in : (hs : List Held) (k : ℕ) (s : Stamp) → In s (stamps_in (inns_of hs k)) → In s (stamps_of hs)
cell_in [] k s i = absurd i
cell_in (h ∷ hs) zero s i = in_left (stamps_in h.inns) (stamps_of hs) s i
cell_in (h ∷ hs) (suc k) s i = in_right (stamps_in h.inns) (stamps_of hs) s (cell_in hs k s i)

-- the senders of each cell's in-ends rise
abbrev pub AllRise : List Held → Type 0
AllRise hs = AllByRecursion (λ (h : Held). AreRising (froms h.inns)) hs

-- the cell at which it waits
record AtCell (hs : List Held) (s : Stamp) : Type 0 where
  to : ℕ
  waits : WaitsFrom (inns_of hs to) s

in_cell : (hs : List Held) (s : Stamp) → AllRise hs → In s (stamps_of hs) → AtCell hs s
in_cell [] s r i = absurd i
in_cell (h ∷ hs) s r i = elim (in_cases (stamps_in h.inns) (stamps_of hs) s i) [
  | inl j ↦ record { to = 0; waits = in_waits h.inns s r.0 j }
  | inr j ↦ (let o = in_cell hs s r.1 j in record { to = suc o.to; waits = o.waits })
]

pub low_is_least : (l : Line) (hs : List Held) → AllRise hs → IsLow l (stamps_of hs) → IsLeastOf l (views hs)
low_is_least l hs rise is = record {
  low = λ m w. is.low (stamp_of m) (cell_in hs w.to (stamp_of m)
      (waits_in (inns_of hs w.to) w.from m (subst (λ ps. In m (messages ps)) (waiting_is hs w.to w.from) w.waits)));
  found = elim is.found [
    | inl e ↦ inl e
    | inr r ↦ inr (by r.0 r.2 (in_cell hs r.0 rise r.1))
  ];
}
  where
    by : (s : Stamp) → l ≡ line.At s → AtCell hs s → (m : Message) × WaitsAt (views hs) m × (l ≡ line.At (stamp_of m))
    by s e c = (
      c.waits.message,
      record {
        to = c.to;
        from = c.waits.from;
        waits = subst (λ ps. In c.waits.message (messages ps)) (sym (waiting_is hs c.to c.waits.from)) c.waits.there;
      },
      e ∙ ap line.At (sym c.waits.stamp),
    )

-- ---- one more cell

pub stamps_more : (hs : List Held) (i : ℕ) (h : Held) → i < length hs → h ≡ get_or hs i h
    → stamps_of (take (i + 1) hs) ≡ stamps_of (take i hs) ++ stamps_in h.inns
stamps_more hs i h lt is =
    ap stamps_of (take_more hs i h lt)
    ∙ (flat_map-append (λ (x : Held). stamps_in x.inns) (take i hs) (get_or hs i h ∷ [])
    ∙ ap (λ z. stamps_of (take i hs) ++ z) (ap (λ (z : Held). stamps_of (z ∷ [])) (sym is)
    ∙ append-nil (stamps_in h.inns)))

pub low_more : (hs : List Held) (i : ℕ) (h : Held) (l k : Line) → i < length hs → h ≡ get_or hs i h
    → IsLow l (stamps_of (take i hs)) → k ≡ least_line_of (stamps_in h.inns)
    → IsLow (lesser l k) (stamps_of (take (i + 1) hs))
low_more hs i h l k lt is low e =
    subst (IsLow (lesser l k)) (sym (stamps_more hs i h lt is))
    (low_both l k (stamps_of (take i hs)) (stamps_in h.inns) low
    (subst (λ z. IsLow z (stamps_in h.inns)) (sym e) (least_is_low (stamps_in h.inns))))

pub rise_more : (hs : List Held) (i : ℕ) (h : Held) → i < length hs → h ≡ get_or hs i h → AllRise (take i hs)
    → AreRising (froms h.inns) → AllRise (take (i + 1) hs)
rise_more hs i h lt is rise own =
    subst AllRise (sym (take_more hs i h lt)) (both (take i hs) rise
    (subst (λ (z : Held). AreRising (froms z.inns)) is own))
  where
    both : (xs : List Held) → AllRise xs → AreRising (froms (get_or hs i h).inns) → AllRise (xs ++ get_or hs i h ∷ [])
    both [] r o = (o, tt)
    both (x ∷ xs) r o = (r.0, both xs r.1 o)
