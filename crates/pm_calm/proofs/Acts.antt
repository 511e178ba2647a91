-- A communication process in the lowest run: what it sends fits the open query, and so does what it keeps.
use Rattle.std.proofs.Common.{◌≡◌, ℕ, zero, suc, ◌+◌, ◌<◌, ◌≤◌, ◌⊎◌, inl, inr, ◌==◌, Bool, true, false, List, [], ◌∷◌, ◌++◌, map, filter, length, set, refl, arith, ap, sym, ◌∙◌, subst, Option, Some, None, get_or-set_other, get_or-set_same, length-set}
use Rattle.std.proofs.lemmas.Bool.{cond_both, cases_eq}
use Rattle.std.proofs.lemmas.Bool.Decides.{nat_tests}
use Rattle.pm_base.specs.Layouts.{class_row}
use Rattle.pm_base.specs.Stamps.{num_eq}
use Rattle.pm_base.specs.Windows.{point_of, whole}
use Rattle.pm_base.specs.declared.rows.GiveRow.{GiveRow}
use Rattle.pm_base.specs.declared.rows.Parts.{Parts}
use Rattle.pm_base.specs.declared.rows.PutRow.{PutRow}
use Rattle.pm_base.specs.declared.stamp.Interval.{Interval}
use Rattle.pm_base.specs.declared.stamp.Num.{Num}
use Rattle.pm_base.specs.declared.stamp.Stamp.{Stamp}
use Rattle.pm_base.specs.declared.value.Change.{Change}
use Rattle.pm_base.specs.declared.value.Period.{Period}
use Rattle.pm_base.specs.declared.value.Query.TheVariants as query
use Rattle.pm_base.specs.declared.value.Window.{Window}
use Rattle.pm_message.specs.declared.Message.{Message}
use Rattle.pm_message.specs.declared.Message.TheVariants as message
use Rattle.pm_periods.proofs.Settling.{settled-same}
use Rattle.pm_periods.specs.Periods.{periods_from}
use Rattle.pm_periods.specs.Records.{settled}
use Rattle.pm_plan.specs.declared.plan.Plan.{Plan}
use Rattle.pm_ranges.specs.Known.{Known, covers}
use Rattle.pm_routes.specs.Routings.{counted, is_drawn}
use Rattle.pm_routes.specs.declared.way.Way.{Way}
use Rattle.pm_routes.specs.declared.way.Way.TheVariants as way
use Rattle.pm_tables.specs.Tables.{grow_at, known_at}
use Rattle.pm_queries.specs.Queries.{add_reg, ask_of, behind_reg, finish_if, finish_in, finish_one, has, has_reg, without}
use Rattle.pm_queries.specs.declared.registered.Registered.{Registered}
use Rattle.pm_queries.specs.declared.registered.Sent.{Sent}
use Rattle.pm_clp.specs.Clps.{Answered, ClpSends, ClpState, and_then, at_record, catches, catching, caught, clp_after, counting, floor_of, forwards, grow_bound, installed, leaves, leaving, no_clp_sends, on_record, on_way, queries_watch, rec_at, reg_of, registered, sent_on, take_put, take_watch, tell, tell_from, tell_one, tell_periods, tell_record, telling, to_agent, watch_all, watch_if, way_of, with_count}
use Rattle.pm_sim.proofs.Going.{tally_append}
use Rattle.pm_sim.proofs.Letters.{in_map}
use Rattle.pm_sim.proofs.Lists.{in_cases}
use Rattle.pm_sim.proofs.Places.{in_range}
use Rattle.pm_sim.proofs.Queries.{add_reg_in}
use Rattle.pm_sim.proofs.Stamps.{nums_same}
use Rattle.pm_sim.proofs.Trims.{in_filter}
use Rattle.pm_sim.specs.Routings.{IsClp}
use Rattle.pm_sim.specs.Sims.{In, class_at, one_if, tally}
use Rattle.pm_sim.specs.Worlds.{Process, hub_of, number, ports, process}
use Rattle.pm_sim.specs.Worlds.Process.{AtClp, AtAgent}
use Rattle.pm_calm.specs.Phases.{AskAt, ClpAt, EndsAt, FinishAt, GiveAt, MailAt, MoveAt, OverAt, Phase, RecAt, RegAt, Silent, WriteAt, token}
use Rattle.pm_calm.specs.Phases.Phase.{Idle, Single, Range}
use Rattle.pm_calm.proofs.Records.{periods_at, put_at, watch_at, watch_once}

-- no token in any phase
abbrev pub Plain : Message → Type 0
Plain (message.Ask k z (query.One v)) = ⊥
Plain (message.Ask k z (query.Class j u)) = Unit {0}
Plain (message.Give g) = ⊥
Plain (message.Wake k z) = Unit {0}
Plain (message.Put r_n r_t v r_c) = Unit {0}
Plain (message.Cut r_n r_t v) = Unit {0}
Plain (message.Finish k z) = Unit {0}
Plain (message.Move v z r) = Unit {0}
Plain (message.Grow k z u w) = Unit {0}

pub no_token : (ph : Phase) (m : Message) → Plain m → token ph m ≡ false
no_token Idle m h = refl
no_token (Range n i w) m h = refl
no_token (Single n x) (message.Ask k z (query.One v)) h = absurd h
no_token (Single n x) (message.Ask k z (query.Class j u)) h = refl
no_token (Single n x) (message.Give g) h = absurd h
no_token (Single n x) (message.Wake k z) h = refl
no_token (Single n x) (message.Put r_n r_t v r_c) h = refl
no_token (Single n x) (message.Cut r_n r_t v) h = refl
no_token (Single n x) (message.Finish k z) h = refl
no_token (Single n x) (message.Move v z r) h = refl
no_token (Single n x) (message.Grow k z u w) h = refl

-- the tokens of these Gives
abbrev pub tokens : Phase → List GiveRow → ℕ
tokens Idle gs = 0
tokens (Range n i w) gs = 0
tokens (Single n x) gs = length gs

no_tokens : (ph : Phase) → tokens ph [] ≤ 0
no_tokens Idle = omega arith
no_tokens (Single n i) = omega arith
no_tokens (Range n i w) = omega arith

-- ---- by phase

module _ (p : Plan) (over : Num → ℕ → Window → Type 0) where
  reg_sent : (ph : Phase) (r : Registered) (ds : List ℕ) → RegAt p over ph r → RegAt p over ph (record r { sent = ds })
  reg_sent Idle r ds h = h
  reg_sent (Single n x) r ds h = h
  reg_sent (Range n i w) r ds h = h

  pub reg_late : (ph : Phase) (r : Registered) → MoveAt ph → RegAt p over ph r → OverAt p over r
  reg_late Idle r l h = h
  reg_late (Single n x) r l h = h
  reg_late (Range n i w) r l h = absurd l

  ask_late : (ph : Phase) (from : Process) (k : Num) (j : ℕ) (u : Window) → MoveAt ph → over k j u → IsClp from
      → AskAt ph over from k (query.Class j u)
  ask_late Idle from k j u l o f = (o, f)
  ask_late (Single n x) from k j u l o f = (o, f)
  ask_late (Range n i w) from k j u l o f = absurd l

write_moves : (ph : Phase) → WriteAt ph → MoveAt ph
write_moves Idle l = tt
write_moves (Single n x) l = tt
write_moves (Range n i w) l = absurd l

-- k is the open class query
abbrev pub OpenRange : Phase → Num → ℕ → Window → Type 0
OpenRange Idle k j u = ⊥
OpenRange (Single n x) k j u = ⊥
OpenRange (Range n i w) k j u = (k ≡ n) × (j ≡ i) × (u ≡ w)

-- this class query is open, or over
abbrev pub Watches : (Num → ℕ → Window → Type 0) → Phase → Num → ℕ → Window → Type 0
Watches over ph k j u = (over k j u × MoveAt ph) ⊎ OpenRange ph k j u

-- the variables of a class's range are of that class
abbrev pub OfRange : Plan → Type 0
OfRange p = (k v : ℕ) → (class_row p.layout.classes k).first ≤ v
    → v < (class_row p.layout.classes k).first + (class_row p.layout.classes k).count → class_at p v ≡ k

some_rec : (a b : Parts) → Some a ≡ Some b → a ≡ b
some_rec a b g = cc

module _ (p : Plan) (c : ℕ) (s : Stamp) (over : Num → ℕ → Window → Type 0) (ph : Phase) where
  -- what it sends fits
  abbrev pub At : Sent → Type 0
  At y = MailAt p s over ph (process p y.to) (AtClp c) y.message

  abbrev pub AllAt : List Sent → Type 0
  AllAt ss = (y : Sent) → In y ss → At y

  -- how many tokens it sends
  abbrev pub tok : List Sent → ℕ
  tok ss = tally (λ (y : Sent). token ph y.message) ss

  abbrev pub State : ClpState → Type 0
  State x = ClpAt p s over ph x

  abbrev pub Good : ℕ → ClpSends → Type 0
  Good k r = State r.clp × (AllAt r.sent × (tok r.sent ≤ k))

  none : AllAt []
  none y i = absurd i

  both : (xs ys : List Sent) → AllAt xs → AllAt ys → AllAt (xs ++ ys)
  both xs ys a e y i = elim (in_cases xs ys y i) [ inl j ↦ a y j | inr j ↦ e y j ]

  pub still : (x : ClpState) → State x → Good 0 (no_clp_sends x)
  still x h = (h, (none, omega arith))

  chain : (k j : ℕ) (r : ClpSends) (f : ClpState → ClpSends) → Good k r → ((x : ClpState) → State x → Good j (f x))
      → Good (k + j) (and_then r f)
  chain k j r f a e = (let o = e r.clp a.0 in (
    o.0,
    (
      both r.sent (f r.clp).sent a.1.0 o.1.0,
      (let x = a.1.1 in let y = o.1.1 in
          omega (arith, tally_append (λ (y : Sent). token ph y.message) r.sent (f r.clp).sent)),
    ),
  ))

  no_toks : (ss : List Sent) → ((y : Sent) → In y ss → Plain y.message) → tok ss ≡ 0
  no_toks [] h = refl
  no_toks (y ∷ ss) h = (let e = no_token ph y.message (h y (inl refl)) in rw e (no_toks ss (λ z i. h z (inr i))))

  -- sends without a token
  plain : (x : ClpState) (ss : List Sent) → State x → AllAt ss → ((y : Sent) → In y ss → Plain y.message)
      → Good 0 (record { clp = x; sent = ss })
  plain x ss h a n = (h, (a, (let e = no_toks ss n in omega arith)))

  only : (y : Sent) → At y → AllAt (y ∷ [])
  only y o x i = elim i [ inl e ↦ subst At (sym e) o | inr z ↦ absurd z ]

  only_plain : (y : Sent) → Plain y.message → (x : Sent) → In x (y ∷ []) → Plain x.message
  only_plain y o x i = elim i [ inl e ↦ subst (λ (z : Sent). Plain z.message) (sym e) o | inr z ↦ absurd z ]

  -- ---- records

  set_some : (x : ClpState) (v : ℕ) (r0 r : Parts) → rec_at x.records v ≡ Some r0 → State x → RecAt p s over v r
      → State (record x { records = set x.records v (Some r) })
  set_some x v r0 r e h a = record {
    records = λ u y f. elim (cases_eq u v) [
      | inl g ↦ subst (λ z. RecAt p s over z y) (sym g) (subst (RecAt p s over v) (some_rec r y
          (sym (get_or-set_same x.records v (Some r) None (in_range x.records v r0 e))
          ∙ (ap (rec_at (set x.records v (Some r))) (sym g) ∙ f))) a)
      | inr ne ↦ h.records u y (sym (get_or-set_other x.records v u (Some r) None ne) ∙ f)
    ];
    stamps = h.stamps;
    regs = h.regs;
    line = h.line;
  }

  tok_gives : (gs : List GiveRow) → tok (map (to_agent (hub_of p c)) gs) ≡ tokens ph gs
  tok_gives gs = go ph gs
    where
      go : (x : Phase) (gs : List GiveRow)
          → tally (λ (y : Sent). token x y.message) (map (to_agent (hub_of p c)) gs) ≡ tokens x gs
      go Idle [] = refl
      go Idle (g ∷ gs) = go Idle gs
      go (Range n i w) [] = refl
      go (Range n i w) (g ∷ gs) = go (Range n i w) gs
      go (Single n x) [] = refl
      go (Single n x) (g ∷ gs) = ap suc (go (Single n x) gs)

  -- what a letter makes of a record
  abbrev Takes : ℕ → ℕ → (Parts → Answered) → Type 0
  Takes k v f = (r : Parts) → RecAt p s over v r → RecAt p s over v (f r).rec
      × (((g : GiveRow) → In g (f r).gives → (g.stamp ≡ s) × GiveAt ph g) × (tokens ph (f r).gives ≤ k))

  takes : (k v : ℕ) (f : Parts → Answered) → Takes k v f → (x : ClpState) → State x
      → Good k (at_record (hub_of p c) v f x)
  takes k v f ok x h = go (rec_at x.records v) refl
    where
      go : (o : Option Parts) → rec_at x.records v ≡ o → Good k (on_record (hub_of p c) v f o x)
      go None e = (h, (none, omega arith))
      go (Some r) e = (let a = ok r (h.records v r e) in (
        set_some x v r (f r).rec e h a.0,
        (
          (λ y i. (let o = in_map (to_agent (hub_of p c)) (f r).gives y i in
              subst At (sym o.2) (let b = a.1.0 o.0 o.1 in (b.0, b.1, tt)))),
          (let t = tok_gives (f r).gives in let b = a.1.1 in omega arith),
        ),
      ))

  -- a record watches
  pub watches : (k : Num) (z : Stamp) (j : ℕ) (u : Window) → z ≡ s → Watches over ph k j u
      → (v : ℕ) → class_at p v ≡ j → (x : ClpState) → State x → Good 0 (at_record (hub_of p c) v (take_watch v k z u) x)
  watches k z j u es ok v ec x h = takes 0 v (take_watch v k z u)
      (λ r a. let o = watch_at p s over v k z u r es a in (o.0, gives r a o.1 ok)) x h
    where
      gives : (r : Parts) → RecAt p s over v r
          → ((g : GiveRow) → In g (take_watch v k z u r).gives → (g.num ≡ k) × (g.stamp ≡ s))
          × (Silent k u r → (take_watch v k z u r).gives ≡ []) → Watches over ph k j u
          → ((g : GiveRow) → In g (take_watch v k z u r).gives → (g.stamp ≡ s) × GiveAt ph g)
          × (tokens ph (take_watch v k z u r).gives ≤ 0)
      gives r a o (inl late) = (let e = o.1 (a.silent k j u late.0 ec) in
          (λ g i. absurd (subst (In g) e i), subst (λ gs. tokens ph gs ≤ 0) (sym e) (no_tokens ph)))
      gives r a o (inr now) = by ph now
        where
          by : (y : Phase) → OpenRange y k j u
              → ((g : GiveRow) → In g (take_watch v k z u r).gives → (g.stamp ≡ s) × GiveAt y g)
              × (tokens y (take_watch v k z u r).gives ≤ 0)
          by Idle b = absurd b
          by (Single n i) b = absurd b
          by (Range n i w) b = (λ g q. (let e = o.0 g q in (e.1, e.0 ∙ b.0)), omega arith)

  -- ---- bounds

  caught_good : (d k : ℕ) (b : List (List Known)) (x : ClpState) → State x
      → State (record x { queries = map (caught (hub_of p c) b d k) x.queries })
  caught_good d k b x h = record {
    records = h.records;
    stamps = λ r i. (let o = in_map (caught (hub_of p c) b d k) x.queries r i in
        subst (λ (y : Registered). y.stamp ≡ s) (sym o.2) (cond_both (catches (hub_of p c) b d k o.0)
        (record o.0 { sent = o.0.sent ++ d ∷ [] }) o.0 (λ (y : Registered). y.stamp ≡ s)
        (λ _. h.stamps o.0 o.1) (λ _. h.stamps o.0 o.1)));
    regs = λ r i. (let o = in_map (caught (hub_of p c) b d k) x.queries r i in
        subst (λ (y : Registered). RegAt p over ph y) (sym o.2) (cond_both (catches (hub_of p c) b d k o.0)
        (record o.0 { sent = o.0.sent ++ d ∷ [] }) o.0 (λ (y : Registered). RegAt p over ph y)
        (λ _. reg_sent p over ph o.0 (o.0.sent ++ d ∷ []) (h.regs o.0 o.1)) (λ _. h.regs o.0 o.1)));
    line = h.line;
  }

  -- a query as it is sent to a port
  abbrev asked_to : ℕ → Registered → Sent
  asked_to d r = record { to = d; message = ask_of r }

  catch_good : MoveAt ph → (d k : ℕ) (x : ClpState) → State x → Good 0 (catching (hub_of p c) d k x)
  catch_good late d k x h =
      plain (record x { queries = map (caught (hub_of p c) x.bound d k) x.queries })
      (map (asked_to d) (filter (catches (hub_of p c) x.bound d k) x.queries)) (caught_good d k x.bound x h)
      (λ y i. (let o = from y i in subst At (sym o.2) (
        h.stamps o.0 o.1,
        ask_late p over ph (AtClp c) o.0.num o.0.class o.0.window late
            (reg_late p over ph o.0 late (h.regs o.0 o.1)).0 tt,
      )))
      (λ y i. (let o = from y i in subst (λ (z : Sent). Plain z.message) (sym o.2) tt))
    where
      from : (y : Sent) → In y (map (asked_to d) (filter (catches (hub_of p c) x.bound d k) x.queries))
          → (r : Registered) × In r x.queries × (y ≡ asked_to d r)
      from y i = (let o = in_map (asked_to d) (filter (catches (hub_of p c) x.bound d k) x.queries) y i in
          (o.0, (in_filter (catches (hub_of p c) x.bound d k) x.queries o.0 o.1).0, o.2))

  tell_one_good : WriteAt ph → (k : ℕ) (from : Stamp) (until : Option Stamp) (w : Window) → from ≡ s
      → (d : ℕ) (x : ClpState) → State x → Good 0 (tell_one (hub_of p c) k from until w d x)
  tell_one_good wr k from until w es d x h =
      let when : Interval = record { from = Some from; until = until } in
      let x1 : ClpState = record x { told = grow_at (ports p c) d k when w x.told } in
      let y : Sent = record { to = d; message = message.Grow k from until w } in
      let told : ClpSends = record { clp = x1; sent = y ∷ [] } in
      cond_both (covers (known_at (ports p c) d k x.told) when w) (no_clp_sends x) told (Good 0)
      (λ _. still x h)
      (λ _. plain x1 (y ∷ [])
      (record { records = h.records; stamps = h.stamps; regs = h.regs; line = h.line })
      (only y (es, wr)) (only_plain y tt))

  tell_good : WriteAt ph → (k : ℕ) (from : Stamp) (until : Option Stamp) (w : Window) → from ≡ s
      → (ds : List ℕ) (x : ClpState) → State x → Good 0 (tell (hub_of p c) k from until w ds x)
  tell_good wr k from until w es [] x h = still x h
  tell_good wr k from until w es (d ∷ ds) x h =
      chain 0 0 (tell_one (hub_of p c) k from until w d x) (tell (hub_of p c) k from until w ds)
      (tell_one_good wr k from until w es d x h) (tell_good wr k from until w es ds)

  periods_good : WriteAt ph → (k : ℕ) (rs : List Period) → ((y : Period) → In y rs → y.when.from ≡ Some s)
      → (x : ClpState) → State x → Good 0 (tell_periods (hub_of p c) k rs x)
  periods_good wr k [] es x h = still x h
  periods_good wr k (r ∷ rs) es x h =
      chain 0 0 (tell_from (hub_of p c) k r.when.from r x) (tell_periods (hub_of p c) k rs)
      (go r.when.from (es r (inl refl))) (periods_good wr k rs (λ y i. es y (inr i)))
    where
      same : (a b : Stamp) → Some a ≡ Some b → a ≡ b
      same a b g = cc

      go : (o : Option Stamp) → o ≡ Some s → Good 0 (tell_from (hub_of p c) k o r x)
      go None e = still x h
      go (Some f) e = tell_good wr k f r.when.until (point_of r.value) (same f s e) (ports p c) x h

  telling_good : WriteAt ph → (v : ℕ) (from : Stamp) → from ≡ s → (x : ClpState) → State x
      → Good 0 (telling (hub_of p c) v from x)
  telling_good wr v from es x h = go (rec_at x.records v) refl
    where
      go : (o : Option Parts) → rec_at x.records v ≡ o → Good 0 (tell_record (hub_of p c) v from o x)
      go None e = still x h
      go (Some r) e = subst (λ z. Good 0 (tell_record (hub_of p c) v z (Some r) x)) (sym es)
          (periods_good wr (class_at p v) (periods_from r (Some s))
          (periods_at s r r.puts (h.records v r e).puts) x h)

  -- ---- counted

  left_good : MoveAt ph → (v d : ℕ) (r : Parts) (x : ClpState) → rec_at x.records v ≡ Some r → State x
      → Good 0 (leaving (hub_of p c) v d r x)
  left_good late v d r x e h =
      let y : Sent = record { to = d; message = message.Move v (floor_of x.line) r } in
      plain (leaving (hub_of p c) v d r x).clp (y ∷ [])
      (record {
        records = λ u z f. elim (cases_eq u v) [
          | inl g ↦ absurd (let k : None ≡ Some z =
              sym (get_or-set_same x.records v None None (in_range x.records v r e))
              ∙ (ap (rec_at (set x.records v None)) (sym g) ∙ f) in cc)
          | inr ne ↦ h.records u z (sym (get_or-set_other x.records v u None None ne) ∙ f)
        ];
        stamps = h.stamps;
        regs = h.regs;
        line = h.line;
      })
      (only y (h.line, late, h.records v r e)) (only_plain y tt)

  counted_good : MoveAt ph → (v from : ℕ) (x : ClpState) → State x → Good 0 (counting (hub_of p c) v from x)
  counted_good late v from x h =
      go (is_drawn (counted x.routing v from) v from) (rec_at x.records v) refl
    where
      z : ClpState
      z = with_count (hub_of p c) v from x

      hz : State (with_count (hub_of p c) v from x)
      hz = record { records = h.records; stamps = h.stamps; regs = h.regs; line = h.line }

      go : (b : Bool) (o : Option Parts) → rec_at x.records v ≡ o
          → Good 0 (leaves (hub_of p c) b v from o (with_count (hub_of p c) v from x))
      go false o e = still z hz
      go true None e = still z hz
      go true (Some r) e = chain 0 0 (leaving (hub_of p c) v from r z) (catching (hub_of p c) from (class_at p v))
          (left_good late v from r z e hz) (catch_good late from (class_at p v))

  -- ---- class queries

  all_watch : OfRange p → (k : Num) (z : Stamp) (j : ℕ) (u : Window) → z ≡ s → Watches over ph k j u
      → (i m : ℕ) → (class_row p.layout.classes j).first ≤ i
      → i + m ≤ (class_row p.layout.classes j).first + (class_row p.layout.classes j).count
      → (x : ClpState) → State x → Good 0 (watch_all (hub_of p c) k z u i m x)
  all_watch rg k z j u es ok i zero lo hi x h = still x h
  all_watch rg k z j u es ok i (suc m) lo hi x h =
      chain 0 0 (at_record (hub_of p c) i (take_watch i k z u) x) (watch_all (hub_of p c) k z u (suc i) m)
      (watches k z j u es ok i (rg j i lo (omega arith)) x h)
      (all_watch rg k z j u es ok (suc i) m (omega arith) (omega arith))

  forwards_good : (from : ℕ) (r : Registered) → r.stamp ≡ s
      → AskAt ph over (AtClp c) r.num (query.Class r.class r.window)
      → FinishAt ph (process p from) r.num → (ds : List ℕ)
      → AllAt (forwards (hub_of p c) from r ds) × ((y : Sent) → In y (forwards (hub_of p c) from r ds)
      → Plain y.message)
  forwards_good from r es ask fin [] = (
    only (record { to = from; message = message.Finish r.num r.stamp }) (es, fin),
    only_plain (record { to = from; message = message.Finish r.num r.stamp }) tt,
  )
  forwards_good from r es ask fin (d ∷ ds) = (
    λ y i. (let o = in_map (λ e. record { to = e; message = ask_of r }) (d ∷ ds) y i in subst At (sym o.2) (es, ask)),
    λ y i. (let o = in_map (λ e. record { to = e; message = ask_of r }) (d ∷ ds) y i in
        subst (λ (q : Sent). Plain q.message) (sym o.2) tt),
  )

  registers : (from : ℕ) (k : Num) (z : Stamp) (j : ℕ) (u : Window) → z ≡ s
      → AskAt ph over (AtClp c) k (query.Class j u) → FinishAt ph (process p from) k
      → ((ds : List ℕ) → RegAt p over ph (reg_of (hub_of p c) from k z j u ds))
      → (x : ClpState) → State x → Good 0 (registered (hub_of p c) from k z j u x)
  registers from k z j u es ask fin reg x h =
      let ds : List ℕ = filter (sent_on (hub_of p c) x.bound from j z u) (ports p c) in
      let r : Registered = reg_of (hub_of p c) from k z j u ds in
      let f = forwards_good from r es ask fin ds in
      plain (record x { queries = add_reg r x.queries }) (forwards (hub_of p c) from r ds)
      (record {
        records = h.records;
        stamps = λ y i. elim (add_reg_in r x.queries y i) [
          | inl e ↦ ap (λ (q : Registered). q.stamp) e ∙ es
          | inr o ↦ h.stamps y o
        ];
        regs = λ y i. elim (add_reg_in r x.queries y i) [
          | inl e ↦ subst (RegAt p over ph) (sym e) (reg ds)
          | inr o ↦ h.regs y o
        ];
        line = h.line;
      }) f.0 f.1

  -- ---- a Finish comes

  abbrev Regs : List Registered → Type 0
  Regs rs = (r : Registered) → In r rs → (r.stamp ≡ s) × RegAt p over ph r

  abbrev Fine : List Sent → Type 0
  Fine ss = AllAt ss × ((y : Sent) → In y ss → Plain y.message)

  no_sends_fine : AllAt [] × ((y : Sent) → In y [] → Plain y.message)
  no_sends_fine = (none, λ y i. absurd i)

  waits_less : (d : ℕ) (r : Registered) → RegAt p over ph r → RegAt p over ph (record r { waits = without d r.waits })
  waits_less d r h = go ph h
    where
      ends : EndsAt p r → EndsAt p (record r { waits = without d r.waits })
      ends f a e = ap (without d) (f a e)

      go : (y : Phase) → RegAt p over y r → RegAt p over y (record r { waits = without d r.waits })
      go Idle h = (h.0, ends h.1)
      go (Single n x) h = (h.0, ends h.1)
      go (Range n i w) (inl h) = inl (h.0, ends h.1)
      go (Range n i w) (inr h) = inr h

  -- its own Finish fits
  ends_fit : (k : Num) (d : ℕ) (r : Registered) → num_eq k r.num ≡ true → has d r.waits ≡ true → RegAt p over ph r
      → FinishAt ph (AtClp c) k → FinishAt ph (process p r.from) r.num
  ends_fit k d r e hd h f = go ph h f
    where
      clp_of : (y : Process) → process p r.from ≡ y → EndsAt p r → IsClp y
      clp_of (AtClp x) g en = tt
      clp_of (AtAgent a) g en =
          absurd (let w = en a g in let b : has d [] ≡ true = subst (λ z. has d z ≡ true) w hd in cc)

      go : (y : Phase) → RegAt p over y r → FinishAt y (AtClp c) k → FinishAt y (process p r.from) r.num
      go Idle h f = clp_of (process p r.from) refl h.1
      go (Single n x) h f = clp_of (process p r.from) refl h.1
      go (Range n i w) h f = sym (nums_same k r.num e) ∙ f

  finishes : (k : Num) (d : ℕ) → FinishAt ph (AtClp c) k → (rs : List Registered) → Regs rs
      → Regs (finish_in k d rs).queries × Fine (finish_in k d rs).sent
  finishes k d f [] h = (h, no_sends_fine)
  finishes k d f (r ∷ rs) h =
      let again = finishes k d f rs (λ x i. h x (inr i)) in
      cond_both (num_eq k r.num) (finish_one d r rs (has d r.waits)) (behind_reg r (finish_in k d rs))
      (λ e. Regs e.queries × Fine e.sent)
      (λ e. ends e (has d r.waits) refl)
      (λ _. (λ x i. elim i [ inl g ↦ h x (inl g) | inr j ↦ again.0 x j ], again.1))
    where
      done : r.stamp ≡ s → FinishAt ph (process p r.from) r.num → (ws : List ℕ) → Fine (finish_if ws r)
      done hr g [] = (
        only (record { to = r.from; message = message.Finish r.num r.stamp }) (hr, g),
        only_plain (record { to = r.from; message = message.Finish r.num r.stamp }) tt,
      )
      done hr g (y ∷ ws) = no_sends_fine

      ends : num_eq k r.num ≡ true → (b : Bool) → has d r.waits ≡ b
          → Regs (finish_one d r rs b).queries × Fine (finish_one d r rs b).sent
      ends e true g = (let a = h r (inl refl) in (
        λ x i. elim i [
          | inl q ↦ subst (λ (y : Registered). (y.stamp ≡ s) × RegAt p over ph y) (sym q) (a.0, waits_less d r a.1)
          | inr j ↦ h x (inr j)
        ],
        done a.0 (ends_fit k d r e g a.1 f) (without d r.waits),
      ))
      ends e false g = (h, no_sends_fine)

  finish_good : (from : ℕ) (k : Num) (z : Stamp) → FinishAt ph (AtClp c) k → (x : ClpState) → State x
      → Good 0 (clp_after (hub_of p c) from (message.Finish k z) x)
  finish_good from k z f x h = (let o = finishes k from f x.queries (λ r i. (h.stamps r i, h.regs r i)) in
      plain (record x { queries = (finish_in k from x.queries).queries }) (finish_in k from x.queries).sent
      (record { records = h.records; stamps = λ r i. (o.0 r i).0; regs = λ r i. (o.0 r i).1; line = h.line })
      o.1.0 o.1.1)

  -- ---- a record comes

  joins : MoveAt ph → (v : ℕ) (rs : List Registered)
      → ((r : Registered) → In r rs → (r.stamp ≡ s) × OverAt p over r) → (x : ClpState) → State x
      → Good 0 (queries_watch (hub_of p c) v rs x)
  joins late v [] hr x h = still x h
  joins late v (r ∷ rs) hr x h =
      chain 0 0 (watch_if (hub_of p c) (class_at p v == r.class) v r x) (queries_watch (hub_of p c) v rs)
      (one (class_at p v == r.class) refl) (joins late v rs (λ y i. hr y (inr i)))
    where
      one : (b : Bool) → (class_at p v == r.class) ≡ b → Good 0 (watch_if (hub_of p c) b v r x)
      one false e = still x h
      one true e = (let a = hr r (inl refl) in watches r.num r.stamp r.class r.window a.0 (inl (a.1.0, late)) v
          (let f : class_at p v ≡ r.class = grind (arith, nat_tests, e) in f) x h)

  move_good : MoveAt ph → (from v : ℕ) (z : Stamp) (r : Parts) → RecAt p s over v r
      → (x : ClpState) → State x → Good 0 (clp_after (hub_of p c) from (message.Move v z r) x)
  move_good late from v z r a x h =
      joins late v x.queries (λ y i. (h.stamps y i, reg_late p over ph y late (h.regs y i)))
      (installed (hub_of p c) from v (settled r) x) (record {
        records = λ u y e. elim (cases_eq u v) [
          | inr ne ↦ h.records u y (sym (get_or-set_other x.records v u (Some (settled r)) None ne) ∙ e)
          | inl g ↦ (let e' : rec_at (set x.records v (Some (settled r))) v ≡ Some y =
              ap (rec_at (set x.records v (Some (settled r)))) (sym g) ∙ e in
              let lt : v < length x.records = (let b = in_range (set x.records v (Some (settled r))) v y e' in
              let l = length-set x.records v (Some (settled r)) in omega arith) in
              subst (λ k. RecAt p s over k y) (sym g) (subst (RecAt p s over v) (some_rec (settled r) y
              (sym (get_or-set_same x.records v (Some (settled r)) None lt) ∙ e'))
              (subst (RecAt p s over v) (sym (settled-same r a.solid)) a)))
        ];
        stamps = h.stamps;
        regs = h.regs;
        line = h.line;
      })

  put_good : WriteAt ph → (from : ℕ) (n : Num) (t : Stamp) (v : ℕ) (g : Change) → t ≡ s → (x : ClpState) → State x
      → Good 0 (clp_after (hub_of p c) from (message.Put n t v g) x)
  put_good wr from n t v g es x h = go (way_of v x)
    where
      r : PutRow
      r = record { num = n; stamp = t; change = g }

      first : ClpState → ClpSends
      first z = and_then (at_record (hub_of p c) v (take_put v (record { num = n; stamp = t; change = g })) z)
          (telling (hub_of p c) v t)

      go : (y : Way) → Good 0 (on_way (hub_of p c) y (message.Put n t v g) x (λ z.
          and_then (and_then (at_record (hub_of p c) v (take_put v (record { num = n; stamp = t; change = g })) z)
          (telling (hub_of p c) v t)) (counting (hub_of p c) v from)))
      go (way.Port d) = plain x (record { to = d; message = message.Put n t v g } ∷ []) h
          (only (record { to = d; message = message.Put n t v g }) (es, wr))
          (only_plain (record { to = d; message = message.Put n t v g }) tt)
      go way.Here = chain 0 0 (first x) (counting (hub_of p c) v from)
          (chain 0 0 (at_record (hub_of p c) v (take_put v r) x) (telling (hub_of p c) v t)
          (takes 0 v (take_put v r) (λ y a. (let o = put_at p s over v r y es a in (
            o.0,
            (λ q i. absurd (subst (In q) o.1 i), subst (λ gs. tokens ph gs ≤ 0) (sym o.1) (no_tokens ph)),
          ))) x h)
          (telling_good wr v t es))
          (counted_good (write_moves ph wr) v from)

  grow_good : WriteAt ph → (from k : ℕ) (z : Stamp) (until : Option Stamp) (u : Window) → z ≡ s
      → (x : ClpState) → State x → Good 0 (clp_after (hub_of p c) from (message.Grow k z until u) x)
  grow_good wr from k z until u es x h =
      let s1 : ClpState = grow_bound (hub_of p c) from k (record { from = Some z; until = until }) u x in
      chain 0 0 (catching (hub_of p c) from k s1) (tell (hub_of p c) k z until u (without from (ports p c)))
      (catch_good (write_moves ph wr) from k s1
      (record { records = h.records; stamps = h.stamps; regs = h.regs; line = h.line }))
      (tell_good wr k z until u es (without from (ports p c)))

  class_good : OfRange p → (from : ℕ) (k : Num) (z : Stamp) (j : ℕ) (u : Window) → z ≡ s → Watches over ph k j u
      → AskAt ph over (AtClp c) k (query.Class j u) → FinishAt ph (process p from) k
      → ((ds : List ℕ) → RegAt p over ph (reg_of (hub_of p c) from k z j u ds))
      → (x : ClpState) → State x → Good 0 (clp_after (hub_of p c) from (message.Ask k z (query.Class j u)) x)
  class_good rg from k z j u es ok ask fin reg x h =
      let row = class_row p.layout.classes j in
      cond_both (has_reg k x.queries) (no_clp_sends x)
      (and_then (watch_all (hub_of p c) k z u row.first row.count x) (registered (hub_of p c) from k z j u)) (Good 0)
      (λ _. still x h)
      (λ _. chain 0 0 (watch_all (hub_of p c) k z u row.first row.count x) (registered (hub_of p c) from k z j u)
      (all_watch rg k z j u es ok row.first row.count (omega arith) (omega arith) x h)
      (registers from k z j u es ask fin reg))

  more : (k j : ℕ) (r : ClpSends) → k ≤ j → Good k r → Good j r
  more k j r le g = (g.0, (g.1.0, (let a = g.1.1 in omega arith)))

  give_good : (g : GiveRow) (f : Process) → (g.stamp ≡ s) × GiveAt ph g × IsClp f → (x : ClpState) → State x
      → Good (one_if (token ph (message.Give g)) 0) (record { clp = x; sent = to_agent (hub_of p c) g ∷ [] })
  give_good g f o x h = (h, (only (to_agent (hub_of p c) g) (o.0, o.1, tt), (omega arith)))

-- the Ask of the open single read
one_good : (p : Plan) (c : ℕ) (s : Stamp) (over : Num → ℕ → Window → Type 0) (n : Num) (i from : ℕ) (k : Num)
    (z : Stamp)
    (v : ℕ) → z ≡ s → k ≡ n → (x : ClpState) → State p c s over (Single n i) x
    → Good p c s over (Single n i) 1 (clp_after (hub_of p c) from (message.Ask k z (query.One v)) x)
one_good p c s over n i from k z v es ek x h = go (way_of v x)
  where
    go : (y : Way) → Good p c s over (Single n i) 1 (on_way (hub_of p c) y (message.Ask k z (query.One v)) x
        (λ w. and_then (at_record (hub_of p c) v (take_watch v k z whole) w) (counting (hub_of p c) v from)))
    go (way.Port d) = (
      h,
      (
        only p c s over (Single n i)
            (record { to = d; message = message.Ask k z (query.One v) }) (es, ek),
        omega arith,
      ),
    )
    go way.Here = chain p c s over (Single n i) 1 0 (at_record (hub_of p c) v (take_watch v k z whole) x)
        (counting (hub_of p c) v from)
        (takes p c s over (Single n i) 1 v (take_watch v k z whole)
        (λ r a. (let o = watch_at p s over v k z whole r es a in
        (o.0, ((λ g j. (let e = o.1.0 g j in (e.1, e.0 ∙ ek))), watch_once p s over v k z whole r a)))) x h)
        (counted_good p c s over (Single n i) tt v from)

-- a delivery at a communication process
pub clp_good : (p : Plan) (c : ℕ) (s : Stamp) (over : Num → ℕ → Window → Type 0) (ph : Phase) (f : Process)
    (m : Message)
    → OfRange p → process p (number p f) ≡ f → MailAt p s over ph (AtClp c) f m
    → (x : ClpState) → ClpAt p s over ph x → Good p c s over ph (one_if (token ph m) 0)
    (clp_after (hub_of p c) (number p f) m x)
clp_good p c s over ph f (message.Wake k z) rg nm m x h =
    more p c s over ph 0 (one_if (token ph (message.Wake k z)) 0)
    (clp_after (hub_of p c) (number p f) (message.Wake k z) x) (omega arith) (still p c s over ph x h)
clp_good p c s over ph f (message.Give g) rg nm m x h = give_good p c s over ph g f m x h
clp_good p c s over ph f (message.Cut r_n r_t v) rg nm m x h = absurd m
clp_good p c s over ph f (message.Put r_n r_t v r_c) rg nm m x h =
    more p c s over ph 0 (one_if (token ph (message.Put r_n r_t v r_c)) 0)
    (clp_after (hub_of p c) (number p f) (message.Put r_n r_t v r_c) x) (omega arith)
    (put_good p c s over ph m.1 (number p f) r_n r_t v r_c m.0 x h)
clp_good p c s over ph f (message.Move v z r) rg nm m x h =
    more p c s over ph 0 (one_if (token ph (message.Move v z r)) 0)
    (clp_after (hub_of p c) (number p f) (message.Move v z r) x) (omega arith)
    (move_good p c s over ph m.1 (number p f) v z r m.2 x h)
clp_good p c s over ph f (message.Grow k z until u) rg nm m x h =
    more p c s over ph 0 (one_if (token ph (message.Grow k z until u)) 0)
    (clp_after (hub_of p c) (number p f) (message.Grow k z until u) x) (omega arith)
    (grow_good p c s over ph m.1 (number p f) k z until u m.0 x h)
clp_good p c s over ph f (message.Finish k z) rg nm m x h =
    more p c s over ph 0 (one_if (token ph (message.Finish k z)) 0)
    (clp_after (hub_of p c) (number p f) (message.Finish k z) x) (omega arith)
    (finish_good p c s over ph (number p f) k z m.1 x h)
clp_good p c s over Idle f (message.Ask k z (query.One v)) rg nm m x h = absurd m.1
clp_good p c s over (Range n i w) f (message.Ask k z (query.One v)) rg nm m x h = absurd m.1
clp_good p c s over (Single n i) f (message.Ask k z (query.One v)) rg nm m x h =
    one_good p c s over n i (number p f) k z v m.0 m.1 x h
clp_good p c s over Idle f (message.Ask k z (query.Class j u)) rg nm m x h =
    let clp : IsClp (process p (number p f)) = subst IsClp (sym nm) m.1.1 in
    class_good p c s over Idle rg (number p f) k z j u m.0 (inl (m.1.0, tt)) (m.1.0, tt) clp
    (λ ds. (m.1.0, λ a e. absurd (subst IsClp e clp))) x h
clp_good p c s over (Single n i) f (message.Ask k z (query.Class j u)) rg nm m x h =
    let clp : IsClp (process p (number p f)) = subst IsClp (sym nm) m.1.1 in
    class_good p c s over (Single n i) rg (number p f) k z j u m.0 (inl (m.1.0, tt)) (m.1.0, tt) clp
    (λ ds. (m.1.0, λ a e. absurd (subst IsClp e clp))) x h
clp_good p c s over (Range n i w) f (message.Ask k z (query.Class j u)) rg nm m x h =
    class_good p c s over (Range n i w) rg (number p f) k z j u m.0 (inr m.1) m.1 m.1.0 (λ ds. inr m.1) x h
