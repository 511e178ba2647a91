-- What a CLP sends goes over its own links: to a tree port, to where a message came from, or towards an agent; and what
-- it names exists.
use Rattle.pm_queries.specs.declared.registered.Sent.{Sent}
use Rattle.pm_queries.specs.declared.registered.Registered.{Registered}
use Rattle.pm_queries.specs.Queries.{ask_of, behind_reg, finish_if, finish_in, finish_one, has_reg, without}
use Rattle.std.proofs.Common.{Bool, List, None, Option, Some, [], ap, arith, false, filter, get_or, get_or-set_other, get_or-set_same, inl, inr, length, length-set, map, not, refl, set, subst, suc, sym, true, zero, ℕ, ℤ, ◌&&◌, ◌++◌, ◌+◌, ◌<◌, ◌==◌, ◌∙◌, ◌∷◌, ◌≡◌, ◌≤◌, ◌⊎◌}
use Rattle.std.proofs.lemmas.Bool.{and_parts, cases_eq, cond_both}
use Rattle.std.proofs.lemmas.Bool.Decides.{nat_tests}
use Rattle.std.specs.Prelude.{int_lt}
use Rattle.pm_base.specs.Layouts.{class_of, class_row}
use Rattle.pm_base.specs.Stamps.{is_after}
use Rattle.pm_base.specs.Windows.{is_inverted, point_of, whole}
use Rattle.pm_base.specs.declared.rows.CutRow.{CutRow}
use Rattle.pm_base.specs.declared.rows.GiveRow.{GiveRow}
use Rattle.pm_base.specs.declared.rows.Parts.{Parts}
use Rattle.pm_base.specs.declared.rows.PutRow.{PutRow}
use Rattle.pm_base.specs.declared.rows.ReadRow.{ReadRow}
use Rattle.pm_base.specs.declared.stamp.Interval.{Interval}
use Rattle.pm_base.specs.declared.stamp.Num.{Num}
use Rattle.pm_base.specs.declared.stamp.Stamp.{Stamp}
use Rattle.pm_base.specs.declared.value.Period.{Period}
use Rattle.pm_base.specs.declared.value.Query.{Query}
use Rattle.pm_base.specs.declared.value.Value.{Value}
use Rattle.pm_base.specs.declared.value.Window.{Window}
use Rattle.pm_message.specs.Messages.{stamp_of}
use Rattle.pm_message.specs.declared.Message.{Message}
use Rattle.pm_periods.specs.Periods.{periods_from, periods_of}
use Rattle.pm_periods.specs.Records.{after_cut, after_put, changed_hits, changed_unless, cut_row, first_read, fresh_read, given_when, hit_by, is_live, is_stale, next_give, record_value, refreshed, refreshed_unless, settled, with_cut, with_put, with_read}
use Rattle.pm_periods.specs.Rows.{add_row, add_rows, cut_key, differs_from, first_rows, has_num, put_key, read_key, rows_in_order}
use Rattle.pm_periods.specs.declared.rows.RowKey.{RowKey}
use Rattle.pm_ranges.specs.Known.{covers}
use Rattle.pm_routes.specs.Routings.{counted, is_drawn}
use Rattle.pm_routes.specs.declared.way.Way.{Way}
use Rattle.pm_tables.specs.Tables.{grow_at, known_at}
use Rattle.pm_clp.specs.Clps.{Answered, ClpSends, ClpState, Hub, and_then, at_record, catches, catching, clp_after, counting, floor_of, forwards, grow_bound, installed, leaves, leaving, no_clp_sends, on_record, on_way, queries_watch, rec_at, reg_of, registered, sent_on, take_cut, take_put, take_watch, tell, tell_from, tell_one, tell_periods, tell_record, telling, to_agent, watch_all, watch_if, way_of, with_count}
use Rattle.pm_sim.proofs.Letters.{in_map}
use Rattle.pm_sim.proofs.Lists.{in_cases}
use Rattle.pm_sim.proofs.Places.{in_range}
use Rattle.pm_sim.proofs.Takes.{add_row_in}
use Rattle.pm_sim.proofs.Tellings.{add_read_in}
use Rattle.pm_sim.proofs.Trims.{in_filter}
use Rattle.pm_sim.specs.Sims.{In}
use Rattle.pm_message.specs.declared.Message.TheVariants as message
use Rattle.pm_base.specs.declared.value.Query.TheVariants as query
use Rattle.pm_routes.specs.declared.way.Way.TheVariants as way

-- a window whose ends stand the right way round
abbrev pub Sound : Window → Type 0
Sound w = is_inverted w ≡ false

-- the classes that a query names are those that `kin` allows
abbrev pub KindIn : (ℕ → Type 0) → Query → Type 0
KindIn kin (query.One v) = Unit {0}
KindIn kin (query.Class j w) = kin j

-- what a CLP sends: hits of variables that exist, no Wake; the stamps of Grows and Moves are those that `soon` allows
abbrev pub GiveIn : (ℕ → Type 0) → (Stamp → Type 0) → ℕ → Message → Type 0
GiveIn kin soon n (message.Give g) = g.var < n
GiveIn kin soon n (message.Wake k z) = ⊥
GiveIn kin soon n (message.Ask k z y) = KindIn kin y
GiveIn kin soon n (message.Put r_n r_t v r_c) = Unit {0}
GiveIn kin soon n (message.Cut r_n r_t v) = Unit {0}
GiveIn kin soon n (message.Finish k z) = Unit {0}
GiveIn kin soon n (message.Move v z r) = soon z
GiveIn kin soon n (message.Grow j z u w) = Sound w × kin j × soon z

-- the class that a message names is one that `kin` allows
abbrev pub NamesIn : (ℕ → Type 0) → Message → Type 0
NamesIn kin (message.Ask k z y) = KindIn kin y
NamesIn kin (message.Grow j z u w) = kin j
NamesIn kin (message.Wake k z) = Unit {0}
NamesIn kin (message.Put r_n r_t v r_c) = Unit {0}
NamesIn kin (message.Cut r_n r_t v) = Unit {0}
NamesIn kin (message.Give g) = Unit {0}
NamesIn kin (message.Finish k z) = Unit {0}
NamesIn kin (message.Move v z r) = Unit {0}

-- the variable, the class and the agent that a message names exist; A is the number of agents
abbrev pub VarIn : (ℕ → Type 0) → ℕ → ℕ → Message → Type 0
VarIn kin n A (message.Give g) = (g.var < n) × (g.num.agent < A)
VarIn kin n A (message.Wake k z) = Unit {0}
VarIn kin n A (message.Ask k z (query.One v)) = (v < n) × (k.agent < A)
VarIn kin n A (message.Ask k z (query.Class j w)) = kin j × (k.agent < A)
VarIn kin n A (message.Put r_n r_t v r_c) = v < n
VarIn kin n A (message.Cut r_n r_t v) = v < n
VarIn kin n A (message.Finish k z) = Unit {0}
VarIn kin n A (message.Move v z r) = (v < n) × ((x : ReadRow) → In x (settled r).reads → x.num.agent < A)
VarIn kin n A (message.Grow j z u w) = Sound w × kin j

point_sound : (v : Value) → Sound (point_of v)
point_sound v = (let a = less_not v.x in let b = less_not v.y in rw (a, b) refl)
  where
    less_not : (x : ℤ) → int_lt x x ≡ false
    less_not x = grind arith

-- the agents of a record's reads exist
abbrev pub ReadsIn : ℕ → Parts → Type 0
ReadsIn A r = (x : ReadRow) → In x r.reads → x.num.agent < A

-- a record's hits are of its variable, and of reads that it has
abbrev pub GivesIn : ℕ → ℕ → List GiveRow → Type 0
GivesIn A v gs = (g : GiveRow) → In g gs → (g.var ≡ v) × (g.num.agent < A)

refreshed_reads : (A : ℕ) (r0 : Parts) → ReadsIn A r0 → ReadsIn A (refreshed r0)
refreshed_reads A r0 h x i = (let o = in_map (fresh_read (record_value r0)) r0.reads x i in
    subst (λ (z : ReadRow). z.num.agent < A) (sym o.2) (subst (λ (z : Num). z.agent < A)
    (sym (same (is_stale (record_value r0) o.0) (hit_by (record_value r0) o.0) o.0)) (h o.0 o.1)))
  where
    same : (b : Bool) (z : Option Value) (q : ReadRow) → (given_when b z q).num ≡ q.num
    same true z q = refl
    same false z q = refl

changed_in : (A v : ℕ) (r0 : Parts) → ReadsIn A r0 → GivesIn A v (changed_hits v r0)
changed_in A v r0 h g i =
    let o = in_map (next_give v (record_value r0)) (filter (is_stale (record_value r0)) r0.reads) g i in (
      ap (λ (z : GiveRow). z.var) o.2,
      subst (λ (z : GiveRow). z.num.agent < A)
          (sym o.2) (h o.0 (in_filter (is_stale (record_value r0)) r0.reads o.0 o.1).0),
    )

-- what a letter makes of a record: its reads are of agents that exist, and what it gives
abbrev pub Answers : ℕ → ℕ → (Parts → Answered) → Type 0
Answers A v f = (r : Parts) → ReadsIn A r → ReadsIn A (f r).rec × GivesIn A v (f r).gives

row_answers : (A v : ℕ) (known : Bool) (r r0 : Parts)
    → ReadsIn A r → ReadsIn A r0 → ReadsIn A (refreshed_unless known r r0) × GivesIn A v (changed_unless known v r0)
row_answers A v true r r0 h h0 = (h, λ g i. absurd i)
row_answers A v false r r0 h h0 = (refreshed_reads A r0 h0, changed_in A v r0 h0)

pub put_answers : (A v : ℕ) (x : PutRow) → Answers A v (take_put v x)
put_answers A v x r h = row_answers A v (has_num put_key x.num r.puts) r (with_put x r) h h

pub cut_answers : (A v : ℕ) (x : CutRow) → Answers A v (take_cut v x)
cut_answers A v x r h = row_answers A v (has_num cut_key x.num r.cuts) r (with_cut x r) h h

pub watch_answers : (A v : ℕ) (k : Num) (z : Stamp) (w : Window) → k.agent < A → Answers A v (take_watch v k z w)
watch_answers A v k z w lt r h = row_answers A v (has_num read_key k r.reads) r (with_read (first_read k z w) r) h
    (λ x i. elim (add_read_in (first_read k z w) r.reads x i) [
      | inl e ↦
          subst (λ (y : ReadRow). y.num.agent < A) (sym e) lt
      | inr j ↦ h x j
    ])

-- the begins of a record's periods are the first one's, and stamps of its puts
periods_soon : (soon : Stamp → Type 0) (r : Parts) (from : Option Stamp) (ps : List PutRow)
    → ((z : Stamp) → from ≡ Some z → soon z) → ((x : PutRow) → In x ps → soon x.stamp)
    → (y : Period) → In y (periods_of r from ps) → (z : Stamp) → y.when.from ≡ Some z → soon z
periods_soon soon r from [] h k y (inl e) z f = h z (ap (λ (w : Period). w.when.from) (sym e) ∙ f)
periods_soon soon r from [] h k y (inr i) z f = absurd i
periods_soon soon r from (p ∷ ps) h k y i z f =
    cond_both (is_live r.cuts p && is_after from p.stamp)
    (record { when = record { from = from; until = Some p.stamp }; value = record_value r p.stamp }
    ∷ periods_of r (Some p.stamp) ps) (periods_of r from ps) (λ ys. In y ys → soon z)
    (λ _ j. elim j [
      | inl e ↦ h z (ap (λ (w : Period). w.when.from) (sym e) ∙ f)
      | inr c ↦ periods_soon soon
          r (Some p.stamp) ps (λ w g. subst soon (some_stamp p.stamp w g) (k p (inl refl))) (λ x d. k x (inr d)) y c z f
    ])
    (λ _ j. periods_soon soon r from ps h (λ x d. k x (inr d)) y j z f) i
  where
    some_stamp : (x y : Stamp) → Some x ≡ Some y → x ≡ y
    some_stamp x y g = cc

-- the rows that are brought into order are those that came
pub rows_in : {X : Type 0} (key : X → RowKey) (rs : List X) (x : X) → In x (rows_in_order key rs) → In x rs
rows_in {X = X} key rs x i = elim (added [] rs x (firsts (add_rows key [] rs) x i)) [ inl j ↦ absurd j | inr j ↦ j ]
  where
    firsts : (ys : List X) (x : X) → In x (first_rows key ys) → In x ys
    firsts [] x j = j
    firsts (y ∷ ys) x (inl e) = inl e
    firsts (y ∷ ys) x (inr j) = inr (firsts ys x (in_filter (differs_from key y) (first_rows key ys) x j).0)

    added : (done : List X) (ys : List X) (x : X) → In x (add_rows key done ys) → In x done ⊎ In x ys
    added done [] x j = inl j
    added done (y ∷ ys) x j = elim (added (add_row key y done) ys x j) [
      | inr k ↦ inr (inr k)
      | inl k ↦ elim (add_row_in key y done x k) [ inl e ↦ inr (inl e) | inr m ↦ inl m ]
    ]

put_soon : (soon : Stamp → Type 0) (v : ℕ) (q : PutRow) → soon q.stamp → (r : Parts)
    → ((x : PutRow) → In x r.puts → soon x.stamp) → (x : PutRow) → In x (after_put q r).puts → soon x.stamp
put_soon soon v q sq r h x i = go (has_num put_key q.num r.puts) i
  where
    go : (b : Bool) → In x (refreshed_unless b r (with_put q r)).puts → soon x.stamp
    go true j = h x j
    go false j = elim (add_row_in put_key q r.puts x j) [
      | inl e ↦ subst (λ (z : PutRow). soon z.stamp) (sym e) sq
      | inr k ↦ h x k
    ]

cut_soon : (soon : Stamp → Type 0) (v : ℕ) (q : CutRow) (r : Parts)
    → ((x : PutRow) → In x r.puts → soon x.stamp) → (x : PutRow) → In x (after_cut q r).puts → soon x.stamp
cut_soon soon v q r h x i = go (has_num cut_key q.num r.cuts) i
  where
    go : (b : Bool) → In x (refreshed_unless b r (with_cut q r)).puts → soon x.stamp
    go true j = h x j
    go false j = h x j

module _ (h : Hub) (link : ℕ → Type 0)
    (port_link : (d : ℕ) → In d h.ports → link d) (A : ℕ) (agent_link : (a : ℕ) → a < A → link (get_or h.to_agents a 0))
    (n : ℕ) (range : (k : ℕ) → (class_row h.classes k).first + (class_row h.classes k).count ≤ n)
    (kin : ℕ → Type 0) (kinds : (v : ℕ) → v < n → kin (class_of h.classes v)) (soon : Stamp → Type 0) where
  abbrev pub Out : Sent → Type 0
  Out y = link y.to × GiveIn kin soon n y.message

  abbrev pub AllOut : List Sent → Type 0
  AllOut ss = (y : Sent) → In y ss → Out y

  none : AllOut []
  none y i = absurd i

  both : (xs ys : List Sent) → AllOut xs → AllOut ys → AllOut (xs ++ ys)
  both xs ys a e y i = elim (in_cases xs ys y i) [ inl j ↦ a y j | inr j ↦ e y j ]

  chain : (r : ClpSends) (f : ClpState → ClpSends)
      → AllOut r.sent → ((s : ClpState) → AllOut (f s).sent) → AllOut (and_then r f).sent
  chain r f a e = both r.sent (f r.clp).sent a (e r.clp)

  one : (y : Sent) → Out y → AllOut (y ∷ [])
  one y o x i = elim i [ inl e ↦ subst Out (sym e) o | inr z ↦ absurd z ]

  gives_out : (v : ℕ) → v < n → (gs : List GiveRow) → GivesIn A v gs → AllOut (map (to_agent h) gs)
  gives_out v lv gs g y i = (let o = in_map (to_agent h) gs y i in let a =
      g o.0 o.1 in subst Out (sym o.2) (agent_link o.0.num.agent a.1, subst (λ z. z < n) (sym a.0) lv))

  -- the state: its reads are of agents that exist, its stamps are such
  pub record Fine (s : ClpState) : Type 0 where
    pub floor : soon (floor_of s.line)
    pub puts : (v : ℕ) (r : Parts) → rec_at s.records v ≡ Some r → (x : PutRow) → In x r.puts → soon x.stamp
    pub reads : (v : ℕ) (r : Parts) → rec_at s.records v ≡ Some r → ReadsIn A r

  record_out : (v : ℕ)
      → v < n → (f : Parts → Answered) → Answers A v f → (s : ClpState) → Fine s → AllOut (at_record h v f s).sent
  record_out v lv f a s fine = go (rec_at s.records v) refl
    where
      go : (o : Option Parts) → rec_at s.records v ≡ o → AllOut (on_record h v f o s).sent
      go None e = none
      go (Some r) e = gives_out v lv (f r).gives (a r (fine.reads v r e)).1

  -- bounds
  catch_out : (d k : ℕ) → kin k → link d → (s : ClpState) → AllOut (catching h d k s).sent
  catch_out d k kk i s y j = (let o = in_map
      (λ (r : Registered). record { to = d; message = ask_of r }) (filter (catches h s.bound d k) s.queries) y j in
      let f = (in_filter (catches h s.bound d k) s.queries o.0 o.1).1 in
      let e : k ≡ o.0.class = same_kind k o.0.class _ f in
      subst Out (sym o.2) (i, subst kin e kk))
    where
      same_kind : (x y : ℕ) (z : Bool) → ((x == y) && z) ≡ true → x ≡ y
      same_kind x y z e = (let f = (and_parts (x == y) z e).0 in grind (arith, nat_tests, f))

  tell_one_out : (k : ℕ) → kin k → (from : Stamp) → soon from → (until : Option Stamp) (w : Window)
      → Sound w → (d : ℕ) → link d → (s : ClpState) → AllOut (tell_one h k from until w d s).sent
  tell_one_out k kk from sf until w ok d ld s =
      let when : Interval = record { from = Some from; until = until } in
      let told : ClpSends = record {
        clp = record s { told = grow_at h.ports d k when w s.told };
        sent =
            record { to = d; message = message.Grow k from until w } ∷ [];
      } in
      cond_both (covers (known_at h.ports d k s.told) when w) (no_clp_sends s) told (λ (r : ClpSends). AllOut r.sent)
      (λ _. none) (λ _. one (record { to = d; message = message.Grow k from until w }) (ld, (ok, kk, sf)))

  tell_out : (k : ℕ) → kin k → (from : Stamp) → soon from → (until : Option Stamp) (w : Window) → Sound w
      → (ds : List ℕ) → ((d : ℕ) → In d ds → link d) → (s : ClpState) → AllOut (tell h k from until w ds s).sent
  tell_out k kk from sf until w ok [] g s = none
  tell_out k kk from sf until w ok (d ∷ ds) g s =
      chain (tell_one h k from until w d s) (tell h k from until w ds) (tell_one_out
      k kk from sf until w ok d (g d (inl refl)) s) (tell_out k kk from sf until w ok ds (λ e i. g e (inr i)))

  periods_out : (k : ℕ)
      → kin k → (rs : List Period) → ((y : Period) → In y rs → (z : Stamp) → y.when.from ≡ Some z → soon z)
      → (s : ClpState) → AllOut (tell_periods h k rs s).sent
  periods_out k kk [] g s = none
  periods_out k kk (r ∷ rs) g s = chain (tell_from h k r.when.from r s)
      (tell_periods h k rs) (go r.when.from refl) (periods_out k kk rs (λ y i. g y (inr i)))
    where
      go : (o : Option Stamp) → r.when.from ≡ o → AllOut (tell_from h k o r s).sent
      go None e = none
      go (Some from) e = tell_out
          k kk from (g r (inl refl) from e) r.when.until (point_of r.value) (point_sound r.value) h.ports port_link s

  telling_out : (v : ℕ)
      → v < n → (from : Stamp) → soon from → (s : ClpState) → Fine s → AllOut (telling h v from s).sent
  telling_out v lv from sf s fine = go (rec_at s.records v) refl
    where
      some_stamp : (x y : Stamp) → Some x ≡ Some y → x ≡ y
      some_stamp x y f = cc

      go : (o : Option Parts) → rec_at s.records v ≡ o → AllOut (tell_record h v from o s).sent
      go None e = none
      go (Some r) e = periods_out (class_of h.classes v) (kinds v lv) (periods_from r (Some from))
          (periods_soon soon r (Some from) r.puts (λ z f. subst soon (some_stamp from z f) sf) (fine.puts v r e)) s

  -- telling leaves the line
  tell_line : (k : ℕ) (from : Stamp) (until : Option Stamp) (w : Window) (ds : List ℕ) (s : ClpState)
      → (tell h k from until w ds s).clp.line ≡ s.line
  tell_line k from until w [] s = refl
  tell_line k from until w (d ∷ ds) s =
      let when : Interval = record { from = Some from; until = until } in
      let told : ClpSends = record {
        clp = record s { told = grow_at h.ports d k when w s.told };
        sent =
            record { to = d; message = message.Grow k from until w } ∷ [];
      } in
      tell_line k from until w ds _ ∙ cond_both (covers (known_at h.ports d k s.told) when w)
      (no_clp_sends s) told (λ (r : ClpSends). r.clp.line ≡ s.line) (λ _. refl) (λ _. refl)

  periods_line : (k : ℕ) (rs : List Period) (s : ClpState) → (tell_periods h k rs s).clp.line ≡ s.line
  periods_line k [] s = refl
  periods_line k (r ∷ rs) s = periods_line k rs _ ∙ go r.when.from
    where
      go : (o : Option Stamp) → (tell_from h k o r s).clp.line ≡ s.line
      go None = refl
      go (Some from) = tell_line k from r.when.until (point_of r.value) h.ports s

  telling_line : (v : ℕ) (from : Stamp) (s : ClpState) → (telling h v from s).clp.line ≡ s.line
  telling_line v from s = go (rec_at s.records v)
    where
      go : (o : Option Parts) → (tell_record h v from o s).clp.line ≡ s.line
      go None = refl
      go (Some r) = periods_line (class_of h.classes v) (periods_from r (Some from)) s

  -- a record takes a letter: the line stays, and its puts are old ones and the letter's
  record_line : (v : ℕ) (f : Parts → Answered) (s : ClpState) → (at_record h v f s).clp.line ≡ s.line
  record_line v f s = go (rec_at s.records v)
    where
      go : (o : Option Parts) → (on_record h v f o s).clp.line ≡ s.line
      go None = refl
      go (Some r) = refl

  record_fine : (v : ℕ) (f : Parts → Answered) → Answers A v f
      → ((r : Parts) → ((x : PutRow) → In x r.puts → soon x.stamp) → (x : PutRow) → In x (f r).rec.puts → soon x.stamp)
      → (s : ClpState) → Fine s → Fine (at_record h v f s).clp
  record_fine v f a g s fine = go (rec_at s.records v) refl
    where
      some_rec : (x y : Parts) → Some x ≡ Some y → x ≡ y
      some_rec x y f = cc

      go : (o : Option Parts) → rec_at s.records v ≡ o → Fine (on_record h v f o s).clp
      go None e = fine
      go (Some r) e = record {
        floor = fine.floor;
        puts = λ u y k. elim (cases_eq u v) [
          | inl q ↦ subst (λ (z : Parts). (x : PutRow) → In x z.puts → soon x.stamp)
              (some_rec (f r).rec y (here u y q k)) (g r (fine.puts v r e))
          | inr ne ↦ fine.puts u y (sym (get_or-set_other s.records v u (Some (f r).rec) None ne) ∙ k)
        ];
        reads = λ u y k. elim (cases_eq u v) [
          | inl q ↦ subst (ReadsIn A) (some_rec (f r).rec y (here u y q k)) (a r (fine.reads v r e)).0
          | inr ne ↦ fine.reads u y (sym (get_or-set_other s.records v u (Some (f r).rec) None ne) ∙ k)
        ];
      }
        where
          here : (u : ℕ) (y : Parts)
              → u ≡ v → rec_at (set s.records v (Some (f r).rec)) u ≡ Some y → Some (f r).rec ≡ Some y
          here u y q k = sym (get_or-set_same s.records v (Some (f r).rec) None (in_range s.records v r e))
              ∙ (ap (λ z. rec_at (set s.records v (Some (f r).rec)) z) (sym q) ∙ k)

  -- counted
  counted_out : (v : ℕ)
      → v < n → (from : ℕ) → link from → (s : ClpState) → soon (floor_of s.line) → AllOut (counting h v from s).sent
  counted_out v lv from lf s fl =
      go (is_drawn (counted s.routing v from) v from) (rec_at s.records v) (with_count h v from s) fl
    where
      go : (b : Bool) (o : Option Parts) (z : ClpState) → soon (floor_of z.line) → AllOut (leaves h b v from o z).sent
      go false o z fl = none
      go true None z fl = none
      go true (Some r) z fl = chain (leaving h v from r z) (catching h from (class_of h.classes v))
          (one (record { to = from; message = message.Move v (floor_of z.line) r }) (lf, fl))
          (catch_out from (class_of h.classes v) (kinds v lv) lf)

  -- class queries
  watch_out : (k : Num) (z : Stamp) (w : Window)
      → k.agent < A → (i m : ℕ) → i + m ≤ n → (s : ClpState) → Fine s → AllOut (watch_all h k z w i m s).sent
  watch_out k z w ka i zero le s fine = none
  watch_out k z w ka i (suc m) le s fine =
      both (at_record h i (take_watch i k z w) s).sent
      (watch_all h k z w (suc i) m (at_record h i (take_watch i k z w) s).clp).sent
      (record_out i (omega arith) (take_watch i k z w) (watch_answers A i k z w ka) s fine)
      (watch_out
      k z w ka (suc i) m (omega arith) (at_record h i (take_watch i k z w) s).clp (watch_fine k z w ka i s fine))
    where
      watch_fine : (k : Num) (z : Stamp) (w : Window)
          → k.agent < A → (i : ℕ) (s : ClpState) → Fine s → Fine (at_record h i (take_watch i k z w) s).clp
      watch_fine k z w ka i s fine =
          record_fine i (take_watch i k z w) (watch_answers A i k z w ka) (λ r g. watch_puts k z w i r g) s fine
        where
          watch_puts : (k : Num) (z : Stamp) (w : Window) (i : ℕ) (r : Parts)
              → ((x : PutRow) → In x r.puts → soon x.stamp)
              → (x : PutRow) → In x (take_watch i k z w r).rec.puts → soon x.stamp
          watch_puts k z w i r g x j = by (has_num read_key k r.reads) j
            where
              by : (b : Bool) → In x (refreshed_unless b r (with_read (first_read k z w) r)).puts → soon x.stamp
              by true c = g x c
              by false c = g x c

  forwards_out : (from : ℕ) → link from → (r : Registered)
      → kin r.class → (ds : List ℕ) → ((d : ℕ) → In d ds → In d h.ports) → AllOut (forwards h from r ds)
  forwards_out from lf r kk [] g = one (record { to = from; message = message.Finish r.num r.stamp }) (lf, tt)
  forwards_out from lf r kk (d ∷ ds) g =
      λ y i. (let o = in_map (λ e. record { to = e; message = ask_of r }) (d ∷ ds) y i in
      subst Out (sym o.2) (port_link o.0 (g o.0 o.1), kk))

  registered_out : (from : ℕ) → link from
      → (k : Num) (z : Stamp) (j : ℕ) → kin j → (w : Window) (s : ClpState) → AllOut (registered h from k z j w s).sent
  registered_out from lf k z j kk w s =
      forwards_out from lf (reg_of h from k z j w (filter (sent_on h s.bound from j z w) h.ports)) kk (filter
      (sent_on h s.bound from j z w) h.ports) (λ d i. (in_filter (sent_on h s.bound from j z w) h.ports d i).0)

  way_out : (y : Way) (m : Message) (s : ClpState) (f : ClpState → ClpSends)
      → ((d : ℕ) → y ≡ way.Port d → link d) → GiveIn kin soon n m → AllOut (f s).sent → AllOut (on_way h y m s f).sent
  way_out way.Here m s f g o a = a
  way_out (way.Port d) m s f g o a = one (record { to = d; message = m }) (g d refl, o)

  finish_out : (k : Num) (d : ℕ) (rs : List Registered)
      → ((r : Registered) → In r rs → link r.from) → AllOut (finish_in k d rs).sent
  finish_out k d [] g = none
  finish_out k d (r ∷ rs) g =
      cond_both _ (finish_one d r rs _) (behind_reg r (finish_in k d rs))
      (λ e. AllOut e.sent) (λ _. ends _) (λ _. finish_out k d rs (λ x i. g x (inr i)))
    where
      done : (ws : List ℕ) → AllOut (finish_if ws r)
      done [] = one (record { to = r.from; message = message.Finish r.num r.stamp }) (g r (inl refl), tt)
      done (y ∷ ws) = none

      ends : (x : Bool) → AllOut (finish_one d r rs x).sent
      ends true = done (without d r.waits)
      ends false = none

  joins_out : (v : ℕ) → v < n → (rs : List Registered)
      → ((r : Registered) → In r rs → r.num.agent < A) → (s : ClpState) → Fine s → AllOut (queries_watch h v rs s).sent
  joins_out v lv [] g s fine = none
  joins_out v lv (r ∷ rs) g s fine = go (class_of h.classes v == r.class) (joins_out v lv rs (λ x i. g x (inr i)))
    where
      ans : Answers A v (take_watch v r.num r.stamp r.window)
      ans = watch_answers A v r.num r.stamp r.window (g r (inl refl))

      watch_puts : (y : Parts) → ((x : PutRow) → In x y.puts → soon x.stamp)
          → (x : PutRow) → In x (take_watch v r.num r.stamp r.window y).rec.puts → soon x.stamp
      watch_puts y k x j = by (has_num read_key r.num y.reads) j
        where
          by : (b : Bool)
              → In x (refreshed_unless b y (with_read (first_read r.num r.stamp r.window) y)).puts → soon x.stamp
          by true c = k x c
          by false c = k x c

      go : (b : Bool) → ((z : ClpState) → Fine z → AllOut (queries_watch h v rs z).sent)
          → AllOut (and_then (watch_if h b v r s) (queries_watch h v rs)).sent
      go false again = again s fine
      go true again = both (at_record h v (take_watch v r.num r.stamp r.window) s).sent
          (queries_watch h v rs (at_record h v (take_watch v r.num r.stamp r.window) s).clp).sent
          (record_out v lv (take_watch v r.num r.stamp r.window) ans s fine)
          (again (at_record h v (take_watch v r.num r.stamp r.window) s).clp
          (record_fine v (take_watch v r.num r.stamp r.window) ans watch_puts s fine))

  -- the state: its ways lead over links, its queries came over links and are of agents that exist
  pub record PortsOk (s : ClpState) : Type 0 where
    pub ways : (v d : ℕ) → v < n → get_or s.routing.ways v way.Here ≡ way.Port d → link d
    pub regs : (r : Registered) → In r s.queries → link r.from × (r.num.agent < A)

  -- a record that comes
  installed_fine : (from v : ℕ) (r : Parts) (s : ClpState) → ReadsIn A (settled r)
      → ((x : PutRow) → In x (settled r).puts → soon x.stamp) → Fine s → Fine (installed h from v (settled r) s)
  installed_fine from v r s rd pt fine = record {
    floor = fine.floor;
    puts = λ u y k. at (λ (z : Parts). (x : PutRow) → In x z.puts → soon x.stamp) pt fine.puts u y k;
    reads = λ u y k. at (ReadsIn A) rd fine.reads u y k;
  }
    where
      some_rec : (x y : Parts) → Some x ≡ Some y → x ≡ y
      some_rec x y f = cc

      at : (P : Parts → Type 0) → P (settled r) → ((u : ℕ) (y : Parts) → rec_at s.records u ≡ Some y → P y)
          → (u : ℕ) (y : Parts) → rec_at (set s.records v (Some (settled r))) u ≡ Some y → P y
      at P ps hs u y e = elim (cases_eq u v) [
        | inr ne ↦ hs u y (sym (get_or-set_other s.records v u (Some (settled r)) None ne) ∙ e)
        | inl g ↦ (let e' : rec_at (set s.records v (Some (settled r))) v ≡ Some y =
            ap (rec_at (set s.records v (Some (settled r)))) (sym g) ∙ e in
            let lt : v < length s.records = (let a = in_range (set s.records v (Some (settled r))) v y e' in let l =
            length-set s.records v (Some (settled r)) in omega arith) in
            subst P (some_rec (settled r) y (sym (get_or-set_same s.records v (Some (settled r)) None lt) ∙ e')) ps)
      ]

  -- the puts of a Move are of stamps that `soon` allows
  abbrev pub MoveSoon : Message → Type 0
  MoveSoon (message.Move v z r) = (x : PutRow) → In x (settled r).puts → soon x.stamp
  MoveSoon (message.Wake k z) = Unit {0}
  MoveSoon (message.Ask k z y) = Unit {0}
  MoveSoon (message.Put r_n r_t v r_c) = Unit {0}
  MoveSoon (message.Cut r_n r_t v) = Unit {0}
  MoveSoon (message.Give g) = Unit {0}
  MoveSoon (message.Finish k z) = Unit {0}
  MoveSoon (message.Grow j z u w) = Unit {0}

  pub clp_out : (from : ℕ) (m : Message) (s : ClpState) → link from
      → VarIn kin n A m → PortsOk s → soon (stamp_of m) → MoveSoon m → Fine s → AllOut (clp_after h from m s).sent
  clp_out from (message.Wake k z) s lf lv ok sm ms fine = none
  clp_out from (message.Give g) s lf lv ok sm ms fine = one (to_agent h g) (agent_link g.num.agent lv.1, lv.0)
  clp_out from (message.Put r_n r_t v r_c) s lf lv ok sm ms fine =
      let r : PutRow = record { num = r_n; stamp = r_t; change = r_c } in
      way_out (way_of v s) (message.Put r_n r_t v r_c) s _ (λ d e. ok.ways v d lv e) tt
      (let z : ClpState = (at_record h v (take_put v r) s).clp in
      both _ (counting h v from (telling h v r_t z).clp).sent
      (both (at_record h v (take_put v r) s).sent
      (telling h v r_t z).sent (record_out v lv (take_put v r) (put_answers A v r) s fine)
      (telling_out v lv r_t sm z (record_fine v (take_put v r) (put_answers A v r) (put_soon soon v r sm) s fine)))
      (counted_out v lv from lf (telling h v r_t z).clp
      (subst (λ l. soon (floor_of l)) (sym (telling_line v r_t z ∙ record_line v (take_put v r) s)) fine.floor)))
  clp_out from (message.Cut r_n r_t v) s lf lv ok sm ms fine =
      let r : CutRow = cut_row r_n r_t in
      way_out (way_of v s) (message.Cut r_n r_t v) s _ (λ d e. ok.ways v d lv e) tt
      (let z : ClpState = (at_record h v (take_cut v r) s).clp in
      both (at_record h v (take_cut v r) s).sent
      (telling h v r_t z).sent (record_out v lv (take_cut v r) (cut_answers A v r) s fine)
      (telling_out v lv r_t sm z (record_fine v (take_cut v r) (cut_answers A v r) (cut_soon soon v r) s fine)))
  clp_out from (message.Ask k z (query.One v)) s lf lv ok sm ms fine =
      way_out (way_of v s) (message.Ask k z (query.One v)) s _ (λ d e. ok.ways v d lv.0 e) tt
      (let y : ClpState = (at_record h v (take_watch v k z whole) s).clp in
      both (at_record h v (take_watch v k z whole) s).sent (counting h v from y).sent
      (record_out v lv.0 (take_watch v k z whole) (watch_answers A v k z whole lv.1) s fine) (counted_out v
      lv.0 from lf y (subst (λ l. soon (floor_of l)) (sym (record_line v (take_watch v k z whole) s)) fine.floor)))
  clp_out from (message.Ask k z (query.Class j w)) s lf lv ok sm ms fine =
      cond_both (has_reg k s.queries) (no_clp_sends s) (and_then (watch_all h k z w (class_row h.classes j).first
      (class_row h.classes j).count s) (registered h from k z j w)) (λ (r : ClpSends). AllOut r.sent) (λ _. none)
      (λ _. chain (watch_all h k z w (class_row h.classes j).first (class_row h.classes j).count s)
      (registered h from k z j w) (watch_out k z w lv.1 (class_row h.classes j).first
      (class_row h.classes j).count (range j) s fine) (registered_out from lf k z j lv.0 w))
  clp_out from (message.Finish k z) s lf lv ok sm ms fine = finish_out k from s.queries (λ r i. (ok.regs r i).0)
  clp_out from (message.Move v z r) s lf lv ok sm ms fine = joins_out v lv.0
      s.queries (λ q i. (ok.regs q i).1) (installed h from v (settled r) s) (installed_fine from v r s lv.1 ms fine)
  clp_out from (message.Grow j z u w) s lf lv ok sm ms fine =
      let s1 : ClpState = grow_bound h from j (record { from = Some z; until = u }) w s in
      chain (catching h from j s1) (tell h j z u w (without from h.ports)) (catch_out from j lv.1 lf s1)
      (tell_out j lv.1
      z sm u w lv.0 (without from h.ports) (λ e i. port_link e (in_filter (λ e. not (from == e)) h.ports e i).0))
