-- A Put, a Cut and an Ask at the record that they are for.
use Rattle.pm_base.specs.Stamps.{num_eq}
use Rattle.pm_alp.specs.declared.agent.Agent.{Agent}
use Rattle.std.proofs.Common.{◌≡◌, ℕ, ◌+◌, ◌≤◌, ◌⊎◌, inl, inr, Bool, true, false, cond, List, [], ◌∷◌, map, refl, arith, ap, sym, ◌∙◌, subst, None}
use Rattle.std.proofs.lemmas.Bool.{cases_Bool, cond_both}
use Rattle.pm_periods.proofs.Hits.{fresh_all}
use Rattle.pm_periods.proofs.Receipts.{after_put-settled, after_cut-settled, after_watch-settled}
use Rattle.pm_periods.specs.declared.rows.RowKey.{RowKey}
use Rattle.pm_base.specs.declared.rows.CutRow.{CutRow}
use Rattle.pm_base.specs.declared.rows.Parts.{Parts}
use Rattle.pm_base.specs.declared.rows.PutRow.{PutRow}
use Rattle.pm_base.specs.declared.rows.ReadRow.{ReadRow}
use Rattle.pm_base.specs.declared.stamp.Line.{Line}
use Rattle.pm_base.specs.declared.stamp.Num.{Num}
use Rattle.pm_base.specs.declared.stamp.Stamp.{Stamp}
use Rattle.pm_base.specs.declared.value.Query.{Query}
use Rattle.pm_base.specs.Windows.{whole}
use Rattle.pm_message.specs.declared.Message.{Message}
use Rattle.pm_model.specs.declared.State.{State}
use Rattle.pm_periods.specs.Records.{IsSettled, record_value, refreshed, with_cut, with_put, with_read}
use Rattle.pm_periods.specs.Rows.{add_row, cut_key, key_lt, put_key}
use Rattle.pm_plan.specs.declared.plan.Plan.{Plan}
use Rattle.pm_clp.specs.Clps.{Answered, take_put, take_cut, take_watch}
use Rattle.pm_sim.specs.Sims.{Core, In, MailOk, Names, NotPast, cut_msg, changed_gives, has_cut, has_put, has_read, is_cut, is_put, one_if, put_msg, tally, window_of}
use Rattle.pm_sim.proofs.Arrivals.{Mailed, core_record}
use Rattle.pm_sim.proofs.Quiets.{tally_in, put_same, n}
use Rattle.pm_sim.proofs.Stamps.{nums_same, num_eq_self}
use Rattle.pm_sim.proofs.Tellings.{add_read_told, add_read_has, add_read_in, add_read_once}
use Rattle.pm_base.specs.declared.value.Query.TheVariants as query
use Rattle.pm_message.specs.declared.Message.TheVariants as message

one_swap : (a b : Bool) (n : ℕ) → one_if a (one_if b n) ≡ one_if b (one_if a n)
one_swap true true n = refl
one_swap true false n = refl
one_swap false b n = refl

one_more : (a : Bool) (n : ℕ) → one_if a n ≡ n + one_if a 0
one_more true n = omega arith
one_more false n = omega arith

pub add_row_in : {X : Type 0} (key : X → RowKey) (r : X) (xs : List X) (x : X)
    → In x (add_row key r xs) → (x ≡ r) ⊎ In x xs
add_row_in key r [] x i = i
add_row_in key r (y ∷ ys) x i = (let again = add_row_in key r ys x in go (key_lt (key r) (key y)) again i)
  where
    go : (b : Bool) → (In x (add_row key r ys) → (x ≡ r) ⊎ In x ys)
        → In x (cond b (r ∷ (y ∷ ys)) (y ∷ add_row key r ys)) → (x ≡ r) ⊎ In x (y ∷ ys)
    go true rec i = i
    go false rec (inl e) = inr (inl e)
    go false rec (inr j) = elim (rec j) [ inl e ↦ inl e | inr k ↦ inr (inr k) ]

add_row_tally : {X : Type 0} (key : X → RowKey) (P : X → Bool) (r : X) (xs : List X)
    → tally P (add_row key r xs) ≡ one_if (P r) (tally P xs)
add_row_tally key P r [] = refl
add_row_tally key P r (y ∷ ys) = (let again = add_row_tally key P r ys in
    cond_both (key_lt (key r) (key y))
    (r ∷ (y ∷ ys)) (y ∷ add_row key r ys) (λ z. tally P z ≡ one_if (P r) (tally P (y ∷ ys)))
    (λ _. refl) (λ _. ap (one_if (P y)) again ∙ one_swap (P y) (P r) (tally P ys)))

-- a record as it was
abbrev pub unchanged_answer : Parts → Answered
unchanged_answer r = record { rec = r; gives = [] }

-- a record with a new row, given its hits
abbrev pub refreshed_answer : ℕ → Parts → Answered
refreshed_answer v r0 = record { rec = refreshed r0; gives = changed_gives v r0 r0.reads }

has_put_in : (n : Num) (rs : List PutRow) → has_put n rs ≡ true → 1 ≤ tally (λ (k : PutRow). num_eq n k.num) rs
has_put_in n [] e = absurd (cc)
has_put_in n (r ∷ rs) e = elim (cases_Bool (num_eq n r.num)) [
  | inl f ↦ rw f (omega arith)
  | inr f ↦ (let g = has_put_in n rs (grind (arith, e, f)) in rw f g)
]

has_cut_tally : (n : Num) (rs : List CutRow) → has_cut n rs ≡ true → 1 ≤ tally (λ (k : CutRow). num_eq n k.num) rs
has_cut_tally n [] e = absurd (cc)
has_cut_tally n (r ∷ rs) e = elim (cases_Bool (num_eq n r.num)) [
  | inl f ↦ rw f (omega arith)
  | inr f ↦ (let g = has_cut_tally n rs (grind (arith, e, f)) in rw f g)
]

put_of : (v u : ℕ) (r : PutRow) → put_msg v r ≡ put_msg u r → v ≡ u
put_of v u r e = cc

module _ (p : Plan) (l : Line)
    (q : State) (issued : List Message) (agents : List Agent) (recs recs' : ℕ → Parts) (old new : List Message)
    (pend : Num → ℕ → Type 0) (wait : Num → Type 0) (core : Core p l q issued agents recs old pend wait) (v : ℕ) where
  -- a Put at its record is new there
  pub put_is_new : (row : PutRow) → In (put_msg v row) old → has_put row.num (recs v).puts ≡ false
  put_is_new row i =
      let o = core.mail (put_msg v row) i in
      let one = (core.put_once v row o.0 o.1).1 in
      let here = tally_in (is_put row.num) old (put_msg v row) i (num_eq_self row.num) in
      elim (cases_Bool (has_put row.num (recs v).puts)) [
        | inr e ↦ e
        | inl e ↦ absurd (let k = has_put_in row.num (recs v).puts e in omega arith)
      ]

  pub core_put : (row : PutRow) → Mailed old new (put_msg v row) (map message.Give (take_put v row (recs v)).gives)
      → recs' v ≡ (take_put v row (recs v)).rec → ((u : ℕ) → (u ≡ v → ⊥) → recs' u ≡ recs u)
      → Core p l q issued agents recs' new pend wait
  core_put row mailed here there =
      let r : Parts = recs v in
      let r0 : Parts = with_put row r in
      let o = core.mail (put_msg v row) mailed.first in
      let ok = core.rec v in
      let is : take_put v row r ≡ refreshed_answer v r0 = rw (put_is_new row mailed.first) refl in
      core_record p l q issued agents recs recs' old new pend wait core v r0 (put_msg v row)
      (subst (λ (z : Answered). Mailed old new (put_msg v row) (map message.Give z.gives)) is mailed)
      (record {
        base = refl;
        puts = λ x i. elim (add_row_in put_key row r.puts x i) [
          | inl e ↦ subst (λ z. In (put_msg v z) issued × NotPast l z.stamp) (sym e) (o.0, o.1)
          | inr j ↦ ok.puts x j
        ];
        cuts = ok.cuts;
        reads = ok.reads;
        solid = subst IsSettled (ap (λ (z : Answered). z.rec) is) (after_put-settled row r ok.solid);
        once = ok.solid.reads_once;
        same_told = λ n. refl;
        has = λ n e. e;
        put_tally =
            λ n. add_row_tally put_key (λ (k : PutRow). num_eq n k.num) row r.puts ∙ one_more (num_eq n row.num) _;
        cut_tally = λ n. omega arith;
        ask = λ n s u e. absurd (cc);
        no_give = λ g e. cc;
        no_wake = λ n s e. cc;
        put_var = λ u x i e. (let same : x.num ≡ row.num =
            nums_same x.num row.num e in (put_same u v x row (core.unique _ _ i o.0 same)).0);
        cut_var = λ u x i e. absurd (cc);
      })
      (here ∙ ap (λ (z : Answered). z.rec) is) there

  -- a Cut at its record is new there
  pub cut_is_new : (row : CutRow) → In (cut_msg v row) old → has_cut row.num (recs v).cuts ≡ false
  cut_is_new row i =
      let o = core.mail (cut_msg v row) i in
      let g : MailOk p issued (cut_msg v row) = o.0 in
      let one = core.cut_once v (record { num = row.num; stamp = row.stamp; change = g.0 }) g.1 o.1 in
      let here = tally_in (is_cut row.num) old (cut_msg v row) i (num_eq_self row.num) in
      elim (cases_Bool (has_cut row.num (recs v).cuts)) [
        | inr e ↦ e
        | inl e ↦ absurd (let k = has_cut_tally row.num (recs v).cuts e in omega arith)
      ]

  pub core_cut : (row : CutRow) → Mailed old new (cut_msg v row) (map message.Give (take_cut v row (recs v)).gives)
      → recs' v ≡ (take_cut v row (recs v)).rec → ((u : ℕ) → (u ≡ v → ⊥) → recs' u ≡ recs u)
      → Core p l q issued agents recs' new pend wait
  core_cut row mailed here there =
      let r : Parts = recs v in
      let r0 : Parts = with_cut row r in
      let o = core.mail (cut_msg v row) mailed.first in
      let g : MailOk p issued (cut_msg v row) = o.0 in
      let ok = core.rec v in
      let is : take_cut v row r ≡ refreshed_answer v r0 = rw (cut_is_new row mailed.first) refl in
      core_record p l q issued agents recs recs' old new pend wait core v r0 (cut_msg v row)
      (subst (λ (z : Answered). Mailed old new (cut_msg v row) (map message.Give z.gives)) is mailed)
      (record {
        base = refl;
        puts = ok.puts;
        cuts = λ x i. elim (add_row_in cut_key row r.cuts x i) [
          | inl e ↦ subst (λ z. MailOk p issued (cut_msg v z) × NotPast l z.stamp) (sym e) (o.0, o.1)
          | inr j ↦ ok.cuts x j
        ];
        reads = ok.reads;
        solid = subst IsSettled (ap (λ (z : Answered). z.rec) is) (after_cut-settled row r ok.solid);
        once = ok.solid.reads_once;
        same_told = λ n. refl;
        has = λ n e. e;
        put_tally = λ n. omega arith;
        cut_tally =
            λ n. add_row_tally cut_key (λ (k : CutRow). num_eq n k.num) row r.cuts ∙ one_more (num_eq n row.num) _;
        ask = λ n s u e. absurd (cc);
        no_give = λ g e. cc;
        no_wake = λ n s e. cc;
        put_var = λ u x i e. absurd (cc);
        cut_var = λ u x i e. (let same : x.num ≡ row.num = nums_same x.num row.num e in (put_same
            u v x (record { num = row.num; stamp = row.stamp; change = g.0 }) (core.unique _ _ i g.1 same)).0);
      })
      (here ∙ ap (λ (z : Answered). z.rec) is) there

  ask_same : (n m : Num) (s t : Stamp) (u w : ℕ)
      → message.Ask n s (query.One u) ≡ message.Ask m t (query.One w) → (n ≡ m) × (u ≡ w)
  ask_same n m s t u w e = (cc, cc)

  -- an Ask at its record, where its read isn't known
  pub core_ask : (n : Num) (s : Stamp) → has_read n (recs v).reads ≡ false
      → Mailed old new (message.Ask n s (query.One v)) (map message.Give (take_watch v n s whole (recs v)).gives)
      → recs' v ≡ (take_watch v n s whole (recs v)).rec → ((u : ℕ) → (u ≡ v → ⊥) → recs' u ≡ recs u)
      → Core p l q issued agents recs' new pend wait
  core_ask n s fresh_num mailed here there =
      let r : Parts = recs v in
      let row : ReadRow = record { num = n; stamp = s; window = whole; turn = 0; hit = None } in
      let r0 : Parts = with_read row r in
      let o = core.mail (message.Ask n s (query.One v)) mailed.first in
      let ok = core.rec v in
      let is : take_watch v n s whole r ≡ refreshed_answer v r0 = rw fresh_num refl in
      core_record p l q issued agents recs recs' old new pend wait core v r0 (message.Ask n s (query.One v)) (subst
      (λ (z : Answered). Mailed old new (message.Ask n s (query.One v)) (map message.Give z.gives)) is mailed)
      (record {
        base = refl;
        puts = ok.puts;
        cuts = ok.cuts;
        reads = λ x i. elim (add_read_in row r.reads x i) [
          | inl e ↦ subst (λ (z : ReadRow). (k : Query) × In (message.Ask z.num z.stamp k) issued
              × Names p k v × (z.window ≡ window_of k) × NotPast l z.stamp) (sym e) (query.One v, o.0, refl, refl, o.1)
          | inr j ↦ ok.reads x j
        ];
        solid = subst IsSettled (ap (λ (z : Answered). z.rec) is) (after_watch-settled row r ok.solid);
        once = add_read_once row r.reads fresh_num ok.solid.reads_once;
        same_told = λ m. add_read_told row r.reads m refl refl fresh_num;
        has = λ m e. add_read_has row r.reads m ∙ (let f = e in grind (arith, f));
        put_tally = λ m. omega arith;
        cut_tally = λ m. omega arith;
        ask = λ m t u e. (let f = ask_same n m s t v u e in (
          sym f.1,
          ap (λ z. has_read z r0.reads) (sym f.0)
              ∙ (add_read_has row r.reads n ∙ (let h = num_eq_self n in rw h)),
        ));
        no_give = λ g e. cc;
        no_wake = λ m t e. cc;
        put_var = λ u x i e. absurd (cc);
        cut_var = λ u x i e. absurd (cc);
      })
      (here ∙ ap (λ (z : Answered). z.rec) is) there

module _ (p : Plan)
    (l : Line) (q : State) (issued : List Message) (agents : List Agent) (recs : ℕ → Parts) (old new : List Message)
    (pend : Num → ℕ → Type 0) (wait : Num → Type 0) (core : Core p l q issued agents recs old pend wait) (v : ℕ) where
  -- an Ask at its record, where its read is known
  pub core_known : (n : Num) (s : Stamp) → has_read n (recs v).reads ≡ true
      → Mailed old new (message.Ask n s (query.One v)) [] → Core p l q issued agents recs new pend wait
  core_known n s known mailed =
      let r : Parts = recs v in
      let ok = core.rec v in
      let quiet = fresh_all v (record_value r) r.reads ok.solid.hits in
      core_record p l q issued agents recs recs old new pend wait core v r (message.Ask n s (query.One v))
      (subst (λ z. Mailed old new (message.Ask n s (query.One v)) (map message.Give z)) (sym quiet.1) mailed)
      (record {
        base = refl;
        puts = ok.puts;
        cuts = ok.cuts;
        reads = ok.reads;
        solid = subst
            IsSettled (λ j. record { base = r.base; puts = r.puts; cuts = r.cuts; reads = sym quiet.0 j }) ok.solid;
        once = ok.solid.reads_once;
        same_told = λ m. refl;
        has = λ m e. e;
        put_tally = λ m. omega arith;
        cut_tally = λ m. omega arith;
        ask =
            λ m t u e. (let f = ask_same n m s t v u e in (sym f.1, subst (λ z. has_read z r.reads ≡ true) f.0 known));
        no_give = λ g e. cc;
        no_wake = λ m t e. cc;
        put_var = λ u x i e. absurd (cc);
        cut_var = λ u x i e. absurd (cc);
      })
      (λ j. record { base = r.base; puts = r.puts; cuts = r.cuts; reads = sym quiet.0 j })
      (λ u ne. refl)
    where
      ask_same : (a b : Num) (s t : Stamp) (u w : ℕ)
          → message.Ask a s (query.One u) ≡ message.Ask b t (query.One w) → (a ≡ b) × (u ≡ w)
      ask_same a b s t u w e = (cc, cc)
