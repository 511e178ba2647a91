-- The periods of a record tell its value at each later stamp; a put or a cut changes only what is seen after its stamp.
use Rattle.std.proofs.Common.{◌≡◌, ◌⊎◌, inl, inr, ℕ, Bool, true, false, cond, not, ◌&&◌, ◌||◌, List, [], ◌∷◌, map, filter, refl, ap, sym, ◌∙◌, subst, Option, Some, None}
use Rattle.std.proofs.lemmas.Bool.{cases_Bool, cond_both}
use Rattle.pm_base.specs.Stamps.{holds, is_after, stamp_lt, num_eq}
use Rattle.pm_base.specs.Windows.{inside}
use Rattle.pm_base.specs.declared.rows.CutRow.{CutRow}
use Rattle.pm_base.specs.declared.rows.Parts.{Parts}
use Rattle.pm_base.specs.declared.rows.PutRow.{PutRow}
use Rattle.pm_base.specs.declared.stamp.Line.TheVariants as line
use Rattle.pm_base.specs.declared.stamp.Num.{Num}
use Rattle.pm_base.specs.declared.stamp.Stamp.{Stamp}
use Rattle.pm_base.specs.declared.value.Period.{Period}
use Rattle.pm_base.specs.declared.value.Value.{Value}
use Rattle.pm_base.specs.declared.value.Window.{Window}
use Rattle.pm_periods.specs.Periods.{period_holds, period_value, periods_from, values_at}
use Rattle.pm_periods.specs.Records.{is_live, record_value, refreshed, with_cut, with_put}
use Rattle.pm_periods.specs.Rows.{IsInOrder, add_row, cut_key, key_lt, put_key}
use Rattle.pm_periods.proofs.Receipts.{and_false, value_without}
use Rattle.pm_periods.proofs.Spans.{periods_cover}
use Rattle.pm_ranges.specs.Joins.{AllIn, Row}
use Rattle.pm_clp.specs.Clps.{take_cut, take_put}
use Rattle.pm_sim.specs.Sims.{AtMost, In, has_cut, has_put}
use Rattle.pm_sim.specs.Bounds.{row_of}
use Rattle.pm_sim.proofs.Stamps.{lt_false, lt_tells}
use Rattle.pm_sim.proofs.Values.{seen, value_same}

-- the rows that are told of a record from a stamp on
abbrev pub rows_from : Parts → Option Stamp → List Row
rows_from r from = map row_of (periods_from r from)

all_values : (ps : List Period) (s : Stamp) (u : Window)
    → ((x : Value) → In x (values_at s ps) → inside x u ≡ true) → AllIn (map row_of ps) s u
all_values [] s u h = tt
all_values (r ∷ ps) s u h = elim (cases_Bool (holds r.when s)) [
  | inl e ↦ (
    λ _. h r.value (subst (λ b. In r.value
        (map period_value (cond b (r ∷ filter (period_holds s) ps) (filter (period_holds s) ps)))) (sym e) (inl refl)),
    all_values ps s u (λ x i. h x (subst (λ b. In
        x (map period_value (cond b (r ∷ filter (period_holds s) ps) (filter (period_holds s) ps)))) (sym e) (inr i))),
  )
  | inr e ↦ (
    λ k. absurd (cc),
    all_values ps s u (λ x i. h x (subst (λ b.
        In x (map period_value (cond b (r ∷ filter (period_holds s) ps) (filter (period_holds s) ps)))) (sym e) i)),
  )
]

values_all : (ps : List Period) (s : Stamp) (u : Window)
    → AllIn (map row_of ps) s u → (x : Value) → In x (values_at s ps) → inside x u ≡ true
values_all [] s u f x i = absurd i
values_all (r ∷ ps) s u f x i = elim (cases_Bool (holds r.when s)) [
  | inl e ↦ (let j : In x (map period_value (r ∷ filter (period_holds s) ps)) =
      subst (λ b. In x (map period_value (cond b (r ∷ filter (period_holds s) ps) (filter (period_holds s) ps)))) e i in
      elim j [ inl g ↦ subst (λ z. inside z u ≡ true) (sym g) (f.0 e) | inr k ↦ values_all ps s u f.1 x k ])
  | inr e ↦ values_all ps s u f.1 x
      (subst (λ b. In x (map period_value (cond b (r ∷ filter (period_holds s) ps) (filter (period_holds s) ps)))) e i)
]

-- each period that holds s has the value seen at s
pub fit_periods : (r : Parts) (from : Option Stamp) (s : Stamp) (u : Window)
    → IsInOrder put_key r.puts → inside (record_value r s) u ≡ true → AllIn (rows_from r from) s u
fit_periods r from s u up v = all_values
    (periods_from r from) s u (λ x i. go x (is_after from s) (subst (λ z. In x z) (periods_cover r up from s) i))
  where
    go : (x : Value) (b : Bool) → In x (cond b (record_value r s ∷ []) []) → inside x u ≡ true
    go x true (inl e) = subst (λ z. inside z u ≡ true) (sym e) v
    go x true (inr j) = absurd j
    go x false j = absurd j

-- and some period holds each stamp after the start
pub periods_fit : (r : Parts) (from : Option Stamp) (s : Stamp) (u : Window) → IsInOrder put_key r.puts
    → is_after from s ≡ true → AllIn (rows_from r from) s u → inside (record_value r s) u ≡ true
periods_fit r from s u up a f = values_all (periods_from r from) s u f (record_value r s)
    (subst (λ z. In (record_value r s) z) (sym (periods_cover r up from s))
    (subst (λ b. In (record_value r s) (cond b (record_value r s ∷ []) [])) (sym a) (inl refl)))

pub put_before : (v : ℕ) (p : PutRow) (r : Parts) (s : Stamp)
    → AtMost s p.stamp → record_value (take_put v p r).rec s ≡ record_value r s
put_before v p r s le =
    cond_both (has_put p.num r.puts) r (refreshed (with_put p r)) (λ (z : Parts). record_value z s ≡ record_value r s)
    (λ _. refl)
    (λ _. value_without p r (line.At s) (and_false (is_live r.cuts p) (stamp_lt p.stamp s) (lt_false p.stamp s le)))

-- the put that a cut names has the cut's stamp
abbrev pub NamesAt : CutRow → List PutRow → Type 0
NamesAt c ps = (q : PutRow) → In q ps → num_eq q.num c.num ≡ true → q.stamp ≡ c.stamp

has_add : (n : Num) (c : CutRow) (cs : List CutRow)
    → has_cut n (add_row cut_key c cs) ≡ (num_eq n c.num || has_cut n cs)
has_add n c [] = refl
has_add n c (x ∷ xs) = cond_both (key_lt (cut_key c) (cut_key x))
    (c ∷ (x ∷ xs)) (x ∷ add_row cut_key c xs) (λ z. has_cut n z ≡ (num_eq n c.num || has_cut n (x ∷ xs)))
    (λ _. refl)
    (let again = has_add n c xs in
    λ _. ap (λ z. num_eq n x.num || z) again ∙ swap (num_eq n x.num) (num_eq n c.num) (has_cut n xs))
  where
    swap : (a b d : Bool) → (a || (b || d)) ≡ (b || (a || d))
    swap true true d = refl
    swap true false d = refl
    swap false true d = refl
    swap false false d = refl

pub cut_before : (v : ℕ) (c : CutRow) (r : Parts) (s : Stamp)
    → NamesAt c r.puts → AtMost s c.stamp → record_value (take_cut v c r).rec s ≡ record_value r s
cut_before v c r s names le =
    cond_both (has_cut c.num r.cuts) r (refreshed (with_cut c r)) (λ (z : Parts). record_value z s ≡ record_value r s)
    (λ _. refl)
    (λ _. value_same (seen cs s) (seen r.cuts s) r.puts r.base same)
  where
    cs : List CutRow
    cs = add_row cut_key c r.cuts

    same : (q : PutRow) → In q r.puts → seen cs s q ≡ seen r.cuts s q
    same q i = elim (cases_Bool (num_eq q.num c.num)) [
      | inl e ↦
          (let f : stamp_lt q.stamp s ≡ false = lt_false q.stamp s (subst (λ z. AtMost s z) (sym (names q i e)) le) in
          and_false (is_live cs q) (stamp_lt q.stamp s) f ∙ sym (and_false (is_live r.cuts q) (stamp_lt q.stamp s) f))
      | inr e ↦ (let a : has_cut q.num cs ≡ has_cut q.num r.cuts =
          has_add q.num c r.cuts ∙ ap (λ z. z || has_cut q.num r.cuts) e in ap (λ z. not z && stamp_lt q.stamp s) a)
    ]

told_or_same : (r r0 : Parts) (t s : Stamp) (u : Window)
    → IsInOrder put_key r.puts → (AtMost s t → record_value r s ≡ record_value r0 s)
    → (record_value r s ≡ record_value r0 s) ⊎ (AllIn (rows_from r (Some t)) s u → inside (record_value r s) u ≡ true)
told_or_same r r0 t s u up same = elim (lt_tells t s) [
  | inl a ↦ inr (λ f. periods_fit r (Some t) s u up a.0 f)
  | inr a ↦ inl (same a.1)
]

pub put_told : (v : ℕ) (p : PutRow) (r : Parts) (s : Stamp) (u : Window) → IsInOrder put_key (take_put v p r).rec.puts
    → (record_value (take_put v p r).rec s ≡ record_value r s) ⊎ (AllIn
    (rows_from (take_put v p r).rec (Some p.stamp)) s u → inside (record_value (take_put v p r).rec s) u ≡ true)
put_told v p r s u up = told_or_same (take_put v p r).rec r p.stamp s u up (put_before v p r s)

pub cut_told : (v : ℕ) (c : CutRow) (r : Parts) (s : Stamp) (u : Window)
    → IsInOrder put_key (take_cut v c r).rec.puts → NamesAt c r.puts
    → (record_value (take_cut v c r).rec s ≡ record_value r s) ⊎ (AllIn
    (rows_from (take_cut v c r).rec (Some c.stamp)) s u → inside (record_value (take_cut v c r).rec s) u ≡ true)
cut_told v c r s u up names = told_or_same (take_cut v c r).rec r c.stamp s u up (cut_before v c r s names)

-- all periods of a record hold its value, and nothing else
pub all_in : (r : Parts) (s : Stamp) (u : Window)
    → IsInOrder put_key r.puts → AllIn (rows_from r None) s u → inside (record_value r s) u ≡ true
all_in r s u up f = periods_fit r None s u up refl f

pub in_all : (r : Parts) (s : Stamp) (u : Window)
    → IsInOrder put_key r.puts → inside (record_value r s) u ≡ true → AllIn (rows_from r None) s u
in_all r s u up i = fit_periods r None s u up i
