-- A table keeps its shape where it grows, and what didn't grow is as it was.
use Rattle.std.proofs.Common.{◌≡◌, ℕ, ◌+◌, ◌<◌, Bool, true, false, not, inl, inr, Result, Ok, Err, IfOk, OnOk, List, [], ◌∷◌, length, map, get_or, set, drop, refl, ap, sym, ◌∙◌, subst}
use Rattle.std.proofs.lemmas.Bool.{cases_eq, cases_lt, false≢true}
use Rattle.std.proofs.lemmas.List.{drop_more, get_or-set_other, get_or-map, get_or-set_same, length-map, length-set, set-get_or, set_past}
use Rattle.pm_base.specs.Windows.{point_of}
use Rattle.pm_base.specs.declared.layout.ClassRow.{ClassRow}
use Rattle.pm_base.specs.declared.stamp.Interval.{Interval}
use Rattle.pm_base.specs.declared.stamp.Line.{Line}
use Rattle.pm_base.specs.declared.value.Period.{Period}
use Rattle.pm_base.specs.declared.value.Window.{Window}
use Rattle.pm_ranges.specs.Known.{Known, covers, grown, trimmed}
use Rattle.pm_routes.specs.Routings.{place_of}
use Rattle.pm_tables.specs.Tables.{TableOk, bounds_trim, grow_at, grow_in, grow_periods, grow_periods_in, known_in}

-- what is covered doesn't grow
pub grown_same : (b : Known) (when : Interval) (w : Window) → covers b when w ≡ true → grown when w b ≡ b
grown_same b when w e = rw e refl

not_false : (b : Bool) → false ≡ not b → b ≡ true
not_false true e = refl
not_false false e = absurd (false≢true e)

-- a call that tells whether bounds grew, at a place of a row
pub grew_same : {E : Type 0} (r : Result Bool E)
    (row now : List Known) (k : ℕ) (old new : Known) (when : Interval) (w : Window) → row ≡ now → old ≡ get_or row k old
    → OnOk r (new ≡ grown when w old)
    → IfOk r (λ grew. grew ≡ not (covers old when w)) → IfOk r (λ grew. grew ≡ false → set row k new ≡ now)
grew_same (Err e) row now k old new when w same at is told = tt
grew_same (Ok grew) row now k old new when w same at is told = λ none.
    ap (set row k) (is ∙ (grown_same old when w (not_false _ (sym none ∙ told)) ∙ at)) ∙ (set-get_or row k old ∙ same)

-- the same at a place of a table
pub row_same : {E : Type 0} (r : Result Bool E) (b now : List (List Known)) (place : ℕ) (old new : List Known)
    → b ≡ now → old ≡ get_or b place old
    → IfOk r (λ grew. grew ≡ false → new ≡ old) → IfOk r (λ grew. grew ≡ false → set b place new ≡ now)
row_same (Err e) b now place old new same at is = tt
row_same (Ok grew) b now place old new same at is =
    λ none. ap (set b place) (is none ∙ at) ∙ (set-get_or b place old ∙ same)

-- a place and a class are there after growing
pub length-grow_in : (place k : ℕ) (when : Interval) (w : Window) (b : List (List Known))
    → length (grow_in place k when w b) ≡ length b
length-grow_in place k when w b = length-set b place (set (get_or b place []) k (grown when w (known_in place k b)))

pub row-grow_in : (place k i : ℕ) (when : Interval) (w : Window) (b : List (List Known))
    → length (get_or (grow_in place k when w b) i []) ≡ length (get_or b i [])
row-grow_in place k i when w b =
    let row = set (get_or b place []) k (grown when w (known_in place k b)) in
    elim (cases_eq i place) [
      | inl e ↦ subst (λ j. length (get_or (grow_in place k when w b) j []) ≡ length (get_or b j []))
          (sym e) (elim (cases_lt place (length b)) [
            | inl lt ↦ ap length (get_or-set_same b place row [] lt)
                ∙ length-set (get_or b place []) k (grown when w (known_in place k b))
            | inr le ↦ ap (λ z. length (get_or z place [])) (set_past b place row le)
          ])
      | inr n ↦ ap length (get_or-set_other b place i row [] n)
    ]

pub grow_in-ok : (ports classes place k : ℕ) (when : Interval) (w : Window) (b : List (List Known))
    → TableOk ports classes b → TableOk ports classes (grow_in place k when w b)
grow_in-ok ports classes place k when w b ok = record {
  by_port = length-grow_in place k when w b ∙ ok.by_port;
  by_class = λ i lt. row-grow_in place k i when w b ∙ ok.by_class i lt;
}

pub grow_periods_in-ok : (ports classes place k : ℕ) (rs : List Period) (b : List (List Known))
    → TableOk ports classes b → TableOk ports classes (grow_periods_in place k rs b)
grow_periods_in-ok ports classes place k [] b ok = ok
grow_periods_in-ok ports classes place k (r ∷ rs) b ok =
    grow_periods_in-ok ports classes place k rs
    (grow_in place k r.when (point_of r.value) b) (grow_in-ok ports classes place k r.when (point_of r.value) b ok)

-- growing at a port is growing at its place
pub grow_periods-in : (ports : List ℕ) (d k : ℕ) (rs : List Period) (b : List (List Known))
    → grow_periods ports d k rs b ≡ grow_periods_in (place_of ports d) k rs b
grow_periods-in ports d k [] b = refl
grow_periods-in ports d k (r ∷ rs) b = grow_periods-in ports d k rs (grow_at ports d k r.when (point_of r.value) b)

pub bounds_trim-ok : (ports classes : ℕ) (l : Line) (b : List (List Known))
    → TableOk ports classes b → TableOk ports classes (bounds_trim l b)
bounds_trim-ok ports classes l b ok = record {
  by_port = length-map b (map (trimmed l)) ∙ ok.by_port;
  by_class = λ i lt. ap length (get_or-map (map (trimmed l)) b i [] [] (subst (λ n. i < n) (sym ok.by_port) lt))
      ∙ (length-map (get_or b i []) (trimmed l) ∙ ok.by_class i lt);
}

-- a table that is made row by row has its shape
pub first-ok : (f : ClassRow → ℕ → Known) (classes : List ClassRow) (ports : List ℕ)
    → TableOk (length ports) (length classes) (map (λ d. map (λ c. f c d) classes) ports)
first-ok f classes ports = record {
  by_port = length-map ports (λ d. map (λ c. f c d) classes);
  by_class = λ i lt. ap length (get_or-map (λ d. map (λ c. f c d) classes) ports i 0 [] lt)
      ∙ length-map classes (λ c. f c (get_or ports i 0));
}

-- a loop over periods: b is the table before the one at i, next after it
pub periods_more : (place k i : ℕ) (rs : List Period) (r : Period) (b next all : List (List Known))
    → i < length rs → r ≡ get_or rs i r → grow_periods_in place k (drop i rs) b ≡ all
    → next ≡ grow_in place k r.when (point_of r.value) b → grow_periods_in place k (drop (i + 1) rs) next ≡ all
periods_more place k i rs r b next all lt at so_far is =
    let more : drop i rs ≡ r ∷ drop (i + 1) rs = drop_more rs i r lt ∙ ap (λ z. z ∷ drop (i + 1) rs) (sym at) in
    ap (grow_periods_in place k (drop (i + 1) rs)) is ∙ (ap (λ z. grow_periods_in place k z b) (sym more) ∙ so_far)
