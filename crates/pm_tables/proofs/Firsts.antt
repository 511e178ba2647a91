-- The first tables, one variable after another.
use Rattle.std.proofs.Common.{◌≡◌, ℕ, suc, ◌+◌, ◌-◌, ◌<◌, Bool, List, get_or, if◌then◌else◌, arith, ap, ap₂, sym, ◌∙◌}
use Rattle.pm_base.specs.Windows.{point_of}
use Rattle.pm_base.specs.declared.value.Value.{Value}
use Rattle.pm_ranges.specs.Known.{Known, grown}
use Rattle.pm_routes.specs.declared.way.Way.{Way}
use Rattle.pm_routes.specs.declared.way.Way.TheVariants as way
use Rattle.pm_tables.specs.Tables.{always, grown_first, no_value}

-- before the first variable
pub first_none : (test : Way → Bool) (ways : List Way) (values : List Value) (i m : ℕ) (b : Known)
    → grown_first test ways values (i + 0) (m - 0) b ≡ grown_first test ways values i m b
first_none test ways values i m b =
    let start : i + 0 ≡ i = omega arith in
    let whole : m - 0 ≡ m = omega arith in
    ap (λ j. grown_first test ways values j (m - 0) b) start ∙ ap (λ n. grown_first test ways values i n b) whole

-- after one more variable, whose way and first value are these
pub first_more : (test : Way → Bool) (ways : List Way)
    (values : List Value) (i k m : ℕ) (b next all : Known) (y : Way) (there : Bool) (v : Value) → k < m
    → grown_first test ways values (i + k) (m - k) b ≡ all
    → y ≡ get_or ways (i + k) way.Here → there ≡ test y → v ≡ get_or values (i + k) no_value
    → next ≡ (if there then grown always (point_of v) b else b)
    → grown_first test ways values (i + (k + 1)) (m - (k + 1)) next ≡ all
first_more test ways values i k m b next all y there v lt so_far at told value is =
    let left : m - k ≡ suc (m - (k + 1)) = omega arith in
    let up : suc (i + k) ≡ i + (k + 1) = omega arith in
    let one : next ≡ (if test (get_or ways (i + k) way.Here)
    then grown always (point_of (get_or values (i + k) no_value)) b else b) =
    is ∙ ap₂ (λ c u. if c then grown always (point_of u) b else b) (told ∙ ap test at) value in
    ap (λ j. grown_first test ways values j (m - (k + 1)) next) (sym up)
    ∙ (ap (grown_first test ways values (suc (i + k)) (m - (k + 1))) one
    ∙ (ap (λ n. grown_first test ways values (i + k) n b) (sym left) ∙ so_far))

-- after the last one
pub first_all : (test : Way → Bool) (ways : List Way) (values : List Value) (i k m : ℕ) (b all : Known)
    → m - k ≡ 0 → grown_first test ways values (i + k) (m - k) b ≡ all → b ≡ all
first_all test ways values i k m b all none so_far =
    ap (λ n. grown_first test ways values (i + k) n b) (sym none) ∙ so_far
