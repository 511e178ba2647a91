-- The counts of a variable have a place for each port, and the answer of a count is that of the test.
use Rattle.std.proofs.Common.{◌≡◌, ℕ, suc, ◌+◌, ◌-◌, ◌^◌, min, ◌<◌, ◌&&◌, Bool, nat_lt, nat_le, if◌then◌else◌, List, [], length, get_or, set, Option, Some, None, arith, sym, ◌∙◌, ap, subst}
use Rattle.std.proofs.lemmas.List.{get_or_default, get_or-set_same, get_or-set_other}
use Rattle.std.proofs.lemmas.Option.{slice_get_within}
use Rattle.pm_routes.specs.declared.way.Way.TheVariants as way
use Rattle.pm_routes.specs.Laid.{IsLaid}
use Rattle.pm_routes.specs.Routings.{CountsOne, Routing, place_of, way_at, count_at, counts_at, raised, total, is_drawn}
use Rattle.pm_routes.proofs.Finds.{place_of-most}

pub exists-here : (r s : Routing) (var : ℕ) → s ≡ r → way_at r var ≡ Some way.Here → var < length s.ways
exists-here r s var is here = slice_get_within s.ways var way.Here (subst (λ z. way_at z var ≡ Some way.Here) (sym is) here)

pub each-has : {W : Type 0} (ws : List W) (ps : List ℕ) (cs : List (List ℕ)) (var : ℕ) → IsLaid ws ps cs
    → var < length ws → var < length cs
each-has ws ps cs var laid low = (let each = laid.each in omega (arith, each, low))

pub row-is : (cs : List (List ℕ)) (var : ℕ) (row : List ℕ) → var < length cs → row ≡ get_or cs var row
    → row ≡ get_or cs var []
row-is cs var row low is = is ∙ get_or_default cs var row [] low

pub place-room : {W : Type 0} (ws : List W) (ps : List ℕ) (cs : List (List ℕ)) (var from k : ℕ) (row : List ℕ)
    → IsLaid ws ps cs → var < length ws → row ≡ get_or cs var row → k ≡ place_of ps from → k < length row
place-room ws ps cs var from k row laid low is at =
    let long : length row ≡ suc (length ps) = ap length (row-is cs var row (each-has ws ps cs var laid low) is) ∙ laid.rows var low in
    let most = place_of-most ps from in
    omega (arith, long, most, at)

-- after a count was put into its row
pub row-set : (cs : List (List ℕ)) (var : ℕ) (new row : List ℕ) → var < length cs
    → row ≡ get_or (set cs var new) var row → row ≡ new
row-set cs var new row low is = is ∙ get_or-set_same cs var new row low

pub answer-is : (r : Routing) (var from k count others : ℕ) (row : List ℕ) (port most : Bool) (o : Option ℕ)
    → row ≡ counts_at r var → k ≡ place_of r.ports from
    → count ≡ get_or row k 0 → others ≡ total (set row k 0) → port ≡ nat_lt k (length r.ports) → most ≡ (nat_lt 0 r.move_after && (nat_le r.move_after count && nat_lt others count))
    → o ≡ (if port && most then Some from else None) → o ≡ (if is_drawn r var from then Some from else None)
answer-is r var from k count others row port most o row-at at count-at others-at port-at most-at is =
    let c = count-at ∙ ap (λ xs. get_or xs k 0) row-at ∙ ap (λ j. get_or (counts_at r var) j 0) at in
    let d = others-at ∙ ap (λ xs. total (set xs k 0)) row-at ∙ ap (λ j. total (set (counts_at r var) j 0)) at in
    let p = port-at ∙ ap (λ j. nat_lt j (length r.ports)) at in
    let m = most-at ∙ ap (λ j. nat_lt 0 r.move_after && (nat_le r.move_after j && nat_lt others j)) c ∙ ap (λ j. nat_lt 0 r.move_after && (nat_le r.move_after (get_or (counts_at r var) (place_of r.ports from) 0) && nat_lt j (get_or (counts_at r var) (place_of r.ports from) 0))) d in
    is ∙ ap (λ b. if b && most then Some from else None) p ∙ ap (λ b. if nat_lt (place_of r.ports from) (length r.ports) && b then Some from else None) m

pub counts-one : (r : Routing) (var from : ℕ) → CountsOne r var from
counts-one r var from = record {
  there = λ low room.
      ap (λ row. get_or row (place_of r.ports from) 0) (get_or-set_same r.counts var (raised (counts_at r var) (place_of r.ports from)) [] low)
      ∙ get_or-set_same (counts_at r var) (place_of r.ports from) (min (count_at r var from + 1) (2 ^ 64 - 1)) 0 room;
  other_ports = λ port other low.
      ap (λ row. get_or row (place_of r.ports port) 0) (get_or-set_same r.counts var (raised (counts_at r var) (place_of r.ports from)) [] low)
      ∙ get_or-set_other (counts_at r var) (place_of r.ports from) (place_of r.ports port) (min (count_at r var from + 1) (2 ^ 64 - 1)) 0 other;
  other_variables = λ v port other. ap (λ row. get_or row (place_of r.ports port) 0) (get_or-set_other r.counts var v (raised (counts_at r var) (place_of r.ports from)) [] other);
}
