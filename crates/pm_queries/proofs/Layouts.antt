-- The layout of the queries after each call.
use Rattle.std.proofs.Common.{◌≡◌, ℕ, zero, suc, ◌+◌, ◌<◌, Bool, true, false, not, cond, ◌||◌, ◌==◌, List, [], ◌∷◌, ◌++◌, length, get_or, set, take, map, filter, Option, Some, None, refl, arith, ap, ap₂, sym, ◌∙◌, subst}
use Rattle.std.specs.List.{AllByRecursion}
use Rattle.std.proofs.lemmas.Bool.Decides.{nat_tests}
use Rattle.std.proofs.lemmas.List.{take_more}
use Rattle.std.specs.BTreeMap.{is_at}
use Rattle.pm_base.specs.Stamps.{is_below, num_eq}
use Rattle.pm_base.specs.declared.stamp.Line.{Line}
use Rattle.pm_base.specs.declared.stamp.Num.{Num}
use Rattle.pm_periods.specs.Rows.{AreDistinct, IsInOrder}
use Rattle.pm_periods.proofs.Ordered.{each_filter, filter_distinct}
use Rattle.pm_queries.specs.Queries.{add_reg, finish_in, has_reg, not_below, registered_key}
use Rattle.pm_queries.specs.Laid.{AllRise, HasRoom, IsLaid, IsRising, OwnFrom, SameRows, add_regs, drops, merged, num_cmp, spot, spot_of, unwaited_in}
use Rattle.pm_queries.specs.declared.registered.Registered.{Registered}
use Rattle.pm_queries.specs.declared.registered.Spot.{Spot}
use Rattle.pm_queries.proofs.Rows.{add_reg-distinct, own_add, rising-add, rising-filter, rising-in_order}
use Rattle.pm_queries.proofs.Merges.{class-merged, filter-merged, has_reg-adds, has_reg-class, merged-class, merged-new}
use Rattle.pm_queries.proofs.Spots.{own-same, rise-same, same-distinct, same-merged, same-spot_of, spot_of-add, spot_of-filter}
use Rattle.pm_queries.proofs.Finishes.{finish-map, sent-class, spot-class, unwaited-same}

-- comparing tells whether two numbers are one
pub num-is : (a b : Num) → is_at (num_cmp a) b ≡ num_eq b a
num-is a b = grind (arith, nat_tests)

-- ---- what each class keeps

pub rise-at : (cs : List (List Registered)) (k : ℕ) → AllRise cs → IsRising (get_or cs k [])
rise-at [] k r = tt
rise-at (c ∷ cs) zero r = r.0
rise-at (c ∷ cs) (suc k) r = rise-at cs k r.1

pub class-in_order : (cs : List (List Registered)) (look : Num → Option Spot) (k : ℕ)
    → IsLaid cs look → IsInOrder registered_key (get_or cs k [])
class-in_order cs look k laid = rising-in_order (get_or cs k []) (rise-at cs k laid.rising)

-- ---- a change that leaves each query in its place

pub laid-same : (cs : List (List Registered)) (look : Num → Option Spot) (k : ℕ) (d : List Registered)
    → IsLaid cs look → SameRows (get_or cs k []) d → IsLaid (set cs k d) look
laid-same cs look k d laid same = record {
  own = own-same 0 cs k d same laid.own;
  rising = rise-same cs k d same laid.rising;
  distinct = same-distinct (merged cs) (merged (set cs k d)) (same-merged cs k d same) laid.distinct;
  known = λ n. laid.known n ∙ same-spot_of n (merged cs) (merged (set cs k d)) (same-merged cs k d same);
}

-- ---- room for a class

pub room-self : (cs : List (List Registered)) → HasRoom cs cs
room-self [] = tt
room-self (c ∷ cs) = (refl, room-self cs)

pub room-more : (cs ds : List (List Registered)) → HasRoom cs ds → HasRoom cs (ds ++ [] ∷ [])
room-more [] [] h = (refl, tt)
room-more [] (d ∷ ds) h = (h.0, room-more [] ds h.1)
room-more (c ∷ cs) [] h = absurd h
room-more (c ∷ cs) (d ∷ ds) h = (h.0, room-more cs ds h.1)

pub room-merged : (cs ds : List (List Registered)) → HasRoom cs ds → merged ds ≡ merged cs
room-merged [] [] h = refl
room-merged [] (d ∷ ds) h = ap (λ z. add_regs z (merged ds)) h.0 ∙ room-merged [] ds h.1
room-merged (c ∷ cs) [] h = absurd h
room-merged (c ∷ cs) (d ∷ ds) h = ap₂ add_regs h.0 (room-merged cs ds h.1)

room_own : (i : ℕ) (cs ds : List (List Registered)) → HasRoom cs ds → OwnFrom i cs → OwnFrom i ds
room_own i [] [] h o = tt
room_own i [] (d ∷ ds) h o =
    (subst (AllByRecursion (λ (r : Registered). r.class ≡ i)) (sym h.0) tt, room_own (suc i) [] ds h.1 tt)
room_own i (c ∷ cs) [] h o = tt
room_own i (c ∷ cs) (d ∷ ds) h o =
    (subst (AllByRecursion (λ (r : Registered). r.class ≡ i)) (sym h.0) o.0, room_own (suc i) cs ds h.1 o.1)

room_rise : (cs ds : List (List Registered)) → HasRoom cs ds → AllRise cs → AllRise ds
room_rise [] [] h r = tt
room_rise [] (d ∷ ds) h r = (subst IsRising (sym h.0) tt, room_rise [] ds h.1 tt)
room_rise (c ∷ cs) [] h r = tt
room_rise (c ∷ cs) (d ∷ ds) h r = (subst IsRising (sym h.0) r.0, room_rise cs ds h.1 r.1)

pub laid-room : (cs ds : List (List Registered)) (look : Num → Option Spot)
    → HasRoom cs ds → IsLaid cs look → IsLaid ds look
laid-room cs ds look h laid =
    let same = room-merged cs ds h in
    record {
      own = room_own 0 cs ds h laid.own;
      rising = room_rise cs ds h laid.rising;
      distinct = subst (AreDistinct registered_key) (sym same) laid.distinct;
      known = λ n. laid.known n ∙ ap (spot_of n) (sym same);
    }

-- ---- a new query

own_new : (i m : ℕ) (cs : List (List Registered)) (r : Registered)
    → r.class ≡ i + m → OwnFrom i cs → OwnFrom i (set cs m (add_reg r (get_or cs m [])))
own_new i m [] r e o = tt
own_new i zero (c ∷ cs) r e o = (own_add i r c (omega (arith, e)) o.0, o.1)
own_new i (suc m) (c ∷ cs) r e o = (o.0, own_new (suc i) m cs r (omega (arith, e)) o.1)

rise_new : (cs : List (List Registered)) (k : ℕ) (r : Registered)
    → has_reg r.num (get_or cs k []) ≡ false → AllRise cs → AllRise (set cs k (add_reg r (get_or cs k [])))
rise_new [] k r f a = tt
rise_new (c ∷ cs) zero r f a = (rising-add r c f a.0, a.1)
rise_new (c ∷ cs) (suc k) r f a = (a.0, rise_new cs k r f a.1)

pub laid-new : (cs : List (List Registered)) (look look' : Num → Option Spot) (r : Registered)
    → IsLaid cs look → r.class < length cs → has_reg r.num (merged cs) ≡ false
    → ((n : Num) → look' n ≡ cond (num_eq n r.num) (Some (spot r)) (look n))
    → IsLaid (set cs r.class (add_reg r (get_or cs r.class []))) look'
laid-new cs look look' r laid low f told =
    let is = merged-new r r.class cs low f in
    let class : r.class ≡ 0 + r.class = omega arith in
    record {
      own = own_new 0 r.class cs r class laid.own;
      rising = rise_new cs r.class r (has_reg-class r.num r.class cs f) laid.rising;
      distinct = subst (AreDistinct registered_key) (sym is) (add_reg-distinct r (merged cs) f laid.distinct);
      known = λ n. told n ∙ (ap (cond (num_eq n r.num) (Some (spot r))) (laid.known n)
          ∙ (sym (spot_of-add n r (merged cs) f) ∙ ap (spot_of n) (sym is)));
    }

-- ---- a Finish

pub low_of : (n : Num) (cs : List (List Registered)) (look : Num → Option Spot) (s : Spot)
    → IsLaid cs look → look n ≡ Some s → spot_of n (get_or cs s.class []) ≡ Some s
low_of n cs look s laid e =
    ap (spot_of n) (sym (class-merged s.class cs laid.own laid.rising))
    ∙ spot-class n (merged cs) s (sym (laid.known n) ∙ e)

pub class-low : (n : Num) (cs : List (List Registered)) (k : ℕ) (s : Spot)
    → spot_of n (get_or cs k []) ≡ Some s → k < length cs
class-low n [] k s e = absurd (cc e)
class-low n (c ∷ cs) zero s e = omega arith
class-low n (c ∷ cs) (suc k) s e = (let again = class-low n cs k s e in omega (arith, again))

pub finish-merged : (n : Num) (d : ℕ) (cs : List (List Registered)) (look : Num → Option Spot) (s : Spot)
    → IsLaid cs look → look n ≡ Some s
    → merged (set cs s.class (finish_in n d (get_or cs s.class [])).queries) ≡ (finish_in n d (merged cs)).queries
finish-merged n d cs look s laid e =
    let k = s.class in
    let there = sym (laid.known n) ∙ e in
    let here = low_of n cs look s laid e in
    let own_distinct = subst (AreDistinct registered_key) (class-merged k cs laid.own laid.rising)
    (filter_distinct registered_key (λ (r : Registered). k == r.class) (merged cs) laid.distinct) in
    ap (λ z. merged (set cs k z)) (sym (finish-map n d (get_or cs k []) s own_distinct here))
    ∙ (merged-class (unwaited_in k n d) k cs (λ r. sym (unwaited-same k n d r).key) (other k) laid.own
    ∙ finish-map n d (merged cs) s laid.distinct there)
  where
    other : (k : ℕ) (r : Registered) → (r.class ≡ k → ⊥) → unwaited_in k n d r ≡ r
    other k r h = (let g : (k == r.class) ≡ false = grind (arith, nat_tests, h) in rw g refl)

pub finish-sends : (n : Num) (d : ℕ) (cs : List (List Registered)) (look : Num → Option Spot) (s : Spot)
    → IsLaid cs look → look n ≡ Some s
    → (finish_in n d (get_or cs s.class [])).sent ≡ (finish_in n d (merged cs)).sent
finish-sends n d cs look s laid e =
    ap (λ z. (finish_in n d z).sent) (sym (class-merged s.class cs laid.own laid.rising))
    ∙ sent-class n d (merged cs) s (sym (laid.known n) ∙ e)

-- ---- the line

abbrev has_below : Num → Line → List Registered → Bool
has_below n l xs = has_reg n (filter (λ (r : Registered). is_below r.stamp l) xs)

own_filter : (p : Registered → Bool) (i : ℕ) (cs : List (List Registered))
    → OwnFrom i cs → OwnFrom i (map (filter p) cs)
own_filter p i [] o = tt
own_filter p i (c ∷ cs) o = (each_filter (λ (r : Registered). r.class ≡ i) p c o.0, own_filter p (suc i) cs o.1)

rise_filter : (p : Registered → Bool) (cs : List (List Registered)) → AllRise cs → AllRise (map (filter p) cs)
rise_filter p [] r = tt
rise_filter p (c ∷ cs) r = (rising-filter p c r.0, rise_filter p cs r.1)

drops_merged : (n : Num) (l : Line) (cs : List (List Registered))
    → drops n l cs ≡ has_reg n (merged (map (filter (λ (r : Registered). is_below r.stamp l)) cs))
drops_merged n l [] = refl
drops_merged n l (c ∷ cs) =
    let below : List Registered → List Registered = filter (λ (r : Registered). is_below r.stamp l) in
    ap (λ b. has_reg n (below c) || b) (drops_merged n l cs) ∙ sym (has_reg-adds n (below c) (merged (map below cs)))

not_not : (b : Bool) → not (not b) ≡ b
not_not true = refl
not_not false = refl

filter_alike : (p q : Registered → Bool) (xs : List Registered)
    → ((x : Registered) → p x ≡ q x) → filter p xs ≡ filter q xs
filter_alike p q [] h = refl
filter_alike p q (x ∷ xs) h = ap₂ (λ b ys. cond b (x ∷ ys) ys) (h x) (filter_alike p q xs h)

pub laid-trimmed : (cs : List (List Registered)) (look look' : Num → Option Spot) (l : Line) → IsLaid cs look
    → ((n : Num) → look' n ≡ cond (drops n l cs) None (look n)) → IsLaid (map (not_below l) cs) look'
laid-trimmed cs look look' l laid told =
    let keep : Registered → Bool = λ r. not (is_below r.stamp l) in
    let below : Registered → Bool = λ r. is_below r.stamp l in
    let is = filter-merged keep cs in
    record {
      own = own_filter keep 0 cs laid.own;
      rising = rise_filter keep cs laid.rising;
      distinct = subst (AreDistinct registered_key) is (filter_distinct registered_key keep (merged cs) laid.distinct);
      known = λ n.
          told n
          ∙ (ap₂ (λ b o. cond b None o) (drops_merged n l cs ∙ (ap (has_reg n) (sym (filter-merged below cs))
          ∙ ap (has_reg n) (filter_alike below (λ x. not (keep x)) (merged cs) (λ x. sym (not_not (below x))))))
          (laid.known n)
          ∙ (sym (spot_of-filter n keep (merged cs) laid.distinct) ∙ ap (spot_of n) is));
    }

pub has_reg-append : (n : Num) (xs ys : List Registered) → has_reg n (xs ++ ys) ≡ (has_reg n xs || has_reg n ys)
has_reg-append n [] ys = refl
has_reg-append n (x ∷ xs) ys =
    ap (λ b. num_eq n x.num || b) (has_reg-append n xs ys) ∙ or_assoc (num_eq n x.num) (has_reg n xs) (has_reg n ys)
  where
    or_assoc : (a b c : Bool) → (a || (b || c)) ≡ ((a || b) || c)
    or_assoc true b c = refl
    or_assoc false b c = refl

-- one more query is forgotten
pub forgets-more : (n : Num) (xs : List Registered) (i : ℕ) (x : Registered) (o o' start : Option Spot)
    → i < length xs → x ≡ get_or xs i x
    → o ≡ cond (has_reg n (take i xs)) None start → o' ≡ cond (num_eq n x.num) None o
    → o' ≡ cond (has_reg n (take (i + 1) xs)) None start
forgets-more n xs i x o o' start low at so_far is =
    let more : has_reg n (take (i + 1) xs) ≡ (has_reg n (take i xs) || num_eq n x.num) =
    ap (has_reg n) (take_more xs i x low ∙ ap (λ z. take i xs ++ z ∷ []) (sym at))
    ∙ (has_reg-append n (take i xs) (x ∷ []) ∙ ap (λ b. has_reg n (take i xs) || b) (or_false (num_eq n x.num))) in
    is ∙ (ap (cond (num_eq n x.num) None) so_far
    ∙ (both (num_eq n x.num) (has_reg n (take i xs)) ∙ ap (λ b. cond b None start) (sym more)))
  where
    or_false : (b : Bool) → (b || false) ≡ b
    or_false true = refl
    or_false false = refl

    both : (a b : Bool) → cond a None (cond b None start) ≡ cond (b || a) None start
    both true true = refl
    both true false = refl
    both false true = refl
    both false false = refl

-- one more class is trimmed
pub drops-more : (n : Num) (l : Line) (cs : List (List Registered))
    (i : ℕ) (c : List Registered) (o o' start : Option Spot) → i < length cs → c ≡ get_or cs i c
    → o ≡ cond (drops n l (take i cs)) None start
    → o' ≡ cond (has_reg n (filter (λ (r : Registered). is_below r.stamp l) c)) None o
    → o' ≡ cond (drops n l (take (i + 1) cs)) None start
drops-more n l cs i c o o' start low at so_far is =
    let more : drops n l (take (i + 1) cs) ≡ (drops n l (take i cs) || has_below n l c) =
    ap (drops n l) (take_more cs i c low ∙ ap (λ z. take i cs ++ z ∷ []) (sym at)) ∙ snoc (take i cs) in
    is ∙ (ap (cond (has_below n l c) None) so_far
    ∙ (both (has_below n l c) (drops n l (take i cs)) ∙ ap (λ b. cond b None start) (sym more)))
  where
    or_false : (b : Bool) → (b || false) ≡ b
    or_false true = refl
    or_false false = refl

    or_assoc : (a b d : Bool) → (a || (b || d)) ≡ ((a || b) || d)
    or_assoc true b d = refl
    or_assoc false b d = refl

    snoc : (ds : List (List Registered)) → drops n l (ds ++ c ∷ []) ≡ (drops n l ds || has_below n l c)
    snoc [] = or_false (has_below n l c)
    snoc (d ∷ ds) =
        ap (λ b. has_below n l d || b) (snoc ds) ∙ or_assoc (has_below n l d) (drops n l ds) (has_below n l c)

    both : (a b : Bool) → cond a None (cond b None start) ≡ cond (b || a) None start
    both true true = refl
    both true false = refl
    both false true = refl
    both false false = refl
