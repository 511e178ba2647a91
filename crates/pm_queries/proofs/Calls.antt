-- What the calls of a class are among all.
use Rattle.std.proofs.Common.{◌≡◌, ℕ, ◌<◌, ◌≤◌, Bool, List, [], ◌∷◌, ◌++◌, length, get_or, set, map, filter, Option, Some, None, Result, Ok, Err, OnOk, refl, ap, append-nil, sym, ◌∙◌, subst}
use Rattle.std.proofs.lemmas.List.{get_or_default, get_or_past, set_past}
use Rattle.pm_base.specs.declared.stamp.Num.{Num}
use Rattle.pm_ranges.specs.Known.{Known}
use Rattle.pm_periods.specs.Rows.{IsInOrder}
use Rattle.pm_queries.specs.Queries.{asks_at, catches_by, caught_by, class_queries, finish_in, registered_key}
use Rattle.pm_queries.specs.Laid.{IsLaid, SameRows, merged, spot_of}
use Rattle.pm_queries.specs.declared.registered.Registered.{Registered}
use Rattle.pm_queries.specs.declared.registered.Sent.{Sent}
use Rattle.pm_queries.specs.declared.registered.Spot.{Spot}
use Rattle.pm_queries.proofs.Caught.{catches-class, caught-other, caught-same}
use Rattle.pm_queries.proofs.Finishes.{finish-none}
use Rattle.pm_queries.proofs.Layouts.{class-in_order, class-low, finish-merged, finish-sends, laid-same, low_of}
use Rattle.pm_queries.proofs.Merges.{class-merged, merged-class}

-- cs: the classes; rows: those of class k; new: the same after a call; xs: all queries
module _ (cs : List (List Registered))
    (look : Num → Option Spot) (laid : IsLaid cs look) (xs : List Registered) (is : merged cs ≡ xs) where
  -- ---- a Finish
  module _ (n : Num) (d : ℕ) where
    pub none-queries : look n ≡ None → xs ≡ (finish_in n d xs).queries
    none-queries e =
        subst (λ z. z ≡ (finish_in n d z).queries) is (sym (finish-none n d (merged cs) (sym (laid.known n) ∙ e)).0)

    pub none-sent : look n ≡ None → [] ≡ (finish_in n d xs).sent
    none-sent e =
        subst (λ z. [] ≡ (finish_in n d z).sent) is (sym (finish-none n d (merged cs) (sym (laid.known n) ∙ e)).1)

    module _ (s : Spot) (found : look n ≡ Some s) where
      pub spot-low : s.class < length cs
      spot-low = class-low n cs s.class s (low_of n cs look s laid found)

      module _ (rows : List Registered) (at : rows ≡ get_or cs s.class rows) where
        here : rows ≡ get_or cs s.class []
        here = at ∙ get_or_default cs s.class rows [] spot-low

        pub spot-order : IsInOrder registered_key rows
        spot-order = subst (IsInOrder registered_key) (sym here) (class-in_order cs look s.class laid)

        pub spot-there : spot_of n rows ≡ Some s
        spot-there = ap (spot_of n) here ∙ low_of n cs look s laid found

        pub spot-laid : (new : List Registered) → SameRows rows new → IsLaid (set cs s.class new) look
        spot-laid new same = laid-same cs look s.class new laid (subst (λ z. SameRows z new) here same)

        pub spot-queries : (new : List Registered)
            → new ≡ (finish_in n d rows).queries → merged (set cs s.class new) ≡ (finish_in n d xs).queries
        spot-queries new told =
            ap (λ z. merged (set cs s.class z)) (told ∙ ap (λ z. (finish_in n d z).queries) here)
            ∙ (finish-merged n d cs look s laid found ∙ ap (λ z. (finish_in n d z).queries) is)

        pub spot-sent : (sent : List Sent) → sent ≡ (finish_in n d rows).sent → sent ≡ (finish_in n d xs).sent
        spot-sent sent told =
            told ∙ (ap (λ z. (finish_in n d z).sent) here
            ∙ (finish-sends n d cs look s laid found ∙ ap (λ z. (finish_in n d z).sent) is))

  -- ---- catching up
  module _ (b : Known) (d k : ℕ) where
    class-is : class_queries k xs ≡ get_or cs k []
    class-is = ap (class_queries k) (sym is) ∙ class-merged k cs laid.own laid.rising

    caught-all : merged (set cs k (map (caught_by b d k) (get_or cs k []))) ≡ map (caught_by b d k) xs
    caught-all = merged-class (caught_by b d k) k cs (λ r. sym (caught-same b d k r).key) (caught-other b d k) laid.own
        ∙ ap (map (caught_by b d k)) is

    asks-class : filter (catches_by b d k) (get_or cs k []) ≡ filter (catches_by b d k) xs
    asks-class = ap (filter (catches_by b d k)) (sym class-is) ∙ catches-class b d k xs

    pub past-queries : length cs ≤ k → xs ≡ map (caught_by b d k) xs
    past-queries le =
        sym is ∙ (ap merged (sym (set_past cs k (map (caught_by b d k) (get_or cs k [])) le)) ∙ caught-all)

    pub past-sent : (out : List Sent) → length cs ≤ k → out ≡ out ++ asks_at d (filter (catches_by b d k) xs)
    past-sent out le =
        sym (append-nil out)
        ∙ ap (λ z. out ++ asks_at d z) (ap (filter (catches_by b d k)) (sym (get_or_past cs k [] le)) ∙ asks-class)

    module _ (low : k < length cs) (rows : List Registered) (at : rows ≡ get_or cs k rows) where
      there : rows ≡ get_or cs k []
      there = at ∙ get_or_default cs k rows [] low

      pub caught-laid : (new : List Registered) → SameRows rows new → IsLaid (set cs k new) look
      caught-laid new same = laid-same cs look k new laid (subst (λ z. SameRows z new) there same)

      pub caught-queries : {E : Type 0} (r : Result (Unit {0}) E) (new : List Registered)
          → OnOk r (new ≡ map (caught_by b d k) rows) → OnOk r (merged (set cs k new) ≡ map (caught_by b d k) xs)
      caught-queries (Err e) new told = tt
      caught-queries (Ok u) new told =
          ap (λ z. merged (set cs k z)) (told ∙ ap (map (caught_by b d k)) there) ∙ caught-all

      pub caught-sent : {E : Type 0} (r : Result (Unit {0}) E) (out next : List Sent)
          → OnOk r (next ≡ out ++ asks_at d (filter (catches_by b d k) rows))
          → OnOk r (next ≡ out ++ asks_at d (filter (catches_by b d k) xs))
      caught-sent (Err e) out next told = tt
      caught-sent (Ok u) out next told =
          told ∙ ap (λ z. out ++ asks_at d z) (ap (filter (catches_by b d k)) there ∙ asks-class)
