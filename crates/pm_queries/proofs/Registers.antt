-- A new query: room for its class, its place there, and back where there is no memory.
use Rattle.std.proofs.Common.{◌≡◌, ℕ, ◌<◌, Bool, true, false, inl, inr, cond, List, [], ◌∷◌, length, get_or, set, Option, Some, None, Result, Ok, Err, OnErr, refl, ap, ap₂, sym, ◌∙◌, subst}
use Rattle.std.specs.BTreeMap.{is_at}
use Rattle.std.proofs.lemmas.Bool.{cases_Bool}
use Rattle.std.proofs.lemmas.List.{get_or_default, set-get_or}
use Rattle.pm_base.specs.Stamps.{num_eq}
use Rattle.pm_base.specs.declared.stamp.Num.{Num}
use Rattle.pm_periods.specs.Rows.{IsInOrder}
use Rattle.pm_periods.proofs.Keys.{num_eq-same}
use Rattle.pm_queries.specs.Queries.{add_reg, has_reg, registered_key}
use Rattle.pm_queries.specs.Laid.{HasRoom, IsLaid, merged, num_cmp, spot, spot_of}
use Rattle.pm_queries.specs.declared.registered.Registered.{Registered}
use Rattle.pm_queries.specs.declared.registered.Spot.{Spot}
use Rattle.pm_queries.proofs.Layouts.{class-in_order, laid-new, laid-room, num-is, room-merged}
use Rattle.pm_queries.proofs.Merges.{merged-new}
use Rattle.pm_queries.proofs.Spots.{spot_of-none}

pub laid-alike : (cs : List (List Registered)) (look look' : Num → Option Spot)
    → IsLaid cs look → ((n : Num) → look' n ≡ look n) → IsLaid cs look'
laid-alike cs look look' laid same =
    record { own = laid.own; rising = laid.rising; distinct = laid.distinct; known = λ n. same n ∙ laid.known n }

module _ (cs : List (List Registered)) (look : Num → Option Spot) (laid : IsLaid cs look)
    (xs : List Registered) (is : merged cs ≡ xs) (ds : List (List Registered)) (room : HasRoom cs ds) where
  pub room-laid : IsLaid ds look
  room-laid = laid-room cs ds look room laid

  pub room-same : merged ds ≡ xs
  room-same = room-merged cs ds room ∙ is

  module _ (r : Registered) (f : has_reg r.num xs ≡ false)
      (low : r.class < length ds) (rows : List Registered) (at : rows ≡ get_or ds r.class rows) where
    here : rows ≡ get_or ds r.class []
    here = at ∙ get_or_default ds r.class rows [] low

    absent : has_reg r.num (merged ds) ≡ false
    absent = ap (has_reg r.num) room-same ∙ f

    pub new-order : IsInOrder registered_key rows
    new-order = subst (IsInOrder registered_key) (sym here) (class-in_order ds look r.class room-laid)

    pub new-laid : (new : List Registered) (look' : Num → Option Spot)
        → new ≡ add_reg r rows → ((n : Num) → look' n ≡ cond (is_at (num_cmp r.num) n) (Some (spot r)) (look n))
        → IsLaid (set ds r.class new) look'
    new-laid new look' told known =
        subst (λ z. IsLaid (set ds r.class z) look') (sym (told ∙ ap (add_reg r) here))
        (laid-new ds look
        look' r room-laid low absent (λ n. known n ∙ ap (λ b. cond b (Some (spot r)) (look n)) (num-is r.num n)))

    pub new-queries : (new : List Registered) → new ≡ add_reg r rows → merged (set ds r.class new) ≡ add_reg r xs
    new-queries new told =
        ap (λ z. merged (set ds r.class z)) (told ∙ ap (add_reg r) here)
        ∙ (merged-new r r.class ds low absent ∙ ap (add_reg r) room-same)

    as-was : (new : List Registered) → new ≡ rows → set ds r.class new ≡ ds
    as-was new told = ap (set ds r.class) (told ∙ here) ∙ set-get_or ds r.class []

    pub back-laid : (new : List Registered) (look' look'' : Num → Option Spot)
        → new ≡ rows → ((n : Num) → look' n ≡ cond (is_at (num_cmp r.num) n) (Some (spot r)) (look n))
        → ((n : Num) → look'' n ≡ cond (is_at (num_cmp r.num) n) None (look' n)) → IsLaid (set ds r.class new) look''
    back-laid new look' look'' told known back =
        subst (λ z. IsLaid z look'') (sym (as-was new told)) (laid-alike ds look look'' room-laid (λ n. back n
        ∙ (ap (cond (is_at (num_cmp r.num) n) None) (known n) ∙ by n (is_at (num_cmp r.num) n) (num-is r.num n))))
      where
        none : (n : Num) → num_eq n r.num ≡ true → None ≡ look n
        none n e = sym (room-laid.known n
            ∙ spot_of-none n (merged ds) (ap (λ m. has_reg m (merged ds)) (num_eq-same n r.num e) ∙ absent))

        by : (n : Num) (b : Bool) → b ≡ num_eq n r.num → cond b None (cond b (Some (spot r)) (look n)) ≡ look n
        by n true e = none n (sym e)
        by n false e = refl

    pub back-same : (new : List Registered) → new ≡ rows → merged (set ds r.class new) ≡ xs
    back-same new told = ap merged (as-was new told) ∙ room-same

-- a fact of a refusal that holds anyway
pub on_err : {T E P : Type 0} (r : Result T E) → P → OnErr r P
on_err (Ok x) p = tt
on_err (Err e) p = p
