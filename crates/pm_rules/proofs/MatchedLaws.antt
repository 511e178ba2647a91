-- Lines that are taken match, and in lines that match a needless `else` makes no difference.
use Rattle.std.proofs.Common.{arith, ℕ, ◌≡◌, ◌∙◌, ap, refl, sym, subst, Bool, true, false, List, [], ◌∷◌, ◌++◌, Option, Some, None}
use Rattle.std.specs.Prelude.{not, ◌&&◌, is_some}
use Rattle.pm_base.specs.declared.program.Stmt.{Stmt}
use Rattle.pm_rules.specs.Grammar.{drops_else, is_matched, without_idle_else}
use Rattle.pm_rules.specs.Reading.{Table}
use Rattle.pm_rules.specs.Nesting.{AreFine, IsFine, all_said, are_taken, is_taken, opens}
use Rattle.pm_rules.specs.Rules.{has_no_first, is_empty, last_frame, takes_else, with_said}
use Rattle.pm_rules.specs.declared.draft.Draft.{Draft}
use Rattle.pm_rules.specs.declared.draft.Frame.{Frame}
use Rattle.pm_rules.specs.declared.said.Said.{Said}
use Rattle.pm_rules.specs.declared.said.Said.TheVariants as said
use Rattle.pm_rules.proofs.BackwardLaws.{both, frame_for_else, frames_split, turned_false}
use Rattle.pm_rules.proofs.IdleLaws.{some_frame, taken_parts}
use Rattle.pm_rules.proofs.NestingLaws.{last_frame-append}

opens-append : (fs : List Frame) (f : Frame) → opens (fs ++ f ∷ []) ≡ is_some f.first ∷ opens fs
opens-append [] f = refl
opens-append (g ∷ fs) f = ap (λ (os : List Bool). os ++ is_some g.first ∷ []) (opens-append fs f)

opens_last : (gs fs : List Frame) (f : Frame) → last_frame gs ≡ Some (fs, f) → opens gs ≡ is_some f.first ∷ opens fs
opens_last gs fs f last = ap (λ (hs : List Frame). opens hs) (frames_split gs fs f last) ∙ opens-append fs f

else_step : (d : Draft) (ss : List Said) (fs : List Frame) (f : Frame) → last_frame d.frames ≡ Some (fs, f) → f.first ≡ None →
    is_matched (opens d.frames) (said.Else ∷ ss) ≡ is_matched (opens (with_said said.Else d).frames) ss
unfolding with_said
else_step d ss fs f last none =
    rw (opens_last d.frames fs f last, last, none, opens-append fs (record f { first = Some d.body })) refl

end_step : (d : Draft) (ss : List Said) (fs : List Frame) (f : Frame) → last_frame d.frames ≡ Some (fs, f) →
    is_matched (opens d.frames) (said.End ∷ ss) ≡ is_matched (opens (with_said said.End d).frames) ss
unfolding with_said
end_step d ss fs f last = rw (opens_last d.frames fs f last, last) refl

-- a line that is taken keeps the count of what is open
matched_step : (d : Draft) (s : Said) (ss : List Said) → is_taken d s ≡ true →
    is_matched (opens d.frames) (s ∷ ss) ≡ is_matched (opens (with_said s d).frames) ss
unfolding with_said
matched_step d (said.Reg w z) ss t = refl
matched_step d (said.Sense w s) ss t = refl
matched_step d (said.Does s) ss t = refl
matched_step d (said.If test) ss t = ap (λ (os : List Bool). is_matched os ss) (sym (opens-append d.frames (record { test = test; first = None; outer = d.body })))
matched_step d said.Else ss t =
    let frame = frame_for_else d (last_frame d.frames) refl (turned_false _ (taken_parts d said.Else t).1) in
    else_step d ss frame.0 frame.1 frame.2 frame.3
matched_step d said.End ss t = let frame = some_frame d.frames (taken_parts d said.End t).1 in end_step d ss frame.0 frame.1 frame.2

-- lines that are all taken and leave no `if` open match
pub taken_match : (ss : List Said) (d : Draft) → are_taken d ss ≡ true → (all_said ss d).frames ≡ [] → is_matched (opens d.frames) ss ≡ true
taken_match [] d t none = rw none refl
taken_match (s ∷ ss) d t none =
    let parts = both (is_taken d s) (are_taken (with_said s d) ss) t in
    matched_step d s ss parts.0 ∙ taken_match ss (with_said s d) parts.1 none

-- where lines that match begin with an `else`, it can be taken
takes_it : (d : Draft) (ss : List Said) (o : Option (List Frame × Frame)) → last_frame d.frames ≡ o → is_matched (opens d.frames) (said.Else ∷ ss) ≡ true →
    takes_else o ≡ true
takes_it d ss None last m = no_frame d.frames last m
  where
    no_frame : (gs : List Frame) → last_frame gs ≡ None → is_matched (opens gs) (said.Else ∷ ss) ≡ true → false ≡ true
    no_frame [] e m = m
    no_frame (g ∷ gs) e m = cc
takes_it d ss (Some (fs, f)) last m = none_yet f.first (sym (ap (λ (os : List Bool). is_matched os (said.Else ∷ ss)) (opens_last d.frames fs f last)) ∙ m)
  where
    none_yet : (o : Option (List Stmt)) → is_matched (is_some o ∷ opens fs) (said.Else ∷ ss) ≡ true → has_no_first o ≡ true
    none_yet None m = refl
    none_yet (Some first) m = cc

else_taken : (d : Draft) (ss : List Said) → is_matched (opens d.frames) (said.Else ∷ ss) ≡ true → is_taken d said.Else ≡ true
else_taken d ss m = rw (takes_it d ss (last_frame d.frames) refl m) refl

-- an `else` and then its `end` leave what the `end` alone leaves
idle_end : (d : Draft) → is_taken d said.Else ≡ true → with_said said.End (with_said said.Else d) ≡ with_said said.End d
unfolding with_said
idle_end d t =
    let frame = frame_for_else d (last_frame d.frames) refl (turned_false _ (taken_parts d said.Else t).1) in
    rw (frame.2, last_frame-append frame.0 (record frame.1 { first = Some d.body }), frame.3) refl

idle_taken : (d : Draft) → is_taken d said.Else ≡ true → is_taken (with_said said.Else d) said.End ≡ true
unfolding with_said
idle_taken d t =
    let frame = frame_for_else d (last_frame d.frames) refl (turned_false _ (taken_parts d said.Else t).1) in
    rw frame.2 (open_one frame.0 (record frame.1 { first = Some d.body }))
  where
    open_one : (fs : List Frame) (f : Frame) → (not false && (not (is_empty (fs ++ f ∷ [])) && (not false && not false))) ≡ true
    open_one [] f = refl
    open_one (g ∷ fs) f = refl

open_one : (fs : List Frame) (f : Frame) → is_empty (fs ++ f ∷ []) ≡ false
open_one [] f = refl
open_one (g ∷ fs) f = refl

-- where an `else` can be taken, its `end` can be too
end_instead : (d : Draft) → is_taken d said.Else ≡ true → is_taken d said.End ≡ true
end_instead d t =
    let frame = frame_for_else d (last_frame d.frames) refl (turned_false _ (taken_parts d said.Else t).1) in
    rw (frames_split d.frames frame.0 frame.1 frame.2, open_one frame.0 frame.1) refl

-- an `else` and an `end` are fine where they are taken
plain_else : (t : Table) (version : ℕ) (d : Draft) → is_taken d said.Else ≡ true → IsFine t version d said.Else
plain_else t version d taken = record { taken = taken; sayable = refl; short = omega arith }

plain_end : (t : Table) (version : ℕ) (d : Draft) → is_taken d said.End ≡ true → IsFine t version d said.End
plain_end t version d taken = record { taken = taken; sayable = refl; short = omega arith }

-- the lines are fine, and lead to the same draft
abbrev pub AreSame : Table → ℕ → Draft → List Said → List Said → Type 0
AreSame t version d ss us = AreFine t version d ss × (all_said ss d ≡ all_said us d)

-- where lines that match lose needless `else`s
abbrev pub Goes : Table → ℕ → Draft → List Said → List Said → Type 0
Goes t version d ss us = is_matched (opens d.frames) ss ≡ true → AreFine t version d us → AreSame t version d ss us

on_kept : (t : Table) (version : ℕ) (d : Draft) (s : Said) (ss us : List Said) → ((e : Draft) → Goes t version e ss us) → Goes t version d (s ∷ ss) (s ∷ us)
on_kept t version d s ss us more m fine =
    let same = more (with_said s d) (sym (matched_step d s ss fine.0.taken) ∙ m) fine.1 in
    ((fine.0, same.0), same.1)

on_dropped : (t : Table) (version : ℕ) (d : Draft) (ss zs : List Said) → ((e : Draft) → Goes t version e ss (said.End ∷ zs)) →
    Goes t version d (said.Else ∷ ss) (said.End ∷ zs)
on_dropped t version d ss zs more m fine =
    let taken = else_taken d ss m in
    let same = more (with_said said.Else d) (sym (matched_step d said.Else ss taken) ∙ m)
    (plain_end t version (with_said said.Else d) (idle_taken d taken), subst (λ (e : Draft). AreFine t version e zs) (sym (idle_end d taken)) fine.1) in
    ((plain_else t version d taken, same.0), same.1 ∙ ap (λ (e : Draft). all_said zs e) (idle_end d taken))

on_else : (t : Table) (version : ℕ) (d : Draft) (ss us : List Said) → ((e : Draft) → Goes t version e ss us) →
    Goes t version d (said.Else ∷ ss) (drops_else said.Else us)
on_else t version d ss [] more = on_kept t version d said.Else ss [] more
on_else t version d ss (said.Reg w z ∷ us) more = on_kept t version d said.Else ss (said.Reg w z ∷ us) more
on_else t version d ss (said.Sense w s ∷ us) more = on_kept t version d said.Else ss (said.Sense w s ∷ us) more
on_else t version d ss (said.Does s ∷ us) more = on_kept t version d said.Else ss (said.Does s ∷ us) more
on_else t version d ss (said.If test ∷ us) more = on_kept t version d said.Else ss (said.If test ∷ us) more
on_else t version d ss (said.Else ∷ us) more = on_kept t version d said.Else ss (said.Else ∷ us) more
on_else t version d ss (said.End ∷ us) more = on_dropped t version d ss us more

nil_same : (t : Table) (version : ℕ) (d : Draft) → Goes t version d [] []
nil_same t version d m fine = (tt, refl)

-- lines that match are fine where those without needless `else`s are, and lead to the same draft
pub idle_same : (t : Table) (version : ℕ) (ss : List Said) (d : Draft) → Goes t version d ss (without_idle_else ss)
idle_same t version [] d = nil_same t version d
idle_same t version (said.Reg w z ∷ ss) d = on_kept t version d (said.Reg w z) ss (without_idle_else ss) (idle_same t version ss)
idle_same t version (said.Sense w s ∷ ss) d = on_kept t version d (said.Sense w s) ss (without_idle_else ss) (idle_same t version ss)
idle_same t version (said.Does s ∷ ss) d = on_kept t version d (said.Does s) ss (without_idle_else ss) (idle_same t version ss)
idle_same t version (said.If test ∷ ss) d = on_kept t version d (said.If test) ss (without_idle_else ss) (idle_same t version ss)
idle_same t version (said.Else ∷ ss) d = on_else t version d ss (without_idle_else ss) (idle_same t version ss)
idle_same t version (said.End ∷ ss) d = on_kept t version d said.End ss (without_idle_else ss) (idle_same t version ss)

-- the other way
abbrev pub Comes : Table → ℕ → Draft → List Said → List Said → Type 0
Comes t version d ss us = AreFine t version d ss → AreFine t version d us

back_kept : (t : Table) (version : ℕ) (d : Draft) (s : Said) (ss us : List Said) → ((e : Draft) → Comes t version e ss us) → Comes t version d (s ∷ ss) (s ∷ us)
back_kept t version d s ss us more fine = (fine.0, more (with_said s d) fine.1)

back_dropped : (t : Table) (version : ℕ) (d : Draft) (ss zs : List Said) → ((e : Draft) → Comes t version e ss (said.End ∷ zs)) →
    Comes t version d (said.Else ∷ ss) (said.End ∷ zs)
back_dropped t version d ss zs more fine =
    let inner = more (with_said said.Else d) fine.1 in
    (plain_end t version d (end_instead d fine.0.taken), subst (λ (e : Draft). AreFine t version e zs) (idle_end d fine.0.taken) inner.1)

back_else : (t : Table) (version : ℕ) (d : Draft) (ss us : List Said) → ((e : Draft) → Comes t version e ss us) →
    Comes t version d (said.Else ∷ ss) (drops_else said.Else us)
back_else t version d ss [] more = back_kept t version d said.Else ss [] more
back_else t version d ss (said.Reg w z ∷ us) more = back_kept t version d said.Else ss (said.Reg w z ∷ us) more
back_else t version d ss (said.Sense w s ∷ us) more = back_kept t version d said.Else ss (said.Sense w s ∷ us) more
back_else t version d ss (said.Does s ∷ us) more = back_kept t version d said.Else ss (said.Does s ∷ us) more
back_else t version d ss (said.If test ∷ us) more = back_kept t version d said.Else ss (said.If test ∷ us) more
back_else t version d ss (said.Else ∷ us) more = back_kept t version d said.Else ss (said.Else ∷ us) more
back_else t version d ss (said.End ∷ us) more = back_dropped t version d ss us more

nil_back : (t : Table) (version : ℕ) (d : Draft) → Comes t version d [] []
nil_back t version d fine = tt

-- fine lines are fine without needless `else`s
pub idle_back : (t : Table) (version : ℕ) (ss : List Said) (d : Draft) → Comes t version d ss (without_idle_else ss)
idle_back t version [] d = nil_back t version d
idle_back t version (said.Reg w z ∷ ss) d = back_kept t version d (said.Reg w z) ss (without_idle_else ss) (idle_back t version ss)
idle_back t version (said.Sense w s ∷ ss) d = back_kept t version d (said.Sense w s) ss (without_idle_else ss) (idle_back t version ss)
idle_back t version (said.Does s ∷ ss) d = back_kept t version d (said.Does s) ss (without_idle_else ss) (idle_back t version ss)
idle_back t version (said.If test ∷ ss) d = back_kept t version d (said.If test) ss (without_idle_else ss) (idle_back t version ss)
idle_back t version (said.Else ∷ ss) d = back_else t version d ss (without_idle_else ss) (idle_back t version ss)
idle_back t version (said.End ∷ ss) d = back_kept t version d said.End ss (without_idle_else ss) (idle_back t version ss)
