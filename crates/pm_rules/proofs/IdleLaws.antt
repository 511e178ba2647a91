-- The lines that were taken are the draft's lines, but for needless `else`s; and those make no difference.
use Rattle.std.proofs.Common.{◌≡◌, ◌∙◌, ap, refl, sym, inl, inr, ◌⊎◌, Bool, true, false, List, [], ◌∷◌, ◌++◌, Option, Some, None, append_assoc}
use Rattle.std.specs.List.{AllByRecursion}
use Rattle.std.specs.Prelude.{not, ◌&&◌}
use Rattle.std.proofs.lemmas.List.{append-nil}
use Rattle.pm_base.specs.declared.program.Stmt.{Stmt}
use Rattle.pm_rules.specs.Grammar.{drops_else, without_idle_else}
use Rattle.pm_rules.specs.Nesting.{all_said, are_taken, draft_says, is_taken, IsOneLine}
use Rattle.pm_rules.specs.Rules.{is_begun, is_empty, is_one_too_many, is_out_of_order, is_twice, is_unmatched, last_frame, with_said}
use Rattle.pm_rules.specs.declared.draft.Draft.{Draft}
use Rattle.pm_rules.specs.declared.draft.Frame.{Frame}
use Rattle.pm_rules.specs.declared.said.Said.{Said}
use Rattle.pm_rules.specs.declared.said.Said.TheVariants as said
use Rattle.pm_rules.proofs.BackwardLaws.{both, frame_for_else, neither, nothing_in, says_body, says_else, says_end_first, says_end_idle, says_end_second, says_open, says_reg, says_sense, turned_false}

-- one line more, where an `else` right before its `end` goes
abbrev pub Adds : List Said → Said → List Said → Type 0
Adds before s now =
    (now ≡ before ++ s ∷ []) ⊎ ((s ≡ said.End) × ((xs : List Said) × (before ≡ xs ++ said.Else ∷ []) × (now ≡ xs ++ said.End ∷ [])))

not_begun : (d : Draft) → is_begun d ≡ false → (d.frames ≡ []) × (d.body ≡ [])
not_begun d e =
    let parts = both (is_empty d.frames) (is_empty d.body) (turned_false _ e) in
    (nothing_in d.frames parts.0, nothing_in d.body parts.1)

pub some_frame : (gs : List Frame) → is_empty gs ≡ false → (fs : List Frame) × (f : Frame) × (last_frame gs ≡ Some (fs, f))
some_frame [] e = cc
some_frame (g ∷ gs) e = (_, _, refl)

end_adds : (d : Draft) (fs : List Frame) (f : Frame) (first : Option (List Stmt)) (body : List Stmt) → last_frame d.frames ≡ Some (fs, f) →
    f.first ≡ first → d.body ≡ body → Adds (draft_says d) said.End (draft_says (with_said said.End d))
end_adds d fs f None body last came is = inl (says_end_first d fs f last came)
end_adds d fs f (Some first) (c ∷ cs) last came is = inl (says_end_second d fs f first c cs last came is)
end_adds d fs f (Some first) [] last came is = inr (refl, says_end_idle d fs f first last came is)

no_faults : (a b c e : Bool) → (not a && (not b && (not c && not e))) ≡ true → (a ≡ false) × (b ≡ false) × (c ≡ false) × (e ≡ false)
no_faults false false false false t = (refl, refl, refl, refl)
no_faults false false false true t = cc
no_faults false false true e t = cc
no_faults false true c e t = cc
no_faults true b c e t = cc

-- what a line that is taken has not
pub taken_parts : (d : Draft) (s : Said) → is_taken d s ≡ true →
    (is_out_of_order d s ≡ false) × (is_unmatched d s ≡ false) × (is_one_too_many d s ≡ false) × (is_twice d s ≡ false)
taken_parts d s t = no_faults (is_out_of_order d s) (is_unmatched d s) (is_one_too_many d s) (is_twice d s) t

-- a line that is taken is added
pub taken_adds : (d : Draft) (s : Said) → is_taken d s ≡ true → IsOneLine s → Adds (draft_says d) s (draft_says (with_said s d))
taken_adds d (said.Reg w z) t one =
    let order = neither (not (is_empty d.senses)) (is_begun d) (taken_parts d (said.Reg w z) t).0 in
    let none = not_begun d order.1 in
    inl (says_reg d w z (nothing_in d.senses (turned_false _ order.0)) none.0 none.1)
taken_adds d (said.Sense w s) t one =
    let none = not_begun d (taken_parts d (said.Sense w s) t).0 in
    inl (says_sense d w s none.0 none.1)
taken_adds d (said.Does s) t one = inl (says_body d s one)
taken_adds d (said.If test) t one = inl (says_open d test)
taken_adds d said.Else t one =
    let frame = frame_for_else d (last_frame d.frames) refl (turned_false _ (taken_parts d said.Else t).1) in
    inl (says_else d frame.0 frame.1 frame.2 frame.3)
taken_adds d said.End t one =
    let frame = some_frame d.frames (taken_parts d said.End t).1 in
    end_adds d frame.0 frame.1 frame.1.first d.body frame.2 refl refl

-- what stands before matters not
pub idle-ap : (xs a b : List Said) → without_idle_else a ≡ without_idle_else b → without_idle_else (xs ++ a) ≡ without_idle_else (xs ++ b)
idle-ap [] a b e = e
idle-ap (x ∷ xs) a b e = ap (λ (ss : List Said). drops_else x ss) (idle-ap xs a b e)

one_more : (before now : List Said) (s : Said) (ss : List Said) → Adds before s now → without_idle_else (before ++ s ∷ ss) ≡ without_idle_else (now ++ ss)
one_more before now s ss (inl is) = ap (λ (ts : List Said). without_idle_else ts) (sym (ap (λ (ts : List Said). ts ++ ss) is ∙ append_assoc before (s ∷ []) ss))
one_more before now s ss (inr (end, (xs, was, is))) =
    rw (end, was, is, append_assoc xs (said.Else ∷ []) (said.End ∷ ss), append_assoc xs (said.End ∷ []) ss)
    (idle-ap xs (said.Else ∷ said.End ∷ ss) (said.End ∷ ss) refl)

-- the lines taken from a draft on are those of the draft that they lead to
pub taken_said : (ss : List Said) (d : Draft) → are_taken d ss ≡ true → AllByRecursion IsOneLine ss →
    without_idle_else (draft_says d ++ ss) ≡ without_idle_else (draft_says (all_said ss d))
taken_said [] d t all = ap (λ (ts : List Said). without_idle_else ts) (append-nil (draft_says d))
taken_said (s ∷ ss) d t all =
    let parts = both (is_taken d s) (are_taken (with_said s d) ss) t in
    one_more (draft_says d) (draft_says (with_said s d)) s ss (taken_adds d s parts.0 all.0)
    ∙ taken_said ss (with_said s d) parts.1 all.1
