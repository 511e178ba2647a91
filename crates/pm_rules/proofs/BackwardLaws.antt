-- What the lines said stands in the draft that they lead to.
use Rattle.std.proofs.Common.{◌≡◌, ◌∙◌, ap, refl, sym, ℕ, ℤ, Bool, true, false, List, [], ◌∷◌, ◌++◌, Option, Some, None, append_assoc}
use Rattle.std.specs.Prelude.{map, not, ◌&&◌, ◌||◌}
use Rattle.std.proofs.lemmas.List.{append-nil}
use Rattle.pm_base.specs.declared.program.Expr.{Expr}
use Rattle.pm_base.specs.declared.program.RegRow.{RegRow}
use Rattle.pm_base.specs.declared.program.SenseRow.{SenseRow}
use Rattle.pm_base.specs.declared.program.Sense.{Sense}
use Rattle.pm_base.specs.declared.program.Stmt.{Stmt}
use Rattle.pm_base.specs.declared.program.Stmt.TheVariants.{If}
use Rattle.pm_rules.specs.Nesting.{draft_says, first_said, frames_said}
use Rattle.pm_rules.specs.Rules.{has_no_first, is_empty, last_frame, takes_else, whole_if, with_first, with_said}
use Rattle.pm_rules.specs.Spelling.{else_said, reg_said, says, says_all, sense_said}
use Rattle.pm_rules.specs.declared.draft.Draft.{Draft}
use Rattle.pm_rules.specs.declared.draft.Frame.{Frame}
use Rattle.pm_rules.specs.declared.said.Said.{Said}
use Rattle.pm_rules.specs.declared.said.Said.TheVariants as said
use Rattle.pm_rules.proofs.NestingLaws.{says-If}

pub both : (x y : Bool) → (x && y) ≡ true → (x ≡ true) × (y ≡ true)
both true true e = (refl, refl)
both true false e = cc
both false y e = cc

pub neither : (x y : Bool) → (x || y) ≡ false → (x ≡ false) × (y ≡ false)
neither false false e = (refl, refl)
neither false true e = cc
neither true y e = cc

pub turned_not : (x : Bool) → not x ≡ true → x ≡ false
turned_not false e = refl
turned_not true e = cc

pub turned_false : (x : Bool) → not x ≡ false → x ≡ true
turned_false true e = refl
turned_false false e = cc

pub nothing_in : {A : Type 0} (xs : List A) → is_empty xs ≡ true → xs ≡ []
nothing_in [] e = refl
nothing_in (x ∷ xs) e = cc

pub says_all-append : (a b : List Stmt) → says_all (a ++ b) ≡ says_all a ++ says_all b
says_all-append [] b = refl
says_all-append (c ∷ a) b = ap (λ (ss : List Said). says c ++ ss) (says_all-append a b) ∙ sym (append_assoc (says c) (says_all a) (says_all b))

reg_said-append : (a b : List RegRow) → reg_said (a ++ b) ≡ reg_said a ++ reg_said b
reg_said-append [] b = refl
reg_said-append (row ∷ a) b = ap (λ (ss : List Said). said.Reg row.name row.start ∷ ss) (reg_said-append a b)

sense_said-append : (a b : List SenseRow) → sense_said (a ++ b) ≡ sense_said a ++ sense_said b
sense_said-append [] b = refl
sense_said-append (row ∷ a) b = ap (λ (ss : List Said). said.Sense row.name row.sense ∷ ss) (sense_said-append a b)

abbrev pub frame_says : Frame → List Said
frame_says f = says_all f.outer ++ (said.If f.test ∷ first_said f.first)

frames_said-append : (fs : List Frame) (f : Frame) → frames_said (fs ++ f ∷ []) ≡ frames_said fs ++ frame_says f
frames_said-append [] f = ap (λ (ss : List Said). says_all f.outer ++ (said.If f.test ∷ ss)) (append-nil (first_said f.first))
frames_said-append (g ∷ fs) f =
    ap (λ (ss : List Said). says_all g.outer ++ (said.If g.test ∷ (first_said g.first ++ ss))) (frames_said-append fs f)
    ∙ ap (λ (ss : List Said). says_all g.outer ++ (said.If g.test ∷ ss)) (sym (append_assoc (first_said g.first) (frames_said fs) (frame_says f)))
    ∙ sym (append_assoc (says_all g.outer) (said.If g.test ∷ (first_said g.first ++ frames_said fs)) (frame_says f))

-- what stands before the open list
abbrev pub front : Draft → List Said → List Said
front d tail = reg_said d.regs ++ (sense_said d.senses ++ tail)

pub front-append : (d : Draft) (a b : List Said) → front d (a ++ b) ≡ front d a ++ b
front-append d a b =
    ap (λ (ss : List Said). reg_said d.regs ++ ss) (sym (append_assoc (sense_said d.senses) a b))
    ∙ sym (append_assoc (reg_said d.regs) (sense_said d.senses ++ a) b)

-- one more statement of one line
pub says_body : (d : Draft) (s : Stmt) → says_all (s ∷ []) ≡ said.Does s ∷ [] → draft_says (with_said (said.Does s) d) ≡ draft_says d ++ said.Does s ∷ []
unfolding with_said
says_body d s one =
    ap (λ (ss : List Said). front d (frames_said d.frames ++ ss)) (says_all-append d.body (s ∷ []) ∙ ap (λ (ss : List Said). says_all d.body ++ ss) one)
    ∙ ap (λ (ss : List Said). front d ss) (sym (append_assoc (frames_said d.frames) (says_all d.body) (said.Does s ∷ [])))
    ∙ front-append d (frames_said d.frames ++ says_all d.body) (said.Does s ∷ [])

pub says_reg : (d : Draft) (w : List ℕ) (z : ℤ) → d.senses ≡ [] → d.frames ≡ [] → d.body ≡ [] →
    draft_says (with_said (said.Reg w z) d) ≡ draft_says d ++ said.Reg w z ∷ []
unfolding with_said
says_reg d w z ns nf nb =
    rw (ns, nf, nb, append-nil (reg_said (d.regs ++ record { name = w; start = z } ∷ [])), append-nil (reg_said d.regs))
    (reg_said-append d.regs (record { name = w; start = z } ∷ []))

pub says_sense : (d : Draft) (w : List ℕ) (s : Sense) → d.frames ≡ [] → d.body ≡ [] →
    draft_says (with_said (said.Sense w s) d) ≡ draft_says d ++ said.Sense w s ∷ []
unfolding with_said
says_sense d w s nf nb =
    rw (nf, nb, append-nil (sense_said (d.senses ++ record { name = w; sense = s } ∷ [])), append-nil (sense_said d.senses), sense_said-append d.senses (record { name = w; sense = s } ∷ []))
    (sym (append_assoc (reg_said d.regs) (sense_said d.senses) (said.Sense w s ∷ [])))

pub says_open : (d : Draft) (test : Expr) → draft_says (with_said (said.If test) d) ≡ draft_says d ++ said.If test ∷ []
unfolding with_said
says_open d test =
    ap (λ (ss : List Said). front d (ss ++ [])) (frames_said-append d.frames (record { test = test; first = None; outer = d.body }))
    ∙ ap (λ (ss : List Said). front d ss) (append-nil (frames_said d.frames ++ frame_says (record { test = test; first = None; outer = d.body })) ∙ sym (append_assoc (frames_said d.frames) (says_all d.body) (said.If test ∷ [])))
    ∙ front-append d (frames_said d.frames ++ says_all d.body) (said.If test ∷ [])

pub same_Some : {A : Type 0} (a b : A) → Some a ≡ Some b → a ≡ b
same_Some a b e = cc

-- an `else` that is taken has its frame
pub frame_for_else : (d : Draft) (o : Option (List Frame × Frame)) → o ≡ last_frame d.frames → takes_else o ≡ true →
    (fs : List Frame) × (f : Frame) × (last_frame d.frames ≡ Some (fs, f)) × (f.first ≡ None)
frame_for_else d None e t = cc
frame_for_else d (Some (fs, f)) e t = (fs, f, sym e, no_first f.first t)
  where
    no_first : (o : Option (List Stmt)) → has_no_first o ≡ true → o ≡ None
    no_first None e = refl
    no_first (Some first) e = cc

pub no_last : (hs : List Frame) → last_frame hs ≡ None → hs ≡ []
no_last [] e = refl
no_last (h ∷ hs) e = cc

split_first : (g : Frame) (gs fs : List Frame) (f : Frame) (o : Option (List Frame × Frame)) → last_frame gs ≡ o → Some (with_first g o) ≡ Some (fs, f) →
    ((hs : List Frame) (h : Frame) → last_frame gs ≡ Some (hs, h) → gs ≡ hs ++ h ∷ []) → g ∷ gs ≡ fs ++ f ∷ []
split_first g gs fs f None last same split = rw (no_last gs last) (ap (λ (p : List Frame × Frame). p.0 ++ p.1 ∷ []) (same_Some ([], g) (fs, f) same))
split_first g gs fs f (Some (hs, h)) last same split =
    ap (λ (ts : List Frame). g ∷ ts) (split hs h last)
    ∙ ap (λ (p : List Frame × Frame). p.0 ++ p.1 ∷ []) (same_Some (g ∷ hs, h) (fs, f) same)

-- the frames are those before the last one, and it
pub frames_split : (gs fs : List Frame) (f : Frame) → last_frame gs ≡ Some (fs, f) → gs ≡ fs ++ f ∷ []
frames_split [] fs f e = cc
frames_split (g ∷ gs) fs f e = split_first g gs fs f (last_frame gs) refl e (λ hs h same. frames_split gs hs h same)

-- the lines of an open `if` without its `else`, and those of its open list
open_body : (d : Draft) (fs : List Frame) (f : Frame) → f.first ≡ None → last_frame d.frames ≡ Some (fs, f) →
    frames_said d.frames ++ says_all d.body ≡ frames_said fs ++ (says_all f.outer ++ (said.If f.test ∷ says_all d.body))
open_body d fs f none last =
    rw (frames_split d.frames fs f last, frames_said-append fs f, none)
    (append_assoc (frames_said fs) (says_all f.outer ++ (said.If f.test ∷ [])) (says_all d.body)
    ∙ ap (λ (ss : List Said). frames_said fs ++ ss) (append_assoc (says_all f.outer) (said.If f.test ∷ []) (says_all d.body)))

-- with its `else`
turned_body : (d : Draft) (fs : List Frame) (f : Frame) (first : List Stmt) → f.first ≡ Some first → last_frame d.frames ≡ Some (fs, f) →
    frames_said d.frames ++ says_all d.body ≡ frames_said fs ++ (says_all f.outer ++ (said.If f.test ∷ (says_all first ++ (said.Else ∷ says_all d.body))))
turned_body d fs f first came last =
    rw (frames_split d.frames fs f last, frames_said-append fs f, came)
    (append_assoc (frames_said fs) (says_all f.outer ++ (said.If f.test ∷ (says_all first ++ said.Else ∷ []))) (says_all d.body)
    ∙ ap (λ (ss : List Said). frames_said fs ++ ss) (append_assoc (says_all f.outer) (said.If f.test ∷ (says_all first ++ said.Else ∷ [])) (says_all d.body)
    ∙ ap (λ (ss : List Said). says_all f.outer ++ (said.If f.test ∷ ss)) (append_assoc (says_all first) (said.Else ∷ []) (says_all d.body))))

-- one line more behind lines in three parts
behind_three : (d : Draft) (a b c : List Said) (s : Said) → front d (a ++ (b ++ (c ++ s ∷ []))) ≡ front d (a ++ (b ++ c)) ++ s ∷ []
behind_three d a b c s =
    ap (λ (ss : List Said). front d (a ++ ss)) (sym (append_assoc b c (s ∷ [])))
    ∙ ap (λ (ss : List Said). front d ss) (sym (append_assoc a (b ++ c) (s ∷ [])))
    ∙ front-append d (a ++ (b ++ c)) (s ∷ [])

pub says_else : (d : Draft) (fs : List Frame) (f : Frame) → last_frame d.frames ≡ Some (fs, f) → f.first ≡ None →
    draft_says (with_said said.Else d) ≡ draft_says d ++ said.Else ∷ []
unfolding with_said
says_else d fs f last none =
    rw last
    (ap (λ (ss : List Said). front d (ss ++ [])) (frames_said-append fs (record f { first = Some d.body }))
    ∙ ap (λ (ss : List Said). front d ss) (append-nil (frames_said fs ++ frame_says (record f { first = Some d.body })))
    ∙ behind_three d (frames_said fs) (says_all f.outer) (said.If f.test ∷ says_all d.body) said.Else
    ∙ ap (λ (ss : List Said). front d ss ++ said.Else ∷ []) (sym (open_body d fs f none last)))

-- the statement that `end` closes
closed_says : (fs : List Frame) (f : Frame) (d : Draft) → last_frame d.frames ≡ Some (fs, f) →
    draft_says (with_said said.End d) ≡ front d (frames_said fs ++ (says_all f.outer ++ says (whole_if f.test f.first d.body)))
unfolding with_said
closed_says fs f d last =
    rw last
    (ap (λ (ss : List Said). front d (frames_said fs ++ ss))
    (says_all-append f.outer (whole_if f.test f.first d.body ∷ [])
    ∙ ap (λ (ss : List Said). says_all f.outer ++ ss) (append-nil (says (whole_if f.test f.first d.body)))))

pub says_end_first : (d : Draft) (fs : List Frame) (f : Frame) → last_frame d.frames ≡ Some (fs, f) → f.first ≡ None →
    draft_says (with_said said.End d) ≡ draft_says d ++ said.End ∷ []
says_end_first d fs f last none =
    closed_says fs f d last
    ∙ ap (λ (o : Option (List Stmt)). front d (frames_said fs ++ (says_all f.outer ++ says (whole_if f.test o d.body)))) none
    ∙ ap (λ (ss : List Said). front d (frames_said fs ++ (says_all f.outer ++ ss))) (says-If f.test d.body [])
    ∙ behind_three d (frames_said fs) (says_all f.outer) (said.If f.test ∷ says_all d.body) said.End
    ∙ ap (λ (ss : List Said). front d ss ++ said.End ∷ []) (sym (open_body d fs f none last))

pub says_end_second : (d : Draft) (fs : List Frame) (f : Frame) (first : List Stmt) (c : Stmt) (cs : List Stmt) → last_frame d.frames ≡ Some (fs, f) →
    f.first ≡ Some first → d.body ≡ c ∷ cs → draft_says (with_said said.End d) ≡ draft_says d ++ said.End ∷ []
says_end_second d fs f first c cs last came body =
    closed_says fs f d last
    ∙ ap (λ (o : Option (List Stmt)). front d (frames_said fs ++ (says_all f.outer ++ says (whole_if f.test o d.body)))) came
    ∙ ap (λ (ss : List Said). front d (frames_said fs ++ (says_all f.outer ++ ss)))
    (says-If f.test first d.body ∙ ap (λ (ss : List Said). said.If f.test ∷ (says_all first ++ (ss ++ said.End ∷ []))) (second_said d.body c cs body)
    ∙ ap (λ (ss : List Said). said.If f.test ∷ ss) (sym (append_assoc (says_all first) (said.Else ∷ says_all d.body) (said.End ∷ []))))
    ∙ behind_three d (frames_said fs) (says_all f.outer) (said.If f.test ∷ (says_all first ++ (said.Else ∷ says_all d.body))) said.End
    ∙ ap (λ (ss : List Said). front d ss ++ said.End ∷ []) (sym (turned_body d fs f first came last))
  where
    second_said : (body : List Stmt) (c : Stmt) (cs : List Stmt) → body ≡ c ∷ cs → else_said (map says body) ≡ said.Else ∷ says_all body
    second_said body c cs e = rw e refl

-- an `end` right behind its `else`, which is then left out
pub says_end_idle : (d : Draft) (fs : List Frame) (f : Frame) (first : List Stmt) → last_frame d.frames ≡ Some (fs, f) →
    f.first ≡ Some first → d.body ≡ [] → (before : List Said) × (draft_says d ≡ before ++ said.Else ∷ []) × (draft_says (with_said said.End d) ≡ before ++ said.End ∷ [])
says_end_idle d fs f first last came body = (
  front d (frames_said fs ++ (says_all f.outer ++ (said.If f.test ∷ says_all first))),
  ap (λ (ss : List Said). front d ss) (turned_body d fs f first came last)
      ∙ ap (λ (b : List Stmt). front d (frames_said fs ++ (says_all f.outer ++ (said.If f.test ∷ (says_all first ++ (said.Else ∷ says_all b)))))) body
      ∙ behind_three d (frames_said fs) (says_all f.outer) (said.If f.test ∷ says_all first) said.Else,
  closed_says fs f d last
      ∙ ap (λ (o : Option (List Stmt)). front d (frames_said fs ++ (says_all f.outer ++ says (whole_if f.test o d.body)))) came
      ∙ ap (λ (b : List Stmt). front d (frames_said fs ++ (says_all f.outer ++ says (If f.test first b)))) body
      ∙ ap (λ (ss : List Said). front d (frames_said fs ++ (says_all f.outer ++ ss))) (says-If f.test first [])
      ∙ behind_three d (frames_said fs) (says_all f.outer) (said.If f.test ∷ says_all first) said.End,
)
