-- Lists of cells: what is told of each, and what stays as they go on.
use Rattle.std.proofs.Common.{◌≡◌, ℕ, zero, suc, ◌+◌, ◌<◌, ◌≤◌, ◌≢◌, inl, inr, Bool, true, false, cond, ◌==◌, List, [], ◌∷◌, ◌++◌, map, length, refl, arith, ap, ap₂, sym, ◌∙◌, subst, append-nil, length-append, Option, Some}
use Rattle.std.proofs.lemmas.List.{length-map}
use Rattle.std.specs.List.{AllByRecursion}
use Rattle.pm_base.specs.declared.stamp.Line.{Line}
use Rattle.pm_history.specs.Merged.{Tagged, tag, tags}
use Rattle.pm_history.specs.declared.histories.Heard.{Heard}
use Rattle.pm_plan.specs.declared.plan.Plan.{Plan}
use Rattle.pm_cell.specs.Cells.{Came, Looked}
use Rattle.pm_ends.specs.Numbers.{Pairs, nth}
use Rattle.pm_cell.specs.Machines.{Machine}
use Rattle.pm_cell.specs.Sides.{Replays, Side}
use Rattle.pm_cell.specs.Views.{AreCellsOf, FitsPlan, Frame, NumberedFrom, View, nows, story_of, told, view_at}
use Rattle.pm_cell.proofs.Lists.{each_append, each_map, heard_of, part, same_or}
use Rattle.pm_cell.proofs.Machines.{AllThere}
use Rattle.pm_cell.proofs.Sides.{begins_behind}

-- ---- what is told of each process

part_append : (q : ℕ) (xs ys : List Tagged) → part q (xs ++ ys) ≡ part q xs ++ part q ys
part_append q [] ys = refl
part_append q (x ∷ xs) ys = go (x.1 == q) (part_append q xs ys)
  where
    go : (b : Bool) → part q (xs ++ ys) ≡ part q xs ++ part q ys → cond b (heard_of x ∷ part q (xs ++ ys)) (part q (xs ++ ys)) ≡ cond b (heard_of x ∷ part q xs) (part q xs) ++ part q ys
    go true r = ap (λ z. heard_of x ∷ z) r
    go false r = r

part_own : (p q : ℕ) (hs : List Heard) → (p == q) ≡ true → part q (map (tag p) hs) ≡ hs
part_own p q [] e = refl
part_own p q (h ∷ hs) e = ap (λ (b : Bool). cond b (h ∷ part q (map (tag p) hs)) (part q (map (tag p) hs))) e ∙ ap (λ z. h ∷ z) (part_own p q hs e)

part_else : (p q : ℕ) (hs : List Heard) → (p == q) ≡ false → part q (map (tag p) hs) ≡ []
part_else p q [] e = refl
part_else p q (h ∷ hs) e = ap (λ (b : Bool). cond b (h ∷ part q (map (tag p) hs)) (part q (map (tag p) hs))) e ∙ part_else p q hs e

is_eqb : (a b : ℕ) → a ≡ b → (a == b) ≡ true
is_eqb a b e = elim (same_or a b) [ inl same ↦ same.1 | inr other ↦ absurd (other.0 e) ]

not_eqb : (a b : ℕ) → a ≢ b → (a == b) ≡ false
not_eqb a b ne = elim (same_or a b) [ inl same ↦ absurd (ne same.0) | inr other ↦ other.1 ]

-- ---- what stays where the cells go on

-- the frames stay
abbrev pub SameFrame : {S : Type 0} → View S → View S → Type 0
SameFrame a b = b.frame ≡ a.frame

pub pairs_with : {S : Type 0} (R Q : View S → View S → Type 0) (vs us : List (View S)) → ((a b : View S) → R a b → Q a b) → Pairs R vs us → Pairs Q vs us
pairs_with R Q [] [] f r = tt
pairs_with R Q [] (u ∷ us) f r = absurd r
pairs_with R Q (v ∷ vs) [] f r = absurd r
pairs_with R Q (v ∷ vs) (u ∷ us) f r = (f v u r.0, pairs_with R Q vs us f r.1)

pub pairs_on : {S : Type 0} (R Q T : View S → View S → Type 0) (vs us ts : List (View S)) → ((a b c : View S) → R a b → Q b c → T a c) → Pairs R vs us → Pairs Q us ts → Pairs T vs ts
pairs_on R Q T [] [] [] f r q = tt
pairs_on R Q T [] [] (t ∷ ts) f r q = absurd q
pairs_on R Q T [] (u ∷ us) ts f r q = absurd r
pairs_on R Q T (v ∷ vs) [] ts f r q = absurd r
pairs_on R Q T (v ∷ vs) (u ∷ us) [] f r q = absurd q
pairs_on R Q T (v ∷ vs) (u ∷ us) (t ∷ ts) f r q = (f v u t r.0 q.0, pairs_on R Q T vs us ts f r.1 q.1)

-- what holds of each cell and follows for what it becomes holds of each that it becomes
pub each_on : {S : Type 0} (R : View S → View S → Type 0) (P Q : View S → Type 0) (vs us : List (View S)) → ((a b : View S) → R a b → P a → Q b) → Pairs R vs us → AllByRecursion P vs → AllByRecursion Q us
each_on R P Q [] [] f r a = tt
each_on R P Q [] (u ∷ us) f r a = absurd r
each_on R P Q (v ∷ vs) [] f r a = absurd r
each_on R P Q (v ∷ vs) (u ∷ us) f r a = (f v u r.0 a.0, each_on R P Q vs us f r.1 a.1)

pub pairs_length : {S : Type 0} (R : View S → View S → Type 0) (vs us : List (View S)) → Pairs R vs us → length us ≡ length vs
pairs_length R [] [] r = refl
pairs_length R [] (u ∷ us) r = absurd r
pairs_length R (v ∷ vs) [] r = absurd r
pairs_length R (v ∷ vs) (u ∷ us) r = ap suc (pairs_length R vs us r.1)

module _ {S : Type 0} (s : S) where
  -- what holds of each pair holds at each number, where it holds of nobody
  pub pairs_at : (R Q : View S → View S → Type 0) (vs us : List (View S)) (k : ℕ) → ((a b : View S) → R a b → Q a b) → Q (view_at s [] 0) (view_at s [] 0) → Pairs R vs us → Q (view_at s vs k) (view_at s us k)
  pairs_at R Q [] [] k f base r = base
  pairs_at R Q [] (u ∷ us) k f base r = absurd r
  pairs_at R Q (v ∷ vs) [] k f base r = absurd r
  pairs_at R Q (v ∷ vs) (u ∷ us) zero f base r = f v u r.0
  pairs_at R Q (v ∷ vs) (u ∷ us) (suc k) f base r = pairs_at R Q vs us k f base r.1

  pub each_at : (P : View S → Type 0) (vs : List (View S)) (k : ℕ) → k < length vs → AllByRecursion P vs → P (view_at s vs k)
  each_at P [] k lt a = absurd (omega arith)
  each_at P (v ∷ vs) zero lt a = a.0
  each_at P (v ∷ vs) (suc k) lt a = each_at P vs k (omega arith) a.1

  pub each_from : (P : View S → Type 0) (vs : List (View S)) → ((k : ℕ) → k < length vs → P (view_at s vs k)) → AllByRecursion P vs
  each_from P [] h = tt
  each_from P (v ∷ vs) h = (h 0 (omega arith), each_from P vs (λ k lt. h (suc k) (omega (arith, lt))))

  numbers_on : (i : ℕ) (vs us : List (View S)) → Pairs SameFrame vs us → NumberedFrom i vs → NumberedFrom i us
  numbers_on i [] [] r n = tt
  numbers_on i [] (u ∷ us) r n = absurd r
  numbers_on i (v ∷ vs) [] r n = absurd r
  numbers_on i (v ∷ vs) (u ∷ us) r n = (ap (λ (f : Frame). f.number) r.0 ∙ n.0, numbers_on (suc i) vs us r.1 n.1)

  -- the cell of a number has that number
  pub numbered : (i k : ℕ) (vs : List (View S)) → NumberedFrom i vs → k < length vs → (view_at s vs k).frame.number ≡ i + k
  numbered i k [] n lt = absurd (omega arith)
  numbered i zero (v ∷ vs) n lt = n.0 ∙ omega arith
  numbered i (suc k) (v ∷ vs) n lt = numbered (suc i) k vs n.1 (omega arith) ∙ omega arith

  pub frame_at : (vs us : List (View S)) (k : ℕ) → Pairs SameFrame vs us → (view_at s us k).frame ≡ (view_at s vs k).frame
  frame_at vs us k r = pairs_at SameFrame SameFrame vs us k (λ a b h. h) refl r

  pub cells_on : (p : Plan) (vs us : List (View S)) → Pairs SameFrame vs us → AreCellsOf s p vs → AreCellsOf s p us
  cells_on p vs us r c = record {
    numbers = numbers_on 0 vs us r c.numbers;
    count = pairs_length SameFrame vs us r ∙ c.count;
    fit = each_on SameFrame (λ (v : View S). FitsPlan p v.frame) (λ (v : View S). FitsPlan p v.frame) vs us (λ a b same fit. subst (FitsPlan p) (sym same) fit) r c.fit;
    wired = λ a j x at.
        let old = c.wired a j x (subst (λ (f : Frame). nth f.inns j ≡ Some x) (frame_at vs us a r) at) in
        record { out = old.out; at = subst (λ (f : Frame). nth f.outs x.slot ≡ Some old.out) (sym (frame_at vs us x.from r)) old.at; to = old.to; link = old.link };
  }

  part_below : (i q : ℕ) (vs : List (View S)) → NumberedFrom i vs → q < i → part q (tags (map story_of vs)) ≡ []
  part_below i q [] n lt = refl
  part_below i q (v ∷ vs) n lt = part_append q (map (tag v.frame.number) v.story) (tags (map story_of vs))
      ∙ ap₂ (λ x y. x ++ y) (part_else v.frame.number q v.story (not_eqb v.frame.number q (λ e. absurd (let f = n.0 in omega (arith, f, e, lt))))) (part_below (suc i) q vs n.1 (omega arith))

  -- what is told of the process of a number is its cell's story
  pub part_told : (i q k : ℕ) (vs : List (View S)) → NumberedFrom i vs → q ≡ i + k → part q (tags (map story_of vs)) ≡ (view_at s vs k).story
  part_told i q k [] n e = refl
  part_told i q zero (v ∷ vs) n e = part_append q (map (tag v.frame.number) v.story) (tags (map story_of vs))
      ∙ ap₂ (λ x y. x ++ y) (part_own v.frame.number q v.story (is_eqb v.frame.number q (let f = n.0 in omega (arith, f, e)))) (part_below (suc i) q vs n.1 (omega (arith, e)))
      ∙ append-nil v.story
  part_told i q (suc k) (v ∷ vs) n e = part_append q (map (tag v.frame.number) v.story) (tags (map story_of vs))
      ∙ ap₂ (λ x y. x ++ y) (part_else v.frame.number q v.story (not_eqb v.frame.number q (λ f. absurd (let g = n.0 in omega (arith, g, e, f))))) (part_told (suc i) q k vs n.1 (omega (arith, e)))

  pub length_told : (vs : List (View S)) → length (tags (map story_of vs)) ≡ told vs
  length_told [] = refl
  length_told (v ∷ vs) =
      let long = length-append (map (tag v.frame.number) v.story) (tags (map story_of vs)) in
      let one = length-map v.story (tag v.frame.number) in
      let more = length_told vs in
      omega (arith, long, one, more)

  -- no story is longer than all together
  pub story_told : (vs : List (View S)) → AllByRecursion (λ (v : View S). length v.story ≤ told vs) vs
  story_told vs = go vs (told vs) (omega arith)
    where
      go : (us : List (View S)) (n : ℕ) → told us ≤ n → AllByRecursion (λ (v : View S). length v.story ≤ n) us
      go [] n le = tt
      go (u ∷ us) n le = (omega (arith, le), go us n (omega (arith, le)))

module _ {W S : Type 0} (core : Machine W S) (s : S) where
  -- where the cells had no story, each story leads from what its cell was to what it is
  pub all_replay : (i q k : ℕ) (vs us : List (View S)) → NumberedFrom i vs → Pairs (Came core) vs us → AllByRecursion (λ (v : View S). v.story ≡ []) vs → AllByRecursion (λ (u : View S). u.spoilt ≡ false) us → q ≡ i + k
      → Replays core (view_at s us k).window q (view_at s us k).story (nows s vs k) (nows s us k)
  all_replay i q k [] [] n r none sound e = refl
  all_replay i q k [] (u ∷ us) n r none sound e = absurd r
  all_replay i q k (v ∷ vs) [] n r none sound e = absurd r
  all_replay i q zero (v ∷ vs) (u ∷ us) n r none sound e =
      let c = r.0 in
      let whole : u.story ≡ c.more = c.story ∙ ap (λ (hs : List Heard). hs ++ c.more) none.0 in
      let own : v.frame.number ≡ q = n.0 ∙ sym (e ∙ omega arith) in
      subst (λ (o : Option Line). Replays core o q u.story v.now u.now) (sym c.window)
      (subst (λ (hs : List Heard). Replays core v.window q hs v.now u.now) (sym whole)
      (subst (λ (j : ℕ). Replays core v.window j c.more v.now u.now) own (c.replays sound.0)))
  all_replay i q (suc k) (v ∷ vs) (u ∷ us) n r none sound e = all_replay (suc i) q k vs us n.1 r.1 none.1 sound.1 (omega (arith, e))

  pub all_there : (i : ℕ) (w : W) (vs : List (View S)) → NumberedFrom i vs → ((k : ℕ) → i ≤ k → k < i + length vs → core.has w k ≡ true) → AllThere core w (tags (map story_of vs))
  all_there i w [] n there = tt
  all_there i w (v ∷ vs) n there = each_append (λ (e : Tagged). core.has w e.1 ≡ true) (map (tag v.frame.number) v.story) (tags (map story_of vs))
      (each_map (tag v.frame.number) (λ (e : Tagged). core.has w e.1 ≡ true) v.story (λ h. there v.frame.number (let f = n.0 in omega (arith, f)) (let f = n.0 in omega (arith, f))))
      (all_there (suc i) w vs n.1 (λ k low high. there k (omega (arith, low)) (omega (arith, high))))

  -- a cell that only looked came from what it was
  pub looked_came : (a b : View S) → Looked a b → Came core a b
  looked_came a b t = record {
    frame = t.frame;
    window = t.window;
    come = λ k. (let whole = begins_behind (a.now.received k) (a.waiting k) (b.waiting k) (t.come k) in (whole.0, ap (λ (z : Side S). z.received k ++ b.waiting k) t.now ∙ whole.1));
    sound = λ h. sym t.spoilt ∙ h;
    more = [];
    story = t.story ∙ sym (append-nil a.story);
    made = λ _. t.made ∙ omega arith;
    replays = λ _. t.now;
  }
