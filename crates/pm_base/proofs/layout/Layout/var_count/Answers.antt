use Rattle.std.proofs.Common.{◌≡◌, ◌-◌, length, slice_get, Some, None, arith, sym}
use Rattle.pm_base.proofs.Classes.{last_tells, no_last_tells, last_under}
use Rattle.pm_base.proofs.layout.Layout.var_count.Goals as goal

pub overflow_add-result : goal.overflow_add-result
overflow_add-result c =
    let classes = c.args.self.now.classes in
    let last : slice_get classes (length classes - 1) ≡ Some c.in-Some.row.now = sym (rw c.as_slice.ensures at c.in-Some.ensures.value) in
    let end = last_tells 0 classes c.in-Some.row.now c.requires.follow last in
    let under = last_under 0 classes c.requires.follow in
    omega (arith, end, under)

pub returns-in-Some : goal.returns-in-Some
returns-in-Some c =
    let classes = c.args.self.now.classes in
    let last : slice_get classes (length classes - 1) ≡ Some c.in-Some.row.now = sym (rw c.as_slice.ensures at c.in-Some.ensures.value) in
    let end = last_tells 0 classes c.in-Some.row.now c.requires.follow last in
    omega (arith, end)

pub returns-in-None : goal.returns-in-None
returns-in-None c =
    let classes = c.args.self.now.classes in
    let last : slice_get classes (length classes - 1) ≡ None = sym (rw c.as_slice.ensures at c.in-None.ensures.value) in
    no_last_tells classes last
