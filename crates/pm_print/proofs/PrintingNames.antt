-- The names of rows.
use Rattle.std.proofs.Common.{◌≡◌, refl, arith, ℕ, zero, suc, ◌<◌, ◌≤◌, List, [], ◌∷◌, length, get_or}
use Rattle.pm_base.specs.Fits.{reg_names, sense_names}
use Rattle.pm_base.specs.declared.program.RegRow.{RegRow}
use Rattle.pm_base.specs.declared.program.SenseRow.{SenseRow}
use Rattle.pm_rules.specs.Spelling.{name_in}

pub reg_name-at : (rows : List RegRow) (k : ℕ) (row : RegRow) → k < length rows → row ≡ get_or rows k row →
    name_in (reg_names rows) k ≡ row.name
reg_name-at [] k d h e = absurd (omega arith)
reg_name-at (row ∷ rows) zero d h e = rw e refl
reg_name-at (row ∷ rows) (suc k) d h e = reg_name-at rows k d (omega arith) e

pub reg_name-past : (rows : List RegRow) (k : ℕ) → length rows ≤ k → name_in (reg_names rows) k ≡ []
reg_name-past [] k h = refl
reg_name-past (row ∷ rows) zero h = absurd (omega arith)
reg_name-past (row ∷ rows) (suc k) h = reg_name-past rows k (omega arith)

pub sense_name-at : (rows : List SenseRow) (k : ℕ) (row : SenseRow) → k < length rows → row ≡ get_or rows k row →
    name_in (sense_names rows) k ≡ row.name
sense_name-at [] k d h e = absurd (omega arith)
sense_name-at (row ∷ rows) zero d h e = rw e refl
sense_name-at (row ∷ rows) (suc k) d h e = sense_name-at rows k d (omega arith) e

pub sense_name-past : (rows : List SenseRow) (k : ℕ) → length rows ≤ k → name_in (sense_names rows) k ≡ []
sense_name-past [] k h = refl
sense_name-past (row ∷ rows) zero h = absurd (omega arith)
sense_name-past (row ∷ rows) (suc k) h = sense_name-past rows k (omega arith)

pub ruleset name_steps = (reg_name-at, reg_name-past, sense_name-at, sense_name-past)
